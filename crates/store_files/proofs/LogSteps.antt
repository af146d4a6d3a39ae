-- A log that is read one segment further.
use Rattle.std.proofs.Common.{◌≡◌, ◌≢◌, inl, inr, ℕ, ◌+◌, ◌<◌, ◌≤◌, zero, suc, Bool, true, false, IsTrue, List, [], ◌∷◌, ◌++◌, length, map, take, drop, get_or, Result, Err, refl, sym, ◌∙◌, ap, subst, arith, append_assoc, length-append}
use Rattle.std.specs.List.{Contains, All}
use Rattle.std.proofs.lemmas.List.{take_more}
use Rattle.std.proofs.lemmas.List.Elements.{Contains-append_cases, All-head, All-tail}
use Rattle.span_types.specs.declared.spans.Span.{Span}
use Rattle.disk_model.specs.Images.{Image, bytes_of, SameBytes}
use Rattle.disk_model.specs.Crash.{OnlyBytes, Within}
use Rattle.head_log.specs.Entries.{entries}
use Rattle.head_log.specs.Scanning.{segment_at}
use Rattle.head_log.specs.Stands.{SegmentHolds}
use Rattle.head_log.specs.declared.numbered.NumberedBatch.{NumberedBatch}
use Rattle.head_log.specs.declared.segment.Segment.{Segment}
use Rattle.head_log.specs.Outcomes.{IsAt}
use Rattle.head_log.proofs.EntryLemmas.{length-entries, entries-append}
use Rattle.block_list.specs.declared.body.SegmentRef.{SegmentRef}
use Rattle.block_list.specs.declared.body.ListBody.{ListBody}
use Rattle.store_images.specs.Log.LogHolds.{ended}
use Rattle.store_images.specs.Log.{LogHolds}
use Rattle.store_images.specs.Stored.{first_number}
use Rattle.store_images.specs.Settled.{Tail}
use Rattle.store_images.proofs.Logs.{log_same, log_with}
use Rattle.store_images.proofs.Lists.{in_cons, not_in_nil}
use Rattle.store_files.specs.LogReading.{tail_of, SegmentRead, LogRead, LogBreaks}
use Rattle.store_files.specs.declared.error.OpenError.{OpenError}
use Rattle.store_files.specs.declared.error.OpenError.TheVariants.{NotStore}
use Rattle.store_files.specs.LogReading.SegmentBreaks.{malformed, astray}

-- ---- a list and its first items

parted_at : {X : Type 0} (xs : List X) (n : ℕ) (d : X) → n < length xs → xs ≡ take n xs ++ get_or xs n d ∷ drop (suc n) xs
parted_at [] n d l = absurd (omega (arith, l))
parted_at (x ∷ xs) zero d l = refl
parted_at (x ∷ xs) (suc n) d l = ap (λ r. x ∷ r) (parted_at xs n d (omega (arith, l)))

pub parted : {X : Type 0} (xs : List X) (n : ℕ) (d : X) → n < length xs → xs ≡ take n xs ++ get_or xs n d ∷ drop (n + 1) xs
parted xs n d l = let one : suc n ≡ n + 1 = omega arith in parted_at xs n d l ∙ ap (λ (m : ℕ). take n xs ++ get_or xs n d ∷ drop m xs) one

-- ---- one segment more

-- what a scan tells, whether or not the disk tells its bytes
pub found_batches : (t : Bool) (found : List NumberedBatch) (first gate : ℕ) (bytes : List ℕ)
    → ((batches : List (List Span)) × (found ≡ entries first batches))
    → (IsTrue t → (batches : List (List Span)) × (found ≡ entries first batches) × SegmentHolds first batches gate bytes)
    → (batches : List (List Span)) × (found ≡ entries first batches) × (IsTrue t → SegmentHolds first batches gate bytes)
found_batches true found first gate bytes some here = let h = here refl in (h.0, h.1, λ _. h.2)
found_batches false found first gate bytes some here = (some.0, some.1, λ bad. absurd (let e : false ≡ true = bad in cc))

module _ (told : Type 0) (image : Image) where
  here_now : (x : SegmentRef) (mine : List (List Span)) (found : Segment) → SegmentRead told (bytes_of image x.file) x mine found → told → SegmentHolds found.first mine found.gate (bytes_of image found.file)
  here_now x mine found read t =
      subst (λ (n : ℕ). SegmentHolds n mine found.gate (bytes_of image found.file)) (sym read.first)
      (subst (λ (f : ℕ). SegmentHolds x.first mine found.gate (bytes_of image f)) (sym read.file) (read.holds t))

  pub read_one : (x : SegmentRef) (mine : List (List Span)) (found : Segment) → SegmentRead told (bytes_of image x.file) x mine found
      → LogRead told image (x ∷ []) x.first mine (tail_of found)
  read_one x mine found read = record {
    front = [];
    before = [];
    mine = mine;
    all = refl;
    last = ap (λ (f : ℕ). record { file = f; first = x.first } ∷ []) (sym read.file) ∙ ap (λ (n : ℕ). record { file = found.file; first = n } ∷ []) (sym read.first);
    counted = sym read.count;
    follows = (let is = read.first in omega (arith, is));
    earlier = λ t. ended;
    current = here_now x mine found read;
  }

  pub read_whole : (segments : List SegmentRef) (first : ℕ) (batches : List (List Span)) (tail : Tail) → LogRead told image segments first batches tail → told → LogHolds image segments first batches
  read_whole segments first batches tail read t =
      subst (λ (b : List (List Span)). LogHolds image segments first b) (sym read.all)
      (subst (λ (l : List SegmentRef). LogHolds image l first (read.before ++ read.mine)) (sym read.last)
      (log_with image read.front first read.before tail.file tail.first read.mine (read.earlier t) read.follows (tail.gate, read.current t)))

  pub read_size : (segments : List SegmentRef) (first : ℕ) (batches : List (List Span)) (tail : Tail) → LogRead told image segments first batches tail → tail.first + tail.count ≡ first + length batches
  read_size segments first batches tail read =
      let size = length-append read.before read.mine in
      let all = ap length read.all in
      let counted = read.counted in
      let follows = read.follows in
      omega (arith, size, all, counted, follows)

  pub read_on : (segments : List SegmentRef) (first : ℕ) (batches mine : List (List Span)) (tail : Tail) (x : SegmentRef) (found : Segment) → LogRead told image segments first batches tail
      → x.first ≡ tail.first + tail.count → SegmentRead told (bytes_of image x.file) x mine found → LogRead told image (segments ++ x ∷ []) first (batches ++ mine) (tail_of found)
  read_on segments first batches mine tail x found read leads more =
      let size = read_size segments first batches tail read in
      let is = more.first in
      record {
        front = segments;
        before = batches;
        mine = mine;
        all = refl;
        last = ap (λ (f : ℕ). segments ++ record { file = f; first = x.first } ∷ []) (sym more.file) ∙ ap (λ (n : ℕ). segments ++ record { file = found.file; first = n } ∷ []) (sym more.first);
        counted = sym more.count;
        follows = omega (arith, is, leads, size);
        earlier = λ t. read_whole segments first batches tail read t;
        current = here_now x mine found more;
      }

  -- the batches that were read, one segment further
  abbrev pub Reads : List SegmentRef → ℕ → List NumberedBatch → Tail → Type 0
  Reads segments first found tail = (batches : List (List Span)) × (found ≡ entries first batches) × LogRead told image segments first batches tail

  pub reads_one : (segments : List SegmentRef) (d : SegmentRef) (first : ℕ) (old found : List NumberedBatch) (last : Segment) → 0 < length segments → old ≡ [] → (get_or segments 0 d).first ≡ first
      → ((mine : List (List Span)) × (found ≡ old ++ entries (get_or segments 0 d).first mine) × SegmentRead told (bytes_of image (get_or segments 0 d).file) (get_or segments 0 d) mine last)
      → Reads (take 1 segments) first found (tail_of last)
  reads_one segments d first old found last some none is read = (
    read.0,
    read.1 ∙ ap (λ (l : List NumberedBatch). l ++ entries (get_or segments 0 d).first read.0) none ∙ ap (λ (n : ℕ). entries n read.0) is,
    subst (λ (n : ℕ). LogRead told image (take 1 segments) n read.0 (tail_of last)) is
        (subst (λ (l : List SegmentRef). LogRead told image l (get_or segments 0 d).first read.0 (tail_of last)) (sym (take_more segments 0 d some)) (read_one (get_or segments 0 d) read.0 last read.2)),
  )

  pub reads_on : (segments : List SegmentRef) (n : ℕ) (d : SegmentRef) (first : ℕ) (old found : List NumberedBatch) (tail : Tail) (last : Segment) → n < length segments
      → Reads (take n segments) first old tail → (get_or segments n d).first ≡ tail.first + tail.count
      → ((mine : List (List Span)) × (found ≡ old ++ entries (get_or segments n d).first mine) × SegmentRead told (bytes_of image (get_or segments n d).file) (get_or segments n d) mine last)
      → Reads (take (n + 1) segments) first found (tail_of last)
  reads_on segments n d first old found tail last inside reads leads read =
      let x = get_or segments n d in
      let size = read_size (take n segments) first reads.0 tail reads.2 in (
        reads.0 ++ read.0,
        read.1 ∙ ap (λ (l : List NumberedBatch). l ++ entries x.first read.0) reads.1 ∙ sym (entries-append first reads.0 read.0 ∙ ap (λ (k : ℕ). entries first reads.0 ++ entries k read.0) (sym (leads ∙ size))),
        subst (λ (l : List SegmentRef). LogRead told image l first (reads.0 ++ read.0) (tail_of last)) (sym (take_more segments n d inside))
            (read_on (take n segments) first reads.0 read.0 tail x last reads.2 leads read.2),
      )

  -- ---- where a segment breaks

  pub first_breaks : (segments : List SegmentRef) (d : SegmentRef) (file at : ℕ) → 0 < length segments → file ≡ (get_or segments 0 d).file
      → segment_at (get_or segments 0 d).first (bytes_of image (get_or segments 0 d).file) ≡ Err at → LogBreaks image segments (get_or segments 0 d).first file at
  first_breaks segments d file at some its breaks = record {
    front = [];
    here = get_or segments 0 d;
    behind = drop 1 segments;
    before = [];
    split = parted segments 0 d some;
    whole = ended;
    leads = omega arith;
    its_file = its;
    breaks = malformed breaks;
  }

  pub later_breaks : (segments : List SegmentRef) (n : ℕ) (d : SegmentRef) (first : ℕ) (batches : List (List Span)) (tail : Tail) (file at : ℕ) → n < length segments → told
      → LogRead told image (take n segments) first batches tail → (get_or segments n d).first ≡ tail.first + tail.count → file ≡ (get_or segments n d).file
      → segment_at (get_or segments n d).first (bytes_of image (get_or segments n d).file) ≡ Err at → LogBreaks image segments first file at
  later_breaks segments n d first batches tail file at inside t read leads its breaks = record {
    front = take n segments;
    here = get_or segments n d;
    behind = drop (n + 1) segments;
    before = batches;
    split = parted segments n d inside;
    whole = read_whole (take n segments) first batches tail read t;
    leads = leads ∙ read_size (take n segments) first batches tail read;
    its_file = its;
    breaks = malformed breaks;
  }

  pub astray_at : (segments : List SegmentRef) (n : ℕ) (d : SegmentRef) (first : ℕ) (batches : List (List Span)) (tail : Tail) → n < length segments → told
      → LogRead told image (take n segments) first batches tail → (get_or segments n d).first ≢ tail.first + tail.count → LogBreaks image segments first tail.file tail.gate
  astray_at segments n d first batches tail inside t read apart =
      let next = get_or segments n d in
      let rest = drop (n + 1) segments in
      let ref : SegmentRef = record { file = tail.file; first = tail.first } in
      let counted = read.counted in
      record {
        front = read.front;
        here = ref;
        behind = next ∷ rest;
        before = read.before;
        split = parted segments n d inside ∙ ap (λ (l : List SegmentRef). l ++ next ∷ rest) read.last ∙ append_assoc read.front (ref ∷ []) (next ∷ rest);
        whole = read.earlier t;
        leads = read.follows;
        its_file = refl;
        breaks = astray read.mine next rest (read.current t) refl (λ is. apart (omega (arith, is, counted)));
      }

-- ---- each file has one image

pub lie_on : {X : Type 0} (file_of : X → ℕ) (held : Image) (before after : Image → Type 0) (xs : List X) (n : ℕ) (d : X) → n < length xs → Within before after
    → ((x : X) → Contains (take n xs) x → OnlyBytes (file_of x) (bytes_of held (file_of x)) before)
    → OnlyBytes (file_of (get_or xs n d)) (bytes_of held (file_of (get_or xs n d))) after
    → (x : X) → Contains (take (n + 1) xs) x → OnlyBytes (file_of x) (bytes_of held (file_of x)) after
lie_on {X} file_of held before after xs n d inside within lie one x c =
    elim (Contains-append_cases (take n xs) (get_or xs n d ∷ []) x (subst (λ (l : List X). Contains l x) (take_more xs n d inside) c)) [
      | inl early ↦ λ image left. lie x early image (within image left)
      | inr here ↦ elim (in_cons x (get_or xs n d) [] here) [
        | inl is ↦ subst (λ (y : X). OnlyBytes (file_of y) (bytes_of held (file_of y)) after) is one
        | inr bad ↦ absurd (not_in_nil x bad)
      ]
    ]

-- ---- what one segment gives

few_of : (first : ℕ) (batches : List (List Span)) → first ≤ 4294967295 → All (λ (entry : NumberedBatch). entry.number < 4294967295) (entries first batches) → first + length batches ≤ 4294967295
few_of first [] low all = omega (arith, low)
few_of first (spans ∷ batches) low all =
    let here = All-head (λ (entry : NumberedBatch). entry.number < 4294967295) (record { number = first; batch = record { spans = spans } }) (entries (first + 1) batches) all in
    let rest = few_of (first + 1) batches (omega (arith, here)) (All-tail (λ (entry : NumberedBatch). entry.number < 4294967295) (record { number = first; batch = record { spans = spans } }) (entries (first + 1) batches) all) in
    omega (arith, rest)

pub read_of : (t : Bool) (bytes later : List ℕ) (ref : SegmentRef) (found : Segment) (old items new : List NumberedBatch) → ref.first ≤ 4294967295 → (IsTrue t → later ≡ bytes)
    → ((batches : List (List Span)) × (items ≡ entries ref.first batches))
    → (IsTrue t → (batches : List (List Span)) × (items ≡ entries ref.first batches) × SegmentHolds ref.first batches found.gate later)
    → IsAt found ref.file ref.first (length items) → All (λ (entry : NumberedBatch). entry.number < 4294967295) items → new ≡ old ++ items
    → (mine : List (List Span)) × (new ≡ old ++ entries ref.first mine) × SegmentRead (IsTrue t) bytes ref mine found
read_of t bytes later ref found old items new low same some here is below added =
    let f = found_batches t items ref.first found.gate later some here in
    let size : length items ≡ length f.0 = ap length f.1 ∙ length-entries ref.first f.0 in
    let most = few_of ref.first f.0 low (subst (λ (l : List NumberedBatch). All (λ (entry : NumberedBatch). entry.number < 4294967295) l) f.1 below) in (
      f.0,
      added ∙ ap (λ (l : List NumberedBatch). old ++ l) f.1,
      record {
        file = is.file_is;
        first = is.first_is;
        count = is.count_is ∙ size;
        few = (let a = is.first_is in let b = is.count_is in omega (arith, a, b, size, most));
        holds = λ told. subst (λ (b : List ℕ). SegmentHolds ref.first f.0 found.gate b) (same told) (f.2 told);
      },
    )

pub malformed_as : {X : Type 0} (r : Result X OpenError) (f a file at : ℕ) (ref : SegmentRef) (bytes later : List ℕ) → later ≡ bytes → r ≡ Err (NotStore f a) → r ≡ Err (NotStore file at)
    → (f ≡ ref.file) × (segment_at ref.first later ≡ Err a) → (file ≡ ref.file) × (segment_at ref.first bytes ≡ Err at)
malformed_as r f a file at ref bytes later same is other (its, breaks) =
    let one : f ≡ file = cc in
    let two : a ≡ at = cc in
    (sym one ∙ its, ap (segment_at ref.first) (sym same) ∙ breaks ∙ ap (λ (n : ℕ). Err n) two)

-- what the bytes of a later disk tell of an earlier one
pub read_before : (told later : Type 0) (bytes bytes' : List ℕ) (ref : SegmentRef) (mine : List (List Span)) (found : Segment) → (told → later) → (told → bytes' ≡ bytes)
    → SegmentRead later bytes' ref mine found → SegmentRead told bytes ref mine found
read_before told later bytes bytes' ref mine found known same read = record {
  file = read.file;
  first = read.first;
  count = read.count;
  few = read.few;
  holds = λ t. subst (λ (b : List ℕ). SegmentHolds ref.first mine found.gate b) (same t) (read.holds (known t));
}

pub log_read_before : (told later : Type 0) (held new : Image) (segments : List SegmentRef) (first : ℕ) (batches : List (List Span)) (tail : Tail) → (told → later) → (told → SameBytes held new)
    → LogRead later new segments first batches tail → LogRead told held segments first batches tail
log_read_before told later held new segments first batches tail known same read = record {
  front = read.front;
  before = read.before;
  mine = read.mine;
  all = read.all;
  last = read.last;
  counted = read.counted;
  follows = read.follows;
  earlier = λ t. log_same new held read.front first read.before (λ x c. sym (same t x.file)) (read.earlier (known t));
  current = λ t. subst (λ (b : List ℕ). SegmentHolds tail.first read.mine tail.gate b) (same t tail.file) (read.current (known t));
}

-- ---- errors that are handed on

pub passed_on : {X Y : Type 0} (r : Result X OpenError) (own given error : OpenError) → r ≡ Err own → own ≡ given → r ≡ Err error → ◌≡◌ {A = Result Y OpenError} (Err given) (Err error)
passed_on r own given error is same other = let e : given ≡ error = cc in ap (λ (x : OpenError). Err x) e

pub handed_on : {X Y : Type 0} (r : Result X OpenError) (given error : OpenError) → r ≡ Err given → r ≡ Err error → ◌≡◌ {A = Result Y OpenError} (Err given) (Err error)
handed_on r given error is other = let e : given ≡ error = cc in ap (λ (x : OpenError). Err x) e

pub breaks_as : {X : Type 0} (r : Result X OpenError) (image : Image) (segments : List SegmentRef) (first f g file at : ℕ) → r ≡ Err (NotStore f g) → r ≡ Err (NotStore file at)
    → LogBreaks image segments first f g → LogBreaks image segments first file at
breaks_as r image segments first f g file at is other broken =
    let one : f ≡ file = cc in
    let two : g ≡ at = cc in
    subst (λ (n : ℕ). LogBreaks image segments first n at) one (subst (λ (n : ℕ). LogBreaks image segments first f n) two broken)

-- ---- the first number of a list

pub first_is : (list : ListBody) (segments : List SegmentRef) (d : SegmentRef) → segments ≡ list.segments → 0 < length segments → (get_or segments 0 d).first ≡ first_number list
first_is list segments d is some = by_segments segments some ∙ ap (λ (l : List SegmentRef). get_or (map (λ (x : SegmentRef). x.first) l) 0 0) is
  where
    by_segments : (l : List SegmentRef) → 0 < length l → (get_or l 0 d).first ≡ get_or (map (λ (x : SegmentRef). x.first) l) 0 0
    by_segments [] some = absurd (omega (arith, some))
    by_segments (x ∷ xs) some = refl
