-- Bytes break first at one place, and still there after a vacant slot was cut to its first byte.
use Rattle.std.proofs.Common.{◌≡◌, inl, inr, ℕ, ◌+◌, ◌<◌, ◌≤◌, Bool, true, false, not, eqb, ltb, cond, ◌||◌, Option, Some, None, List, [], ◌∷◌, ◌++◌, length, get_or, Result, Ok, Err, refl, sym, ◌∙◌, ap, subst, arith, length-append}
use Rattle.std.specs.List.{Contains}
use Rattle.std.proofs.lemmas.Bool.{ne_eqb, lt-ltb}
use Rattle.std.proofs.lemmas.List.Elements.{Contains-append_left, Contains-append_right}
use Rattle.span_types.specs.declared.spans.Span.{Span}
use Rattle.disk_model.specs.Images.{Image, bytes_of}
use Rattle.byte_fields.specs.Reading.{◌>>=◌}
use Rattle.head_log.specs.Entries.{entries}
use Rattle.head_log.specs.Scanning.{segment_at}
use Rattle.head_log.specs.Stands.{SegmentHolds, SegmentKeeps}
use Rattle.head_log.proofs.AgainRecords.{segment_again, one_list}
use Rattle.block_list.specs.Slots.{IsVacant}
use Rattle.block_list.specs.Loading.{KeepsList, StaysOrClears}
use Rattle.block_list.specs.Reading.{is_vacant, slot_at, in_slot, generation_of, newer_of, slots_at}
use Rattle.block_list.specs.declared.body.BlockRef.{BlockRef}
use Rattle.block_list.specs.declared.body.SegmentRef.{SegmentRef}
use Rattle.block_list.specs.declared.body.ListBody.{ListBody}
use Rattle.block_list.proofs.LoadLemmas.{cut_stays_vacant}
use Rattle.block_read.specs.BlockReadings.{listed_at}
use Rattle.store_images.specs.Log.{LogHolds}
use Rattle.store_images.specs.Log.LogHolds.{ended, goes_on}
use Rattle.store_images.specs.Stored.{first_number}
use Rattle.store_images.proofs.Lists.{at_front, behind}
use Rattle.store_images.proofs.Logs.{log_same}
use Rattle.store_files.specs.BlockReading.{AreWhole, BlocksBreak, block_in}
use Rattle.store_files.specs.LogReading.{LogBreaks, SegmentBreaks}
use Rattle.store_files.specs.LogReading.SegmentBreaks.{malformed, astray}
use Rattle.store_core.specs.Opening.{ListBreaks, StoreBreaks}
use Rattle.store_core.specs.Opening.ListBreaks.{block, log}
use Rattle.store_core.specs.Opening.StoreBreaks.{slot, listed}
use Rattle.session_meaning.proofs.LowFiles.{IsLow, slots_low}

-- ---- slots

or_not : (a : Bool) → (a || true) ≡ true
or_not true = refl
or_not false = refl

is_vacant_of : (bytes : List ℕ) → IsVacant bytes → is_vacant bytes ≡ true
is_vacant_of bytes (inl short) = rw (lt-ltb (length bytes) 30 short) refl
is_vacant_of bytes (inr closed) = rw (ne_eqb (get_or bytes 0 0) 1 closed) (or_not (ltb (length bytes) 30))

vacant_again : (at : ℕ) (other : Option ℕ) (bytes : List ℕ) → IsVacant bytes → slot_at at other bytes ≡ Ok None
unfolding slot_at
vacant_again at other bytes vacant = rw (is_vacant_of bytes vacant) refl

slot_stays : (at : ℕ) (other : Option ℕ) (old new : List ℕ) → StaysOrClears old new → slot_at at other new ≡ slot_at at other old
slot_stays at other old new (inl same) = ap (slot_at at other) same
slot_stays at other old new (inr cut) = vacant_again at other new (cut_stays_vacant old new cut.0 cut.2) ∙ sym (vacant_again at other old cut.0)

slots_stay : (first second first_new second_new : List ℕ) → StaysOrClears first first_new → StaysOrClears second second_new → slots_at first_new second_new ≡ slots_at first second
unfolding slots_at
slots_stay first second first_new second_new one two =
    ap (λ (r : Result (Option ListBody) ℕ). in_slot 0 r >>= λ one. in_slot 1 (slot_at 1 (generation_of one) second_new) >>= λ two. Ok (newer_of one two)) (slot_stays 0 None first first_new one)
    ∙ after_one (in_slot 0 (slot_at 0 None first))
  where
    after_one : (r : Result (Option ListBody) (ℕ × ℕ)) → (r >>= λ one. in_slot 1 (slot_at 1 (generation_of one) second_new) >>= λ two. Ok (newer_of one two))
        ≡ (r >>= λ one. in_slot 1 (slot_at 1 (generation_of one) second) >>= λ two. Ok (newer_of one two))
    after_one (Ok one) = ap (λ (r : Result (Option ListBody) ℕ). in_slot 1 r >>= λ two. Ok (newer_of one two)) (slot_stays 1 (generation_of one) second second_new two)
    after_one (Err at) = refl

-- ---- what a list names

-- two images have the same bytes in these files
abbrev Alike : {X : Type 0} → (X → ℕ) → List X → Image → Image → Type 0
Alike {X} file_of xs old new = (x : X) → Contains xs x → bytes_of new (file_of x) ≡ bytes_of old (file_of x)

whole_stay : (old new : Image) (refs : List BlockRef) → Alike (λ (x : BlockRef). x.file) refs old new → AreWhole old refs → AreWhole new refs
whole_stay old new refs same whole = λ ref c. let w = whole ref c in (w.0, ap (listed_at ref.rows) (same ref c) ∙ w.1)

blocks_stay : (old new : Image) (refs : List BlockRef) (file at : ℕ) → Alike (λ (x : BlockRef). x.file) refs old new → BlocksBreak old refs file at → BlocksBreak new refs file at
blocks_stay old new refs file at same broken = record {
  front = broken.front;
  here = broken.here;
  behind = broken.behind;
  split = broken.split;
  whole = whole_stay old new broken.front (λ x c. same x (within x (Contains-append_left broken.front (broken.here ∷ broken.behind) x c))) broken.whole;
  its_file = broken.its_file;
  breaks = ap (listed_at broken.here.rows) (same broken.here (within broken.here (Contains-append_right broken.front (broken.here ∷ broken.behind) broken.here (at_front broken.here broken.behind)))) ∙ broken.breaks;
}
  where
    within : (x : BlockRef) → Contains (broken.front ++ broken.here ∷ broken.behind) x → Contains refs x
    within x c = subst (λ (l : List BlockRef). Contains l x) (sym broken.split) c

log_stays : (old new : Image) (segments : List SegmentRef) (first file at : ℕ) → Alike (λ (x : SegmentRef). x.file) segments old new → LogBreaks old segments first file at → LogBreaks new segments first file at
log_stays old new segments first file at same broken = record {
  front = broken.front;
  here = broken.here;
  behind = broken.behind;
  before = broken.before;
  split = broken.split;
  whole = log_same old new broken.front first broken.before (λ x c. same x (within x (Contains-append_left broken.front (broken.here ∷ broken.behind) x c))) broken.whole;
  leads = broken.leads;
  its_file = broken.its_file;
  breaks = subst (λ (bytes : List ℕ). SegmentBreaks broken.here broken.behind bytes at)
      (sym (same broken.here (within broken.here (Contains-append_right broken.front (broken.here ∷ broken.behind) broken.here (at_front broken.here broken.behind))))) broken.breaks;
}
  where
    within : (x : SegmentRef) → Contains (broken.front ++ broken.here ∷ broken.behind) x → Contains segments x
    within x c = subst (λ (l : List SegmentRef). Contains l x) (sym broken.split) c

list_stays : (old new : Image) (list : ListBody) (file at : ℕ) → Alike (λ (x : SegmentRef). x.file) list.segments old new → Alike (λ (x : BlockRef). x.file) list.blocks old new
    → ListBreaks old list file at → ListBreaks new list file at
list_stays old new list file at logs blocks (block broken) = block (blocks_stay old new list.blocks file at blocks broken)
list_stays old new list file at logs blocks (log whole broken) = log (whole_stay old new list.blocks blocks whole) (log_stays old new list.segments (first_number list) file at logs broken)

-- where an image breaks, one does that keeps its list
pub still_breaks : (old new : Image) (file at : ℕ) → KeepsList old new → StoreBreaks old file at → StoreBreaks new file at
still_breaks old new file at keeps broken = by_read (slots_stay (bytes_of old 0) (bytes_of old 1) (bytes_of new 0) (bytes_of new 1) (keeps.slots 0 (omega arith)) (keeps.slots 1 (omega arith))) broken
  where
    by_read : slots_at (bytes_of new 0) (bytes_of new 1) ≡ slots_at (bytes_of old 0) (bytes_of old 1) → StoreBreaks old file at → StoreBreaks new file at
    by_read same (slot is) = slot (same ∙ is)
    by_read same (listed list is broken) =
        let low = slots_low (bytes_of old 0) (bytes_of old 1) list is in
        listed list (same ∙ is) (list_stays old new list file at (λ x c. keeps.files x.file (low.0 x c)) (λ x c. keeps.files x.file (low.1 x c)) broken)

-- ---- one place

-- the first segment of a log, and the others
record IsFirst (image : Image) (x : SegmentRef) (rest : List SegmentRef) (first : ℕ) (batches : List (List Span)) : Type 0 where
  mine : List (List Span)
  later : List (List Span)
  all : batches ≡ mine ++ later
  number : x.first ≡ first
  keeps : SegmentKeeps first mine (bytes_of image x.file)
  more : LogHolds image rest (first + length mine) later

first_of : (image : Image) (x : SegmentRef) (rest : List SegmentRef) (first : ℕ) (batches : List (List Span)) → LogHolds image (x ∷ rest) first batches → IsFirst image x rest first batches
first_of image _ _ _ _ (goes_on {number} {segments} {rest} file mine keeps more) = record { mine = mine; later = rest; all = refl; number = refl; keeps = keeps; more = more }

none_left : (image : Image) (first : ℕ) (batches : List (List Span)) → LogHolds image [] first batches → batches ≡ []
none_left image _ _ ended = refl

same_head : {X : Type 0} (x y : X) (xs ys : List X) → x ∷ xs ≡ y ∷ ys → x ≡ y
same_head x y xs ys e = cc

same_tail : {X : Type 0} (x y : X) (xs ys : List X) → x ∷ xs ≡ y ∷ ys → xs ≡ ys
same_tail x y xs ys e = cc

same_err : {X : Type 0} (p q : ℕ × ℕ) → (let r : Result X (ℕ × ℕ) = Err p in let s : Result X (ℕ × ℕ) = Err q in r ≡ s) → p ≡ q
same_err p q e = cc

segment_one : (ref : SegmentRef) (rest : List SegmentRef) (bytes : List ℕ) (a b : ℕ) → SegmentBreaks ref rest bytes a → SegmentBreaks ref rest bytes b → a ≡ b
segment_one ref rest bytes a b (malformed one) (malformed two) = let both : Err a ≡ Err b = sym one ∙ two in cc
segment_one ref rest bytes a b (malformed one) (astray mine next more stands is apart) = absurd (let bad = sym one ∙ segment_again ref.first mine b bytes stands in cc)
segment_one ref rest bytes a b (astray mine next more stands is apart) (malformed two) = absurd (let bad = sym two ∙ segment_again ref.first mine a bytes stands in cc)
segment_one ref rest bytes a b (astray mine next more stands is apart) (astray other after others holds was off) = (one_list ref.first a b mine other bytes stands holds).1

module _ (image : Image) where
  -- a segment in front of another one doesn't break, if the segments up to that one stand for batches that lead to it
  no_earlier : (y : SegmentRef) (front : List SegmentRef) (here : SegmentRef) (rest : List SegmentRef) (first : ℕ) (before : List (List Span)) (at : ℕ) → LogHolds image (y ∷ front) first before
      → here.first ≡ first + length before → SegmentBreaks y (front ++ here ∷ rest) (bytes_of image y.file) at → ⊥
  no_earlier y front here rest first before at whole leads (malformed breaks) =
      let f = first_of image y front first before whole in
      let read = ap (λ (n : ℕ). segment_at n (bytes_of image y.file)) f.number ∙ segment_again first f.mine f.keeps.0 (bytes_of image y.file) f.keeps.1 in
      let bad : Err at ≡ Ok (entries first f.mine, record { whole = bytes_of image y.file; at = f.keeps.0 }) = sym breaks ∙ read in
      absurd cc
  no_earlier y [] here rest first before at whole leads (astray mine next more stands is apart) =
      let f = first_of image y [] first before whole in
      let same : mine ≡ f.mine = (one_list first at f.keeps.0 mine f.mine (bytes_of image y.file) (subst (λ (n : ℕ). SegmentHolds n mine at (bytes_of image y.file)) f.number stands) f.keeps.1).0 in
      let none : f.later ≡ [] = none_left image (first + length f.mine) f.later f.more in
      let which : here ≡ next = same_head here next rest more is in
      let number : here.first ≡ next.first = ap (λ (x : SegmentRef). x.first) which in
      let size : length before ≡ length f.mine + length f.later = ap length f.all ∙ length-append f.mine f.later in
      let nothing : length f.later ≡ 0 = ap length none in
      apart (omega (arith, leads, number, size, nothing, ap length same, f.number))
  no_earlier y (z ∷ front) here rest first before at whole leads (astray mine next more stands is apart) =
      let f = first_of image y (z ∷ front) first before whole in
      let same : mine ≡ f.mine = (one_list first at f.keeps.0 mine f.mine (bytes_of image y.file) (subst (λ (n : ℕ). SegmentHolds n mine at (bytes_of image y.file)) f.number stands) f.keeps.1).0 in
      let s = first_of image z front (first + length f.mine) f.later f.more in
      let which : z ≡ next = same_head z next (front ++ here ∷ rest) more is in
      let number : z.first ≡ next.first = ap (λ (x : SegmentRef). x.first) which in
      apart (omega (arith, number, s.number, ap length same, f.number))

  abbrev IsOne : SegmentRef → SegmentRef → ℕ → ℕ → Type 0
  IsOne here other a b = (here.file ≡ other.file) × (a ≡ b)

  segments_one : (front others : List SegmentRef) (here other : SegmentRef) (rest more : List SegmentRef) (first : ℕ) (before after : List (List Span)) (a b : ℕ)
      → front ++ here ∷ rest ≡ others ++ other ∷ more → LogHolds image front first before → LogHolds image others first after → here.first ≡ first + length before → other.first ≡ first + length after
      → SegmentBreaks here rest (bytes_of image here.file) a → SegmentBreaks other more (bytes_of image other.file) b → IsOne here other a b
  segments_one [] [] here other rest more first before after a b e whole holds leads goes one two =
      let which : here ≡ other = same_head here other rest more e in
      let left : rest ≡ more = same_tail here other rest more e in
      let mine : SegmentBreaks other more (bytes_of image other.file) a =
      subst (λ (l : List SegmentRef). SegmentBreaks other l (bytes_of image other.file) a) left (subst (λ (x : SegmentRef). SegmentBreaks x rest (bytes_of image x.file) a) which one) in
      (ap (λ (x : SegmentRef). x.file) which, segment_one other more (bytes_of image other.file) a b mine two)
  segments_one [] (y ∷ others) here other rest more first before after a b e whole holds leads goes one two =
      let which : here ≡ y = same_head here y rest (others ++ other ∷ more) e in
      let left : rest ≡ others ++ other ∷ more = same_tail here y rest (others ++ other ∷ more) e in
      let mine : SegmentBreaks y (others ++ other ∷ more) (bytes_of image y.file) a =
      subst (λ (l : List SegmentRef). SegmentBreaks y l (bytes_of image y.file) a) left (subst (λ (x : SegmentRef). SegmentBreaks x rest (bytes_of image x.file) a) which one) in
      absurd (no_earlier y others other more first after a holds goes mine)
  segments_one (x ∷ front) [] here other rest more first before after a b e whole holds leads goes one two =
      let which : other ≡ x = same_head other x more (front ++ here ∷ rest) (sym e) in
      let left : more ≡ front ++ here ∷ rest = same_tail other x more (front ++ here ∷ rest) (sym e) in
      let its : SegmentBreaks x (front ++ here ∷ rest) (bytes_of image x.file) b =
      subst (λ (l : List SegmentRef). SegmentBreaks x l (bytes_of image x.file) b) left (subst (λ (y : SegmentRef). SegmentBreaks y more (bytes_of image y.file) b) which two) in
      absurd (no_earlier x front here rest first before b whole leads its)
  segments_one (x ∷ front) (y ∷ others) here other rest more first before after a b e whole holds leads goes one two =
      let which : y ≡ x = sym (same_head x y (front ++ here ∷ rest) (others ++ other ∷ more) e) in
      let left : front ++ here ∷ rest ≡ others ++ other ∷ more = same_tail x y (front ++ here ∷ rest) (others ++ other ∷ more) e in
      let f = first_of image x front first before whole in
      let s = first_of image x others first after (subst (λ (z : SegmentRef). LogHolds image (z ∷ others) first after) which holds) in
      let same : s.mine ≡ f.mine = (one_list first s.keeps.0 f.keeps.0 s.mine f.mine (bytes_of image x.file) s.keeps.1 f.keeps.1).0 in
      let size : length before ≡ length f.mine + length f.later = ap length f.all ∙ length-append f.mine f.later in
      let long : length after ≡ length s.mine + length s.later = ap length s.all ∙ length-append s.mine s.later in
      segments_one front others here other rest more (first + length f.mine) f.later s.later a b left f.more
      (subst (λ (m : List (List Span)). LogHolds image others (first + length m) s.later) same s.more) (omega (arith, leads, size)) (omega (arith, goes, long, ap length same)) one two

  blocks_one : (front others : List BlockRef) (here other : BlockRef) (rest more : List BlockRef) (a b : ℕ) → front ++ here ∷ rest ≡ others ++ other ∷ more → AreWhole image front → AreWhole image others
      → block_in image here ≡ Err a → block_in image other ≡ Err b → (here.file ≡ other.file) × (a ≡ b)
  blocks_one [] [] here other rest more a b e whole built one two =
      let which : here ≡ other = same_head here other rest more e in
      let both : Err a ≡ Err b = sym one ∙ ap (block_in image) which ∙ two in
      (ap (λ (x : BlockRef). x.file) which, cc)
  blocks_one [] (y ∷ others) here other rest more a b e whole built one two =
      let which : here ≡ y = same_head here y rest (others ++ other ∷ more) e in
      let w = built y (at_front y others) in
      absurd (let bad : Err a ≡ Ok w.0 = sym one ∙ ap (block_in image) which ∙ w.1 in cc)
  blocks_one (x ∷ front) [] here other rest more a b e whole built one two =
      let which : other ≡ x = same_head other x more (front ++ here ∷ rest) (sym e) in
      let w = whole x (at_front x front) in
      absurd (let bad : Err b ≡ Ok w.0 = sym two ∙ ap (block_in image) which ∙ w.1 in cc)
  blocks_one (x ∷ front) (y ∷ others) here other rest more a b e whole built one two =
      blocks_one front others here other rest more a b (same_tail x y (front ++ here ∷ rest) (others ++ other ∷ more) e) (λ ref c. whole ref (behind ref x front c))
      (λ ref c. built ref (behind ref y others c)) one two

  whole_or_broken : (refs : List BlockRef) (file at : ℕ) → AreWhole image refs → BlocksBreak image refs file at → ⊥
  whole_or_broken refs file at whole broken =
      let w = whole broken.here (subst (λ (l : List BlockRef). Contains l broken.here) (sym broken.split) (Contains-append_right broken.front (broken.here ∷ broken.behind) broken.here (at_front broken.here broken.behind))) in
      absurd (let bad : Ok w.0 ≡ Err at = sym w.1 ∙ broken.breaks in cc)

  list_one : (list : ListBody) (f a g b : ℕ) → ListBreaks image list f a → ListBreaks image list g b → (f ≡ g) × (a ≡ b)
  list_one list f a g b (block one) (block two) =
      let both = blocks_one one.front two.front one.here two.here one.behind two.behind a b (sym one.split ∙ two.split) one.whole two.whole one.breaks two.breaks in
      (one.its_file ∙ both.0 ∙ sym two.its_file, both.1)
  list_one list f a g b (block one) (log whole two) = absurd (whole_or_broken list.blocks f a whole one)
  list_one list f a g b (log whole one) (block two) = absurd (whole_or_broken list.blocks g b whole two)
  list_one list f a g b (log whole one) (log built two) =
      let both = segments_one one.front two.front one.here two.here one.behind two.behind (first_number list) one.before two.before a b (sym one.split ∙ two.split) one.whole two.whole one.leads two.leads
      one.breaks two.breaks in
      (one.its_file ∙ both.0 ∙ sym two.its_file, both.1)

  -- an image breaks first at one place
  pub one_place : (f a g b : ℕ) → StoreBreaks image f a → StoreBreaks image g b → (f ≡ g) × (a ≡ b)
  one_place f a g b (slot one) (slot two) = let both = same_err {X = Option ListBody} (f, a) (g, b) (sym one ∙ two) in (ap (λ (p : ℕ × ℕ). p.0) both, ap (λ (p : ℕ × ℕ). p.1) both)
  one_place f a g b (slot one) (listed list is broken) = absurd (let bad = sym one ∙ is in cc)
  one_place f a g b (listed list is broken) (slot two) = absurd (let bad = sym two ∙ is in cc)
  one_place f a g b (listed list is broken) (listed other its also) =
      let both = sym its ∙ is in
      let which : other ≡ list = cc in
      list_one list f a g b broken (subst (λ (l : ListBody). ListBreaks image l g b) which also)
