-- A store whose last segment has one record more.
use Rattle.std.proofs.Common.{◌≡◌, ◌≢◌, inl, inr, ℕ, ◌+◌, ◌-◌, ◌<◌, ◌≤◌, false, List, [], ◌∷◌, ◌++◌, map, length, drop, get_or, nat_eq, Some, refl, sym, ◌∙◌, ap, subst, arith, eq-eqb, append_assoc, length-append}
use Rattle.std.specs.List.{Contains, IsDistinct}
use Rattle.std.proofs.lemmas.List.{map-append, length-map}
use Rattle.std.proofs.Math.Seq.{get_or-append_seam}
use Rattle.std.proofs.lemmas.Bool.{cases_eq}
use Rattle.std.proofs.lemmas.List.Elements.{All-contains, All-from_recursion, Contains-push, Contains-append_left, Contains-append_right}
use Rattle.span_types.specs.declared.spans.Span.{Span}
use Rattle.span_types.specs.declared.spans.Row.{Row}
use Rattle.disk_model.specs.Images.{Image, bytes_of, Besides}
use Rattle.disk_model.specs.Crash.{OnlyBytes, Within, ButFor}
use Rattle.disk_model.proofs.Passing.{other_stays_run}
use Rattle.head_log.specs.Stands.{SegmentHolds, SegmentKeeps, SegmentKeepsEither}
use Rattle.block_list.specs.Body.{MeetsRules}
use Rattle.block_list.specs.Slots.{ImageHoldsList}
use Rattle.block_list.proofs.ReadyLemmas.{ready_besides}
use Rattle.block_list.specs.declared.body.BlockRef.{BlockRef}
use Rattle.block_list.specs.declared.body.SegmentRef.{SegmentRef}
use Rattle.block_list.specs.declared.body.ListBody.{ListBody}
use Rattle.store_images.proofs.Kept.{stands_with}
use Rattle.store_model.specs.History.{History, count_of, pushed, batch_rows, push_of}
use Rattle.store_model.specs.Laws.{AgreesOn}
use Rattle.store_model.specs.State.{Block}
use Rattle.store_images.specs.Log.{LogHolds}
use Rattle.store_images.specs.Stored.{StoreHolds, ImageStandsFor, MayStandFor, SameFirsts, IsTidy, stored_rows, first_number, ref_of, named_files}
use Rattle.store_images.specs.Settled.{Tail, IsTail, IsSettled}
use Rattle.store_images.proofs.Lists.{in_cons, not_in_nil, in_map, at_front}
use Rattle.store_images.proofs.Growing.{agrees_grown, count_of-pushed, stored_more, floored_more}
use Rattle.store_images.proofs.Logs.{log_same, log_with}
use Rattle.store_images.proofs.Keeping.{slots_same, blocks_same, rules_in, given_out, segment_named, one_list}

-- ---- the tail's file is no other's

differs : (a b : ℕ) → nat_eq a b ≡ false → a ≢ b
differs a b apart is = let e = eq-eqb a b is in cc

distinct_apart : (xs ys : List ℕ) (x y : ℕ) → IsDistinct nat_eq (xs ++ ys) → Contains xs x → Contains ys y → x ≢ y
unfolding IsDistinct
distinct_apart [] ys x y once c d = absurd (not_in_nil x c)
distinct_apart (z ∷ xs) ys x y once c d = elim (in_cons x z xs c) [
  | inl is ↦ subst (λ (n : ℕ). n ≢ y) is
      (differs z y (All-contains (λ (n : ℕ). nat_eq z n ≡ false) (xs ++ ys) y (All-from_recursion (λ (n : ℕ). nat_eq z n ≡ false) (xs ++ ys) once.0) (Contains-append_right xs ys y d)))
  | inr rest ↦ distinct_apart xs ys x y once.1 rest d
]

abbrev file_of : SegmentRef → ℕ
file_of x = x.file

abbrev block_files : ListBody → List ℕ
block_files body = map (λ (b : BlockRef). b.file) body.blocks

-- the files of a list whose last segment is this one
module _ (body : ListBody) (front : List SegmentRef) (last : SegmentRef) (rules : MeetsRules body) (is : body.segments ≡ front ++ last ∷ []) where
  once : IsDistinct nat_eq ((map file_of (front ++ last ∷ []) ++ block_files body) ++ body.loose)
  once = subst (λ (l : List SegmentRef). IsDistinct nat_eq ((map file_of l ++ block_files body) ++ body.loose)) is rules.once

  pub listed : Contains body.segments last
  listed = subst (λ (l : List SegmentRef). Contains l last) (sym is) (Contains-push front last)

  pub in_front : (x : SegmentRef) → Contains front x → Contains body.segments x
  in_front x c = subst (λ (l : List SegmentRef). Contains l x) (sym is) (Contains-append_left front (last ∷ []) x c)

  pub front_apart : (x : SegmentRef) → Contains front x → x.file ≢ last.file
  front_apart x c =
      let split : (map file_of (front ++ last ∷ []) ++ block_files body) ++ body.loose ≡ map file_of front ++ (last.file ∷ (block_files body ++ body.loose)) =
      ap (λ (l : List ℕ). (l ++ block_files body) ++ body.loose) (map-append file_of front (last ∷ []))
      ∙ append_assoc (map file_of front ++ last.file ∷ []) (block_files body) body.loose
      ∙ append_assoc (map file_of front) (last.file ∷ []) (block_files body ++ body.loose) in
      distinct_apart (map file_of front) (last.file ∷ (block_files body ++ body.loose)) x.file last.file (subst (λ (l : List ℕ). IsDistinct nat_eq l) split once) (in_map file_of front x c) (at_front last.file _)

  pub block_apart : (blocks : List Block) (b : Block) → body.blocks ≡ map ref_of blocks → Contains blocks b → b.file ≢ last.file
  block_apart blocks b its c same =
      let there : Contains (block_files body) b.file = in_map (λ (y : BlockRef). y.file) body.blocks (ref_of b) (subst (λ (l : List BlockRef). Contains l (ref_of b)) (sym its) (in_map ref_of blocks b c)) in
      let split = append_assoc (map file_of (front ++ last ∷ [])) (block_files body) body.loose in
      distinct_apart (map file_of (front ++ last ∷ [])) (block_files body ++ body.loose) last.file b.file (subst (λ (l : List ℕ). IsDistinct nat_eq l) split once)
      (in_map file_of (front ++ last ∷ []) last (Contains-push front last)) (Contains-append_left (block_files body) body.loose b.file there) (sym same)

  pub last_first : get_or (map (λ (x : SegmentRef). x.first) body.segments) (length body.segments - 1) 0 ≡ last.first
  last_first =
      let number : SegmentRef → ℕ = λ x. x.first in
      let size : length body.segments - 1 ≡ length (map number front) = (let a = ap length is in let b = length-append front (last ∷ []) in let c = length-map front number in omega (arith, a, b, c)) in
      subst (λ (k : ℕ). get_or (map number body.segments) k 0 ≡ last.first) (sym size)
      (subst (λ (l : List ℕ). get_or l (length (map number front)) 0 ≡ last.first) (sym (ap (map number) is ∙ map-append number front (last ∷ []))) (get_or-append_seam (map number front) last.first [] 0))

-- ---- an image with the same list, the same earlier segments and the same blocks

module _ (held image : Image) (body : ListBody) (blocks : List Block) (tail : Tail) (before mine : List (List Span))
    (holds : StoreHolds held body blocks (before ++ mine)) (written : IsTail held body tail before mine)
    (slots : (slot : ℕ) → slot < 2 → bytes_of image slot ≡ bytes_of held slot)
    (fronts : (x : SegmentRef) → Contains written.front x → bytes_of image x.file ≡ bytes_of held x.file)
    (built : (b : Block) → Contains blocks b → bytes_of image b.file ≡ bytes_of held b.file) where
  rules : MeetsRules body
  rules = rules_in held body holds.listed

  store_with : (now : List (List Span)) → SegmentKeeps tail.first now (bytes_of image tail.file)
      → SameFirsts (stored_rows blocks (first_number body) (before ++ now)) (stored_rows blocks body.floor (drop (body.floor - first_number body) (before ++ now)))
      → StoreHolds image body blocks (before ++ now)
  store_with now keeps floored = record {
    listed = slots_same held image (Some body) slots holds.listed;
    its_blocks = holds.its_blocks;
    built = blocks_same held image blocks built holds.built;
    logged = subst (λ (l : List SegmentRef). LogHolds image l (first_number body) (before ++ now)) (sym written.last)
        (log_with image written.front (first_number body) before tail.file tail.first now
        (log_same held image written.front (first_number body) before fronts written.earlier) written.follows keeps);
    floored = floored;
  }

  pub store_as_before : SegmentKeeps tail.first mine (bytes_of image tail.file) → StoreHolds image body blocks (before ++ mine)
  store_as_before keeps = store_with mine keeps holds.floored

  pub store_more : (spans : List Span) → SegmentKeeps tail.first (mine ++ spans ∷ []) (bytes_of image tail.file) → StoreHolds image body blocks (before ++ (mine ++ spans ∷ []))
  store_more spans keeps =
      let high : body.floor ≤ first_number body + length (before ++ mine) =
      (let top = last_first body written.front (record { file = tail.file; first = tail.first }) rules written.last in
      let size = length-append before mine in omega (arith, top, rules.to_floor, size, written.follows)) in
      store_with (mine ++ spans ∷ []) keeps
      (subst (λ (bs : List (List Span)). SameFirsts (stored_rows blocks (first_number body) bs) (stored_rows blocks body.floor (drop (body.floor - first_number body) bs)))
      (append_assoc before mine (spans ∷ []))
      (floored_more blocks (first_number body) body.floor (before ++ mine) spans rules.from_floor high holds.floored))

  module _ (h : History) (agrees : AgreesOn (stored_rows blocks (first_number body) (before ++ mine)) h) (counts : count_of h ≡ tail.first + tail.count) where
    pub whole : count_of h ≡ first_number body + length (before ++ mine)
    whole = let size = length-append before mine in omega (arith, size, written.follows, written.counted, counts)

    pub stands_as_before : SegmentKeeps tail.first mine (bytes_of image tail.file) → ImageStandsFor image h
    stands_as_before keeps = stands_with image body blocks (before ++ mine) h (store_as_before keeps) agrees whole

    pub agrees_more : (spans : List Span) → AgreesOn (stored_rows blocks (first_number body) (before ++ (mine ++ spans ∷ []))) (pushed h spans)
    agrees_more spans =
        let rows : stored_rows blocks (first_number body) (before ++ (mine ++ spans ∷ [])) ≡ stored_rows blocks (first_number body) (before ++ mine) ++ batch_rows (count_of h) spans =
        ap (stored_rows blocks (first_number body)) (sym (append_assoc before mine (spans ∷ [])))
        ∙ stored_more blocks (first_number body) (before ++ mine) spans
        ∙ ap (λ (n : ℕ). stored_rows blocks (first_number body) (before ++ mine) ++ batch_rows n spans) (sym whole) in
        subst (λ (r : List Row). AgreesOn r (pushed h spans)) (sym rows) (agrees_grown (stored_rows blocks (first_number body) (before ++ mine)) h spans agrees)

    pub stands_more : (spans : List Span) → SegmentKeeps tail.first (mine ++ spans ∷ []) (bytes_of image tail.file) → ImageStandsFor image (pushed h spans)
    stands_more spans keeps =
        let more : List (List Span) = spans ∷ [] in
        let size = length-append before (mine ++ more) in
        let own = length-append mine more in
        let old = length-append before mine in
        let grown = count_of-pushed h spans in
        stands_with image body blocks (before ++ (mine ++ spans ∷ [])) (pushed h spans) (store_more spans keeps) (agrees_more spans) (omega (arith, size, own, old, grown, whole))

-- ---- a settled disk

module _ (held : Image) (may_leave : Image → Type 0) (body : ListBody) (blocks : List Block) (tail : Tail) (h : History) (s : IsSettled held may_leave body blocks tail h) where
  abbrev ref : SegmentRef
  ref = record { file = tail.file; first = tail.first }

  pub its_rules : MeetsRules body
  its_rules = rules_in held body s.holds.listed

  pub its_file : 2 ≤ tail.file
  its_file = (given_out body tail.file its_rules (segment_named body ref (listed body s.written.front ref its_rules s.written.last))).0

  pub only_tail : OnlyBytes tail.file (bytes_of held tail.file) may_leave
  only_tail = s.lies.segments ref (listed body s.written.front ref its_rules s.written.last)

  -- an image that differs from one that might be left in the tail's file alone
  module _ (origin image : Image) (possible : may_leave origin) (besides : Besides tail.file origin image) where
    slots_here : (slot : ℕ) → slot < 2 → bytes_of image slot ≡ bytes_of held slot
    slots_here slot below = besides slot (let low = its_file in λ is. omega (arith, low, is, below)) ∙ in_slot slot below
      where
        in_slot : (slot : ℕ) → slot < 2 → bytes_of origin slot ≡ bytes_of held slot
        in_slot slot below = elim (cases_eq slot 0) [
          | inl is ↦ subst (λ (n : ℕ). bytes_of origin n ≡ bytes_of held n) (sym is) (s.lies.ready.slot_0 origin possible)
          | inr other ↦ subst (λ (n : ℕ). bytes_of origin n ≡ bytes_of held n) (omega (arith, below, other)) (s.lies.ready.slot_1 origin possible)
        ]

    fronts_here : (x : SegmentRef) → Contains s.written.front x → bytes_of image x.file ≡ bytes_of held x.file
    fronts_here x c =
        besides x.file (front_apart body s.written.front ref its_rules s.written.last x c)
        ∙ s.lies.segments x (in_front body s.written.front ref its_rules s.written.last x c) origin possible

    blocks_here : (b : Block) → Contains blocks b → bytes_of image b.file ≡ bytes_of held b.file
    blocks_here b c =
        besides b.file (block_apart body s.written.front ref its_rules s.written.last blocks b s.holds.its_blocks c)
        ∙ s.lies.built b c origin possible

    pub settled_as_before : SegmentKeeps tail.first s.mine (bytes_of image tail.file) → ImageStandsFor image h
    settled_as_before = stands_as_before held image body blocks tail s.before s.mine s.holds s.written slots_here fronts_here blocks_here h s.agrees s.counts

    pub settled_more : (spans : List Span) → SegmentKeeps tail.first (s.mine ++ spans ∷ []) (bytes_of image tail.file) → ImageStandsFor image (pushed h spans)
    settled_more = stands_more held image body blocks tail s.before s.mine s.holds s.written slots_here fronts_here blocks_here h s.agrees s.counts

    pub settled_tidy : IsTidy origin → IsTidy image
    settled_tidy t =
        let low = its_file in
        let here : ImageHoldsList image t.list = slots_same origin image t.list (λ slot below. besides slot (λ is. omega (arith, low, is, below))) t.counts in
        let its : t.list ≡ Some body = one_list image t.list (Some body) here (slots_same held image (Some body) slots_here s.holds.listed) in
        record {
          list = t.list;
          counts = here;
          files = λ file first given. elim (cases_eq file tail.file) [
            | inl is ↦ inr (subst (λ (f : ℕ). Contains (named_files t.list) f) (sym is)
                (subst (λ (l : _). Contains (named_files l) tail.file) (sym its) (segment_named body ref (listed body s.written.front ref its_rules s.written.last))))
            | inr other ↦ elim (t.files file first given) [ inl empty ↦ inl (besides file other ∙ empty) | inr named ↦ inr named ]
          ];
        }

  -- whatever is left now stands for the history
  pub settled_now : (image : Image) → may_leave image → ImageStandsFor image h
  settled_now image left = settled_as_before image image left (λ other apart. refl)
      (tail.gate, subst (λ (b : List ℕ). SegmentHolds tail.first s.mine tail.gate b) (sym (only_tail image left)) s.written.current)

  -- while a record is added
  pub settled_either : (spans : List Span) (image : Image) → ButFor tail.file (SegmentKeepsEither tail.first s.mine spans) may_leave image → MayStandFor h (Some (push_of spans)) image
  settled_either spans image b = elim b.here [
    | inl keeps ↦ inl (settled_as_before b.origin image b.possible b.besides keeps)
    | inr more ↦ inr (settled_more b.origin image b.possible b.besides spans more)
  ]

  -- once it was added
  pub settled_after : (spans : List Span) (later : Image) (may_later : Image → Type 0) (gate : ℕ) (P : List ℕ → Type 0)
      → Besides tail.file held later → Within (ButFor tail.file P may_leave) may_later → may_leave held
      → SegmentHolds tail.first (s.mine ++ spans ∷ []) gate (bytes_of later tail.file)
      → OnlyBytes tail.file (bytes_of later tail.file) may_later
      → IsSettled later may_later body blocks (record { file = tail.file; first = tail.first; count = tail.count + 1; gate = gate }) (pushed h spans)
  settled_after spans later may_later gate P besides within stays stands only =
      let more : List (List Span) = spans ∷ [] in
      let size = length-append s.mine more in
      let grown = count_of-pushed h spans in
      record {
        before = s.before;
        mine = s.mine ++ spans ∷ [];
        holds = store_more held later body blocks tail s.before s.mine s.holds s.written (slots_here held later stays besides) (fronts_here held later stays besides) (blocks_here held later stays besides) spans (gate, stands);
        written = record {
          front = s.written.front;
          last = s.written.last;
          earlier = log_same held later s.written.front (first_number body) s.before (fronts_here held later stays besides) s.written.earlier;
          current = stands;
          counted = (let c = s.written.counted in omega (arith, size, c));
          follows = s.written.follows;
        };
        lies = record {
          ready = ready_besides tail.file held later may_leave may_later (Some body) its_file besides (λ image left. let b = within image left in (b.origin, b.possible, b.besides)) s.lies.ready;
          segments = λ x c. lies_still x.file (s.lies.segments x c);
          built = λ b c. lies_still b.file (s.lies.built b c);
        };
        agrees = agrees_more held later body blocks tail s.before s.mine s.holds s.written (slots_here held later stays besides) (fronts_here held later stays besides) (blocks_here held later stays besides) h s.agrees s.counts spans;
        counts = (let c = s.counts in omega (arith, grown, c));
      }
    where
      lies_still : (file : ℕ) → OnlyBytes file (bytes_of held file) may_leave → OnlyBytes file (bytes_of later file) may_later
      lies_still file was = elim (cases_eq file tail.file) [
        | inl is ↦ subst (λ (f : ℕ). OnlyBytes f (bytes_of later f) may_later) (sym is) only
        | inr other ↦ subst (λ (b : List ℕ). OnlyBytes file b may_later) (sym (besides file other)) (other_stays_run tail.file file P (bytes_of held file) may_leave may_later other was within)
      ]
