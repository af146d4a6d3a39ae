-- Changes of files that the list which counts doesn't name yet.
use Rattle.std.proofs.Common.{◌≡◌, inl, inr, ℕ, ◌<◌, ◌≤◌, List, [], ◌∷◌, ◌++◌, length, Some, Option, Result, Ok, Err, OnOk, refl, sym, ◌∙◌, ap, subst, arith}
use Rattle.std.specs.List.{Contains}
use Rattle.std.proofs.lemmas.Bool.{cases_eq}
use Rattle.std.proofs.lemmas.List.Elements.{Contains-append_left, Contains-append_right}
use Rattle.disk_model.specs.Images.{Image, bytes_of, OnFile}
use Rattle.disk_model.specs.Crash.{OnlyBytes, Within, Reached, RunInFile, ButFor, Run}
use Rattle.disk_model.proofs.Moments.{widened}
use Rattle.head_log.specs.Stands.{SegmentHolds}
use Rattle.block_list.specs.Body.{MeetsRules, files_of}
use Rattle.block_list.specs.Slots.{ImageHoldsList}
use Rattle.block_list.specs.Loading.{IsReady, IsFree}
use Rattle.block_list.proofs.SlotLemmas.{same_some}
use Rattle.block_list.specs.declared.body.SegmentRef.{SegmentRef}
use Rattle.block_list.specs.declared.body.ListBody.{ListBody}
use Rattle.store_model.specs.History.{History}
use Rattle.store_model.specs.State.{Block}
use Rattle.store_images.specs.Stored.{KeepsStored, first_number, next_file_of}
use Rattle.store_images.specs.Settled.{Tail, IsSettled}
use Rattle.store_images.proofs.Lists.{at_front}
use Rattle.store_images.proofs.Logs.{log_same}
use Rattle.store_images.proofs.Keeping.{segment_named, block_named, rules_in, given_out, slots_same, store_same, stands_kept, one_list}
use Rattle.store_files.specs.Files.{SameBelow, IsEmptied}

-- a list names a file, so that the next one is above the slots
pub list_low : (body : ListBody) → MeetsRules body → 2 ≤ body.next_file
list_low body rules = by_segments body.segments refl
  where
    by_segments : (segments : List SegmentRef) → body.segments ≡ segments → 2 ≤ body.next_file
    by_segments [] none = absurd (let some = rules.some_segment in let size = ap (λ (l : List SegmentRef). length l) none in omega (arith, some, size))
    by_segments (x ∷ xs) is =
        let inside : Contains body.segments x = subst (λ (l : List SegmentRef). Contains l x) (sym is) (at_front x xs) in
        let given = given_out body x.file rules (segment_named body x inside) in
        omega (arith, given.0, given.1)

pub below_same : (limit : ℕ) (image : Image) → SameBelow limit image image
below_same limit image = λ file below. refl

pub below_then : (limit : ℕ) (a b c : Image) → SameBelow limit a b → SameBelow limit b c → SameBelow limit a c
below_then limit a b c first second = λ file below. second file below ∙ first file below

pub below_change : (limit file : ℕ) (step : List ℕ → List ℕ → Type 0) (a b : Image) → limit ≤ file → OnFile file step a b → SameBelow limit a b
below_change limit file step a b above change = λ other below. change.besides other (λ is. omega (arith, is, above, below))

pub below_in_file : {D : Type 0} (moment : D → ℕ) (left_since : D → ℕ → Image → Type 0) (may_leave : D → Image → Type 0) (limit file : ℕ) (P Q : List ℕ → Type 0) (old new : D) → limit ≤ file
    → RunInFile moment left_since may_leave file P Q old new → Run (SameBelow limit) moment left_since may_leave old new
below_in_file {D} moment left_since may_leave limit file P Q old new above run = record {
  since = widened moment left_since old new (ButFor file P (may_leave old)) (Reached (SameBelow limit) (may_leave old)) run.since (λ image b. back P image b);
  now = λ image left. back Q image (run.now image left);
}
  where
    back : (R : List ℕ → Type 0) (image : Image) → ButFor file R (may_leave old) image → Reached (SameBelow limit) (may_leave old) image
    back R image b = (b.origin, b.possible, λ other below. b.besides other (λ is. omega (arith, is, above, below)))

module _ (held : Image) (may_leave : Image → Type 0) (body : ListBody) (ready : IsReady held may_leave (Some body)) where
  rules : MeetsRules body
  rules = rules_in held body ready.stands

  low : 2 ≤ body.next_file
  low = list_low body rules

  in_slot : (origin : Image) → may_leave origin → (slot : ℕ) → slot < 2 → bytes_of origin slot ≡ bytes_of held slot
  in_slot origin possible slot below = elim (cases_eq slot 0) [
    | inl is ↦ subst (λ (n : ℕ). bytes_of origin n ≡ bytes_of held n) (sym is) (ready.slot_0 origin possible)
    | inr other ↦ subst (λ (n : ℕ). bytes_of origin n ≡ bytes_of held n) (omega (arith, below, other)) (ready.slot_1 origin possible)
  ]

  -- an image in which only such files differ from one that might be left
  module _ (origin image : Image) (possible : may_leave origin) (same : SameBelow body.next_file origin image) where
    there : ImageHoldsList origin (Some body)
    there = slots_same held origin (Some body) (in_slot origin possible) ready.stands

    slot_same : (slot : ℕ) → slot < 2 → bytes_of image slot ≡ bytes_of origin slot
    slot_same slot below = let least = low in same slot (omega (arith, below, least))

    lists : (list : Option ListBody) → ImageHoldsList origin list → ImageHoldsList image list
    lists list = slots_same origin image list slot_same

    back : (list : Option ListBody) → ImageHoldsList image list → ImageHoldsList origin list
    back list = slots_same image origin list (λ slot below. sym (slot_same slot below))

    named : (list : ListBody) → ImageHoldsList origin (Some list) → (file : ℕ) → Contains (files_of list) file → bytes_of image file ≡ bytes_of origin file
    named list holds file inside =
        let e : list ≡ body = same_some list body (one_list origin (Some list) (Some body) holds there) in
        same file (given_out body file rules (subst (λ (o : ListBody). Contains (files_of o) file) e inside)).1

    pub keeps_below : KeepsStored origin image
    keeps_below = record {
      stands = stands_kept origin image lists named;
      only = stands_kept image origin back (λ list holds file inside. sym (named list (back (Some list) holds) file inside));
      tidy = λ t.
          let e : t.list ≡ Some body = one_list origin t.list (Some body) t.counts there in
          record {
            list = t.list;
            counts = lists t.list t.counts;
            files = λ file first given. elim (t.files file first given) [
              | inl empty ↦ inl (same file (subst (λ (l : Option ListBody). file < next_file_of l) e given) ∙ empty)
              | inr named ↦ inr named
            ];
          };
    }

  -- and a disk that may leave such images alone
  module _ (later : Image) (may_later : Image → Type 0) (same : SameBelow body.next_file held later) (within : Within (Reached (SameBelow body.next_file) may_leave) may_later) where
    pub still_only : (file : ℕ) → file < body.next_file → OnlyBytes file (bytes_of held file) may_leave → OnlyBytes file (bytes_of later file) may_later
    still_only file below only = λ image left. let r = within image left in r.2 file below ∙ only r.0 r.1 ∙ sym (same file below)

    in_list : (file : ℕ) → Contains (files_of body) file → file < body.next_file
    in_list file inside = (given_out body file rules inside).1

    pub ready_below : IsReady later may_later (Some body)
    ready_below =
        let least = low in
        record {
          stands = slots_same held later (Some body) (λ slot below. same slot (omega (arith, below, least))) ready.stands;
          slot_0 = still_only 0 (omega (arith, least)) ready.slot_0;
          slot_1 = still_only 1 (omega (arith, least)) ready.slot_1;
          free_0 = subst IsFree (sym (same 0 (omega (arith, least)))) ready.free_0;
          free_1 = subst IsFree (sym (same 1 (omega (arith, least)))) ready.free_1;
        }

    pub settled_below : (blocks : List Block) (tail : Tail) (h : History) → IsSettled held may_leave body blocks tail h → IsSettled later may_later body blocks tail h
    settled_below blocks tail h s =
        let named : (file : ℕ) → Contains (files_of body) file → bytes_of later file ≡ bytes_of held file = λ file inside. same file (in_list file inside) in
        let last : SegmentRef = record { file = tail.file; first = tail.first } in
        let at_tail : Contains body.segments last = subst (λ (l : List SegmentRef). Contains l last) (sym s.written.last) (Contains-append_right s.written.front (last ∷ []) last (at_front last [])) in
        record {
          before = s.before;
          mine = s.mine;
          holds = store_same held later body blocks (s.before ++ s.mine) ready_below.stands named s.holds;
          written = record {
            front = s.written.front;
            last = s.written.last;
            earlier = log_same held later s.written.front (first_number body) s.before
                (λ x c. named x.file (segment_named body x (subst (λ (l : List SegmentRef). Contains l x) (sym s.written.last) (Contains-append_left s.written.front (last ∷ []) x c)))) s.written.earlier;
            current = subst (λ (b : List ℕ). SegmentHolds tail.first s.mine tail.gate b) (sym (named tail.file (segment_named body last at_tail))) s.written.current;
            counted = s.written.counted;
            follows = s.written.follows;
          };
          lies = record {
            ready = ready_below;
            segments = λ x c. still_only x.file (in_list x.file (segment_named body x c)) (s.lies.segments x c);
            built = λ b c. still_only b.file (in_list b.file (block_named body blocks b s.holds.its_blocks c)) (s.lies.built b c);
          };
          agrees = s.agrees;
          counts = s.counts;
        }

-- a file that was cut at its start, where the cut lasts
pub emptied : (held : Image) (may_leave : Image → Type 0) (file : ℕ) → bytes_of held file ≡ [] → OnlyBytes file (bytes_of held file) may_leave → IsEmptied held may_leave file
emptied held may_leave file is only = (is, subst (λ (bytes : List ℕ). OnlyBytes file bytes may_leave) is only)

-- ---- answers

pub ok_anyway : {T E : Type 0} (r : Result T E) (P : Type 0) → P → OnOk r P
ok_anyway (Ok x) P p = p
ok_anyway (Err e) P p = tt

pub ok_each : {T E : Type 0} (r : Result T E) (P : ℕ → Type 0) (Q : Type 0) → ((n : ℕ) → OnOk r (P n × Q)) → OnOk r (((n : ℕ) → P n) × Q)
ok_each (Ok x) P Q each = (λ n. (each n).0, (each 0).1)
ok_each (Err e) P Q each = tt

pub ok_then : {T E : Type 0} (r : Result T E) (P Q : Type 0) → (P → Q) → OnOk r P → OnOk r Q
ok_then (Ok x) P Q more p = more p
ok_then (Err e) P Q more p = tt
