-- Loose files are emptied, and the list is committed without them: what is stored is kept.
use Rattle.std.proofs.Common.{◌≡◌, ◌≢◌, ◌⊎◌, inl, inr, ℕ, ◌+◌, ◌<◌, ◌≤◌, ◌^◌, zero, suc, false, List, [], ◌∷◌, ◌++◌, map, take, length, get_or, nat_eq, Some, None, Option, refl, sym, ◌∙◌, ap, subst, arith}
use Rattle.std.specs.List.{Contains, All, IsDistinct, AllByRecursion}
use Rattle.std.proofs.lemmas.Bool.{cases_eq}
use Rattle.std.proofs.lemmas.List.Elements.{All-contains, All-from_recursion, recursion_from_All, Contains-append_left, Contains-append_right, Contains-append_cases}
use Rattle.std.proofs.lemmas.List.{append-nil}
use Rattle.std.proofs.Common.{eq-eqb}
use Rattle.span_types.specs.declared.spans.Span.{Span}
use Rattle.disk_model.specs.Images.{Image, bytes_of, Besides, OnFile}
use Rattle.disk_model.specs.Bytes.{HalfCut}
use Rattle.disk_model.specs.Crash.{OnlyBytes, Within, LeavesOnly, Reached, Run}
use Rattle.disk_model.proofs.Runs.{run_more, run_on, run_same}
use Rattle.block_list.specs.Body.{MeetsRules, files_of, successor, text_of}
use Rattle.block_list.specs.Slots.{ImageHoldsList}
use Rattle.block_list.specs.Commit.{ImageHoldsEither, IsListText, WritesSlot}
use Rattle.block_list.specs.ListText.{ListText}
use Rattle.block_list.proofs.BodyLemmas.{few_blocks, few_loose, few_segments, length-text}
use Rattle.block_list.specs.Loading.{IsReady}
use Rattle.block_list.proofs.ReadyLemmas.{ready_besides}
use Rattle.block_list.proofs.SlotLemmas.{same_some}
use Rattle.block_list.specs.declared.body.BlockRef.{BlockRef}
use Rattle.block_list.specs.declared.body.SegmentRef.{SegmentRef}
use Rattle.block_list.specs.declared.body.ListBody.{ListBody}
use Rattle.store_model.specs.RowSets.{OnePlace}
use Rattle.store_model.specs.History.{History, count_of}
use Rattle.store_model.specs.State.{Block}
use Rattle.store_images.specs.Stored.{StoreHolds, ImageStores, ImageStandsFor, KeepsStored, ref_of, named_files, next_file_of, stored_rows, first_number, kept_rows}
use Rattle.store_images.specs.Stored.ImageStores.{vacant, filled}
use Rattle.store_images.proofs.Lists.{in_cons, not_in_nil, in_map}
use Rattle.store_images.proofs.Logs.{log_same}
use Rattle.store_images.proofs.Keeping.{slots_same, blocks_same, rules_in, given_out, one_list, keeps_same, keeps_then}
use Rattle.store_files.specs.Loose.{next_without, without_loose, list_after, used_files, AreUnused, OthersStay}

-- ---- loose files are neither segments nor blocks

differs : (a b : ℕ) → nat_eq a b ≡ false → a ≢ b
differs a b apart is = let e = eq-eqb a b is in cc

distinct_apart : (xs ys : List ℕ) (x y : ℕ) → IsDistinct nat_eq (xs ++ ys) → Contains xs x → Contains ys y → x ≢ y
unfolding IsDistinct
distinct_apart [] ys x y once c d = absurd (not_in_nil x c)
distinct_apart (z ∷ xs) ys x y once c d = elim (in_cons x z xs c) [
  | inl is ↦ subst (λ (n : ℕ). n ≢ y) is
      (differs z y (All-contains (λ (n : ℕ). nat_eq z n ≡ false) (xs ++ ys) y (All-from_recursion (λ (n : ℕ). nat_eq z n ≡ false) (xs ++ ys) once.0) (Contains-append_right xs ys y d)))
  | inr rest ↦ distinct_apart xs ys x y once.1 rest d
]

all_front : (P : ℕ → Type 0) (xs ys : List ℕ) → AllByRecursion P (xs ++ ys) → AllByRecursion P xs
all_front P [] ys all = tt
all_front P (x ∷ xs) ys all = (all.0, all_front P xs ys all.1)

pub distinct_front : (xs ys : List ℕ) → IsDistinct nat_eq (xs ++ ys) → IsDistinct nat_eq xs
unfolding IsDistinct
distinct_front [] ys once = tt
distinct_front (x ∷ xs) ys once = (all_front (λ (n : ℕ). nat_eq x n ≡ false) xs ys once.0, distinct_front xs ys once.1)

pub loose_apart : (body : ListBody) → MeetsRules body → (file other : ℕ) → Contains body.loose file → Contains (used_files body) other → other ≢ file
loose_apart body rules file other loose used = distinct_apart (used_files body) body.loose other file rules.once used loose

pub segment_used : (body : ListBody) (x : SegmentRef) → Contains body.segments x → Contains (used_files body) x.file
segment_used body x c = Contains-append_left (map (λ (y : SegmentRef). y.file) body.segments) _ x.file (in_map (λ (y : SegmentRef). y.file) body.segments x c)

pub block_used : (body : ListBody) (blocks : List Block) (b : Block) → body.blocks ≡ map ref_of blocks → Contains blocks b → Contains (used_files body) b.file
block_used body blocks b its c =
    Contains-append_right (map (λ (y : SegmentRef). y.file) body.segments) _ b.file (in_map (λ (y : BlockRef). y.file) body.blocks (ref_of b)
    (subst (λ (l : List BlockRef). Contains l (ref_of b)) (sym its) (in_map ref_of blocks b c)))

pub loose_named : (body : ListBody) (file : ℕ) → Contains body.loose file → Contains (files_of body) file
loose_named body file c = Contains-append_right (used_files body) body.loose file c

pub used_low : (body : ListBody) → MeetsRules body → (file : ℕ) → Contains (used_files body) file → 2 ≤ file
used_low body rules file c = (given_out body file rules (Contains-append_left (used_files body) body.loose file c)).0

-- ---- a list with the same segments and blocks

module _ (a b : Image) (body : ListBody) (generation next_file : ℕ) (loose : List ℕ) (same : (file : ℕ) → Contains (used_files body) file → bytes_of b file ≡ bytes_of a file)
    (listed : ImageHoldsList b (Some (record body { generation = generation; next_file = next_file; loose = loose }))) where
  store_moved : (blocks : List Block) (batches : List (List Span)) → StoreHolds a body blocks batches → StoreHolds b (record body { generation = generation; next_file = next_file; loose = loose }) blocks batches
  store_moved blocks batches s = record {
    listed = listed;
    its_blocks = s.its_blocks;
    built = blocks_same a b blocks (λ x c. same x.file (block_used body blocks x s.its_blocks c)) s.built;
    logged = log_same a b body.segments _ batches (λ x c. same x.file (segment_used body x c)) s.logged;
    floored = s.floored;
  }

  -- what stood for a history by this list does so by the other one
  pub stands_moved : ImageHoldsList a (Some body) → (h : History) → ImageStandsFor a h → ImageStandsFor b h
  stands_moved there h s = record { rows = s.rows; stores = moved s.rows (count_of h) s.stores; agrees = s.agrees }
    where
      moved : (rows : _) (count : ℕ) → ImageStores a rows count → ImageStores b rows count
      moved rows count (vacant holds no_rows no_count) = absurd (let bad : None ≡ Some body = one_list a None (Some body) holds there in cc)
      moved rows count (filled other blocks batches s one is counts) =
          let e : other ≡ body = same_some other body (one_list a (Some other) (Some body) s.listed there) in
          filled (record body { generation = generation; next_file = next_file; loose = loose }) blocks batches (store_moved blocks batches (subst (λ (o : ListBody). StoreHolds a o blocks batches) e s))
          (subst (λ (o : ListBody). OnePlace (stored_rows blocks (first_number o) batches)) e one)
          (is ∙ ap (λ (o : ListBody). kept_rows o blocks batches) e) (counts ∙ ap (λ (o : ListBody). first_number o + length batches) e)

-- ---- one file is emptied

cut_empty : (bytes : List ℕ) → HalfCut 0 [] bytes → bytes ≡ []
cut_empty [] cut = refl
cut_empty (x ∷ xs) cut = absurd (let most = cut.no_longer in omega (arith, most))

module _ (held : Image) (may_leave : Image → Type 0) (body : ListBody) (ready : IsReady held may_leave (Some body)) where
  pub ready_rules : MeetsRules body
  ready_rules = rules_in held body ready.stands

  in_slot : (origin : Image) → may_leave origin → (slot : ℕ) → slot < 2 → bytes_of origin slot ≡ bytes_of held slot
  in_slot origin possible slot below = elim (cases_eq slot 0) [
    | inl is ↦ subst (λ (n : ℕ). bytes_of origin n ≡ bytes_of held n) (sym is) (ready.slot_0 origin possible)
    | inr other ↦ subst (λ (n : ℕ). bytes_of origin n ≡ bytes_of held n) (omega (arith, below, other)) (ready.slot_1 origin possible)
  ]

  pub origin_holds : (origin : Image) → may_leave origin → ImageHoldsList origin (Some body)
  origin_holds origin possible = slots_same held origin (Some body) (in_slot origin possible) ready.stands

  pub loose_low : (file : ℕ) → Contains body.loose file → 2 ≤ file
  loose_low file c = (given_out body file ready_rules (loose_named body file c)).0

  -- a file changes that is neither a segment nor a block: the list names it as loose, or it stays empty where it was so
  changed_keeps : (file : ℕ) (step : List ℕ → List ℕ → Type 0) (origin image : Image) → 2 ≤ file → ((other : ℕ) → Contains (used_files body) other → other ≢ file) → may_leave origin → OnFile file step origin image
      → Contains body.loose file ⊎ (bytes_of origin file ≡ [] → bytes_of image file ≡ []) → KeepsStored origin image
  changed_keeps file step origin image low apart possible on either =
      let there = origin_holds origin possible in
      let here : ImageHoldsList image (Some body) = slots_same origin image (Some body) (λ slot below. on.besides slot (λ is. omega (arith, low, is, below))) there in
      record {
        stands = stands_moved origin image body body.generation body.next_file body.loose (λ other used. on.besides other (apart other used)) here there;
        only = stands_moved image origin body body.generation body.next_file body.loose (λ other used. sym (on.besides other (apart other used))) there here;
        tidy = λ t.
            let its : t.list ≡ Some body = one_list origin t.list (Some body) t.counts there in
            record {
              list = t.list;
              counts = subst (λ (l : Option ListBody). ImageHoldsList image l) (sym its) here;
              files = λ f first given. elim (cases_eq f file) [
                | inl is ↦ elim either [
                  | inl c ↦ inr (subst (λ (n : ℕ). Contains (named_files t.list) n) (sym is) (subst (λ (l : Option ListBody). Contains (named_files l) file) (sym its) (loose_named body file c)))
                  | inr still ↦ elim (t.files f first given) [
                    | inl empty ↦ inl (subst (λ (n : ℕ). bytes_of image n ≡ []) (sym is) (still (subst (λ (n : ℕ). bytes_of origin n ≡ []) is empty)))
                    | inr named ↦ inr named
                  ]
                ]
                | inr other ↦ elim (t.files f first given) [ inl empty ↦ inl (on.besides f other ∙ empty) | inr named ↦ inr named ]
              ];
            };
      }

  pub emptied_keeps : (file : ℕ) (step : List ℕ → List ℕ → Type 0) (origin image : Image) → Contains body.loose file → may_leave origin → OnFile file step origin image → KeepsStored origin image
  emptied_keeps file step origin image c possible on =
      changed_keeps file step origin image (loose_low file c) (λ other used. loose_apart body ready_rules file other c used) possible on (inl c)

  pub unused_keeps : (files : List ℕ) → AreUnused body files → (file : ℕ) (origin image : Image) → Contains files file → may_leave origin → OnFile file (HalfCut 0) origin image → KeepsStored origin image
  unused_keeps files unused file origin image c possible on =
      changed_keeps file (HalfCut 0) origin image (unused file c).0 (λ other used is. (unused file c).1 (subst (λ (n : ℕ). Contains (used_files body) n) is used)) possible on
      (inr (λ empty. cut_empty (bytes_of image file) (subst (λ (b : List ℕ). HalfCut 0 b (bytes_of image file)) empty on.changed)))

  -- ---- the list is committed without them

  module _ (emptied : (file : ℕ) → Contains body.loose file → OnlyBytes file [] may_leave) where
    pub committed_keeps : (slot : ℕ) (origin image : Image) → slot < 2 → may_leave origin → WritesSlot slot (ImageHoldsEither (Some body) (next_without body)) origin image → KeepsStored origin image
    committed_keeps slot origin image below possible writes =
        let there = origin_holds origin possible in
        let rules = ready_rules in
        let same : (file : ℕ) → 2 ≤ file → bytes_of image file ≡ bytes_of origin file = λ file low. writes.besides file (λ is. omega (arith, low, is, below)) in
        let used : (file : ℕ) → Contains (used_files body) file → bytes_of image file ≡ bytes_of origin file =
        λ file c. same file (given_out body file rules (Contains-append_left (used_files body) body.loose file c)).0 in
        record {
          stands = λ h s. elim writes.list [
            | inl old ↦ stands_moved origin image body body.generation body.next_file body.loose used old there h s
            | inr new ↦ stands_moved origin image body (successor body.generation) body.next_file [] used new there h s
          ];
          only = λ h s. elim writes.list [
            | inl old ↦ stands_moved image origin body body.generation body.next_file body.loose (λ file c. sym (used file c)) there old h s
            | inr new ↦ stands_moved image origin (next_without body) body.generation body.next_file body.loose (λ file c. sym (used file c)) there new h s
          ];
          tidy = λ t.
              let its : t.list ≡ Some body = one_list origin t.list (Some body) t.counts there in
              let files : (file : ℕ) → 2 ≤ file → file < body.next_file → (bytes_of origin file ≡ []) ⊎ Contains (files_of body) file =
              subst (λ (l : Option ListBody). (file : ℕ) → 2 ≤ file → file < next_file_of l → (bytes_of origin file ≡ []) ⊎ Contains (named_files l) file) its t.files in
              elim writes.list [
                | inl old ↦ record {
                  list = Some body;
                  counts = old;
                  files = λ file low given. elim (files file low given) [ inl empty ↦ inl (same file low ∙ empty) | inr named ↦ inr named ];
                }
                | inr new ↦ record {
                  list = Some (next_without body);
                  counts = new;
                  files = λ file low given. elim (files file low given) [
                    | inl empty ↦ inl (same file low ∙ empty)
                    | inr named ↦ elim (Contains-append_cases (used_files body) body.loose file named) [
                      | inl used ↦ inr (Contains-append_left (used_files body) [] file used)
                      | inr loose ↦ inl (same file low ∙ emptied file loose origin possible)
                    ]
                  ];
                }
              ];
        }

-- a list's loose files are unused
pub loose_unused : (body : ListBody) → MeetsRules body → AreUnused body body.loose
loose_unused body rules file c = ((given_out body file rules (loose_named body file c)).0, λ used. loose_apart body rules file file c used refl)

-- the next list meets the rules too
pub rules_without : (body : ListBody) → MeetsRules body → MeetsRules (next_without body)
rules_without body rules = record {
  generation = omega arith;
  next_file = rules.next_file;
  some_segment = rules.some_segment;
  files = subst (λ (l : List ℕ). All (λ file. (2 ≤ file) × (file < body.next_file)) l) (sym (append-nil (used_files body))) (All-front (λ file. (2 ≤ file) × (file < body.next_file)) (used_files body) body.loose rules.files);
  once = subst (λ (l : List ℕ). IsDistinct nat_eq l) (sym (append-nil (used_files body))) (distinct_front (used_files body) body.loose rules.once);
  order = rules.order;
  firsts = rules.firsts;
  from_floor = rules.from_floor;
  to_floor = rules.to_floor;
  levels = rules.levels;
  rows = rules.rows;
}
  where
    All-front : (P : ℕ → Type 0) (xs ys : List ℕ) → All P (xs ++ ys) → All P xs
    All-front P xs ys all = All-from_recursion P xs (all_front P xs ys (recursion_from_All P (xs ++ ys) all))

-- ---- the list that is left

pub left_as_is : (body : ListBody) → length body.loose ≡ 0 → body ≡ without_loose body
left_as_is body none = by_list body.loose none
  where
    by_list : (files : List ℕ) → length files ≡ 0 → body ≡ list_after files body
    by_list [] e = refl
    by_list (f ∷ fs) e = absurd (omega (arith, e))

pub left_without : (body : ListBody) → length body.loose ≢ 0 → next_without body ≡ without_loose body
left_without body some = by_list body.loose some
  where
    by_list : (files : List ℕ) → length files ≢ 0 → next_without body ≡ list_after files body
    by_list [] e = absurd (e refl)
    by_list (f ∷ fs) e = refl

-- ---- runs

module _ {D : Type 0} (moment : D → ℕ) (left_since : D → ℕ → Image → Type 0) (may_leave : D → Image → Type 0) where
  -- one more file is emptied
  pub emptied_then : (old mid new : D) (held later : Image) (body : ListBody) (files : List ℕ) → AreUnused body files → (file : ℕ) → Run KeepsStored moment left_since may_leave old mid
      → IsReady held (may_leave mid) (Some body) → Contains files file
      → LeavesOnly moment left_since mid new (Reached (OnFile file (HalfCut 0)) (may_leave mid)) → Within (Reached (OnFile file (HalfCut 0)) (may_leave mid)) (may_leave new) → Besides file held later
      → Run KeepsStored moment left_since may_leave old new × IsReady later (may_leave new) (Some body)
  emptied_then old mid new held later body files unused file first ready c since now besides = (
    run_on moment left_since may_leave KeepsStored old mid new keeps_then first
        (run_more moment left_since may_leave (OnFile file (HalfCut 0)) KeepsStored mid new (record { since = since; now = now }) (λ origin image possible on. unused_keeps held (may_leave mid) body ready files unused file origin image c possible on)),
    ready_besides file held later (may_leave mid) (may_leave new) (Some body) (unused file c).0 besides (λ image left. let r = now image left in (r.0, r.1, r.2.besides)) ready,
  )

  -- and the list is committed without them
  pub committed_then : (old mid new : D) (held : Image) (body : ListBody) (slot : ℕ) → Run KeepsStored moment left_since may_leave old mid → IsReady held (may_leave mid) (Some body)
      → ((file : ℕ) → Contains body.loose file → OnlyBytes file [] (may_leave mid)) → slot < 2
      → Run (WritesSlot slot (ImageHoldsEither (Some body) (next_without body))) moment left_since may_leave mid new → Run KeepsStored moment left_since may_leave old new
  committed_then old mid new held body slot first ready emptied below run =
      run_on moment left_since may_leave KeepsStored old mid new keeps_then first
      (run_more moment left_since may_leave (WritesSlot slot (ImageHoldsEither (Some body) (next_without body))) KeepsStored mid new run
      (λ origin image possible writes. committed_keeps held (may_leave mid) body ready emptied slot origin image below possible writes))

  pub nothing_done : (disk : D) → ((image : Image) → left_since disk (moment disk) image → may_leave disk image) → Run KeepsStored moment left_since may_leave disk disk
  nothing_done disk only_now = run_same moment left_since may_leave KeepsStored disk keeps_same only_now

-- ---- the other files

pub others_same : (changes : ℕ → Type 0) (held : Image) (before : Image → Type 0) → OthersStay changes held held before before
others_same changes held before = record { still = λ file low apart. refl; images = λ file known low apart only. only }

module _ (changes : ℕ → Type 0) (held mid later : Image) (before between after : Image → Type 0) (stay : OthersStay changes held mid before between) where
  pub others_emptied : (file : ℕ) (step : List ℕ → List ℕ → Type 0) → changes file → Besides file mid later → Within (Reached (OnFile file step) between) after → OthersStay changes held later before after
  others_emptied file step c besides follows = record {
    still = λ other low apart. besides other (differs_from other apart) ∙ stay.still other low apart;
    images = λ other known low apart only image left.
        let r = follows image left in
        r.2.besides other (differs_from other apart) ∙ stay.images other known low apart only r.0 r.1;
  }
    where
      differs_from : (other : ℕ) → (changes other → ⊥) → other ≢ file
      differs_from other apart is = apart (subst changes (sym is) c)

  pub others_committed : (slot : ℕ) (P : Image → Type 0) → slot < 2 → Besides slot mid later → Within (Reached (WritesSlot slot P) between) after → OthersStay changes held later before after
  others_committed slot P below besides follows = record {
    still = λ other low apart. besides other (λ is. omega (arith, is, low, below)) ∙ stay.still other low apart;
    images = λ other known low apart only image left.
        let r = follows image left in
        r.2.besides other (λ is. omega (arith, is, low, below)) ∙ stay.images other known low apart only r.0 r.1;
  }

-- ---- which files are empty

pub empty_now : (file : ℕ) (later : Image) (before : List ℕ) (after : Image → Type 0) → bytes_of later file ≡ take 0 before → OnlyBytes file (bytes_of later file) after → OnlyBytes file [] after
empty_now file later before after is only = λ image left. only image left ∙ is ∙ none before
  where
    none : (xs : List ℕ) → take 0 xs ≡ []
    none [] = refl
    none (x ∷ xs) = refl

pub emptied_more : (files : List ℕ) (n : ℕ) (step : List ℕ → List ℕ → Type 0) (between after : Image → Type 0) → ((k : ℕ) → k < n → OnlyBytes (get_or files k 0) [] between)
    → Within (Reached (OnFile (get_or files n 0) step) between) after → OnlyBytes (get_or files n 0) [] after
    → (k : ℕ) → k < n + 1 → OnlyBytes (get_or files k 0) [] after
emptied_more files n step between after early follows here k below = elim (cases_eq (get_or files k 0) (get_or files n 0)) [
  | inl is ↦ subst (λ (f : ℕ). OnlyBytes f [] after) (sym is) here
  | inr other ↦ λ image left. let r = follows image left in r.2.besides (get_or files k 0) other ∙ early k (less k below other) r.0 r.1
]
  where
    less : (k : ℕ) → k < n + 1 → get_or files k 0 ≢ get_or files n 0 → k < n
    less k below other = elim (cases_eq k n) [ inl is ↦ absurd (other (ap (λ (i : ℕ). get_or files i 0) is)) | inr apart ↦ omega (arith, below, apart) ]

pub emptied_all : (files : List ℕ) (images : Image → Type 0) → ((k : ℕ) → k < length files → OnlyBytes (get_or files k 0) [] images) → (file : ℕ) → Contains files file → OnlyBytes file [] images
emptied_all files images all file c = subst (λ (f : ℕ). OnlyBytes f [] images) (same_at files c.0 c.1 ∙ c.2) (all c.0 c.1)
  where
    same_at : (xs : List ℕ) (k : ℕ) → k < length xs → get_or xs k 0 ≡ get_or xs k file
    same_at [] k below = absurd (omega (arith, below))
    same_at (x ∷ xs) zero below = refl
    same_at (x ∷ xs) (suc k) below = same_at xs k (omega (arith, below))

-- ---- the list without them

-- the list that has the same segments, blocks and floor
abbrev pub renewed : ListBody → ℕ → ℕ → List ℕ → ListBody
renewed body generation next_file loose = record body { generation = generation; next_file = next_file; loose = loose }

-- the text of a list is short
pub text_short : (text : ListText) (body : ListBody) → IsListText text body → 1 + length text.text < 2 ^ 63
text_short text body is =
    let same : length text.text ≡ length (text_of body) = ap (λ (l : List ℕ). length l) is.text in
    let segments = few_segments body is.rules in
    let blocks = few_blocks body is.rules in
    let loose = few_loose body is.rules in
    omega (arith, same, length-text body, segments, blocks, loose)
