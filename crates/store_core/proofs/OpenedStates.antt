-- What the core of an opened store stands for.
use Rattle.std.proofs.Common.{◌≡◌, ◌⊎◌, inl, inr, ℕ, ◌+◌, ◌-◌, ◌<◌, ◌≤◌, ◌==◌, zero, suc, true, false, List, [], ◌∷◌, ◌++◌, map, length, drop, nat_eq, slice_index_or, Some, None, Option, refl, sym, ◌∙◌, ap, subst, arith, eq-eqb, length-drop, if◌then◌else◌}
use Rattle.std.specs.List.{Contains, IsDistinct, AllByRecursion}
use Rattle.std.proofs.lemmas.List.{append-nil}
use Rattle.std.proofs.lemmas.List.Elements.{All-contains, Contains-append_cases, Contains-append_left, Contains-append_right}
use Rattle.span_types.specs.declared.spans.Span.{Span}
use Rattle.span_types.specs.declared.spans.Row.{Row}
use Rattle.span_types.specs.declared.ids.Key.{Key}
use Rattle.span_types.specs.First.{IsFirstOf, first_at}
use Rattle.span_types.proofs.FirstLaws.{first_at-firsts, firsts_alike}
use Rattle.disk_model.specs.Images.{Image}
use Rattle.block_list.specs.Body.{MeetsRules, files_of, successor}
use Rattle.block_list.specs.declared.body.BlockRef.{BlockRef}
use Rattle.block_list.specs.declared.body.SegmentRef.{SegmentRef}
use Rattle.block_list.specs.declared.body.ListBody.{ListBody}
use Rattle.store_entries.specs.declared.entry.Entry.{Entry}
use Rattle.store_model.specs.History.{History, batch_rows, record_rows, history_rows, count_of}
use Rattle.store_model.specs.State.{Block, segment_files, block_rows, block_files, live_rows}
use Rattle.store_model.specs.After.{arrived}
use Rattle.store_model.specs.RowSets.{OnePlace}
use Rattle.store_model.specs.Laws.{AgreesOn}
use Rattle.store_model.specs.Sound.{times, StateIsSound}
use Rattle.store_model.specs.Step.{Machine}
use Rattle.store_model.proofs.FirstsExist.{firsts_exist}
use Rattle.store_model.proofs.HistoryLaws.{position_of}
use Rattle.store_model.proofs.KeepsFirsts.{number_in}
use Rattle.store_model.proofs.Numbers.{same_number, times-append}
use Rattle.store_images.specs.Log.{LogHolds}
use Rattle.store_images.specs.Stored.{MayStandFor, SameFirsts, stored_rows, first_number, ref_of}
use Rattle.store_images.specs.Settled.{IsSettled}
use Rattle.store_images.proofs.Lists.{not_in_nil}
use Rattle.store_images.proofs.Storing.{settled_now, last_first}
use Rattle.store_core.specs.declared.state.CoreState.{CoreState}
use Rattle.store_files.specs.Pins.{is_taken, files_at}
use Rattle.store_core.specs.Cores.{HasState, StandsFor, segment_of}
use Rattle.store_files.specs.Described.{AreDescribed}
use Rattle.store_files.specs.LogReading.{tail_of, LogRead}
use Rattle.store_core.specs.InUse.{AreInUse}
use Rattle.store_core.specs.Waiting.{rows_outside, AreLogged}
use Rattle.store_files.specs.Loose.{without_loose, list_after, used_files}
use Rattle.store_core.specs.Opening.{opened_state, IsOpenedState}
use Rattle.store_files.proofs.LooseFiles.{distinct_front, rules_without}
use Rattle.store_files.proofs.ReadBlocks.{files_of_refs, same_block_files}
use Rattle.store_core.proofs.InUse.{used_listed}
use Rattle.store_files.proofs.LogLaws.{one_log}
use Rattle.store_core.proofs.NextLists.{NamesState}
use Rattle.store_files.proofs.LogSteps.{read_size}
use Rattle.store_core.proofs.Revived.{live_of_arrived}
use Rattle.store_core.specs.Jobs.{ShowsFlush, ShowsCompaction}
use Rattle.store_core.specs.declared.jobs.OpenFlush.{OpenFlush}
use Rattle.store_core.specs.declared.jobs.OpenCompaction.{OpenCompaction}
use Rattle.store_core.proofs.NoJobs.{no_commit_room, no_segment, none_fit}

-- ---- the list that is left has the same segments, blocks and numbers

pub without_by : (list : ListBody) (P : ListBody → Type 0) → ((generation : ℕ) (loose : List ℕ) → P (record list { generation = generation; loose = loose })) → P (without_loose list)
without_by list P each = by_list list.loose
  where
    by_list : (files : List ℕ) → P (list_after files list)
    by_list [] = each list.generation list.loose
    by_list (f ∷ fs) = each (successor list.generation) []

no_loose : (list : ListBody) → (without_loose list).loose ≡ []
no_loose list = by_list list.loose refl
  where
    by_list : (files : List ℕ) → list.loose ≡ files → (list_after files list).loose ≡ []
    by_list [] is = is
    by_list (f ∷ fs) is = refl

rules_after : (list : ListBody) → MeetsRules list → (files : List ℕ) → MeetsRules (list_after files list)
rules_after list rules [] = rules
rules_after list rules (f ∷ fs) = rules_without list rules

-- ---- rows of entries

entry_numbers : (n : ℕ) (batches : List (List Span)) (x : Row) → Contains (record_rows n batches) x → (n ≤ x.place.number) × (x.place.number < n + length batches)
entry_numbers n [] x c = absurd (not_in_nil x c)
entry_numbers n (b ∷ bs) x c = elim (Contains-append_cases (batch_rows n b) (record_rows (n + 1) bs) x c) [
  | inl here ↦ let e = number_in n b x here in (omega (arith, e), omega (arith, e))
  | inr later ↦ let e = entry_numbers (n + 1) bs x later in (omega (arith, e.0), omega (arith, e.1))
]

any_default : (xs : List Row) (i : ℕ) (d d' : Row) → i < length xs → slice_index_or xs i d ≡ slice_index_or xs i d'
any_default [] i d d' l = absurd (omega (arith, l))
any_default (z ∷ zs) zero d d' l = refl
any_default (z ∷ zs) (suc i) d d' l = any_default zs i d d' (omega (arith, l))

position_in : (n : ℕ) (spans : List Span) (x : Row) (h : Contains (batch_rows n spans) x) → x.place.position ≡ 0 + h.0
position_in n spans x h = ap (λ r. r.place.position) (sym h.2) ∙ position_of n 0 spans h.0 x h.1

one_in_batch : (n : ℕ) (spans : List Span) (x y : Row) → Contains (batch_rows n spans) x → Contains (batch_rows n spans) y → x.place ≡ y.place → x ≡ y
one_in_batch n spans x y hx hy e =
    let i : hx.0 ≡ hy.0 = omega (arith, position_in n spans x hx, position_in n spans y hy, ap (λ p. p.position) e) in
    sym hx.2 ∙ ap (λ k. slice_index_or (batch_rows n spans) k x) i ∙ any_default (batch_rows n spans) hy.0 x y hy.1 ∙ hy.2

pub entry_one : (n : ℕ) (batches : List (List Span)) → OnePlace (record_rows n batches)
entry_one n [] = λ x y hx hy e. absurd (not_in_nil x hx)
entry_one n (b ∷ bs) = λ x y hx hy e. by_case (entry_one (n + 1) bs) x y e (Contains-append_cases (batch_rows n b) (record_rows (n + 1) bs) x hx) (Contains-append_cases (batch_rows n b) (record_rows (n + 1) bs) y hy)
  where
    apart : (x y : Row) → x.place ≡ y.place → Contains (batch_rows n b) x → Contains (record_rows (n + 1) bs) y → ⊥
    apart x y e hx hy = let first = number_in n b x hx in let later = (entry_numbers (n + 1) bs y hy).0 in let same = ap (λ p. p.number) e in omega (arith, first, later, same)

    by_case : OnePlace (record_rows (n + 1) bs) → (x y : Row) → x.place ≡ y.place → Contains (batch_rows n b) x ⊎ Contains (record_rows (n + 1) bs) x → Contains (batch_rows n b) y ⊎ Contains (record_rows (n + 1) bs) y → x ≡ y
    by_case later x y e (inl hx) (inl hy) = one_in_batch n b x y hx hy e
    by_case later x y e (inl hx) (inr hy) = absurd (apart x y e hx hy)
    by_case later x y e (inr hx) (inl hy) = absurd (apart y x (sym e) hy hx)
    by_case later x y e (inr hx) (inr hy) = later x y hx hy e

-- the rows of later entries are among those of all
later_in : (n k : ℕ) (batches : List (List Span)) (x : Row) → Contains (record_rows (n + k) (drop k batches)) x → Contains (record_rows n batches) x
later_in n zero [] x c = absurd (not_in_nil x c)
later_in n zero (b ∷ bs) x c = subst (λ (m : ℕ). Contains (record_rows m (b ∷ bs)) x) (let e : n + 0 ≡ n = omega arith in e) c
later_in n (suc k) [] x c = absurd (not_in_nil x c)
later_in n (suc k) (b ∷ bs) x c =
    Contains-append_right (batch_rows n b) (record_rows (n + 1) bs) x
    (later_in (n + 1) k bs x (subst (λ (m : ℕ). Contains (record_rows m (drop k bs)) x) (let e : n + suc k ≡ n + 1 + k = omega arith in e) c))

-- the rows that wait
abbrev pub waiting_rows : ListBody → List (List Span) → List Row
waiting_rows list batches = record_rows list.floor (drop (list.floor - first_number list) batches)

-- the rows of the blocks, and those that wait
abbrev pub kept_rows : ListBody → List Block → List (List Span) → List Row
kept_rows list blocks batches = block_rows blocks ++ waiting_rows list batches

module _ (list : ListBody) (rules : MeetsRules list) (batches : List (List Span)) where
  waiting_in : (x : Row) → Contains (waiting_rows list batches) x → Contains (record_rows (first_number list) batches) x
  waiting_in x c =
      let low = rules.from_floor in
      later_in (first_number list) (list.floor - first_number list) batches x
      (subst (λ (m : ℕ). Contains (record_rows m (drop (list.floor - first_number list) batches)) x) (let e : list.floor ≡ first_number list + (list.floor - first_number list) = omega (arith, low) in e) c)

  -- those of blocks are stored too
  stored_in : (blocks : List Block) (x : Row) → Contains (kept_rows list blocks batches) x → Contains (stored_rows blocks (first_number list) batches) x
  stored_in blocks x c = elim (Contains-append_cases (block_rows blocks) (waiting_rows list batches) x c) [
    | inl built ↦ Contains-append_left (block_rows blocks) (record_rows (first_number list) batches) x built
    | inr waits ↦ Contains-append_right (block_rows blocks) (record_rows (first_number list) batches) x (waiting_in x waits)
  ]

  pub agrees_kept : (blocks : List Block) (h : History) → AgreesOn (stored_rows blocks (first_number list) batches) h
      → SameFirsts (stored_rows blocks (first_number list) batches) (stored_rows blocks list.floor (drop (list.floor - first_number list) batches))
      → AgreesOn (kept_rows list blocks batches) h
  agrees_kept blocks h agrees floored = record {
    firsts = λ k. sym (floored k) ∙ agrees.firsts k;
    one = λ x y hx hy e. agrees.one x y (stored_in blocks x hx) (stored_in blocks y hy) e;
    below = λ x hx. agrees.below x (stored_in blocks x hx);
  }

-- ---- the history that is there at first

-- the first occurrences of the rows that are kept
abbrev pub base_rows : ListBody → List Block → List (List Span) → List Row
base_rows list blocks batches = (firsts_exist (kept_rows list blocks batches)).0

-- it has them as its base, and as many entries as the log has
abbrev pub base_of : ListBody → List Block → List (List Span) → History
base_of list blocks batches = record { base = base_rows list blocks batches; start = first_number list + length batches; entries = [] }

-- First occurrences are their own.
pub firsts_own : (rows firsts : List Row) → IsFirstOf rows firsts → IsFirstOf firsts firsts
firsts_own rows firsts is = firsts_alike rows firsts firsts (λ k. sym (first_at-firsts rows firsts is k)) is

module _ (list : ListBody) (blocks : List Block) (batches : List (List Span)) where
  pub base_once : IsFirstOf (base_rows list blocks batches) (base_rows list blocks batches)
  base_once = let is = firsts_exist (kept_rows list blocks batches) in firsts_own (kept_rows list blocks batches) is.0 is.1

  same_base : (k : Key) → first_at k (kept_rows list blocks batches) ≡ first_at k (history_rows (base_of list blocks batches))
  same_base k =
      let is = firsts_exist (kept_rows list blocks batches) in
      sym (first_at-firsts (kept_rows list blocks batches) is.0 is.1 k)

  -- where the blocks have no rows
  pub agrees_base : first_number list ≤ list.floor → list.floor ≤ first_number list + length batches → block_rows blocks ≡ []
      → AgreesOn (kept_rows list blocks batches) (base_of list blocks batches)
  agrees_base low high none = record {
    firsts = same_base;
    one = subst (λ (r : List Row). OnePlace (r ++ waiting_rows list batches)) (sym none) (entry_one list.floor (drop (list.floor - first_number list) batches));
    below = λ x c.
        let number = (entry_numbers list.floor (drop (list.floor - first_number list) batches) x (subst (λ (r : List Row). Contains (r ++ waiting_rows list batches) x) none c)).1 in
        let rest = length-drop (list.floor - first_number list) batches in
        omega (arith, low, high, number, rest);
  }

  -- where they have the first occurrences of a history with as many entries
  pub agrees_again : (h : History) → AgreesOn (kept_rows list blocks batches) h → count_of h ≡ first_number list + length batches
      → AgreesOn (kept_rows list blocks batches) (base_of list blocks batches)
  agrees_again h agrees counts = record {
    firsts = same_base;
    one = agrees.one;
    below = λ x c. let number = agrees.below x c in omega (arith, number, counts);
  }

  -- It has the first occurrences of all rows of the blocks and of the log, where the records below the floor bring none.
  pub agrees_stored : (h : History) → AgreesOn (stored_rows blocks (first_number list) batches) h
      → SameFirsts (stored_rows blocks (first_number list) batches) (stored_rows blocks list.floor (drop (list.floor - first_number list) batches))
      → count_of h ≡ first_number list + length batches → AgreesOn (stored_rows blocks (first_number list) batches) (base_of list blocks batches)
  agrees_stored h agrees floored counts = record {
    firsts = λ k. floored k ∙ same_base k;
    one = agrees.one;
    below = λ x c. let number = agrees.below x c in omega (arith, number, counts);
  }

-- ---- files are told apart

times_absent : (x : ℕ) (xs : List ℕ) → AllByRecursion (λ (y : ℕ). nat_eq x y ≡ false) xs → times x xs ≡ 0
times_absent x [] all = refl
times_absent x (y ∷ ys) all = elim (y == x) as (λ t. (y == x) ≡ t → (if t then 1 else 0) + times x ys ≡ 0) [
  | true ↦ λ e. absurd (let is : x ≡ y = sym (same_number y x e) in let differs = eq-eqb x y is in let apart = all.0 in cc)
  | false ↦ λ e. omega (arith, times_absent x ys all.1)
] refl

pub times_distinct : (xs : List ℕ) → IsDistinct nat_eq xs → (n : ℕ) → times n xs ≤ 1
unfolding IsDistinct
times_distinct [] once n = omega arith
times_distinct (x ∷ xs) once n = elim (x == n) as (λ t. (x == n) ≡ t → (if t then 1 else 0) + times n xs ≤ 1) [
  | true ↦ λ e. let none : times n xs ≡ 0 = subst (λ (m : ℕ). times m xs ≡ 0) (same_number x n e) (times_absent x xs once.0) in omega (arith, none)
  | false ↦ λ e. omega (arith, times_distinct xs once.1 n)
] refl

times_below : (limit n : ℕ) (xs : List ℕ) → ((x : ℕ) → Contains xs x → x < limit) → limit ≤ n → times n xs ≡ 0
times_below limit n [] all above = refl
times_below limit n (x ∷ xs) all above = elim (x == n) as (λ t. (x == n) ≡ t → (if t then 1 else 0) + times n xs ≡ 0) [
  | true ↦ λ e. absurd (let less = all x (zero, omega arith, refl) in let is = same_number x n e in omega (arith, less, is, above))
  | false ↦ λ e. omega (arith, times_below limit n xs (λ y c. all y (suc c.0, omega (arith, c.1), c.2)) above)
] refl

times_under : (limit n : ℕ) (xs : List ℕ) → ((x : ℕ) → Contains xs x → limit ≤ x) → n < limit → times n xs ≡ 0
times_under limit n [] all under = refl
times_under limit n (x ∷ xs) all under = elim (x == n) as (λ t. (x == n) ≡ t → (if t then 1 else 0) + times n xs ≡ 0) [
  | true ↦ λ e. absurd (let more = all x (zero, omega arith, refl) in let is = same_number x n e in omega (arith, more, is, under))
  | false ↦ λ e. omega (arith, times_under limit n xs (λ y c. all y (suc c.0, omega (arith, c.1), c.2)) under)
] refl

-- there is a file, so the next one is the fourth at least
some_file : (limit : ℕ) (segments : List SegmentRef) → 0 < length segments
    → ((x : ℕ) → Contains (map (λ (segment : SegmentRef). segment.file) segments) x → (2 ≤ x) × (x < limit)) → 3 ≤ limit
some_file limit [] some all = absurd (omega (arith, some))
some_file limit (x ∷ xs) some all = let first = all x.file (zero, omega arith, refl) in omega (arith, first.0, first.1)

same_files : (segments : List SegmentRef) → segment_files (map segment_of segments) ≡ map (λ (segment : SegmentRef). segment.file) segments
same_files [] = refl
same_files (x ∷ xs) = ap (λ (l : List ℕ). x.file ∷ l) (same_files xs)

pub opened_sound : (list : ListBody) (blocks : List Block) (batches : List (List Span)) (moment : ℕ) → list.blocks ≡ map ref_of blocks → MeetsRules list
    → StateIsSound (opened_state list blocks batches moment)
opened_sound list blocks batches moment its rules =
    let logs : List ℕ = map (λ (segment : SegmentRef). segment.file) list.segments in
    let built : List ℕ = map (λ (ref : BlockRef). ref.file) list.blocks in
    let files : List ℕ = used_files list in
    let once : IsDistinct nat_eq files = distinct_front files list.loose rules.once in
    let given : (x : ℕ) → Contains files x → (2 ≤ x) × (x < list.next_file) =
    λ x c. All-contains (λ (file : ℕ). (2 ≤ file) × (file < list.next_file)) (files_of list) x rules.files (Contains-append_left files list.loose x c) in
    let low : (x : ℕ) → Contains files x → x < list.next_file = λ x c. (given x c).1 in
    let least = some_file list.next_file list.segments rules.some_segment (λ x c. given x (Contains-append_left logs built x c)) in
    let most = rules.next_file in
    let used : (file : ℕ) → times file (segment_files (map segment_of list.segments)) + times file (block_files blocks) ≡ times file files =
    λ file.
    let first = ap (times file) (same_files list.segments) in
    let second = ap (times file) (ap (map (λ (ref : BlockRef). ref.file)) its ∙ files_of_refs blocks) in
    let both = times-append file logs built in
    omega (arith, first, second, both) in
    record {
      files = record {
        slots = λ file slot. let none = times_under 2 file files (λ x c. (given x c).0) slot in let is = used file in omega (arith, none, is);
        first = omega (arith, least);
        new = λ file above. let none = times_below list.next_file file files low above in let is = used file in omega (arith, none, is);
        once = λ file. let one = times_distinct files once file in let is = used file in omega (arith, one, is);
        pinned = λ file some. absurd (omega (arith, some));
      };
      numbers = record { pins = λ n. omega arith; jobs = λ n. omega arith; new = λ n above. refl };
      fits = record { files = omega (arith, most); jobs = omega (arith, least) };
      joining = λ job is. absurd (let bad : None ≡ Some job = is in cc);
    }

-- ---- the machine

abbrev pub opened_machine : ListBody → List Block → List (List Span) → ℕ → History → Machine
opened_machine list blocks batches moment h = record { state = opened_state list blocks batches moment; history = h; read_only = None }

module _ (told : Type 0) (image : Image) (list : ListBody) (rules : MeetsRules list) (blocks : List Block) (its : list.blocks ≡ map ref_of blocks) (batches : List (List Span)) (core : CoreState)
    (read : LogRead told image list.segments (first_number list) batches (tail_of core.segment)) where
  pub low_floor : list.floor ≤ first_number list + length batches
  low_floor =
      let top = last_first list read.front (record { file = core.segment.file; first = core.segment.first }) rules read.last in
      let size = read_size told image list.segments (first_number list) batches (tail_of core.segment) read in
      let most = rules.to_floor in
      omega (arith, top, size, most)

  module _ (moment : ℕ) (state : IsOpenedState list batches moment core) (h : History) (agrees : AgreesOn (kept_rows list blocks batches) h) (counts : count_of h ≡ first_number list + length batches) where
    names : NamesState (without_loose list) (opened_state list blocks batches moment)
    names = record {
      blocks = without_by list (λ (l : ListBody). map ref_of blocks ≡ l.blocks) (λ generation loose. sym its);
      segments = without_by list (λ (l : ListBody). map segment_of list.segments ≡ map segment_of l.segments) (λ generation loose. refl);
      floor = without_by list (λ (l : ListBody). list.floor ≡ l.floor) (λ generation loose. refl);
      loose = sym (no_loose list);
      next_file = without_by list (λ (l : ListBody). list.next_file ≡ l.next_file) (λ generation loose. refl);
    }

    pub opened_has : HasState core (opened_machine list blocks batches moment h)
    opened_has = record {
      count = counts ∙ sym (read_size told image list.segments (first_number list) batches (tail_of core.segment) read);
      few = state.few;
      live = sym state.live;
      head = sym state.head;
      flushing = state.flushing;
      flush = subst (λ (k : Option OpenFlush). ShowsFlush k None) (sym state.jobs.flush) refl;
      compaction = subst (λ (k : Option OpenCompaction). ShowsCompaction k None) (sym state.jobs.compaction) refl;
      blocks = ap (λ (l : ListBody). l.blocks) state.listing ∙ without_by list (λ (l : ListBody). l.blocks ≡ map ref_of blocks) (λ generation loose. its);
      infos = same_block_files core.infos.items list.blocks blocks state.infos its;
      listed = state.infos ∙ sym (ap (λ (l : ListBody). l.blocks) state.listing ∙ without_by list (λ (l : ListBody). l.blocks ≡ list.blocks) (λ generation loose. refl));
      commit = λ free. no_commit_room core.jobs core.list core.infos state.jobs.flush state.jobs.compaction;
      rules = subst MeetsRules (sym state.listing) (rules_after list rules list.loose);
      segments = without_by list (λ (l : ListBody). map segment_of list.segments ≡ map segment_of l.segments) (λ generation loose. refl) ∙ sym (ap (λ (l : ListBody). map segment_of l.segments) state.listing);
      last = (read.front, ap (λ (l : ListBody). l.segments) state.listing ∙ without_by list (λ (l : ListBody). l.segments ≡ list.segments) (λ generation loose. refl) ∙ read.last);
      floor = without_by list (λ (l : ListBody). list.floor ≡ l.floor) (λ generation loose. refl) ∙ sym (ap (λ (l : ListBody). l.floor) state.listing);
      loose = sym state.jobs.loose;
      next_file = without_by list (λ (l : ListBody). list.next_file ≡ l.next_file) (λ generation loose. refl) ∙ sym (ap (λ (l : ListBody). l.next_file) state.listing) ∙ sym state.jobs.next_file_is;
      begun = sym state.jobs.begun;
      jobs = none_fit core.jobs core.list (let same = state.jobs.next_file_is in omega (arith, same)) state.jobs.flush state.jobs.compaction;
      used = subst (λ (l : ListBody). AreInUse l (opened_state list blocks batches moment)) (sym state.listing) (used_listed (without_loose list) (opened_state list blocks batches moment) names);
      pins = λ n. sym (ap (is_taken n) state.pins);
      pinned = λ n. sym (ap (files_at n) state.pins);
      read_only = sym state.writes;
    }

    -- the rows that wait stand in the log, where the list's segments still stand for these batches
    opened_logged : (held : Image) → LogHolds held list.segments (first_number list) batches → AreLogged held core.list (rows_outside (opened_state list blocks batches moment))
    opened_logged held logged =
        subst (λ (l : ListBody). AreLogged held l (rows_outside (opened_state list blocks batches moment))) (sym state.listing)
        (without_by list (λ (l : ListBody). AreLogged held l (rows_outside (opened_state list blocks batches moment)))
        (λ generation loose others holds x c.
        subst (λ (b : List (List Span)). Contains (record_rows (first_number list) b) x) (one_log held list.segments (first_number list) batches others logged holds)
        (waiting_in list rules batches x (subst (λ (r : List Row). Contains r x) (live_of_arrived moment (waiting_rows list batches)) c))))

    pub opened_stands : (told' : Type 0) (held : Image) (may_leave : Image → Type 0) → (told' → IsSettled held may_leave core.list blocks (tail_of core.segment) h)
        → (told' → AreDescribed held core.infos.items blocks) → (told' → LogHolds held list.segments (first_number list) batches) → StandsFor told' held may_leave core (opened_machine list blocks batches moment h)
    opened_stands told' held may_leave settled described logged =
        let rows : List Row = waiting_rows list batches in
        let lead : block_rows blocks ++ [] ++ [] ≡ block_rows blocks = append-nil (block_rows blocks ++ []) ∙ append-nil (block_rows blocks) in
        record {
          has = opened_has;
          agrees = subst (λ (r : List Row). AgreesOn (r ++ live_rows (arrived moment rows)) h) (sym lead) (subst (λ (r : List Row). AgreesOn (block_rows blocks ++ r) h) (sym (live_of_arrived moment rows)) agrees);
          sound = opened_sound list blocks batches moment its rules;
          above = record {
            waiting = λ row c. (entry_numbers list.floor (drop (list.floor - first_number list) batches) row (subst (λ (r : List Row). Contains r row) (live_of_arrived moment rows) c)).0;
            next = (let high = low_floor in omega (arith, high, counts));
          };
          built = described;
          now = λ t image left. subst (λ (u : Option Entry). MayStandFor h u image) (sym state.sure) (settled_now held may_leave core.list blocks (tail_of core.segment) h (settled t) image left);
          settled = λ t free. settled t;
          sure = λ free. state.sure;
          fresh = λ t free. no_segment held may_leave core.jobs state.jobs.flush;
          logged = λ t free. opened_logged held (logged t);
        }
