-- What upkeep leaves on the disk.
use Rattle.std.proofs.Common.{◌≡◌, ◌⊎◌, inl, inr, true, ℕ, ◌+◌, ◌-◌, ◌<◌, ◌≤◌, List, [], ◌∷◌, ◌++◌, drop, Option, Some, None, IsTrue, arith, refl, sym, ◌∙◌, ap, subst}
use Rattle.std.specs.List.{Contains}
use Rattle.std.proofs.lemmas.Bool.{cases_eq, cases_lt}
use Rattle.std.proofs.lemmas.List.Elements.{Contains-append_right}
use Rattle.span_types.specs.First.{first_at}
use Rattle.span_types.specs.Keys.{row_key}
use Rattle.span_types.specs.declared.spans.Row.{Row}
use Rattle.span_types.specs.declared.spans.Span.{Span}
use Rattle.span_types.proofs.FirstLaws.{has_first, key_of_first}
use Rattle.disk_model.specs.Images.{Image, bytes_of}
use Rattle.disk_model.specs.Crash.{LeavesOnly}
use Rattle.disk_model.specs.declared.disk.Device.{Ghosts}
use Rattle.disk_model.proofs.Moments.{joined, started}
use Rattle.block_list.specs.Loading.{IsReady, KeepsList}
use Rattle.block_list.specs.declared.body.ListBody.{ListBody}
use Rattle.store_model.specs.After.{arrived}
use Rattle.store_model.specs.History.{record_rows}
use Rattle.store_model.specs.Sound.{uses}
use Rattle.store_model.specs.State.{State, block_rows, live_rows, state_rows}
use Rattle.store_model.specs.Step.{Machine}
use Rattle.store_model.proofs.RowSetLaws.{first_is_in}
use Rattle.store_images.specs.Stored.{IsTidy, SameFirsts, first_number, named_files, next_file_of, stored_rows}
use Rattle.store_images.proofs.Between.{in_later, later_in}
use Rattle.store_images.proofs.Keeping.{block_named, blocks_same, given_out, one_list, rules_in, segment_named, slots_same}
use Rattle.store_images.proofs.Logs.{log_same}
use Rattle.store_core.specs.Cores.{CoreStandsFor}
use Rattle.store_core.specs.Opening.{BeginsAs, opened_state}
use Rattle.store_core.specs.Port.{port_of}
use Rattle.store_core.specs.declared.store.Core.{Core}
use Rattle.store_state.specs.Made.{AreMade, Call}
use Rattle.session_meaning.specs.Runs.{Outcome}
use Rattle.session_meaning.specs.Listed.{HaveKeyOf, ListsState, rows_from_floor}
use Rattle.session_meaning.specs.Stops.{AreTidy, BeginsListed, Recovers}

-- ---- what a core leaves

-- the slots of a disk that is ready have one image
slot_is : (held image : Image) (may_leave : Image → Type 0) (list : Option ListBody) → IsReady held may_leave list → may_leave image
    → (slot : ℕ) → slot < 2 → bytes_of image slot ≡ bytes_of held slot
slot_is held image may_leave list ready left slot below = elim (cases_eq slot 0) [
  | inl is ↦ subst (λ (n : ℕ). bytes_of image n ≡ bytes_of held n) (sym is) (ready.slot_0 image left)
  | inr other ↦ subst (λ (n : ℕ). bytes_of image n ≡ bytes_of held n) (omega (arith, below, other)) (ready.slot_1 image left)
]

-- ---- the log of a list

-- Of two lists of rows with the same first occurrences each has the keys of the other.
key_alike : (rows others : List Row) (row : Row) → SameFirsts rows others → Contains rows row → HaveKeyOf others row
key_alike rows others row same there = by_first (first_at (row_key row) others) refl
  where
    by_first : (o : Option Row) → first_at (row_key row) others ≡ o → HaveKeyOf others row
    by_first None e = absurd (has_first rows there.0 row there.1 (ap (λ (r : Row). first_at (row_key r) rows) there.2 ∙ (same (row_key row) ∙ e)))
    by_first (Some x) e = (x, first_is_in (row_key row) others x e, key_of_first (row_key row) others x e)

module _ (list : ListBody) (low : first_number list ≤ list.floor) (batches : List (List Span)) where
  own_floor : list.floor ≡ first_number list + (list.floor - first_number list)
  own_floor = omega (arith, low)

  -- The rows of a log from the floor on are those of its rows whose number isn't below it.
  below_floor : (x : Row) → Contains (rows_from_floor list batches) x → Contains (record_rows (first_number list) batches) x
  below_floor x there =
      later_in (first_number list) (list.floor - first_number list) batches x
      (subst (λ (n : ℕ). Contains (record_rows n (drop (list.floor - first_number list) batches)) x) own_floor there)

  above_floor : (x : Row) → Contains (record_rows (first_number list) batches) x → list.floor ≤ x.place.number → Contains (rows_from_floor list batches) x
  above_floor x there high =
      subst (λ (n : ℕ). Contains (record_rows n (drop (list.floor - first_number list) batches)) x) (sym own_floor)
      (in_later (first_number list) (list.floor - first_number list) batches x there (omega (arith, low, high)))

module _ {D : Type 0} (g : Ghosts D) where
  -- While a core writes, whatever its disk may leave lists the state.
  pub lists_state : (core : Core D) (m : Machine) → CoreStandsFor g core m → IsTrue (g.tells core.disk) → m.read_only ≡ None
      → (image : Image) → g.may_leave core.disk image → ListsState image m.state
  lists_state core m stands tells writes image left =
      let s = stands.stands in
      let list = core.state.list in
      let settled = s.settled tells (sym s.has.read_only ∙ writes) in
      let batches = settled.before ++ settled.mine in
      let low = s.has.rules.from_floor in
      let same : SameFirsts (stored_rows m.state.blocks (first_number list) batches) (state_rows m.state) = λ k. settled.agrees.firsts k ∙ sym (s.agrees.firsts k) in record {
        list = list;
        counts = slots_same (g.held core.disk) image (Some core.state.list)
            (slot_is (g.held core.disk) image (g.may_leave core.disk) (Some core.state.list) settled.lies.ready left) settled.holds.listed;
        blocks = s.has.blocks;
        built = blocks_same (g.held core.disk) image m.state.blocks (λ b c. settled.lies.built b c image left) settled.holds.built;
        segments = s.has.segments;
        floor = s.has.floor;
        used = s.has.used;
        given = subst (λ (n : ℕ). list.next_file ≤ n) (sym s.has.next_file) s.has.jobs.given;
        batches = batches;
        logged = log_same (g.held core.disk) image list.segments (first_number list) batches (λ x c. settled.lies.segments x c image left) settled.holds.logged;
        waits = λ x c. above_floor list low batches x (s.logged tells (sym s.has.read_only ∙ writes) batches settled.holds.logged x c)
            (subst (λ (n : ℕ). n ≤ x.place.number) s.has.floor (s.above.waiting x c));
        known = λ x c. key_alike (stored_rows m.state.blocks (first_number list) batches) (state_rows m.state) x same
            (Contains-append_right (block_rows m.state.blocks) (record_rows (first_number list) batches) x (below_floor list low batches x c));
      }

  module _ (counts_now : (disk : D) (start : ℕ) (image : Image) → start ≤ g.moment disk → g.may_leave disk image → g.left_since disk start image)
      (only_now : (disk : D) (image : Image) → g.left_since disk (g.moment disk) image → g.may_leave disk image) where
    -- Calls leave only tidy images where all were tidy.
    pub calls_tidy : (old new : Core D) (calls : List Call) → AreMade (port_of g) old calls new → (m : Machine) → CoreStandsFor g old m → IsTrue (g.tells old.disk)
        → AreTidy (g.may_leave old.disk) → LeavesOnly g.moment g.left_since old.disk new.disk IsTidy
    calls_tidy old new [] made m stands tells tidy =
        subst (λ (core : Core D). LeavesOnly g.moment g.left_since old.disk core.disk IsTidy) (sym made)
        (started g.moment g.left_since old.disk IsTidy (λ image left. tidy image (only_now old.disk image left)))
    calls_tidy old new (c ∷ cs) made m stands tells tidy =
        let did = made.1.did in
        let one = did.tidy tells m stands tidy in
        let next = did.stepped m stands in
        joined g.moment g.left_since old.disk made.0.disk new.disk IsTidy one
        (calls_tidy made.0 new cs made.2 next.machine next.stands (subst IsTrue (sym did.counts.telling) tells)
        (λ image left. one.each image (counts_now made.0.disk (g.moment old.disk) image one.later left)))

-- What keeps the list lists the state as before.
pub lists_kept : (old new : Image) (u : State) → KeepsList old new → ListsState old u → ListsState new u
lists_kept old new u keeps lists =
    let list = lists.list in
    let rules = rules_in old list lists.counts in record {
      list = list;
      counts = keeps.list (Some list) lists.counts;
      blocks = lists.blocks;
      built = blocks_same old new u.blocks (λ b c. keeps.files b.file (given_out list b.file rules (block_named list u.blocks b lists.blocks c)).0) lists.built;
      segments = lists.segments;
      floor = lists.floor;
      used = lists.used;
      given = lists.given;
      batches = lists.batches;
      logged = log_same old new list.segments (first_number list) lists.batches
          (λ x c. keeps.files x.file (given_out list x.file rules (segment_named list x c)).0) lists.logged;
      waits = lists.waits;
      known = lists.known;
    }

-- ---- where the next run begins

rows_arrived : (moment : ℕ) (rows : List Row) → live_rows (arrived moment rows) ≡ rows
rows_arrived moment [] = refl
rows_arrived moment (row ∷ rows) = ap (λ (more : List Row). row ∷ more) (rows_arrived moment rows)

pub begins_listed : (image : Image) (u : State) (moment : ℕ) (m : Machine) → ListsState image u → BeginsAs image moment m → BeginsListed image u moment m.state
begins_listed image u moment m lists begins =
    let is : m.state ≡ opened_state lists.list u.blocks lists.batches moment =
    begins.found lists.list u.blocks lists.batches lists.counts lists.blocks lists.built lists.logged in
    let next : m.state.next_file ≡ lists.list.next_file = ap (λ (s : State). s.next_file) is in
    let live : live_rows m.state.live ≡ rows_from_floor lists.list lists.batches =
    ap (λ (s : State). live_rows s.live) is ∙ rows_arrived moment (rows_from_floor lists.list lists.batches) in record {
      lists = lists;
      begins = is;
      blocks = ap (λ (s : State). s.blocks) is;
      segments = ap (λ (s : State). s.segments) is ∙ sym lists.segments;
      floor = ap (λ (s : State). s.floor) is ∙ sym lists.floor;
      next_file = next;
      given = subst (λ (n : ℕ). n ≤ u.next_file) (sym next) lists.given;
      waits = λ x c. subst (λ (rows : List Row). Contains rows x) (sym live) (lists.waits x c);
      known = λ x c. lists.known x (subst (λ (rows : List Row). Contains rows x) live c);
    }

-- A run on what an earlier one left.
pub next_listed : {D : Type 0} (g : Ghosts D) (begun left disk later : D) (one next : Outcome) → Recovers g begun left one → Recovers g disk later next
    → IsTrue one.opened → IsTrue next.opened → one.last.is_listed ≡ true → one.last.store.machine.read_only ≡ None → g.may_leave left (g.held disk)
    → BeginsListed (g.held disk) one.last.store.machine.state next.moment next.first.machine.state
next_listed g begun left disk later one next first second opened again is_listed writes possible =
    begins_listed (g.held disk) one.last.store.machine.state next.moment next.first.machine
    (first.kept_up opened is_listed writes (g.held disk) possible) (second.begins again).begins

-- ---- files without a use

-- In a tidy image that lists a state each file without a use in it is empty.
pub empty_or_used : (image : Image) (u : State) (file : ℕ) → ListsState image u → IsTidy image → 2 ≤ file → file < u.next_file
    → (bytes_of image file ≡ []) ⊎ (1 ≤ uses file u)
empty_or_used image u file lists tidy first given =
    let same : tidy.list ≡ Some lists.list = one_list image tidy.list (Some lists.list) tidy.counts lists.counts in
    elim (cases_lt file lists.list.next_file) [
      | inl early ↦ elim (tidy.files file first (subst (λ (l : Option ListBody). file < next_file_of l) (sym same) early)) [
        | inl empty ↦ inl empty
        | inr named ↦ inr (lists.used file (inl (subst (λ (l : Option ListBody). Contains (named_files l) file) same named)))
      ]
      | inr late ↦ inr (lists.used file (inr (omega (arith, late), given)))
    ]
