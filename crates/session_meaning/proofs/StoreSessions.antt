-- What is done over a store that is open or closed is what a session means.
use Rattle.std.specs.Prelude.{⊤}
use Rattle.std.proofs.Common.{arith, ◌≡◌, ◌≢◌, inl, inr, ℕ, ◌≤◌, Bool, true, false, not, ◌&&◌, List, [], ◌∷◌, ◌++◌, Option, None, Some, Result, Ok, Err, IsTrue, map, refl, sym, ◌∙◌, ap, subst}
use Rattle.disk_model.specs.Counts.{Raised}
use Rattle.disk_model.specs.Crash.{LeavesOnly, Reached}
use Rattle.disk_model.specs.Images.{Image}
use Rattle.disk_model.proofs.Moments.{joined, started, widened}
use Rattle.disk_model.specs.declared.disk.Device.{Ghosts}
use Rattle.session_text.specs.declared.reply.Reply.{Reply}
use Rattle.session_text.specs.declared.reply.Reply.TheVariants.{Refused, Reopened}
use Rattle.session_text.specs.Items.{Item}
use Rattle.store_entries.specs.declared.entry.Entry.{Entry}
use Rattle.store_images.specs.Stored.{ImageStandsFor, ImageStores, IsSoundImage, IsTidy, KeepsStored, MayStandFor}
use Rattle.store_images.specs.Stored.ImageStores.{filled, vacant}
use Rattle.store_model.specs.History.{History, count_of, grown}
use Rattle.store_model.specs.State.{State}
use Rattle.store_model.specs.Step.{Machine}
use Rattle.client_run.proofs.CallLemmas.{tells_kept}
use Rattle.store_core.specs.Cores.{unsure_of}
use Rattle.store_core.specs.Opening.{BeginsAs, BeginsEmpty, LeavesAlone, opened_state}
use Rattle.store_core.specs.NewCore.{new_machine}
use Rattle.store_core.specs.Port.{port_of}
use Rattle.store_files.specs.declared.error.OpenError.{OpenError}
use Rattle.store_files.specs.declared.error.OpenError.TheVariants.{Fault, Memory, NotStore}
use Rattle.store_core.specs.declared.store.Core.{Core}
use Rattle.store_reopen.specs.Reopened.{Reopens, disk_of}
use Rattle.store_reopen.specs.Through.{GoesOn, KeepsThrough}
use Rattle.store_reopen.specs.declared.store.Store.{Store}
use Rattle.store_reopen.specs.declared.store.Store.TheVariants.{Closed, Open}
use Rattle.store_reopen.proofs.Through.{goes_on, keeps_from_then, opened_again, still_closed}
use Rattle.session_meaning.specs.Act.{Act}
use Rattle.session_meaning.specs.Act.Act.{Ask, Reopen, Unread}
use Rattle.session_meaning.specs.Answering.{at_core}
use Rattle.session_meaning.specs.At.{At}
use Rattle.session_meaning.specs.Done.{AreDone, AreDoneAmong, IsDone, IsDoneAmong, IsReopened}
use Rattle.session_meaning.specs.Over.{AreDoneOver, DiskLists, IsDoneOver, IsKeptAt, IsShownAt, StandsForPlace, reopened_reply}
use Rattle.session_meaning.specs.Place.{Place, ever_unsure, history_at}
use Rattle.session_meaning.specs.Progress.{AreAnsweredOver, HasAnsweredOne, IsAnsweredOver}
use Rattle.session_meaning.specs.Pushes.{unsure_after_line}
use Rattle.session_meaning.specs.Session.{IsAnsweredOrRefused}
use Rattle.session_meaning.specs.Stops.{AreTidy}
use Rattle.session_meaning.proofs.CoreSessions.{one_shown, one_through, one_unsure}
use Rattle.session_meaning.proofs.OnDisk.{calls_tidy, lists_kept, lists_state}
use Rattle.session_meaning.proofs.SessionLaws.{one_replied}

-- ---- an opening

-- a store that begins as one opened on bytes begins empty
begins_empty : (image : Image) (h : History) (moment : ℕ) (m : Machine) → ImageStandsFor image h → BeginsAs image moment m → BeginsEmpty m
begins_empty image h moment m stands begins = by_stores (count_of h) stands.stores
  where
    of_state : (s : State) → m.state ≡ s → s.head ≡ [] → s.flush ≡ None → s.compaction ≡ None → s.begun ≡ 0 → s.loose ≡ [] → s.pins ≡ [] → BeginsEmpty m
    of_state s is head flush compaction begun loose pins = record {
      writes = begins.writes;
      head = ap (λ (x : State). x.head) is ∙ head;
      flush = ap (λ (x : State). x.flush) is ∙ flush;
      compaction = ap (λ (x : State). x.compaction) is ∙ compaction;
      begun = ap (λ (x : State). x.begun) is ∙ begun;
      loose = ap (λ (x : State). x.loose) is ∙ loose;
      pins = ap (λ (x : State). x.pins) is ∙ pins;
    }

    by_stores : (count : ℕ) → ImageStores image stands.rows count → BeginsEmpty m
    by_stores count (vacant listless rows zero) = of_state (new_machine m.history).state (begins.new listless) refl refl refl refl refl refl
    by_stores count (filled body blocks batches holds one rows is) =
        of_state (opened_state body blocks batches moment) (begins.found body blocks batches holds.listed holds.its_blocks holds.built holds.logged) refl refl refl refl refl refl

-- a call of the disk failed in the opening
abbrev failed_in_call : OpenError → Bool
failed_in_call Fault = true
failed_in_call (NotStore file at) = false
failed_in_call Memory = false

-- where a session stands whose store was closed, and not opened again
abbrev closed_at : Place → OpenError → ℕ → Place
closed_at first why faults = record first {
  store = record { machine = first.store.machine; faults = faults };
  is_open = false;
  is_listed = first.is_listed && not (failed_in_call why);
}

listed_still : (b : Bool) → (b && true) ≡ true → b ≡ true
listed_still true e = refl
listed_still false e = let bad : ⊥ = cc in absurd bad

not_listed : (b : Bool) → (b && false) ≡ true → ⊥
not_listed true e = let bad : ⊥ = cc in bad
not_listed false e = let bad : ⊥ = cc in bad

refused_is : (left : Image → Type 0) (told : Bool) (moment : ℕ) (why : OpenError) (first : Place) (faults : ℕ) → first.store.faults ≤ faults → (why ≢ Fault → faults ≡ first.store.faults)
    → (why ≡ Fault → Raised first.store.faults faults) → ((file at : ℕ) → why ≡ NotStore file at → told ≡ false)
    → IsReopened told left moment first (reopened_reply (Err why)) (closed_at first why faults)
refused_is left told moment Fault first faults later quiet rose no_store = (tt, (refl, later, rose refl), refl)
refused_is left told moment (NotStore file at) first faults later quiet rose no_store = (no_store file at refl, (refl, later, quiet (λ e. let bad : ⊥ = cc in bad)), refl)
refused_is left told moment Memory first faults later quiet rose no_store = (tt, (refl, later, quiet (λ e. let bad : ⊥ = cc in bad)), refl)

ok_no_fault : (entries : ℕ) → (the : Result ℕ OpenError) → the ≡ Ok entries → the ≢ Err Fault
ok_no_fault entries the is e = let bad : ⊥ = cc in bad

err_is : (why : OpenError) (the : Result ℕ OpenError) → the ≡ Err why → the ≡ Err Fault → why ≡ Fault
err_is why the is e = cc

-- ---- whatever the disk holds

module _ {D : Type 0} (g : Ghosts D) where
  reopened_shown : (moment : ℕ) (old new : Store D) (first : Place) (result : Result ℕ OpenError) → Reopens g (disk_of old) moment new result → IsShownAt g old first
      → (last : Place) × IsShownAt g new last × IsReopened false (λ image. ⊤) moment first (reopened_reply result) last
  reopened_shown moment old new first (Ok entries) again shown =
      let opened = again.opened in
      let core = opened.0 in
      let m = opened.2.begins in
      let has = m.1.shows.state.has in
      let last : Place = record { store = at_core g core m.0; is_open = true; is_listed = true; unsure = None; pending = ever_unsure first } in (
        last,
        subst (λ (x : Store D). IsShownAt g x last) (sym opened.1) (record { faults = refl; shows = (refl, m.1.shows) }),
        (
          record {
            count = opened.3 ∙ sym has.count;
            few = subst (λ (n : ℕ). n ≤ 4294967295) (sym opened.3) has.few;
            faults = ap (λ (x : Store D). g.faults (disk_of x)) (sym opened.1) ∙ again.counts.quiet (ok_no_fault entries (Ok entries) refl) ∙ sym (ap (λ (at : At). at.faults) shown.faults);
            begins = m.1.empty;
            agrees = m.1.shows.state.agrees;
            found = λ told. let bad : ⊥ = cc in absurd bad;
          },
          refl,
        ),
      )
  reopened_shown moment old new first (Err why) again shown =
      let later = again.closed.0 in
      let before : first.store.faults ≡ g.faults (disk_of old) = ap (λ (at : At). at.faults) shown.faults in
      let counts = subst (λ (x : Store D). Reopens g (disk_of old) moment x (Err why)) again.closed.1 again in (
        closed_at first why (g.faults later),
        subst (λ (x : Store D). IsShownAt g x (closed_at first why (g.faults later))) (sym again.closed.1) (record { faults = refl; shows = refl }),
        refused_is (λ image. ⊤) false moment why first (g.faults later)
            (subst (λ (n : ℕ). n ≤ g.faults later) (sym before) counts.counts.later)
            (λ not. counts.counts.quiet (λ e. not (err_is why (Err why) refl e)) ∙ sym before)
            (λ is. subst (λ (n : ℕ). Raised n (g.faults later)) (sym before) (counts.counts.fault (ap Err is)))
            (λ file at is. refl),
      )

  done_shown : (act : Act) (old new : Store D) (reply : Reply) (first : Place) → IsDoneOver g act old reply new → IsShownAt g old first
      → (last : Place) × IsShownAt g new last × IsDone false act first reply last
  done_shown (Ask item) (Open core) new reply first (later, is, one) shown =
      let s = one_shown g core later first.store.machine item reply shown.shows.1 one.is in
      let last : Place = record first { store = at_core g later s.0; unsure = unsure_after_line first.unsure item reply } in (
        last,
        subst (λ (x : Store D). IsShownAt g x last) (sym is) (record { faults = refl; shows = (shown.shows.0, s.1) }),
        (shown.shows.0, subst (λ (at : At). IsAnsweredOrRefused false item at reply last.store) (sym shown.faults) s.2, refl),
      )
  done_shown (Ask item) (Closed disk) new reply first bad shown = absurd bad
  done_shown (Reopen moment) old new reply first (result, is, again) shown =
      let all = reopened_shown moment old new first result again shown in
      (all.0, all.1, subst (λ (r : Reply). IsReopened false (λ image. ⊤) moment first r all.0) (sym is) all.2)
  done_shown Unread (Open core) new reply first bad shown = absurd bad
  done_shown Unread (Closed disk) new reply first (told, is) shown =
      (first, subst (λ (x : Store D). IsShownAt g x first) (sym is) shown, (shown.shows, told, refl))

  pub acts_shown : (acts : List Act) (replies : List Reply) (old new : Store D) (first : Place) → AreDoneOver g old acts replies new → IsShownAt g old first
      → (last : Place) × IsShownAt g new last × AreDone false first acts replies last
  acts_shown [] replies old new first h shown = (first, subst (λ (x : Store D). IsShownAt g x first) (sym h.1) shown, (h.0, refl))
  acts_shown (a ∷ more) [] old new first h shown = absurd h
  acts_shown (a ∷ more) (r ∷ rs) old new first (between, here, later) shown =
      let one = done_shown a old between r first here shown in
      let rest = acts_shown more rs between new one.0 later one.1 in
      (rest.0, rest.1, (one.0, one.2, rest.2))

  -- ---- where the disk tells its bytes

  sound_of : (h : History) (u : Option Entry) (image : Image) → MayStandFor h u image → IsSoundImage image
  sound_of h None image stands = (h, stands)
  sound_of h (Some entry) image (inl one) = (h, one)
  sound_of h (Some entry) image (inr other) = (grown h (entry ∷ []), other)

  -- The disk of a store that writes, or wrote to its end, lists its state.
  pub store_lists : (store : Store D) (place : Place) → StandsForPlace g store place → IsTrue (g.tells (disk_of store)) → place.is_listed ≡ true → place.store.machine.read_only ≡ None
      → DiskLists g (disk_of store) place.store.machine.state
  store_lists (Open core) place stands tells is_listed writes = lists_state g core place.store.machine stands.2 tells writes
  store_lists (Closed disk) place stands tells is_listed writes = stands.1 tells is_listed writes

  -- So does what a refused opening leaves in which no call of the disk failed.
  still_listed : (disk later : D) (why : OpenError) (first : Place) → (why ≢ Fault → LeavesAlone g disk later)
      → (first.is_listed ≡ true → first.store.machine.read_only ≡ None → DiskLists g disk first.store.machine.state)
      → (closed_at first why (g.faults later)).is_listed ≡ true → first.store.machine.read_only ≡ None → DiskLists g later first.store.machine.state
  still_listed disk later Fault first left before listed writes image may = absurd (not_listed first.is_listed listed)
  still_listed disk later (NotStore file at) first left before listed writes image may =
      let was = (left (λ e. let bad : ⊥ = cc in bad)).images.now image may in
      lists_kept was.0 image first.store.machine.state was.2 (before (listed_still first.is_listed listed) writes was.0 was.1)
  still_listed disk later Memory first left before listed writes image may =
      let was = (left (λ e. let bad : ⊥ = cc in bad)).images.now image may in
      lists_kept was.0 image first.store.machine.state was.2 (before (listed_still first.is_listed listed) writes was.0 was.1)

  module _ (held_may_stay : (disk : D) → IsTrue (g.tells disk) → g.may_leave disk (g.held disk)) (start : D) (least : ℕ) where
    reopened_kept : (left : Image → Type 0) (moment : ℕ) (old new : Store D) (first : Place) (result : Result ℕ OpenError) → left (g.held (disk_of old))
        → Reopens g (disk_of old) moment new result → IsKeptAt g start least old first
        → IsTrue (g.tells (disk_of old)) → (last : Place) × IsKeptAt g start least new last × IsReopened true left moment first (reopened_reply result) last
    reopened_kept left moment old new first (Ok entries) may again kept tells =
        let opened = again.opened in
        let core = opened.0 in
        let disk = disk_of old in
        let so = subst (λ (x : Store D). Reopens g disk moment x (Ok entries)) opened.1 again in
        let on : GoesOn g disk moment core (history_at first) first.unsure =
        goes_on g held_may_stay disk core (history_at first) first.unsure moment tells kept.keeps.now opened.2 in
        let has = on.stands.stands.has in
        let last : Place = record { store = at_core g core on.machine; is_open = true; is_listed = true; unsure = None; pending = ever_unsure first } in (
          last,
          subst (λ (x : Store D). IsKeptAt g start least x last) (sym opened.1) (record {
            faults = refl;
            stands = (refl, sym on.sure, on.stands);
            keeps = opened_again g start disk core least moment first.pending (history_at first) first.unsure kept.keeps so.counts.telling so.kept on;
          }),
          (
            record {
              count = opened.3 ∙ sym has.count;
              few = subst (λ (n : ℕ). n ≤ 4294967295) (sym opened.3) has.few;
              faults = so.counts.quiet (ok_no_fault entries (Ok entries) refl) ∙ sym (ap (λ (at : At). at.faults) kept.faults);
              begins = begins_empty (g.held disk) on.machine.history moment on.machine on.stored on.begins;
              agrees = on.stands.stands.agrees;
              found = λ told. record {
                history = on.history;
                image = g.held disk;
                possible = may;
                stands = on.stored;
                begins = on.begins;
                listed = λ is_listed writes. store_lists old first kept.stands tells is_listed writes (g.held disk) (held_may_stay disk tells);
              };
            },
            refl,
          ),
        )
    reopened_kept left moment old new first (Err why) may again kept tells =
        let later = again.closed.0 in
        let disk = disk_of old in
        let before : first.store.faults ≡ g.faults disk = ap (λ (at : At). at.faults) kept.faults in
        let so = subst (λ (x : Store D). Reopens g disk moment x (Err why)) again.closed.1 again in
        let last = closed_at first why (g.faults later) in (
          last,
          subst (λ (x : Store D). IsKeptAt g start least x last) (sym again.closed.1) (record {
            faults = refl;
            stands = (refl, λ later_tells listed writes. still_listed disk later why first (so.left tells) (store_lists old first kept.stands tells) listed writes);
            keeps = still_closed g start disk later least first.pending (history_at first) first.unsure kept.keeps so.counts.telling so.kept;
          }),
          refused_is left true moment why first (g.faults later)
              (subst (λ (n : ℕ). n ≤ g.faults later) (sym before) so.counts.later)
              (λ not. so.counts.quiet (λ e. not (err_is why (Err why) refl e)) ∙ sym before)
              (λ is. subst (λ (n : ℕ). Raised n (g.faults later)) (sym before) (so.counts.fault (ap Err is)))
              (λ file at is. absurd (so.sound tells (sound_of (history_at first) first.unsure (g.held disk) (kept.keeps.now tells (g.held disk) (held_may_stay disk tells))) file at is)),
        )

    done_kept : (left : Image → Type 0) (act : Act) (old new : Store D) (reply : Reply) (first : Place) → left (g.held (disk_of old))
        → IsDoneOver g act old reply new → IsKeptAt g start least old first → IsTrue (g.tells (disk_of old))
        → (last : Place) × IsKeptAt g start least new last × IsTrue (g.tells (disk_of new)) × IsDoneAmong left true act first reply last
    done_kept left (Ask item) (Open core) new reply first may (later, is, one) kept tells =
        let stands = kept.stands.2 in
        let s = one_through g start least first.pending core later first.store.machine item reply
        (stands, tells, subst (λ (u : Option Entry). KeepsThrough g start least first.pending core.disk (history_at first) u) kept.stands.1 kept.keeps) one.is in
        let unsure : unsure_after_line first.unsure item reply ≡ unsure_of later.state =
        ap (λ (u : Option Entry). unsure_after_line u item reply) kept.stands.1 ∙ sym (one_unsure g core later item reply first.store.machine stands one) in
        let last : Place = record first { store = at_core g later s.0; unsure = unsure_after_line first.unsure item reply } in (
          last,
          subst (λ (x : Store D). IsKeptAt g start least x last) (sym is) (record {
            faults = refl;
            stands = (kept.stands.0, unsure, s.1.0);
            keeps = subst (λ (u : Option Entry). KeepsThrough g start least first.pending later.disk (history_at last) u) (sym unsure) s.1.2;
          }),
          subst (λ (x : Store D). IsTrue (g.tells (disk_of x))) (sym is) s.1.1,
          (kept.stands.0, subst (λ (at : At). IsAnsweredOrRefused true item at reply last.store) (sym kept.faults) s.2, refl),
        )
    done_kept left (Ask item) (Closed disk) new reply first may bad kept tells = absurd bad
    done_kept left (Reopen moment) old new reply first may (result, is, again) kept tells =
        let all = reopened_kept left moment old new first result may again kept tells in (
          all.0,
          all.1,
          subst IsTrue (sym again.counts.telling) tells,
          subst (λ (r : Reply). IsReopened true left moment first r all.0) (sym is) all.2,
        )
    done_kept left Unread (Open core) new reply first may bad kept tells = absurd bad
    done_kept left Unread (Closed disk) new reply first may (told, is) kept tells = (
      first,
      subst (λ (x : Store D). IsKeptAt g start least x first) (sym is) kept,
      subst (λ (x : Store D). IsTrue (g.tells (disk_of x))) (sym is) tells,
      (kept.stands.0, told, refl),
    )

    -- at each line, where what the disk holds then is one of these images
    pub acts_among : (left : Image → Type 0) (acts : List Act) (replies : List Reply) (old new : Store D) (first : Place)
        → ((store : Store D) (rest : List Act) (later : List Reply) (place : Place) → AreDoneOver g store rest later new → IsKeptAt g start least store place
        → IsTrue (g.tells (disk_of store)) → left (g.held (disk_of store)))
        → AreDoneOver g old acts replies new → IsKeptAt g start least old first
        → IsTrue (g.tells (disk_of old)) → (last : Place) × IsKeptAt g start least new last × AreDoneAmong left first acts replies last
    acts_among left [] replies old new first may h kept tells = (first, subst (λ (x : Store D). IsKeptAt g start least x first) (sym h.1) kept, (h.0, refl))
    acts_among left (a ∷ more) [] old new first may h kept tells = absurd h
    acts_among left (a ∷ more) (r ∷ rs) old new first may (between, here, later) kept tells =
        let one = done_kept left a old between r first (may old (a ∷ more) (r ∷ rs) first (between, here, later) kept tells) here kept tells in
        let rest = acts_among left more rs between new one.0 may later one.1 one.2 in
        (rest.0, rest.1, (one.0, one.3, rest.2))

    pub acts_kept : (acts : List Act) (replies : List Reply) (old new : Store D) (first : Place) → AreDoneOver g old acts replies new → IsKeptAt g start least old first
        → IsTrue (g.tells (disk_of old)) → (last : Place) × IsKeptAt g start least new last × AreDone true first acts replies last
    acts_kept acts replies old new first h kept tells = acts_among (λ image. ⊤) acts replies old new first (λ store rest later place over at shows. tt) h kept tells

    -- ---- tidiness

    module _ (counts_now : (disk : D) (start : ℕ) (image : Image) → start ≤ g.moment disk → g.may_leave disk image → g.left_since disk start image)
        (only_now : (disk : D) (image : Image) → g.left_since disk (g.moment disk) image → g.may_leave disk image) where
      abbrev LeavesTidy : D → D → Type 0
      LeavesTidy old new = LeavesOnly g.moment g.left_since old new IsTidy

      done_tidy : (act : Act) (old new : Store D) (reply : Reply) (first : Place) → IsDoneOver g act old reply new → IsKeptAt g start least old first → IsTrue (g.tells (disk_of old))
          → AreTidy (g.may_leave (disk_of old)) → LeavesTidy (disk_of old) (disk_of new)
      done_tidy (Ask item) (Open core) new reply first (later, is, one) kept tells tidy =
          subst (λ (x : Store D). LeavesTidy core.disk (disk_of x)) (sym is)
          (calls_tidy g counts_now only_now core later one.calls one.made first.store.machine kept.stands.2 tells tidy)
      done_tidy (Ask item) (Closed disk) new reply first bad kept tells tidy = absurd bad
      done_tidy (Reopen moment) old new reply first (result, is, again) kept tells tidy =
          widened g.moment g.left_since (disk_of old) (disk_of new) (Reached KeepsStored (g.may_leave (disk_of old))) IsTidy (again.kept tells).since
          (λ image was. was.2.tidy (tidy was.0 was.1))
      done_tidy Unread (Open core) new reply first bad kept tells tidy = absurd bad
      done_tidy Unread (Closed disk) new reply first (told, is) kept tells tidy =
          subst (λ (x : Store D). LeavesTidy disk (disk_of x)) (sym is)
          (started g.moment g.left_since disk IsTidy (λ image left. tidy image (only_now disk image left)))

      pub acts_tidy : (acts : List Act) (replies : List Reply) (old new : Store D) (first : Place) → AreDoneOver g old acts replies new → IsKeptAt g start least old first
          → IsTrue (g.tells (disk_of old)) → AreTidy (g.may_leave (disk_of old)) → LeavesTidy (disk_of old) (disk_of new)
      acts_tidy [] replies old new first h kept tells tidy =
          subst (λ (x : Store D). LeavesTidy (disk_of old) (disk_of x)) (sym h.1)
          (started g.moment g.left_since (disk_of old) IsTidy (λ image left. tidy image (only_now (disk_of old) image left)))
      acts_tidy (a ∷ more) [] old new first h kept tells tidy = absurd h
      acts_tidy (a ∷ more) (r ∷ rs) old new first (between, here, later) kept tells tidy =
          let one = done_kept (λ image. ⊤) a old between r first tt here kept tells in
          let left = done_tidy a old between r first here kept tells tidy in
          joined g.moment g.left_since (disk_of old) (disk_of between) (disk_of new) IsTidy left
          (acts_tidy more rs between new one.0 later one.1 one.2
          (λ image may. left.each image (counts_now (disk_of between) (g.moment (disk_of old)) image left.later may)))

-- ---- over a store

pub done_over_then : {D : Type 0} (g : Ghosts D) (front back : List Act) (replies later : List Reply) (old mid new : Store D) → AreDoneOver g old front replies mid → AreDoneOver g mid back later new
    → AreDoneOver g old (front ++ back) (replies ++ later) new
done_over_then {D} g [] back replies later old mid new h k =
    subst (λ (rs : List Reply). AreDoneOver g old back (rs ++ later) new) (sym h.0) (subst (λ (x : Store D). AreDoneOver g x back later new) h.1 k)
done_over_then g (a ∷ more) back [] later old mid new h k = absurd h
done_over_then g (a ∷ more) back (r ∷ rs) later old mid new h k = (h.0, h.1, done_over_then g more back rs later h.0 mid new h.2 k)

one_asked : {D : Type 0} (g : Ghosts D) (old new : Core D) (item : Item) (reply : Reply) → IsAnsweredOver (port_of g) old item reply new → HasAnsweredOne (port_of g) old item reply new
one_asked g old new (Ok asked) reply is = one_replied (port_of g) old new asked reply is
one_asked g old new (Err why) reply is = record { calls = []; answered = (is.0, refl); made = is.1; is = is }

-- what is asked of a core is done over an open store
pub asks_over : {D : Type 0} (g : Ghosts D) (items : List Item) (replies : List Reply) (old new : Core D) → AreAnsweredOver (port_of g) old items replies new
    → AreDoneOver g (Open old) (map Ask items) replies (Open new)
asks_over {D} g [] replies old new h = (h.0, ap (λ (x : Core D). Open x) h.1)
asks_over g (i ∷ is) [] old new h = absurd h
asks_over g (i ∷ is) (r ∷ rs) old new h = (Open h.0, (h.0, refl, one_asked g old h.0 i r h.1), asks_over g is rs h.0 new h.2)

-- the disk tells its bytes then if it did before
pub one_tells : {D : Type 0} (g : Ghosts D) (act : Act) (old new : Store D) (reply : Reply) → IsDoneOver g act old reply new → IsTrue (g.tells (disk_of old)) → IsTrue (g.tells (disk_of new))
one_tells {D} g (Ask item) (Open core) new reply (later, is, one) tells =
    subst (λ (x : Store D). IsTrue (g.tells (disk_of x))) (sym is) (subst IsTrue (sym (tells_kept (port_of g) core later one.calls one.made)) tells)
one_tells g (Ask item) (Closed disk) new reply bad tells = absurd bad
one_tells g (Reopen moment) old new reply (result, is, again) tells = subst IsTrue (sym again.counts.telling) tells
one_tells g Unread (Open core) new reply bad tells = absurd bad
one_tells {D} g Unread (Closed disk) new reply (told, is) tells = subst (λ (x : Store D). IsTrue (g.tells (disk_of x))) (sym is) tells

pub over_tells : {D : Type 0} (g : Ghosts D) (acts : List Act) (replies : List Reply) (old new : Store D) → AreDoneOver g old acts replies new → IsTrue (g.tells (disk_of old)) → IsTrue (g.tells (disk_of new))
over_tells {D} g [] replies old new h tells = subst (λ (x : Store D). IsTrue (g.tells (disk_of x))) (sym h.1) tells
over_tells g (a ∷ more) [] old new h tells = absurd h
over_tells g (a ∷ more) (r ∷ rs) old new (between, here, later) tells = over_tells g more rs between new later (one_tells g a old between r here tells)

-- ---- what the disk held before a line

module _ {D : Type 0} (g : Ghosts D) (held_may_stay : (disk : D) → IsTrue (g.tells disk) → g.may_leave disk (g.held disk))
    (counts_now : (disk : D) (start : ℕ) (image : Image) → start ≤ g.moment disk → g.may_leave disk image → g.left_since disk start image)
    (only_now : (disk : D) (image : Image) → g.left_since disk (g.moment disk) image → g.may_leave disk image) (start : D) (least : ℕ) where
  stands_alone : (store : Store D) (place : Place) → StandsForPlace g store place → StandsForPlace g store (record place { pending = [] })
  stands_alone (Open core) place stands = stands
  stands_alone (Closed disk) place stands = stands

  -- A store that is kept at a place since the start is so since then.
  kept_from_then : (store : Store D) (place : Place) → IsKeptAt g start least store place
      → IsKeptAt g (disk_of store) (count_of (history_at place)) store (record place { pending = [] })
  kept_from_then store place kept = record {
    faults = kept.faults;
    stands = stands_alone store place kept.stands;
    keeps = keeps_from_then g only_now (disk_of store) (history_at place) place.unsure kept.keeps.now;
  }

  -- Before each line the disk holds what a crash might have left since an earlier moment, as it can be told after the last line.
  held_among : (since : ℕ) → since ≤ g.moment start → (new store : Store D) (rest : List Act) (later : List Reply) (place : Place) → AreDoneOver g store rest later new
      → IsKeptAt g start least store place → IsTrue (g.tells (disk_of store)) → g.left_since (disk_of new) since (g.held (disk_of store))
  held_among since early new store rest later place over kept tells =
      let disk = disk_of store in
      let after = (kept.keeps.past tells).later in
      let le : since ≤ g.moment disk = omega (arith, early, after) in
      let ended = acts_kept g held_may_stay disk (count_of (history_at place)) rest later store new (record place { pending = [] }) over
      (kept_from_then store place kept) tells in
      (ended.1.keeps.past (over_tells g rest later store new over tells)).keeps since (g.held disk) le
      (counts_now disk since (g.held disk) le (held_may_stay disk tells))

  -- So each opening finds an image that a crash may have left since then.
  pub acts_left : (since : ℕ) → since ≤ g.moment start → (acts : List Act) (replies : List Reply) (old new : Store D) (first : Place) → AreDoneOver g old acts replies new
      → IsKeptAt g start least old first → IsTrue (g.tells (disk_of old))
      → (last : Place) × IsKeptAt g start least new last × AreDoneAmong (g.left_since (disk_of new) since) first acts replies last
  acts_left since early acts replies old new first over kept tells =
      acts_among g held_may_stay start least (g.left_since (disk_of new) since) acts replies old new first (held_among since early new) over kept tells

-- ---- whichever image it finds

reopened_any : (left : Image → Type 0) (moment : ℕ) (before after : Place) (reply : Reply) → IsReopened true left moment before reply after
    → IsReopened true (λ image. ⊤) moment before reply after
reopened_any left moment before after (Reopened entries) (opened, is) = (
  record {
    count = opened.count;
    few = opened.few;
    faults = opened.faults;
    begins = opened.begins;
    agrees = opened.agrees;
    found = λ told. let f = opened.found told in record { history = f.history; image = f.image; possible = tt; stands = f.stands; begins = f.begins; listed = f.listed };
  },
  is,
)
reopened_any left moment before after (Refused why) h = h
reopened_any left moment before after _ h = absurd h

done_any : (left : Image → Type 0) (act : Act) (before after : Place) (reply : Reply) → IsDoneAmong left true act before reply after → IsDone true act before reply after
done_any left (Ask item) before after reply h = h
done_any left (Reopen moment) before after reply h = reopened_any left moment before after reply h
done_any left Unread before after reply h = h

-- What is done is done, whichever image an opening finds.
pub are_done : (left : Image → Type 0) (acts : List Act) (replies : List Reply) (first last : Place) → AreDoneAmong left first acts replies last → AreDone true first acts replies last
are_done left [] replies first last h = h
are_done left (a ∷ more) [] first last h = absurd h
are_done left (a ∷ more) (r ∷ rs) first last (between, here, later) = (between, done_any left a first between r here, are_done left more rs between last later)

-- Where nothing is opened again, none is found.
pub asks_among : (left : Image → Type 0) (items : List Item) (replies : List Reply) (first last : Place) → AreDone true first (map Ask items) replies last
    → AreDoneAmong left first (map Ask items) replies last
asks_among left [] replies first last h = h
asks_among left (i ∷ is) [] first last h = absurd h
asks_among left (i ∷ is) (r ∷ rs) first last (between, here, later) = (between, here, asks_among left is rs between last later)
