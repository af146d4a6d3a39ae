-- What is answered over the port of a core is a session.
use Rattle.std.proofs.Common.{◌≡◌, ◌⊎◌, Option, ℕ, Bool, true, false, List, [], ◌∷◌, Ok, Err, IsTrue, refl, sym, ◌∙◌, ap, subst}
use Rattle.disk_model.specs.declared.disk.Device.{Ghosts}
use Rattle.session_text.specs.declared.reply.Reply.{Reply}
use Rattle.session_text.specs.Items.{Item}
use Rattle.store_model.specs.Step.{Machine}
use Rattle.store_images.proofs.Lists.{not_in_nil}
use Rattle.store_model.specs.State.{held_of}
use Rattle.store_core.specs.Cores.{CoreShows, CoreStandsFor, HasState, held_in, unsure_of}
use Rattle.store_core.specs.Past.{StandsSince}
use Rattle.store_core.specs.Port.{port_of, shown_by}
use Rattle.store_core.specs.declared.store.Core.{Core}
use Rattle.store_state.specs.Cores.{CoreKnows}
use Rattle.store_state.specs.Made.{AreMade, Call}
use Rattle.store_reopen.specs.Through.{KeepsThrough, Pending}
use Rattle.store_reopen.proofs.Through.{event_goes_on}
use Rattle.client_run.specs.CoreRuns.{HasStepped, unsure_after_calls}
use Rattle.client_run.proofs.CallLemmas.{tells_kept}
use Rattle.client_run.proofs.CoreLemmas.{shows_stepped, since_stepped, stepped, unsure_stepped}
use Rattle.session_meaning.specs.Answering.{CallsLead, IsItemAnswered, at_core}
use Rattle.session_meaning.specs.Duties.{Duty, Follows, IsDue, due}
use Rattle.session_meaning.specs.Progress.{AreAnsweredOver, FollowsOver, HasAnsweredOne, IsAnsweredOver}
use Rattle.session_meaning.specs.Pushes.{unsure_after_line}
use Rattle.session_meaning.specs.Session.{IsAnsweredOrRefused, Session}
use Rattle.session_meaning.proofs.AnswerLaws.{IsItemTold, item_means, item_means_told}
use Rattle.session_meaning.proofs.Counted.{blocks_counted}
use Rattle.session_meaning.proofs.Unsure.{after_line, item_unsure}

module _ {D : Type 0} (g : Ghosts D) where
  -- One item was answered over a core by calls that lead from a machine to a machine.
  record HasMoved (is_with : Core D → Machine → Type 0) (old : Core D) (m : Machine) (item : Item) (reply : Reply) (new : Core D) : Type 0 where
    machine : Machine
    stands : is_with new machine
    calls : List Call
    answered : IsItemAnswered item reply calls
    lead : CallsLead (at_core g old m) calls (at_core g new machine)

  module _ (is_with : Core D → Machine → Type 0)
      (steps : (old new : Core D) (calls : List Call) → AreMade (port_of g) old calls new → (m : Machine) → is_with old m → HasStepped g is_with old calls new m) where
    moved : (old new : Core D) (m : Machine) (item : Item) (reply : Reply) → is_with old m → IsAnsweredOver (port_of g) old item reply new → HasMoved is_with old m item reply new
    moved old new m (Ok asked) reply stands is =
        let s = steps old new is.calls is.made m stands in
        record { machine = s.machine; stands = s.stands; calls = is.calls; answered = is.answered; lead = s.steps }
    moved old new m (Err why) reply stands is = record {
      machine = m;
      stands = subst (λ (core : Core D). is_with core m) (sym is.1) stands;
      calls = [];
      answered = (is.0, refl);
      lead = (ap (λ (core : Core D). g.faults core.disk) is.1, refl);
    }

    module _ (told : Bool)
        (means : (old new : Core D) (m : Machine) (item : Item) (reply : Reply) → is_with old m → IsAnsweredOver (port_of g) old item reply new
        → (h : HasMoved is_with old m item reply new) → IsAnsweredOrRefused told item (at_core g old m) reply (at_core g new h.machine)) where
      over_means : (items : List Item) (replies : List Reply) (first last : Core D) (m : Machine) → is_with first m → AreAnsweredOver (port_of g) first items replies last
          → (m' : Machine) × is_with last m' × Session told (at_core g first m) items replies (at_core g last m')
      over_means [] replies first last m stands is = (
        m,
        subst (λ (core : Core D). is_with core m) (sym is.1) stands,
        (is.0, ap (λ (core : Core D). at_core g core m) is.1),
      )
      over_means (i ∷ is) [] first last m stands bad = absurd bad
      over_means (i ∷ is) (r ∷ rs) first last m stands (between, here, later) =
          let h = moved first between m i r stands here in
          let rest = over_means is rs between last h.machine h.stands later in
          (rest.0, rest.1, (at_core g between h.machine, means first between m i r stands here h, rest.2))

      -- The same of an ingest, of which the core's memory says what is due.
      ingest_means : ((core : Core D) (m : Machine) → is_with core m → held_in core ≡ held_of m.state)
          → (todo : List Duty) (moments : Option (List ℕ)) (items : List Item) (replies : List Reply) (first last : Core D) (m : Machine) (left : List Duty) (to_tell : Option (List ℕ))
          → is_with first m → FollowsOver g todo moments first items replies last left to_tell
          → (m' : Machine) × is_with last m' × Follows told todo moments (at_core g first m) items replies (at_core g last m') left to_tell
      ingest_means held todo moments [] replies first last m left to_tell stands (none, is, left_is, moments_are) = (
        m,
        subst (λ (core : Core D). is_with core m) (sym is) stands,
        (
          none,
          ap (λ (core : Core D). at_core g core m) is,
          subst (λ (n : ℕ). (left ≡ todo) ⊎ (left ≡ due n todo)) (held first m stands) left_is,
          moments_are,
        ),
      )
      ingest_means held todo moments (i ∷ is) [] first last m left to_tell stands bad = absurd bad
      ingest_means held todo moments (i ∷ is) (r ∷ rs) first last m left to_tell stands (between, later, told_later, is_due, here, more) =
          let h = moved first between m i r stands here in
          let rest = ingest_means held later told_later is rs between last h.machine left to_tell h.stands more in (
            rest.0,
            rest.1,
            (
              at_core g between h.machine,
              later,
              told_later,
              subst (λ (n : ℕ). IsDue (due n todo) moments i r later told_later) (held first m stands) is_due,
              means first between m i r stands here h,
              rest.2,
            ),
          )

  -- How many rows the memory of a core holds are those of the machine that it shows.
  held_shown : (core : Core D) (m : Machine) → HasState core.state m → held_in core ≡ held_of m.state
  held_shown core m has = let flushing = has.flushing in let head = has.head in let live = has.live in cc

  -- Whatever the disk holds: what queries tell isn't said where the store lists blocks.
  pub shown_means : (items : List Item) (replies : List Reply) (first last : Core D) (m : Machine) → CoreShows g first m → AreAnsweredOver (port_of g) first items replies last
      → (m' : Machine) × CoreShows g last m' × Session false (at_core g first m) items replies (at_core g last m')
  shown_means = over_means (CoreShows g) (shows_stepped g) false
      (λ old new m item reply shows is h. item_means item (at_core g old m) (at_core g new h.machine) reply h.calls shows.state.agrees h.answered h.lead)

  pub shown_ingests : (todo : List Duty) (moments : Option (List ℕ)) (items : List Item) (replies : List Reply) (first last : Core D) (m : Machine) (left : List Duty) (to_tell : Option (List ℕ))
      → CoreShows g first m → FollowsOver g todo moments first items replies last left to_tell
      → (m' : Machine) × CoreShows g last m' × Follows false todo moments (at_core g first m) items replies (at_core g last m') left to_tell
  shown_ingests = ingest_means (CoreShows g) (shows_stepped g) false
      (λ old new m item reply shows is h. item_means item (at_core g old m) (at_core g new h.machine) reply h.calls shows.state.agrees h.answered h.lead)
      (λ core m shows. held_shown core m shows.state.has)

  -- one line
  pub one_shown : (old new : Core D) (m : Machine) (item : Item) (reply : Reply) → CoreShows g old m → IsAnsweredOver (port_of g) old item reply new
      → (m' : Machine) × CoreShows g new m' × IsAnsweredOrRefused false item (at_core g old m) reply (at_core g new m')
  one_shown old new m item reply shows is =
      let h = moved (CoreShows g) (shows_stepped g) old new m item reply shows is in
      (h.machine, h.stands, item_means item (at_core g old m) (at_core g new h.machine) reply h.calls shows.state.agrees h.answered h.lead)

  -- ---- where what the blocks hold is told

  -- a core knows the history of a machine that it stands for
  knows_all : (core : Core D) (m : Machine) → CoreStandsFor g core m → CoreKnows (shown_by g) core (record { history = m.history; holds = [] })
  knows_all core m stands = record {
    machine = m;
    stands = stands;
    agrees = stands.stands.agrees;
    sound = stands.stands.sound;
    history = refl;
    open_holds = λ hold inside. absurd (not_in_nil hold inside);
  }

  module _ (start : D) (least : ℕ) where
    -- The core stands for the machine, with what was left since an earlier disk, and its disk shows its bytes.
    abbrev TellsSince : Core D → Machine → Type 0
    TellsSince core m = StandsSince g start least core m × IsTrue (g.tells core.disk)

    tells_on : (old new : Core D) (calls : List Call) → AreMade (port_of g) old calls new → (m : Machine) → TellsSince old m → HasStepped g TellsSince old calls new m
    tells_on old new calls made m (since, tells) =
        let s = since_stepped g old new calls made m start least since in record {
          machine = s.machine;
          stands = (s.stands, subst IsTrue (sym (tells_kept (port_of g) old new calls made)) tells);
          steps = s.steps;
        }

    item_told : (old new : Core D) (item : Item) (reply : Reply) (m : Machine) → TellsSince old m → IsAnsweredOver (port_of g) old item reply new → IsItemTold m.history item reply
    item_told old new (Ok asked) reply m (since, tells) is =
        let last = is.told tells (record { history = m.history; holds = [] }) (knows_all old m since.stands) in (last.0.history, last.2, last.3)
    item_told old new (Err why) reply m (since, tells) is = tt

    -- All that was pushed is told of, wherever it lies.
    pub since_means : (items : List Item) (replies : List Reply) (first last : Core D) (m : Machine) → TellsSince first m → AreAnsweredOver (port_of g) first items replies last
        → (m' : Machine) × TellsSince last m' × Session true (at_core g first m) items replies (at_core g last m')
    since_means = over_means TellsSince tells_on true
        (λ old new m item reply since is h. item_means_told item (at_core g old m) (at_core g new h.machine) reply h.calls since.0.stands.stands.agrees h.answered h.lead (item_told old new item reply m since is)
        (blocks_counted g new h.machine h.stands.0.stands h.stands.1))

    pub since_ingests : (todo : List Duty) (moments : Option (List ℕ)) (items : List Item) (replies : List Reply) (first last : Core D) (m : Machine) (left : List Duty) (to_tell : Option (List ℕ))
        → TellsSince first m → FollowsOver g todo moments first items replies last left to_tell
        → (m' : Machine) × TellsSince last m' × Follows true todo moments (at_core g first m) items replies (at_core g last m') left to_tell
    since_ingests = ingest_means TellsSince tells_on true
        (λ old new m item reply since is h. item_means_told item (at_core g old m) (at_core g new h.machine) reply h.calls since.0.stands.stands.agrees h.answered h.lead (item_told old new item reply m since is)
        (blocks_counted g new h.machine h.stands.0.stands h.stands.1))
        (λ core m since. held_shown core m since.0.stands.stands.has)

  -- ---- where that was kept since an earlier disk, over reopenings

  told_of : (old new : Core D) (item : Item) (reply : Reply) (m : Machine) → CoreStandsFor g old m → IsTrue (g.tells old.disk) → IsAnsweredOver (port_of g) old item reply new → IsItemTold m.history item reply
  told_of old new (Ok asked) reply m stands tells is =
      let last = is.told tells (record { history = m.history; holds = [] }) (knows_all old m stands) in (last.0.history, last.2, last.3)
  told_of old new (Err why) reply m stands tells is = tt

  -- the entry that isn't sure is the one that lines and replies tell
  pub one_unsure : (old new : Core D) (item : Item) (reply : Reply) (m : Machine) → CoreStandsFor g old m → HasAnsweredOne (port_of g) old item reply new
      → unsure_of new.state ≡ unsure_after_line (unsure_of old.state) item reply
  one_unsure old new item reply m stands one =
      unsure_stepped g old new one.calls one.made m stands
      ∙ item_unsure unsure_after_calls (λ u. refl) (λ c calls u. refl) item reply one.calls (unsure_of old.state) one.answered
      ∙ after_line (unsure_of old.state) item reply

  module _ (start : D) (least : ℕ) (pending : List Pending) where
    abbrev pub StandsThrough : Core D → Machine → Type 0
    StandsThrough core m = CoreStandsFor g core m × IsTrue (g.tells core.disk) × KeepsThrough g start least pending core.disk m.history (unsure_of core.state)

    through_on : (old new : Core D) (calls : List Call) → AreMade (port_of g) old calls new → (m : Machine) → StandsThrough old m → HasStepped g StandsThrough old calls new m
    through_on = stepped g StandsThrough (λ old new event reply did m has.
        let s = did.stepped m has.0 in (
          s.machine,
          (s.stands, subst IsTrue (sym did.counts.telling) has.1, event_goes_on g old new event reply m start least pending did has.0 has.2),
          s.step,
        ))

    pub one_through : (old new : Core D) (m : Machine) (item : Item) (reply : Reply) → StandsThrough old m → IsAnsweredOver (port_of g) old item reply new
        → (m' : Machine) × StandsThrough new m' × IsAnsweredOrRefused true item (at_core g old m) reply (at_core g new m')
    one_through old new m item reply has is =
        let h = moved StandsThrough through_on old new m item reply has is in (
          h.machine,
          h.stands,
          item_means_told item (at_core g old m) (at_core g new h.machine) reply h.calls has.0.stands.agrees h.answered h.lead (told_of old new item reply m has.0 has.1 is)
              (blocks_counted g new h.machine h.stands.0 h.stands.1),
        )

    pub through_means : (items : List Item) (replies : List Reply) (first last : Core D) (m : Machine) → StandsThrough first m → AreAnsweredOver (port_of g) first items replies last
        → (m' : Machine) × StandsThrough last m' × Session true (at_core g first m) items replies (at_core g last m')
    through_means = over_means StandsThrough through_on true
        (λ old new m item reply has is h. item_means_told item (at_core g old m) (at_core g new h.machine) reply h.calls has.0.stands.agrees h.answered h.lead (told_of old new item reply m has.0 has.1 is)
        (blocks_counted g new h.machine h.stands.0 h.stands.1))

    pub through_ingests : (todo : List Duty) (moments : Option (List ℕ)) (items : List Item) (replies : List Reply) (first last : Core D) (m : Machine) (left : List Duty) (to_tell : Option (List ℕ))
        → StandsThrough first m → FollowsOver g todo moments first items replies last left to_tell
        → (m' : Machine) × StandsThrough last m' × Follows true todo moments (at_core g first m) items replies (at_core g last m') left to_tell
    through_ingests = ingest_means StandsThrough through_on true
        (λ old new m item reply has is h. item_means_told item (at_core g old m) (at_core g new h.machine) reply h.calls has.0.stands.agrees h.answered h.lead (told_of old new item reply m has.0 has.1 is)
        (blocks_counted g new h.machine h.stands.0 h.stands.1))
        (λ core m has. held_shown core m has.0.stands.has)
