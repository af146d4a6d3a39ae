-- A run in which no call failed comes to its own end.
use Rattle.std.proofs.Common.{◌≡◌, ◌⊎◌, inl, inr, ◌∙◌, ℕ, ◌+◌, ◌≤◌, Bool, true, false, List, Option, Some, None, ap, arith, length, length-append, map, refl, subst, sym, if◌then◌else◌}
use Rattle.std.specs.Prelude.{IfSome}
use Rattle.std.specs.List.{list_any}
use Rattle.clap.specs.Words.{Kinds}
use Rattle.command_words.specs.Commands.{Alone, Command, Drill as drill, Ingest as ingest, Serve as serve, Session as session, Spells}
use Rattle.command_words.proofs.Spelled.{spelled_clean}
use Rattle.disk_model.specs.Images.{Image}
use Rattle.disk_model.proofs.CallRuns.{raised_rose}
use Rattle.io_edges.specs.Lines.{taken_limit}
use Rattle.io_edges.specs.Reader.{TakesBytes}
use Rattle.session_text.specs.declared.reply.Reply.{Reply}
use Rattle.session_meaning.specs.declared.ending.Ending.{Ending}
use Rattle.session_meaning.specs.declared.ending.Ending.TheVariants.{Answered, BadWords, NotOpened, NotStore, ReadFault, Refused, Spent, Starved, WriteFault}
use Rattle.session_text.specs.Items.{Item}
use Rattle.session_meaning.specs.Act.{Act}
use Rattle.session_meaning.specs.Act.Act.{Ask}
use Rattle.session_meaning.specs.Asked.{after_moment}
use Rattle.session_meaning.specs.Done.{AreDone}
use Rattle.session_meaning.specs.Drill.{CameThrough, EndsDrilling}
use Rattle.session_meaning.specs.Place.{opened_at}
use Rattle.session_meaning.specs.Pushes.{HasRoomFor}
use Rattle.session_meaning.specs.Runs.{ComesToItsEnd, DoesInStore, Edges, EndsUnopened, FitsWords, GoesWell, HasAnswered, HasCause, HasIngested, HasItsStore, HasRun, IsNoStore, IsRunOf, NeedsNoSource, Outcome, ReadsWell}
use Rattle.session_meaning.specs.Session.{Ends, EndsAlone, Session, end_of, is_for_memory, is_refusal, is_refused}
use Rattle.session_meaning.proofs.Acts.{asks_session}
use Rattle.session_meaning.proofs.Room.{replies_plain}

-- As many bytes as were taken are in the text.
pub taken_within : (text : List ℕ) (left : Option (List ℕ)) (taken : ℕ) → TakesBytes (Some text) left 0 taken → taken ≤ length text
taken_within text None taken took = absurd took.1
taken_within text (Some xs) taken took =
    let sizes : length text ≡ length took.0 + length xs = ap length took.1 ∙ length-append took.0 xs in
    omega (arith, sizes, took.2)

pub by_ending : (e : Ending) → (e ≡ BadWords → ⊥) → (e ≡ WriteFault → ⊥) → (e ≡ ReadFault → ⊥) → (e ≡ NotOpened → ⊥) → ((file at : ℕ) → e ≡ NotStore file at → ⊥) → (e ≡ Spent → ⊥) → ComesToItsEnd e
by_ending Answered b w r n x s = inl refl
by_ending Starved b w r n x s = inr (inl refl)
by_ending Refused b w r n x s = inr (inr refl)
by_ending BadWords b w r n x s = absurd (b refl)
by_ending WriteFault b w r n x s = absurd (w refl)
by_ending ReadFault b w r n x s = absurd (r refl)
by_ending NotOpened b w r n x s = absurd (n refl)
by_ending (NotStore file at) b w r n x s = absurd (x file at refl)
by_ending Spent b w r n x s = absurd (s refl)

-- words that ask something aren't told to be faulty
not_bad : (sure : Bool) (words : List (List ℕ)) (c : Command) (o : Outcome) (old new : Edges) → Spells words c → IsRunOf sure words o old new → o.ending ≡ BadWords → ⊥
not_bad sure words c o old new s run = subst (λ (k : Kinds). FitsWords k o.ending) (spelled_clean words c s) run.words_fit

-- a drill ends only as it may
ends_elsewhere : (seed traces : ℕ) (e ending : Ending) (told : Option (List ℕ)) (items : List Item) (replies : List Reply) (refused : List (List ℕ)) (to_tell old_taken taken : Option (List ℕ))
    → (EndsDrilling e replies old_taken taken → ⊥) → (Starved ≡ e → ⊥) → CameThrough seed traces ending told items replies refused to_tell old_taken taken → ending ≡ e → ⊥
ends_elsewhere seed traces e ending told items replies refused to_tell old_taken taken none other (inl (all, ends)) is =
    none (subst (λ (k : Ending). EndsDrilling k replies old_taken taken) is ends)
ends_elsewhere seed traces e ending told items replies refused to_tell old_taken taken none other (inr (halt, starved, same)) is = other (sym starved ∙ is)

-- where a drill ends with a refusal, one is among the replies
refused_among : (seed traces : ℕ) (ending : Ending) (told : Option (List ℕ)) (items : List Item) (replies : List Reply) (refused : List (List ℕ)) (to_tell old_taken taken : Option (List ℕ))
    → CameThrough seed traces ending told items replies refused to_tell old_taken taken → ending ≡ Refused → end_of replies ≡ Refused
refused_among seed traces ending told items replies refused to_tell old_taken taken (inl (all, ends)) is =
    (subst (λ (k : Ending). EndsDrilling k replies old_taken taken) is ends).1
refused_among seed traces ending told items replies refused to_tell old_taken taken (inr (halt, starved, same)) is =
    let bad : Starved ≡ Refused = sym starved ∙ is in let no : ⊥ = cc in absurd no

module _ (sure : Bool) (words : List (List ℕ)) (o : Outcome) (old new : Edges) (run : IsRunOf sure words o old new) where
  caused : (e : Ending) → o.ending ≡ e → HasCause e old new
  caused e is = subst (λ (k : Ending). HasCause k old new) is run.cause

  -- a store that is one is opened where no call of the disk fails
  opens : HasItsStore old new → o.ending ≡ NotOpened → ⊥
  opens store is = store.3 (raised_rose old.disk_faults new.disk_faults (caused NotOpened is).0)

  is_store : HasItsStore old new → (file at : ℕ) → o.ending ≡ NotStore file at → ⊥
  is_store store file at is = (subst (λ (held : Option Image). IsNoStore file at held) store.1 (caused (NotStore file at) is)).1 store.2

  -- a command that reads the source
  source_ends : (c : Command) → Spells words c → ReadsWell old new → ComesToItsEnd o.ending
  source_ends c s well =
      by_ending o.ending (not_bad sure words c o old new s run)
      (λ is. well.1 (caused WriteFault is))
      (λ is. well.2 (caused ReadFault is))
      (opens well.0) (is_store well.0)
      (λ is. let took : TakesBytes old.left new.left 0 taken_limit = caused Spent is in
      let most = taken_within well.3 new.left taken_limit (subst (λ (l : Option (List ℕ)). TakesBytes l new.left 0 taken_limit) well.4 took) in
      let less = well.5 in
      absurd (omega (arith, most, less)))

  pub run_ends : (c : Command) → Spells words c → GoesWell c old new → ComesToItsEnd o.ending
  run_ends session s well = source_ends session s well
  run_ends ingest s well = source_ends ingest s well
  run_ends (serve clients rounds) s well = source_ends (serve clients rounds) s well
  run_ends (drill seed traces) s well =
      by_ending o.ending (not_bad sure words (drill seed traces) o old new s run)
      (λ is. well.1 (caused WriteFault is))
      (λ is. drilled_so ReadFault is (λ d. d) (λ s. let bad : ⊥ = cc in bad) (λ u. u))
      (opens well.0) (is_store well.0)
      (λ is. drilled_so Spent is (λ d. d) (λ s. let bad : ⊥ = cc in bad) (λ u. u))
    where
      drilled_so : (e : Ending) → o.ending ≡ e → (EndsDrilling e o.replies old.taken new.taken → ⊥) → (Starved ≡ e → ⊥) → (EndsUnopened e old new.taken → ⊥) → ⊥
      drilled_so e is none other unopened = elim (run.does (drill seed traces) s) [
        | inl did ↦ ends_elsewhere seed traces e o.ending (after_moment old.moments) did.3.items o.replies o.refused new.moments old.taken new.taken none other did.3.came is
        | inr not ↦ unopened (subst (λ (k : Ending). EndsUnopened k old new.taken) is not.1.ends)
      ]
  run_ends (Alone line) s well =
      by_ending o.ending (not_bad sure words (Alone line) o old new s run)
      (λ is. well.1 (caused WriteFault is))
      (λ is. without_source ReadFault is (λ n. n) (λ u. u))
      (opens well.0) (is_store well.0)
      (λ is. without_source Spent is (λ n. n) (λ u. u))
    where
      without_source : (e : Ending) → o.ending ≡ e → (NeedsNoSource e → ⊥) → (EndsUnopened e old new.taken → ⊥) → ⊥
      without_source e is none unopened = elim (run.does (Alone line) s) [
        | inl did ↦ none (subst NeedsNoSource is did.3.0)
        | inr not ↦ unopened (subst (λ (k : Ending). EndsUnopened k old new.taken) is not.1.ends)
      ]

  -- ---- where nothing is refused

  end_plain : (replies : List Reply) → list_any is_refusal replies ≡ false → end_of replies ≡ Refused → ⊥
  end_plain replies none e = go (list_any is_for_memory replies) (rw none at e)
    where
      go : (b : Bool) → (if b then Starved else Answered) ≡ Refused → ⊥
      go true e = cc
      go false e = cc

  refused_session : (text before : List ℕ) → HasRun text before o old new → o.ending ≡ Refused → end_of o.replies ≡ Refused
  refused_session text before did e =
      (subst (λ (k : Ending). Ends k text did.later new.left before o.replies new.taken) e did.ends).1

  refused_ingest : (text before : List ℕ) → HasIngested sure text before o old new → o.ending ≡ Refused → end_of o.replies ≡ Refused
  refused_ingest text before did e =
      (subst (λ (k : Ending). Ends k text did.later new.left before o.replies new.taken) e did.ends).1

  refused_alone : (line before : List ℕ) → HasAnswered line before o old new → o.ending ≡ Refused → end_of o.replies ≡ Refused
  refused_alone line before did e =
      ap end_of did.replies_are ∙ (subst (λ (k : Ending). EndsAlone k before did.reply new.taken) e did.ends).1

  -- a refusal is among the replies
  pub refused_in : (c : Command) → GoesWell c old new → (before : List ℕ) → old.taken ≡ Some before → DoesInStore sure c o old new → o.ending ≡ Refused → end_of o.replies ≡ Refused
  refused_in session well before told does e =
      let at_text : IfSome (Some well.3) (λ text. IfSome old.taken (λ b. HasRun text b o old new)) =
      subst (λ (l : Option (List ℕ)). IfSome l (λ text. IfSome old.taken (λ b. HasRun text b o old new))) well.4 does in
      refused_session well.3 before (subst (λ (t : Option (List ℕ)). IfSome t (λ b. HasRun well.3 b o old new)) told at_text) e
  refused_in ingest well before told does e =
      let at_text : IfSome (Some well.3) (λ text. IfSome old.taken (λ b. HasIngested sure text b o old new)) =
      subst (λ (l : Option (List ℕ)). IfSome l (λ text. IfSome old.taken (λ b. HasIngested sure text b o old new))) well.4 does in
      refused_ingest well.3 before (subst (λ (t : Option (List ℕ)). IfSome t (λ b. HasIngested sure well.3 b o old new)) told at_text) e
  refused_in (serve clients rounds) well before told does e = absurd does
  refused_in (drill seed traces) well before told does e =
      refused_among seed traces o.ending (after_moment old.moments) does.items o.replies o.refused new.moments old.taken new.taken does.came e
  refused_in (Alone line) well before told does e =
      refused_alone line before (subst (λ (t : Option (List ℕ)). IfSome t (λ b. HasAnswered line b o old new)) told does.1) e

  store_well : (c : Command) → GoesWell c old new → HasItsStore old new
  store_well session well = well.0
  store_well ingest well = well.0
  store_well (serve clients rounds) well = well.0
  store_well (drill seed traces) well = well.0
  store_well (Alone line) well = well.0

  pub run_ends_well : sure ≡ true → (c : Command) → Spells words c → GoesWell c old new → (before : List ℕ) → old.taken ≡ Some before → (items : List Item) → o.acts ≡ map Ask items
      → list_any is_refused items ≡ false → HasRoomFor items o.first.machine → (o.ending ≡ Answered) ⊎ (o.ending ≡ Starved)
  run_ends_well is_true c s well before told items are none room = go (run_ends c s well)
    where
      all : Session true o.first items o.replies o.last.store
      all = asks_session true items o.replies (opened_at o.first) o.last
          (subst (λ (b : Bool). AreDone b (opened_at o.first) (map Ask items) o.replies o.last) is_true
          (subst (λ (as_done : List Act). AreDone sure (opened_at o.first) as_done o.replies o.last) are run.session))

      never : o.ending ≡ Refused → ⊥
      never e = elim (run.does c s) [
        | inl did ↦ end_plain o.replies (replies_plain o.first o.last.store items o.replies old.disk_faults new.disk_faults all (let first = did.1.first_faults in omega (arith, first)) did.1.last_faults (store_well c well).3 room none) (refused_in c well before told did.3 e)
        | inr not ↦ subst (λ (k : Ending). EndsUnopened k old new.taken) e not.1.ends
      ]

      go : ComesToItsEnd o.ending → (o.ending ≡ Answered) ⊎ (o.ending ≡ Starved)
      go (inl e) = inl e
      go (inr (inl e)) = inr e
      go (inr (inr e)) = absurd (never e)
