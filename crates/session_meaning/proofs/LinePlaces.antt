-- A line for which the store has room at its own place is done, or memory ran out; so a run of such lines ends well.
use Rattle.std.proofs.Common.{◌≡◌, ◌⊎◌, inl, inr, ◌∙◌, Bool, true, false, ℕ, List, [], ◌∷◌, ◌++◌, Some, ap, arith, length, if◌then◌else◌, refl, sym, subst}
use Rattle.std.specs.List.{list_any}
use Rattle.span_types.specs.Faults.{Rose}
use Rattle.command_words.specs.Commands.{Command, Spells}
use Rattle.session_text.specs.declared.reply.Reply.{Reply}
use Rattle.session_text.specs.declared.reply.Reply.TheVariants as told_as
use Rattle.session_text.specs.Items.{Item}
use Rattle.session_meaning.specs.declared.ending.Ending.{Ending}
use Rattle.session_meaning.specs.declared.ending.Ending.TheVariants.{Answered, Refused, Starved}
use Rattle.session_meaning.specs.Act.{Act}
use Rattle.session_meaning.specs.Act.Act.{Ask, Reopen, Unread}
use Rattle.session_meaning.specs.Done.{AreDone}
use Rattle.session_meaning.specs.LinePlaces.{AreDoneWithRoom, HasItsRoom, IsDoneWithRoom, LinePlace, WasQuiet}
use Rattle.session_meaning.specs.Place.{Place, opened_at}
use Rattle.session_meaning.specs.Runs.{ComesToItsEnd, Edges, EndsUnopened, GoesWell, HasOpened, IsRunOf, Outcome}
use Rattle.session_meaning.specs.Session.{end_of, is_for_memory, is_for_other, is_refusal, is_refused}
use Rattle.session_meaning.specs.Upkeep.{IsClosed}
use Rattle.session_meaning.proofs.EndLaws.{refused_in, run_ends}
use Rattle.session_meaning.proofs.LineRoom.{IsIdle, acts_later, its_store, line_with_room, line_without_write, one_idle, one_later, reopening_without_faults, some_act}
use Rattle.session_meaning.proofs.Places.{acts_close}
use Rattle.session_meaning.proofs.Steps.{rose_from, rose_to}

-- ---- one line

-- each line has its place
pub placed : (told : Bool) (front back : List Act) (act : Act) (earlier later : List Reply) (reply : Reply) (first last : Place) → length front ≡ length earlier
    → AreDone told first (front ++ act ∷ back) (earlier ++ reply ∷ later) last → LinePlace told first front earlier act reply back later last
placed told [] back act [] later reply first last as_many h = record { before = first; after = h.0; led = (refl, refl); done = h.1; goes_on = h.2 }
placed told [] back act (r ∷ earlier) later reply first last as_many h = let bad : ⊥ = omega (arith, as_many) in absurd bad
placed told (a ∷ front) back act [] later reply first last as_many h = let bad : ⊥ = omega (arith, as_many) in absurd bad
placed told (a ∷ front) back act (r ∷ earlier) later reply first last as_many h =
    let so = placed told front back act earlier later reply h.0 last (omega (arith, as_many)) h.2 in
    record { before = so.before; after = so.after; led = (h.0, h.1, so.led); done = so.done; goes_on = so.goes_on }

pub line_there : (front back : List Act) (item : Item) (earlier later : List Reply) (reply : Reply) (first last : Place)
    → (place : LinePlace true first front earlier (Ask item) reply back later last) → IsClosed first.store.machine
    → HasItsRoom item place.before.store.machine → WasQuiet place.before place.after → is_refusal reply ≡ is_refused item
line_there front back item earlier later reply first last place closed (inl needs) quiet =
    line_without_write item place.before.store place.after.store reply place.done.1 quiet needs
line_there front back item earlier later reply first last place closed (inr (writes, room)) quiet =
    line_with_room item place.before.store place.after.store reply place.done.1 quiet writes
    (acts_close true front earlier first place.before place.led closed writes) room

-- ---- of a run

-- a store that was opened writes, and has no job open
opened_idle : (o : Outcome) (old new : Edges) → HasOpened o old new → IsIdle o.first.machine
opened_idle o old new opened =
    let begins = opened.begins in
    record { writes = begins.writes; closed = record { flush = begins.flush; compaction = begins.compaction } }

pub run_line : (words : List (List ℕ)) (c : Command) (o : Outcome) (old new : Edges) → Spells words c → IsRunOf true words o old new
    → (front back : List Act) (item : Item) (earlier later : List Reply) (reply : Reply) → o.acts ≡ front ++ Ask item ∷ back → o.replies ≡ earlier ++ reply ∷ later
    → length front ≡ length earlier
    → (place : LinePlace true (opened_at o.first) front earlier (Ask item) reply back later o.last)
    × (HasItsRoom item place.before.store.machine → WasQuiet place.before place.after → is_refusal reply ≡ is_refused item)
run_line words c o old new spells run front back item earlier later reply acts replies as_many = elim (run.does c spells) [
  | inl did ↦
      (let idle = opened_idle o old new did.1 in
      let done : AreDone true (opened_at o.first) (front ++ Ask item ∷ back) (earlier ++ reply ∷ later) o.last =
      subst (λ (as_done : List Act). AreDone true (opened_at o.first) as_done (earlier ++ reply ∷ later) o.last) acts
      (subst (λ (rs : List Reply). AreDone true (opened_at o.first) o.acts rs o.last) replies run.session) in
      let place = placed true front back (Ask item) earlier later reply (opened_at o.first) o.last as_many done in
      (place, λ room quiet. line_there front back item earlier later reply (opened_at o.first) o.last place (λ writes. idle.closed) room quiet))
  | inr not ↦ absurd (some_act front back (Ask item) (sym acts ∙ not.1.no_acts))
]

-- ---- lines that all are in order and have room

all_done : (acts : List Act) (replies : List Reply) (first last : Place) → AreDoneWithRoom first acts replies last → AreDone true first acts replies last
all_done [] replies first last h = h
all_done (a ∷ more) [] first last h = absurd h
all_done (a ∷ more) (r ∷ rs) first last h = (h.0, h.1.0, all_done more rs h.0 last h.2)

act_plain : (act : Act) (before after : Place) (r : Reply) → IsDoneWithRoom act before r after → (Rose before.store.faults after.store.faults → ⊥) → IsIdle before.store.machine
    → is_refusal r ≡ false
act_plain (Ask item) before after r h quiet idle = line_with_room item before.store after.store r h.0.1 quiet idle.writes idle.closed h.1.1 ∙ h.1.0
act_plain (Reopen moment) before after (told_as.Reopened entries) h quiet idle = refl
act_plain (Reopen moment) before after (told_as.Refused why) h quiet idle = ap is_for_other (reopening_without_faults moment before after why h.0 quiet)
act_plain (Reopen moment) before after _ h quiet idle = absurd h.0
act_plain Unread before after r h quiet idle = absurd h.1

acts_plain : (acts : List Act) (replies : List Reply) (first last : Place) → AreDoneWithRoom first acts replies last → (Rose first.store.faults last.store.faults → ⊥)
    → IsIdle first.store.machine → list_any is_refusal replies ≡ false
acts_plain [] replies first last h quiet idle = ap (list_any is_refusal) h.0
acts_plain (a ∷ more) [] first last h quiet idle = absurd h
acts_plain (a ∷ more) (r ∷ rs) first last h quiet idle =
    let mid = h.0 in
    let here = one_later a first mid r h.1.0 in
    let rest = acts_later more rs mid last (all_done more rs mid last h.2) in
    let now : Rose first.store.faults mid.store.faults → ⊥ = λ rose. quiet (rose_to first.store.faults mid.store.faults last.store.faults rose rest) in
    let on = one_idle a first mid r h.1.0 now idle in
    let plain : is_refusal r ≡ false = act_plain a first mid r h.1 now idle in
    let later : list_any is_refusal rs ≡ false =
    acts_plain more rs mid last h.2 (λ rose. quiet (rose_from first.store.faults mid.store.faults last.store.faults here rose)) on in
    rw (plain, later) refl

end_plain : (replies : List Reply) → list_any is_refusal replies ≡ false → end_of replies ≡ Refused → ⊥
end_plain replies none e = go (list_any is_refusal replies) (list_any is_for_memory replies) none e
  where
    go : (a b : Bool) → a ≡ false → (if a then Refused else if b then Starved else Answered) ≡ Refused → ⊥
    go true b e f = cc
    go false true e f = cc
    go false false e f = cc

pub run_ends_by_lines : (words : List (List ℕ)) (c : Command) (o : Outcome) (old new : Edges) → Spells words c → IsRunOf true words o old new → GoesWell c old new
    → (before : List ℕ) → old.taken ≡ Some before → AreDoneWithRoom (opened_at o.first) o.acts o.replies o.last → (o.ending ≡ Answered) ⊎ (o.ending ≡ Starved)
run_ends_by_lines words c o old new spells run well before taken lines = go (run_ends true words o old new run c spells well)
  where
    quiet : HasOpened o old new → Rose o.first.faults o.last.store.faults → ⊥
    quiet opened rose = (its_store c old new well).3
        (subst (λ (n : ℕ). Rose n new.disk_faults) opened.first_faults (subst (λ (n : ℕ). Rose o.first.faults n) opened.last_faults rose))

    plain : HasOpened o old new → list_any is_refusal o.replies ≡ false
    plain opened = acts_plain o.acts o.replies (opened_at o.first) o.last lines (quiet opened) (opened_idle o old new opened)

    never : o.ending ≡ Refused → ⊥
    never e = elim (run.does c spells) [
      | inl did ↦ end_plain o.replies (plain did.1) (refused_in true words o old new run c well before taken did.3 e)
      | inr not ↦ subst (λ (k : Ending). EndsUnopened k old new.taken) e not.1.ends
    ]

    go : ComesToItsEnd o.ending → (o.ending ≡ Answered) ⊎ (o.ending ≡ Starved)
    go (inl e) = inl e
    go (inr (inl e)) = inr e
    go (inr (inr e)) = absurd (never e)
