-- What a compaction leaves that began a job and dropped it.
use Rattle.std.proofs.Common.{◌≡◌, ℕ, ◌+◌, ◌==◌, ◌||◌, Bool, true, false, not, List, [], ◌∷◌, ◌++◌, Option, Some, None, if◌then◌else◌, option_map, refl, sym, ◌∙◌, ap, subst}
use Rattle.store_model.specs.After.{after_begin_compact, after_drop_compact, chosen_job}
use Rattle.store_model.specs.Choice.{choice}
use Rattle.store_model.specs.Event.Event.{BeginCompact}
use Rattle.store_model.specs.Event.Reply.{Fine}
use Rattle.store_model.specs.State.{Compaction, IsFreeNumber, Pinned, is_among, pin_numbers, without_pin}
use Rattle.store_model.specs.Step.{IsDroppedCompact, Machine, with_state}
use Rattle.store_model.proofs.Numbers.{equal_itself}
use Rattle.session_meaning.specs.Rounds.{HasDropped}
use Rattle.session_meaning.proofs.RoundSteps.{IsFree}

-- A pin that was added under a number of its own and ended leaves the others as they were.
pins_again : (pins : List Pinned) (pin : Pinned) → is_among pin.number (pin_numbers pins) ≡ false → without_pin pin.number (pins ++ pin ∷ []) ≡ pins
pins_again [] pin h = ap (λ (t : Bool). if not t then pin ∷ [] else []) (equal_itself pin.number)
pins_again (p ∷ ps) pin h =
    elim (p.number == pin.number) as (λ t. (t || is_among pin.number (pin_numbers ps)) ≡ false
    → (if not t then p ∷ without_pin pin.number (ps ++ pin ∷ []) else without_pin pin.number (ps ++ pin ∷ [])) ≡ p ∷ ps) [
      | true ↦ λ h. cc
      | false ↦ λ h. ap (λ (xs : List Pinned). p ∷ xs) (pins_again ps pin h)
    ] h

some_job : (a b : Compaction) → Some a ≡ Some b → a ≡ b
some_job a b e = cc

not_open : (o : Option Compaction) → option_map (λ (job : Compaction). job.number) o ≡ None → o ≡ None
not_open None e = refl
not_open (Some job) e = let bad : ⊥ = cc in absurd bad

-- the store, with a job begun and its file loose, and with this compaction and these pins
abbrev with_those : Option Compaction → List Pinned → Machine → Machine
with_those o pins m = with_state (record m.state {
  compaction = o;
  pins = pins;
  loose = m.state.loose ++ m.state.next_file ∷ [];
  next_file = m.state.next_file + 1;
  begun = m.state.begun + 1;
}) m

pub dropped_after : (number pin : ℕ) (m at m' : Machine) → IsFree BeginCompact m → IsFreeNumber pin m.state.pins → at ≡ with_state (after_begin_compact pin m.state) m
    → IsDroppedCompact number at Fine m' → HasDropped m m'
dropped_after number pin m at m' has free begun_is done =
    let u = after_begin_compact pin m.state in
    let d : IsDroppedCompact number (with_state u m) Fine m' = subst (λ (x : Machine). IsDroppedCompact number x Fine m') begun_is done in
    let job : chosen_job pin m.state ≡ d.0 = some_job (chosen_job pin m.state) d.0 d.1 in
    let gone : m' ≡ with_state (after_drop_compact (chosen_job pin m.state) u) m = d.4 ∙ ap (λ (j : Compaction). with_state (after_drop_compact j u) m) (sym job) in
    let pins : without_pin pin u.pins ≡ m.state.pins = pins_again m.state.pins (record { number = pin; blocks = choice m.state.blocks }) free.is_free in record {
      writes = has.writes;
      some = has.some;
      pin = pin;
      is_free = free;
      drops = gone;
      leaves =
          gone ∙ ap (λ (ps : List Pinned). with_those None ps m) pins
          ∙ ap (λ (o : Option Compaction). with_those o m.state.pins m) (sym (not_open m.state.compaction has.closed));
    }
