-- What a step tells of the history.
use Rattle.std.proofs.Common.{◌≡◌, ℕ, [], sym, subst, ap}
use Rattle.std.proofs.lemmas.List.{append-nil}
use Rattle.store_model.specs.History.{History, grown}
use Rattle.store_model.specs.Event.{Event, Reply}
use Rattle.store_model.specs.Step.{Machine, Step}
use Rattle.store_model.specs.Told.{history_after, TellsLength}
use Rattle.store_model.proofs.TellsHistory.{step_tells}
use Rattle.store_state.specs.Meaning.{Learns}

alone : (h : History) → h ≡ grown h []
alone h = ap (λ bs. record { base = h.base; start = h.start; entries = bs }) (sym (append-nil h.entries))

learns : (e : Event) (r : Reply) (h : History) → TellsLength e r h → Learns e r h (history_after e r h)
learns e r h t = ([], ap (λ g. history_after e r g) (alone h), subst (λ g. TellsLength e r g) (alone h) t)

pub step_learns : (before faults : ℕ) (m m' : Machine) (e : Event) (r : Reply) → Step before faults m e r m' → Learns e r m.history m'.history
step_learns before faults m m' e r step =
    let told = step_tells before faults m m' e r step in
    subst (Learns e r m.history) (sym told.0) (learns e r m.history told.1)
