use Rattle.std.proofs.Common.{rules, ◌≤◌, ℕ, ap, sym, subst}
use Rattle.shared_store.proofs.Splits.{splits}
use Rattle.shared_store.proofs.seat.PortSeat.split.Goals as goal

pub split_seat-new-requires : goal.split_seat-new-requires
split_seat-new-requires g c = (
  search rules,
  search rules,
  splits g.Q.LookPort.meaning _ _ _ (subst (λ (n : ℕ). 2 ≤ n) (ap (λ s. s.known.parts) (sym c.self.view_is)) c.requires),
)
