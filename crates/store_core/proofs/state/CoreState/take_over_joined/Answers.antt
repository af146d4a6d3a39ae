use Rattle.std.proofs.Common.{◌∙◌, ℕ, ◌-◌, ◌*◌, List, length, take, ap, arith}
use Rattle.store_core.specs.Jobs.{one_if}
use Rattle.store_core.proofs.state.CoreState.take_over_joined.Goals as goal

pub end_compact-requires-clause-other : goal.end_compact-requires-clause-other
end_compact-requires-clause-other c =
    let len = ap (λ (l : List ℕ). length l) c.as_slice.ensures in
    let some = c.requires.other in
    omega (arith, len, some)

pub end_compact-requires-clause-room : goal.end_compact-requires-clause-room
end_compact-requires-clause-room c =
    let len = ap (λ (l : List ℕ). length l) c.as_slice.ensures in
    let few = c.requires.loose in
    omega (arith, len, few)

pub returns-clause-jobs : goal.returns-clause-jobs
returns-clause-jobs c = let e = c.end_compact.ensures in (e.gone, e.same.2, e.same.0, e.same.1)

pub returns-clause-loose : goal.returns-clause-loose
returns-clause-loose c = c.end_compact.ensures.loose ∙ ap (λ (l : List ℕ). take (length l - 2 * one_if c.args.self.now.jobs.flush) l) c.as_slice.ensures
