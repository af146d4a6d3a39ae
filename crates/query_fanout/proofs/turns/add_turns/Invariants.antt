-- What was added and what is left are all picks.
use Rattle.std.proofs.Common.{◌≡◌, ◌++◌, All, length}
use Rattle.std.specs.List.{flat_map}
use Rattle.column_scan.specs.Candidates.{Ascend}
use Rattle.query_fanout.proofs.turns.add_turns.Given as goal

abbrev pub invariant-loop-rest : goal.invariant-loop-rest
invariant-loop-rest l = (flat_map (λ few. few.now) l.turns.items ++ l.rest ≡ flat_map (λ few. few.now) l.fn.turns.items ++ l.picks)
    × All (λ few. Ascend few.now) l.turns.items × Ascend l.rest

abbrev pub decreases-loop-rest : goal.decreases-loop-rest
decreases-loop-rest l = length l.rest
