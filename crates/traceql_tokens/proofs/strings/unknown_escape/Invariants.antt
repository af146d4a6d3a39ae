use Rattle.std.proofs.Common.{◌≡◌, ◌-◌, ◌≤◌, length}
use Rattle.traceql_tokens.specs.StringWalk.{pieces, first_unknown}
use Rattle.traceql_tokens.proofs.StringSteps.{unknown_from}
use Rattle.traceql_tokens.proofs.strings.unknown_escape.Given as goal

abbrev pub invariant-loop-at : goal.invariant-loop-at
invariant-loop-at l =
    (l.at ≤ length l.bytes) × (unknown_from l.at l.bytes ≡ first_unknown (pieces l.bytes))

abbrev pub decreases-loop-at : goal.decreases-loop-at
decreases-loop-at l = length l.bytes - l.at
