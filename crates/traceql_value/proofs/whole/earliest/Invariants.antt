-- What is earlier than the starts so far is among the rest.
use Rattle.std.proofs.Common.{◌≡◌, drop}
use Rattle.traceql_value.specs.Spans.{earliest}
use Rattle.traceql_value.proofs.whole.earliest.Given as goal

abbrev pub invariant-loop-row : goal.invariant-loop-row
invariant-loop-row l = earliest l.earliest (drop l.row-index l.rows) ≡ earliest l.known l.rows
