-- What is later than the moments so far is among the rest.
use Rattle.std.proofs.Common.{◌≡◌, drop, max}
use Rattle.traceql_value.specs.Spans.{latest}
use Rattle.traceql_value.proofs.whole.latest.Given as goal

abbrev pub invariant-loop-row : goal.invariant-loop-row
invariant-loop-row l = max l.latest (latest (drop l.row-index l.rows)) ≡ latest l.rows
