use Rattle.std.proofs.Common.{◌≡◌, length}
use Rattle.traceql_parse.specs.Descent.{fields, more_fields}
use Rattle.traceql_parse.proofs.stage.read_fields.Given as goal

abbrev pub invariant-items : goal.invariant-items
invariant-items l = more_fields l.list.items l.rest ≡ fields l.fn.tokens

abbrev pub decreases-items : goal.decreases-items
decreases-items l = length l.rest
