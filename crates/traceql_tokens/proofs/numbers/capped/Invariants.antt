use Rattle.std.proofs.Common.{◌≡◌, min, take}
use Rattle.traceql_tokens.specs.Bytes.{decimal}
use Rattle.traceql_tokens.specs.Numbers.{LIMIT}
use Rattle.traceql_tokens.proofs.numbers.capped.Given as goal

abbrev pub invariant-loop-digit : goal.invariant-loop-digit
invariant-loop-digit l = l.number ≡ min (decimal (take l.digit-index l.digits)) LIMIT
