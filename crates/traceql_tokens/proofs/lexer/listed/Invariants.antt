use Rattle.std.proofs.Common.{◌-◌, ◌++◌, List, length, drop}
use Rattle.std.specs.Str.{IsCharBoundary}
use Rattle.traceql_tokens.specs.Tokens.{AreTokensOf}
use Rattle.traceql_tokens.specs.declared.kinds.Token.{Token}
use Rattle.traceql_tokens.proofs.lexer.listed.Given as goal

abbrev pub invariant-loop-at : goal.invariant-loop-at
invariant-loop-at l =
    IsCharBoundary l.text l.at × ((ts : List Token) → AreTokensOf l.words l.at (drop l.at l.text) ts → AreTokensOf l.words 0 l.text (l.found.items ++ ts))

abbrev pub decreases-loop-at : goal.decreases-loop-at
decreases-loop-at l = length l.text - l.at
