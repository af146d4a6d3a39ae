use Rattle.traceql_types.specs.Makers.{RegexCall, Script, ScriptedCall}
use Rattle.traceql_types.proofs.Blamed.{counted-texts}
use Rattle.traceql_types.proofs.maker.refusals_are_counted.Goals as goal

pub returns-clause-regex : goal.returns-clause-regex
returns-clause-regex c = counted-texts RegexCall (λ n. n) (λ a b call made. made.count)

pub returns-clause-scripted : goal.returns-clause-scripted
returns-clause-scripted c = counted-texts ScriptedCall (λ (s : Script). s.refusals) (λ a b call made. made.count)
