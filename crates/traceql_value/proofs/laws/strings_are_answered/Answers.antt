use Rattle.traceql_syntax.specs.Trees.{query_tree}
use Rattle.traceql_types.specs.Asked.{asked_patterns}
use Rattle.traceql_value.proofs.Answering.{made_answered}
use Rattle.traceql_value.proofs.laws.strings_are_answered.Goals as goal

pub returns : goal.returns
returns c = λ q. made_answered (asked_patterns (query_tree q.query)) q.patterns q.made
