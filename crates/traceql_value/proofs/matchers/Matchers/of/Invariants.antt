-- So far each string's first pattern has its search.
use Rattle.std.proofs.Common.{take}
use Rattle.traceql_value.specs.Matchers.{AreSearches, all_known}
use Rattle.traceql_value.proofs.matchers.Matchers.of.Given as goal

abbrev pub invariant-loop-pattern : goal.invariant-loop-pattern
invariant-loop-pattern l = AreSearches (take l.pattern-index l.patterns) (all_known l.searches.items) l.numbers
