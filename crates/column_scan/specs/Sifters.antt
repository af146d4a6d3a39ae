-- Private mechanism. What tests the members of a sieve.
use Rattle.std.specs.Prelude.{◌≡◌, true, [], Option, MatchOption}
use Rattle.std.specs.List.{list_all}
use Rattle.traceql_value.specs.EvalContexts.{context_patterns, context_rows}
use Rattle.column_scan.specs.declared.sifters.Tester.{Tester}
use Rattle.column_scan.specs.Sieves.{SieveParts, reads_columns}

-- The tester is of the sieve's patterns, and of no rows.
pub record IsOfSieve (sieve : SieveParts) (tester : Tester) : Type 0 where
  pub patterns : context_patterns tester.context ≡ sieve.patterns
  pub rows : context_rows tester.context ≡ []

-- There is what tests the members, unless there are none; and they ask for columns alone.
pub record IsReady (sieve : SieveParts) (tester : Option Tester) : Type 0 where
  pub columns : list_all reads_columns sieve.members ≡ true
  pub tests : MatchOption tester (sieve.members ≡ []) (IsOfSieve sieve)
