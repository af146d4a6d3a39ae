-- What completes the rows that are left completes all rows.
use Rattle.std.proofs.Common.{◌++◌, List, length}
use Rattle.search_answer.specs.declared.traces.TraceInRange.{TraceInRange}
use Rattle.search_answer.specs.InRange.{AreInRange}
use Rattle.search_answer.specs.Walking.{IsSorted}
use Rattle.search_answer.proofs.traces.traces_in_range.Given as goal

abbrev pub invariant-loop-rest : goal.invariant-loop-rest
invariant-loop-rest l = record {
  so_far : (more : List TraceInRange) → AreInRange l.range l.rest more → AreInRange l.range l.rows (l.found.items ++ more);
  sorted : IsSorted l.rest;
}

abbrev pub decreases-loop-rest : goal.decreases-loop-rest
decreases-loop-rest l = length l.rest
