-- So far the list has the spansets that were passed.
use Rattle.std.proofs.Common.{◌≡◌, map}
use Rattle.spanset_eval.specs.Outcomes.{cut_set, set_result}
use Rattle.spanset_eval.specs.Showing.{view_fields, view_rows}
use Rattle.spanset_eval.proofs.show.TraceView.set_results.Given as goal

abbrev pub invariant-loop-group : goal.invariant-loop-group
invariant-loop-group l =
    l.sets.items ≡ map (cut_set l.self.most) (map (set_result (view_fields l.self) (view_rows l.self)) l.yielded)
