-- So far the list has the first members that were passed.
use Rattle.std.proofs.Common.{◌≡◌, take}
use Rattle.std.specs.List.{filter_map}
use Rattle.spanset_eval.specs.Outcomes.{at_most, hit_at}
use Rattle.spanset_eval.specs.Showing.{view_fields, view_rows}
use Rattle.spanset_eval.proofs.show.TraceView.hits.Given as goal

abbrev pub invariant-loop-position : goal.invariant-loop-position
invariant-loop-position l =
    l.hits.items ≡ at_most l.self.most (filter_map (hit_at (view_fields l.self) (view_rows l.self)) (take l.position-index l.members))
