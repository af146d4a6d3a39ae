use Rattle.std.proofs.Common.{◌≡◌, length, map}
use Rattle.traceql_syntax.specs.Trees.{QueryTree, set_tree, stage_tree}
use Rattle.traceql_parse.specs.Metrics.{query_bar, stages_before}
use Rattle.traceql_parse.proofs.metrics.read_query_bar.Given as goal

abbrev pub invariant-items : goal.invariant-items
invariant-items l =
    let so_far : QueryTree = record { spansets = set_tree l.spansets; stages = map stage_tree l.list.items } in
    stages_before l.inner so_far l.rest ≡ query_bar l.fn.inner l.fn.tokens

abbrev pub decreases-items : goal.decreases-items
decreases-items l = length l.rest
