use Rattle.std.proofs.Common.{◌≡◌, length, map}
use Rattle.traceql_syntax.specs.Trees.{QueryTree, set_tree, stage_tree}
use Rattle.traceql_parse.specs.Descent.{more_stages, query}
use Rattle.traceql_parse.proofs.stage.read_query.Given as goal

abbrev pub invariant-items : goal.invariant-items
invariant-items l =
    let so_far : QueryTree = record { spansets = set_tree l.spansets; stages = map stage_tree l.list.items } in
    more_stages l.inner so_far l.rest ≡ query l.fn.inner l.fn.tokens

abbrev pub decreases-items : goal.decreases-items
decreases-items l = length l.rest
