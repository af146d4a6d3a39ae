use Rattle.std.proofs.Common.{◌≡◌, ◌∙◌, sym, map, [], ◌∷◌, ◌++◌}
use Rattle.std.proofs.lemmas.List.{map_push}
use Rattle.traceql_syntax.specs.Trees.{stage_tree}
use Rattle.traceql_parse.proofs.MetricsLoops.{stages_before_steps}
use Rattle.traceql_parse.proofs.metrics.read_query_bar.Goals as goal

pub items-preserved : goal.items-preserved
items-preserved c =
    let e : map stage_tree c.push.new.self.items ≡ map stage_tree c.items.list.items ++ stage_tree c.in_ok-stage.stage ∷ [] = rw c.in_ok-push.ensures.items (map_push _ c.items.list.items c.in_ok-stage.stage) in
    rw e (sym (stages_before_steps c.args.inner _ c.items.rest.now (stage_tree c.in_ok-stage.stage) c.in_ok-stage.after.now (sym c.stage_follows.ensures ∙ c.items-test.true) c.in_ok-stage.ensures) ∙ c.items.invariant)
