use Rattle.std.proofs.Common.{◌≡◌, ◌∙◌, sym, map, [], ◌∷◌, ◌++◌}
use Rattle.std.proofs.lemmas.List.{map_push}
use Rattle.traceql_syntax.specs.Trees.{stage_tree}
use Rattle.traceql_parse.proofs.StageLoops.{more_stages_steps}
use Rattle.traceql_parse.proofs.stage.read_query.Goals as goal

pub items-preserved : goal.items-preserved
items-preserved c =
    let e : map stage_tree c.push.new.self.items ≡ map stage_tree c.items.list.items ++ stage_tree c.in_ok-stage.stage ∷ [] = rw c.in_ok-push.ensures.items (map_push _ c.items.list.items c.in_ok-stage.stage) in
    rw e (sym (more_stages_steps c.args.inner _ c.items.rest.now (stage_tree c.in_ok-stage.stage) c.in_ok-stage.after.now (sym c.begins_with.ensures ∙ c.items-test.true) c.in_ok-stage.ensures) ∙ c.items.invariant)
