use Rattle.std.proofs.Common.{◌≡◌, ◌∙◌, ap, sym, map}
use Rattle.std.specs.List.{filter}
use Rattle.traceql_syntax.specs.Trees.{stage_tree}
use Rattle.traceql_value.specs.EvalContexts.{context_patterns, context_rows}
use Rattle.spanset_eval.specs.InContext.{filters_spanset, passes_in}
use Rattle.spanset_eval.specs.Stages.{after_stage}
use Rattle.spanset_eval.proofs.SelectLaws.{if_ok}
use Rattle.spanset_eval.proofs.stages.after_stage.Goals as goal

pub returns-in-Filter-clause-groups : goal.returns-in-Filter-clause-groups
unfolding after_stage
returns-in-Filter-clause-groups c =
    let context = c.args.context.now in
    let groups = c.args.groups.items in
    if_ok c.filter_spansets.result (λ gs. gs.items ≡ map (filters_spanset context c.in-Filter.condition) groups)
    (λ gs. gs.items ≡ after_stage (context_patterns context) (context_rows context) (stage_tree c.args.stage.now) groups)
    (λ gs e. e ∙ ap (λ s. after_stage (context_patterns context) (context_rows context) (stage_tree s) groups) (sym c.in-Filter.is)) c.filter_spansets.ensures.groups

pub returns-in-Compare-clause-groups : goal.returns-in-Compare-clause-groups
unfolding after_stage
returns-in-Compare-clause-groups c =
    let context = c.args.context.now in
    let groups = c.args.groups.items in
    if_ok c.compare.result (λ gs. gs.items ≡ filter (passes_in context c.in-Compare.left c.in-Compare.op c.in-Compare.right) groups)
    (λ gs. gs.items ≡ after_stage (context_patterns context) (context_rows context) (stage_tree c.args.stage.now) groups)
    (λ gs e. e ∙ ap (λ s. after_stage (context_patterns context) (context_rows context) (stage_tree s) groups) (sym c.in-Compare.is)) c.compare.ensures.groups
