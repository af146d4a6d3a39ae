use Rattle.std.proofs.Common.{ap, ◌∙◌}
use Rattle.span_types.specs.declared.spans.Row.{Row}
use Rattle.otlp_spans.proofs.ReadsBackFits.{scope_run_fits}
use Rattle.otlp_spans.proofs.write.ScopeRunJson.run.Goals as goal

pub returns-clause-fits : goal.returns-clause-fits
returns-clause-fits c =
    scope_run_fits c.args.rows.now c.index-rows-0.result c.get.result.now c.requires (c.get.ensures ∙ ap (λ (row : Row). row.span.scope) (c.first.view_is ∙ c.index-rows-0.is))
    c.in_ok-scope.ensures.fits c.in_ok-spans.ensures.fit
