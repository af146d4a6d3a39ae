use Rattle.std.proofs.Common.{ap, ◌∙◌}
use Rattle.span_types.specs.declared.attrs.Resource.{Resource}
use Rattle.span_types.specs.declared.attrs.Scope.{Scope}
use Rattle.byte_fields.proofs.Results.{on_ok_more}
use Rattle.block_columns.specs.ColumnEncodings.{Encoded}
use Rattle.block_stripes.proofs.StripeSteps.{rows_written}
use Rattle.block_stripes.proofs.stripe_writing.put_rows.Goals as goal

pub returns-clause-written : goal.returns-clause-written
returns-clause-written c = on_ok_more c.put_columns.result _ _ c.put_columns.ensures.written (λ last.
    rows_written c.args.extended c.args.rows.now _ _ c.args.page.now c.put_table.new.page c.put_table-2.new.page c.number.new.self c.put_columns.new.page
    (ap (λ (e : Encoded Resource). e.1) (c.resources.view_is ∙ c.requires.of_resources)) (ap (λ (e : Encoded Scope). e.1) (c.scopes.view_is ∙ c.requires.of_scopes))
    c.in_ok-put_table.ensures.written c.in_ok-put_table-2.ensures.written c.in_ok-number.ensures last)
