use Rattle.byte_fields.proofs.Results.{on_ok_more}
use Rattle.block_stripes.specs.StripeEncodings.{id_columns, name_columns, owner_columns, time_columns}
use Rattle.block_stripes.proofs.StripeSteps.{four_groups}
use Rattle.block_stripes.proofs.stripe_writing.put_columns.Goals as goal

pub returns-clause-written : goal.returns-clause-written
returns-clause-written c = on_ok_more c.put_owned.result _ _ c.put_owned.ensures.written (λ last.
    four_groups id_columns name_columns time_columns (owner_columns c.args.extended) c.args.rows.now c.args.page.now c.put_ids.new.page c.put_names.new.page c.put_times.new.page c.put_owned.new.page
    c.in_ok-put_ids.ensures.written c.in_ok-put_names.ensures.written c.in_ok-put_times.ensures.written last)
