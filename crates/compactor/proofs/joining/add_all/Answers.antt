use Rattle.std.proofs.Common.{sym, ◌∙◌}
use Rattle.compactor.proofs.JoinLaws.{adding_begins, adding_ends, adding_more}
use Rattle.compactor.proofs.joining.add_all.Goals as goal

pub loop-row-init : goal.loop-row-init
loop-row-init c =
    adding_begins c.args.rows c.args.builder.now c.into_iter-row-iterator.result.rest.items (c.into_iter-row-iterator.ensures.into_iter_gives.0 ∙ c.into_vec-row-items.ensures)

pub loop-row-preserved : goal.loop-row-preserved
loop-row-preserved c =
    adding_more c.args.rows c.args.builder.now c.loop-row.builder c.add.new.self c.loop-row.row-iterator.rest.items c.next.new.self.rest.items c.in-Some.row c.in-Some.ensures.steps.0
    c.in_ok-add.ensures.takes c.in_ok-add.ensures.form c.loop-row.invariant

pub returns-clause-form : goal.returns-clause-form
returns-clause-form c = c.loop-row.invariant.form

pub returns-clause-takes : goal.returns-clause-takes
returns-clause-takes c =
    adding_ends c.args.rows c.args.builder.now c.loop-row.builder c.loop-row.row-iterator.rest.items (sym c.loop-row.row-iterator.rest.ok.0 ∙ c.in-None.ensures.steps.0) c.loop-row.invariant
