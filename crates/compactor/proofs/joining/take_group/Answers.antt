use Rattle.std.proofs.Common.{◌∙◌, ap, arith}
use Rattle.compactor.proofs.JoinLaws.{flat, gathered, gathers_more, gathers_none, next_from}
use Rattle.compactor.proofs.joining.take_group.Goals as goal

pub loop-left-init : goal.loop-left-init
loop-left-init c = gathers_none c.args.trace c.args.lefts.now c.in_ok-group.group.items c.in_ok-group.ensures.items

pub take_rows-requires : goal.take_rows-requires
take_rows-requires c =
    next_from c.args.trace c.args.lefts.now c.loop-left.lefts c.loop-left.group.items c.loop-left.left-index c.left-item.result (omega arith) c.requires c.loop-left.invariant

pub loop-left-preserved : goal.loop-left-preserved
loop-left-preserved c =
    gathers_more c.args.trace c.args.lefts.now c.loop-left.lefts c.loop-left.group.items c.push.new.self.items c.loop-left.left-index c.left-item.result c.in_ok-rows.rows c.take_rows.new.left (omega arith)
    c.in_ok-rows.ensures.group c.in_ok-rows.ensures.left c.in_ok-push.ensures.items c.loop-left.invariant

pub returns-clause-group : goal.returns-clause-group
returns-clause-group c =
    ap flat c.of.ensures
    ∙ (gathered c.args.trace c.args.lefts.now c.loop-left.lefts c.loop-left.group.items c.loop-left.left-index (omega arith) c.loop-left.auto.lefts c.loop-left.invariant).taken

pub returns-clause-left : goal.returns-clause-left
returns-clause-left c =
    (gathered c.args.trace c.args.lefts.now c.loop-left.lefts c.loop-left.group.items c.loop-left.left-index (omega arith) c.loop-left.auto.lefts c.loop-left.invariant).left
