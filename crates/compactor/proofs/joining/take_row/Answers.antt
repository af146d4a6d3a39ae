use Rattle.compactor.proofs.JoinLaws.{moves_first}
use Rattle.compactor.proofs.joining.take_row.Goals as goal

pub returns : goal.returns
returns c =
    moves_first _ c.in-Some.row c.args.left.now _ c.args.group.now.items c.push.new.self.items c.in-Some.is c.in_ok-row.ensures c.in_ok-push.ensures.items
