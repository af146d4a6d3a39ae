use Rattle.std.proofs.Common.{rules, refl}
use Rattle.query_fanout.proofs.PlaceLaws.{begins}
use Rattle.query_fanout.proofs.rounds.begin.Goals as goal

pub returns : goal.returns
returns c =
    begins c.args.look.now c.args.asked.now c.args.picks.items _ c.in_ok-own.own (search (rules)) (search (rules)) (search (rules)) refl (search (rules)) c.in_ok-own.ensures.ascend
    c.in_ok-own.ensures.whole c.in_ok-own.ensures.only
