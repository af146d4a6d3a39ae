use Rattle.std.proofs.Common.{subst, sym}
use Rattle.query_fanout.proofs.TurnLaws.{AddsTurns, one_more}
use Rattle.query_fanout.proofs.turns.add_turns.Goals as goal

pub loop-rest-preserved : goal.loop-rest-preserved
loop-rest-preserved c =
    subst (λ turns. AddsTurns c.args.turns.now.items c.args.picks.now turns c.split_at.result.1.now) (sym c.in_ok-push.ensures.items)
    (one_more c.args.turns.now.items c.loop-rest.turns.items c.args.picks.now c.loop-rest.rest.now c.split_at.result.1.now c.split_at.result.0 c.few_of.result c.loop-rest.invariant
    c.split_at.ensures.front c.split_at.ensures.back)
