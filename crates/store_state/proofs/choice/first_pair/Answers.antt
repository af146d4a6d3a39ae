use Rattle.std.proofs.Common.{arith}
use Rattle.store_state.proofs.Choosing.{pair_in}
use Rattle.store_state.proofs.choice.first_pair.Goals as goal

pub returns-clause-within : goal.returns-clause-within
returns-clause-within c = pair_in c.loop-at.pairing.level c.loop-at.at c.args.blocks.now c.loop-at.pairing.found (omega arith) c.loop-at.invariant.pairing.found
