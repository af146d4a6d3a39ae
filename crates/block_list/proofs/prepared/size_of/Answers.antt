use Rattle.std.proofs.Common.{arith}
use Rattle.block_list.proofs.BodyLemmas.{length-text}
use Rattle.block_list.proofs.prepared.size_of.Goals as goal

pub returns : goal.returns
returns c = omega (arith, length-text c.args.body.now)
