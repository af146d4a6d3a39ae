use Rattle.std.proofs.Common.{◌*◌, ℕ, length, drop, ap, arith}
use Rattle.std.proofs.lemmas.List.{length-replicate, length-take}
use Rattle.block_read.proofs.PartLaws.{page_is}
use Rattle.block_read.proofs.memory.copy_page.Goals as goal

pub copy_front-requires : goal.copy_front-requires
copy_front-requires c = (let size = ap length c.part.ensures.part in omega (arith, size, length-take 4096 (drop (4096 * c.args.page) c.args.bytes.now), length-replicate {A = ℕ} 4096 0))

pub returns : goal.returns
returns c = page_is c.args.bytes.now c.args.page c.part.result.now _ c.part.ensures.part c.copy_front.ensures
