use Rattle.std.proofs.Common.{arith}
use Rattle.byte_fields.specs.Reading.{AreBytes}
use Rattle.block_read.proofs.Listed.{describes_it, names_it}
use Rattle.block_read.proofs.calls.check_bytes.Goals as goal

pub returns-clause-named : goal.returns-clause-named
returns-clause-named c =
    let fit : AreBytes c.args.bytes.now = λ i. omega (arith, c.type_inv.bytes i) in
    names_it c.args.block c.args.level c.args.rows c.args.bytes.now c.listed_info.result fit c.listed_info.ensures

pub returns-clause-described : goal.returns-clause-described
returns-clause-described c =
    let fit : AreBytes c.args.bytes.now = λ i. omega (arith, c.type_inv.bytes i) in
    describes_it c.args.block c.args.level c.args.rows c.args.bytes.now c.listed_info.result fit c.listed_info.ensures
