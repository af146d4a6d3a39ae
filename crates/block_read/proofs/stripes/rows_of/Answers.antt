use Rattle.std.proofs.Common.{length, ap, arith}
use Rattle.block_read.proofs.stripes.rows_of.Goals as goal

pub returns-in-Ok-clause-few : goal.returns-in-Ok-clause-few
returns-in-Ok-clause-few c =
    let holds = c.read_is_held.ensures c.args.form c.args.part.now c.in-Ok.rows c.each_fits.ensures c.in-Ok.ensures in
    let few = holds.rows_are.few in
    omega (arith, few, ap length c.into_vec.ensures)
