use Rattle.std.proofs.Common.{arith}
use Rattle.block_stripes.proofs.laws.no_rows_have_no_bytes.Goals as goal

pub returns : goal.returns
returns c = λ form bytes holds. (let some = holds.rows_are.some in absurd (omega (arith, some)))
