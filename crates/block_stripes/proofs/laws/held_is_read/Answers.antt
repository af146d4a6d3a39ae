use Rattle.block_stripes.specs.Stripes.{is_extended}
use Rattle.block_stripes.proofs.StripeLaws.{again_stripe}
use Rattle.block_stripes.proofs.laws.held_is_read.Goals as goal

pub returns : goal.returns
returns c = λ form bytes rows holds. again_stripe (is_extended form) bytes rows holds.bytes_fit holds.rows_are holds.bytes_are
