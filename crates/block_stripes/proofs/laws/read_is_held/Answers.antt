use Rattle.block_stripes.specs.Stripes.{is_extended}
use Rattle.block_stripes.proofs.StripeLaws.{meant_stripe}
use Rattle.block_stripes.proofs.laws.read_is_held.Goals as goal

pub returns : goal.returns
returns c = λ form bytes rows fit e. (let means = meant_stripe (is_extended form) bytes rows fit e in record { rows_are = means.0; bytes_fit = fit; bytes_are = means.1 })
