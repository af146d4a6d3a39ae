use Rattle.headline.proofs.Written.{run_writes}
use Rattle.headline.proofs.laws.replies_are_written.Goals as goal

pub returns : goal.returns
returns c = run_writes
