use Rattle.client_run.proofs.OwnFileLaws.{own_files}
use Rattle.client_run.proofs.laws.jobs_of_a_core_have_own_files.Goals as goal

pub returns : goal.returns
returns g c = own_files g.D.Device c.args.core.now
