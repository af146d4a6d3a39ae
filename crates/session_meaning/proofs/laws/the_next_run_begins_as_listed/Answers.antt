use Rattle.session_meaning.proofs.OnDisk.{begins_listed, empty_or_used, next_listed}
use Rattle.session_meaning.proofs.laws.the_next_run_begins_as_listed.Goals as goal

pub returns-clause-begins : goal.returns-clause-begins
returns-clause-begins g c = begins_listed

pub returns-clause-next_run : goal.returns-clause-next_run
returns-clause-next_run g c = λ one next first second opened again is_listed writes possible.
    next_listed g.D.Device c.args.begun.now c.args.left.now c.args.disk.now c.args.later.now one next first second opened again is_listed writes possible

pub returns-clause-in_use : goal.returns-clause-in_use
returns-clause-in_use g c = empty_or_used
