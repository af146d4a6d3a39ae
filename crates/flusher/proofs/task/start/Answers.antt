use Rattle.flusher.specs.Phases.{task_of}
use Rattle.flusher.proofs.TaskLaws.{from_start}
use Rattle.flusher.proofs.task.start.Goals as goal

pub returns-clause-steps : goal.returns-clause-steps
returns-clause-steps g c = from_start g.P.LookPort.meaning c.args.port.now c.go_on.new.port c.args.job c.args.block.bytes c.args.block.info (task_of c.go_on.result)
    c.requires.is_writing c.requires.at_start c.go_on.ensures.steps
