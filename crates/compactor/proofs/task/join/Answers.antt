use Rattle.compactor.specs.Phases.{task_of}
use Rattle.compactor.proofs.WriteLaws.{begins_writing, can_join, from_built, from_starved}
use Rattle.compactor.proofs.task.join.Goals as goal

pub build_block-requires-clause-some : goal.build_block-requires-clause-some
build_block-requires-clause-some g c =
    (can_join g.P.LookPort.meaning c.args.reading.job c.args.reading.parts.items c.args.reading.pages c.args.reading.bytes.items c.args.port.now c.requires.is_reading c.requires.whole).some

pub build_block-requires-clause-few : goal.build_block-requires-clause-few
build_block-requires-clause-few g c =
    (can_join g.P.LookPort.meaning c.args.reading.job c.args.reading.parts.items c.args.reading.pages c.args.reading.bytes.items c.args.port.now c.requires.is_reading c.requires.whole).few

pub go_on-requires : goal.go_on-requires
go_on-requires g c =
    begins_writing g.P.LookPort.meaning c.args.reading.job c.args.reading.parts.items c.args.reading.pages c.args.reading.bytes.items c.in-Ok.block.bytes c.in-Ok.block.info c.args.port.now
    c.requires.is_reading c.requires.whole c.in-Ok.ensures

pub returns-in-Ok-clause-steps : goal.returns-in-Ok-clause-steps
returns-in-Ok-clause-steps g c =
    from_built g.P.LookPort.meaning c.args.port.now c.go_on.new.port c.args.reading.job c.args.reading.parts.items c.args.reading.pages c.args.reading.bytes.items c.in-Ok.block.bytes c.in-Ok.block.info (task_of c.go_on.result)
    c.requires.whole c.in-Ok.ensures c.requires.is_reading.at_start c.go_on.ensures.steps

pub give_up-requires : goal.give_up-requires
give_up-requires g c = c.requires.is_reading.is_open

pub returns-clause-steps : goal.returns-clause-steps
returns-clause-steps g c =
    from_starved g.P.LookPort.meaning c.args.port.now c.give_up.new.port c.args.reading.job c.args.reading.parts.items c.args.reading.pages c.args.reading.bytes.items (task_of c.give_up.result) c.give_up.ensures.steps

pub returns-clause-found : goal.returns-clause-found
returns-clause-found g c = c.give_up.ensures.found (λ tells. tt)
