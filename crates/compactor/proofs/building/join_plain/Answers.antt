use Rattle.compactor.proofs.building.join_plain.Goals as goal

pub unreachable-requires : goal.unreachable-requires
unreachable-requires c = c.requires.plain (c.in_ok-built.ensures.none c.in-None.is)
