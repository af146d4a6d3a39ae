use Rattle.query_fanout.proofs.rounds.part_in_order.Goals as goal

pub returns-clause-parted : goal.returns-clause-parted
returns-clause-parted c = (c.in_ok-parted.parted.few.items, c.in_ok-parted.ensures.parted, c.in_ok-picks.ensures.latest, c.in_ok-picks.ensures.ascending)
