use Rattle.std.proofs.Common.{rules}
use Rattle.std.specs.Prelude.{nat_le, nat_lt}
use Rattle.query_fanout.proofs.TurnLaws.{part_ascends, two_parts_same}
use Rattle.query_fanout.proofs.turns.two_parts.Goals as goal

pub returns-clause-same : goal.returns-clause-same
returns-clause-same c = two_parts_same c.in_ok-moment.moment c.args.picks.items c.in_ok-late.late.items c.in_ok-early.early.items (search rules) (search rules)

pub returns-clause-late : goal.returns-clause-late
returns-clause-late c = part_ascends (λ p. nat_le c.in_ok-moment.moment p.latest) c.args.picks.items c.in_ok-late.late.items c.requires (search rules)

pub returns-clause-early : goal.returns-clause-early
returns-clause-early c = part_ascends (λ p. nat_lt p.latest c.in_ok-moment.moment) c.args.picks.items c.in_ok-early.early.items c.requires (search rules)
