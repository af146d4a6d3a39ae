use Rattle.compactor.proofs.FormLaws.{wants_one, wants_plain}
use Rattle.compactor.proofs.JoinLaws.{flat}
use Rattle.compactor.proofs.building.join.Goals as goal

pub join_plain-requires-clause-plain : goal.join_plain-requires-clause-plain
join_plain-requires-clause-plain c = λ other. wants_plain (flat c.args.parts.now) (c.any_rich.ensures c.if-not-any_rich.true) other

pub join_plain-requires-in-None-clause-plain : goal.join_plain-requires-in-None-clause-plain
join_plain-requires-in-None-clause-plain c = λ other. wants_one (flat c.args.parts.now) (c.in_ok-built.ensures.none c.in-None.is) other
