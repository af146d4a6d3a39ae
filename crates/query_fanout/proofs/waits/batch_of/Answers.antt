use Rattle.std.proofs.Common.{rules}
use Rattle.query_fanout.proofs.WaitLaws.{kept_above, kept_ascend, kept_only, kept_whole}
use Rattle.query_fanout.proofs.waits.batch_of.Goals as goal

pub returns-clause-ascend : goal.returns-clause-ascend
returns-clause-ascend c = kept_ascend c.args.gone c.in_ok-all.all.items c.in_ok-picks.picks.items c.in_ok-all.ensures.ascending (search rules)

pub returns-clause-whole : goal.returns-clause-whole
returns-clause-whole c = kept_whole c.args.gone c.args.picks.items c.in_ok-all.all.items c.in_ok-picks.picks.items c.in_ok-all.ensures.latest (search rules)

pub returns-clause-only : goal.returns-clause-only
returns-clause-only c = kept_only c.args.gone c.args.picks.items c.in_ok-all.all.items c.in_ok-picks.picks.items c.in_ok-all.ensures.latest (search rules)

pub returns-clause-above : goal.returns-clause-above
returns-clause-above c = kept_above c.args.gone c.in_ok-all.all.items c.in_ok-picks.picks.items (search rules)
