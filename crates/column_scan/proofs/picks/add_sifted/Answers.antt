use Rattle.column_scan.proofs.Latest.{none_sifted}
use Rattle.column_scan.proofs.picks.add_sifted.Goals as goal

pub returns-else-branch-clause-found : goal.returns-else-branch-clause-found
returns-else-branch-clause-found c = none_sifted c.args.sifter.now c.args.span.now c.args.picks.now.items (cc (c.in_ok-holds.ensures.value))
