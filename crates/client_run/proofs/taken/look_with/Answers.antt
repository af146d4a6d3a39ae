use Rattle.std.proofs.Common.{true, false}
use Rattle.client_run.proofs.LookLemmas.{among_names, other_names}
use Rattle.client_run.proofs.taken.look_with.Goals as goal

pub returns-then-names-clause-named : goal.returns-then-names-clause-named
returns-then-names-clause-named c =
    among_names c.args.block c.in_ok-look.look.now.pin.blocks c.names.result true c.names.ensures c.if-names.true

pub returns-else-names-clause-none : goal.returns-else-names-clause-none
returns-else-names-clause-none c =
    other_names c.args.looks.now c.args.number c.args.block c.in_ok-look.look.now c.in_ok-look.ensures.open
    (among_names c.args.block c.in_ok-look.look.now.pin.blocks c.names.result false c.names.ensures c.if-names.false)
