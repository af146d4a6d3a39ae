use Rattle.store_reopen.specs.Reopened.{disk_of}
use Rattle.trace_shell.proofs.StoreLemmas.{held_again}
use Rattle.trace_shell.proofs.session.reopen.Goals as goal

pub returns-clause-held : goal.returns-clause-held
returns-clause-held g c = held_again g.D.Device (disk_of c.args.store) c.args.moment c.reopen-store.result.0 c.reopen-store.result.1 c.reopen-store.ensures

pub returns-clause-done : goal.returns-clause-done
returns-clause-done g c = (c.reopen-store.result.1, c.reopened-reply.ensures, c.reopen-store.ensures)
