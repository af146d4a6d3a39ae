use Rattle.trace_shell.proofs.drilling.compact_once.Goals as goal

pub returns : goal.returns
returns g c = (c.ask-reply.result, c.is_joined.ensures, c.ask-reply.ensures)
