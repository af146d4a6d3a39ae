use Rattle.std.proofs.Common.{Ok}
use Rattle.store_core.specs.Port.{port_of}
use Rattle.session_meaning.proofs.SessionLaws.{one_replied}
use Rattle.trace_shell.proofs.DrillLemmas.{made_one}
use Rattle.trace_shell.proofs.drilling.ask.Goals as goal

pub returns : goal.returns
returns g c =
    let asked = c.answer_request-reply in
    made_one g.D.Device c.args.core.now asked.new.port c.args.counts.now c.add.new.self (Ok c.args.request) asked.result
    (one_replied (port_of g.D.Device) c.args.core.now asked.new.port c.args.request asked.result asked.ensures) c.add.ensures
