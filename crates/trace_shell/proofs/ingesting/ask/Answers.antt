use Rattle.std.proofs.Common.{Ok, [], ◌∷◌}
use Rattle.trace_shell.proofs.IngestLemmas.{asked_one, leaves_one}
use Rattle.trace_shell.proofs.ingesting.ask.Goals as goal

pub returns-clause-made : goal.returns-clause-made
returns-clause-made g c =
    let asked = c.answer_request-reply in (
      Ok c.args.request ∷ [],
      asked.result ∷ [],
      asked_one g.D.Device c.args.core.now asked.new.port c.args.request asked.result _ _ _ _ c.write.result asked.ensures c.write.ensures.given,
      λ later told. leaves_one g.D.Device c.args.core.now asked.new.port c.args.request asked.result later told c.write.result asked.ensures,
    )
