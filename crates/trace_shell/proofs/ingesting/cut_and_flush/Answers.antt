use Rattle.std.proofs.Common.{◌++◌, ◌∷◌}
use Rattle.client_run.proofs.CallLemmas.{holds_kept}
use Rattle.session_meaning.specs.Duties.{ask as to_ask}
use Rattle.session_text.specs.declared.request.Request.TheVariants.{CutAll, Flush}
use Rattle.store_core.specs.Port.{port_of}
use Rattle.trace_shell.proofs.IngestLemmas.{asked_so, asked_then, leaves_stopped, leaves_then}
use Rattle.trace_shell.proofs.ingesting.cut_and_flush.Goals as goal

pub ask-requires-in-None-after_bounds : goal.ask-requires-in-None-after_bounds
ask-requires-in-None-after_bounds g c = λ κs outlives.
    let made = c.ask.ensures.made in holds_kept (port_of g.D.Device) c.args.core.now c.ask.new.core made.2.answered.calls made.2.answered.made c.requires

pub returns-in-Some-clause-made : goal.returns-in-Some-clause-made
returns-in-Some-clause-made g c =
    let made = c.ask.ensures.made in (
      made.0,
      made.1,
      asked_so g.D.Device _ _ _ _ _ _ made.0 made.1 c.ask.result _ c.in-Some.is made.2,
      λ later told. leaves_stopped g.D.Device _ _ (to_ask CutAll ∷ to_ask Flush ∷ later) (to_ask Flush ∷ later) later told told made.0 made.1 c.ask.result c.in-Some.ending c.in-Some.is (made.3 (to_ask Flush ∷ later) told),
    )

pub returns-in-None-clause-made : goal.returns-in-None-clause-made
returns-in-None-clause-made g c =
    let one = c.ask.ensures.made in
    let two = c.ask-in-None.ensures.made in (
      one.0 ++ two.0,
      one.1 ++ two.1,
      asked_then g.D.Device _ _ _ _ _ _ _ _ _ one.0 two.0 one.1 two.1 c.ask.result c.ask-in-None.result c.in-None.is one.2 two.2,
      λ later told. leaves_then g.D.Device _ _ _ (to_ask CutAll ∷ to_ask Flush ∷ later) (to_ask Flush ∷ later) later told told told one.0 two.0 one.1 two.1 c.ask.result c.ask-in-None.result c.in-None.is (one.3 (to_ask Flush ∷ later) told) (two.3 later told),
    )
