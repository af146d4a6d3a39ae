use Rattle.std.proofs.Common.{◌++◌, ◌∷◌, []}
use Rattle.client_run.proofs.CallLemmas.{holds_kept}
use Rattle.session_meaning.specs.Duties.{ask as to_ask, at_the_end, compact_all as to_compact_all, most_rounds}
use Rattle.session_text.specs.declared.request.Request.TheVariants.{Reclaim}
use Rattle.store_core.specs.Port.{port_of}
use Rattle.trace_shell.proofs.IngestLemmas.{asked_so, asked_then, leaves_stopped, leaves_then}
use Rattle.trace_shell.proofs.ingesting.keep_up.Goals as goal

pub compact_and_reclaim-requires-after_bounds : goal.compact_and_reclaim-requires-after_bounds
compact_and_reclaim-requires-after_bounds g c = λ κs outlives.
    let made = c.cut_and_flush.ensures.made in holds_kept (port_of g.D.Device) c.args.core.now c.cut_and_flush.new.core made.2.answered.calls made.2.answered.made c.requires

pub returns-in-Some-clause-made : goal.returns-in-Some-clause-made
returns-in-Some-clause-made g c =
    let made = c.cut_and_flush.ensures.made in (
      made.0,
      made.1,
      asked_so g.D.Device _ _ _ _ _ _ made.0 made.1 c.cut_and_flush.result _ c.in-Some.is made.2,
      λ told. leaves_stopped g.D.Device _ _ at_the_end (to_compact_all most_rounds ∷ to_ask Reclaim ∷ []) [] told told made.0 made.1 c.cut_and_flush.result c.in-Some.ending c.in-Some.is (made.3 (to_compact_all most_rounds ∷ to_ask Reclaim ∷ []) told),
    )

pub returns-in-None-clause-made : goal.returns-in-None-clause-made
returns-in-None-clause-made g c =
    let one = c.cut_and_flush.ensures.made in
    let two = c.compact_and_reclaim.ensures.made in (
      one.0 ++ two.0,
      one.1 ++ two.1,
      asked_then g.D.Device _ _ _ _ _ _ _ _ _ one.0 two.0 one.1 two.1 c.cut_and_flush.result c.compact_and_reclaim.result c.in-None.is one.2 two.2,
      λ told. leaves_then g.D.Device _ _ _ at_the_end (to_compact_all most_rounds ∷ to_ask Reclaim ∷ []) [] told told told one.0 two.0 one.1 two.1 c.cut_and_flush.result c.compact_and_reclaim.result c.in-None.is (one.3 (to_compact_all most_rounds ∷ to_ask Reclaim ∷ []) told) (two.3 told),
    )
