use Rattle.std.proofs.Common.{[], ◌∷◌, sym, ◌∙◌}
use Rattle.trace_shell.proofs.DrillLemmas.{both_due, made_holds, made_then, nothing_due}
use Rattle.trace_shell.proofs.drilling.settle.Goals as goal

pub ask-flushed-requires-after_bounds : goal.ask-flushed-requires-after_bounds
ask-flushed-requires-after_bounds g c = λ κs outlives. made_holds g.D.Device _ _ _ _ _ _ c.ask-cut.ensures c.requires.holds

pub returns-then-not-is_due : goal.returns-then-not-is_due
returns-then-not-is_due g c = ([], nothing_due g.D.Device c.args.core.now c.args.counts.now c.args.index c.args.traces (sym c.is_due.ensures ∙ c.if-not-is_due.true))

pub returns : goal.returns
returns g c = (
  c.ask-cut.result ∷ c.ask-flushed.result ∷ [],
  both_due g.D.Device _ _ _ _ _ c.args.index c.args.traces (sym c.is_due.ensures ∙ c.if-not-is_due.false)
      (made_then g.D.Device _ _ _ _ _ _ _ _ _ _ c.ask-cut.ensures c.ask-flushed.ensures),
)
