use Rattle.std.proofs.Common.{◌++◌, ◌∙◌, ap, sym}
use Rattle.live_traces.specs.Parts.{LiveParts}
use Rattle.live_traces.proofs.LiveRows.{both_runs}
use Rattle.live_traces.proofs.live.Live.undo_flush.Goals as goal

pub returns-clause-back : goal.returns-clause-back
returns-clause-back c =
    sym (both_runs c.self.inside.flushing c.self.inside.kept.items) ∙ ap (λ (v : LiveParts). v.flushing ++ v.head) c.self.view_is
