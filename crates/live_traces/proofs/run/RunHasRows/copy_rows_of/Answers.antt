use Rattle.std.proofs.Common.{subst, sym}
use Rattle.live_traces.specs.ByTrace.{AreByTrace}
use Rattle.live_traces.proofs.run.RunHasRows.copy_rows_of.Goals as goal

pub group_of-group-requires : goal.group_of-group-requires
group_of-group-requires c = subst AreByTrace (sym c.as_slice.ensures.rows) c.as_slice.ensures.by_trace
