use Rattle.std.proofs.Common.{◌≡◌, sym}
use Rattle.rows_by_trace.specs.Traces.{rows_of_trace}
use Rattle.query_fanout.specs.Reading.{AreOfTrace}
use Rattle.query_fanout.proofs.BlockLaws.{cause_of, finds_fit, some_rows}
use Rattle.query_fanout.proofs.trace.OneTraceOfBlock.of_block.Goals as goal

pub returns-clause-told : goal.returns-clause-told
returns-clause-told g c = λ told rows has. finds_fit (rows_of_trace c.args.self.now.0 rows) c.trace_rows.result (c.trace_rows.ensures.answers told rows has)

pub returns-clause-some : goal.returns-clause-some
returns-clause-some g c =
    some_rows (λ rows. rows_of_trace c.args.self.now.0 rows ≡ rows) (AreOfTrace c.args.self.now.0) c.trace_rows.result (λ rows same. (rows, sym same)) c.trace_rows.ensures.of_trace

pub returns-clause-only : goal.returns-clause-only
returns-clause-only g c = record {
  read = c.trace_rows.ensures.read;
  still_ready = c.trace_rows.ensures.ready;
  named = c.trace_rows.ensures.named;
  stays = c.trace_rows.ensures.stays;
  later = c.trace_rows.ensures.later;
  cause = cause_of (g.G.Pages.faults c.args.pages.now) (g.G.Pages.faults c.trace_rows.new.pages) c.trace_rows.result c.trace_rows.ensures.cause;
}
