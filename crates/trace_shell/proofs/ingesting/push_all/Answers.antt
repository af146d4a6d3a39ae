use Rattle.std.proofs.Common.{arith, subst}
use Rattle.std.specs.Prelude.{◌≡◌, IfSome}
use Rattle.client_run.proofs.CallLemmas.{holds_kept}
use Rattle.io_edges.specs.Lines.{taken_limit}
use Rattle.io_edges.specs.Reader.{TakesBytes}
use Rattle.session_meaning.specs.declared.ending.Ending.TheVariants.{ReadFault, Spent, WriteFault}
use Rattle.session_meaning.specs.Runs.{IsPastOpening}
use Rattle.trace_shell.proofs.AloneLemmas.{rose_from}
use Rattle.span_types.specs.Faults.{Rose}
use Rattle.store_core.specs.Port.{port_of}
use Rattle.trace_shell.specs.Ingesting.{ending_in}
use Rattle.trace_shell.specs.declared.ingesting.After.TheVariants as turn
use Rattle.trace_shell.proofs.IngestReads.{turned_begin, turned_then}
use Rattle.trace_shell.proofs.TurnLemmas.{took_none, took_on}
use Rattle.trace_shell.proofs.ingesting.push_all.Goals as goal

pub lines-init : goal.lines-init
lines-init g c = record {
  at = turned_begin g.D.Device c.args.core.now _ c.args.tally.now _ _ c.for_many-reader.result c.for_many-reader.ensures.to_read c.for_many-reader.ensures.taken;
  holds = c.requires;
  source_counted = omega arith;
  sink_counted = omega arith;
  took = took_none _ _ c.for_many-reader.ensures.taken;
}

pub lines-preserved : goal.lines-preserved
lines-preserved g c =
    let pushed = c.push_next.ensures.pushed in record {
      at = turned_then g.D.Device _ c.lines.core c.push_next.new.core _ _ _ _ _ _ _ _ _ _ _ _ c.lines.reader c.push_next.new.reader c.push_next.result turn.Line c.in-Line.is c.lines.invariant.at pushed;
      holds = holds_kept (port_of g.D.Device) c.lines.core c.push_next.new.core pushed.3.answered.calls pushed.3.answered.made c.lines.invariant.holds;
      source_counted = omega (arith, c.lines.invariant.source_counted, c.push_next.ensures.source_counted);
      sink_counted = omega (arith, c.lines.invariant.sink_counted, c.push_next.ensures.sink_counted);
      took = took_on _ _ _ 0 c.lines.reader.taken c.push_next.new.reader.taken c.lines.invariant.took c.push_next.ensures.took;
    }

pub returns-in-End-clause-pushed : goal.returns-in-End-clause-pushed
returns-in-End-clause-pushed g c =
    turned_then g.D.Device _ c.lines.core c.push_next.new.core _ _ _ _ _ _ _ _ _ _ _ _ c.lines.reader c.push_next.new.reader c.push_next.result turn.End c.in-End.is c.lines.invariant.at c.push_next.ensures.pushed

pub returns-in-Ending-clause-pushed : goal.returns-in-Ending-clause-pushed
returns-in-Ending-clause-pushed g c =
    turned_then g.D.Device _ c.lines.core c.push_next.new.core _ _ _ _ _ _ _ _ _ _ _ _ c.lines.reader c.push_next.new.reader c.push_next.result (turn.Ending c.in-Ending.ending) c.in-Ending.is
    c.lines.invariant.at c.push_next.ensures.pushed

pub returns-in-Ending-clause-spent : goal.returns-in-Ending-clause-spent
returns-in-Ending-clause-spent g c = λ is.
    let all = subst (λ t. IfSome (ending_in t) (λ e. e ≡ Spent → c.push_next.new.reader.taken ≡ taken_limit)) c.in-Ending.is c.push_next.ensures.spent in
    subst (λ n. TakesBytes (g.S.Source.left c.args.source.now) (g.S.Source.left c.push_next.new.source) 0 n) (all is)
    (took_on _ _ _ 0 c.lines.reader.taken c.push_next.new.reader.taken c.lines.invariant.took c.push_next.ensures.took)

pub returns-in-Ending-clause-endings : goal.returns-in-Ending-clause-endings
returns-in-Ending-clause-endings g c = subst (λ t. IfSome (ending_in t) IsPastOpening) c.in-Ending.is c.push_next.ensures.endings

pub returns-in-Ending-clause-write_fault : goal.returns-in-Ending-clause-write_fault
returns-in-Ending-clause-write_fault g c = λ is.
    let rose = subst (λ t. IfSome (ending_in t) (λ e. e ≡ WriteFault → Rose (g.K.Sink.faults c.lines.sink) (g.K.Sink.faults c.push_next.new.sink))) c.in-Ending.is c.push_next.ensures.write_fault in
    rose_from (g.K.Sink.faults c.args.sink.now) (g.K.Sink.faults c.lines.sink) (g.K.Sink.faults c.push_next.new.sink) c.lines.invariant.sink_counted (rose is)

pub returns-in-Ending-clause-read_fault : goal.returns-in-Ending-clause-read_fault
returns-in-Ending-clause-read_fault g c = λ is.
    let rose = subst (λ t. IfSome (ending_in t) (λ e. e ≡ ReadFault → Rose (g.S.Source.faults c.lines.source) (g.S.Source.faults c.push_next.new.source))) c.in-Ending.is c.push_next.ensures.read_fault in
    rose_from (g.S.Source.faults c.args.source.now) (g.S.Source.faults c.lines.source) (g.S.Source.faults c.push_next.new.source) c.lines.invariant.source_counted (rose is)
