use Rattle.std.proofs.Common.{◌≡◌, ◌∙◌, [], None, Some, arith, sym}
use Rattle.std.proofs.lemmas.List.{nil_from_length}
use Rattle.client_run.proofs.CallLemmas.{holds_kept}
use Rattle.store_core.specs.Port.{port_of}
use Rattle.trace_shell.proofs.AloneLemmas.{rose_from}
use Rattle.trace_shell.proofs.IngestWindows.{pushed_all, pushed_till, pushing_begins, pushing_on}
use Rattle.trace_shell.proofs.ingesting.push_window.Goals as goal

pub loop-line-init : goal.loop-line-init
loop-line-init g c = record {
  so_far = pushing_begins g.D.Device c.args.core.now _ c.args.tally.now _ c.args.window.items c.into_iter-line-iterator.result.rest.items c.into_iter-line-iterator.ensures.into_iter_gives.0;
  holds = c.requires;
  sink_counted = omega arith;
}

pub loop-line-preserved : goal.loop-line-preserved
loop-line-preserved g c =
    let pushed = c.push_line.ensures.pushed in record {
      so_far = pushing_on g.D.Device c.args.core.now c.loop-line.core c.push_line.new.core _ _ _ _ _ _ _ _ _ c.args.window.items c.loop-line.line-iterator.rest.items c.next.new.self.rest.items c.in-Some.line c.push_line.result None
          c.in-Some.ensures.steps.0 c.in_default.is c.loop-line.invariant.so_far pushed;
      holds = holds_kept (port_of g.D.Device) c.loop-line.core c.push_line.new.core pushed.2.answered.calls pushed.2.answered.made c.loop-line.invariant.holds;
      sink_counted = omega (arith, c.loop-line.invariant.sink_counted, c.push_line.ensures.sink_counted);
    }

pub returns-in-Some-push_line-clause-pushed : goal.returns-in-Some-push_line-clause-pushed
returns-in-Some-push_line-clause-pushed g c =
    pushed_till g.D.Device c.args.core.now c.push_line.new.core _ _ _ _ _ _ c.args.window.items c.next.new.self.rest.items c.in-Some-push_line.ending
    (pushing_on g.D.Device c.args.core.now c.loop-line.core c.push_line.new.core _ _ _ _ _ _ _ _ _ c.args.window.items c.loop-line.line-iterator.rest.items c.next.new.self.rest.items c.in-Some.line c.push_line.result (Some c.in-Some-push_line.ending)
    c.in-Some.ensures.steps.0 c.in-Some-push_line.is c.loop-line.invariant.so_far c.push_line.ensures.pushed)

pub returns-in-Some-push_line-clause-write_fault : goal.returns-in-Some-push_line-clause-write_fault
returns-in-Some-push_line-clause-write_fault g c = λ is.
    rose_from (g.K.Sink.faults c.args.sink.now) (g.K.Sink.faults c.loop-line.sink) (g.K.Sink.faults c.push_line.new.sink) c.loop-line.invariant.sink_counted (c.in-Some-push_line.ensures.write_fault is)

pub returns-clause-pushed : goal.returns-clause-pushed
returns-clause-pushed g c =
    let rest = c.loop-line.line-iterator.rest.items in
    let none : rest ≡ [] = nil_from_length rest (sym c.loop-line.line-iterator.rest.ok.0 ∙ c.in-None.ensures.steps.0) in
    pushed_all g.D.Device c.args.core.now c.loop-line.core _ _ _ _ _ _ c.args.window.items rest none c.loop-line.invariant.so_far
