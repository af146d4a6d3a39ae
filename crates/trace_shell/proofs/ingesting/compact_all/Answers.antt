use Rattle.std.proofs.Common.{◌≡◌, ◌<◌, ◌-◌, ◌+◌, ◌∙◌, arith, ap, sym, subst}
use Rattle.std.specs.Prelude.{IfOk}
use Rattle.client_run.proofs.CallLemmas.{holds_kept}
use Rattle.session_meaning.specs.Duties.{most_rounds}
use Rattle.session_meaning.specs.Ingest.{is_joined}
use Rattle.store_core.specs.Port.{port_of}
use Rattle.trace_shell.specs.Ingesting.{stopped_in}
use Rattle.trace_shell.proofs.IngestLemmas.{compacting_again, compacting_begins, compacting_done, compacting_over, compacting_stopped}
use Rattle.trace_shell.proofs.ingesting.compact_all.Goals as goal

pub rounds-init : goal.rounds-init
rounds-init g c = record {
  made = compacting_begins g.D.Device c.args.core.now _ c.args.tally.now;
  holds = c.requires;
  sink_counted = omega arith;
}

pub rounds-preserved : goal.rounds-preserved
rounds-preserved g c =
    let once = c.compact_once.ensures.made in
    let n = c.rounds.counter in
    let some : 0 < most_rounds - n = omega (arith, c.rounds-test.true) in
    let next : most_rounds - n - 1 ≡ most_rounds - (n + 1) = omega arith in
    let told = subst (λ r. IfOk r (λ joined. joined ≡ is_joined once.0)) c.in-Ok-true.is once.2 in record {
      made = compacting_again g.D.Device c.args.core.now c.rounds.core c.compact_once.new.core _ _ _ _ c.rounds.tally c.compact_once.new.tally (most_rounds - n) (most_rounds - (n + 1)) once.0
          (stopped_in c.compact_once.result) (ap stopped_in c.in-Ok-true.is) some next (sym told ∙ c.in-Ok-true.field-0-test) c.rounds.invariant.made (once.1, once.3);
      holds = holds_kept (port_of g.D.Device) c.rounds.core c.compact_once.new.core once.1.answered.calls once.1.answered.made c.rounds.invariant.holds;
      sink_counted = omega (arith, c.rounds.invariant.sink_counted, c.compact_once.ensures.sink_counted);
    }

pub returns-in-Ok-false-clause-made : goal.returns-in-Ok-false-clause-made
returns-in-Ok-false-clause-made g c =
    let once = c.compact_once.ensures.made in
    let some : 0 < most_rounds - c.rounds.counter = omega (arith, c.rounds-test.true) in
    let told = subst (λ r. IfOk r (λ joined. joined ≡ is_joined once.0)) c.in-Ok-false.is once.2 in
    compacting_over g.D.Device c.args.core.now c.rounds.core c.compact_once.new.core _ _ _ _ c.rounds.tally c.compact_once.new.tally (most_rounds - c.rounds.counter) once.0
    (stopped_in c.compact_once.result) (ap stopped_in c.in-Ok-false.is) some (sym told ∙ c.in-Ok-false.field-0-test) c.rounds.invariant.made (once.1, once.3)

pub returns-in-Err-clause-made : goal.returns-in-Err-clause-made
returns-in-Err-clause-made g c =
    let once = c.compact_once.ensures.made in
    let some : 0 < most_rounds - c.rounds.counter = omega (arith, c.rounds-test.true) in
    compacting_stopped g.D.Device c.args.core.now c.rounds.core c.compact_once.new.core _ _ _ _ c.rounds.tally c.compact_once.new.tally (most_rounds - c.rounds.counter) once.0
    (stopped_in c.compact_once.result) c.in-Err.ending (ap stopped_in c.in-Err.is) some c.rounds.invariant.made (once.1, once.3)

pub returns-clause-made : goal.returns-clause-made
returns-clause-made g c =
    let none : most_rounds - c.rounds.counter ≡ 0 = omega (arith, c.rounds-test.false) in
    compacting_done g.D.Device c.args.core.now c.rounds.core _ _ c.args.tally.now c.rounds.tally (most_rounds - c.rounds.counter) none c.rounds.invariant.made
