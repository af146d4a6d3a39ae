use Rattle.std.proofs.Common.{◌<◌, Err, ap, arith, inr, sym, subst, refl}
use Rattle.std.specs.Prelude.{◌≡◌, IfSome}
use Rattle.span_types.specs.Faults.{Rose}
use Rattle.io_edges.specs.Lines.{taken_limit}
use Rattle.io_edges.specs.Reader.{Answers, ComesNearer, IsToRead, IsWithinLimits, TakesBytes, WouldAsk, to_come}
use Rattle.session_meaning.specs.Runs.{IsPastOpening}
use Rattle.trace_shell.specs.declared.ingesting.After.TheVariants.{End, Ending}
use Rattle.session_meaning.specs.declared.ending.Ending.TheVariants.{ReadFault, Spent, Starved, WriteFault}
use Rattle.trace_shell.proofs.AloneLemmas.{line_ends, no_read_fault, not_spent}
use Rattle.trace_shell.proofs.IngestReads.{idle_turn, reads_all, reads_failed, reads_spent, reads_starved, window_turn}
use Rattle.trace_shell.proofs.ingesting.push_next.Goals as goal

pub returns-in-Whole-clause-pushed : goal.returns-in-Whole-clause-pushed
returns-in-Whole-clause-pushed g c =
    window_turn g.D.Device _ _ _ _ _ _ _ _ _ _ _ c.next.new.self _ c.whole-first.result c.push_from.result c.go_on.result c.go_on.ensures.is c.push_from.ensures.endings c.push_from.ensures.pushed
    (λ rest to_read.
    let answers = subst (λ l. Answers l rest (IsToRead c.next.new.self (g.S.Source.left c.next.new.source))) c.in-Whole.is
    (c.in-Ok.ensures.line rest to_read) in
    (c.in-Whole.bytes, answers, c.whole-first.ensures))
    (subst (λ n. TakesBytes (g.S.Source.left c.args.source.now) (g.S.Source.left c.next.new.source) c.args.reader.now.taken n) (sym c.push_from.ensures.taken) c.next.ensures.took)

pub returns-in-TooLong-clause-pushed : goal.returns-in-TooLong-clause-pushed
returns-in-TooLong-clause-pushed g c =
    window_turn g.D.Device _ _ _ _ _ _ _ _ _ _ _ c.next.new.self _ c.too_long-first.result c.push_from-in-TooLong.result c.go_on-in-TooLong.result c.go_on-in-TooLong.ensures.is c.push_from-in-TooLong.ensures.endings
    c.push_from-in-TooLong.ensures.pushed
    (λ rest to_read.
    let answers = subst (λ l. Answers l rest (IsToRead c.next.new.self (g.S.Source.left c.next.new.source))) c.in-TooLong.is (c.in-Ok.ensures.line rest to_read) in
    (answers.0, answers.1, c.too_long-first.ensures answers.0 answers.2))
    (subst (λ n. TakesBytes (g.S.Source.left c.args.source.now) (g.S.Source.left c.next.new.source) c.args.reader.now.taken n) (sym c.push_from-in-TooLong.ensures.taken) c.next.ensures.took)

pub returns-in-End-clause-pushed : goal.returns-in-End-clause-pushed
returns-in-End-clause-pushed g c =
    idle_turn g.D.Device c.args.core.now _ c.args.tally.now _ _ (g.S.Source.left c.next.new.source) _ c.next.new.self End refl
    (λ text pushed at.
    let answers = subst (λ l. Answers l at.rest (IsToRead c.next.new.self (g.S.Source.left c.next.new.source))) c.in-End.is
    (c.in-Ok.ensures.line at.rest at.to_read) in
    let fewer = subst (λ l. IsWithinLimits l c.next.new.self.taken) c.in-End.is c.in-Ok.ensures.limits in
    reads_all text pushed _ _ _ c.next.new.self at answers fewer c.next.ensures.took)

pub returns-in-Spent-clause-pushed : goal.returns-in-Spent-clause-pushed
returns-in-Spent-clause-pushed g c =
    idle_turn g.D.Device c.args.core.now _ c.args.tally.now _ _ (g.S.Source.left c.next.new.source) _ c.next.new.self (Ending Spent) refl
    (λ text pushed at.
    let answers = subst (λ l. Answers l at.rest (IsToRead c.next.new.self (g.S.Source.left c.next.new.source))) c.in-Spent.is
    (c.in-Ok.ensures.line at.rest at.to_read) in
    let all = subst (λ l. IsWithinLimits l c.next.new.self.taken) c.in-Spent.is c.in-Ok.ensures.limits in
    let waiting = subst (λ l. WouldAsk l c.next.new.self) c.in-Spent.is c.in-Ok.ensures.spent in
    reads_spent text pushed _ _ _ c.next.new.self at all.1 c.next.ensures.took answers waiting)

pub returns-in-Err-Fault-clause-pushed : goal.returns-in-Err-Fault-clause-pushed
returns-in-Err-Fault-clause-pushed g c =
    idle_turn g.D.Device c.args.core.now _ c.args.tally.now _ _ (g.S.Source.left c.next.new.source) _ c.next.new.self (Ending ReadFault) refl
    (λ text pushed at.
    reads_failed text pushed _ _ _ c.next.new.self at (c.in-Err-Fault.ensures.stands at.rest at.to_read) (c.in-Err-Fault.ensures.waiting (ap Err c.in-Err-Fault.field-0-is)))

pub returns-in-Err-Memory-clause-pushed : goal.returns-in-Err-Memory-clause-pushed
returns-in-Err-Memory-clause-pushed g c =
    idle_turn g.D.Device c.args.core.now _ c.args.tally.now _ _ (g.S.Source.left c.next.new.source) _ c.next.new.self (Ending Starved) (inr refl)
    (λ text pushed at. reads_starved text pushed _ (g.S.Source.left c.next.new.source) _ at)

pub returns-in-Whole-clause-write_fault : goal.returns-in-Whole-clause-write_fault
returns-in-Whole-clause-write_fault g c =
    subst (λ o. IfSome o (λ e. e ≡ WriteFault → Rose (g.K.Sink.faults c.args.sink.now) (g.K.Sink.faults c.push_from.new.sink))) (sym c.go_on.ensures.ending) c.push_from.ensures.write_fault

pub returns-in-Whole-clause-read_fault : goal.returns-in-Whole-clause-read_fault
returns-in-Whole-clause-read_fault g c =
    subst (λ o. IfSome o (λ e. e ≡ ReadFault → Rose (g.S.Source.faults c.args.source.now) (g.S.Source.faults c.next.new.source))) (sym c.go_on.ensures.ending)
    (no_read_fault (Rose (g.S.Source.faults c.args.source.now) (g.S.Source.faults c.next.new.source)) c.push_from.result c.push_from.ensures.endings)

pub returns-in-Whole-clause-spent : goal.returns-in-Whole-clause-spent
returns-in-Whole-clause-spent g c =
    subst (λ o. IfSome o (λ e. e ≡ Spent → c.push_from.new.reader.taken ≡ taken_limit)) (sym c.go_on.ensures.ending) (not_spent (c.push_from.new.reader.taken ≡ taken_limit) c.push_from.result c.push_from.ensures.endings)

pub returns-in-Whole-clause-endings : goal.returns-in-Whole-clause-endings
returns-in-Whole-clause-endings g c = subst (λ o. IfSome o IsPastOpening) (sym c.go_on.ensures.ending) (line_ends c.push_from.result c.push_from.ensures.endings)

pub returns-in-TooLong-clause-write_fault : goal.returns-in-TooLong-clause-write_fault
returns-in-TooLong-clause-write_fault g c =
    subst (λ o. IfSome o (λ e. e ≡ WriteFault → Rose (g.K.Sink.faults c.args.sink.now) (g.K.Sink.faults c.push_from-in-TooLong.new.sink))) (sym c.go_on-in-TooLong.ensures.ending) c.push_from-in-TooLong.ensures.write_fault

pub returns-in-TooLong-clause-read_fault : goal.returns-in-TooLong-clause-read_fault
returns-in-TooLong-clause-read_fault g c =
    subst (λ o. IfSome o (λ e. e ≡ ReadFault → Rose (g.S.Source.faults c.args.source.now) (g.S.Source.faults c.next.new.source))) (sym c.go_on-in-TooLong.ensures.ending)
    (no_read_fault (Rose (g.S.Source.faults c.args.source.now) (g.S.Source.faults c.next.new.source)) c.push_from-in-TooLong.result c.push_from-in-TooLong.ensures.endings)

pub returns-in-TooLong-clause-spent : goal.returns-in-TooLong-clause-spent
returns-in-TooLong-clause-spent g c =
    subst (λ o. IfSome o (λ e. e ≡ Spent → c.push_from-in-TooLong.new.reader.taken ≡ taken_limit)) (sym c.go_on-in-TooLong.ensures.ending) (not_spent (c.push_from-in-TooLong.new.reader.taken ≡ taken_limit) c.push_from-in-TooLong.result c.push_from-in-TooLong.ensures.endings)

pub returns-in-TooLong-clause-endings : goal.returns-in-TooLong-clause-endings
returns-in-TooLong-clause-endings g c = subst (λ o. IfSome o IsPastOpening) (sym c.go_on-in-TooLong.ensures.ending) (line_ends c.push_from-in-TooLong.result c.push_from-in-TooLong.ensures.endings)

pub returns-in-Whole-clause-nearer : goal.returns-in-Whole-clause-nearer
returns-in-Whole-clause-nearer g c = λ goes_on.
    let nearer : to_come c.next.new.self < to_come c.args.reader.now = subst (λ l. ComesNearer l (to_come c.args.reader.now) (to_come c.next.new.self)) c.in-Whole.is c.in-Ok.ensures.nearer in
    omega (arith, nearer, c.push_from.ensures.nearer)

pub returns-in-TooLong-clause-nearer : goal.returns-in-TooLong-clause-nearer
returns-in-TooLong-clause-nearer g c = λ goes_on.
    let nearer : to_come c.next.new.self < to_come c.args.reader.now = subst (λ l. ComesNearer l (to_come c.args.reader.now) (to_come c.next.new.self)) c.in-TooLong.is c.in-Ok.ensures.nearer in
    omega (arith, nearer, c.push_from-in-TooLong.ensures.nearer)

pub returns-in-Whole-clause-took : goal.returns-in-Whole-clause-took
returns-in-Whole-clause-took g c =
    subst (λ n. TakesBytes (g.S.Source.left c.args.source.now) (g.S.Source.left c.next.new.source) c.args.reader.now.taken n) (sym c.push_from.ensures.taken) c.next.ensures.took

pub returns-in-TooLong-clause-took : goal.returns-in-TooLong-clause-took
returns-in-TooLong-clause-took g c =
    subst (λ n. TakesBytes (g.S.Source.left c.args.source.now) (g.S.Source.left c.next.new.source) c.args.reader.now.taken n) (sym c.push_from-in-TooLong.ensures.taken) c.next.ensures.took
