use Rattle.std.proofs.Common.{Err, Some, ap, sym, subst}
use Rattle.io_edges.specs.Reader.{Answers, IsNextLine, IsToRead, IsWithinLimits, WouldAsk}
use Rattle.session_meaning.specs.declared.ending.Ending.TheVariants.{ReadFault, Spent, Starved}
use Rattle.session_meaning.specs.Runs.{IsPastOpening}
use Rattle.trace_shell.specs.Turn.{Came}
use Rattle.trace_shell.proofs.AloneLemmas.{line_ends, tally_ends}
use Rattle.trace_shell.proofs.TurnLemmas.{ended_at, failed_at, spent_at, starved_at, too_long_at, turns_idle, whole_at}
use Rattle.trace_shell.proofs.session.next_line.Goals as goal

pub returns-in-Whole-clause-turned : goal.returns-in-Whole-clause-turned
returns-in-Whole-clause-turned g c =
    whole_at g.P.PatternMaker.makes g.D.Device _ _ _ _ _ _ _ _ _ _ _ _ _ _ c.as_slice.result.now c.answer_line.result.0
    (λ rest to_read.
    let answers = subst (λ l. Answers l rest (IsToRead c.next.new.self (g.S.Source.left c.next.new.source))) c.in-Whole.is
    (c.in-Ok.ensures.line rest to_read) in
    subst (λ bytes. IsNextLine rest bytes (IsToRead c.next.new.self (g.S.Source.left c.next.new.source))) (sym c.as_slice.ensures) answers)
    c.next.ensures.took
    (λ none. let same = c.answer_line.ensures.empty none in (same.0, same.1, same.2, ap g.K.Sink.taken same.3, ap g.C.Clock.moments same.4, same.5))
    c.answer_line.ensures.answered

pub returns-in-Whole-clause-endings : goal.returns-in-Whole-clause-endings
returns-in-Whole-clause-endings g c = line_ends c.answer_line.result.0 c.answer_line.ensures.endings

pub returns-in-TooLong-clause-turned : goal.returns-in-TooLong-clause-turned
returns-in-TooLong-clause-turned g c =
    too_long_at g.P.PatternMaker.makes g.D.Device _ _ _ _ _ _ _ _ _ _ _ _ c.in-TooLong.length c.refuse_line-ended.result
    (λ rest to_read. subst (λ l. Answers l rest (IsToRead c.next.new.self (g.S.Source.left c.next.new.source))) c.in-TooLong.is (c.in-Ok.ensures.line rest to_read))
    (subst (λ l. IsWithinLimits l c.next.new.self.taken) c.in-TooLong.is c.in-Ok.ensures.limits)
    c.refuse_line-ended.ensures.clock c.next.ensures.took c.refuse_line-ended.ensures.given

pub returns-in-TooLong-clause-endings : goal.returns-in-TooLong-clause-endings
returns-in-TooLong-clause-endings g c = line_ends c.refuse_line-ended.result c.refuse_line-ended.ensures.endings

pub returns-in-End-clause-turned : goal.returns-in-End-clause-turned
returns-in-End-clause-turned g c =
    turns_idle g.P.PatternMaker.makes g.D.Device _ _ _ _ _ _ _ _ _ c.next.new.self _ c.args.tally.now (Some c.ending.result)
    (λ told text before acts replies blamed at.
    let answers = subst (λ l. Answers l at.rest (IsToRead c.next.new.self (g.S.Source.left c.next.new.source))) c.in-End.is
    (c.in-Ok.ensures.line at.rest at.to_read) in
    let fewer = subst (λ l. IsWithinLimits l c.next.new.self.taken) c.in-End.is c.in-Ok.ensures.limits in
    subst (λ e. Came told text before (g.S.Source.left c.next.new.source) (g.K.Sink.taken c.args.sink.now) (g.C.Clock.moments c.args.clock.now) e acts replies blamed) (sym c.ending.ensures)
    (ended_at told text before _ _ _ _ _ _ _ acts replies blamed at answers fewer c.next.ensures.took))

pub returns-in-End-clause-endings : goal.returns-in-End-clause-endings
returns-in-End-clause-endings g c = subst IsPastOpening (sym c.ending.ensures) (tally_ends c.args.tally.now)

pub returns-in-Err-Fault-clause-turned : goal.returns-in-Err-Fault-clause-turned
returns-in-Err-Fault-clause-turned g c =
    turns_idle g.P.PatternMaker.makes g.D.Device _ _ _ _ _ _ _ _ _ c.next.new.self _ c.args.tally.now (Some ReadFault)
    (λ told text before acts replies blamed at.
    failed_at told text before _ _ _ _ _ _ _ acts replies blamed at (c.in-Err-Fault.ensures.stands at.rest at.to_read) (c.in-Err-Fault.ensures.waiting (ap Err c.in-Err-Fault.field-0-is)))

pub returns-in-Err-Memory-clause-turned : goal.returns-in-Err-Memory-clause-turned
returns-in-Err-Memory-clause-turned g c =
    turns_idle g.P.PatternMaker.makes g.D.Device _ _ _ _ _ _ _ _ _ c.next.new.self _ c.args.tally.now (Some Starved)
    (λ told text before acts replies blamed at. starved_at told text before _ _ _ _ _ _ acts replies blamed at)

pub returns-in-Spent-clause-turned : goal.returns-in-Spent-clause-turned
returns-in-Spent-clause-turned g c =
    turns_idle g.P.PatternMaker.makes g.D.Device _ _ _ _ _ _ _ _ _ c.next.new.self _ c.args.tally.now (Some Spent)
    (λ told text before acts replies blamed at.
    let answers = subst (λ l. Answers l at.rest (IsToRead c.next.new.self (g.S.Source.left c.next.new.source))) c.in-Spent.is
    (c.in-Ok.ensures.line at.rest at.to_read) in
    let all = subst (λ l. IsWithinLimits l c.next.new.self.taken) c.in-Spent.is c.in-Ok.ensures.limits in
    let waiting = subst (λ l. WouldAsk l c.next.new.self) c.in-Spent.is c.in-Ok.ensures.spent in
    spent_at told text before _ _ _ _ _ _ _ acts replies blamed at all.1 c.next.ensures.took answers waiting)
