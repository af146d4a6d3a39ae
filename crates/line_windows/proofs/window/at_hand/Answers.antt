use Rattle.std.proofs.Common.{subst}
use Rattle.io_edges.specs.Reader.{Answers, IsToRead}
use Rattle.line_windows.proofs.window.at_hand.Goals as goal

pub returns-in-Whole-clause-some : goal.returns-in-Whole-clause-some
returns-in-Whole-clause-some c = λ left text to_read.
    let found = rw c.in-Ok-Some.field-0-is at c.in-Ok-Some.ensures.line in
    let answers = subst (λ l. Answers l text (IsToRead c.at_hand.new.self left)) c.in-Whole.is (found left text to_read) in
    (c.in-Whole.bytes, answers, c.whole.ensures)

pub returns-in-TooLong-clause-some : goal.returns-in-TooLong-clause-some
returns-in-TooLong-clause-some c = λ left text to_read.
    let found = rw c.in-Ok-Some.field-0-is at c.in-Ok-Some.ensures.line in
    let answers = subst (λ l. Answers l text (IsToRead c.at_hand.new.self left)) c.in-TooLong.is (found left text to_read) in
    (answers.0, answers.1, c.too_long.ensures answers.0 answers.2)

pub returns-in-End-clause-none : goal.returns-in-End-clause-none
returns-in-End-clause-none c = λ left text to_read.
    let found = rw c.in-Ok-Some.field-0-is at c.in-Ok-Some.ensures.line in
    let answers = subst (λ l. Answers l text (IsToRead c.at_hand.new.self left)) c.in-End.is (found left text to_read) in
    rw answers.0 answers.1

pub returns-in-Spent-clause-none : goal.returns-in-Spent-clause-none
returns-in-Spent-clause-none c = λ left text to_read.
    let found = rw c.in-Ok-Some.field-0-is at c.in-Ok-Some.ensures.line in
    subst (λ l. Answers l text (IsToRead c.at_hand.new.self left)) c.in-Spent.is (found left text to_read)
