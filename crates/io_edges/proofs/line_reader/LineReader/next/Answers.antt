use Rattle.std.proofs.Common.{arith, ◌∙◌}
use Rattle.io_edges.proofs.ReaderLemmas.{HasNoFeed-held, IsToRead-kept, IsToRead-refilled, Answers-feed, Answers-end, TakesBytes-more, to_come-refilled}
use Rattle.io_edges.proofs.line_reader.LineReader.next.Goals as goal

pub returns-in-Ok-Some-clause-line : goal.returns-in-Ok-Some-clause-line
returns-in-Ok-Some-clause-line g c = λ text before.
    let found = rw c.in-Ok-Some.field-0-is at c.in-Ok-Some.ensures.line in
    Answers-feed c.lines.self c.scan.new.self _ c.in-Ok-Some.line found text (c.lines.invariant.to_read text before)

pub lines-preserved : goal.lines-preserved
lines-preserved g c =
    let kept = rw c.in-Ok-None.field-0-is at c.in-Ok-None.ensures.kept in
    let none = rw c.in-Ok-None.field-0-is at c.in-Ok-None.ensures.looked_at in
    let as_far = rw c.in-Ok-None.field-0-is at c.in-Ok-None.ensures.as_far in
    record {
      to_read = λ text before.
          IsToRead-refilled c.scan.new.self c.refill.new.self _ _ none c.refill.ensures.begun c.refill.ensures.took text
          (IsToRead-kept c.lines.self c.scan.new.self _ kept text (c.lines.invariant.to_read text before));
      took = TakesBytes-more _ _ _ _ _ _ _ c.lines.invariant.took c.refill.ensures.took (omega arith);
      nearer =
          omega (arith, as_far, to_come-refilled c.scan.new.self c.refill.new.self none c.refill.ensures.begun c.refill.ensures.count c.refill.ensures.limited);
      tells = c.refill.ensures.tells ∙ c.lines.invariant.tells;
      counted = omega arith;
    }

pub returns-in-Ok-AtEnd-clause-line : goal.returns-in-Ok-AtEnd-clause-line
returns-in-Ok-AtEnd-clause-line g c = λ text before.
    let kept = rw c.in-Ok-None.field-0-is at c.in-Ok-None.ensures.kept in
    let none = rw c.in-Ok-None.field-0-is at c.in-Ok-None.ensures.looked_at in
    let filled = rw c.in-Ok-AtEnd.field-0-is at c.in-Ok-AtEnd.ensures.filled in
    Answers-end c.refill.new.self c.last_line.new.self _ c.last_line.result c.last_line.ensures.line c.last_line.ensures.none filled.2 text
    (IsToRead-refilled c.scan.new.self c.refill.new.self _ _ none c.refill.ensures.begun c.refill.ensures.took text
    (IsToRead-kept c.lines.self c.scan.new.self _ kept text (c.lines.invariant.to_read text before)))

pub returns-in-Ok-AllTaken-clause-line : goal.returns-in-Ok-AllTaken-clause-line
returns-in-Ok-AllTaken-clause-line g c = λ text before.
    let kept = rw c.in-Ok-None.field-0-is at c.in-Ok-None.ensures.kept in
    let none = rw c.in-Ok-None.field-0-is at c.in-Ok-None.ensures.looked_at in
    IsToRead-refilled c.scan.new.self c.refill.new.self _ _ none c.refill.ensures.begun c.refill.ensures.took text
    (IsToRead-kept c.lines.self c.scan.new.self _ kept text (c.lines.invariant.to_read text before))

pub returns-in-Err-refill-clause-stands : goal.returns-in-Err-refill-clause-stands
returns-in-Err-refill-clause-stands g c = λ text before.
    let kept = rw c.in-Ok-None.field-0-is at c.in-Ok-None.ensures.kept in
    let none = rw c.in-Ok-None.field-0-is at c.in-Ok-None.ensures.looked_at in
    IsToRead-refilled c.scan.new.self c.refill.new.self _ _ none c.refill.ensures.begun c.refill.ensures.took text
    (IsToRead-kept c.lines.self c.scan.new.self _ kept text (c.lines.invariant.to_read text before))

pub returns-in-Ok-AllTaken-clause-spent : goal.returns-in-Ok-AllTaken-clause-spent
returns-in-Ok-AllTaken-clause-spent g c =
    let filled = rw c.in-Ok-AllTaken.field-0-is at c.in-Ok-AllTaken.ensures.filled in
    HasNoFeed-held c.refill.new.self filled.0

pub returns-in-Err-refill-clause-waiting : goal.returns-in-Err-refill-clause-waiting
returns-in-Err-refill-clause-waiting g c = λ _. HasNoFeed-held c.refill.new.self c.in-Err-refill.ensures.none
