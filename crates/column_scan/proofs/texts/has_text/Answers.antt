use Rattle.std.proofs.Common.{arith, sym, ◌∙◌}
use Rattle.std.specs.Str.{bytes_eq}
use Rattle.column_scan.proofs.TextSteps.{all_left, none_left, text_found, text_passed}
use Rattle.column_scan.proofs.texts.has_text.Goals as goal

pub loop-init : goal.loop-init
loop-init c = all_left (λ x. bytes_eq x c.args.text.now) c.args.bytes.now c.in_ok-reader.reader c.next_count.new.reader c.in_ok-count.count _ c.in_ok-reader.ensures c.in_ok-count.ensures (omega arith)

pub returns-then-eq : goal.returns-then-eq
returns-then-eq c = λ texts read.
    sym (text_found (λ x. bytes_eq x c.args.text.now) texts c.in_ok-count.count c.loop.counter c.loop.reader c.next_text.new.reader c.in_ok-next_text.field-0.now c.loop-test.true (c.loop.invariant texts read) c.in_ok-next_text.ensures
    (sym c.eq.ensures ∙ c.if-eq.true))

pub loop-preserved : goal.loop-preserved
loop-preserved c = λ texts read.
    text_passed (λ x. bytes_eq x c.args.text.now) texts c.in_ok-count.count c.loop.counter c.loop.reader c.next_text.new.reader c.in_ok-next_text.field-0.now c.loop-test.true (c.loop.invariant texts read) c.in_ok-next_text.ensures
    (sym c.eq.ensures ∙ c.if-eq.false)

pub returns : goal.returns
returns c = λ texts read. sym (none_left (λ x. bytes_eq x c.args.text.now) texts _ c.loop.reader (omega arith) (c.loop.invariant texts read))
