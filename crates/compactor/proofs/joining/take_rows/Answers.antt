use Rattle.std.proofs.Common.{◌++◌, ◌∙◌, List, ap, sym}
use Rattle.std.proofs.lemmas.List.{append-nil}
use Rattle.span_types.specs.declared.spans.Row.{Row}
use Rattle.compactor.proofs.JoinLaws.{fewer_left, taking_begins, taking_next}
use Rattle.compactor.proofs.joining.take_rows.Goals as goal

pub loop-trace-init : goal.loop-trace-init
loop-trace-init c = taking_begins c.args.trace c.args.left.now c.new-group.result.items c.new-group.ensures.items c.requires

pub loop-trace-preserved : goal.loop-trace-preserved
loop-trace-preserved c =
    taking_next c.args.trace c.args.left.now c.loop-trace.left c.take_row.new.left c.loop-trace.group.items c.take_row.new.group.items
    (c.is_next.ensures.next c.loop-trace-test.true) c.in_ok-take_row.ensures c.loop-trace.invariant

pub loop-trace-smaller : goal.loop-trace-smaller
loop-trace-smaller c =
    fewer_left c.args.trace c.loop-trace.left c.take_row.new.left c.loop-trace.group.items c.take_row.new.group.items
    (c.is_next.ensures.next c.loop-trace-test.true) c.in_ok-take_row.ensures

pub returns-clause-group : goal.returns-clause-group
returns-clause-group c =
    let group = c.loop-trace.group.items in
    let none = c.is_next.ensures.other c.loop-trace-test.false c.loop-trace.invariant.from in
    c.of.ensures ∙ sym (append-nil group) ∙ ap (λ (l : List Row). group ++ l) (sym none.0) ∙ c.loop-trace.invariant.taken

pub returns-clause-left : goal.returns-clause-left
returns-clause-left c =
    let none = c.is_next.ensures.other c.loop-trace-test.false c.loop-trace.invariant.from in
    sym none.1 ∙ c.loop-trace.invariant.others
