use Rattle.std.proofs.Common.{List, ap, ◌∙◌}
use Rattle.span_types.specs.declared.spans.Row.{Row}
use Rattle.block_build.specs.Merging.{begins_other}
use Rattle.block_build.proofs.TraceByTrace.{took_other, took_same}
use Rattle.compactor.proofs.merge.take_row.Goals as goal

pub returns-then-not-begins_other : goal.returns-then-not-begins_other
returns-then-not-begins_other c =
    took_same c.args.group.now.items c.push.new.self.items c.args.firsts.now.items c.args.row c.begins_other.result
    (c.begins_other.ensures ∙ ap (λ (l : List Row). begins_other l c.args.row) c.as_slice.ensures.value) c.if-not-begins_other.true c.in_ok-push.ensures.items

pub returns : goal.returns
returns c =
    took_other c.args.group.now.items c.settle.new.group.items c.push-2.new.self.items c.args.firsts.now.items c.settle.new.firsts.items c.args.row c.begins_other.result
    (c.begins_other.ensures ∙ ap (λ (l : List Row). begins_other l c.args.row) c.as_slice.ensures.value) c.if-not-begins_other.false c.in_ok-settle.ensures.emptied c.in_ok-push-2.ensures.items
    c.in_ok-settle.ensures.added
