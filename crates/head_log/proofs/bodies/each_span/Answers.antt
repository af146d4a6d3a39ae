use Rattle.std.proofs.lemmas.Result.{err_from_is_err_and}
use Rattle.head_log.specs.Scanning.{span_at}
use Rattle.byte_fields.proofs.ReadingLoops.{items_go_on, items_fail, items_done}
use Rattle.head_log.proofs.bodies.each_span.Goals as goal

pub returns-in_err-span : goal.returns-in_err-span
returns-in_err-span c =
    let p = err_from_is_err_and c.from_residual.result c.from_residual.ensures.1 in
    rw (p.1, p.2) (items_fail c.in_err-span.field-0.0 (λ _. span_at c.args.part c.args.resource.now c.args.scope.now) c.args.count c.loop.counter c.loop.spans.items c.loop.reader _ c.loop-test.true c.in_err-span.ensures c.loop.invariant)

pub loop-preserved : goal.loop-preserved
loop-preserved c = items_go_on (λ _. span_at c.args.part c.args.resource.now c.args.scope.now) c.args.count c.loop.counter c.loop.spans.items _ c.loop.reader c.in_ok-span.span c.span.new.reader _ c.loop-test.true c.in_ok-span.ensures c.in_ok-push.ensures.items c.loop.invariant

pub returns : goal.returns
returns c = items_done (λ _. span_at c.args.part c.args.resource.now c.args.scope.now) c.args.count c.loop.counter c.loop.spans.items c.loop.reader _ c.loop-test.false c.loop.invariant
