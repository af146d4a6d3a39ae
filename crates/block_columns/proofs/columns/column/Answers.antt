use Rattle.std.proofs.lemmas.Result.{err_from_is_err_and}
use Rattle.block_columns.proofs.ReadingSteps.{items_go_on, items_fail, items_done}
use Rattle.block_columns.proofs.columns.column.Goals as goal

pub returns-in_err-value : goal.returns-in_err-value
returns-in_err-value g c =
    let p = err_from_is_err_and c.from_residual.result c.from_residual.ensures.1 in
    rw (p.1, p.2) (items_fail c.in_err-value.field-0.0 (λ _. g.K.Kind.reading c.args.kind.now) c.args.count c.loop.counter c.loop.values.items c.loop.fields _ c.loop-test.true c.in_err-value.ensures c.loop.invariant)

pub loop-preserved : goal.loop-preserved
loop-preserved g c = items_go_on (λ _. g.K.Kind.reading c.args.kind.now) c.args.count c.loop.counter c.loop.values.items _ c.loop.fields c.in_ok-value.value c.read.new.fields _ c.loop-test.true c.in_ok-value.ensures c.in_ok-push.ensures.items c.loop.invariant

pub returns : goal.returns
returns g c = items_done (λ _. g.K.Kind.reading c.args.kind.now) c.args.count c.loop.counter c.loop.values.items c.loop.fields _ c.loop-test.false c.loop.invariant
