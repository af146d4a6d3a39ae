use Rattle.std.proofs.Common.{◌≡◌, sym, ◌∙◌}
use Rattle.std.proofs.lemmas.Result.{err_from_is_err_and}
use Rattle.byte_fields.specs.declared.breaks.Break.TheVariants as breaks
use Rattle.block_columns.specs.ColumnReadings.{new_at}
use Rattle.block_columns.proofs.ReadingSteps.{items_go_on, items_fail, items_done, new_broken, new_given, new_refused}
use Rattle.block_columns.proofs.tables.each_new.Goals as goal

pub returns-in_err-value : goal.returns-in_err-value
returns-in_err-value g c =
    let same = g.T.PartialEq.eq in
    let read = g.K.Kind.reading c.args.kind.now in
    let p = err_from_is_err_and c.from_residual.result c.from_residual.ensures.1 in
    rw (p.1, p.2) (items_fail c.in_err-value.field-0.0 (new_at same read) c.args.count c.loop.counter c.loop.table.keys c.loop.fields _ c.loop-test.true
    (new_broken c.in_err-value.field-0.0 same read c.loop.table.keys c.loop.fields c.in_err-value.ensures) c.loop.invariant)

pub returns-then-not-new : goal.returns-then-not-new
returns-then-not-new g c =
    let same = g.T.PartialEq.eq in
    let read = g.K.Kind.reading c.args.kind.now in
    rw c.at-at.ensures (items_fail (breaks.At c.loop.fields.stand.at) (new_at same read) c.args.count c.loop.counter c.loop.table.keys c.loop.fields _ c.loop-test.true
    (new_refused same read c.loop.table.keys c.loop.fields c.in_ok-value.value c.read.new.fields c.in_ok-new.new c.in_ok-value.ensures c.in_ok-new.ensures.added c.if-not-new.true) c.loop.invariant)

pub loop-preserved : goal.loop-preserved
loop-preserved g c =
    let same = g.T.PartialEq.eq in
    let read = g.K.Kind.reading c.args.kind.now in
    let new = new_given same read c.loop.table.keys c.loop.fields c.in_ok-value.value c.read.new.fields c.in_ok-new.new c.in_ok-value.ensures c.in_ok-new.ensures.added c.if-not-new.false in
    items_go_on (new_at same read) c.args.count c.loop.counter c.loop.table.keys _ c.loop.fields c.in_ok-value.value c.read.new.fields _ c.loop-test.true new.0 (c.in_ok-new.ensures.keys ∙ new.1) c.loop.invariant

pub returns : goal.returns
returns g c = items_done (new_at g.T.PartialEq.eq (g.K.Kind.reading c.args.kind.now)) c.args.count c.loop.counter c.loop.table.keys c.loop.fields _ c.loop-test.false c.loop.invariant
