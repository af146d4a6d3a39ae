use Rattle.std.proofs.Common.{refl, sym, ◌∙◌}
use Rattle.block_read.proofs.SketchWalk.{stripe_told}
use Rattle.block_read.proofs.sketches.stripe.Goals as goal

pub returns : goal.returns
returns c = λ row keyed_is.
    let told = c.in_ok-sketch.ensures in
    let holds = c.read_is_held.ensures c.args.form c.args.part.now told.0 c.each_fits.ensures told.1 in
    let order = c.if-not-follows.ensures refl row keyed_is told.0 told.2 in
    stripe_told c.args.form c.args.entry.now row c.args.part.now c.as_slice.result.now c.in-Ok.size _ _ c.in_ok-sketch.sketch (sym c.can_agree.ensures ∙ c.if-not-can_agree.false) c.new-reader.ensures c.in-Ok.ensures.gives
    (sym c.has_pages.ensures ∙ c.if-not-has_pages.false) told c.as_slice.ensures.value (sym c.agrees.ensures ∙ c.if-not-agrees.false) order holds
