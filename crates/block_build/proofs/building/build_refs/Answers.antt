use Rattle.std.proofs.Common.{List, subst, sym, arith}
use Rattle.span_types.specs.declared.spans.Row.{Row}
use Rattle.span_types.specs.First.{IsFirstOf}
use Rattle.block_build.proofs.Firsts.{can_be_block}
use Rattle.block_build.proofs.Whole.{made_block}
use Rattle.block_build.proofs.building.build_refs.Goals as goal

pub block_of-requires-clause-some : goal.block_of-requires-clause-some
block_of-requires-clause-some c =
    let first = subst (λ (l : List Row). IsFirstOf c.args.rows.now l) (sym c.as_slice.ensures.value) c.in_ok-firsts.ensures in
    (can_be_block c.args.rows.now c.as_slice.result.now first c.requires.some).some

pub block_of-requires-clause-few : goal.block_of-requires-clause-few
block_of-requires-clause-few c =
    let first = subst (λ (l : List Row). IsFirstOf c.args.rows.now l) (sym c.as_slice.ensures.value) c.in_ok-firsts.ensures in
    let few = (can_be_block c.args.rows.now c.as_slice.result.now first c.requires.some).few in
    omega (arith, few, c.requires.few)

pub block_of-requires-clause-order : goal.block_of-requires-clause-order
block_of-requires-clause-order c =
    let first = subst (λ (l : List Row). IsFirstOf c.args.rows.now l) (sym c.as_slice.ensures.value) c.in_ok-firsts.ensures in
    (can_be_block c.args.rows.now c.as_slice.result.now first c.requires.some).order

pub returns-clause-block : goal.returns-clause-block
returns-clause-block c =
    let first = subst (λ (l : List Row). IsFirstOf c.args.rows.now l) (sym c.as_slice.ensures.value) c.in_ok-firsts.ensures in
    made_block c.block_of.result c.args.rows.now c.as_slice.result.now first c.block_of.ensures.describes
