use Rattle.std.proofs.Common.{◌≡◌, ◌<◌, ◌≤◌, List, get_or, length, ap, ◌∙◌, arith}
use Rattle.std.proofs.lemmas.List.{length-append}
use Rattle.std.proofs.lemmas.Result.{err_from_is_err_and}
use Rattle.block_info.specs.declared.info.StripeInfo.{StripeInfo}
use Rattle.block_read.specs.BlockReadings.{last_of}
use Rattle.block_read.proofs.StripesWalk.{near_page, walk_ends, walk_fails, walk_more}
use Rattle.block_read.proofs.stripes.stripes.Goals as goal

abbrev no_stripe : StripeInfo
no_stripe = record { page = 0; pages = 0; rows = 0; earliest = 0; latest = 0 }

pub placed_stripe-requires : goal.placed_stripe-requires
placed_stripe-requires c =
    let stripes = c.args.header.now.stripes in
    let i = c.loop-entry.entry-index in
    let entry = get_or c.as_slice-entry-items.result.now i no_stripe in
    let same : entry ≡ get_or stripes i no_stripe = ap (λ (l : List StripeInfo). get_or l i no_stripe) c.as_slice-entry-items.ensures in
    let low : i < length stripes = omega (arith, c.loop-entry-test.true, ap length c.as_slice-entry-items.ensures) in
    near_page c.args.header.now.pages stripes i no_stripe entry c.requires.stripes low same

pub returns-in_err-found-clause-answers : goal.returns-in_err-found-clause-answers
returns-in_err-found-clause-answers c =
    let p = err_from_is_err_and c.from_residual.result c.from_residual.ensures.1 in
    let stripes = c.args.header.now.stripes in
    let i = c.loop-entry.entry-index in
    let entry = get_or c.as_slice-entry-items.result.now i no_stripe in
    let same : entry ≡ get_or stripes i no_stripe = ap (λ (l : List StripeInfo). get_or l i no_stripe) c.as_slice-entry-items.ensures in
    let low : i < length stripes = omega (arith, c.loop-entry-test.true, ap length c.as_slice-entry-items.ensures) in
    rw (p.1, p.2) (walk_fails c.in_err-found.field-0.0 c.args.header.now.form stripes i no_stripe entry c.loop-entry.last c.args.bytes.now c.loop-entry.rows.items _ low same c.in_err-found.ensures.answers c.loop-entry.invariant.told)

pub loop-entry-preserved : goal.loop-entry-preserved
loop-entry-preserved c =
    let stripes = c.args.header.now.stripes in
    let i = c.loop-entry.entry-index in
    let entry = get_or c.as_slice-entry-items.result.now i no_stripe in
    let same : entry ≡ get_or stripes i no_stripe = ap (λ (l : List StripeInfo). get_or l i no_stripe) c.as_slice-entry-items.ensures in
    let low : i < length stripes = omega (arith, c.loop-entry-test.true, ap length c.as_slice-entry-items.ensures) in
    let rows = c.loop-entry.rows.items in
    let found = c.in_ok-found.found.items in
    let next = c.in_ok-last.ensures ∙ ap last_of c.as_slice.ensures.value in
    let few = c.in_ok-found.ensures.few in
    let before = c.loop-entry.invariant.few in
    record {
      told = walk_more c.args.header.now.form stripes i no_stripe entry c.loop-entry.last c.args.bytes.now rows found c.add.new.rows.items c.in_ok-last.last _ low same c.in_ok-found.ensures.answers next c.in_ok-add.ensures c.loop-entry.invariant.told;
      few = omega (arith, ap length c.in_ok-add.ensures, length-append rows found, few, before);
    }

pub returns-clause-answers : goal.returns-clause-answers
returns-clause-answers c =
    let stripes = c.args.header.now.stripes in
    let high : length stripes ≤ c.loop-entry.entry-index = omega (arith, c.loop-entry-test.false, ap length c.as_slice-entry-items.ensures) in
    walk_ends c.args.header.now.form stripes c.loop-entry.entry-index c.loop-entry.last c.args.bytes.now c.loop-entry.rows.items _ high c.loop-entry.invariant.told
