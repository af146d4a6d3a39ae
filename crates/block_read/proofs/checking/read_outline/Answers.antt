use Rattle.std.proofs.Common.{◌≡◌, ◌++◌, ◌<◌, ◌≤◌, ℕ, max, List, Result, Ok, get_or, length, refl, sym, ap, subst, ◌∙◌, arith}
use Rattle.std.proofs.lemmas.List.{length-append, length-map}
use Rattle.std.proofs.lemmas.List.Elements.{All-nil}
use Rattle.std.proofs.lemmas.Result.{err_from_is_err_and}
use Rattle.std.specs.List.{All}
use Rattle.span_types.specs.declared.ids.TraceId.{TraceId}
use Rattle.span_types.specs.declared.spans.Row.{Row}
use Rattle.block_info.specs.declared.info.StripeInfo.{StripeInfo}
use Rattle.block_format.specs.Blocks.{form_of_rows, ids_of}
use Rattle.block_read.specs.declared.checking.Outline.{Outline}
use Rattle.block_read.specs.Answers.{made_of}
use Rattle.block_read.specs.BlockReadings.{last_of}
use Rattle.block_read.specs.Checks.{outline}
use Rattle.block_read.proofs.ChecksWalk.{kept_more, nothing_kept, outline_fails, still_long}
use Rattle.block_read.proofs.StripesWalk.{near_page, walk_begins, walk_ends, walk_fails, walk_more}
use Rattle.block_read.proofs.checking.read_outline.Goals as goal

abbrev no_stripe : StripeInfo
no_stripe = record { page = 0; pages = 0; rows = 0; earliest = 0; latest = 0 }

pub placed_stripe-requires : goal.placed_stripe-requires
placed_stripe-requires c =
    let stripes = c.args.header.now.stripes in
    let i = c.loop-entry.entry-index in
    let entry = get_or c.as_slice-entry-items.result.now i no_stripe in
    let same : entry ≡ get_or stripes i no_stripe = ap (λ (l : List StripeInfo). get_or l i no_stripe) c.as_slice-entry-items.ensures in
    let low : i < length stripes = omega (arith, c.loop-entry-test.true, ap length c.as_slice-entry-items.ensures) in
    near_page c.args.header.now.pages stripes i no_stripe entry c.requires.stripes low same

pub returns-in_err-rows-clause-answers : goal.returns-in_err-rows-clause-answers
returns-in_err-rows-clause-answers c =
    let p = err_from_is_err_and c.from_residual.result c.from_residual.ensures.1 in
    let stripes = c.args.header.now.stripes in
    let i = c.loop-entry.entry-index in
    let entry = get_or c.as_slice-entry-items.result.now i no_stripe in
    let same : entry ≡ get_or stripes i no_stripe = ap (λ (l : List StripeInfo). get_or l i no_stripe) c.as_slice-entry-items.ensures in
    let low : i < length stripes = omega (arith, c.loop-entry-test.true, ap length c.as_slice-entry-items.ensures) in
    let kept = c.loop-entry.invariant.kept in
    rw (p.1, p.2) (outline_fails c.in_err-rows.field-0.0 _ (walk_fails c.in_err-rows.field-0.0 c.args.header.now.form stripes i no_stripe entry c.loop-entry.last c.args.bytes.now kept.rows _ low same c.in_err-rows.ensures.answers kept.told))

pub loop-entry-init : goal.loop-entry-init
loop-entry-init c =
    record {
      kept = nothing_kept _ c.args.header.now.form c.args.header.now.stripes c.args.bytes.now _ c.none.ensures refl (walk_begins _);
      few = omega (arith, ap length c.none.ensures);
      long = subst (All (λ (id : TraceId). length id.0 ≡ 16)) (sym c.none.ensures) (All-nil (λ (id : TraceId). length id.0 ≡ 16));
    }

pub loop-entry-preserved : goal.loop-entry-preserved
loop-entry-preserved c =
    let stripes = c.args.header.now.stripes in
    let i = c.loop-entry.entry-index in
    let entry = get_or c.as_slice-entry-items.result.now i no_stripe in
    let same : entry ≡ get_or stripes i no_stripe = ap (λ (l : List StripeInfo). get_or l i no_stripe) c.as_slice-entry-items.ensures in
    let low : i < length stripes = omega (arith, c.loop-entry-test.true, ap length c.as_slice-entry-items.ensures) in
    let kept = c.loop-entry.invariant.kept in
    let more = c.in_ok-rows.rows.items in
    let next = c.in_ok-last.ensures ∙ ap last_of c.as_slice-in-loop-entry.ensures.value in
    let ids = c.in_ok-keep.ensures.ids ∙ ap (λ (l : List Row). c.loop-entry.found.ids ++ ids_of l) c.as_slice.ensures.value in
    let form = c.in_ok-keep.ensures.form ∙ ap (λ (l : List Row). max c.loop-entry.found.form (form_of_rows l)) c.as_slice.ensures.value in
    let few = c.in_ok-rows.ensures.few in
    let before = c.loop-entry.invariant.few in
    record {
      kept = record {
        rows = kept.rows ++ more;
        told = walk_more c.args.header.now.form stripes i no_stripe entry c.loop-entry.last c.args.bytes.now kept.rows more (kept.rows ++ more) c.in_ok-last.last _ low same c.in_ok-rows.ensures.answers next refl kept.told;
        kept = kept_more c.loop-entry.found c.keep.new.found kept.rows more kept.kept ids form;
      };
      few = omega (arith, ap length ids, length-append c.loop-entry.found.ids (ids_of more), length-map more (λ (row : Row). row.span.trace), few, before);
      long = still_long c.loop-entry.found.ids _ c.keep.new.found.ids c.loop-entry.invariant.long c.in_ok-keep.ensures.long c.in_ok-keep.ensures.ids;
    }

pub returns-clause-answers : goal.returns-clause-answers
returns-clause-answers c =
    let stripes = c.args.header.now.stripes in
    let high : length stripes ≤ c.loop-entry.entry-index = omega (arith, c.loop-entry-test.false, ap length c.as_slice-entry-items.ensures) in
    let kept = c.loop-entry.invariant.kept in
    let ends = walk_ends c.args.header.now.form stripes c.loop-entry.entry-index c.loop-entry.last c.args.bytes.now kept.rows _ high kept.told in
    ap (made_of outline) ends ∙ ap (λ (o : Outline). (let r : Result Outline ℕ = Ok o in r)) (sym kept.kept)
