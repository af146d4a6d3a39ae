use Rattle.std.proofs.Common.{◌≡◌, ◌++◌, ◌*◌, ◌<◌, ◌≤◌, ℕ, List, None, Result, Ok, get_or, length, refl, sym, ap, subst, ◌∙◌, arith}
use Rattle.std.proofs.lemmas.List.{length-append, length-map}
use Rattle.std.proofs.lemmas.List.Elements.{All-nil}
use Rattle.std.specs.List.{All}
use Rattle.span_types.specs.declared.ids.TraceId.{TraceId}
use Rattle.span_types.specs.declared.spans.Row.{Row}
use Rattle.block_info.specs.declared.info.StripeInfo.{StripeInfo}
use Rattle.block_format.specs.Blocks.{ids_of}
use Rattle.block_read.specs.declared.checking.Outline.{Outline}
use Rattle.block_read.specs.Answers.{made_of}
use Rattle.block_read.specs.BlockReadings.{last_of}
use Rattle.block_read.specs.Checks.{outline}
use Rattle.block_read.specs.Files.{part_of}
use Rattle.block_read.proofs.ChecksWalk.{kept_more, nothing_kept, still_long}
use Rattle.block_read.proofs.SketchWalk.{form_told, placed_told}
use Rattle.block_read.proofs.StripesWalk.{walk_begins, walk_ends, walk_more}
use Rattle.block_read.proofs.sketches.sketched.Goals as goal

abbrev no_stripe : StripeInfo
no_stripe = record { page = 0; pages = 0; rows = 0; earliest = 0; latest = 0 }

pub loop-entry-init : goal.loop-entry-init
loop-entry-init c =
    record {
      kept = record { last = None; keyed_is = refl; kept = nothing_kept _ c.args.header.now.form c.args.header.now.stripes c.args.bytes.now _ c.none.ensures refl (walk_begins _) };
      few = omega (arith, ap length c.none.ensures);
      long = subst (All (λ (id : TraceId). length id.0 ≡ 16)) (sym c.none.ensures) (All-nil (λ (id : TraceId). length id.0 ≡ 16));
    }

pub loop-entry-preserved : goal.loop-entry-preserved
loop-entry-preserved c =
    let stripes = c.args.header.now.stripes in
    let i = c.loop-entry.entry-index in
    let entry = get_or c.as_slice-entry-items.result.now i no_stripe in
    let same : entry ≡ get_or stripes i no_stripe = ap (λ (l : List StripeInfo). get_or l i no_stripe) c.as_slice-entry-items.ensures in
    let low : i < length stripes = omega (arith, c.loop-entry-test.true, ap length c.as_slice-entry-items.ensures) in
    let far = c.loop-entry.invariant.kept in
    let kept = far.kept in
    let one = c.in_ok-sketch.ensures far.last far.keyed_is in
    let part = part_of entry.page entry.pages c.args.bytes.now in
    let read = placed_told (4096 * entry.page) part c.part-part.result.now c.args.header.now.form entry far.last one.rows c.part-part.ensures.part one.read in
    let ids : c.in_ok-found.found.ids ≡ c.loop-entry.found.ids ++ ids_of one.rows = c.in_ok-found.ensures.ids ∙ ap (λ (l : List TraceId). c.loop-entry.found.ids ++ l) one.told.traces in
    let form = form_told c.loop-entry.found.form c.in_ok-found.found.form one.rows c.in_ok-sketch.sketch one.told c.in_ok-found.ensures.form in
    let few = one.few in
    let before = c.loop-entry.invariant.few in
    record {
      kept = record {
        last = last_of one.rows;
        keyed_is = c.in_ok-last_key.ensures one.rows one.told;
        kept = record {
          rows = kept.rows ++ one.rows;
          told = walk_more c.args.header.now.form stripes i no_stripe entry far.last c.args.bytes.now kept.rows one.rows (kept.rows ++ one.rows) (last_of one.rows) _ low same read refl refl kept.told;
          kept = kept_more c.loop-entry.found c.in_ok-found.found kept.rows one.rows kept.kept ids form;
        };
      };
      few = omega (arith, ap length ids, length-append c.loop-entry.found.ids (ids_of one.rows), length-map one.rows (λ (row : Row). row.span.trace), few, before);
      long = still_long c.loop-entry.found.ids (ids_of one.rows) c.in_ok-found.found.ids c.loop-entry.invariant.long one.long ids;
    }

pub returns-clause-answers : goal.returns-clause-answers
returns-clause-answers c =
    let stripes = c.args.header.now.stripes in
    let high : length stripes ≤ c.loop-entry.entry-index = omega (arith, c.loop-entry-test.false, ap length c.as_slice-entry-items.ensures) in
    let far = c.loop-entry.invariant.kept in
    let kept = far.kept in
    let ends = walk_ends c.args.header.now.form stripes c.loop-entry.entry-index far.last c.args.bytes.now kept.rows _ high kept.told in
    ap (made_of outline) ends ∙ ap (λ (o : Outline). (let r : Result Outline ℕ = Ok o in r)) (sym kept.kept)
