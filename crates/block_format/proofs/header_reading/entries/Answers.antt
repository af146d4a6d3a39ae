use Rattle.std.proofs.Common.{◌≡◌, ◌-◌, ◌+◌, Bool, List, suc, eqb, Ok, refl, sym, ◌∙◌, ap, arith}
use Rattle.std.proofs.lemmas.Result.{err_from_is_err_and}
use Rattle.block_info.specs.declared.info.StripeInfo.{StripeInfo}
use Rattle.block_format.specs.HeaderReadings.{entries_at, entry_at}
use Rattle.block_format.proofs.HeaderSteps.{entries_end, entries_fail, entries_next, last_is}
use Rattle.block_format.proofs.header_reading.entries.Goals as goal

pub loop-index-preserved : goal.loop-index-preserved
loop-index-preserved c =
    let done = c.loop-index.stripes.items in
    let left = c.args.count - (c.loop-index.index + 1) in
    let stripe = c.in_ok-stripe.stripe in
    let more : c.args.count - c.loop-index.index ≡ suc left = omega arith in
    let read : entry_at (eqb left 0) c.loop-index.page c.loop-index.reader ≡ Ok (stripe, c.entry.new.reader) =
    ap (λ (b : Bool). entry_at b c.loop-index.page c.loop-index.reader) (sym (last_is c.loop-index.index c.args.count left (omega arith) refl)) ∙ c.in_ok-stripe.ensures.gives in
    record {
      reads =
          ap (λ (l : List StripeInfo). entries_at left (c.loop-index.page + stripe.pages) l c.entry.new.reader) c.in_ok-push.ensures.items
          ∙ sym (entries_next (c.args.count - c.loop-index.index) left c.loop-index.page done c.loop-index.reader c.entry.new.reader stripe more read)
          ∙ c.loop-index.invariant.reads;
      reach = c.in_ok-stripe.ensures.reach;
      whole = c.entry.ensures.whole ∙ c.loop-index.invariant.whole;
    }

pub returns-in_err-stripe-clause-gives : goal.returns-in_err-stripe-clause-gives
returns-in_err-stripe-clause-gives c =
    let p = err_from_is_err_and c.from_residual.result c.from_residual.ensures.1 in
    let left = c.args.count - (c.loop-index.index + 1) in
    let more : c.args.count - c.loop-index.index ≡ suc left = omega arith in
    let last : eqb (c.loop-index.index + 1) c.args.count ≡ eqb left 0 = last_is c.loop-index.index c.args.count left (omega arith) refl in
    rw (p.1, p.2) (entries_fail c.in_err-stripe.field-0.0 (c.args.count - c.loop-index.index) left c.loop-index.page c.loop-index.stripes.items c.loop-index.reader _ more (rw last at c.in_err-stripe.ensures.gives) c.loop-index.invariant.reads)

pub returns-clause-gives : goal.returns-clause-gives
returns-clause-gives c =
    sym c.loop-index.invariant.reads ∙ entries_end (c.args.count - c.loop-index.index) c.loop-index.page c.loop-index.stripes.items c.loop-index.reader (omega arith)
