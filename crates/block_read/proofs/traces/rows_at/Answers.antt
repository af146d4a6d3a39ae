use Rattle.std.proofs.Common.{◌*◌, ◌<◌, List, Bool, Err, get_or, take, drop, length, sym, subst, ◌∙◌, ap, arith}
use Rattle.std.specs.Prelude.{IsTrue}
use Rattle.std.proofs.lemmas.Result.{err_from_is_err_and}
use Rattle.rows_by_trace.specs.Traces.{rows_of_trace}
use Rattle.block_info.specs.InfoParts.{InfoParts}
use Rattle.block_info.specs.declared.info.StripeInfo.{StripeInfo}
use Rattle.block_read.specs.Answers.{is_fault}
use Rattle.block_read.specs.PageReads.{OnlyReads}
use Rattle.block_read.proofs.PageReads.{none_read, read_then}
use Rattle.block_read.proofs.TraceWalk.{entry_there, fault_passed, found_passed, pages_first, pages_more, rows_first, rows_last, rows_more, stripes_there}
use Rattle.block_read.proofs.traces.rows_at.Goals as goal

abbrev no_stripe : StripeInfo
no_stripe = record { page = 0; pages = 0; rows = 0; earliest = 0; latest = 0 }

pub returns-then-to-stripes-clause-answers : goal.returns-then-to-stripes-clause-answers
returns-then-to-stripes-clause-answers g c = λ told rows has.
    let there = stripes_there c.args.info.now (g.P.Pages.held c.args.pages.now c.args.block) c.args.id c.args.first c.args.count rows has c.stripes_of-from.result.1 c.stripes_of-from.ensures.to in
    omega (arith, there, c.if-to-stripes.true, ap length (c.as_slice-stripes.ensures ∙ ap (λ (n : InfoParts). n.stripes) c.info.view_is))

pub loop-number-init : goal.loop-number-init
loop-number-init g c =
    let P = g.P.Pages in
    let held = P.held c.args.pages.now c.args.block in
    let none = c.new-found.ensures.items in
    record {
      told = λ told rows has. none ∙ rows_first c.args.info.now held c.args.id c.args.first c.args.count rows has c.stripes_of-from.result.0 c.stripes_of-from.ensures.from;
      reads = λ told rows has. let less = pages_first c.args.info.now held c.args.id c.args.first c.args.count rows has c.stripes_of-from.result.0 in omega (arith, less);
      more = omega arith;
      of_trace = ap (rows_of_trace c.args.id) none ∙ sym none;
      only = none_read P.tells P.held P.faults P.ready P.went P.name c.args.pages.now;
    }

pub returns-in_err-add_stripe-clause-answers : goal.returns-in_err-add_stripe-clause-answers
returns-in_err-add_stripe-clause-answers g c = λ told rows has.
    let P = g.P.Pages in
    let h = c.loop-number.invariant in
    let p = err_from_is_err_and c.from_residual.result c.from_residual.ensures.1 in
    let held = P.held c.args.pages.now c.args.block in
    let i = c.loop-number.number in
    let low : i < length c.args.info.now.stripes = omega (arith, c.loop-number-test.true, c.if-to-stripes.false, ap length (c.as_slice-stripes.ensures ∙ ap (λ (n : InfoParts). n.stripes) c.info.view_is)) in
    let entry = entry_there c.args.info.now held c.args.id c.args.first c.args.count rows has i no_stripe low c.info.inside.form c.as_slice-stripes.result.now (P.held c.loop-number.pages c.args.block) (ap (λ (n : InfoParts). n.form) c.info.view_is) (c.as_slice-stripes.ensures ∙ ap (λ (n : InfoParts). n.stripes) c.info.view_is) (h.only.stays.same_files told c.args.block) in
    let there : IsTrue (P.tells c.loop-number.pages) = subst IsTrue (sym h.only.stays.telling) told in
    let more = take 256 (drop (256 * i) rows) in
    found_passed (rows_of_trace c.args.id rows) (rows_of_trace c.args.id more) c.loop-number.found.items c.add_stripe.new.found.items c.add_stripe.result c.from_residual.result c.in_err-add_stripe.field-0.0
    c.in_err-add_stripe.was (p.1 ∙ ap Err p.2) (c.add_stripe.ensures.answers there more entry)

pub returns-in_err-add_stripe-clause-reads : goal.returns-in_err-add_stripe-clause-reads
returns-in_err-add_stripe-clause-reads g c = λ told rows has.
    let P = g.P.Pages in
    let h = c.loop-number.invariant in
    let held = P.held c.args.pages.now c.args.block in
    let i = c.loop-number.number in
    let low : i < length c.args.info.now.stripes = omega (arith, c.loop-number-test.true, c.if-to-stripes.false, ap length (c.as_slice-stripes.ensures ∙ ap (λ (n : InfoParts). n.stripes) c.info.view_is)) in
    let one = pages_more c.args.info.now held c.args.id c.args.first c.args.count rows has i no_stripe low c.stripes_of-from.result.0 c.stripes_of-from.result.1 c.stripes_of-from.ensures.from c.stripes_of-from.ensures.to
    (omega (arith, c.loop-number.auto.number)) (omega (arith, c.loop-number-test.true)) in
    let same = ap (λ (l : List StripeInfo). (get_or l i no_stripe).pages) (c.as_slice-stripes.ensures ∙ ap (λ (n : InfoParts). n.stripes) c.info.view_is) in
    let few = h.reads told rows has in
    let later = c.in_err-add_stripe.ensures.reads.later in
    let most = c.in_err-add_stripe.ensures.reads.at_most in
    let more = h.more in
    record { later = omega (arith, more, later); at_most = omega (arith, few, one, same, most) }

pub returns-in_err-add_stripe-clause-only : goal.returns-in_err-add_stripe-clause-only
returns-in_err-add_stripe-clause-only g c =
    let P = g.P.Pages in
    let p = err_from_is_err_and c.from_residual.result c.from_residual.ensures.1 in
    let only = read_then P.tells P.held P.faults P.ready P.went P.name (is_fault c.add_stripe.result) c.args.pages.now c.loop-number.pages c.add_stripe.new.pages c.loop-number.invariant.only c.add_stripe.ensures.only in
    subst (λ (failed : Bool). OnlyReads P.tells P.held P.faults P.ready P.went P.name c.args.pages.now failed c.add_stripe.new.pages)
    (fault_passed c.add_stripe.result c.from_residual.result c.in_err-add_stripe.field-0.0 c.in_err-add_stripe.was (p.1 ∙ ap Err p.2)) only

pub loop-number-preserved : goal.loop-number-preserved
loop-number-preserved g c =
    let P = g.P.Pages in
    let h = c.loop-number.invariant in
    let e = c.in_ok-add_stripe.ensures in
    let held = P.held c.args.pages.now c.args.block in
    let i = c.loop-number.number in
    let low : i < length c.args.info.now.stripes = omega (arith, c.loop-number-test.true, c.if-to-stripes.false, ap length (c.as_slice-stripes.ensures ∙ ap (λ (n : InfoParts). n.stripes) c.info.view_is)) in
    let same = ap (λ (l : List StripeInfo). (get_or l i no_stripe).pages) (c.as_slice-stripes.ensures ∙ ap (λ (n : InfoParts). n.stripes) c.info.view_is) in
    let later = e.reads.later in
    let most = e.reads.at_most in
    let more = h.more in
    record {
      told = λ told rows has.
          let there : IsTrue (P.tells c.loop-number.pages) = subst IsTrue (sym h.only.stays.telling) told in
          let entry = entry_there c.args.info.now held c.args.id c.args.first c.args.count rows has i no_stripe low c.info.inside.form c.as_slice-stripes.result.now (P.held c.loop-number.pages c.args.block) (ap (λ (n : InfoParts). n.form) c.info.view_is) (c.as_slice-stripes.ensures ∙ ap (λ (n : InfoParts). n.stripes) c.info.view_is) (h.only.stays.same_files told c.args.block) in
          rows_more c.args.info.now held c.args.id c.args.first c.args.count rows has i c.loop-number.found.items c.add_stripe.new.found.items (h.told told rows has) (e.answers there (take 256 (drop (256 * i) rows)) entry);
      reads = λ told rows has.
          let one = pages_more c.args.info.now held c.args.id c.args.first c.args.count rows has i no_stripe low c.stripes_of-from.result.0 c.stripes_of-from.result.1 c.stripes_of-from.ensures.from c.stripes_of-from.ensures.to
          (omega (arith, c.loop-number.auto.number)) (omega (arith, c.loop-number-test.true)) in
          let few = h.reads told rows has in
          omega (arith, few, one, same, most);
      more = omega (arith, more, later);
      of_trace = e.of_trace h.of_trace;
      only = read_then P.tells P.held P.faults P.ready P.went P.name _ c.args.pages.now c.loop-number.pages c.add_stripe.new.pages h.only e.only;
    }

pub returns-clause-answers : goal.returns-clause-answers
returns-clause-answers g c = λ told rows has.
    let held = g.P.Pages.held c.args.pages.now c.args.block in
    c.of.ensures ∙ c.loop-number.invariant.told told rows has
    ∙ rows_last c.args.info.now held c.args.id c.args.first c.args.count rows has c.stripes_of-from.result.1 c.loop-number.number c.stripes_of-from.ensures.to (omega (arith, c.loop-number-test.false))
