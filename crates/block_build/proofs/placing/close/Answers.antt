use Rattle.std.proofs.Common.{◌≡◌, ◌++◌, ℕ, List, Option, length, ap, subst, sym, refl, ◌∙◌, arith, Vec, Global}
use Rattle.std.specs.Prelude.{IfSome}
use Rattle.std.proofs.lemmas.List.{length-map}
use Rattle.span_types.specs.declared.spans.Row.{Row}
use Rattle.block_info.specs.declared.info.StripeInfo.{StripeInfo}
use Rattle.block_format.specs.Headers.{AreFromPage}
use Rattle.block_build.specs.Builders.{AreCounted}
use Rattle.block_build.specs.Places.{placed}
use Rattle.block_build.proofs.PlaceLaws.{can_close, closes, is_there, their_stripes}
use Rattle.block_build.proofs.Whole.{a_form}
use Rattle.block_build.proofs.placing.close.Goals as goal

pub header_pages-pages-requires : goal.header_pages-pages-requires
header_pages-pages-requires c = c.is_possible.ensures.few c.if-not-is_possible.false

pub tail_of-requires-clause-few : goal.tail_of-requires-clause-few
tail_of-requires-clause-few c = (let few = c.is_possible.ensures.few_rows c.if-not-is_possible.false in omega (arith, few, c.len.ensures))

pub write_header-requires : goal.write_header-requires
write_header-requires c =
    let pages = c.header_pages-pages.result in
    let found = c.in-Some.stripes.items in
    let made : found ≡ placed pages c.as_slice.result.now = subst (λ (o : Option (Vec StripeInfo Global)). IfSome o (λ all. all.items ≡ placed pages c.as_slice.result.now)) c.in-Some.is c.in_ok-stripes.ensures.placed in
    let from : AreFromPage pages found = subst (λ (o : Option (Vec StripeInfo Global)). IfSome o (λ all. AreFromPage pages all.items)) c.in-Some.is c.in_ok-stripes.ensures.from in
    let ok = c.if-not-is_possible.false in
    let count : c.len-count.result ≡ length c.args.stripes.items = omega (arith, c.len-count.ensures, c.args.stripes.ok) in
    can_close _ c.args.stripes.items c.len-count.result (c.is_possible.ensures.form ok) (c.is_possible.ensures.some ok) (c.is_possible.ensures.few ok) count
    c.header_pages-pages.ensures.pages (c.of.ensures ∙ made ∙ ap (placed pages) c.as_slice.ensures.value) (subst (AreFromPage pages) (sym c.of.ensures) from)

pub info_of-info-requires : goal.info_of-info-requires
info_of-info-requires c =
    let pages = c.header_pages-pages.result in
    let found = c.in-Some.stripes.items in
    let made : found ≡ placed pages c.as_slice.result.now = subst (λ (o : Option (Vec StripeInfo Global)). IfSome o (λ all. all.items ≡ placed pages c.as_slice.result.now)) c.in-Some.is c.in_ok-stripes.ensures.placed in
    let from : AreFromPage pages found = subst (λ (o : Option (Vec StripeInfo Global)). IfSome o (λ all. AreFromPage pages all.items)) c.in-Some.is c.in_ok-stripes.ensures.from in
    let ok = c.if-not-is_possible.false in
    let count : c.len-count.result ≡ length c.args.stripes.items = omega (arith, c.len-count.ensures, c.args.stripes.ok) in
    can_close _ c.args.stripes.items c.len-count.result (c.is_possible.ensures.form ok) (c.is_possible.ensures.some ok) (c.is_possible.ensures.few ok) count
    c.header_pages-pages.ensures.pages (c.of.ensures ∙ made ∙ ap (placed pages) c.as_slice.ensures.value) (subst (AreFromPage pages) (sym c.of.ensures) from)

pub returns-then-not-is_possible-clause-some : goal.returns-then-not-is_possible-clause-some
returns-then-not-is_possible-clause-some c = λ rows has ids_are form_is counted some few.
    let stripes = their_stripes c.args.form c.args.stripes.items c.args.body.items rows has counted some few in
    let size : length c.args.ids.now ≡ length rows = ap length ids_are ∙ length-map rows (λ (row : Row). row.span.trace) in
    absurd (c.is_possible.ensures.other c.if-not-is_possible.true (a_form c.args.form rows form_is)
    (omega (arith, stripes.0, c.len-count.ensures, c.args.stripes.ok)) (omega (arith, stripes.1, c.len-count.ensures, c.args.stripes.ok)) (omega (arith, size, few, c.len.ensures)))

pub returns-in_default-clause-some : goal.returns-in_default-clause-some
returns-in_default-clause-some c = λ rows has ids_are form_is counted some few.
    absurd (is_there _ (c.in_ok-stripes.ensures.some (subst AreCounted (sym c.as_slice.ensures.value) counted)) c.in_default.not-Some)

pub returns-clause-block : goal.returns-clause-block
returns-clause-block c = λ rows has ids_are form_is order.
    let pages = c.header_pages-pages.result in
    let front = c.in_ok-front.front in
    let body = c.args.body.items in
    let tail = c.in_ok-tail.tail in
    let made : c.in-Some.stripes.items ≡ placed pages c.as_slice.result.now = subst (λ (o : Option (Vec StripeInfo Global)). IfSome o (λ all. all.items ≡ placed pages c.as_slice.result.now)) c.in-Some.is c.in_ok-stripes.ensures.placed in
    closes pages c.args.stripes.items body c.of-2.result front rows c.args.ids.now tail _ c.info_of-info.result c.len-2.result has ids_are form_is order c.in_ok-tail.ensures
    (c.of.ensures ∙ made ∙ ap (placed pages) c.as_slice.ensures.value) refl refl c.in_ok-front.ensures
    (c.of-2.ensures ∙ c.in_ok-extend_from_slice-2.ensures.items
    ∙ ap (λ (l : List ℕ). l ++ c.as_slice-5.result.now) (c.in_ok-extend_from_slice.ensures.items ∙ ap (λ (l : List ℕ). l ++ c.as_slice-4.result.now) (c.in_ok-bytes.ensures ∙ ap (λ (l : List ℕ). l ++ body) c.as_slice-3.ensures))
    ∙ ap (λ (l : List ℕ). ((front ++ body) ++ l) ++ c.as_slice-5.result.now) c.as_slice-4.ensures ∙ ap (λ (l : List ℕ). ((front ++ body) ++ tail.index) ++ l) c.as_slice-5.ensures)
    c.info_of-info.ensures (c.len-2.ensures ∙ ap length ids_are ∙ length-map rows (λ (row : Row). row.span.trace))

pub returns-clause-some : goal.returns-clause-some
returns-clause-some c = λ rows has ids_are form_is counted some few. refl
