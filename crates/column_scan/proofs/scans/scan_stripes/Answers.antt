use Rattle.std.proofs.Common.{◌≡◌, ℕ, false, ◌*◌, ◌<◌, ◌++◌, [], ◌∷◌, List, get_or, Bool, Option, Result, Err, take, drop, length, refl, sym, subst, ◌∙◌, ap, arith}
use Rattle.std.specs.Prelude.{IsTrue}
use Rattle.std.proofs.lemmas.Result.{err_from_is_err_and}
use Rattle.span_types.specs.declared.ids.TraceId.{TraceId}
use Rattle.block_info.specs.InfoParts.{InfoParts}
use Rattle.block_info.specs.declared.info.StripeInfo.{StripeInfo}
use Rattle.block_read.specs.Answers.{is_fault}
use Rattle.block_read.specs.PageReads.{OnlyReads}
use Rattle.block_read.specs.declared.error.ReadError.{ReadError}
use Rattle.block_read.proofs.PageReads.{none_read, read_then}
use Rattle.block_read.proofs.TraceWalk.{fault_passed}
use Rattle.column_scan.specs.Candidates.{HaveLatest, spans_of}
use Rattle.column_scan.specs.Scans.{gone_through, is_enough, rows_between, scanned_pages}
use Rattle.column_scan.specs.Sieves.{SieveParts, sifted_picks}
use Rattle.column_scan.specs.Sifting.{TellsLast}
use Rattle.column_scan.specs.declared.picks.Pick.{Pick}
use Rattle.column_scan.specs.declared.scans.Progress.{Progress}
use Rattle.column_scan.proofs.Parted.{parted}
use Rattle.column_scan.proofs.Stripes.{entry_there, fits_passed, next_stripe, none_between, pages_more, pages_within}
use Rattle.column_scan.proofs.scans.scan_stripes.Goals as goal

abbrev no_stripe : StripeInfo
no_stripe = record { page = 0; pages = 0; rows = 0; earliest = 0; latest = 0 }

pub scan-init : goal.scan-init
scan-init g c =
    let P = g.P.Pages in
    record {
      same = refl;
      onward = omega arith;
      told = λ told rows has. none_between c.args.sifter.now c.args.from rows c.args.picks.now.items;
      last = λ told rows has. tt;
      begun = λ is. refl;
      known = λ low none. absurd (omega (arith, low));
      reads = omega arith;
      more = omega arith;
      only = none_read P.tells P.held P.faults P.ready P.went P.name c.args.pages.now;
    }

pub returns-in_err-last-clause-answers : goal.returns-in_err-last-clause-answers
returns-in_err-last-clause-answers g c = λ told rows has.
    let P = g.P.Pages in
    let h = c.scan.invariant in
    let p = err_from_is_err_and c.from_residual.result c.from_residual.ensures.1 in
    let i = c.scan.next in
    let same = c.as_slice-stripes.ensures ∙ ap (λ (n : InfoParts). n.stripes) c.info.view_is in
    let low : i < length c.args.info.now.stripes = omega (arith, c.scan-test.true, ap length same) in
    let entry = entry_there c.args.info.now (P.held c.args.pages.now c.args.block) rows has i no_stripe low c.info.inside.form c.as_slice-stripes.result.now (P.held c.scan.pages c.args.block)
    (ap (λ (n : InfoParts). n.form) c.info.view_is) same (h.only.stays.same_files told c.args.block) in
    let there : IsTrue (P.tells c.scan.pages) = subst IsTrue (sym h.only.stays.telling) told in
    let part = take 256 (drop (256 * i) rows) in
    fits_passed (λ (last : Option TraceId). HaveLatest (c.scan.picks.items ++ sifted_picks c.scan.sifter (spans_of part)) c.add_stripe.new.picks.items × TellsLast part last)
    (λ (progress : Progress). HaveLatest (c.args.picks.now.items ++ sifted_picks c.args.sifter.now (spans_of (rows_between c.args.from progress.next rows))) c.add_stripe.new.picks.items)
    c.add_stripe.result c.from_residual.result c.in_err-last.field-0.0 c.in_err-last.was (p.1 ∙ ap Err p.2) (c.add_stripe.ensures.answers there part entry)

pub returns-in_err-last-clause-reads : goal.returns-in_err-last-clause-reads
returns-in_err-last-clause-reads g c =
    let h = c.scan.invariant in
    let e = c.add_stripe.ensures.reads in
    let p = err_from_is_err_and c.from_residual.result c.from_residual.ensures.1 in
    let i = c.scan.next in
    let stripes = c.args.info.now.stripes in
    let same = c.as_slice-stripes.ensures ∙ ap (λ (n : InfoParts). n.stripes) c.info.view_is in
    let low : i < length stripes = omega (arith, c.scan-test.true, ap length same) in
    let few = h.reads in
    let more = h.more in
    let later = e.later in
    let most = e.at_most in
    let gone = ap (λ (r : Result Progress ReadError). scanned_pages c.args.sifter.now.hint (gone_through c.args.from r stripes)) (p.1 ∙ ap Err p.2) in
    record {
      later = omega (arith, more, later);
      at_most = omega (
        arith,
        few,
        most,
        gone,
        ap (λ (s : SieveParts). scanned_pages s.hint (get_or c.as_slice-stripes.result.now i no_stripe ∷ [])) h.same,
        ap (λ (l : List StripeInfo). scanned_pages c.args.sifter.now.hint (get_or l i no_stripe ∷ [])) same,
        pages_within c.args.sifter.now.hint stripes c.args.from i no_stripe h.onward low,
      );
    }

pub returns-in_err-last-clause-only : goal.returns-in_err-last-clause-only
returns-in_err-last-clause-only g c =
    let P = g.P.Pages in
    let p = err_from_is_err_and c.from_residual.result c.from_residual.ensures.1 in
    let only = read_then P.tells P.held P.faults P.ready P.went P.name (is_fault c.add_stripe.result) c.args.pages.now c.scan.pages c.add_stripe.new.pages c.scan.invariant.only c.add_stripe.ensures.only in
    subst (λ (failed : Bool). OnlyReads P.tells P.held P.faults P.ready P.went P.name c.args.pages.now failed c.add_stripe.new.pages)
    (fault_passed c.add_stripe.result c.from_residual.result c.in_err-last.field-0.0 c.in_err-last.was (p.1 ∙ ap Err p.2)) only

pub scan-preserved : goal.scan-preserved
scan-preserved g c =
    let P = g.P.Pages in
    let h = c.scan.invariant in
    let e = c.in_ok-last.ensures in
    let i = c.scan.next in
    let stripes = c.args.info.now.stripes in
    let same = c.as_slice-stripes.ensures ∙ ap (λ (n : InfoParts). n.stripes) c.info.view_is in
    let low : i < length stripes = omega (arith, c.scan-test.true, ap length same) in
    let few = h.reads in
    let more = h.more in
    let later = e.reads.later in
    let most = e.reads.at_most in
    let onward = h.onward in
    record {
      same = e.same ∙ h.same;
      onward = omega arith;
      told = λ told rows has.
          let entry = entry_there c.args.info.now (P.held c.args.pages.now c.args.block) rows has i no_stripe low c.info.inside.form c.as_slice-stripes.result.now (P.held c.scan.pages c.args.block)
          (ap (λ (n : InfoParts). n.form) c.info.view_is) same (h.only.stays.same_files told c.args.block) in
          let there : IsTrue (P.tells c.scan.pages) = subst IsTrue (sym h.only.stays.telling) told in
          next_stripe c.args.sifter.now c.scan.sifter rows c.args.picks.now.items c.scan.picks.items c.add_stripe.new.picks.items c.args.from i onward h.same (h.told told rows has) (e.answers there (take 256 (drop (256 * i) rows)) entry).0;
      last = λ told rows has.
          let entry = entry_there c.args.info.now (P.held c.args.pages.now c.args.block) rows has i no_stripe low c.info.inside.form c.as_slice-stripes.result.now (P.held c.scan.pages c.args.block)
          (ap (λ (n : InfoParts). n.form) c.info.view_is) same (h.only.stays.same_files told c.args.block) in
          let there : IsTrue (P.tells c.scan.pages) = subst IsTrue (sym h.only.stays.telling) told in
          parted c.args.info.now (P.held c.args.pages.now c.args.block) rows has i c.in_ok-last.last (e.answers there (take 256 (drop (256 * i) rows)) entry).1;
      begun = λ is. absurd (omega (arith, is, onward));
      known = λ low none.
          let items : c.add_stripe.new.picks.items ≡ c.scan.picks.items = cc (e.none none) in
          let size : c.len.result ≡ length c.scan.picks.items = omega arith in
          let few : c.is_enough.result ≡ false = cc in
          ap (λ (l : List Pick). is_enough c.args.most (length l)) items ∙ ap (λ (n : ℕ). is_enough c.args.most n) (sym size) ∙ sym c.is_enough.ensures ∙ few;
      reads = omega (
        arith,
        few,
        most,
        ap (λ (s : SieveParts). scanned_pages s.hint (get_or c.as_slice-stripes.result.now i no_stripe ∷ [])) h.same,
        ap (λ (l : List StripeInfo). scanned_pages c.args.sifter.now.hint (get_or l i no_stripe ∷ [])) same,
        pages_more c.args.sifter.now.hint stripes c.args.from i no_stripe onward low,
      );
      more = omega (arith, more, later);
      only = read_then P.tells P.held P.faults P.ready P.went P.name _ c.args.pages.now c.scan.pages c.add_stripe.new.pages h.only e.only;
    }
