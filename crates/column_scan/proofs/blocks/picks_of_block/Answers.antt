use Rattle.std.proofs.Common.{◌++◌, List, Err, length, subst, ◌∙◌, ap}
use Rattle.std.proofs.lemmas.Result.{err_from_is_err_and}
use Rattle.column_scan.specs.Candidates.{HaveLatest, spans_of}
use Rattle.column_scan.specs.Scans.{rows_between}
use Rattle.column_scan.specs.Sieves.{AreSifted, SieveParts, sifted_picks}
use Rattle.column_scan.specs.declared.picks.Pick.{Pick}
use Rattle.column_scan.specs.declared.scans.Progress.{Progress}
use Rattle.column_scan.proofs.Latest.{of_latest}
use Rattle.column_scan.proofs.Stripes.{all_stripes, fits_passed, none_left}
use Rattle.column_scan.proofs.blocks.picks_of_block.Goals as goal

pub returns-in_err-scan_stripes-clause-answers : goal.returns-in_err-scan_stripes-clause-answers
returns-in_err-scan_stripes-clause-answers g c = λ told rows has.
    let p = err_from_is_err_and c.from_residual.result c.from_residual.ensures.1 in
    fits_passed (λ (progress : Progress). HaveLatest (c.new-picks.result.items ++ sifted_picks c.in-Ok.sifter (spans_of (rows_between 0 progress.next rows))) c.scan_stripes.new.picks.items)
    (λ picks. AreSifted c.args.sieve.now (spans_of rows) picks.items) c.scan_stripes.result c.from_residual.result c.in_err-scan_stripes.field-0.0
    c.in_err-scan_stripes.was (p.1 ∙ ap Err p.2) (c.scan_stripes.ensures.answers told rows has)

pub returns-in-Ok-in_order-clause-answers : goal.returns-in-Ok-in_order-clause-answers
returns-in-Ok-in_order-clause-answers g c = λ told rows has.
    let found = c.scan_stripes.new.picks.items in
    let next = c.in_ok-scan_stripes.field-0.next in
    let begun : HaveLatest (sifted_picks c.in-Ok.sifter (spans_of (rows_between 0 next rows))) found =
    subst (λ (l : List Pick). HaveLatest (l ++ sifted_picks c.in-Ok.sifter (spans_of (rows_between 0 next rows))) found) c.new-picks.ensures.items (c.in_ok-scan_stripes.ensures.answers told rows has) in
    let have : HaveLatest (sifted_picks c.args.sieve.now (spans_of (rows_between 0 next rows))) found =
    subst (λ (s : SieveParts). HaveLatest (sifted_picks s (spans_of (rows_between 0 next rows))) found) c.in-Ok.ensures begun in
    let whole = all_stripes c.args.sieve.now c.args.info.now (g.P.Pages.held c.args.pages.now c.args.block) rows found next has (none_left (length c.args.info.now.stripes) next c.in_ok-scan_stripes.ensures.ends) have in
    record {
      latest = of_latest (sifted_picks c.args.sieve.now (spans_of rows)) found c.in-Ok-in_order.all.items whole c.in-Ok-in_order.ensures.latest;
      ascending = c.in-Ok-in_order.ensures.ascending;
    }
