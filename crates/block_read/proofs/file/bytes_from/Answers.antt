use Rattle.std.proofs.Common.{◌≡◌, ◌+◌, ◌*◌, ◌++◌, ℕ, List, take, drop, sym, subst, ◌∙◌, ap, arith}
use Rattle.std.specs.Prelude.{IsTrue}
use Rattle.std.proofs.lemmas.Result.{err_from_is_err_and}
use Rattle.block_read.specs.Files.{page_of}
use Rattle.block_read.proofs.PageReads.{page_later, read_then, rose_more, told_more}
use Rattle.block_read.proofs.file.bytes_from.Goals as goal

pub returns-in_err-add_page-clause-only : goal.returns-in_err-add_page-clause-only
returns-in_err-add_page-clause-only g c =
    let P = g.P.Pages in
    let p = err_from_is_err_and c.from_residual.result c.from_residual.ensures.1 in
    rw (p.1, p.2) (read_then P.tells P.held P.faults P.ready P.went P.name _ c.args.pages.now c.loop-page.pages c.add_page.new.pages c.loop-page.invariant.only c.in_err-add_page.ensures.only)

pub loop-page-preserved : goal.loop-page-preserved
loop-page-preserved g c =
    let P = g.P.Pages in
    let h = c.loop-page.invariant in
    let e = c.in_ok-add_page.ensures in
    record {
      told = λ told.
          let there : IsTrue (P.tells c.loop-page.pages) = subst IsTrue (sym h.only.stays.telling) told in
          let same : P.held c.loop-page.pages c.args.block ≡ P.held c.args.pages.now c.args.block = h.only.stays.same_files told c.args.block in
          let here : page_of (P.held c.loop-page.pages c.args.block) (c.args.first + c.loop-page.page) ≡ page_of (drop (4096 * c.args.first) (P.held c.args.pages.now c.args.block)) c.loop-page.page =
          ap (λ (b : List ℕ). page_of b (c.args.first + c.loop-page.page)) same ∙ page_later (P.held c.args.pages.now c.args.block) c.args.first c.loop-page.page in
          let more = subst (λ (b : List ℕ). c.add_page.new.bytes.items ≡ c.loop-page.bytes.items ++ take c.min-wanted.result b) here (e.bytes there) in
          told_more (drop (4096 * c.args.first) (P.held c.args.pages.now c.args.block)) c.args.length c.loop-page.page c.min-wanted.result c.loop-page.bytes.items c.add_page.new.bytes.items
          (omega (arith, c.loop-page-test.true)) (omega (arith, c.min-wanted.ensures)) (h.told told) more;
      only = read_then P.tells P.held P.faults P.ready P.went P.name _ c.args.pages.now c.loop-page.pages c.add_page.new.pages h.only e.only;
      reads = rose_more c.loop-page.page 1 (c.loop-page.page + 1) (P.reads c.args.pages.now) (P.reads c.loop-page.pages) (P.reads c.add_page.new.pages) (omega arith) h.reads e.reads;
    }
