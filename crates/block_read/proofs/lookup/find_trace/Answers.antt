use Rattle.std.proofs.Common.{sym, subst, List, ℕ}
use Rattle.std.specs.Prelude.{IsTrue, is_err}
use Rattle.block_format.specs.Blocks.{ids_of}
use Rattle.block_read.specs.Lookups.{HasIndex}
use Rattle.block_read.proofs.DescribedLaws.{index_stands}
use Rattle.block_read.proofs.PageReads.{read_then}
use Rattle.block_read.proofs.lookup.find_trace.Goals as goal

pub returns-in-Ok-true-clause-place : goal.returns-in-Ok-true-clause-place
returns-in-Ok-true-clause-place g c = λ told rows has.
    let P = g.P.Pages in
    let stays = c.in-Ok-true.ensures.only.stays in
    c.find_entry.ensures.place (subst IsTrue (sym stays.telling) told) (ids_of rows)
    (subst (λ (bytes : List ℕ). HasIndex c.args.info.now bytes (ids_of rows)) (sym (stays.same_files told c.args.block)) (index_stands c.args.info.now (P.held c.args.pages.now c.args.block) rows has))

pub returns-in-Ok-true-clause-only : goal.returns-in-Ok-true-clause-only
returns-in-Ok-true-clause-only g c =
    let P = g.P.Pages in
    read_then P.tells P.held P.faults P.ready P.went P.name (is_err c.find_entry.result) c.args.pages.now c.may_have.new.pages c.find_entry.new.pages c.in-Ok-true.ensures.only c.find_entry.ensures.only
