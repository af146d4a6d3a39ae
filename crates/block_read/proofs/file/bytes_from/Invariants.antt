-- The bytes of the pages so far, each of which was read once.
use Rattle.std.proofs.Common.{◌≡◌, ◌*◌, min, drop, false}
use Rattle.std.specs.Prelude.{IsTrue}
use Rattle.block_read.specs.Answers.{RoseAtMost}
use Rattle.block_read.specs.Files.{first_bytes}
use Rattle.block_read.specs.PageReads.{OnlyReads}
use Rattle.block_read.proofs.file.bytes_from.Given as goal

abbrev pub invariant-loop-page : goal.invariant-loop-page
invariant-loop-page g l =
    let P = g.P.Pages in
    record {
      told : IsTrue (P.tells l.fn.pages) → l.bytes.items ≡ first_bytes (min (l.page * 4096) l.length) (drop (4096 * l.first) (P.held l.fn.pages l.block));
      only : OnlyReads P.tells P.held P.faults P.ready P.went P.name l.fn.pages false l.pages;
      reads : RoseAtMost l.page (P.reads l.fn.pages) (P.reads l.pages);
    }
