-- An entry of the trace is on one of the pages that are left, and a page was read for each digit less.
use Rattle.std.proofs.Common.{◌≡◌, ◌-◌, false}
use Rattle.block_read.specs.PageReads.{OnlyReads}
use Rattle.block_read.proofs.Narrowing.{Narrowed}
use Rattle.block_read.proofs.lookup.find_entry.Given as goal

abbrev pub invariant-loop-low : goal.invariant-loop-low
invariant-loop-low g l =
    let P = g.P.Pages in
    record {
      narrowed : Narrowed P.tells P.held P.reads l.fn.info l.fn.id l.block l.fn.pages l.pages l.low l.high;
      only : OnlyReads P.tells P.held P.faults P.ready P.went P.name l.fn.pages false l.pages;
      first : l.first ≡ l.fn.info.index_page;
      info : l.info ≡ l.fn.info;
      id : l.id ≡ l.fn.id;
    }

abbrev pub decreases-loop-low : goal.decreases-loop-low
decreases-loop-low g l = l.high - l.low
