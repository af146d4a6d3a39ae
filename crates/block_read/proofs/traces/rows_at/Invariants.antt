-- The trace's rows of the stripes so far, whose pages are read.
use Rattle.std.proofs.Common.{◌≡◌, ◌+◌, ◌*◌, ◌≤◌, List, take, drop, false}
use Rattle.std.specs.Prelude.{IsTrue}
use Rattle.span_types.specs.declared.spans.Row.{Row}
use Rattle.rows_by_trace.specs.Traces.{rows_of_trace}
use Rattle.block_read.specs.Lookups.{HasTrace, pages_with}
use Rattle.block_read.specs.PageReads.{OnlyReads}
use Rattle.block_read.proofs.traces.rows_at.Given as goal

abbrev pub invariant-loop-number : goal.invariant-loop-number
invariant-loop-number g l =
    let P = g.P.Pages in
    record {
      told : IsTrue (P.tells l.fn.pages) → (rows : List Row) → HasTrace l.info (P.held l.fn.pages l.block) l.id l.first l.count rows → l.found.items ≡ rows_of_trace l.id (take (256 * l.number) rows);
      reads : IsTrue (P.tells l.fn.pages) → (rows : List Row) → HasTrace l.info (P.held l.fn.pages l.block) l.id l.first l.count rows
          → P.reads l.pages + pages_with l.id (drop l.number l.info.stripes) (drop (256 * l.number) rows) ≤ P.reads l.fn.pages + pages_with l.id l.info.stripes rows;
      more : P.reads l.fn.pages ≤ P.reads l.pages;
      of_trace : rows_of_trace l.id l.found.items ≡ l.found.items;
      only : OnlyReads P.tells P.held P.faults P.ready P.went P.name l.fn.pages false l.pages;
    }
