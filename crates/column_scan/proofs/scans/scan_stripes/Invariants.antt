-- The sifted rows of the stripes so far are picked, and only those that may have some are read.
use Rattle.std.proofs.Common.{◌≡◌, ◌+◌, ◌*◌, ◌-◌, ◌<◌, ◌≤◌, ◌++◌, List, length, take, drop, false, None, IfSome}
use Rattle.std.specs.Prelude.{IsTrue}
use Rattle.span_types.specs.declared.spans.Row.{Row}
use Rattle.block_format.specs.Blocks.{BlockHasInfo}
use Rattle.block_read.specs.PageReads.{OnlyReads}
use Rattle.column_scan.specs.Candidates.{HaveLatest, spans_of}
use Rattle.column_scan.specs.Scans.{PartsRows, is_enough, rows_between, scanned_pages, stripes_between}
use Rattle.column_scan.specs.Sieves.{sifted_picks}
use Rattle.column_scan.proofs.scans.scan_stripes.Given as goal

abbrev pub invariant-scan : goal.invariant-scan
invariant-scan g l =
    let P = g.P.Pages in
    record {
      same : l.sifter ≡ l.fn.sifter;
      onward : l.from ≤ l.next;
      told : IsTrue (P.tells l.fn.pages) → (rows : List Row) → BlockHasInfo l.info (P.held l.fn.pages l.block) rows
          → HaveLatest (l.fn.picks.items ++ sifted_picks l.fn.sifter (spans_of (rows_between l.from l.next rows))) l.picks.items;
      last : IsTrue (P.tells l.fn.pages) → (rows : List Row) → BlockHasInfo l.info (P.held l.fn.pages l.block) rows
          → IfSome l.last (λ id. PartsRows id (take (256 * l.next) rows) (drop (256 * l.next) rows));
      begun : l.from ≡ l.next → l.picks ≡ l.fn.picks;
      known : l.from < l.next → l.last ≡ None → is_enough l.most (length l.picks.items) ≡ false;
      reads : P.reads l.pages ≤ P.reads l.fn.pages + scanned_pages l.fn.sifter.hint (stripes_between l.from l.next l.info.stripes);
      more : P.reads l.fn.pages ≤ P.reads l.pages;
      only : OnlyReads P.tells P.held P.faults P.ready P.went P.name l.fn.pages false l.pages;
    }

abbrev pub decreases-scan : goal.decreases-scan
decreases-scan g l = length l.info.stripes - l.next
