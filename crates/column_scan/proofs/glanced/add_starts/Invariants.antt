use Rattle.std.proofs.Common.{◌≡◌, ◌++◌, List, take}
use Rattle.span_types.specs.declared.spans.Row.{Row}
use Rattle.stripe_glances.specs.Glances.{IsGlance}
use Rattle.column_scan.specs.Candidates.{HaveLatest, spans_of}
use Rattle.column_scan.specs.Sieves.{sifted_picks}
use Rattle.column_scan.proofs.glanced.add_starts.Given as goal

abbrev pub invariant-loop-i : goal.invariant-loop-i
invariant-loop-i l = record {
  same : l.sifter ≡ l.fn.sifter;
  found : (rows : List Row) → IsGlance rows l.glance → HaveLatest (l.fn.picks.items ++ sifted_picks l.fn.sifter (spans_of (take l.i rows))) l.picks.items;
}
