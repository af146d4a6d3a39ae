use Rattle.std.proofs.Common.{◌≡◌, List, take, false}
use Rattle.std.specs.List.{list_any}
use Rattle.span_types.specs.declared.spans.Row.{Row}
use Rattle.stripe_glances.specs.Glances.{IsGlance}
use Rattle.column_scan.specs.Candidates.{spans_of}
use Rattle.column_scan.specs.Sieves.{meets_members}
use Rattle.column_scan.proofs.glanced.some_meets.Given as goal

abbrev pub invariant-loop-i : goal.invariant-loop-i
invariant-loop-i l = record {
  same : l.sifter ≡ l.fn.sifter;
  none : (rows : List Row) → IsGlance rows l.glance → list_any (meets_members l.fn.sifter) (spans_of (take l.i rows)) ≡ false;
}
