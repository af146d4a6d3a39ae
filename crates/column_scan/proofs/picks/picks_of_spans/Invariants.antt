use Rattle.std.proofs.Common.{◌≡◌, take, map}
use Rattle.column_scan.specs.Candidates.{HaveLatest}
use Rattle.column_scan.specs.Sieves.{sifted_picks}
use Rattle.column_scan.proofs.picks.picks_of_spans.Given as goal

abbrev pub invariant-loop-span : goal.invariant-loop-span
invariant-loop-span l = record {
  same : l.sifter ≡ l.fn.sieve;
  found : HaveLatest (sifted_picks l.fn.sieve (map (λ s. s.now) (take l.span-index l.spans))) l.picks.items;
}
