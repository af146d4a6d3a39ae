-- The scan that has come least far.
use Rattle.std.proofs.Common.{◌≡◌, ℕ, ◌+◌, ◌<◌, true, false, List, All, None, Option, Some, arith, ap, length, refl, slice_index_or, subst, sym, take, ◌∙◌}
use Rattle.std.specs.Prelude.{IfSome}
use Rattle.std.proofs.lemmas.List.{get_or_default, take_all}
use Rattle.std.proofs.lemmas.List.Elements.{All-more, All-weaker}
use Rattle.query_fanout.specs.Rounds.{AllReach, IsLeast, goes_to, is_all}
use Rattle.query_fanout.specs.declared.reach.Reach.{Reach}
use Rattle.query_fanout.specs.declared.reach.Reach.TheVariants.{Nothing, Upto, Whole}
use Rattle.query_fanout.specs.declared.scans.Scan.{Scan}
use Rattle.query_fanout.proofs.ReachLaws.{at_whole, no_further, to_further, to_itself}

-- the scan at a place goes up to here, and isn't at its end
pub record IsAt (scans : List Scan) (upto : Reach) (n at : ℕ) : Type 0 where
  pub low : at < n
  pub goes : (d : Scan) → (slice_index_or scans at d).upto ≡ upto
  pub goes_on : is_all upto ≡ false

-- the least of the first ones
pub record LeastSoFar (scans : List Scan) (n : ℕ) (at : Option ℕ) (upto : Reach) : Type 0 where
  pub least : AllReach upto (take n scans)
  pub some : IfSome at (λ k. IsAt scans upto n k)
  pub none : at ≡ None → upto ≡ Whole

not_whole : (a b : Reach) → goes_to a b ≡ false → is_all b ≡ false
not_whole a Nothing is = refl
not_whole a (Upto y) is = refl
not_whole Nothing Whole is = cc
not_whole (Upto x) Whole is = cc
not_whole Whole Whole is = cc

pub as_far : (scans : List Scan) (n : ℕ) (scan : Scan) (at : Option ℕ) (upto : Reach) → n < length scans → scan ≡ slice_index_or scans n scan → LeastSoFar scans n at upto → goes_to upto scan.upto ≡ true
    → LeastSoFar scans (n + 1) at upto
as_far scans n scan at upto low there so is = record {
  least = All-more (λ s. goes_to upto s.upto ≡ true) scans n scan low so.least (subst (λ (s : Scan). goes_to upto s.upto ≡ true) there is);
  some = later at so.some;
  none = so.none;
}
  where
    later : (at : Option ℕ) → IfSome at (λ k. IsAt scans upto n k) → IfSome at (λ k. IsAt scans upto (n + 1) k)
    later None h = tt
    later (Some k) h = let under = h.low in record { low = omega (arith, under); goes = h.goes; goes_on = h.goes_on }

pub nearer : (scans : List Scan) (n : ℕ) (scan : Scan) (at : Option ℕ) (upto : Reach) → n < length scans → scan ≡ slice_index_or scans n scan → LeastSoFar scans n at upto
    → goes_to upto scan.upto ≡ false → LeastSoFar scans (n + 1) (Some n) scan.upto
nearer scans n scan at upto low there so is = record {
  least = All-more (λ s. goes_to scan.upto s.upto ≡ true) scans n scan low
      (All-weaker (λ s. goes_to upto s.upto ≡ true) (λ s. goes_to scan.upto s.upto ≡ true) (λ s far. to_further scan.upto upto s.upto (no_further upto scan.upto is) far) (take n scans) so.least)
      (subst (λ (s : Scan). goes_to scan.upto s.upto ≡ true) there (to_itself scan.upto));
  some = record { low = omega arith; goes = goes; goes_on = not_whole upto scan.upto is };
  none = λ e. cc;
}
  where
    goes : (d : Scan) → (slice_index_or scans n d).upto ≡ scan.upto
    goes d = ap (λ (s : Scan). s.upto) (sym (there ∙ get_or_default scans n scan d low))

-- the least of all
pub is_least : (scans : List Scan) (at : Option ℕ) (upto : Reach) → LeastSoFar scans (length scans) at upto → IfSome at (λ k. IsLeast scans k)
is_least scans None upto so = tt
is_least scans (Some k) upto so = record {
  low = so.some.low;
  goes_on = λ d. ap is_all (so.some.goes d) ∙ so.some.goes_on;
  least = λ d. subst (λ (r : Reach). AllReach r scans) (sym (so.some.goes d)) (subst (λ (l : List Scan). AllReach upto l) (take_all (length scans) scans (omega arith)) so.least);
}

pub all_ended : (scans : List Scan) (at : Option ℕ) (upto : Reach) → LeastSoFar scans (length scans) at upto → at ≡ None → All (λ scan. is_all scan.upto ≡ true) scans
all_ended scans at upto so none =
    All-weaker (λ scan. goes_to upto scan.upto ≡ true) (λ scan. is_all scan.upto ≡ true)
    (λ scan far. ap is_all (at_whole scan.upto (ap (λ r. goes_to r scan.upto) (sym (so.none none)) ∙ far))) scans
    (subst (λ (l : List Scan). AllReach upto l) (take_all (length scans) scans (omega arith)) so.least)
