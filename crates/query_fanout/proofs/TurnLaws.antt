-- Parts of picks in order.
use Rattle.std.proofs.Common.{◌≡◌, Bool, true, false, not, filter, refl, ℕ, ◌+◌, ◌<◌, min, List, [], ◌∷◌, ◌++◌, All, Bor, length, take, drop, append-nil, sym, ◌∙◌, ap, subst, arith}
use Rattle.std.specs.List.{flat_map}
use Rattle.std.proofs.lemmas.Grind.{flat_map-append}
use Rattle.std.proofs.lemmas.List.{append_assoc, get_or-drop, get_or-take, length-drop, length-take, take-append-drop}
use Rattle.std.proofs.lemmas.List.Elements.{All-push}
use Rattle.std.specs.Prelude.{get_or, nat_le, nat_lt}
use Rattle.std.specs.List.Sorted.{IsPermutation}
use Rattle.std.proofs.lemmas.Bool.{leb-false, leb-true, lt-ltb, ltb-true}
use Rattle.std.proofs.lemmas.List.Kept.{AllPairs-filter}
use Rattle.std.proofs.lemmas.List.Sorted.{IsPermutation-filter_both}
use Rattle.std.specs.declared.cmp.Ordering.TheVariants.{Less}
use Rattle.span_types.specs.Orders.{trace_cmp}
use Rattle.column_scan.specs.Candidates.{Ascend}
use Rattle.column_scan.specs.declared.picks.Pick.{Pick}

below_both : (j n m : ℕ) → j < min n m → (j < n) × (j < m)
below_both j n m h = (omega (arith, h), omega (arith, h))

front_ascends : (n : ℕ) (picks : List Pick) → Ascend picks → Ascend (take n picks)
front_ascends n picks up = λ i j d l h.
    let both : (j < n) × (j < length picks) = below_both j n (length picks) (subst (λ k. j < k) (length-take n picks) h) in
    let low = both.0 in
    subst (λ p. trace_cmp p.trace (get_or (take n picks) j d).trace ≡ Less) (sym (get_or-take n picks i d (omega (arith, l, low))))
    (subst (λ q. trace_cmp (get_or picks i d).trace q.trace ≡ Less) (sym (get_or-take n picks j d low)) (up i j d l both.1))

back_ascends : (n : ℕ) (picks : List Pick) → Ascend picks → Ascend (drop n picks)
back_ascends n picks up = λ i j d l h.
    let size = length-drop n picks in
    subst (λ p. trace_cmp p.trace (get_or (drop n picks) j d).trace ≡ Less) (sym (get_or-drop n picks i d))
    (subst (λ q. trace_cmp (get_or picks (n + i) d).trace q.trace ≡ Less) (sym (get_or-drop n picks j d)) (up (n + i) (n + j) d (omega (arith, l)) (omega (arith, h, size))))

-- the turns so far, and what is left
abbrev pub AddsTurns : List (Bor (List Pick)) → List Pick → List (Bor (List Pick)) → List Pick → Type 0
AddsTurns old picks turns rest =
    (flat_map (λ few. few.now) turns ++ rest ≡ flat_map (λ few. few.now) old ++ picks) × All (λ few. Ascend few.now) turns × Ascend rest

pub one_more : (old turns : List (Bor (List Pick))) (picks rest back : List Pick) (few : Bor (List Pick)) (n : ℕ) → AddsTurns old picks turns rest → few.now ≡ take n rest → back ≡ drop n rest
    → AddsTurns old picks (turns ++ few ∷ []) back
one_more old turns picks rest back few n (same, up, left) front_is back_is = (
  ap (λ l. l ++ back) (flat_map-append (λ f. f.now) turns (few ∷ [])) ∙ append_assoc (flat_map (λ f. f.now) turns) (few.now ++ []) back
      ∙ ap (λ l. flat_map (λ f. f.now) turns ++ l) (ap (λ l. l ++ back) (append-nil few.now) ∙ ap (λ l. l ++ back) front_is ∙ ap (λ l. take n rest ++ l) back_is ∙ take-append-drop n rest) ∙ same,
  All-push (λ f. Ascend f.now) turns few up (subst Ascend (sym front_is) (front_ascends n rest left)),
  subst Ascend (sym back_is) (back_ascends n rest left),
)

split : (moment latest : ℕ) → nat_lt latest moment ≡ not (nat_le moment latest)
split moment latest = elim (nat_le moment latest) as (λ b. nat_le moment latest ≡ b → nat_lt latest moment ≡ not b) [
  | true ↦ λ e. elim (nat_lt latest moment) as (λ b. nat_lt latest moment ≡ b → b ≡ false) [
    | true ↦ λ f. let low = leb-true moment latest e in let high = ltb-true latest moment f in absurd (omega (arith, low, high))
    | false ↦ λ f. refl
  ] refl
  | false ↦ λ e. let low = leb-false moment latest e in lt-ltb latest moment (omega (arith, low))
] refl

pub two_parts_same : (moment : ℕ) (picks late early : List Pick) → late ≡ filter (λ p. nat_le moment p.latest) picks → early ≡ filter (λ p. nat_lt p.latest moment) picks
    → IsPermutation picks (late ++ early)
two_parts_same moment picks late early a b = subst (λ l. IsPermutation picks (l ++ early)) (sym a) (subst (λ l. IsPermutation picks (filter (λ p. nat_le moment p.latest) picks ++ l)) (sym b)
    (IsPermutation-filter_both (λ p. nat_le moment p.latest) (λ p. nat_lt p.latest moment) (λ p. split moment p.latest) picks))

pub part_ascends : (p : Pick → Bool) (picks part : List Pick) → Ascend picks → part ≡ filter p picks → Ascend part
part_ascends p picks part up is = subst Ascend (sym is) (AllPairs-filter (λ a b. trace_cmp a.trace b.trace ≡ Less) p picks up)
