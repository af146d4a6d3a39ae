-- First results of traces that are gone over a few at a time, and of parts that are evaluated side by side.
use Rattle.std.proofs.Common.{◌≡◌, ℕ, zero, suc, ◌-◌, ◌<◌, ◌≤◌, List, [], ◌∷◌, ◌++◌, true, false, ◌==◌, eqb-true, Some, All, refl, sym, ◌∙◌, ap, subst, arith, length, map, take, drop, append-nil, append_assoc, Vec, Global}
use Rattle.std.specs.List.{AllZip, flat_map}
use Rattle.std.proofs.lemmas.Bool.{true≢false}
use Rattle.std.proofs.lemmas.List.{length-map, length-take, map-append, take-append-drop, take-append-le, take-map, take-take, take_all}
use Rattle.std.proofs.lemmas.List.Elements.{All-map, recursion_from_All}
use Rattle.rayon.proofs.ListFacts.{All-parts}
use Rattle.span_tree.specs.Nodes.{IsOneTrace}
use Rattle.spanset_eval.specs.declared.results.TraceResult.{TraceResult}
use Rattle.spanset_eval.specs.Outcomes.{cut}
use Rattle.traceql_syntax.specs.Trees.{QueryTree}
use Rattle.traceql_types.specs.declared.pattern.Pattern.{Pattern}
use Rattle.search_answer.specs.declared.bounds.Bounds.{Bounds}
use Rattle.search_answer.specs.declared.traces.TraceInRange.{TraceInRange}
use Rattle.search_answer.specs.InRange.{rows_of_each}
use Rattle.search_answer.specs.Parts.{Answers, AreFirstAnswers}
use Rattle.search_answer.proofs.Each.{all_are_answered}
use Rattle.search_answer.proofs.PartLaws.{joined}

-- ---- first items

-- The first of two lists are the first of the one and of the first of the other.
take_over : {X : Type 0} (n m : ℕ) (xs ys : List X) → n ≤ m → take n (xs ++ take m ys) ≡ take n (xs ++ ys)
take_over n m [] ys less = take-take n m ys less
take_over zero m (x ∷ xs) ys less = refl
take_over (suc n) m (x ∷ xs) ys less = ap (λ l. x ∷ l) (take_over n m xs ys (omega (arith, less)))

take_front : {X : Type 0} (n : ℕ) (xs ys : List X) → take n (take n xs ++ ys) ≡ take n (xs ++ ys)
take_front zero xs ys = refl
take_front (suc n) [] ys = refl
take_front (suc n) (x ∷ xs) ys = ap (λ l. x ∷ l) (take_front n xs ys)

-- If one list has fewer, all of it is there, and so many fewer of the other.
take_both : {X : Type 0} (n : ℕ) (xs ys : List X) → length xs ≤ n → take n (xs ++ ys) ≡ xs ++ take (n - length xs) ys
take_both n [] ys less = let same : n ≡ n - 0 = omega arith in ap (λ k. take k ys) same
take_both zero (x ∷ xs) ys less = absurd (omega (arith, less))
take_both (suc n) (x ∷ xs) ys less =
    let same : n - length xs ≡ suc n - suc (length xs) = omega arith in
    ap (λ l. x ∷ l) (take_both n xs ys (omega (arith, less)) ∙ ap (λ k. xs ++ take k ys) same)

pub no_rest : (rest : List TraceInRange) → (length rest == 0) ≡ true → rest ≡ []
no_rest [] none = refl
no_rest (t ∷ rest) none = let e = eqb-true (length (t ∷ rest)) 0 none in absurd (omega arith)

pub some_rest : (rest : List TraceInRange) → (length rest == 0) ≡ false → 0 < length rest
some_rest [] some = absurd (true≢false some)
some_rest (t ∷ rest) some = omega arith

-- The traces before these were gone over, and these are their first results.
pub record GoneOver (ps : List Pattern) (q : QueryTree) (bounds : Bounds) (traces rest : List TraceInRange) (found : List TraceResult) : Type 0 where
  pub gone : List TraceInRange
  pub parted : traces ≡ gone ++ rest
  pub first : AreFirstAnswers ps q bounds (rows_of_each gone) found

-- ---- parts side by side

module _ (ps : List Pattern) (q : QueryTree) (bounds : Bounds) where
  none_first : AreFirstAnswers ps q bounds [] (take bounds.limit [])
  none_first = record { all = []; answers = refl; are = nothing bounds.limit }
    where
      nothing : (n : ℕ) → take n [] ≡ map (cut (Some bounds.spans_per_set)) (take n [])
      nothing zero = refl
      nothing (suc n) = refl

  -- What parts answer first, joined and cut, is what the list answers first.
  pub parts_first : (parts : List (List TraceInRange)) (made : List (Vec TraceResult Global)) → AllZip (λ (part : List TraceInRange) (found : Vec TraceResult Global). AreFirstAnswers ps q bounds (rows_of_each part) found.items) parts made
      → AreFirstAnswers ps q bounds (rows_of_each (flat_map (λ l. l) parts)) (take bounds.limit (flat_map (λ (found : Vec TraceResult Global). found.items) made))
  parts_first [] [] each = none_first
  parts_first [] (v ∷ vs) each = absurd each
  parts_first (p ∷ parts) [] each = absurd each
  parts_first (p ∷ parts) (v ∷ vs) (here, each) =
      let n = bounds.limit in
      let f = cut (Some bounds.spans_per_set) in
      let rest = parts_first parts vs each in
      let others = flat_map (λ (found : Vec TraceResult Global). found.items) vs in
      record {
        all = here.all ++ rest.all;
        answers = subst (λ ts. Answers ps q ts (here.all ++ rest.all)) (sym (map-append (λ (t : TraceInRange). t.rows.now) p (flat_map (λ l. l) parts)))
            (joined ps q (rows_of_each p) (rows_of_each (flat_map (λ l. l) parts)) here.all rest.all here.answers rest.answers);
        are = ap (λ l. take n (l ++ others)) (here.are ∙ sym (take-map f n here.all)) ∙ take_front n (map f here.all) others
            ∙ sym (take_over n n (map f here.all) others (omega arith)) ∙ ap (λ l. take n (map f here.all ++ l)) (rest.are ∙ sym (take-map f n rest.all))
            ∙ take_over n n (map f here.all) (map f rest.all) (omega arith) ∙ ap (take n) (sym (map-append f here.all rest.all)) ∙ take-map f n (here.all ++ rest.all);
      }

  -- ---- windows one after another

  pub first_window : (traces first rest : List TraceInRange) (n : ℕ) (found : List TraceResult) → first ≡ take n traces → rest ≡ drop n traces → AreFirstAnswers ps q bounds (rows_of_each first) found
      → GoneOver ps q bounds traces rest found
  first_window traces first rest n found front back are =
      record { gone = first; parted = sym (take-append-drop n traces) ∙ ap (λ l. l ++ drop n traces) (sym front) ∙ ap (λ l. first ++ l) (sym back); first = are }

  -- Each of the traces that are left is one trace.
  pub one_each : (traces rest : List TraceInRange) (found : List TraceResult) → All (λ t. IsOneTrace t.rows.now) traces → GoneOver ps q bounds traces rest found → All (λ t. IsOneTrace t.rows.now) rest
  one_each traces rest found one so_far =
      (All-parts (λ (t : TraceInRange). IsOneTrace t.rows.now) so_far.gone rest (subst (All (λ (t : TraceInRange). IsOneTrace t.rows.now)) so_far.parted one)).1

  -- The next ones have these first results, of which no more are wanted than are shown yet.
  pub next_window : (less : Bounds) (traces rest window later : List TraceInRange) (n : ℕ) (found more both : List TraceResult)
      → less ≡ record { limit = bounds.limit - length found; spans_per_set = bounds.spans_per_set } → length found < bounds.limit → window ≡ take n rest → later ≡ drop n rest
      → AreFirstAnswers ps q less (rows_of_each window) more → both ≡ found ++ more → GoneOver ps q bounds traces rest found → GoneOver ps q bounds traces later both
  next_window less traces rest window later n found more both left room front back next joins so_far =
      let f = cut (Some bounds.spans_per_set) in
      let all = so_far.first.all in
      let count : length found ≡ length (take bounds.limit all) = ap length so_far.first.are ∙ length-map (take bounds.limit all) f in
      let taken = length-take bounds.limit all in
      let short : length all ≤ bounds.limit = omega (arith, count, taken, room) in
      let same : length found ≡ length all = count ∙ ap length (take_all bounds.limit all short) in
      let here : found ≡ map f all = so_far.first.are ∙ ap (map f) (take_all bounds.limit all short) in
      let there : more ≡ map f (take (bounds.limit - length all) next.all) =
      next.are ∙ ap (λ (b : Bounds). map (cut (Some b.spans_per_set)) (take b.limit next.all)) left ∙ ap (λ k. map f (take (bounds.limit - k) next.all)) same in
      let split : rest ≡ window ++ later = sym (take-append-drop n rest) ∙ ap (λ l. l ++ drop n rest) (sym front) ∙ ap (λ l. window ++ l) (sym back) in
      record {
        gone = so_far.gone ++ window;
        parted = so_far.parted ∙ ap (λ l. so_far.gone ++ l) split ∙ sym (append_assoc so_far.gone window later);
        first = record {
          all = all ++ next.all;
          answers = subst (λ ts. Answers ps q ts (all ++ next.all)) (sym (map-append (λ (t : TraceInRange). t.rows.now) so_far.gone window))
              (joined ps q (rows_of_each so_far.gone) (rows_of_each window) all next.all so_far.first.answers next.answers);
          are = joins ∙ ap (λ l. l ++ more) here ∙ ap (λ l. map f all ++ l) there ∙ sym (map-append f all (take (bounds.limit - length all) next.all))
              ∙ ap (map f) (sym (take_both bounds.limit all next.all short));
        };
      }

  -- No trace is left.
  pub none_left : (traces rest : List TraceInRange) (found : List TraceResult) → rest ≡ [] → GoneOver ps q bounds traces rest found → AreFirstAnswers ps q bounds (rows_of_each traces) found
  none_left traces rest found none so_far =
      subst (λ ts. AreFirstAnswers ps q bounds (rows_of_each ts) found) (sym (so_far.parted ∙ ap (λ l. so_far.gone ++ l) none ∙ append-nil so_far.gone)) so_far.first

  -- As many results are there as are shown: the other traces answer something or nothing, whatever it is.
  pub enough : (traces rest : List TraceInRange) (found : List TraceResult) → All (λ t. IsOneTrace t.rows.now) traces → bounds.limit ≤ length found → GoneOver ps q bounds traces rest found
      → AreFirstAnswers ps q bounds (rows_of_each traces) found
  enough traces rest found one full so_far =
      let f = cut (Some bounds.spans_per_set) in
      let all = so_far.first.all in
      let ones = one_each traces rest found one so_far in
      let others = all_are_answered ps q (rows_of_each rest) (recursion_from_All IsOneTrace (rows_of_each rest) (All-map IsOneTrace (λ (t : TraceInRange). t.rows.now) rest ones)) in
      let count : length found ≡ length (take bounds.limit all) = ap length so_far.first.are ∙ length-map (take bounds.limit all) f in
      let taken = length-take bounds.limit all in
      let long : bounds.limit ≤ length all = omega (arith, count, taken, full) in
      record {
        all = all ++ others.0;
        answers = subst (λ ts. Answers ps q ts (all ++ others.0)) (sym (ap rows_of_each so_far.parted ∙ map-append (λ (t : TraceInRange). t.rows.now) so_far.gone rest))
            (joined ps q (rows_of_each so_far.gone) (rows_of_each rest) all others.0 so_far.first.answers others.1);
        are = so_far.first.are ∙ ap (map f) (sym (take-append-le bounds.limit all others.0 long));
      }
