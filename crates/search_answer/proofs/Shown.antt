-- What is shown of the first traces, as they are gone over one by one.
use Rattle.std.proofs.Common.{◌≡◌, ℕ, ◌+◌, ◌<◌, ◌≤◌, List, [], ◌∷◌, ◌++◌, Option, Some, None, refl, sym, ◌∙◌, ap, subst, arith, All, length, map, take, drop, slice_index_or, append-nil, length-append}
use Rattle.std.specs.Option.{option_map, option_to_list}
use Rattle.std.proofs.lemmas.List.{length-map, take-append-drop, take-append-le, take_all, take_more}
use Rattle.std.proofs.lemmas.List.Elements.{All-drop, All-map, recursion_from_All}
use Rattle.span_tree.specs.Nodes.{IsOneTrace}
use Rattle.spanset_eval.specs.declared.results.TraceResult.{TraceResult}
use Rattle.spanset_eval.specs.Outcomes.{IsCutOutcome, cut}
use Rattle.traceql_syntax.specs.Trees.{QueryTree}
use Rattle.traceql_types.specs.declared.pattern.Pattern.{Pattern}
use Rattle.search_answer.specs.declared.bounds.Bounds.{Bounds}
use Rattle.search_answer.specs.declared.traces.TraceInRange.{TraceInRange}
use Rattle.search_answer.specs.InRange.{rows_of_each}
use Rattle.search_answer.specs.Parts.{Answers, AreFirstAnswers}
use Rattle.search_answer.proofs.Each.{all_are_answered}
use Rattle.search_answer.proofs.PartLaws.{joined}

-- All that these traces answer is shown, and it isn't more than may be.
pub record SoFar (ps : List Pattern) (q : QueryTree) (bounds : Bounds) (traces : List TraceInRange) (shown : List TraceResult) : Type 0 where
  pub whole : List TraceResult
  pub answers : Answers ps q (rows_of_each traces) whole
  pub is : shown ≡ map (cut (Some bounds.spans_per_set)) whole
  pub few : length whole ≤ bounds.limit

pub none_yet : (ps : List Pattern) (q : QueryTree) (bounds : Bounds) (traces : List TraceInRange) (shown : List TraceResult) → traces ≡ [] → shown ≡ [] → SoFar ps q bounds traces shown
none_yet ps q bounds traces shown none nothing = record {
  whole = [];
  answers = subst (λ ts. Answers ps q (rows_of_each ts) []) (sym none) refl;
  is = nothing;
  few = omega arith;
}

map_append : {A B : Type 0} (f : A → B) (xs ys : List A) → map f (xs ++ ys) ≡ map f xs ++ map f ys
map_append f [] ys = refl
map_append f (x ∷ xs) ys = ap (λ l. f x ∷ l) (map_append f xs ys)

map_option : {A B : Type 0} (f : A → B) (o : Option A) → map f (option_to_list o) ≡ option_to_list (option_map f o)
map_option f None = refl
map_option f (Some x) = refl

short : {A : Type 0} (o : Option A) → length (option_to_list o) ≤ 1
short None = omega arith
short (Some x) = omega arith

-- One more trace.
pub one_more : (ps : List Pattern) (q : QueryTree) (bounds : Bounds) (ts : List TraceInRange) (t : TraceInRange) (shown after : List TraceResult) (found : Option TraceResult) →
    IsCutOutcome (Some bounds.spans_per_set) ps t.rows.now q found → after ≡ shown ++ option_to_list found → length shown < bounds.limit → SoFar ps q bounds ts shown →
    SoFar ps q bounds (ts ++ t ∷ []) after
one_more ps q bounds ts t shown after found outcome is room so_far =
    let limit = bounds.limit in
    let f = cut (Some bounds.spans_per_set) in
    record {
      whole = so_far.whole ++ option_to_list outcome.whole;
      answers = subst (λ rs. Answers ps q rs (so_far.whole ++ option_to_list outcome.whole)) (sym (map_append (λ (u : TraceInRange). u.rows.now) ts (t ∷ [])))
          (joined ps q (rows_of_each ts) (t.rows.now ∷ []) so_far.whole (option_to_list outcome.whole) so_far.answers
          (outcome.whole, [], outcome.is_outcome, refl, sym (append-nil (option_to_list outcome.whole))));
      is = is ∙ ap (λ l. l ++ option_to_list found) so_far.is ∙ ap (λ o. map f so_far.whole ++ option_to_list o) outcome.is
          ∙ ap (λ l. map f so_far.whole ++ l) (sym (map_option f outcome.whole)) ∙ sym (map_append f so_far.whole (option_to_list outcome.whole));
      few = let e = ap length so_far.is ∙ length-map so_far.whole f in let n = length-append so_far.whole (option_to_list outcome.whole) in let s = short outcome.whole in omega arith;
    }

-- The same in a list of which the first i were gone over.
pub next_one : (ps : List Pattern) (q : QueryTree) (bounds : Bounds) (ts : List TraceInRange) (i : ℕ) (d : TraceInRange) (shown after : List TraceResult) (found : Option TraceResult) →
    i < length ts → IsCutOutcome (Some bounds.spans_per_set) ps (slice_index_or ts i d).rows.now q found → after ≡ shown ++ option_to_list found → length shown < bounds.limit →
    SoFar ps q bounds (take i ts) shown → SoFar ps q bounds (take (i + 1) ts) after
next_one ps q bounds ts i d shown after found l outcome is room so_far =
    subst (λ us. SoFar ps q bounds us after) (sym (take_more ts i d l)) (one_more ps q bounds (take i ts) (slice_index_or ts i d) shown after found outcome is room so_far)

-- All were gone over.
pub all_shown : (ps : List Pattern) (q : QueryTree) (bounds : Bounds) (ts : List TraceInRange) (i : ℕ) (shown : List TraceResult) → length ts ≤ i → SoFar ps q bounds (take i ts) shown →
    AreFirstAnswers ps q bounds (rows_of_each ts) shown
all_shown ps q bounds ts i shown l so_far =
    let all : SoFar ps q bounds ts shown = subst (λ us. SoFar ps q bounds us shown) (take_all i ts l) so_far in
    record { all = all.whole; answers = all.answers; are = all.is ∙ ap (map (cut (Some bounds.spans_per_set))) (sym (take_all bounds.limit all.whole all.few)) }

-- As many are shown as may be: the other traces answer something or nothing, whatever it is.
pub enough_shown : (ps : List Pattern) (q : QueryTree) (bounds : Bounds) (ts : List TraceInRange) (i : ℕ) (shown : List TraceResult) → All (λ t. IsOneTrace t.rows.now) ts → bounds.limit ≤ length shown →
    SoFar ps q bounds (take i ts) shown → AreFirstAnswers ps q bounds (rows_of_each ts) shown
enough_shown ps q bounds ts i shown one full so_far =
    let rest = all_are_answered ps q (rows_of_each (drop i ts)) (recursion_from_All IsOneTrace (rows_of_each (drop i ts))
    (All-map IsOneTrace (λ (t : TraceInRange). t.rows.now) (drop i ts) (All-drop (λ t. IsOneTrace t.rows.now) i ts one))) in
    let long : bounds.limit ≤ length so_far.whole = let e = ap length so_far.is ∙ length-map so_far.whole (cut (Some bounds.spans_per_set)) in omega arith in
    record {
      all = so_far.whole ++ rest.0;
      answers = subst (λ us. Answers ps q us (so_far.whole ++ rest.0))
          (sym (map_append (λ (t : TraceInRange). t.rows.now) (take i ts) (drop i ts)) ∙ ap rows_of_each (take-append-drop i ts))
          (joined ps q (rows_of_each (take i ts)) (rows_of_each (drop i ts)) so_far.whole rest.0 so_far.answers rest.1);
      are = so_far.is ∙ ap (map (cut (Some bounds.spans_per_set)))
          (sym (take_all bounds.limit so_far.whole so_far.few) ∙ sym (take-append-le bounds.limit so_far.whole rest.0 long));
    }
