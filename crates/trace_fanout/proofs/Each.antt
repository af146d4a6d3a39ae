-- What a query answers of lists of rows, gone over one by one and in parts.
use Rattle.std.proofs.Common.{◌≡◌, ℕ, ◌+◌, ◌<◌, List, [], ◌∷◌, ◌++◌, Option, refl, sym, subst, length, take, slice_index_or, append-nil, Vec, Global}
use Rattle.std.specs.List.{AllZip, flat_map}
use Rattle.std.specs.Option.{option_to_list}
use Rattle.std.proofs.lemmas.List.{take_more}
use Rattle.span_types.specs.declared.spans.Row.{Row}
use Rattle.spanset_eval.specs.declared.results.TraceResult.{TraceResult}
use Rattle.spanset_eval.specs.Outcomes.{IsOutcome}
use Rattle.traceql_syntax.specs.Trees.{QueryTree}
use Rattle.traceql_types.specs.declared.pattern.Pattern.{Pattern}
use Rattle.search_answer.specs.Parts.{Answers}
use Rattle.search_answer.proofs.PartLaws.{joined}

module _ (ps : List Pattern) (q : QueryTree) where
  -- One more trace, in a list of which the first i were gone over.
  pub next_trace : (traces : List (List Row)) (i : ℕ) (d : List Row) (found after : List TraceResult) (outcome : Option TraceResult) → i < length traces
      → IsOutcome ps (slice_index_or traces i d) q outcome → after ≡ found ++ option_to_list outcome → Answers ps q (take i traces) found → Answers ps q (take (i + 1) traces) after
  next_trace traces i d found after outcome low is more so_far =
      let one : Answers ps q (slice_index_or traces i d ∷ []) (option_to_list outcome) = (outcome, [], is, refl, sym (append-nil (option_to_list outcome))) in
      let both = joined ps q (take i traces) (slice_index_or traces i d ∷ []) found (option_to_list outcome) so_far one in
      subst (λ ts. Answers ps q ts after) (sym (take_more traces i d low)) (subst (λ l. Answers ps q (take i traces ++ slice_index_or traces i d ∷ []) l) (sym more) both)

  -- What parts answer, joined, is what the list answers.
  pub parts_answer : (parts : List (List (List Row))) (made : List (Vec TraceResult Global)) → AllZip (λ (part : List (List Row)) (found : Vec TraceResult Global). Answers ps q part found.items) parts made
      → Answers ps q (flat_map (λ l. l) parts) (flat_map (λ (found : Vec TraceResult Global). found.items) made)
  parts_answer [] [] each = refl
  parts_answer [] (v ∷ vs) each = absurd each
  parts_answer (p ∷ parts) [] each = absurd each
  parts_answer (p ∷ parts) (v ∷ vs) (here, each) =
      joined ps q p (flat_map (λ l. l) parts) v.items (flat_map (λ (found : Vec TraceResult Global). found.items) vs) here (parts_answer parts vs each)
