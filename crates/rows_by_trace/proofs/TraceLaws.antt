-- The first occurrences of a trace's rows are the trace's rows among the first occurrences of all.
use Rattle.std.proofs.Common.{◌≡◌, ℕ, ◌+◌, ◌<◌, zero, suc, List, [], ◌∷◌, Some, None, Bool, true, false, refl, sym, ◌∙◌, ap, subst, arith, length, filter, Contains, slice_index_or, ◌-◌, if◌then◌else◌}
use Rattle.std.specs.declared.cmp.Ordering.TheVariants.{Less, Equal, Greater}
use Rattle.std.specs.declared.cmp.Ordering.{Ordering}
use Rattle.std.specs.Ordering.{is_eq}
use Rattle.std.specs.List.{AllAdjacentBelow, AllPairs}
use Rattle.std.proofs.lemmas.List.Elements.{All-filter, filter_passes}
use Rattle.std.proofs.lemmas.List.Kept.{AllPairs-filter}
use Rattle.span_types.specs.declared.ids.Key.{Key}
use Rattle.span_types.specs.declared.ids.TraceId.{TraceId}
use Rattle.span_types.specs.declared.spans.Row.{Row}
use Rattle.span_types.specs.Keys.{row_key}
use Rattle.span_types.specs.Orders.{trace_cmp, key_cmp, block_order}
use Rattle.span_types.specs.First.{first_at, lesser, row_at, IsFirstOf}
use Rattle.span_types.proofs.FirstLaws.{block_order_total, key_cmp_exact, key_of_first}
use Rattle.rows_by_trace.specs.Traces.{is_of_trace, rows_of_trace}

is_equal : (o : Ordering) → is_eq o ≡ true → o ≡ Equal
is_equal Less h = cc
is_equal Equal h = refl
is_equal Greater h = cc

true_false : true ≡ false → ⊥
true_false b = cc

false_true : false ≡ true → ⊥
false_true b = cc

-- A key's row in a list is its row among the rows of its trace, and no other trace has it.
first_at-same : (id : TraceId) (k : Key) (rows : List Row) → is_eq (trace_cmp k.trace id) ≡ true → first_at k (rows_of_trace id rows) ≡ first_at k rows
first_at-same id k [] h = refl
first_at-same id k (r ∷ rs) h =
    elim (is_of_trace id r) as (λ t. is_of_trace id r ≡ t → first_at k (if t then r ∷ rows_of_trace id rs else rows_of_trace id rs) ≡ first_at k (r ∷ rs)) [
      | true ↦ λ e. ap (lesser (row_at k r)) (first_at-same id k rs h)
      | false ↦ λ e. first_at-same id k rs h ∙ sym (ap (λ o. lesser o (first_at k rs)) (other_row r e))
    ] refl
  where
    other_row : (r : Row) → is_of_trace id r ≡ false → row_at k r ≡ None
    other_row r e =
        elim (is_eq (key_cmp (row_key r) k)) as (λ t. is_eq (key_cmp (row_key r) k) ≡ t → (if t then Some r else None) ≡ None) [
          | true ↦ λ s. absurd (true_false (sym h ∙ ap (λ q. is_eq (trace_cmp q.trace id)) (sym (key_cmp_exact (row_key r) k (is_equal _ s))) ∙ e))
          | false ↦ λ s. refl
        ] refl

first_at-other : (id : TraceId) (k : Key) (rows : List Row) → is_eq (trace_cmp k.trace id) ≡ false → first_at k (rows_of_trace id rows) ≡ None
first_at-other id k [] h = refl
first_at-other id k (r ∷ rs) h =
    elim (is_of_trace id r) as (λ t. is_of_trace id r ≡ t → first_at k (if t then r ∷ rows_of_trace id rs else rows_of_trace id rs) ≡ None) [
      | true ↦ λ e. ap (λ o. lesser o (first_at k (rows_of_trace id rs))) (other_row r e) ∙ first_at-other id k rs h
      | false ↦ λ e. first_at-other id k rs h
    ] refl
  where
    other_row : (r : Row) → is_of_trace id r ≡ true → row_at k r ≡ None
    other_row r e =
        elim (is_eq (key_cmp (row_key r) k)) as (λ t. is_eq (key_cmp (row_key r) k) ≡ t → (if t then Some r else None) ≡ None) [
          | true ↦ λ s. absurd (false_true (sym h ∙ ap (λ q. is_eq (trace_cmp q.trace id)) (sym (key_cmp_exact (row_key r) k (is_equal _ s))) ∙ e))
          | false ↦ λ s. refl
        ] refl

-- ---- order

follows_later : (xs : List Row) → AllAdjacentBelow (λ a b. block_order a b ≡ Less) xs (length xs) → (i n : ℕ) (d : Row) → i + suc n < length xs →
    block_order (slice_index_or xs i d) (slice_index_or xs (i + suc n) d) ≡ Less
follows_later xs up i zero d h = let P : ℕ → Type 0 = λ m. block_order (slice_index_or xs i d) (slice_index_or xs m d) ≡ Less in
    subst P (next i) (up i d (omega arith))
  where
    next : (i : ℕ) → i + 1 ≡ i + suc zero
    next i = omega arith
follows_later xs up i (suc n) d h = let P : ℕ → Type 0 = λ m. block_order (slice_index_or xs i d) (slice_index_or xs m d) ≡ Less in
    subst P (next i n)
    (block_order_total.trans (slice_index_or xs i d) (slice_index_or xs (i + suc n) d) (slice_index_or xs (i + suc n + 1) d)
    (follows_later xs up i n d (omega arith)) (up (i + suc n) d (omega arith)))
  where
    next : (i n : ℕ) → i + suc n + 1 ≡ i + suc (suc n)
    next i n = omega arith

pub all_pairs : (xs : List Row) → AllAdjacentBelow (λ a b. block_order a b ≡ Less) xs (length xs) → AllPairs (λ a b. block_order a b ≡ Less) xs
all_pairs xs up = λ i j d l h. let P : ℕ → Type 0 = λ m. block_order (slice_index_or xs i d) (slice_index_or xs m d) ≡ Less in
    subst P (apart i j l) (follows_later xs up i (j - suc i) d (omega arith))
  where
    apart : (i j : ℕ) → i < j → i + suc (j - suc i) ≡ j
    apart i j l = omega arith

neighbours : (xs : List Row) → AllPairs (λ a b. block_order a b ≡ Less) xs → AllAdjacentBelow (λ a b. block_order a b ≡ Less) xs (length xs)
neighbours xs pairs = λ k d h. pairs k (k + 1) d (omega arith) h

-- ---- members

kept_member : (p : Row → Bool) (xs : List Row) (x : Row) (k : ℕ) → k < length xs → slice_index_or xs k x ≡ x → p x ≡ true → Contains (filter p xs) x
kept_member p [] x k l e h = absurd (omega arith)
kept_member p (y ∷ ys) x zero l e h = rw (ap p e ∙ h) (zero, omega arith, e)
kept_member p (y ∷ ys) x (suc k) l e h =
    let inner = kept_member p ys x k (omega arith) e h in
    elim (p y) as (λ t. Contains (if t then y ∷ filter p ys else filter p ys) x) [
      | true ↦ (suc inner.0, omega (arith, inner.1), inner.2)
      | false ↦ inner
    ]

-- The rows of one trace among first occurrences are the first occurrences of the trace's rows.
pub trace_of_firsts : (id : TraceId) (rows firsts : List Row) → IsFirstOf rows firsts → IsFirstOf (rows_of_trace id rows) (rows_of_trace id firsts)
trace_of_firsts id rows firsts is = record {
  only = λ k d h.
      let r : Row = slice_index_or (rows_of_trace id firsts) k d in
      first_at-same id (row_key r) rows (filter_passes (is_of_trace id) firsts k d h) ∙ All-filter (is_of_trace id) (λ r. first_at (row_key r) rows ≡ Some r) firsts is.only k d h;
  whole = λ k r h. whole_at k r h (is_eq (trace_cmp k.trace id)) refl;
  ordered = neighbours (rows_of_trace id firsts) (AllPairs-filter (λ a b. block_order a b ≡ Less) (is_of_trace id) firsts (all_pairs firsts is.ordered));
}
  where
    whole_at : (k : Key) (r : Row) → first_at k (rows_of_trace id rows) ≡ Some r → (t : Bool) → is_eq (trace_cmp k.trace id) ≡ t → Contains (rows_of_trace id firsts) r
    whole_at k r h true e =
        let first = sym (first_at-same id k rows e) ∙ h in
        let there = is.whole k r first in
        kept_member (is_of_trace id) firsts r there.0 there.1 there.2 (ap (λ q. is_eq (trace_cmp q.trace id)) (key_of_first k rows r first) ∙ e)
    whole_at k r h false e = absurd (none_some (sym (first_at-other id k rows e) ∙ h))
      where
        none_some : None ≡ Some r → ⊥
        none_some b = cc
