-- The first trace of rows in block order, and the rows after it.
use Rattle.std.proofs.Common.{◌≡◌, ◌≢◌, ◌⊎◌, inl, inr, ℕ, zero, suc, ◌+◌, ◌<◌, List, [], ◌∷◌, ◌++◌, Bool, true, false, refl, sym, ◌∙◌, ap, arith, length, take, drop, filter, slice_index_or}
use Rattle.std.specs.List.{AllPairs}
use Rattle.std.specs.Ordering.{is_eq, ordering_then, ordering_reverse}
use Rattle.std.specs.declared.cmp.Ordering.{Ordering}
use Rattle.std.specs.declared.cmp.Ordering.TheVariants.{Less, Equal, Greater}
use Rattle.std.specs.Cmp.{IsTotalOrder}
use Rattle.std.proofs.lemmas.Cmp.{on_total, nat_list_cmp_total}
use Rattle.std.proofs.lemmas.List.{get_or-take, get_or-drop, length-take, length-drop, take-append-drop}
use Rattle.std.proofs.lemmas.List.Elements.{filter-append}
use Rattle.std.proofs.lemmas.Map.Lookups.{exact_bytes}
use Rattle.span_types.specs.declared.ids.TraceId.{TraceId}
use Rattle.span_types.specs.declared.spans.Row.{Row}
use Rattle.span_types.specs.Keys.{row_key}
use Rattle.span_types.specs.Orders.{block_order, trace_cmp}
use Rattle.rows_by_trace.specs.Traces.{is_of_trace, rows_of_trace}
use Rattle.search_answer.specs.Walking.{IsFront, IsSorted}

pub trace_cmp_total : IsTotalOrder trace_cmp
trace_cmp_total = on_total (λ t. t.0) nat_list_cmp_total

is_equal : (o : Ordering) → is_eq o ≡ true → o ≡ Equal
is_equal Less h = cc
is_equal Equal h = refl
is_equal Greater h = cc

pub same_trace : (a b : TraceId) → is_eq (trace_cmp a b) ≡ true → a ≡ b
same_trace a b h = ap (λ bytes. record { 0 = bytes }) (exact_bytes a.0 b.0 (is_equal (trace_cmp a b) h))

-- rows that all pass a test, and rows that all fail it
keep_all : (p : Row → Bool) (xs : List Row) → ((k : ℕ) (d : Row) → k < length xs → p (slice_index_or xs k d) ≡ true) → filter p xs ≡ xs
keep_all p [] h = refl
keep_all p (x ∷ xs) h = rw (h 0 x (omega arith)) (ap (λ l. x ∷ l) (keep_all p xs (λ k d l. h (suc k) d (omega arith))))

keep_none : (p : Row → Bool) (xs : List Row) → ((k : ℕ) (d : Row) → k < length xs → p (slice_index_or xs k d) ≡ false) → filter p xs ≡ []
keep_none p [] h = refl
keep_none p (x ∷ xs) h = rw (h 0 x (omega arith)) (keep_none p xs (λ k d l. h (suc k) d (omega arith)))

-- Rows of one trace, before rows of others.
pub record Splits (id : TraceId) (front later : List Row) : Type 0 where
  pub here : (k : ℕ) (d : Row) → k < length front → is_of_trace id (slice_index_or front k d) ≡ true
  pub others : (k : ℕ) (d : Row) → k < length later → is_of_trace id (slice_index_or later k d) ≡ false

pub rows_here : (id : TraceId) (front later : List Row) → Splits id front later → rows_of_trace id (front ++ later) ≡ front
rows_here id front later s =
    filter-append (is_of_trace id) front later ∙ ap (λ l. l ++ rows_of_trace id later) (keep_all (is_of_trace id) front s.here)
    ∙ ap (λ l. front ++ l) (keep_none (is_of_trace id) later s.others) ∙ append-nil front
  where
    append-nil : (l : List Row) → l ++ [] ≡ l
    append-nil [] = refl
    append-nil (x ∷ xs) = ap (λ l. x ∷ l) (append-nil xs)

pub none_later : (id : TraceId) (front later : List Row) → Splits id front later → rows_of_trace id later ≡ []
none_later id front later s = keep_none (is_of_trace id) later s.others

pub rows_of_other : (id other : TraceId) (front later : List Row) → Splits id front later → is_eq (trace_cmp id other) ≡ false →
    rows_of_trace other (front ++ later) ≡ rows_of_trace other later
rows_of_other id other front later s differs =
    filter-append (is_of_trace other) front later
    ∙ ap (λ l. l ++ rows_of_trace other later) (keep_none (is_of_trace other) front (λ k d l. not_here (slice_index_or front k d) (s.here k d l)))
  where
    not_here : (r : Row) → is_of_trace id r ≡ true → is_of_trace other r ≡ false
    not_here r h = ap (λ t. is_eq (trace_cmp t other)) (same_trace r.span.trace id h) ∙ differs

-- ---- from the order of the rows

pub then_less : (o p : Ordering) → ordering_then o p ≡ Less → (o ≡ Less) ⊎ (o ≡ Equal)
then_less Less p h = inl refl
then_less Equal p h = inr refl
then_less Greater p h = cc

-- of rows in block order, once the trace has changed the first one doesn't come back
not_again : (a b c : TraceId) → (trace_cmp a b ≡ Less) ⊎ (trace_cmp a b ≡ Equal) → (trace_cmp b c ≡ Less) ⊎ (trace_cmp b c ≡ Equal) →
    is_eq (trace_cmp b a) ≡ false → is_eq (trace_cmp c a) ≡ false
not_again a b c (inr e) below differs = absurd (true_false (sym (ap is_eq (trace_cmp_total.antisymm b a ∙ ap ordering_reverse e)) ∙ differs))
  where
    true_false : true ≡ false → ⊥
    true_false e = cc
not_again a b c (inl less) (inr e) differs = ap (λ t. is_eq (trace_cmp t a)) (sym (same_trace b c (ap is_eq e))) ∙ differs
not_again a b c (inl less) (inl more) differs =
    ap is_eq (trace_cmp_total.antisymm c a ∙ ap ordering_reverse (trace_cmp_total.trans a b c less more))

pub record Cut (rows : List Row) (n : ℕ) : Type 0 where
  pub id : TraceId
  pub splits : Splits id (take n rows) (drop n rows)
  pub whole : take n rows ++ drop n rows ≡ rows

pub cut_front : (rows : List Row) (n : ℕ) → 0 < length rows → 0 < n → IsFront rows n → IsSorted rows → Cut rows n
cut_front [] n some more front sorted = absurd (omega arith)
cut_front (r ∷ rs) n some more front sorted = record {
  id = r.span.trace;
  splits = record {
    here = λ k d l. ap (is_of_trace r.span.trace) (get_or-take n (r ∷ rs) k d (omega (arith, length-take n (r ∷ rs)))) ∙ front.same k d (omega (arith, length-take n (r ∷ rs)));
    others = λ k d l. ap (is_of_trace r.span.trace) (get_or-drop n (r ∷ rs) k d) ∙ later k d (omega (arith, length-drop n (r ∷ rs)));
  };
  whole = take-append-drop n (r ∷ rs);
}
  where
    later : (k : ℕ) (d : Row) → n + k < length (r ∷ rs) → is_of_trace r.span.trace (slice_index_or (r ∷ rs) (n + k) d) ≡ false
    later zero d l = ap (λ m. is_of_trace r.span.trace (slice_index_or (r ∷ rs) m d)) (no_more n) ∙ front.ends d (omega arith)
      where
        no_more : (n : ℕ) → n + zero ≡ n
        no_more n = omega arith
    later (suc k) d l =
        not_again r.span.trace (slice_index_or (r ∷ rs) n d).span.trace (slice_index_or (r ∷ rs) (n + suc k) d).span.trace
        (then_less _ _ (sorted.ordered 0 n d more (omega arith)))
        (then_less _ _ (sorted.ordered n (n + suc k) d (omega arith) l))
        (front.ends d (omega arith))

-- what is after rows in block order is in block order
pub sorted_later : (rows : List Row) (n : ℕ) → IsSorted rows → IsSorted (drop n rows)
sorted_later rows n sorted = record {
  apart = dropped (λ a b. row_key a ≢ row_key b) sorted.apart;
  ordered = dropped (λ a b. block_order a b ≡ Less) sorted.ordered;
}
  where
    dropped : (R : Row → Row → Type 0) → AllPairs R rows → AllPairs R (drop n rows)
    dropped R all = λ i j d l h.
        rw (get_or-drop n rows i d, get_or-drop n rows j d) (all (n + i) (n + j) d (omega arith) (omega (arith, length-drop n rows)))
