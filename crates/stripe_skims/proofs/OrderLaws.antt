-- The order of rows by their keys.
use Rattle.std.proofs.Common.{◌≡◌, ℕ, zero, suc, ◌+◌, ◌<◌, ◌≤◌, ◌&&◌, Bool, true, false, List, [], ◌∷◌, length, map, drop, get_or, Option, Some, refl, sym, ◌∙◌, ap, arith}
use Rattle.std.specs.Prelude.{slice_get}
use Rattle.std.proofs.lemmas.List.{length-map}
use native.Mathlib.Numerals.{unary_clauses}
use Rattle.span_types.specs.declared.ids.SpanId.{SpanId}
use Rattle.span_types.specs.declared.ids.TraceId.{TraceId}
use Rattle.span_types.specs.declared.spans.Row.{Row}
use Rattle.block_stripes.specs.StripeReadings.{ascend}
use Rattle.stripe_skims.specs.Sketches.{is_before, key_of}
use Rattle.stripe_skims.specs.declared.order.RowKey.{RowKey}

-- The row with that number has this key; where the rows ascend from it on, all do.
pub record UpTo (rows : List Row) (i : ℕ) (before : RowKey) : Type 0 where
  pub there : slice_get (map key_of rows) i ≡ Some before
  pub rest : ascend (drop i rows) ≡ true → ascend rows ≡ true

same_key : (a b : RowKey) → (let o : Option RowKey = Some a in let p : Option RowKey = Some b in o ≡ p) → a ≡ b
same_key a b e = cc

both_true : (a b : Bool) → a ≡ true → b ≡ true → (a && b) ≡ true
both_true true b one two = two
both_true false b one two = cc

one_more : (rows : List Row) (i : ℕ) (a b : RowKey) → slice_get (map key_of rows) i ≡ Some a → slice_get (map key_of rows) (suc i) ≡ Some b → is_before a b ≡ true → ascend (drop (suc i) rows) ≡ true → ascend (drop i rows) ≡ true
unfolding ascend
one_more [] i a b one two order rest = cc
one_more (x ∷ []) zero a b one two order rest = refl
one_more (x ∷ y ∷ rows) zero a b one two order rest =
    let first = same_key (key_of x) a one in
    let second = same_key (key_of y) b two in
    both_true (is_before (key_of x) (key_of y)) _ (ap (λ k. is_before k (key_of y)) first ∙ ap (is_before a) second ∙ order) rest
one_more (x ∷ rows) (suc i) a b one two order rest = one_more rows i a b one two order rest

pub up_first : (rows : List Row) (first : RowKey) → slice_get (map key_of rows) 0 ≡ Some first → UpTo rows 0 first
up_first rows first there = record { there = there; rest = λ e. e }

pub up_more : (rows : List Row) (i : ℕ) (before next : RowKey) → UpTo rows i before → slice_get (map key_of rows) (i + 1) ≡ Some next → is_before before next ≡ true → UpTo rows (i + 1) next
up_more rows i before next up there order = record { there = there; rest = λ e. up.rest (one_more rows i before next up.there (simp unary_clauses at there) order (simp unary_clauses at e)) }

short : (rows : List Row) (i : ℕ) → length rows ≤ i + 1 → ascend (drop i rows) ≡ true
unfolding ascend
short [] zero few = refl
short [] (suc i) few = refl
short (x ∷ []) zero few = refl
short (x ∷ y ∷ rows) zero few = absurd (omega (arith, few))
short (x ∷ rows) (suc i) few = short rows i (omega (arith, few))

pub up_done : (rows : List Row) (i : ℕ) (before : RowKey) → UpTo rows i before → length rows ≤ i + 1 → ascend rows ≡ true
up_done rows i before up few = up.rest (short rows i few)

-- the value that a row gives, where a list of them is what rows give
at_row : {A : Type 0} (f : Row → A) (rows : List Row) (i : ℕ) (row : Row) (d : A) → slice_get rows i ≡ Some row → get_or (map f rows) i d ≡ f row
at_row f [] i row d there = cc
at_row {A} f (r ∷ rows) zero row d there = (let one : r ≡ row = cc in ap f one)
at_row f (r ∷ rows) (suc i) row d there = at_row f rows i row d there

there : (rows : List Row) (i : ℕ) → i < length rows → (row : Row) × (slice_get rows i ≡ Some row)
there [] i low = absurd (omega (arith, low))
there (x ∷ rows) zero low = (x, refl)
there (x ∷ rows) (suc i) low = there rows i (omega (arith, low))

key_there : (rows : List Row) (i : ℕ) (row : Row) → slice_get rows i ≡ Some row → slice_get (map key_of rows) i ≡ Some (key_of row)
key_there [] i row is = cc
key_there (x ∷ rows) zero row is = (let one : x ≡ row = cc in ap (λ r. Some (key_of r)) one)
key_there (x ∷ rows) (suc i) row is = key_there rows i row is

pub key_is : (rows : List Row) (i : ℕ) (traces : List TraceId) (starts : List ℕ) (spans : List SpanId) (a : TraceId) (b : ℕ) (c : SpanId) → i < length starts
    → traces ≡ map (λ (row : Row). row.span.trace) rows → starts ≡ map (λ (row : Row). row.span.start) rows → spans ≡ map (λ (row : Row). row.span.id) rows
    → slice_get (map key_of rows) i ≡ Some (record { trace = get_or traces i a; start = get_or starts i b; span = get_or spans i c })
key_is rows i traces starts spans a b c low traces_are starts_are spans_are =
    let row = there rows i (omega (arith, low, ap length starts_are ∙ length-map rows (λ (r : Row). r.span.start))) in
    let one : get_or traces i a ≡ row.0.span.trace = ap (λ l. get_or l i a) traces_are ∙ at_row (λ r. r.span.trace) rows i row.0 a row.1 in
    let two : get_or starts i b ≡ row.0.span.start = ap (λ l. get_or l i b) starts_are ∙ at_row (λ r. r.span.start) rows i row.0 b row.1 in
    let three : get_or spans i c ≡ row.0.span.id = ap (λ l. get_or l i c) spans_are ∙ at_row (λ r. r.span.id) rows i row.0 c row.1 in
    key_there rows i row.0 row.1 ∙ ap (λ t. Some (let k : RowKey = record { trace = t; start = row.0.span.start; span = row.0.span.id } in k)) (sym one)
    ∙ ap (λ t. Some (let k : RowKey = record { trace = get_or traces i a; start = t; span = row.0.span.id } in k)) (sym two)
    ∙ ap (λ t. Some (let k : RowKey = record { trace = get_or traces i a; start = get_or starts i b; span = t } in k)) (sym three)
