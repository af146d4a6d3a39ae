-- What the calls that read a stripe come to.
use Rattle.std.proofs.Common.{◌≡◌, ℕ, zero, suc, ◌+◌, ◌-◌, ◌<◌, ◌≤◌, Bool, true, false, not, ◌&&◌, cond, eqb, ltb, get_or, append_assoc, List, [], ◌∷◌, ◌++◌, length, take, drop, Result, Ok, Err, refl, sym, ap, subst, ◌∙◌, arith}
use Rattle.std.specs.Int.{w64, from_le_bytes}
use Rattle.std.specs.List.{AllByRecursion}
use Rattle.std.specs.Ordering.{is_lt}
use Rattle.std.proofs.lemmas.Bool.{eq-eqb, ltb-false, ne_eqb}
use Rattle.std.proofs.lemmas.List.{append-nil, drop_all, drop_more}
use Rattle.span_types.specs.declared.spans.Row.{Row}
use Rattle.span_types.specs.Orders.{block_order}
use Rattle.byte_fields.specs.declared.error.FieldError.{FieldError}
use Rattle.byte_fields.specs.declared.error.FieldError.TheVariants.{Short}
use Rattle.byte_fields.specs.Reading.{Stand, ◌>>=◌, ahead, fixed64_at, left, raw_at}
use Rattle.span_fields.specs.Breaks.{in_part, or_place}
use Rattle.span_fields.proofs.Meant.{Bound, bound}
use Rattle.block_columns.proofs.Numbering.{position_step}
use Rattle.block_stripes.specs.StripeReadings.{ascend_after, rows_of, zeros}
use Rattle.block_stripes.specs.StripeRows.{Cells, row_of}
use Rattle.block_stripes.specs.Stripes.{IsNamed}

enough : {A E : Type 0} (b : Bool) (e : E) (r : Result A E) (y : A) → cond b (Err e) r ≡ Ok y → b ≡ false
enough true e r y is = absurd (cc)
enough false e r y is = refl

found : {A : Type 0} (within : Bool) (s : Stand) (r : Result (A × Stand) FieldError) (y : A × Stand) → or_place within s r ≡ Ok y → (z : A × Stand) × (r ≡ Ok z)
found within s (Ok x) y is = (x, refl)
found within s (Err e) y is = absurd (cc)

-- a length is read of eight bytes
pub eight_of : (bytes : List ℕ) (s : Stand) (x : ℕ × Stand) → s ≡ record { whole = bytes; at = 0 } → in_part false fixed64_at s ≡ Ok x → 8 ≤ length bytes
unfolding in_part fixed64_at raw_at
eight_of bytes s x is e =
    let read = found false s (fixed64_at s) x e in
    let a = bound (raw_at 8 s) (λ b. Ok (from_le_bytes w64 b.0, b.1)) read.0 read.1 in
    let few = enough (ltb (length (left s)) 8) (Short (length s.whole)) (Ok (take 8 (left s), ahead 8 s)) a.value a.first in
    subst (λ (t : Stand). 8 ≤ length (left t)) is (ltb-false (length (left s)) 8 few)

-- ---- the zeros of the fill

abbrev is_some_byte : ℕ → Bool
is_some_byte b = not (eqb b 0)

zeros_from : (bytes : List ℕ) (i b : ℕ) (c : Bool) → i < length bytes → b ≡ get_or bytes i 0 → eqb b 0 ≡ c → zeros (drop i bytes) ≡ cond (not c) 0 (suc (zeros (drop (i + 1) bytes)))
zeros_from bytes i b c lt is test =
    let more = zeros (drop (i + 1) bytes) in
    ap zeros (drop_more bytes i 0 lt) ∙ position_step is_some_byte (get_or bytes i 0) (drop (i + 1) bytes) ∙ ap (λ (k : ℕ). cond (not (eqb k 0)) 0 (suc more)) (sym is) ∙ ap (λ (t : Bool). cond (not t) 0 (suc more)) test

pub zeros_more : (bytes : List ℕ) (i b : ℕ) → i < length bytes → b ≡ get_or bytes i 0 → b ≡ 0 → zeros bytes ≡ i + zeros (drop i bytes) → zeros bytes ≡ i + 1 + zeros (drop (i + 1) bytes)
zeros_more bytes i b lt is none so_far = (let step = zeros_from bytes i b true lt is (eq-eqb b 0 none) in omega (arith, step, so_far))

pub zeros_stop : (bytes : List ℕ) (i b : ℕ) → i < length bytes → b ≡ get_or bytes i 0 → (b ≡ 0 → ⊥) → zeros bytes ≡ i + zeros (drop i bytes) → i ≡ zeros bytes
zeros_stop bytes i b lt is some so_far = (let step = zeros_from bytes i b false lt is (ne_eqb b 0 some) in omega (arith, step, so_far))

pub zeros_end : (bytes : List ℕ) (i : ℕ) → length bytes ≤ i → i ≤ length bytes → zeros bytes ≡ i + zeros (drop i bytes) → length bytes ≡ zeros bytes
zeros_end bytes i le few so_far = (let none : zeros (drop i bytes) ≡ 0 = ap zeros (drop_all i bytes le) in omega (arith, none, so_far))

-- ---- the order of rows

pub ascend_more : (before row : Row) (rest : List Row) (i : ℕ) (total : Bool) → i < length rest → row ≡ get_or rest i row → is_lt (block_order before row) ≡ true → ascend_after before (drop i rest) ≡ total → ascend_after row (drop (i + 1) rest) ≡ total
ascend_more before row rest i total lt is test so_far =
    let later = drop (i + 1) rest in
    let cells : drop i rest ≡ row ∷ later = drop_more rest i row lt ∙ ap (λ (r : Row). r ∷ later) (sym is) in
    sym (ap (λ (c : Bool). c && ascend_after row later) test) ∙ sym (ap (ascend_after before) cells) ∙ so_far

-- ---- rows of cells, as a loop makes them

pub rows_go : (rows new : List Row) (before after : List Cells) (cells : Cells) (row : Row) (all : List Row) → before ≡ cells ∷ after → row ≡ row_of cells → new ≡ rows ++ row ∷ [] → rows ++ rows_of before ≡ all → new ++ rows_of after ≡ all
rows_go rows new before after cells row all next is more so_far =
    ap (λ (l : List Row). l ++ rows_of after) more ∙ append_assoc rows (row ∷ []) (rows_of after) ∙ ap (λ (r : Row). rows ++ (r ∷ rows_of after)) is
    ∙ ap (λ (l : List Cells). rows ++ rows_of l) (sym next) ∙ so_far

pub rows_end : (rows : List Row) (rest : List Cells) (all : List Row) → length rest ≡ 0 → rows ++ rows_of rest ≡ all → rows ≡ all
rows_end rows [] all none so_far = sym (append-nil rows) ∙ so_far
rows_end rows (cells ∷ rest) all none so_far = absurd (omega (arith, none))

pub named_next : (before after : List Cells) (cells : Cells) → before ≡ cells ∷ after → AllByRecursion IsNamed before → IsNamed cells × AllByRecursion IsNamed after
named_next before after cells next all = subst (AllByRecursion IsNamed) next all
