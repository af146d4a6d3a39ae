-- No id that is drawn has zeros alone.
use Rattle.std.proofs.Common.{◌≡◌, ℕ, ◌<◌, ◌≤◌, ◌==◌, Bool, true, false, List, length, refl, arith, set, get_or, slice_set, if◌then◌else◌, ◌%◌, lit<}
use Rattle.std.proofs.lemmas.Bool.{ne_eqb}
use Rattle.std.proofs.lemmas.List.{get_or-set_same, length-set}
use Rattle.std.proofs.lemmas.List.Folds.{list_all_at}
use Rattle.span_types.specs.Promises.{all_zero}
use Rattle.drill_input.specs.Drill.{sixteen, span_number, trace_of}

-- sixteen bytes whose last is 1 where all are zeros
fixed : (bytes : List ℕ) → length bytes ≡ 16 → (zeros : Bool) → all_zero bytes ≡ zeros
    → all_zero (if zeros then slice_set bytes 15 1 else bytes) ≡ false
fixed bytes len true is =
    let last : get_or (set bytes 15 1) 15 0 ≡ 1 = get_or-set_same bytes 15 1 0 (omega arith) in
    list_all_at (λ b. b == 0) (set bytes 15 1) 15 0 (omega (arith, length-set bytes 15 1)) (rw last refl)
fixed bytes len false is = is

pub trace_named : (a b : ℕ) → all_zero (trace_of a b).0 ≡ false
unfolding trace_of
trace_named a b = fixed (sixteen a b) refl (all_zero (sixteen a b)) refl

pub number_named : (n : ℕ) → 0 < n → n ≤ 8 → all_zero (span_number n).0 ≡ false
unfolding span_number
number_named n low high =
    let some : n % 256 ≡ 0 → ⊥ = λ none. omega arith in
    list_all_at (λ b. b == 0) (span_number n).0 7 0 (lit< tt) (ne_eqb (n % 256) 0 some)
