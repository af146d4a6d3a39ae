-- What two slots are read as is what they stand for.
use Rattle.std.proofs.Common.{◌≡◌, ◌⊎◌, inl, inr, ℕ, Bool, true, false, not, cond, eqb, ltb, ◌||◌, Option, Some, None, List, [], ◌∷◌, ◌++◌, length, get_or, Result, Ok, Err, refl, sym, ◌∙◌, ap, subst, arith}
use Rattle.std.proofs.lemmas.Bool.{cases_Bool, or_cases, eqb-true}
use Rattle.byte_fields.specs.Reading.{Stand, left, AreBytes, IsWithin, ◌>>=◌}
use Rattle.block_list.specs.Body.{text_of, successor}
use Rattle.block_list.specs.Slots.{IsVacant, SlotHolds, SlotsHold}
use Rattle.block_list.specs.Slots.SlotsHold.{none, alone, other_alone, newer, other_newer}
use Rattle.block_list.specs.Reading.{read8, list_body_at, is_vacant, slot_at, in_slot, generation_of, newer_of, slots_at, are_neighbours}
use Rattle.block_list.proofs.LoadLemmas.{vacant_from}
use Rattle.block_list.proofs.Meaning.{took8, list_means}
use Rattle.block_list.specs.declared.body.ListBody.{ListBody}

-- what a slot is read as
abbrev SlotMeans : ℕ → Option ℕ → List ℕ → Option ListBody → Type 0
SlotMeans slot other bytes None = IsVacant bytes
SlotMeans slot other bytes (Some body) = SlotHolds slot bytes body × (are_neighbours body.generation other ≡ true)

record Step {A B E : Type 0} (r : Result A E) (f : A → Result B E) (y : B) : Type 0 where
  value : A
  first : r ≡ Ok value
  last : f value ≡ Ok y

step : {A B E : Type 0} (r : Result A E) (f : A → Result B E) (y : B) → (r >>= f) ≡ Ok y → Step r f y
step (Ok x) f y is = record { value = x; first = refl; last = is }
step (Err at) f y is = absurd (cc)

same_found : {E : Type 0} (a b : Option ListBody) → (let r : Result (Option ListBody) E = Ok a in let s : Result (Option ListBody) E = Ok b in r ≡ s) → a ≡ b
same_found a b is = cc

in_slot_ok : {X : Type 0} (slot : ℕ) (r : Result X ℕ) (x : X) → in_slot slot r ≡ Ok x → r ≡ Ok x
in_slot_ok {X} slot (Ok y) x is = let same : y ≡ x = cc in ap (λ (z : X). Ok z) same
in_slot_ok slot (Err at) x is = absurd (cc)

not_vacant : (a b : Bool) → (a || not b) ≡ false → b ≡ true
not_vacant true b is = absurd (cc)
not_vacant false true is = refl
not_vacant false false is = absurd (cc)

slot_means : (slot : ℕ) (other : Option ℕ) (bytes : List ℕ) (found : Option ListBody) → AreBytes bytes → slot_at slot other bytes ≡ Ok found → SlotMeans slot other bytes found
unfolding slot_at
slot_means slot other bytes found fits is = elim (cases_Bool (is_vacant bytes)) [
  | inl vacant ↦
      let h : (let r : Result (Option ListBody) ℕ = Ok None in r ≡ Ok found) =
      subst (λ (b : Bool). cond b (Ok None) (read8 (record { whole = bytes; at = 0 }) >>= λ gate. list_body_at slot other gate.1 >>= λ list. Ok (Some list.0)) ≡ Ok found) vacant is in
      subst (λ (f : Option ListBody). SlotMeans slot other bytes f) (same_found None found h) (vacant_from bytes vacant)
  | inr shown ↦
      let h : (read8 (record { whole = bytes; at = 0 }) >>= λ gate. list_body_at slot other gate.1 >>= λ list. Ok (Some list.0)) ≡ Ok found =
      subst (λ (b : Bool). cond b (Ok None) (read8 (record { whole = bytes; at = 0 }) >>= λ gate. list_body_at slot other gate.1 >>= λ list. Ok (Some list.0)) ≡ Ok found) shown is in
      let start : Stand = record { whole = bytes; at = 0 } in
      let within : IsWithin bytes 0 = record { bytes_fit = fits; no_further = omega arith } in
      let a = step (read8 start) (λ gate. list_body_at slot other gate.1 >>= λ list. Ok (Some list.0)) found h in
      let gate = took8 start a.value.1 a.value.0 within a.first in
      let b = step (list_body_at slot other a.value.1) (λ list. Ok (Some list.0)) found a.last in
      let list = list_means slot other a.value.1 b.value.1 b.value.0 gate.bytes.within b.first in
      let one : get_or bytes 0 0 ≡ 1 = eqb-true (get_or bytes 0 0) 1 (not_vacant (ltb (length bytes) 30) (eqb (get_or bytes 0 0) 1) shown) in
      let open_gate : a.value.0 ≡ 1 = sym (ap (λ (l : List ℕ). get_or l 0 0) gate.bytes.passed.spelled) ∙ one in
      let encoded : bytes ≡ (1 ∷ text_of b.value.0) ++ left b.value.1 =
      gate.bytes.passed.spelled ∙ ap (λ (n : ℕ). (n ∷ []) ++ left a.value.1) open_gate ∙ ap (λ (l : List ℕ). 1 ∷ l) list.spelled in
      subst (λ (f : Option ListBody). SlotMeans slot other bytes f) (same_found (Some b.value.0) found b.last)
      (record { rest = left b.value.1; encoded = encoded; parity = list.parity; rules = list.rules }, list.neighbours)
]

chosen : (first second : List ℕ) (one two : Option ListBody) → SlotMeans 0 None first one → SlotMeans 1 (generation_of one) second two → SlotsHold 0 first second (newer_of one two)
chosen first second None None here there = none here there refl
chosen first second None (Some b) here there = other_alone b here there.0 refl
chosen first second (Some a) None here there = alone a here.0 there refl
chosen first second (Some a) (Some b) here there = elim (cases_Bool (eqb b.generation (successor a.generation))) [
  | inl follows ↦
      other_newer b a here.0 there.0 (eqb-true b.generation (successor a.generation) follows)
      (ap (λ (t : Bool). cond t (Some b) (Some a)) follows)
  | inr stays ↦
      newer a b here.0 there.0 (before (or_cases (eqb b.generation (successor a.generation)) (eqb a.generation (successor b.generation)) there.1) stays)
      (ap (λ (t : Bool). cond t (Some b) (Some a)) stays)
]
  where
    before : (eqb b.generation (successor a.generation) ≡ true) ⊎ (eqb a.generation (successor b.generation) ≡ true) → eqb b.generation (successor a.generation) ≡ false → a.generation ≡ successor b.generation
    before (inl first_is) other_is = absurd (cc)
    before (inr second_is) other_is = eqb-true a.generation (successor b.generation) second_is

-- the two slots stand for what they are read as
pub stands_read : (first second : List ℕ) (found : Option ListBody) → AreBytes first → AreBytes second → slots_at first second ≡ Ok found → SlotsHold 0 first second found
unfolding slots_at
stands_read first second found fits_first fits_second is =
    let a = step (in_slot 0 (slot_at 0 None first)) (λ one. in_slot 1 (slot_at 1 (generation_of one) second) >>= λ two. Ok (newer_of one two)) found is in
    let b = step (in_slot 1 (slot_at 1 (generation_of a.value) second)) (λ two. Ok (newer_of a.value two)) found a.last in
    let one = slot_means 0 None first a.value fits_first (in_slot_ok 0 (slot_at 0 None first) a.value a.first) in
    let two = slot_means 1 (generation_of a.value) second b.value fits_second (in_slot_ok 1 (slot_at 1 (generation_of a.value) second) b.value b.first) in
    subst (λ (f : Option ListBody). SlotsHold 0 first second f) (same_found (newer_of a.value b.value) found b.last) (chosen first second a.value b.value one two)
