-- Numbers of pins that are taken, and the files of the pins.
use Rattle.std.proofs.Common.{◌≡◌, inl, inr, ◌<◌, ◌≤◌, zero, suc, ℕ, ◌==◌, Bool, true, false, not, List, [], ◌∷◌, ◌++◌, Option, refl, sym, ◌∙◌, ap, if◌then◌else◌}
use Rattle.std.specs.Prelude.{◌||◌, ◌&&◌}
use Rattle.std.specs.List.{Contains, flat_map}
use Rattle.std.proofs.lemmas.List.Elements.{Contains-append_left, Contains-append_right, Contains-append_cases}
use Rattle.store_model.specs.State.{Block, Pinned, is_among, pin_numbers, pinned_blocks, block_files, without_pin}
use Rattle.store_model.proofs.Numbers.{same_number, equal_itself, below_or_not}
use Rattle.store_model.proofs.Pins.{same_blocks-less, blocks-added}
use Rattle.store_files.specs.Pins.{files_in, is_taken, files_at}

-- where all below a number are taken, one that is free isn't below it
pub least_of : (n : ℕ) (pins : List (Option (List ℕ))) → ((other : ℕ) → other < n → is_taken other pins ≡ true) → (other : ℕ) → is_taken other pins ≡ false → n ≤ other
least_of n pins taken other free = elim (below_or_not other n) [
  | inl below ↦ absurd (let bad : true ≡ false = sym (taken other below) ∙ free in cc)
  | inr above ↦ above
]

-- ---- the files of all pins

pub named_all : (pins : List (Option (List ℕ))) (number file : ℕ) → Contains (files_at number pins) file → Contains (flat_map files_in pins) file
named_all [] zero file inside = inside
named_all [] (suc k) file inside = inside
named_all (p ∷ ps) zero file inside = Contains-append_left (files_in p) (flat_map files_in ps) file inside
named_all (p ∷ ps) (suc k) file inside = Contains-append_right (files_in p) (flat_map files_in ps) file (named_all ps k file inside)

pub named_only : (pins : List (Option (List ℕ))) (file : ℕ) → Contains (flat_map files_in pins) file → (number : ℕ) × Contains (files_at number pins) file
named_only [] file inside = (0, inside)
named_only (p ∷ ps) file inside = elim (Contains-append_cases (files_in p) (flat_map files_in ps) file inside) [
  | inl here ↦ (0, here)
  | inr there ↦ (let rest = named_only ps file there in (suc rest.0, rest.1))
]

-- ---- pins of the model

pub among-more : (n : ℕ) (pins : List Pinned) (pin : Pinned) → is_among n (pin_numbers (pins ++ pin ∷ [])) ≡ (is_among n (pin_numbers pins) || (pin.number == n))
among-more n [] pin = elim (pin.number == n) as (λ t. (t || false) ≡ t) [ true ↦ refl | false ↦ refl ]
among-more n (p ∷ ps) pin = elim (p.number == n) as (λ t. (t || is_among n (pin_numbers (ps ++ pin ∷ []))) ≡ ((t || is_among n (pin_numbers ps)) || (pin.number == n))) [
  | true ↦ refl
  | false ↦ among-more n ps pin
]

none_of : (k : ℕ) (b : Bool) → (b && not (k == k)) ≡ false
none_of k true = rw (equal_itself k) refl
none_of k false = refl

pub among-less : (n k : ℕ) (pins : List Pinned) → is_among n (pin_numbers (without_pin k pins)) ≡ (is_among n (pin_numbers pins) && not (k == n))
among-less n k [] = refl
among-less n k (p ∷ ps) = at (p.number == k) (p.number == n) refl refl (among-less n k ps)
  where
    at : (s t : Bool) → (p.number == k) ≡ s → (p.number == n) ≡ t → is_among n (pin_numbers (without_pin k ps)) ≡ (is_among n (pin_numbers ps) && not (k == n))
        → is_among n (pin_numbers (if not s then p ∷ without_pin k ps else without_pin k ps)) ≡ ((t || is_among n (pin_numbers ps)) && not (k == n))
    at true true e f ih = ih ∙ (let same : k ≡ n = sym (same_number p.number k e) ∙ same_number p.number n f in rw same (none_of n (is_among n (pin_numbers ps)) ∙ sym (none_of n true)))
    at true false e f ih = ih
    at false true e f ih = rw f (rw (apart_from (k == n) refl) refl)
      where
        apart_from : (b : Bool) → (k == n) ≡ b → (k == n) ≡ false
        apart_from false g = g
        apart_from true g = absurd (let bad : (p.number == k) ≡ true = ap (λ x. p.number == x) (same_number k n g) ∙ f in cc)
    at false false e f ih = rw f ih

-- the files of the pins after one was added
pub files-more : (n : ℕ) (pins : List Pinned) (pin : Pinned) → is_among pin.number (pin_numbers pins) ≡ false
    → block_files (pinned_blocks n (pins ++ pin ∷ [])) ≡ (if pin.number == n then block_files pin.blocks else block_files (pinned_blocks n pins))
files-more n pins pin new = at (pin.number == n) refl
  where
    others : (ps : List Pinned) → (pin.number == n) ≡ false → pinned_blocks n (ps ++ pin ∷ []) ≡ pinned_blocks n ps
    others [] e = rw e refl
    others (p ∷ ps) e = ap (λ (bs : List Block). if p.number == n then p.blocks else bs) (others ps e)

    at : (t : Bool) → (pin.number == n) ≡ t → block_files (pinned_blocks n (pins ++ pin ∷ [])) ≡ (if t then block_files pin.blocks else block_files (pinned_blocks n pins))
    at true e = ap (λ (k : ℕ). block_files (pinned_blocks k (pins ++ pin ∷ []))) (sym (same_number pin.number n e)) ∙ ap block_files (blocks-added pins pin new)
    at false e = ap block_files (others pins e)

-- and after one was ended
pub files-less : (n k : ℕ) (pins : List Pinned)
    → block_files (pinned_blocks n (without_pin k pins)) ≡ (if k == n then [] else block_files (pinned_blocks n pins))
files-less n k pins = at (k == n) refl
  where
    none : (ps : List Pinned) → (k == n) ≡ true → pinned_blocks n (without_pin k ps) ≡ []
    none [] e = refl
    none (p ∷ ps) e = by (p.number == k) refl (none ps e)
      where
        by : (t : Bool) → (p.number == k) ≡ t → pinned_blocks n (without_pin k ps) ≡ [] → pinned_blocks n (if not t then p ∷ without_pin k ps else without_pin k ps) ≡ []
        by true f rest = rest
        by false f rest = rw (let same : k ≡ n = same_number k n e in ap (λ (x : ℕ). p.number == x) (sym same) ∙ f) rest

    at : (t : Bool) → (k == n) ≡ t → block_files (pinned_blocks n (without_pin k pins)) ≡ (if t then [] else block_files (pinned_blocks n pins))
    at true e = ap block_files (none pins e)
    at false e = ap block_files (same_blocks-less n k pins (λ is. let bad : true ≡ false = sym (equal_itself k) ∙ ap (λ (x : ℕ). k == x) is ∙ e in cc))
