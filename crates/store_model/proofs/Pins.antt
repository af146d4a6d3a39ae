-- Pins and their blocks.
use Rattle.std.proofs.Common.{◌≡◌, ℕ, ◌+◌, ◌≤◌, ◌==◌, List, [], ◌∷◌, ◌++◌, Option, Some, Bool, true, false, not, refl, sym, ◌∙◌, ap, subst, arith, if◌then◌else◌}
use Rattle.std.specs.Prelude.{◌||◌}
use Rattle.store_model.specs.State.{Compaction, Pinned, is_among, pin_numbers, compaction_pins, without_pin, pinned_blocks}
use Rattle.store_model.specs.Sound.{times}
use Rattle.store_model.proofs.Numbers.{times-append, map_append, same_number, equal_itself, among, named}

pub pin_numbers-more : (n : ℕ) (pins : List Pinned) (pin : Pinned) →
    times n (pin_numbers (pins ++ pin ∷ [])) ≡ times n (pin_numbers pins) + times n (pin.number ∷ [])
pin_numbers-more n pins pin =
    ap (times n) (map_append (λ (p : Pinned). p.number) pins (pin ∷ [])) ∙ times-append n (pin_numbers pins) (pin.number ∷ [])

pub pin_numbers-less : (n k : ℕ) (pins : List Pinned) → times n (pin_numbers (without_pin k pins)) ≤ times n (pin_numbers pins)
pin_numbers-less n k [] = omega arith
pin_numbers-less n k (p ∷ ps) = by_test (p.number == k) (pin_numbers-less n k ps)
  where
    by_test : (t : Bool) → times n (pin_numbers (without_pin k ps)) ≤ times n (pin_numbers ps) →
        times n (pin_numbers (if not t then p ∷ without_pin k ps else without_pin k ps)) ≤ times n (pin_numbers (p ∷ ps))
    by_test true h = omega (arith, h)
    by_test false h = omega (arith, h)

apart : (a b : ℕ) → (a == b) ≡ false → a ≡ b → ⊥
apart a b h e = let both : true ≡ false = sym (equal_itself a) ∙ ap (λ q. a == q) e ∙ h in cc

-- an open pin stays open where another one is added or ended
pub still_open-more : (n : ℕ) (pins : List Pinned) (pin : Pinned) → is_among n (pin_numbers pins) ≡ true → is_among n (pin_numbers (pins ++ pin ∷ [])) ≡ true
still_open-more n pins pin h =
    among n (pin_numbers (pins ++ pin ∷ [])) (omega (arith, named n (pin_numbers pins) h, pin_numbers-more n pins pin))

pub open-added : (pins : List Pinned) (pin : Pinned) → is_among pin.number (pin_numbers (pins ++ pin ∷ [])) ≡ true
open-added [] pin = rw (equal_itself pin.number) refl
open-added (p ∷ ps) pin = elim (p.number == pin.number) as (λ t. (t || is_among pin.number (pin_numbers (ps ++ pin ∷ []))) ≡ true) [
  | true ↦ refl
  | false ↦ open-added ps pin
]

pub still_open-less : (n k : ℕ) (pins : List Pinned) → (k ≡ n → ⊥) → is_among n (pin_numbers pins) ≡ true → is_among n (pin_numbers (without_pin k pins)) ≡ true
still_open-less n k [] other h = cc
still_open-less n k (p ∷ ps) other h = elim (p.number == k) as (λ t. (p.number == k) ≡ t → is_among n (pin_numbers (if not t then p ∷ without_pin k ps else without_pin k ps)) ≡ true) [
  | true ↦ λ e. still_open-less n k ps other (elim (p.number == n) as (λ t. (p.number == n) ≡ t → (t || is_among n (pin_numbers ps)) ≡ true → is_among n (pin_numbers ps) ≡ true) [
    | true ↦ λ s _. absurd (other (sym (same_number p.number k e) ∙ same_number p.number n s))
    | false ↦ λ s h. h
  ] refl h)
  | false ↦ λ e. elim (p.number == n) as (λ t. (t || is_among n (pin_numbers ps)) ≡ true → (t || is_among n (pin_numbers (without_pin k ps))) ≡ true) [
    | true ↦ λ _. refl
    | false ↦ λ h. still_open-less n k ps other h
  ] h
] refl

-- its blocks are those that they were
pub same_blocks-more : (n : ℕ) (pins : List Pinned) (pin : Pinned) → is_among n (pin_numbers pins) ≡ true → pinned_blocks n (pins ++ pin ∷ []) ≡ pinned_blocks n pins
same_blocks-more n [] pin h = cc
same_blocks-more n (p ∷ ps) pin h =
    elim (p.number == n) as (λ t. (t || is_among n (pin_numbers ps)) ≡ true → (if t then p.blocks else pinned_blocks n (ps ++ pin ∷ [])) ≡ (if t then p.blocks else pinned_blocks n ps)) [
      | true ↦ λ _. refl
      | false ↦ λ h. same_blocks-more n ps pin h
    ] h

pub same_blocks-less : (n k : ℕ) (pins : List Pinned) → (k ≡ n → ⊥) → pinned_blocks n (without_pin k pins) ≡ pinned_blocks n pins
same_blocks-less n k [] other = refl
same_blocks-less n k (p ∷ ps) other = elim (p.number == k) as (λ t. (p.number == k) ≡ t → pinned_blocks n (if not t then p ∷ without_pin k ps else without_pin k ps) ≡ (if p.number == n then p.blocks else pinned_blocks n ps)) [
  | true ↦ λ e. elim (p.number == n) as (λ t. (p.number == n) ≡ t → pinned_blocks n (without_pin k ps) ≡ (if t then p.blocks else pinned_blocks n ps)) [
    | true ↦ λ s. absurd (other (sym (same_number p.number k e) ∙ same_number p.number n s))
    | false ↦ λ s. same_blocks-less n k ps other
  ] refl
  | false ↦ λ e. ap (λ bs. if p.number == n then p.blocks else bs) (same_blocks-less n k ps other)
] refl

pub blocks-added : (pins : List Pinned) (pin : Pinned) → is_among pin.number (pin_numbers pins) ≡ false → pinned_blocks pin.number (pins ++ pin ∷ []) ≡ pin.blocks
blocks-added [] pin h = rw (equal_itself pin.number) refl
blocks-added (p ∷ ps) pin h =
    elim (p.number == pin.number) as (λ t. (t || is_among pin.number (pin_numbers ps)) ≡ false → (if t then p.blocks else pinned_blocks pin.number (ps ++ pin ∷ [])) ≡ pin.blocks) [
      | true ↦ λ h. cc
      | false ↦ λ h. blocks-added ps pin h
    ] h

-- a look's pin is not that of the open compaction
pub look_apart : (pin : ℕ) (o : Option Compaction) (job : Compaction) → is_among pin (compaction_pins o) ≡ false → o ≡ Some job → pin ≡ job.pin → ⊥
look_apart pin o job no_job is e =
    let one : is_among pin (job.pin ∷ []) ≡ false = ap (λ q. is_among pin (compaction_pins q)) (sym is) ∙ no_job in
    let two : is_among pin (job.pin ∷ []) ≡ true = subst (λ q. is_among pin (q ∷ []) ≡ true) e (among pin (pin ∷ []) (itself pin)) in
    let both : true ≡ false = sym two ∙ one in
    cc
  where
    itself : (n : ℕ) → 1 ≤ times n (n ∷ [])
    itself n = rw (equal_itself n) (omega arith)
