-- What two slots stand for while one of them is written.
use Rattle.std.proofs.Common.{◌≡◌, ◌≢◌, ◌⊎◌, inl, inr, ⊎_elim, ℕ, ◌-◌, ◌%◌, ◌<◌, Option, Some, List, [], ◌∷◌, ◌++◌, length, get_or, refl, sym, ◌∙◌, ap, subst, arith}
use Rattle.std.proofs.lemmas.Bool.{cases_eq}
use Rattle.disk_model.specs.Images.{Image, bytes_of}
use Rattle.disk_model.specs.Bytes.{Torn}
use Rattle.disk_model.specs.Crash.{OnlyBytes}
use Rattle.disk_model.proofs.BytesLemmas.{torn_behind, torn_byte}
use Rattle.block_list.specs.Body.{MeetsRules, text_of, successor}
use Rattle.block_list.specs.Slots.{IsOpen, IsVacant, SlotHolds, SlotsHold, ImageHoldsList, IsNext}
use Rattle.block_list.specs.Slots.SlotsHold.{none, alone, other_alone, newer, other_newer}
use Rattle.block_list.specs.declared.body.ListBody.{ListBody}

-- the same two slots, seen from the other one
swapped : (slot : ℕ) (bytes others : List ℕ) (list : Option ListBody) → slot ≡ 1 - (1 - slot) → SlotsHold slot bytes others list → SlotsHold (1 - slot) others bytes list
swapped slot bytes others list is holds = by holds
  where
    back : (body : ListBody) → SlotHolds slot bytes body → SlotHolds (1 - (1 - slot)) bytes body
    back body here = subst (λ (s : ℕ). SlotHolds s bytes body) is here

    by : SlotsHold slot bytes others list → SlotsHold (1 - slot) others bytes list
    by (none here there l) = none there here l
    by (alone body here there l) = other_alone body there (back body here) l
    by (other_alone body here there l) = alone body there here l
    by (newer body older here there next l) = other_newer body older there (back body here) next l
    by (other_newer body older here there next l) = newer body older there (back older here) next l

pub zero_or_one : (slot : ℕ) → slot < 2 → (slot ≡ 0) ⊎ (slot ≡ 1)
zero_or_one slot below = elim (cases_eq slot 0) [ inl is ↦ inl is | inr more ↦ inr (omega arith) ]

pub seen_from : (slot : ℕ) (image : Image) (list : Option ListBody) → slot < 2 → ImageHoldsList image list → SlotsHold slot (bytes_of image slot) (bytes_of image (1 - slot)) list
seen_from slot image list below stands = elim (zero_or_one slot below) [
  | inl is ↦ subst (λ (s : ℕ). SlotsHold s (bytes_of image s) (bytes_of image (1 - s)) list) (sym is) stands
  | inr is ↦ subst (λ (s : ℕ). SlotsHold s (bytes_of image s) (bytes_of image (1 - s)) list) (sym is) (swapped 0 (bytes_of image 0) (bytes_of image 1) list refl stands)
]

pub seen_back : (slot : ℕ) (image : Image) (list : Option ListBody) → slot < 2 → SlotsHold slot (bytes_of image slot) (bytes_of image (1 - slot)) list → ImageHoldsList image list
seen_back slot image list below stands = elim (zero_or_one slot below) [
  | inl is ↦ subst (λ (s : ℕ). SlotsHold s (bytes_of image s) (bytes_of image (1 - s)) list) is stands
  | inr is ↦ swapped 1 (bytes_of image 1) (bytes_of image 0) list refl (subst (λ (s : ℕ). SlotsHold s (bytes_of image s) (bytes_of image (1 - s)) list) is stands)
]

-- the slot of a list that comes after another isn't that one's
pub parity_differs : (slot old : ℕ) → slot ≡ old % 2 → slot ≡ successor old % 2 → ⊥
parity_differs slot old here there = omega arith

pub same_some : (a b : ListBody) → Some a ≡ Some b → a ≡ b
same_some a b is = cc

-- While this slot doesn't hold the list that counts, it may change to a slot that holds what it held, or to a vacant one.
pub slot_may_change : (slot : ℕ) (bytes others new : List ℕ) (list : Option ListBody) → ((body : ListBody) → SlotHolds slot bytes body → list ≢ Some body)
    → (IsVacant bytes → IsVacant new) → ((body : ListBody) → SlotHolds slot bytes body → SlotHolds slot new body ⊎ IsVacant new)
    → SlotsHold slot bytes others list → SlotsHold slot new others list
slot_may_change slot bytes others new list elsewhere vacant held (none here there is) = none (vacant here) there is
slot_may_change slot bytes others new list elsewhere vacant held (alone body here there is) = absurd (elsewhere body here is)
slot_may_change slot bytes others new list elsewhere vacant held (other_alone body here there is) = other_alone body (vacant here) there is
slot_may_change slot bytes others new list elsewhere vacant held (newer body older here there follows is) = absurd (elsewhere body here is)
slot_may_change slot bytes others new list elsewhere vacant held (other_newer body older here there follows is) =
    ⊎_elim (λ still. other_newer body older still there follows is) (λ gone. other_alone body gone there is) (held older here)

-- the slot of the next generation doesn't hold the list that counts
counts_elsewhere : (slot generation : ℕ) (bytes : List ℕ) (list : Option ListBody) → generation % 2 ≡ slot → IsNext generation list
    → (body : ListBody) → SlotHolds slot bytes body → list ≢ Some body
counts_elsewhere slot generation bytes list parity next body here is =
    let after : generation ≡ successor body.generation = subst (λ (l : Option ListBody). IsNext generation l) is next in
    parity_differs slot body.generation (sym here.parity) (sym parity ∙ ap (λ (n : ℕ). n % 2) after)

-- While the list that counts stands in the other slot, this one may become vacant.
pub vacated : (slot generation : ℕ) (bytes others new : List ℕ) (list : Option ListBody) → generation % 2 ≡ slot → IsNext generation list → SlotsHold slot bytes others list → IsVacant new → SlotsHold slot new others list
vacated slot generation bytes others new list parity next stands gone =
    slot_may_change slot bytes others new list (counts_elsewhere slot generation bytes list parity next) (λ _. gone) (λ _ _. inr gone) stands

-- a slot whose first byte is torn, and which held a list
torn_gate : (slot : ℕ) (bytes new : List ℕ) (body : ListBody) → SlotHolds slot bytes body → Torn 0 1 bytes new → SlotHolds slot new body ⊎ IsVacant new
torn_gate slot bytes new body holds torn =
    let tail = text_of body ++ holds.rest in
    let whole : bytes ≡ [] ++ 1 ∷ tail = holds.encoded in
    let byte = torn_byte [] 1 tail 0 new refl (subst (λ (b : List ℕ). Torn 0 1 b new) whole torn) in
    elim (cases_eq byte.0 1) [
      | inl is ↦ inl (record { rest = holds.rest; encoded = byte.1 ∙ ap (λ (n : ℕ). n ∷ tail) is; parity = holds.parity; rules = holds.rules })
      | inr closed ↦ inr (inr (λ is. closed (sym (ap (λ (l : List ℕ). get_or l 0 0) byte.1) ∙ is)))
    ]

-- closing the gate, at every moment
pub closing : (slot generation : ℕ) (bytes others new : List ℕ) (list : Option ListBody) → generation % 2 ≡ slot → IsNext generation list → IsOpen bytes ⊎ (length bytes < 30) → SlotsHold slot bytes others list → Torn 0 1 bytes new → SlotsHold slot new others list
closing slot generation bytes others new list parity next free stands torn =
    slot_may_change slot bytes others new list (counts_elsewhere slot generation bytes list parity next) gone (λ body here. torn_gate slot bytes new body here torn) stands
  where
    short : length bytes < 30 → IsVacant new
    short few = inl (omega (arith, torn.no_longer))

    gone : IsVacant bytes → IsVacant new
    gone vacant = ⊎_elim (λ is_open. ⊎_elim short (λ closed. absurd (closed is_open)) vacant) short free

-- a slot whose first byte is 0 is vacant
pub closed_is_vacant : (bytes rest : List ℕ) → bytes ≡ 0 ∷ rest → IsVacant bytes
closed_is_vacant bytes rest is = inr (λ one. absurd (omega (arith, sym (ap (λ (l : List ℕ). get_or l 0 0) is) ∙ one)))

-- a write after a closed gate leaves it closed, at every moment
pub behind_closed : (rest new : List ℕ) (count : ℕ) → Torn 1 count (0 ∷ rest) new → IsVacant new
behind_closed rest new count torn =
    let left = torn_behind (0 ∷ []) rest 1 count new (omega arith) torn in
    closed_is_vacant new left.0 left.1

-- once the gate is open the new list counts
pub opened : (slot : ℕ) (others text rest new : List ℕ) (list : Option ListBody) (body : ListBody) → body.generation % 2 ≡ slot → MeetsRules body → text ≡ text_of body → IsNext body.generation list
    → SlotsHold slot ((0 ∷ text) ++ rest) others list → new ≡ 1 ∷ (text ++ rest) → SlotsHold slot new others (Some body)
opened slot others text rest new list body parity rules is next stands one = by stands
  where
    holds : SlotHolds slot new body
    holds = record { rest = rest; encoded = one ∙ ap (λ (t : List ℕ). 1 ∷ (t ++ rest)) is; parity = parity; rules = rules }

    by : SlotsHold slot ((0 ∷ text) ++ rest) others list → SlotsHold slot new others (Some body)
    by (none here there l) = alone body holds there refl
    by (alone old here there l) = absurd (omega (arith, ap (λ (l : List ℕ). get_or l 0 0) here.encoded))
    by (other_alone old here there l) = newer body old holds there (subst (λ (o : Option ListBody). IsNext body.generation o) l next) refl
    by (newer old older here there follows l) = absurd (omega (arith, ap (λ (l : List ℕ). get_or l 0 0) here.encoded))
    by (other_newer old older here there follows l) = absurd (omega (arith, ap (λ (l : List ℕ). get_or l 0 0) here.encoded))

-- opening the gate of a laid list, at every moment
pub opening : (slot : ℕ) (others text rest new : List ℕ) (list : Option ListBody) (body : ListBody) → body.generation % 2 ≡ slot → MeetsRules body → text ≡ text_of body → IsNext body.generation list
    → SlotsHold slot ((0 ∷ text) ++ rest) others list → Torn 0 1 ((0 ∷ text) ++ rest) new → SlotsHold slot new others list ⊎ SlotsHold slot new others (Some body)
opening slot others text rest new list body parity rules is next stands torn =
    let byte = torn_byte [] 0 (text ++ rest) 0 new refl torn in
    elim (cases_eq byte.0 1) [
      | inl one ↦ inr (opened slot others text rest new list body parity rules is next stands (byte.1 ∙ ap (λ (n : ℕ). n ∷ (text ++ rest)) one))
      | inr closed ↦ inl (vacated slot body.generation ((0 ∷ text) ++ rest) others new list parity next stands (inr (λ one. closed (sym (ap (λ (l : List ℕ). get_or l 0 0) byte.1) ∙ one))))
    ]

-- a slot of the two, and the other one
pub only_slot : (slot : ℕ) (held : Image) (images : Image → Type 0) → slot < 2 → OnlyBytes 0 (bytes_of held 0) images → OnlyBytes 1 (bytes_of held 1) images → OnlyBytes slot (bytes_of held slot) images
only_slot slot held images below zero_only one_only = elim (zero_or_one slot below) [
  | inl is ↦ subst (λ (s : ℕ). OnlyBytes s (bytes_of held s) images) (sym is) zero_only
  | inr is ↦ subst (λ (s : ℕ). OnlyBytes s (bytes_of held s) images) (sym is) one_only
]
