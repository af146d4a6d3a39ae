-- After a load or a commit the next list may be laid.
use Rattle.std.proofs.Common.{◌≡◌, ◌⊎◌, inl, inr, ⊎_elim, ℕ, ◌-◌, ◌%◌, ◌<◌, ◌≤◌, Option, Some, List, get_or, refl, sym, ◌∙◌, ap, subst, arith}
use Rattle.std.proofs.lemmas.Bool.{cases_eq}
use Rattle.disk_model.specs.Images.{Image, bytes_of, Besides, SameBytes}
use Rattle.disk_model.specs.Crash.{OnlyBytes, Follows, Within}
use Rattle.block_list.specs.Body.{MeetsRules}
use Rattle.block_list.specs.Slots.{IsOpen, SlotHolds, SlotsHold, ImageHoldsList, IsNext}
use Rattle.block_list.specs.Slots.SlotsHold.{none, alone, other_alone, newer, other_newer}
use Rattle.block_list.specs.ListText.{ListText}
use Rattle.block_list.specs.Commit.{CanLay}
use Rattle.block_list.specs.Loading.{IsFree, IsReady}
use Rattle.block_list.proofs.SlotLemmas.{zero_or_one, same_some, seen_from}
use Rattle.block_list.specs.declared.body.ListBody.{ListBody}

free_in : (slot : ℕ) (held : Image) → slot < 2 → IsFree (bytes_of held 0) → IsFree (bytes_of held 1) → IsFree (bytes_of held slot)
free_in slot held below first second = elim (zero_or_one slot below) [
  | inl is ↦ subst (λ (s : ℕ). IsFree (bytes_of held s)) (sym is) first
  | inr is ↦ subst (λ (s : ℕ). IsFree (bytes_of held s)) (sym is) second
]

pub can_lay : (held : Image) (may_leave : Image → Type 0) (list : Option ListBody) (next : ListText) → IsReady held may_leave list → IsNext next.generation list → CanLay held may_leave next
can_lay held may_leave list next ready follows = record {
  slot_0 = ready.slot_0;
  slot_1 = ready.slot_1;
  follows = (list, ready.stands, follows);
  free = free_in (next.generation % 2) held (omega arith) ready.free_0 ready.free_1;
}

-- the slots stay ready where their bytes stay, in what is held and in each image
ready_same : (held later : Image) (before after : Image → Type 0) (list : Option ListBody)
    → ((slot : ℕ) → slot < 2 → bytes_of later slot ≡ bytes_of held slot)
    → ((slot : ℕ) → slot < 2 → (bytes : List ℕ) → OnlyBytes slot bytes before → OnlyBytes slot bytes after)
    → IsReady held before list → IsReady later after list
ready_same held later before after list same only ready =
    let first = same 0 (omega arith) in
    let second = same 1 (omega arith) in
    record {
      stands = subst (λ (b : List ℕ). SlotsHold 0 (bytes_of later 0) b list) (sym second) (subst (λ (b : List ℕ). SlotsHold 0 b (bytes_of held 1) list) (sym first) ready.stands);
      slot_0 = subst (λ (b : List ℕ). OnlyBytes 0 b after) (sym first) (only 0 (omega arith) (bytes_of held 0) ready.slot_0);
      slot_1 = subst (λ (b : List ℕ). OnlyBytes 1 b after) (sym second) (only 1 (omega arith) (bytes_of held 1) ready.slot_1);
      free_0 = subst IsFree (sym first) ready.free_0;
      free_1 = subst IsFree (sym second) ready.free_1;
    }

pub ready_besides : (file : ℕ) (held later : Image) (before after : Image → Type 0) (list : Option ListBody) → 2 ≤ file → Besides file held later → Follows (Besides file) before after
    → IsReady held before list → IsReady later after list
ready_besides file held later before after list no_slot besides follows ready =
    ready_same held later before after list (λ slot below. besides slot (λ e. omega (arith, e, below, no_slot)))
    (λ slot below bytes only image left. let r = follows image left in r.2 slot (λ e. omega (arith, e, below, no_slot)) ∙ only r.0 r.1) ready

pub ready_quiet : (held later : Image) (before after : Image → Type 0) (list : Option ListBody) → SameBytes held later → Within before after
    → IsReady held before list → IsReady later after list
ready_quiet held later before after list same within ready =
    ready_same held later before after list (λ slot below. same slot) (λ slot below bytes only image left. only image (within image left)) ready

-- one of the slots holds the list that counts
counted : (slot : ℕ) (bytes others : List ℕ) (list : Option ListBody) (body : ListBody) → SlotsHold slot bytes others list → list ≡ Some body → SlotHolds slot bytes body ⊎ SlotHolds (1 - slot) others body
counted slot bytes others list body (none here there is) e = absurd (let bad = sym is ∙ e in cc)
counted slot bytes others list body (alone found here there is) e = inl (subst (SlotHolds slot bytes) (same_some found body (sym is ∙ e)) here)
counted slot bytes others list body (other_alone found here there is) e = inr (subst (SlotHolds (1 - slot) others) (same_some found body (sym is ∙ e)) there)
counted slot bytes others list body (newer found older here there follows is) e = inl (subst (SlotHolds slot bytes) (same_some found body (sym is ∙ e)) here)
counted slot bytes others list body (other_newer found older here there follows is) e = inr (subst (SlotHolds (1 - slot) others) (same_some found body (sym is ∙ e)) there)

-- and that list meets the rules
pub rules_of : (slot : ℕ) (bytes others : List ℕ) (list : Option ListBody) (body : ListBody) → SlotsHold slot bytes others list → list ≡ Some body → MeetsRules body
rules_of slot bytes others list body holds is = ⊎_elim (λ here. here.rules) (λ there. there.rules) (counted slot bytes others list body holds is)

holds_open : (slot : ℕ) (bytes : List ℕ) (body : ListBody) → SlotHolds slot bytes body → IsOpen bytes
holds_open slot bytes body holds = ap (λ (l : List ℕ). get_or l 0 0) holds.encoded

-- the slot of the list that counts is open
open_slot : (slot : ℕ) (bytes others : List ℕ) (list : Option ListBody) (body : ListBody) → body.generation % 2 ≡ slot → SlotsHold slot bytes others list → list ≡ Some body → IsOpen bytes
open_slot slot bytes others list body parity holds is =
    ⊎_elim (holds_open slot bytes body) (λ there. absurd (omega (arith, parity, there.parity))) (counted slot bytes others list body holds is)

-- a list was committed where the next one could be laid
module _ (slot : ℕ) (held later : Image) (may_leave may_later : Image → Type 0) (old : Option ListBody) (new : ListBody) where
  free_after : (file : ℕ) → file < 2 → slot < 2 → new.generation % 2 ≡ slot → IsReady held may_leave old → Besides slot held later → ImageHoldsList later (Some new) → IsFree (bytes_of later file)
  free_after file inside below parity ready besides stands = elim (cases_eq file slot) [
    | inl is ↦ subst (λ (s : ℕ). IsFree (bytes_of later s)) (sym is) (inl (open_slot slot (bytes_of later slot) (bytes_of later (1 - slot)) (Some new) new parity (seen_from slot later (Some new) below stands) refl))
    | inr other ↦ subst IsFree (sym (besides file other)) (free_in file held inside ready.free_0 ready.free_1)
  ]

  pub ready_after : slot < 2 → new.generation % 2 ≡ slot → IsReady held may_leave old → Besides slot held later → ImageHoldsList later (Some new) → OnlyBytes 0 (bytes_of later 0) may_later → OnlyBytes 1 (bytes_of later 1) may_later
      → IsReady later may_later (Some new)
  ready_after below parity ready besides stands first second = record {
    stands = stands;
    slot_0 = first;
    slot_1 = second;
    free_0 = free_after 0 (omega arith) below parity ready besides stands;
    free_1 = free_after 1 (omega arith) below parity ready besides stands;
  }
