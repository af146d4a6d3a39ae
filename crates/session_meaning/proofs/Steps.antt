-- Calls of the store as steps, and what page reads make of it.
use Rattle.std.proofs.Common.{Bool, true, false, ◌≡◌, ℕ, ◌≤◌, List, [], ◌∷◌, Option, ap, arith, refl, sym, ◌∙◌, subst, le_trans}
use Rattle.span_types.specs.Faults.{Rose}
use Rattle.store_model.specs.Event.{Event as event, Reply as reply}
use Rattle.store_model.specs.Event.Event.{BeginCompact, BeginFlush, CommitCompact, CommitFlush, Cut, CutAll, Done, DropCompact, DropFlush, Held, Look, Push, ReadPage, Reclaim, WritePiece}
use Rattle.store_model.specs.Event.Reply.{Refused}
use Rattle.store_model.specs.Event.Refusal.{Fault}
use Rattle.store_model.specs.Step.{Happens, Machine, Step}
use Rattle.store_model.specs.Step.Step.{Sure, Succeeds, Lacks, Unread, Breaks, Halts}
use Rattle.store_state.specs.Made.{Call, call}
use Rattle.client_run.specs.CoreRuns.{IsCounted, is_fault}
use Rattle.session_meaning.specs.Answering.{CallsLead}
use Rattle.session_meaning.specs.At.{At, IsStep, IsStill, IsUnchanged}

pub counted_later : (failed : Bool) (before now : ℕ) → IsCounted failed before now → before ≤ now
counted_later true before now rose = rose.later
counted_later false before now same = omega (arith, same)

-- ---- calls, one by one

-- One call is a step.
pub one_step : (before after : At) (e : event) (r : reply) → CallsLead before (call e r ∷ []) after → IsStep before e r after
one_step before after e r s = (
  subst (λ (n : ℕ). before.faults ≤ n) (sym s.4.0) (counted_later (is_fault r) before.faults s.0 s.2),
  subst (λ (n : ℕ). Step before.faults n before.machine e r after.machine) (sym s.4.0)
      (subst (λ (m : Machine). Step before.faults s.0 before.machine e r m) (sym s.4.1) s.3),
  subst (λ (n : ℕ). IsCounted (is_fault r) before.faults n) (sym s.4.0) s.2,
)

-- The first of more calls is a step, and the others lead on from what it leaves.
pub first_step : (before after : At) (e : event) (r : reply) (calls : List Call) → CallsLead before (call e r ∷ calls) after
    → (between : At) × IsStep before e r between × CallsLead between calls after
first_step before after e r calls s = (record { machine = s.1; faults = s.0 }, (counted_later (is_fault r) before.faults s.0 s.2, s.3, s.2), s.4)

-- ---- counts of faults

pub two : (a b c : ℕ) → a ≤ b → b ≤ c → a ≤ c
two a b c first second = omega (arith, first, second)

pub rose_from : (a b c : ℕ) → a ≤ b → Rose b c → Rose a c
rose_from a b c earlier rose = omega (arith, earlier, rose)

pub rose_to : (a b c : ℕ) → Rose a b → b ≤ c → Rose a c
rose_to a b c rose later = le_trans rose later

-- ---- what changes nothing

pub still_itself : (at : At) → IsStill at at
still_itself at = (refl, omega arith, refl)

pub still_then : (failed : Bool) (a b c : At) → IsStill a b → IsUnchanged failed b c → IsUnchanged failed a c
still_then failed a b c first second = (
  second.0 ∙ first.0,
  two a.faults b.faults c.faults first.1 second.1,
  subst (λ (n : ℕ). IsCounted failed n c.faults) first.2 second.2,
)

pub still_twice : (a b c : At) → IsStill a b → IsStill b c → IsStill a c
still_twice a b c first second = still_then false a b c first second

-- a page read changes nothing
pub read_still : (f g : ℕ) (m m' : Machine) (pin block page : ℕ) (r : reply) → Step f g m (ReadPage pin block page) r m' → m' ≡ m
read_still f g m m' pin block page r (Sure told same) = same
read_still f g m m' pin block page r (Succeeds none done) = done.2
read_still f g m m' pin block page r (Lacks none takes told same) = same
read_still f g m m' pin block page r (Unread reads told rose same) = same
read_still f g m m' pin block page r (Breaks none writes told rose same) = let bad : ⊥ = cc in absurd bad
read_still f g m m' pin block page r (Halts none reclaims writes told rose emptied fewer same) = let bad : ⊥ = cc in absurd bad

-- one is refused for a fault only where the count of faults rose
pub read_rose : (f g : ℕ) (m m' : Machine) (pin block page : ℕ) → Step f g m (ReadPage pin block page) (Refused Fault) m' → Rose f g
read_rose f g m m' pin block page (Sure told same) = let bad : ⊥ = cc in absurd bad
read_rose f g m m' pin block page (Succeeds none done) = let bad : ⊥ = (let is = done.1 in cc) in absurd bad
read_rose f g m m' pin block page (Lacks none takes told same) = let bad : ⊥ = cc in absurd bad
read_rose f g m m' pin block page (Unread reads told rose same) = rose
read_rose f g m m' pin block page (Breaks none writes told rose same) = rose
read_rose f g m m' pin block page (Halts none reclaims writes told rose emptied fewer same) = rose

-- ---- what happens

-- No event that succeeds makes a store write that wrote no more, or the other way round.
abbrev pub read_only : Machine → Option ℕ
read_only m = m.read_only

pub happens_writes : (m m' : Machine) (e : event) (r : reply) → Happens m e r m' → m'.read_only ≡ m.read_only
happens_writes m m' (Push spans moment) r d = ap read_only d.1
happens_writes m m' (Cut moment) r d = ap read_only d.3
happens_writes m m' CutAll r d = ap read_only d.3
happens_writes m m' Held r d = ap read_only d.1
happens_writes m m' BeginFlush r d = ap read_only d.1
happens_writes m m' BeginCompact r d = ap read_only d.3
happens_writes m m' (WritePiece job file bytes) r d = ap read_only d.1
happens_writes m m' (CommitFlush number size) r d = ap read_only d.6
happens_writes m m' (CommitCompact number size) r d = ap read_only d.6
happens_writes m m' (DropFlush number) r d = ap read_only d.4
happens_writes m m' (DropCompact number) r d = ap read_only d.4
happens_writes m m' Look r d = ap read_only d.5
happens_writes m m' (ReadPage pin block page) r d = ap read_only d.2
happens_writes m m' (Done pin) r d = ap read_only d.2
happens_writes m m' Reclaim r d = ap read_only d.1
