-- Each step keeps the numbers of pins and jobs apart.
use Rattle.std.proofs.Common.{◌≡◌, ℕ, ◌+◌, ◌<◌, ◌≤◌, List, [], ◌∷◌, ◌++◌, None, refl, sym, ◌∙◌, ap, subst, arith, ◌⊎◌, inl, inr}
use Rattle.store_model.specs.State.{State, Pinned, pin_numbers, flush_numbers, compaction_numbers, IsFreeNumber}
use Rattle.store_model.specs.After.{after_begin_flush, after_begin_compact}
use Rattle.store_model.specs.Event.{Event, Reply}
use Rattle.store_model.specs.Event.Event.{Push, Cut, CutAll, Held, BeginFlush, BeginCompact, WritePiece, CommitFlush, CommitCompact, DropFlush, DropCompact, Look, ReadPage, Done, Reclaim}
use Rattle.store_model.specs.Step.{Machine, Step, Happens, early}
use Rattle.store_model.specs.Sound.{times, jobs_with, HasOwnNumbers}
use Rattle.store_model.proofs.Numbers.{times_one, times_not, not_named, below_or_not}
use Rattle.store_model.proofs.Pins.{pin_numbers-more, pin_numbers-less}
use Rattle.store_model.proofs.Outcomes.{kept_by, idle_flush, idle_compaction}

-- a free number beside those of pins that are apart
one_more : (n k : ℕ) (pins : List Pinned) (pin : Pinned) → pin.number ≡ k → IsFreeNumber k pins → times n (pin_numbers pins) ≤ 1 → times n (pin_numbers (pins ++ pin ∷ [])) ≤ 1
one_more n k pins pin e free one = by_order (below_or_not n k) (below_or_not k n)
  where
    joined : times n (pin_numbers (pins ++ pin ∷ [])) ≡ times n (pin_numbers pins) + times n (k ∷ [])
    joined = pin_numbers-more n pins pin ∙ ap (λ q. times n (pin_numbers pins) + times n (q ∷ [])) e

    none : n ≡ k → times n (pin_numbers pins) ≡ 0
    none s = ap (λ q. times q (pin_numbers pins)) s ∙ not_named k (pin_numbers pins) free.is_free

    by_order : (n < k) ⊎ (k ≤ n) → (k < n) ⊎ (n ≤ k) → times n (pin_numbers (pins ++ pin ∷ [])) ≤ 1
    by_order (inl l) g = omega (arith, joined, one, times_not n k (inr l))
    by_order (inr l) (inl g) = omega (arith, joined, one, times_not n k (inl g))
    by_order (inr l) (inr g) = let s : n ≡ k = omega arith in omega (arith, joined, none s, times_one n k)

-- fewer pins and jobs, and as many begun
fewer : (u u' : State) → u'.begun ≡ u.begun → ((n : ℕ) → times n (pin_numbers u'.pins) ≤ times n (pin_numbers u.pins)) →
    ((n : ℕ) → jobs_with n u' ≤ jobs_with n u) → HasOwnNumbers u → HasOwnNumbers u'
fewer u u' same pins jobs is = record {
  pins = λ n. omega (arith, is.pins n, pins n);
  jobs = λ n. omega (arith, is.jobs n, jobs n);
  new = λ n l. omega (arith, is.new n (omega (arith, l, same)), jobs n);
}

begun_flush : (u : State) → u.flush ≡ None → HasOwnNumbers u → HasOwnNumbers (after_begin_flush u)
begun_flush u none is = record {
  pins = is.pins;
  jobs = λ n. by_order n (below_or_not u.begun n);
  new = λ n l. omega (arith, is.new n (omega (arith, l)), times_not n (u.begun + 1) (inl l));
}
  where
    nothing : (n : ℕ) → times n (flush_numbers u.flush) ≡ 0
    nothing n = ap (λ o. times n (flush_numbers o)) none

    by_order : (n : ℕ) → (u.begun < n) ⊎ (n ≤ u.begun) → jobs_with n (after_begin_flush u) ≤ 1
    by_order n (inl l) = omega (arith, is.new n l, times_one n (u.begun + 1))
    by_order n (inr l) = omega (arith, is.jobs n, times_not n (u.begun + 1) (inr (omega arith)))

begun_compact : (u : State) (pin : ℕ) → IsFreeNumber pin u.pins → u.compaction ≡ None → HasOwnNumbers u → HasOwnNumbers (after_begin_compact pin u)
begun_compact u pin free none is = record {
  pins = λ n. one_more n pin u.pins _ refl free (is.pins n);
  jobs = λ n. by_order n (below_or_not u.begun n);
  new = λ n l. omega (arith, is.new n (omega (arith, l)), times_not n (u.begun + 1) (inl l));
}
  where
    by_order : (n : ℕ) → (u.begun < n) ⊎ (n ≤ u.begun) → jobs_with n (after_begin_compact pin u) ≤ 1
    by_order n (inl l) = omega (arith, is.new n l, times_one n (u.begun + 1))
    by_order n (inr l) = omega (arith, is.jobs n, times_not n (u.begun + 1) (inr (omega arith)))

abbrev Numbers : Machine → Type 0
Numbers m = HasOwnNumbers m.state

same : (u u' : State) → HasOwnNumbers u → u'.begun ≡ u.begun → u'.pins ≡ u.pins → u'.flush ≡ u.flush → u'.compaction ≡ u.compaction → HasOwnNumbers u'
same u u' is b p f c = fewer u u' b (λ n. omega (arith, ap (λ q. times n (pin_numbers q)) p))
    (λ n. omega (arith, ap (λ q. times n (flush_numbers q)) f, ap (λ q. times n (compaction_numbers q)) c)) is

-- a flush or a compaction ends
no_flush : (n : ℕ) (u : State) → times n (flush_numbers None) + times n (compaction_numbers u.compaction) ≤ jobs_with n u
no_flush n u = omega arith

no_compaction : (n : ℕ) (u : State) → times n (flush_numbers u.flush) + times n (compaction_numbers None) ≤ jobs_with n u
no_compaction n u = omega arith

happens_keeps : (m m' : Machine) (e : Event) (r : Reply) → Numbers m → early m e ≡ None → Happens m e r m' → Numbers m'
happens_keeps m m' (Push spans moment) r is _ d = subst Numbers (sym d.1) (same m.state _ is refl refl refl refl)
happens_keeps m m' (Cut moment) r is _ d = subst Numbers (sym d.3) (same m.state _ is refl refl refl refl)
happens_keeps m m' CutAll r is _ d = subst Numbers (sym d.3) (same m.state _ is refl refl refl refl)
happens_keeps m m' Held r is _ d = subst Numbers (sym d.1) is
happens_keeps m m' BeginFlush r is none d = subst Numbers (sym d.1) (begun_flush m.state (idle_flush m.read_only m.state.flush _ none) is)
happens_keeps m m' BeginCompact r is none d =
    subst Numbers (sym d.3) (begun_compact m.state d.0 d.1 (idle_compaction m.read_only m.state.compaction _ none) is)
happens_keeps m m' (WritePiece job file bytes) r is _ d = subst Numbers (sym d.1) is
happens_keeps m m' (CommitFlush number size) r is _ d =
    subst Numbers (sym d.6) (fewer m.state _ refl (λ n. omega arith) (λ n. no_flush n m.state) is)
happens_keeps m m' (CommitCompact number size) r is _ d =
    subst Numbers (sym d.6) (fewer m.state _ refl (λ n. pin_numbers-less n d.0.pin m.state.pins) (λ n. no_compaction n m.state) is)
happens_keeps m m' (DropFlush number) r is _ d =
    subst Numbers (sym d.4) (fewer m.state _ refl (λ n. omega arith) (λ n. no_flush n m.state) is)
happens_keeps m m' (DropCompact number) r is _ d =
    subst Numbers (sym d.4) (fewer m.state _ refl (λ n. pin_numbers-less n d.0.pin m.state.pins) (λ n. no_compaction n m.state) is)
happens_keeps m m' Look r is _ d =
    subst Numbers (sym d.5) (record { pins = λ n. one_more n d.0 m.state.pins _ refl d.2 (is.pins n); jobs = is.jobs; new = is.new })
happens_keeps m m' (ReadPage pin block page) r is _ d = subst Numbers (sym d.2) is
happens_keeps m m' (Done pin) r is _ d =
    subst Numbers (sym d.2) (fewer m.state _ refl (λ n. pin_numbers-less n pin m.state.pins) (λ n. omega arith) is)
happens_keeps m m' Reclaim r is _ d = subst Numbers (sym d.1) (same m.state _ is refl refl refl refl)

pub step_keeps : (before faults : ℕ) (m m' : Machine) (e : Event) (r : Reply) → Numbers m → Step before faults m e r m' → Numbers m'
step_keeps before faults m m' e r is step = kept_by Numbers before faults m m' e r is is
    (λ files free. same m.state _ is refl refl refl refl) (λ none d. happens_keeps m m' e r is none d) step
