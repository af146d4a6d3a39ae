-- Each step keeps the numbers of files and jobs within their types.
use Rattle.std.proofs.Common.{◌≡◌, ℕ, None, length, refl, sym, subst, arith}
use Rattle.store_model.specs.State.{State}
use Rattle.store_model.specs.Choice.{choice}
use Rattle.store_model.specs.Event.{Event, Reply}
use Rattle.store_model.specs.Event.Event.{Push, Cut, CutAll, Held, BeginFlush, BeginCompact, WritePiece, CommitFlush, CommitCompact, DropFlush, DropCompact, Look, ReadPage, Done, Reclaim}
use Rattle.store_model.specs.Step.{Machine, Step, Happens, early}
use Rattle.store_model.specs.Sound.{FitsItsTypes}
use Rattle.store_model.proofs.Outcomes.{kept_by, flush_has_numbers, compaction_has_numbers}

abbrev Fits : Machine → Type 0
Fits m = FitsItsTypes m.state

-- as long as neither count changes
same : (u u' : State) → u'.next_file ≡ u.next_file → u'.begun ≡ u.begun → FitsItsTypes u → FitsItsTypes u'
same u u' next begun is = record { files = omega (arith, is.files, next); jobs = omega (arith, is.jobs, next, begun) }

happens_keeps : (m m' : Machine) (e : Event) (r : Reply) → Fits m → early m e ≡ None → Happens m e r m' → Fits m'
happens_keeps m m' (Push spans moment) r is _ d = subst Fits (sym d.1) (same m.state _ refl refl is)
happens_keeps m m' (Cut moment) r is _ d = subst Fits (sym d.3) (same m.state _ refl refl is)
happens_keeps m m' CutAll r is _ d = subst Fits (sym d.3) (same m.state _ refl refl is)
happens_keeps m m' Held r is _ d = subst Fits (sym d.1) is
happens_keeps m m' BeginFlush r is none d =
    let left = flush_has_numbers m.read_only m.state.flush (length m.state.head) m.state.next_file none in
    subst Fits (sym d.1) (record { files = omega (arith, left); jobs = omega (arith, is.jobs) })
happens_keeps m m' BeginCompact r is none d =
    let left = compaction_has_numbers m.read_only m.state.compaction (length (choice m.state.blocks)) m.state.next_file none in
    subst Fits (sym d.3) (record { files = omega (arith, left); jobs = omega (arith, is.jobs) })
happens_keeps m m' (WritePiece job file bytes) r is _ d = subst Fits (sym d.1) is
happens_keeps m m' (CommitFlush number size) r is _ d = subst Fits (sym d.6) (same m.state _ refl refl is)
happens_keeps m m' (CommitCompact number size) r is _ d = subst Fits (sym d.6) (same m.state _ refl refl is)
happens_keeps m m' (DropFlush number) r is _ d = subst Fits (sym d.4) (same m.state _ refl refl is)
happens_keeps m m' (DropCompact number) r is _ d = subst Fits (sym d.4) (same m.state _ refl refl is)
happens_keeps m m' Look r is _ d = subst Fits (sym d.5) (same m.state _ refl refl is)
happens_keeps m m' (ReadPage pin block page) r is _ d = subst Fits (sym d.2) is
happens_keeps m m' (Done pin) r is _ d = subst Fits (sym d.2) (same m.state _ refl refl is)
happens_keeps m m' Reclaim r is _ d = subst Fits (sym d.1) (same m.state _ refl refl is)

pub step_keeps : (before faults : ℕ) (m m' : Machine) (e : Event) (r : Reply) → Fits m → Step before faults m e r m' → Fits m'
step_keeps before faults m m' e r is step = kept_by Fits before faults m m' e r is is
    (λ gone free. same m.state _ refl refl is) (λ none d. happens_keeps m m' e r is none d) step
