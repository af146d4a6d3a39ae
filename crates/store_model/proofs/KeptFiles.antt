-- A file that is listed or pinned after a step was so before it, if it was no open job's. So a file that was given out and is no open
-- job's is never listed or pinned anew.
use Rattle.std.proofs.Common.{◌≡◌, ℕ, ◌+◌, ◌<◌, ◌≤◌, ◌∷◌, [], Some, Bool, true, false, refl, sym, ap, subst, arith}
use Rattle.store_model.specs.State.{State, Block, Flush, Compaction, is_among, block_files, flush_files, compaction_files, open_files, pinned_files}
use Rattle.store_model.specs.Choice.{choice, outside_files}
use Rattle.store_model.specs.After.{job_files}
use Rattle.store_model.specs.Event.{Event, Reply}
use Rattle.store_model.specs.Event.Event.{Push, Cut, CutAll, Held, BeginFlush, BeginCompact, WritePiece, CommitFlush, CommitCompact, DropFlush, DropCompact, Look, ReadPage, Done, Reclaim}
use Rattle.store_model.specs.Step.{Machine, Step, Happens}
use Rattle.store_model.specs.Fresh.{GivesNewFiles}
use Rattle.store_model.specs.Sound.{times}
use Rattle.store_model.proofs.Numbers.{times-append, times_pair, not_named}
use Rattle.store_model.proofs.Chosen.{split, choice_part, part_within}
use Rattle.store_model.proofs.Outcomes.{kept_by}
use Rattle.store_model.proofs.KeepsFiles.{block_files-more, pinned-more, pinned_fewer}
use Rattle.store_model.proofs.GivesFresh.{gives_new}

-- how often the file is listed as a block's, and pinned
abbrev pub keeps : ℕ → State → ℕ
keeps f u = times f (block_files u.blocks) + times f (pinned_files u.pins)

abbrev Before : ℕ → State → State → Type 0
Before f u u' = 1 ≤ keeps f u' → 1 ≤ keeps f u

-- a flush's block and a compaction's are in files of open jobs
flush_block : (f : ℕ) (u : State) (job : Flush) → u.flush ≡ Some job → times f (open_files u) ≡ 0 → times f (job.file ∷ []) ≡ 0
flush_block f u job here none =
    let whole = times-append f (flush_files u.flush) (compaction_files u.compaction) in
    let own : times f (flush_files u.flush) ≡ times f (job.file ∷ job.segment ∷ []) = ap (λ o. times f (flush_files o)) here in
    let pair = times_pair f job.file job.segment in
    omega (arith, none, whole, own, pair)

compaction_block : (f : ℕ) (u : State) (job : Compaction) → u.compaction ≡ Some job → times f (open_files u) ≡ 0 → times f (job.file ∷ []) ≡ 0
compaction_block f u job here none =
    let whole = times-append f (flush_files u.flush) (compaction_files u.compaction) in
    let own : times f (compaction_files u.compaction) ≡ times f (job.file ∷ []) = ap (λ o. times f (compaction_files o)) here in
    omega (arith, none, whole, own)

happens_before : (m m' : Machine) (e : Event) (r : Reply) (f : ℕ) → times f (open_files m.state) ≡ 0 → Happens m e r m' → Before f m.state m'.state
happens_before m m' (Push spans moment) r f none d = subst (λ (n : Machine). Before f m.state n.state) (sym d.1) (λ h. h)
happens_before m m' (Cut moment) r f none d = subst (λ (n : Machine). Before f m.state n.state) (sym d.3) (λ h. h)
happens_before m m' CutAll r f none d = subst (λ (n : Machine). Before f m.state n.state) (sym d.3) (λ h. h)
happens_before m m' Held r f none d = subst (λ (n : Machine). Before f m.state n.state) (sym d.1) (λ h. h)
happens_before m m' BeginFlush r f none d = subst (λ (n : Machine). Before f m.state n.state) (sym d.1) (λ h. h)
happens_before m m' BeginCompact r f none d = subst (λ (n : Machine). Before f m.state n.state) (sym d.3)
    (λ h. let more = pinned-more f m.state.pins (record { number = d.0; blocks = choice m.state.blocks }) in
    let part = part_within f (choice m.state.blocks) m.state.blocks (choice_part m.state.blocks) in
    omega (arith, h, more, part))
happens_before m m' (WritePiece job file bytes) r f none d = subst (λ (n : Machine). Before f m.state n.state) (sym d.1) (λ h. h)
happens_before m m' (CommitFlush number size) r f none d = subst (λ (n : Machine). Before f m.state n.state) (sym d.6)
    (λ h. let more = block_files-more f m.state.blocks (record { file = d.0.file; level = 0; size = size; rows = d.1 }) in
    let own = flush_block f m.state d.0 d.2 none in
    omega (arith, h, more, own))
happens_before m m' (CommitCompact number size) r f none d = subst (λ (n : Machine). Before f m.state n.state) (sym d.6)
    (λ h. let files = job_files d.0 m.state in
    let more = block_files-more f (outside_files files m.state.blocks) (record { file = d.0.file; level = d.0.level; size = size; rows = d.1 }) in
    let own = compaction_block f m.state d.0 d.2 none in
    let parts = split f files m.state.blocks in
    let fewer = pinned_fewer f d.0.pin m.state.pins in
    omega (arith, h, more, own, parts, fewer))
happens_before m m' (DropFlush number) r f none d = subst (λ (n : Machine). Before f m.state n.state) (sym d.4) (λ h. h)
happens_before m m' (DropCompact number) r f none d = subst (λ (n : Machine). Before f m.state n.state) (sym d.4)
    (λ h. let fewer = pinned_fewer f d.0.pin m.state.pins in omega (arith, h, fewer))
happens_before m m' Look r f none d = subst (λ (n : Machine). Before f m.state n.state) (sym d.5)
    (λ h. let more = pinned-more f m.state.pins (record { number = d.0; blocks = m.state.blocks }) in omega (arith, h, more))
happens_before m m' (ReadPage pin block page) r f none d = subst (λ (n : Machine). Before f m.state n.state) (sym d.2) (λ h. h)
happens_before m m' (Done pin) r f none d = subst (λ (n : Machine). Before f m.state n.state) (sym d.2)
    (λ h. let fewer = pinned_fewer f pin m.state.pins in omega (arith, h, fewer))
happens_before m m' Reclaim r f none d = subst (λ (n : Machine). Before f m.state n.state) (sym d.1) (λ h. h)

-- kept after a step, it was kept before it
pub kept_before : (before faults : ℕ) (m m' : Machine) (e : Event) (r : Reply) (f : ℕ) → is_among f (open_files m.state) ≡ false
    → Step before faults m e r m' → 1 ≤ keeps f m'.state → 1 ≤ keeps f m.state
kept_before before faults m m' e r f apart step = kept_by (λ (n : Machine). Before f m.state n.state) before faults m m' e r
    (λ h. h) (λ h. h) (λ gone free h. h)
    (λ none d. happens_before m m' e r f (not_named f (open_files m.state) apart) d) step

-- given out and no open job's before a step, it is so after it
pub given_before : (before faults : ℕ) (m m' : Machine) (e : Event) (r : Reply) (f : ℕ) → f < m.state.next_file → is_among f (open_files m.state) ≡ false
    → Step before faults m e r m' → (f < m'.state.next_file) × (is_among f (open_files m'.state) ≡ false)
given_before before faults m m' e r f given apart step = (omega (arith, given, new.rises), at (is_among f (open_files m'.state)) refl)
  where
    new : GivesNewFiles m.state r m'.state
    new = gives_new before faults m m' e r step

    at : (t : Bool) → is_among f (open_files m'.state) ≡ t → is_among f (open_files m'.state) ≡ false
    at false e = e
    at true e = absurd (let above = (new.jobs f e apart).above in omega (arith, above, given))
