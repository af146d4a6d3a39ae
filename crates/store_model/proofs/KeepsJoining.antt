-- Each step keeps the blocks of an open compaction listed.
use Rattle.std.proofs.Common.{◌≡◌, ℕ, ◌≤◌, List, [], ◌∷◌, ◌++◌, Option, Some, None, true, false, refl, sym, ◌∙◌, ap, subst, arith, if◌then◌else◌}
use Rattle.span_types.specs.declared.spans.Row.{Row}
use Rattle.store_model.specs.State.{State, Block, Flush, Compaction, Pinned, is_among, block_files, flush_files, pin_numbers, pinned_blocks, IsFreeNumber, without_pin}
use Rattle.store_model.specs.Choice.{choice, in_files}
use Rattle.store_model.specs.After.{after_begin_compact, after_commit_flush, chosen_job, job_files}
use Rattle.store_model.specs.Event.{Event, Reply}
use Rattle.store_model.specs.Event.Event.{Push, Cut, CutAll, Held, BeginFlush, BeginCompact, WritePiece, CommitFlush, CommitCompact, DropFlush, DropCompact, Look, ReadPage, Done, Reclaim}
use Rattle.store_model.specs.Step.{Machine, Step, Happens, early}
use Rattle.store_model.specs.Sound.{times, HasOwnFiles, IsJoining}
use Rattle.store_model.proofs.Numbers.{not_among, times_itself}
use Rattle.store_model.proofs.Chosen.{choice_part, in_own_files, split}
use Rattle.store_model.proofs.Pins.{still_open-more, open-added, still_open-less, same_blocks-more, same_blocks-less, blocks-added, look_apart}
use Rattle.store_model.proofs.Outcomes.{kept_by}

abbrev Joins : Machine → Type 0
Joins m = (job : Compaction) → m.state.compaction ≡ Some job → IsJoining job m.state

some_same : (o : Option Compaction) (a b : Compaction) → o ≡ Some a → o ≡ Some b → a ≡ b
some_same o a b ha hb = let e : Some a ≡ Some b = sym ha ∙ hb in cc

-- with other pins, among which the job's has the blocks that it had, and the same blocks
with_pins : (u u' : State) (job : Compaction) → u'.blocks ≡ u.blocks → is_among job.pin (pin_numbers u'.pins) ≡ true →
    pinned_blocks job.pin u'.pins ≡ pinned_blocks job.pin u.pins → IsJoining job u → IsJoining job u'
with_pins u u' job blocks there same is = record {
  is_open = there;
  listed = ap (λ bs. in_files (block_files (pinned_blocks job.pin u'.pins)) bs) blocks
      ∙ ap (λ bs. in_files (block_files bs) u.blocks) same ∙ is.listed ∙ sym same;
}

more_pins : (u : State) (pin : Pinned) (job : Compaction) → IsJoining job u → IsJoining job (record u { pins = u.pins ++ pin ∷ [] })
more_pins u pin job is = with_pins u (record u { pins = u.pins ++ pin ∷ [] }) job refl
    (still_open-more job.pin u.pins pin is.is_open) (same_blocks-more job.pin u.pins pin is.is_open) is

other_pins : (u : State) (pin : ℕ) (job : Compaction) → (pin ≡ job.pin → ⊥) → IsJoining job u → IsJoining job (record u { pins = without_pin pin u.pins })
other_pins u pin job other is = with_pins u (record u { pins = without_pin pin u.pins }) job refl
    (still_open-less job.pin pin u.pins other is.is_open) (same_blocks-less job.pin pin u.pins other) is

-- the choice
begun : (u : State) (pin : ℕ) → IsFreeNumber pin u.pins → HasOwnFiles u → IsJoining (chosen_job pin u) (after_begin_compact pin u)
begun u pin free files = record {
  is_open = open-added u.pins (record { number = pin; blocks = choice u.blocks });
  listed = ap (λ bs. in_files (block_files bs) u.blocks) its
      ∙ in_own_files (block_files (choice u.blocks)) (choice u.blocks) u.blocks (choice_part u.blocks)
      (λ f. omega (arith, files.once f)) (λ f l. refl)
      ∙ sym its;
}
  where
    its : pinned_blocks pin (u.pins ++ record { number = pin; blocks = choice u.blocks } ∷ []) ≡ choice u.blocks
    its = blocks-added u.pins (record { number = pin; blocks = choice u.blocks }) free.is_free

-- a block more, in a file of its own
in_files-more : (files : List ℕ) (bs : List Block) (b : Block) → is_among b.file files ≡ false → in_files files (bs ++ b ∷ []) ≡ in_files files bs
in_files-more files [] b h = rw h refl
in_files-more files (x ∷ xs) b h =
    elim (is_among x.file files) as (λ t. (if t then x ∷ in_files files (xs ++ b ∷ []) else in_files files (xs ++ b ∷ [])) ≡ (if t then x ∷ in_files files xs else in_files files xs)) [
      | true ↦ ap (λ zs. x ∷ zs) (in_files-more files xs b h)
      | false ↦ in_files-more files xs b h
    ]

committed : (u : State) (count : ℕ) (flush : Flush) (size : ℕ) (firsts : List Row) (job : Compaction) → u.flush ≡ Some flush → HasOwnFiles u →
    IsJoining job u → IsJoining job (after_commit_flush count flush size firsts u)
committed u count flush size firsts job here files is = record {
  is_open = is.is_open;
  listed = in_files-more (job_files job u) u.blocks _ (not_among flush.file (job_files job u) none) ∙ is.listed;
}
  where
    own : 1 ≤ times flush.file (flush_files u.flush)
    own = subst (λ o. 1 ≤ times flush.file (flush_files o)) (sym here) (omega (arith, times_itself flush.file))

    named_blocks : times flush.file (job_files job u) ≡ times flush.file (block_files (in_files (job_files job u) u.blocks))
    named_blocks = ap (λ bs. times flush.file (block_files bs)) (sym is.listed)

    none : times flush.file (job_files job u) ≡ 0
    none = omega (arith, own, named_blocks, split flush.file (job_files job u) u.blocks, files.once flush.file)

nothing_open : (job : Compaction) (G : Type 0) → None ≡ Some job → G
nothing_open job G h = cc

happens_keeps : (m m' : Machine) (e : Event) (r : Reply) → HasOwnFiles m.state → Joins m → early m e ≡ None → Happens m e r m' → Joins m'
happens_keeps m m' (Push spans moment) r files is _ d = subst Joins (sym d.1) (λ job h. record { is_open = (is job h).is_open; listed = (is job h).listed })
happens_keeps m m' (Cut moment) r files is _ d = subst Joins (sym d.3) (λ job h. record { is_open = (is job h).is_open; listed = (is job h).listed })
happens_keeps m m' CutAll r files is _ d = subst Joins (sym d.3) (λ job h. record { is_open = (is job h).is_open; listed = (is job h).listed })
happens_keeps m m' Held r files is _ d = subst Joins (sym d.1) is
happens_keeps m m' BeginFlush r files is none d = subst Joins (sym d.1) (λ job h. record { is_open = (is job h).is_open; listed = (is job h).listed })
happens_keeps m m' BeginCompact r files is none d =
    subst Joins (sym d.3) (λ job h. subst (λ j. IsJoining j (after_begin_compact d.0 m.state)) (some_same _ _ job refl h) (begun m.state d.0 d.1 files))
happens_keeps m m' (WritePiece job file bytes) r files is _ d = subst Joins (sym d.1) is
happens_keeps m m' (CommitFlush number size) r files is _ d =
    subst Joins (sym d.6) (λ job h. committed m.state _ d.0 size d.1 job d.2 files (is job h))
happens_keeps m m' (CommitCompact number size) r files is _ d = subst Joins (sym d.6) (λ job h. nothing_open job _ h)
happens_keeps m m' (DropFlush number) r files is _ d = subst Joins (sym d.4) (λ job h. record { is_open = (is job h).is_open; listed = (is job h).listed })
happens_keeps m m' (DropCompact number) r files is _ d = subst Joins (sym d.4) (λ job h. nothing_open job _ h)
happens_keeps m m' Look r files is _ d = subst Joins (sym d.5) (λ job h. more_pins m.state _ job (is job h))
happens_keeps m m' (ReadPage pin block page) r files is _ d = subst Joins (sym d.2) is
happens_keeps m m' (Done pin) r files is _ d =
    subst Joins (sym d.2) (λ job h. other_pins m.state pin job (look_apart pin m.state.compaction job d.0.no_job h) (is job h))
happens_keeps m m' Reclaim r files is _ d = subst Joins (sym d.1) (λ job h. record { is_open = (is job h).is_open; listed = (is job h).listed })

pub step_keeps : (before faults : ℕ) (m m' : Machine) (e : Event) (r : Reply) → HasOwnFiles m.state → Joins m → Step before faults m e r m' → Joins m'
step_keeps before faults m m' e r files is step = kept_by Joins before faults m m' e r is is
    (λ gone free. λ job h. record { is_open = (is job h).is_open; listed = (is job h).listed })
    (λ none d. happens_keeps m m' e r files is none d) step
