-- A core's jobs have files of their own.
use Rattle.std.proofs.Common.{◌≡◌, ℕ, ◌≤◌, ◌==◌, Bool, true, false, List, [], ◌∷◌, ◌++◌, Option, Some, None, refl, sym, ◌∙◌, ap, subst, arith, if◌then◌else◌}
use Rattle.std.proofs.lemmas.Option.{same_Some}
use Rattle.disk_model.specs.declared.disk.Device.{Ghosts}
use Rattle.store_model.specs.Event.{CompactParts}
use Rattle.store_model.specs.Holds.{IsOpenCompact}
use Rattle.store_model.specs.Sound.{StateIsSound, times}
use Rattle.store_model.specs.State.{Compaction, Flush, Pinned, State, block_files, compaction_files, flush_files, is_among, pinned_blocks, pinned_files}
use Rattle.store_model.specs.Step.{Machine}
use Rattle.store_model.proofs.Numbers.{named, same_number, times-append, times_itself}
use Rattle.store_core.specs.Jobs.{ShowsFlush}
use Rattle.store_core.specs.Port.{port_of}
use Rattle.store_core.specs.declared.jobs.OpenFlush.{OpenFlush}
use Rattle.store_core.specs.declared.store.Core.{Core}
use Rattle.client_run.specs.OwnFiles.{HaveOwnFiles}

-- what a core shows of an open flush is the same in each machine that it shows
same_flush : (o : Option OpenFlush) (a b : Option Flush) (x : Flush) → ShowsFlush o a → ShowsFlush o b → a ≡ Some x → (y : Flush) × (b ≡ Some y) × (y.file ≡ x.file)
same_flush None a b x first second is = let bad : ⊥ = cc in absurd bad
same_flush (Some known) a b x first second is =
    let same = same_Some first.0 x (sym first.1 ∙ is) in
    (second.0, second.1, sym second.3.block ∙ first.3.block ∙ ap (λ (job : Flush). job.file) same)

pinned_within : (file n : ℕ) (pins : List Pinned) → times file (block_files (pinned_blocks n pins)) ≤ times file (pinned_files pins)
pinned_within file n [] = omega arith
pinned_within file n (p ∷ ps) =
    let joined = times-append file (block_files p.blocks) (pinned_files ps) in
    let rest = pinned_within file n ps in
    elim (p.number == n) as (λ t. times file (block_files (if t then p.blocks else pinned_blocks n ps)) ≤ times file (block_files p.blocks ++ pinned_files ps)) [
      | true ↦ omega (arith, joined)
      | false ↦ omega (arith, joined, rest)
    ]

-- the use of a flush's file is the flush's
flush_uses : (o : Option Flush) (job : Flush) → o ≡ Some job → 1 ≤ times job.file (flush_files o)
flush_uses o job is =
    let own = times_itself job.file in
    let joined = times-append job.file (job.file ∷ []) (job.segment ∷ []) in
    subst (λ (x : Option Flush). 1 ≤ times job.file (flush_files x)) (sym is) (omega (arith, own, joined))

compaction_uses : (o : Option Compaction) (job : Compaction) → o ≡ Some job → 1 ≤ times job.file (compaction_files o)
compaction_uses o job is =
    let own = times_itself job.file in subst (λ (x : Option Compaction). 1 ≤ times job.file (compaction_files x)) (sym is) (omega (arith, own))

-- so it is neither a compaction's own
not_own : (u : State) (flush : Flush) (job : Compaction) → StateIsSound u → u.flush ≡ Some flush → u.compaction ≡ Some job → (job.file == flush.file) ≡ true → ⊥
not_own u flush job sound is_open other same =
    let first = flush_uses u.flush flush is_open in
    let second = compaction_uses u.compaction job other in
    let equal : job.file ≡ flush.file = same_number job.file flush.file same in
    let there : 1 ≤ times flush.file (compaction_files u.compaction) = subst (λ (f : ℕ). 1 ≤ times f (compaction_files u.compaction)) equal second in
    let once = sound.files.once flush.file in omega (arith, first, there, once)

-- nor that of a block which it joins
not_pinned : (u : State) (flush : Flush) (pin : ℕ) (files : List ℕ) → StateIsSound u → u.flush ≡ Some flush → block_files (pinned_blocks pin u.pins) ≡ files → is_among flush.file files ≡ true → ⊥
not_pinned u flush pin files sound is_open its among =
    let first = flush_uses u.flush flush is_open in
    let one = named flush.file files among in
    let same : times flush.file (block_files (pinned_blocks pin u.pins)) ≡ times flush.file files = ap (times flush.file) its in
    let within = pinned_within flush.file pin u.pins in
    let used = sound.files.pinned flush.file (omega (arith, one, same, within)) in
    let once = sound.files.once flush.file in omega (arith, first, used, once)

neither : (file own : ℕ) (files : List ℕ) → ((own == file) ≡ true → ⊥) → (is_among file files ≡ true → ⊥) → is_among file (own ∷ files) ≡ false
neither file own files here there = at (own == file) refl
  where
    later : (t : Bool) → is_among file files ≡ t → t ≡ false
    later true e = absurd (there e)
    later false e = refl

    at : (t : Bool) → (own == file) ≡ t → is_among file (own ∷ files) ≡ false
    at true e = absurd (here e)
    at false e = rw e (later (is_among file files) refl)

apart_in : (m : Machine) (flush : Flush) (file : ℕ) (mine : CompactParts) → StateIsSound m.state → m.state.flush ≡ Some flush → flush.file ≡ file
    → IsOpenCompact m mine → is_among file (mine.file ∷ mine.files) ≡ false
apart_in m flush file mine sound is_open its is =
    subst (λ (f : ℕ). is_among f (mine.file ∷ mine.files) ≡ false) its
    (neither flush.file mine.file mine.files
    (λ same. not_own m.state flush is.job sound is_open is.is_open (subst (λ (f : ℕ). (f == flush.file) ≡ true) (sym is.its_file) same))
    (λ among. not_pinned m.state flush mine.pin mine.files sound is_open is.its_files among))

pub own_files : {D : Type 0} (g : Ghosts D) (core : Core D) → HaveOwnFiles (port_of g) core
own_files g core mine other (held, holds, there) (others, shown, here) =
    let flush = holds.open_holds _ there in
    let same = same_flush core.state.jobs.flush holds.machine.state.flush shown.machine.state.flush flush.job holds.shown.state.has.flush shown.shown.state.has.flush flush.is_open in
    apart_in shown.machine same.0 mine.file other shown.sound same.1 (same.2 ∙ flush.its_file) (shown.open_holds _ here)
