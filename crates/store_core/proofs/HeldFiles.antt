-- A file of what is held open is no segment's, and isn't loose without being pinned.
use Rattle.std.proofs.Common.{◌≡◌, ℕ, ◌+◌, ◌≤◌, ◌==◌, Bool, true, false, not, filter, List, [], ◌∷◌, ◌++◌, Option, Some, refl, sym, ◌∙◌, ap, subst, arith, if◌then◌else◌}
use Rattle.store_model.specs.State.{State, Pinned, Flush, Compaction, is_among, segment_files, block_files, flush_files, compaction_files, pinned_files, pinned_blocks, free_files}
use Rattle.store_model.specs.Sound.{times, uses, StateIsSound}
use Rattle.store_model.specs.Holds.{Hold, OpenIn, files_of}
use Rattle.store_model.specs.Holds.Hold.{OpenLook, OpenFlush, OpenCompact}
use Rattle.store_model.specs.Step.{Machine}
use Rattle.store_model.proofs.Numbers.{times-append, named, among as is_named, not_named, passes, fewer_left}

pub pinned_within : (file n : ℕ) (pins : List Pinned) → times file (block_files (pinned_blocks n pins)) ≤ times file (pinned_files pins)
pinned_within file n [] = omega arith
pinned_within file n (p ∷ ps) =
    let joined = times-append file (block_files p.blocks) (pinned_files ps) in
    let rest = pinned_within file n ps in
    elim (p.number == n) as (λ t. times file (block_files (if t then p.blocks else pinned_blocks n ps)) ≤ times file (block_files p.blocks ++ pinned_files ps)) [
      | true ↦ omega (arith, joined)
      | false ↦ omega (arith, joined, rest)
    ]

-- a pinned file has its use as a block's or as a loose one
pinned_apart : (u : State) → StateIsSound u → (pin file : ℕ) (files : List ℕ) → block_files (pinned_blocks pin u.pins) ≡ files → is_among file files ≡ true → times file (segment_files u.segments) ≡ 0
pinned_apart u sound pin file files its among =
    let one : 1 ≤ times file files = named file files among in
    let same : times file (block_files (pinned_blocks pin u.pins)) ≡ times file files = ap (times file) its in
    let within = pinned_within file pin u.pins in
    let used = sound.files.pinned file (omega (arith, one, same, within)) in
    let once = sound.files.once file in
    omega (arith, used, once)

pinned_used : (u : State) → StateIsSound u → (pin file : ℕ) (files : List ℕ) → block_files (pinned_blocks pin u.pins) ≡ files → is_among file files ≡ true → 1 ≤ uses file u
pinned_used u sound pin file files its among =
    let one : 1 ≤ times file files = named file files among in
    let same : times file (block_files (pinned_blocks pin u.pins)) ≡ times file files = ap (times file) its in
    let within = pinned_within file pin u.pins in
    let used = sound.files.pinned file (omega (arith, one, same, within)) in
    omega (arith, used)

-- a job's file has its use there
flush_apart : (u : State) → StateIsSound u → (file : ℕ) → 1 ≤ times file (flush_files u.flush) → times file (segment_files u.segments) ≡ 0
flush_apart u sound file used = let once = sound.files.once file in omega (arith, used, once)

compact_apart : (u : State) → StateIsSound u → (file : ℕ) → 1 ≤ times file (compaction_files u.compaction) → times file (segment_files u.segments) ≡ 0
compact_apart u sound file used = let once = sound.files.once file in omega (arith, used, once)

one_of : (file own : ℕ) → is_among file (own ∷ []) ≡ true → 1 ≤ times file (own ∷ [])
one_of file own among = named file (own ∷ []) among

in_flush : (file : ℕ) (flush : Option Flush) (job : Flush) → flush ≡ Some job → 1 ≤ times file (job.file ∷ []) → 1 ≤ times file (flush_files flush)
in_flush file flush job is one =
    let joined = times-append file (job.file ∷ []) (job.segment ∷ []) in
    subst (λ (o : Option Flush). 1 ≤ times file (flush_files o)) (sym is) (omega (arith, one, joined))

in_compaction : (file : ℕ) (compaction : Option Compaction) (job : Compaction) → compaction ≡ Some job → 1 ≤ times file (job.file ∷ []) → 1 ≤ times file (compaction_files compaction)
in_compaction file compaction job is one = subst (λ (o : Option Compaction). 1 ≤ times file (compaction_files o)) (sym is) one

by_head : (file own : ℕ) (files : List ℕ) (G : Type 0) → is_among file (own ∷ files) ≡ true → (is_among file (own ∷ []) ≡ true → G) → (is_among file files ≡ true → G) → G
by_head file own files G among here there = at (own == file) refl
  where
    at : (t : Bool) → (own == file) ≡ t → G
    at true e = here (rw e refl)
    at false e = there (let k : is_among file (own ∷ files) ≡ is_among file files = rw e refl in sym k ∙ among)

pub held_apart : (m : Machine) (hold : Hold) → StateIsSound m.state → OpenIn m hold → (file : ℕ) → is_among file (files_of hold) ≡ true → times file (segment_files m.state.segments) ≡ 0
held_apart m (OpenLook look) sound is file among = pinned_apart m.state sound look.pin file look.files is.its_files among
held_apart m (OpenFlush job) sound is file among =
    flush_apart m.state sound file (in_flush file m.state.flush is.job is.is_open (subst (λ (f : ℕ). 1 ≤ times file (f ∷ [])) (sym is.its_file) (one_of file job.file among)))
held_apart m (OpenCompact job) sound is file among =
    by_head file job.file job.files (times file (segment_files m.state.segments) ≡ 0) among
    (λ here. compact_apart m.state sound file (in_compaction file m.state.compaction is.job is.is_open (subst (λ (f : ℕ). 1 ≤ times file (f ∷ [])) (sym is.its_file) (one_of file job.file here))))
    (λ there. pinned_apart m.state sound job.pin file job.files is.its_files there)

-- what is held is used
pub held_used : (m : Machine) (hold : Hold) → StateIsSound m.state → OpenIn m hold → (file : ℕ) → is_among file (files_of hold) ≡ true → 1 ≤ uses file m.state
held_used m (OpenLook look) sound is file among = pinned_used m.state sound look.pin file look.files is.its_files among
held_used m (OpenFlush job) sound is file among =
    let used = in_flush file m.state.flush is.job is.is_open (subst (λ (f : ℕ). 1 ≤ times file (f ∷ [])) (sym is.its_file) (one_of file job.file among)) in omega (arith, used)
held_used m (OpenCompact job) sound is file among =
    by_head file job.file job.files (1 ≤ uses file m.state) among
    (λ here. let used = in_compaction file m.state.compaction is.job is.is_open (subst (λ (f : ℕ). 1 ≤ times file (f ∷ [])) (sym is.its_file) (one_of file job.file here)) in omega (arith, used))
    (λ there. pinned_used m.state sound job.pin file job.files is.its_files there)

-- what a filter refuses is not among what it leaves
pub none_left : (n : ℕ) (p : ℕ → Bool) (xs : List ℕ) → p n ≡ false → times n (filter p xs) ≡ 0
none_left n p xs refused = not_named n (filter p xs) (at (is_among n (filter p xs)) refl)
  where
    at : (t : Bool) → is_among n (filter p xs) ≡ t → is_among n (filter p xs) ≡ false
    at false e = e
    at true e = absurd (let bad : true ≡ false = sym (passes n p xs e) ∙ refused in cc)

-- a pinned file isn't free
pinned_kept : (u : State) (pin file : ℕ) (files : List ℕ) → block_files (pinned_blocks pin u.pins) ≡ files → is_among file files ≡ true → times file (free_files u) ≡ 0
pinned_kept u pin file files its among =
    let one : 1 ≤ times file files = named file files among in
    let same : times file (block_files (pinned_blocks pin u.pins)) ≡ times file files = ap (times file) its in
    let within = pinned_within file pin u.pins in
    none_left file (λ (f : ℕ). not (is_among f (pinned_files u.pins))) u.loose (ap not (is_named file (pinned_files u.pins) (omega (arith, one, same, within))))

-- and neither is the file of an open job
other_kept : (u : State) → StateIsSound u → (file : ℕ) → 1 ≤ times file (flush_files u.flush) + times file (compaction_files u.compaction) → times file (free_files u) ≡ 0
other_kept u sound file used =
    let once = sound.files.once file in
    let fewer = fewer_left file (λ (f : ℕ). not (is_among f (pinned_files u.pins))) u.loose in
    omega (arith, used, once, fewer)

-- what is held isn't among the loose files that no pin names
pub held_kept : (m : Machine) (hold : Hold) → StateIsSound m.state → OpenIn m hold → (file : ℕ) → is_among file (files_of hold) ≡ true → times file (free_files m.state) ≡ 0
held_kept m (OpenLook look) sound is file among = pinned_kept m.state look.pin file look.files is.its_files among
held_kept m (OpenFlush job) sound is file among =
    let used = in_flush file m.state.flush is.job is.is_open (subst (λ (f : ℕ). 1 ≤ times file (f ∷ [])) (sym is.its_file) (one_of file job.file among)) in
    other_kept m.state sound file (omega (arith, used))
held_kept m (OpenCompact job) sound is file among =
    by_head file job.file job.files (times file (free_files m.state) ≡ 0) among
    (λ here. let used = in_compaction file m.state.compaction is.job is.is_open (subst (λ (f : ℕ). 1 ≤ times file (f ∷ [])) (sym is.its_file) (one_of file job.file here)) in
    other_kept m.state sound file (omega (arith, used)))
    (λ there. pinned_kept m.state job.pin file job.files is.its_files there)
