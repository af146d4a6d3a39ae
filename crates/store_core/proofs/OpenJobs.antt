-- The open flush, as each machine has it that a core's memory shows.
use Rattle.std.proofs.Common.{◌≡◌, ◌≢◌, inl, inr, ℕ, ◌+◌, ◌<◌, ◌≤◌, List, [], ◌∷◌, Some, None, Option, IfSome, true, refl, sym, ◌∙◌, ap, subst, arith}
use Rattle.std.proofs.lemmas.Bool.{cases_lt}
use Rattle.disk_model.specs.Images.{Image, bytes_of}
use Rattle.disk_model.specs.Crash.{OnlyBytes}
use Rattle.head_log.specs.Stands.{SegmentHolds}
use Rattle.store_model.specs.Event.{CompactParts}
use Rattle.store_model.specs.State.{Flush, flush_files, compaction_files, is_among}
use Rattle.store_model.specs.Sound.{times, StateIsSound}
use Rattle.store_model.specs.Holds.{Hold, OpenIn, IsOpenCompact, files_of}
use Rattle.store_model.specs.Step.{Machine}
use Rattle.store_model.proofs.Numbers.{times-append, times_itself}
use Rattle.store_state.specs.Given.{IsJobOf}
use Rattle.store_state.specs.Given.IsJobOf.{OfFlush, OfCompact}
use Rattle.store_state.specs.Loose.{AreFilesOf}
use Rattle.store_state.specs.declared.jobs.JobFile.{JobFile}
use Rattle.store_core.specs.Jobs.{ShowsFlush}
use Rattle.store_files.specs.Loose.{IsSpare}
use Rattle.store_core.specs.declared.jobs.OpenFlush.{OpenFlush}
use Rattle.store_core.specs.declared.state.CoreState.{CoreState}
use Rattle.store_core.specs.Cores.{HasState}
use Rattle.store_core.proofs.HeldFiles.{held_used}
use Rattle.store_core.proofs.OpenCompactions.{IsCompactionHere, compaction_here, spare_compaction, file_of_compaction}

some_is : (a b : Flush) → Some a ≡ Some b → a ≡ b
some_is a b is = cc

mine_is : (a b : OpenFlush) → Some a ≡ Some b → a ≡ b
mine_is a b is = cc

-- the flush with this number and file is open, and the core knows it
pub record IsOpenHere (core : CoreState) (m : Machine) (number file : ℕ) : Type 0 where
  pub mine : OpenFlush
  pub known : core.jobs.flush ≡ Some mine
  pub job : Flush
  pub is_open : m.state.flush ≡ Some job
  pub its_number : job.number ≡ number
  pub its_file : job.file ≡ file
  pub files : AreFilesOf mine.files job

shown_is : (known : Option OpenFlush) (flush : Option Flush) (job : Flush) → ShowsFlush known flush → flush ≡ Some job
    → (mine : OpenFlush) × (known ≡ Some mine) × (job.number ≡ mine.number) × AreFilesOf mine.files job
shown_is None flush job none is = absurd (let bad : None ≡ Some job = sym none ∙ is in cc)
shown_is (Some mine) flush job shown is =
    let e : shown.0 ≡ job = some_is shown.0 job (sym shown.1 ∙ is) in
    (mine, refl, subst (λ (j : Flush). j.number ≡ mine.number) e shown.2, subst (λ (j : Flush). AreFilesOf mine.files j) e shown.3)

pub open_here : (core : CoreState) (m0 m : Machine) (number file : ℕ) (job : Flush) → HasState core m0 → m0.state.flush ≡ Some job → job.number ≡ number → job.file ≡ file → HasState core m → IsOpenHere core m number file
open_here core m0 m number file job its is its_number its_file has =
    let there = shown_is core.jobs.flush m0.state.flush job its.flush is in
    let here : ShowsFlush (Some there.0) m.state.flush = subst (λ (k : Option OpenFlush). ShowsFlush k m.state.flush) there.1 has.flush in
    record {
      mine = there.0;
      known = there.1;
      job = here.0;
      is_open = here.1;
      its_number = here.2 ∙ sym there.2 ∙ its_number;
      its_file = sym here.3.block ∙ there.3.block ∙ its_file;
      files = here.3;
    }

-- its files are spare ones of the list
pub spare_files : (core : CoreState) (m : Machine) (number file : ℕ) → HasState core m → (here : IsOpenHere core m number file)
    → IsSpare core.list here.mine.files.block × IsSpare core.list here.mine.files.segment
spare_files core m number file has here =
    subst (λ (k : Option OpenFlush). IfSome k (λ known. IsSpare core.list known.files.block × IsSpare core.list known.files.segment)) here.known has.jobs.flush

pub spare_file : (core : CoreState) (m : Machine) (number file : ℕ) → HasState core m → IsOpenHere core m number file → IsSpare core.list file
spare_file core m number file has here = subst (λ (f : ℕ). IsSpare core.list f) (here.files.block ∙ here.its_file) (spare_files core m number file has here).0

-- they are two
two_files : (file segment : ℕ) → file ≡ segment → 2 ≤ times file (file ∷ segment ∷ [])
two_files file segment is =
    let one = times_itself file in
    let joined = times-append file (file ∷ []) (segment ∷ []) in
    let other : times file (segment ∷ []) ≡ 1 = subst (λ (n : ℕ). times file (n ∷ []) ≡ 1) is one in
    omega (arith, one, joined, other)

pub files_apart : (core : CoreState) (m : Machine) (number file : ℕ) → StateIsSound m.state → (here : IsOpenHere core m number file) → here.mine.files.segment ≢ file
files_apart core m number file sound here is =
    let once = sound.files.once here.job.file in
    let same : here.job.file ≡ here.job.segment = here.its_file ∙ sym is ∙ here.files.segment in
    let two : 2 ≤ times here.job.file (flush_files m.state.flush) =
    subst (λ (o : Option Flush). 2 ≤ times here.job.file (flush_files o)) (sym here.is_open) (two_files here.job.file here.job.segment same) in
    absurd (omega (arith, once, two))

-- ---- the new segment

pub fresh_moved : (known : Option OpenFlush) (held later : Image) (may_leave may_later : Image → Type 0)
    → ((mine : OpenFlush) → known ≡ Some mine → bytes_of later mine.files.segment ≡ bytes_of held mine.files.segment)
    → ((mine : OpenFlush) → known ≡ Some mine → (bytes : List ℕ) → OnlyBytes mine.files.segment bytes may_leave → OnlyBytes mine.files.segment bytes may_later)
    → IfSome known (λ mine. ((first : ℕ) → SegmentHolds first [] 1 (bytes_of held mine.files.segment)) × OnlyBytes mine.files.segment (bytes_of held mine.files.segment) may_leave)
    → IfSome known (λ mine. ((first : ℕ) → SegmentHolds first [] 1 (bytes_of later mine.files.segment)) × OnlyBytes mine.files.segment (bytes_of later mine.files.segment) may_later)
fresh_moved None held later may_leave may_later same images was = tt
fresh_moved (Some mine) held later may_leave may_later same images was = (
  λ first. subst (λ (b : List ℕ). SegmentHolds first [] 1 b) (sym (same mine refl)) (was.0 first),
  subst (λ (b : List ℕ). OnlyBytes mine.files.segment b may_later) (sym (same mine refl)) (images mine refl (bytes_of held mine.files.segment) was.1),
)

-- the segment's file, where the core knows the flush
pub segment_of_known : (core : CoreState) (m : Machine) (mine : OpenFlush) → HasState core m → core.jobs.flush ≡ Some mine → 1 ≤ times mine.files.segment (flush_files m.state.flush)
segment_of_known core m mine has known =
    let here : ShowsFlush (Some mine) m.state.flush = subst (λ (k : Option OpenFlush). ShowsFlush k m.state.flush) known has.flush in
    let one = times_itself here.0.segment in
    let joined = times-append here.0.segment (here.0.file ∷ []) (here.0.segment ∷ []) in
    let there : 1 ≤ times here.0.segment (flush_files m.state.flush) = subst (λ (o : Option Flush). 1 ≤ times here.0.segment (flush_files o)) (sym here.1) (omega (arith, one, joined)) in
    subst (λ (n : ℕ). 1 ≤ times n (flush_files m.state.flush)) (sym here.3.segment) there

-- ---- the file of an open job of either kind

-- It is a spare one of the list, and not the new segment of an open flush.
pub record IsJobFile (core : CoreState) (file : ℕ) : Type 0 where
  pub spare : IsSpare core.list file
  pub apart : (m : Machine) → HasState core m → StateIsSound m.state → (mine : OpenFlush) → core.jobs.flush ≡ Some mine → mine.files.segment ≢ file
  pub used : (m : Machine) → HasState core m → 1 ≤ times file (flush_files m.state.flush) + times file (compaction_files m.state.compaction)

flush_file : (core : CoreState) (m0 : Machine) (number file : ℕ) (job : Flush) → HasState core m0 → m0.state.flush ≡ Some job → job.number ≡ number → job.file ≡ file → IsJobFile core file
flush_file core m0 number file job its is its_number its_file = record {
  spare = spare_file core m0 number file its (open_here core m0 m0 number file job its is its_number its_file its);
  apart = λ m has sound mine known same.
      let here = open_here core m0 m number file job its is its_number its_file has in
      files_apart core m number file sound here (subst (λ (k : OpenFlush). k.files.segment ≡ file) (mine_is mine here.mine (sym known ∙ here.known)) same);
  used = λ m has.
      let here = open_here core m0 m number file job its is its_number its_file has in
      let joined = times-append file (here.job.file ∷ []) (here.job.segment ∷ []) in
      let one : times file (here.job.file ∷ []) ≡ 1 = ap (λ (n : ℕ). times file (n ∷ [])) here.its_file ∙ times_itself file in
      let whole : times file (flush_files m.state.flush) ≡ times file (here.job.file ∷ here.job.segment ∷ []) = ap (λ (o : Option Flush). times file (flush_files o)) here.is_open in
      omega (arith, joined, one, whole);
}

-- a compaction's file has no other use
compact_apart : (core : CoreState) (m : Machine) (number file level pin : ℕ) (files : List ℕ) → HasState core m → StateIsSound m.state → IsCompactionHere core m number file level pin files
    → (mine : OpenFlush) → core.jobs.flush ≡ Some mine → mine.files.segment ≢ file
compact_apart core m number file level pin files has sound here mine known same =
    let segment = segment_of_known core m mine has known in
    let compaction : 1 ≤ times mine.files.segment (compaction_files m.state.compaction) =
    subst (λ (f : ℕ). 1 ≤ times f (compaction_files m.state.compaction)) (here.its_file ∙ sym same) (file_of_compaction core m here.mine has here.known) in
    let once = sound.files.once mine.files.segment in
    absurd (omega (arith, segment, compaction, once))

compact_file : (core : CoreState) (m0 : Machine) (mine : CompactParts) → HasState core m0 → IsOpenCompact m0 mine → IsJobFile core mine.file
compact_file core m0 mine its is =
    let here0 = compaction_here core m0 m0 mine.number mine.file mine.level mine.pin mine.files its is its in
    record {
      spare = subst (λ (f : ℕ). IsSpare core.list f) here0.its_file (spare_compaction core m0 here0.mine its here0.known);
      used = λ m has.
          let here = compaction_here core m0 m mine.number mine.file mine.level mine.pin mine.files its is has in
          let own = subst (λ (f : ℕ). 1 ≤ times f (compaction_files m.state.compaction)) here.its_file (file_of_compaction core m here.mine has here.known) in
          omega (arith, own);
      apart = λ m has sound. compact_apart core m mine.number mine.file mine.level mine.pin mine.files has sound (compaction_here core m0 m mine.number mine.file mine.level mine.pin mine.files its is has);
    }

pub job_file : (core : CoreState) (m0 : Machine) (out : JobFile) → HasState core m0 → IsJobOf out (OpenIn m0) → IsJobFile core out.file
job_file core m0 out its (OfFlush mine number file is) = flush_file core m0 out.number out.file is.job its is.is_open (is.its_number ∙ number) (is.its_file ∙ file)
job_file core m0 out its (OfCompact mine number file is) = subst (λ (f : ℕ). IsJobFile core f) file (compact_file core m0 mine its is)

-- ---- a file that is held was given out

pub held_low : (m : Machine) (hold : Hold) → StateIsSound m.state → OpenIn m hold → (file : ℕ) → is_among file (files_of hold) ≡ true → file < m.state.next_file
held_low m hold sound is_open file among = elim (cases_lt file m.state.next_file) [
  | inl below ↦ below
  | inr above ↦ absurd (let used = held_used m hold sound is_open file among in let none = sound.files.new file above in omega (arith, used, none))
]
