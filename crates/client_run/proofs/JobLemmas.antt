-- What a flush and a compaction stand on stays after calls that aren't their own.
use Rattle.std.proofs.Common.{◌≡◌, ℕ, List, [], ◌∷◌, Bool, true, false, sym, ◌∙◌, ap, subst}
use Rattle.std.specs.Prelude.{IsTrue, ◌||◌}
use Rattle.compactor.proofs.BlockLaws.{StaySame, first_stays, rest_stays, rows_stay}
use Rattle.compactor.proofs.ReadLaws.{blocks_told, told_stays}
use Rattle.compactor.specs.Tasks.{ShowsWriting, Task as CompactTask}
use Rattle.compactor.specs.Tasks as compaction
use Rattle.compactor.specs.Tasks.{Task as compacting}
use Rattle.flusher.specs.Tasks.{Task as FlushTask}
use Rattle.flusher.specs.Tasks as flush
use Rattle.flusher.specs.Tasks.{Task as flushing}
use Rattle.span_types.specs.declared.spans.Row.{Row}
use Rattle.store_model.proofs.Numbers.{equal_itself}
use Rattle.store_model.specs.Event.{Event as event, Reply as reply, FlushParts, CompactParts}
use Rattle.store_model.specs.Holds.{Hold, ends, files_of, holds_after}
use Rattle.store_model.specs.Holds.Hold.{OpenCompact, OpenFlush}
use Rattle.store_model.specs.State.{is_among}
use Rattle.store_state.proofs.HoldLaws.{stays_open}
use Rattle.store_state.specs.Given.{compact_of, flush_of, info_files, flush_parts, compact_parts}
use Rattle.store_state.specs.Meaning.{Meaning, Called, IsOpen, Rewritten}
use Rattle.store_state.specs.declared.jobs.CompactJob.{CompactJob}
use Rattle.store_state.specs.declared.jobs.FlushJob.{FlushJob}
use Rattle.client_run.specs.Taken.{FindBlocks, Fit}
use Rattle.client_run.specs.declared.tasks.Tasks.{Tasks}

-- the call writes nothing to the file
abbrev pub Untouched : event → reply → ℕ → Type 0
Untouched e r file = (before after : List ℕ) → Rewritten e r file before after → after ≡ before

abbrev pub EndsNoFlush : event → reply → Type 0
EndsNoFlush e r = (job : FlushParts) → ends e r (OpenFlush job) ≡ false

abbrev pub EndsNoCompaction : event → reply → Type 0
EndsNoCompaction e r = (job : CompactParts) → ends e r (OpenCompact job) ≡ false

-- the call writes nothing to a file of an open compaction
abbrev pub LeavesBlocks : {P : Type 0} → Meaning P → P → event → reply → Type 0
LeavesBlocks meaning port e r = (job : CompactJob) → IsOpen meaning port (compact_of job) → (file : ℕ) → is_among file (files_of (compact_of job)) ≡ true → Untouched e r file

-- a file of what is open is as it was after a call that doesn't write to it
same_file : {P : Type 0} (meaning : Meaning P) (old new : P) (e : event) (r : reply) (hold : Hold) (file : ℕ) → Called meaning old e r new → ends e r hold ≡ false
    → Untouched e r file → IsOpen meaning old hold → is_among file (files_of hold) ≡ true → IsTrue (meaning.tells new) → meaning.shows new file ≡ meaning.shows old file
same_file meaning old new e r hold file called none same is_open among tells =
    same (meaning.shows old file) (meaning.shows new file) (called.bytes (subst IsTrue called.telling tells) hold is_open none file among)

among_itself : (file : ℕ) (files : List ℕ) → is_among file (file ∷ files) ≡ true
among_itself file files = ap (λ (t : Bool). t || is_among file files) (equal_itself file)

-- ---- a flush

pub flush_stays : {P : Type 0} (meaning : Meaning P) (old new : P) (e : event) (r : reply) (task : FlushTask) → Called meaning old e r new → EndsNoFlush e r
    → ((job : FlushJob) → IsOpen meaning old (flush_of job) → Untouched e r job.out.file)
    → ((held : List Hold) × meaning.holds old held) → flush.Fits meaning task old → flush.Fits meaning task new
flush_stays meaning old new e r flushing.Fresh called none same holds fits = (holds_after e r holds.0, called.holds holds.0 holds.1)
flush_stays meaning old new e r (flushing.Begun job) called none same holds fits = record {
  is_open = stays_open meaning old new e r (flush_of job) called fits.is_open (none (flush_parts job));
  at_start = fits.at_start;
  some = fits.some;
  few = fits.few;
  empty = λ tells.
      same_file meaning old new e r (flush_of job) job.out.file called (none (flush_parts job)) (same job fits.is_open) fits.is_open
      (among_itself job.out.file []) tells
      ∙ fits.empty (subst IsTrue called.telling tells);
}
flush_stays meaning old new e r (flushing.Writing job bytes info) called none same holds fits = record {
  is_open = stays_open meaning old new e r (flush_of job) called fits.is_open (none (flush_parts job));
  some = fits.some;
  few = fits.few;
  block = fits.block;
  within = fits.within;
  so_far = λ tells.
      same_file meaning old new e r (flush_of job) job.out.file called (none (flush_parts job)) (same job fits.is_open) fits.is_open
      (among_itself job.out.file []) tells
      ∙ fits.so_far (subst IsTrue called.telling tells);
}
flush_stays meaning old new e r (flushing.Failing job why) called none same holds fits =
    stays_open meaning old new e r (flush_of job) called fits (none (flush_parts job))
flush_stays meaning old new e r (flushing.Ended round) called none same holds fits = fits

-- ---- a compaction

written_stays : (old new : ℕ → List ℕ) (job : CompactJob) (parts : List (List Row)) (bytes : List ℕ) → StaySame old new (job.out.file ∷ info_files job.pin.blocks)
    → ShowsWriting old job parts bytes → ShowsWriting new job parts bytes
written_stays old new job parts bytes stay told = record {
  their_rows = λ all are.
      told.their_rows all (rows_stay new old job.pin.blocks all (λ file among. sym (rest_stays old new job.out.file (info_files job.pin.blocks) stay file among)) are);
  apart = told.apart;
  so_far = first_stays old new job.out.file (info_files job.pin.blocks) stay ∙ told.so_far;
}

pub compaction_stays : {P : Type 0} (meaning : Meaning P) (old new : P) (e : event) (r : reply) (task : CompactTask) → Called meaning old e r new → EndsNoCompaction e r
    → LeavesBlocks meaning old e r → ((held : List Hold) × meaning.holds old held) → compaction.Fits meaning task old → compaction.Fits meaning task new
compaction_stays meaning old new e r compacting.Fresh called none same holds fits = (holds_after e r holds.0, called.holds holds.0 holds.1)
compaction_stays meaning old new e r (compacting.Reading job parts pages bytes) called none same holds fits =
    let ends_not = none (compact_parts job) in
    record {
      is_open = stays_open meaning old new e r (compact_of job) called fits.is_open ends_not;
      at_start = fits.at_start;
      few = fits.few;
      within = fits.within;
      counted = fits.counted;
      page = fits.page;
      told = λ tells.
          told_stays (meaning.shows old) (meaning.shows new) job parts pages bytes
          (λ file among. same_file meaning old new e r (compact_of job) file called ends_not (same job fits.is_open file among) fits.is_open among tells)
          (fits.told (subst IsTrue called.telling tells));
    }
compaction_stays meaning old new e r (compacting.Writing job bytes info) called none same holds fits =
    let ends_not = none (compact_parts job) in
    record {
      is_open = stays_open meaning old new e r (compact_of job) called fits.is_open ends_not;
      joins = fits.joins;
      parts = fits.parts;
      one_each = fits.one_each;
      some = fits.some;
      few = fits.few;
      block = fits.block;
      within = fits.within;
      told = λ tells.
          written_stays (meaning.shows old) (meaning.shows new) job fits.parts bytes
          (λ file among. same_file meaning old new e r (compact_of job) file called ends_not (same job fits.is_open file among) fits.is_open among tells)
          (fits.told (subst IsTrue called.telling tells));
    }
compaction_stays meaning old new e r (compacting.Failing job why) called none same holds fits =
    stays_open meaning old new e r (compact_of job) called fits (none (compact_parts job))
compaction_stays meaning old new e r (compacting.Ended round) called none same holds fits = fits

-- A call that isn't the compaction's own changes none of the blocks that it reads.
pub finds_after : {P : Type 0} (meaning : Meaning P) (old new : P) (e : event) (r : reply) (task : CompactTask) → Called meaning old e r new → EndsNoCompaction e r
    → LeavesBlocks meaning old e r → compaction.Fits meaning task old → compaction.FindsBlocks meaning task old → compaction.FindsBlocks meaning task new
finds_after meaning old new e r compacting.Fresh called none same fits found = tt
finds_after meaning old new e r (compacting.Reading job parts pages bytes) called none same fits are = λ tells.
    let ends_not = none (compact_parts job) in
    blocks_told (meaning.shows old) (meaning.shows new) job
    (λ file among. same_file meaning old new e r (compact_of job) file called ends_not (same job fits.is_open file among) fits.is_open among tells)
    (are (subst IsTrue called.telling tells))
finds_after meaning old new e r (compacting.Writing job bytes info) called none same fits found = found
finds_after meaning old new e r (compacting.Failing job why) called none same fits found = λ tells. found (subst IsTrue called.telling tells)
finds_after meaning old new e r (compacting.Ended round) called none same fits found = λ tells. found (subst IsTrue called.telling tells)

-- ---- both

-- the call ends no job, and writes to no file
pub record LeavesJobs (e : event) (r : reply) : Type 0 where
  pub flush : EndsNoFlush e r
  pub compaction : EndsNoCompaction e r
  pub files : (file : ℕ) → Untouched e r file

pub still_fit : {P : Type 0} (meaning : Meaning P) (old new : P) (e : event) (r : reply) (tasks : Tasks) → Called meaning old e r new → LeavesJobs e r
    → ((held : List Hold) × meaning.holds old held) → Fit meaning tasks old → Fit meaning tasks new
still_fit meaning old new e r tasks called leaves holds fit = (
  flush_stays meaning old new e r tasks.flush called leaves.flush (λ job is_open. leaves.files job.out.file) holds fit.0,
  compaction_stays meaning old new e r tasks.compaction called leaves.compaction (λ job is_open file among. leaves.files file) holds fit.1,
)

pub still_finds : {P : Type 0} (meaning : Meaning P) (old new : P) (e : event) (r : reply) (tasks : Tasks) → Called meaning old e r new → LeavesJobs e r
    → Fit meaning tasks old → FindBlocks meaning tasks old → FindBlocks meaning tasks new
still_finds meaning old new e r tasks called leaves fit find =
    (find.0, finds_after meaning old new e r tasks.compaction called leaves.compaction (λ job is_open file among. leaves.files file) fit.1 find.1)
