-- How a compaction's task goes on as its block is written.
use Rattle.std.proofs.Common.{◌≡◌, ℕ, ◌+◌, ◌≤◌, ◌==◌, Bool, true, false, List, [], ◌∷◌, ◌++◌, length, take, drop, refl, sym, ap, subst, ◌∙◌, arith, if◌then◌else◌}
use Rattle.std.specs.Prelude.{IsTrue, ◌||◌}
use Rattle.std.specs.List.{flat_map}
use Rattle.std.proofs.lemmas.Bool.{eqb-true}
use Rattle.std.proofs.lemmas.List.{drop_all, length-take-le, take_all}
use Rattle.span_types.specs.declared.spans.Row.{Row}
use Rattle.span_types.specs.First.{IsFirstOf}
use Rattle.block_info.specs.InfoParts.{InfoParts}
use Rattle.block_format.specs.Blocks.{BlockHasInfo}
use Rattle.block_build.proofs.Firsts.{can_be_block}
use Rattle.store_model.specs.Event.Event.{WritePiece, CommitCompact}
use Rattle.store_model.specs.Event.{Reply as reply}
use Rattle.store_model.specs.Event.Reply.{Fine}
use Rattle.store_model.specs.State.{is_among}
use Rattle.store_state.specs.Given.{compact_of, info_files}
use Rattle.store_state.specs.Made.{Call, call}
use Rattle.store_state.specs.Meaning.{Meaning, IsOpen, Called}
use Rattle.store_state.specs.Replies.{write_refusal}
use Rattle.store_state.specs.Rounds.{begin_cause, write_cause}
use Rattle.store_state.specs.Shown.{rows_of}
use Rattle.store_state.specs.Written.{HasWritten, IsJoinedBlock}
use Rattle.store_state.specs.declared.errors.BeginError.{BeginError}
use Rattle.store_state.specs.declared.errors.BeginError.TheVariants as begin
use Rattle.store_state.specs.declared.errors.WriteError.{WriteError}
use Rattle.store_state.specs.declared.errors.WriteError.TheVariants as fails
use Rattle.store_state.specs.declared.jobs.CompactJob.{CompactJob}
use Rattle.store_state.specs.declared.jobs.JobFile.{JobFile}
use Rattle.store_state.specs.declared.rounds.Refusal.TheVariants.{Memory}
use Rattle.store_state.specs.declared.rounds.Round.{Round}
use Rattle.store_state.specs.declared.rounds.Round.TheVariants.{Did, Refused}
use Rattle.store_state.proofs.HoldLaws.{stays_open}
use Rattle.flusher.proofs.TaskLaws.{itself, outs_equal, take_whole}
use Rattle.flusher.proofs.TaskLaws.{take_more as take_twice}
use Rattle.compactor.specs.Rounds.{FoundBlocks, IsJoined, Job, Leads, Stage}
use Rattle.compactor.specs.Rounds.{Stage as stage}
use Rattle.compactor.specs.Rounds.Leads.{built, starved, written, unwritten, listed, unlisted, over}
use Rattle.compactor.specs.Tasks.{AreApart, IsReading, IsWriting, OneEvent, ShowsRead, ShowsWriting, Task, blocks_left, job_of}
use Rattle.compactor.specs.Tasks.Task.{Reading, Writing, Failing}
use Rattle.compactor.proofs.BlockLaws.{as_many, counts, rows_stay, some_rows}

-- ---- the new block

-- all blocks are read, and have as many rows as fit a block
pub record CanJoin (job : CompactJob) (parts : List (List Row)) : Type 0 where
  pub one_each : length parts ≡ length job.pin.blocks
  pub some : 1 ≤ length (flat_map (λ (rows : List Row). rows) parts)
  pub few : length (flat_map (λ (rows : List Row). rows) parts) ≤ 1048576

pub can_join : {P : Type 0} (meaning : Meaning P) (job : CompactJob) (parts : List (List Row)) (pages : ℕ) (bytes : List ℕ) (port : P) → IsReading meaning job parts pages bytes port → length job.pin.blocks ≤ length parts
    → CanJoin job parts
can_join meaning job parts pages bytes port is whole =
    let within = is.within in
    let two = is.few.two in
    let rows : rows_of job.pin.blocks ≤ 1048576 = is.few.rows in
    let each : length parts ≡ length job.pin.blocks = omega (arith, within, whole) in
    let size = counts job.pin.blocks parts is.counted each in
    record {
      one_each = each;
      some = some_rows job.pin.blocks parts is.counted (omega (arith, each, two));
      few = omega (arith, size, rows);
    }

told_joined : (shows : ℕ → List ℕ) (job : CompactJob) (parts : List (List Row)) (pages : ℕ) (read bytes : List ℕ) → ShowsRead shows job parts pages read → length parts ≡ length job.pin.blocks → job.out.written ≡ 0
    → ShowsWriting shows job parts bytes
told_joined shows job parts pages read bytes told each start = record {
  their_rows = λ all hold. (let many = as_many shows job.pin.blocks all hold in sym (told.so_far all hold ∙ take_all (length parts) all (omega (arith, each, many))));
  apart = subst (λ (infos : List InfoParts). AreApart job.out.file infos) (take_all (length parts) job.pin.blocks (omega (arith, each))) told.apart;
  so_far = told.empty ∙ sym (ap (λ (n : ℕ). take n bytes) start);
}

pub begins_writing : {P : Type 0} (meaning : Meaning P) (job : CompactJob) (parts : List (List Row)) (pages : ℕ) (read bytes : List ℕ) (info : InfoParts) (port : P) → IsReading meaning job parts pages read port
    → length job.pin.blocks ≤ length parts → IsJoined job.out.file job.level parts bytes info → IsWriting meaning job bytes info port
begins_writing meaning job parts pages read bytes info port is whole joined =
    let can = can_join meaning job parts pages read port is whole in
    let start = is.at_start in
    record {
      is_open = is.is_open;
      joins = is.few.four;
      parts = parts;
      one_each = can.one_each;
      some = can.some;
      few = can.few;
      block = joined;
      within = omega (arith, start);
      told = λ tells. told_joined (meaning.shows port) job parts pages read bytes (is.told tells) can.one_each is.at_start;
    }

-- ---- pieces

-- each block's file is as it was where the files that stay are, but for the job's own
apart_stay : (old new : ℕ → List ℕ) (own : ℕ) (piece : List ℕ) (infos : List InfoParts) (file : ℕ) → AreApart own infos → is_among file (info_files infos) ≡ true
    → new file ≡ (if own == file then old file ++ piece else old file) → new file ≡ old file
apart_stay old new own piece [] file apart among e = cc
apart_stay old new own piece (info ∷ infos) file apart among e =
    elim (info.file == file) as (λ (t : Bool). (info.file == file) ≡ t → (t || is_among file (info_files infos)) ≡ true → new file ≡ old file) [
      | true ↦ λ same h.
          e ∙ ap (λ (t : Bool). if t then old file ++ piece else old file) (ap (λ (f : ℕ). own == f) (sym (eqb-true info.file file same)) ∙ apart.0)
      | false ↦ λ other h. apart_stay old new own piece infos file apart.1 h e
    ] refl among

after_piece : {P : Type 0} (meaning : Meaning P) (old new : P) (job : CompactJob) (bytes : List ℕ) (info : InfoParts) (piece : List ℕ)
    → IsWriting meaning job bytes info old → Called meaning old (WritePiece job.out.number job.out.file piece) Fine new
    → piece ≡ take (length piece) (drop job.out.written bytes) → job.out.written + length piece ≤ length bytes
    → IsWriting meaning (record { out = record { number = job.out.number; file = job.out.file; written = job.out.written + length piece }; pin = job.pin; level = job.level }) bytes info new
after_piece meaning old new job bytes info piece is called part within = record {
  is_open = stays_open meaning old new _ _ (compact_of job) called is.is_open refl;
  joins = is.joins;
  parts = is.parts;
  one_each = is.one_each;
  some = is.some;
  few = is.few;
  block = is.block;
  within = within;
  told = λ tells.
      let before : IsTrue (meaning.tells old) = subst IsTrue called.telling tells in
      let told = is.told before in
      let own = job.out.file in
      record {
        their_rows = λ all hold. told.their_rows all
            (rows_stay (meaning.shows new) (meaning.shows old) job.pin.blocks all
            (λ file among. sym (apart_stay (meaning.shows old) (meaning.shows new) own piece job.pin.blocks file told.apart among
            (called.bytes before (compact_of job) is.is_open refl file (later (own == file) (is_among file (info_files job.pin.blocks)) among))))
            hold);
        apart = told.apart;
        so_far = called.bytes before (compact_of job) is.is_open refl own (ap (λ (t : Bool). t || is_among own (info_files job.pin.blocks)) (itself own))
            ∙ ap (λ (t : Bool). if t then meaning.shows old own ++ piece else meaning.shows old own) (itself own)
            ∙ ap (λ (shown : List ℕ). shown ++ piece) told.so_far
            ∙ ap (λ (more : List ℕ). take job.out.written bytes ++ more) part
            ∙ take_twice job.out.written (length piece) bytes;
      };
}
  where
    later : (b c : Bool) → c ≡ true → (b || c) ≡ true
    later true c e = refl
    later false c e = e

-- A piece that was written brings the job's file on.
pub goes_on : {P : Type 0} (meaning : Meaning P) (old new : P) (job : CompactJob) (bytes : List ℕ) (info : InfoParts) (piece : List ℕ) (out : JobFile)
    → IsWriting meaning job bytes info old → Called meaning old (WritePiece job.out.number job.out.file piece) Fine new
    → piece ≡ take (length piece) (drop job.out.written bytes) → job.out.written + length piece ≤ length bytes
    → out.number ≡ job.out.number → out.file ≡ job.out.file → out.written ≡ job.out.written + length piece
    → IsWriting meaning (record { out = out; pin = job.pin; level = job.level }) bytes info new
goes_on meaning old new job bytes info piece out is called part within hn hf hw =
    subst (λ (o : JobFile). IsWriting meaning (record { out = o; pin = job.pin; level = job.level }) bytes info new)
    (sym (outs_equal out (record { number = job.out.number; file = job.out.file; written = job.out.written + length piece }) hn hf hw))
    (after_piece meaning old new job bytes info piece is called part within)

-- A job stays open as its file's record moves on.
pub still_open : {P : Type 0} (meaning : Meaning P) (new : P) (job : CompactJob) (out : JobFile) → IsOpen meaning new (compact_of job)
    → out.number ≡ job.out.number → out.file ≡ job.out.file → IsOpen meaning new (compact_of (record { out = out; pin = job.pin; level = job.level }))
still_open meaning new job out there hn hf =
    subst (λ (o : JobFile). IsOpen meaning new (compact_of (record { out = o; pin = job.pin; level = job.level })))
    (sym (outs_equal out (record { number = job.out.number; file = job.out.file; written = out.written }) hn hf refl)) there

-- the job's file has what was written to it
pub has_written : (shows : ℕ → List ℕ) (job : CompactJob) (parts : List (List Row)) (bytes : List ℕ) → ShowsWriting shows job parts bytes → job.out.written ≤ length bytes → HasWritten shows job.out
has_written shows job parts bytes told within = sym (ap length told.so_far ∙ length-take-le job.out.written bytes within)

-- ---- the commit

-- the new block has rows, and no more than those that it joins
pub block_rows : {P : Type 0} (meaning : Meaning P) (job : CompactJob) (bytes : List ℕ) (info : InfoParts) (port : P) → IsWriting meaning job bytes info port → (1 ≤ info.rows) × (info.rows ≤ 1048576)
block_rows meaning job bytes info port is =
    let can = can_be_block (flat_map (λ (rows : List Row). rows) is.parts) is.block.firsts is.block.are_first is.some in
    let counted = is.block.counted in
    let some = can.some in
    let less = can.few in
    let few = is.few in
    (omega (arith, some, counted), omega (arith, less, counted, few))

-- what a compaction wrote whole may be listed
pub may_be_listed : {P : Type 0} (meaning : Meaning P) (job : CompactJob) (bytes : List ℕ) (info : InfoParts) (port : P) → IsWriting meaning job bytes info port
    → job.out.written ≡ length bytes → IsTrue (meaning.tells port) → IsJoinedBlock (meaning.shows port) (meaning.shows port job.out.file) info job.pin.blocks
may_be_listed meaning job bytes info port is whole tells others holds = record {
  firsts = is.block.firsts;
  are_first = subst (λ (parts : List (List Row)). IsFirstOf (flat_map (λ (rows : List Row). rows) parts) is.block.firsts) (sym ((is.told tells).their_rows others holds)) is.block.are_first;
  block = subst (λ (b : List ℕ). BlockHasInfo info b is.block.firsts) (sym ((is.told tells).so_far ∙ take_whole job.out.written bytes whole)) is.block.describes;
}

-- ---- what leads on

-- a call after which the round has ended
pub ends_in : (s : Stage) (c : Call) (r : Round) → Leads s (c ∷ []) r → (calls : List Call) (round : Round) → Leads (stage.Ended r) calls round → Leads s (c ∷ calls) round
ends_in s c r last calls round (over _) = last

-- Whatever is written first of the new block is the first event after the last page that was read.
pub from_built : {P : Type 0} (meaning : Meaning P) (old new : P) (job : CompactJob) (parts : List (List Row)) (pages : ℕ) (read bytes : List ℕ) (info : InfoParts) (after : Task)
    → length job.pin.blocks ≤ length parts → IsJoined job.out.file job.level parts bytes info → job.out.written ≡ 0 → OneEvent meaning (Writing job bytes info) old after new
    → OneEvent meaning (Reading job parts pages read) old after new
from_built meaning old new job parts pages read bytes info after whole joined start one = record {
  made = one.made;
  called = one.called;
  leads = λ calls round h.
      subst (λ (l : List InfoParts). Leads (stage.Reading (job_of job) parts l pages read) (one.made ∷ calls) round) (sym (drop_all (length parts) job.pin.blocks whole))
      (built (job_of job) parts pages read bytes info joined
      (subst (λ (w : ℕ). Leads (stage.Writing (job_of job) (drop w bytes) info.rows) (one.made ∷ calls) round) start (one.leads calls round h)));
}

-- A job that is given up out of memory.
pub from_starved : {P : Type 0} (meaning : Meaning P) (old new : P) (job : CompactJob) (parts : List (List Row)) (pages : ℕ) (read : List ℕ) (after : Task)
    → OneEvent meaning (Failing job Memory) old after new → OneEvent meaning (Reading job parts pages read) old after new
from_starved meaning old new job parts pages read after one = record {
  made = one.made;
  called = one.called;
  leads = λ calls round h. starved (job_of job) parts (blocks_left job parts) pages read (one.leads calls round h);
}

-- a piece that was written
pub leads_on : (job after : Job) (size : ℕ) (rest left piece : List ℕ) → after ≡ job → left ≡ drop 65536 rest → piece ≡ take 65536 rest → 1 ≤ length rest
    → (calls : List Call) (round : Round) → Leads (stage.Writing after left size) calls round
    → Leads (stage.Writing job rest size) (call (WritePiece job.number job.file piece) Fine ∷ calls) round
leads_on job after size rest left piece hj hl hp some calls round h =
    subst (λ (p : List ℕ). Leads (stage.Writing job rest size) (call (WritePiece job.number job.file p) Fine ∷ calls) round) (sym hp)
    (written job rest size some
    (subst (λ (x : Job). Leads (stage.Writing x (drop 65536 rest) size) calls round) hj
    (subst (λ (x : List ℕ). Leads (stage.Writing after x size) calls round) hl h)))

-- a piece that was refused
pub leads_out : (job : Job) (size n : ℕ) (rest piece : List ℕ) (why : WriteError) → n ≡ job.number → piece ≡ take 65536 rest → 1 ≤ length rest
    → (calls : List Call) (round : Round) → Leads (stage.Failing n (write_cause why)) calls round
    → Leads (stage.Writing job rest size) (call (WritePiece job.number job.file piece) (reply.Refused (write_refusal why)) ∷ calls) round
leads_out job size n rest piece why hn hp some calls round h =
    subst (λ (p : List ℕ). Leads (stage.Writing job rest size) (call (WritePiece job.number job.file p) (reply.Refused (write_refusal why)) ∷ calls) round) (sym hp)
    (unwritten job rest size why some (subst (λ (x : ℕ). Leads (stage.Failing x (write_cause why)) calls round) hn h))

pub same_job : (job : CompactJob) (out : JobFile) → out.number ≡ job.out.number → out.file ≡ job.out.file → job_of (record { out = out; pin = job.pin; level = job.level }) ≡ job_of job
same_job job out hn hf =
    ap (λ (o : JobFile). job_of (record { out = o; pin = job.pin; level = job.level }))
    (outs_equal out (record { number = job.out.number; file = job.out.file; written = out.written }) hn hf refl)

-- the commit
pub leads_listed : (job : Job) (size : ℕ) (rest : List ℕ) → rest ≡ [] → Leads (stage.Writing job rest size) (call (CommitCompact job.number size) Fine ∷ []) (Did (length job.blocks) size)
leads_listed job size rest none = subst (λ (x : List ℕ). Leads (stage.Writing job x size) (call (CommitCompact job.number size) Fine ∷ []) (Did (length job.blocks) size)) (sym none) (listed job size)

pub leads_unlisted : (job : Job) (size : ℕ) (rest : List ℕ) (why : WriteError) → rest ≡ [] → Leads (stage.Writing job rest size) (call (CommitCompact job.number size) (reply.Refused (write_refusal why)) ∷ []) (Refused (write_cause why))
leads_unlisted job size rest why none = subst (λ (x : List ℕ). Leads (stage.Writing job x size) (call (CommitCompact job.number size) (reply.Refused (write_refusal why)) ∷ []) (Refused (write_cause why))) (sym none) (unlisted job size why)

-- ---- refusals that find no block to be none

pub begin_found : (why : BeginError) → FoundBlocks (Refused (begin_cause why))
begin_found (begin.ReadOnly faults) = tt
begin_found (begin.Busy job) = tt
begin_found (begin.FilesSpent next) = tt
begin_found begin.Fault = tt
begin_found begin.Memory = tt

pub write_found : (why : WriteError) → FoundBlocks (Refused (write_cause why))
write_found (fails.ReadOnly faults) = tt
write_found fails.Fault = tt
