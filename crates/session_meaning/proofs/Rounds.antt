-- The calls of a round make of the store what a flush or a compaction does.
use Rattle.std.proofs.Common.{◌≡◌, ℕ, ◌+◌, ◌||◌, Bool, true, false, List, [], ◌∷◌, ◌++◌, length, None, refl, sym, ◌∙◌, ap, subst, take, drop}
use Rattle.std.specs.Prelude.{⊤}
use Rattle.std.proofs.lemmas.List.{length-map}
use Rattle.span_types.specs.declared.spans.Row.{Row}
use Rattle.block_info.specs.InfoParts.{InfoParts}
use Rattle.compactor.specs.Rounds.{IsCompactRound, Leads as CompactLeads, Stage as CompactStage, parts_of}
use Rattle.compactor.specs.Rounds.{Job as Joining}
use Rattle.compactor.specs.Rounds.{Leads as joins, Stage as joining}
use Rattle.flusher.specs.Rounds.{IsFlushRound, Leads, Stage}
use Rattle.flusher.specs.Rounds.{Leads as leads, Stage as stage}
use Rattle.store_model.specs.Event.{Event as event, Reply as reply, Refusal as refusal}
use Rattle.store_model.specs.Event.Event.{BeginCompact, BeginFlush, DropCompact, DropFlush, ReadPage, WritePiece}
use Rattle.store_model.specs.Event.Reply.{Fine, Flushing, Page}
use Rattle.store_model.specs.State.{is_among}
use Rattle.store_model.specs.Step.{Machine}
use Rattle.store_model.proofs.Numbers.{equal_itself}
use Rattle.store_state.specs.Given.{info_files}
use Rattle.store_state.specs.Made.{Call, call}
use Rattle.store_state.specs.Replies.{begin_refusal, write_refusal}
use Rattle.store_state.specs.Rounds.{write_cause}
use Rattle.store_state.specs.declared.errors.WriteError.{WriteError}
use Rattle.store_state.specs.declared.rounds.Refusal.TheVariants as cause
use Rattle.store_state.specs.declared.rounds.Round.{Round}
use Rattle.store_state.specs.declared.rounds.Round.TheVariants.{Did, Refused}
use Rattle.session_meaning.specs.Answering.{CallsLead}
use Rattle.session_meaning.specs.At.{At, IsStep, IsStill}
use Rattle.session_meaning.specs.Rounds.{IsEnded, IsFlushed, IsRound, IsSized, Job, blocks_of, commit_of, given}
use Rattle.session_meaning.specs.Rounds.{IsEnded as ended, IsRound as round_of}
use Rattle.session_meaning.specs.Rounds.Job.{OfBlocks, OfRows}
use Rattle.session_meaning.proofs.RoundSteps.{IsBegin, IsWrite, begun, commits, piece_written, write_failed}
use Rattle.session_meaning.proofs.RoundSteps.IsBegin.{OfCompaction, OfFlush}
use Rattle.session_meaning.proofs.RoundSteps.IsWrite.{OfPiece}
use Rattle.session_meaning.proofs.Steps.{first_step, happens_writes, one_step, read_still, still_itself, still_twice}

abbrev pub Writes : At → Type 0
Writes at = at.machine.read_only ≡ None

pub still_writes : (begun_at now : At) → IsStill begun_at now → Writes begun_at → Writes now
still_writes begun_at now still writes = ap (λ (m : Machine). m.read_only) still.0 ∙ writes

-- a store that has begun a job writes
pub begun_writes : (begin : event) → IsBegin begin → (before begun_at : At) (job : Job) → IsStep before begin (given job) begun_at → Writes begun_at
begun_writes begin is before begun_at job step =
    let found = begun begin is before.faults begun_at.faults before.machine begun_at.machine job step.1 in
    happens_writes before.machine begun_at.machine begin (given job) found.1 ∙ found.0.writes

still_more : (begun_at now next : At) (number file : ℕ) (bytes : List ℕ) → IsStill begun_at now → IsStep now (WritePiece number file bytes) Fine next → IsStill begun_at next
still_more begun_at now next number file bytes still step =
    still_twice begun_at now next still (piece_written now.faults next.faults now.machine next.machine number file bytes step.1, step.0, step.2)

-- the step of a write that was refused, where the store writes
faulted : (e : event) → IsWrite e → (begun_at now next : At) (why : WriteError) → Writes begun_at → IsStill begun_at now → IsStep now e (reply.Refused (write_refusal why)) next
    → IsStep now e (reply.Refused refusal.Fault) next × (write_cause why ≡ cause.Fault)
faulted e is begun_at now next why writes still step =
    let fault = write_failed e is now.faults next.faults now.machine next.machine why (still_writes begun_at now still writes) step.1 in (
      subst (λ (w : WriteError). IsStep now e (reply.Refused (write_refusal w)) next) fault step,
      ap write_cause fault,
    )

-- A block is listed, or the disk fails as it is to be.
commits_well : (job : Job) (size : ℕ) (begun_at now after : At) → IsSized job size → IsStill begun_at now → CallsLead now (call (commit_of job size) Fine ∷ []) after
    → (round : Round) → round ≡ Did (blocks_of job) size → IsEnded job begun_at round after
commits_well job size begun_at now after sized still lead round is = ended.listed size now sized still (one_step now after (commit_of job size) Fine lead) is

commits_not : (job : Job) (size : ℕ) (why : WriteError) (begun_at now after : At) → Writes begun_at → IsSized job size → IsStill begun_at now
    → CallsLead now (call (commit_of job size) (reply.Refused (write_refusal why)) ∷ []) after → IsEnded job begun_at (Refused (write_cause why)) after
commits_not job size why begun_at now after writes sized still lead =
    let step = faulted (commit_of job size) (commits job size) begun_at now after why writes still (one_step now after (commit_of job size) (reply.Refused (write_refusal why)) lead) in
    ended.unlisted size now sized still step.0 (ap Refused step.1)

-- ---- a flush

-- What the calls from a stage on make of a store that is at that stage.
abbrev Does : Stage → List Call → Round → Type 0
Does stage.Fresh calls round = (before after : At) → CallsLead before calls after → IsRound BeginFlush before round after
Does (stage.Begun number file rows) calls round = (begun_at after : At) → Writes begun_at → CallsLead begun_at calls after → IsEnded (OfRows (record { number = number; file = file; rows = rows })) begun_at round after
Does (stage.Writing number file bytes size) calls round =
    (rows : List Row) (begun_at now after : At) → Writes begun_at → IsSized (OfRows (record { number = number; file = file; rows = rows })) size → IsStill begun_at now → CallsLead now calls after
    → IsEnded (OfRows (record { number = number; file = file; rows = rows })) begun_at round after
Does (stage.Failing number why) calls round = (now after : At) → CallsLead now calls after → IsStep now (DropFlush number) Fine after × (round ≡ Refused why)
Does (stage.Ended last) calls round = ⊤

leads_does : (at : Stage) (calls : List Call) (round : Round) → Leads at calls round → Does at calls round
leads_does at calls round leads.nothing = λ before after lead. round_of.nothing (one_step before after BeginFlush reply.Nothing lead) refl
leads_does at calls round (leads.no_job why) = λ before after lead. round_of.no_job why (one_step before after BeginFlush (reply.Refused (begin_refusal why)) lead) refl
leads_does at calls round (leads.job {calls = cs} {round = r} number file rows rest) = λ before after lead.
    let s = first_step before after BeginFlush (Flushing (record { number = number; file = file; rows = rows })) cs lead in
    let on = leads_does (stage.Begun number file rows) cs r rest in
    round_of.job (OfRows (record { number = number; file = file; rows = rows })) s.0 s.1 (on s.0 after (begun_writes BeginFlush OfFlush before s.0 (OfRows (record { number = number; file = file; rows = rows })) s.1) s.2)
leads_does at calls round (leads.starved number file rows) = λ begun_at after writes lead.
    ended.given_up cause.Memory begun_at tt (still_itself begun_at) (one_step begun_at after (DropFlush number) Fine lead) refl
leads_does at calls round (leads.built {calls = cs} {round = r} number file rows bytes info block rest) = λ begun_at after writes lead.
    let on = leads_does (stage.Writing number file bytes info.rows) cs r rest in
    on rows begun_at begun_at after writes (block.firsts, block.are_first, block.counted) (still_itself begun_at) lead
leads_does at calls round (leads.written {calls = cs} {round = r} number file bytes size some rest) = λ rows begun_at now after writes sized still lead.
    let s = first_step now after (WritePiece number file (take 65536 bytes)) Fine cs lead in
    let on = leads_does (stage.Writing number file (drop 65536 bytes) size) cs r rest in
    on rows begun_at s.0 after writes sized (still_more begun_at now s.0 number file (take 65536 bytes) still s.1) s.2
leads_does at calls round (leads.unwritten {calls = cs} {round = r} number file bytes size why some rest) = λ rows begun_at now after writes sized still lead.
    let piece = WritePiece number file (take 65536 bytes) in
    let s = first_step now after piece (reply.Refused (write_refusal why)) cs lead in
    let step = faulted piece (OfPiece number file (take 65536 bytes)) begun_at now s.0 why writes still s.1 in
    let on = leads_does (stage.Failing number (write_cause why)) cs r rest in
    let gone = on s.0 after s.2 in
    ended.failed piece now s.0 (refl, refl) still step.0 gone.0 (gone.1 ∙ ap Refused step.1)
leads_does at calls round (leads.listed number file size) = λ rows begun_at now after writes sized still lead.
    commits_well (OfRows (record { number = number; file = file; rows = rows })) size begun_at now after sized still lead (Did 1 size) refl
leads_does at calls round (leads.unlisted number file size why) = λ rows begun_at now after writes sized still lead.
    commits_not (OfRows (record { number = number; file = file; rows = rows })) size why begun_at now after writes sized still lead
leads_does at calls round (leads.dropped number why) = λ now after lead. (one_step now after (DropFlush number) Fine lead, refl)
leads_does at calls round (leads.over last) = tt

pub flush_does : (calls : List Call) (round : Round) (before after : At) → IsFlushRound calls round → CallsLead before calls after → IsFlushed before round after
flush_does calls round before after leads lead = leads_does stage.Fresh calls round leads before after lead

-- ---- a compaction

abbrev pub of_blocks : Joining → Job
of_blocks job = OfBlocks (parts_of job)

-- the files of these blocks are among these
abbrev pub AreAmong : List InfoParts → List ℕ → Type 0
AreAmong [] files = ⊤
AreAmong (info ∷ infos) files = (is_among info.file files ≡ true) × AreAmong infos files

or_later : (a b : Bool) → b ≡ true → (a || b) ≡ true
or_later true b e = refl
or_later false b e = e

among_more : (infos : List InfoParts) (files : List ℕ) (file : ℕ) → AreAmong infos files → AreAmong infos (file ∷ files)
among_more [] files file are = tt
among_more (info ∷ infos) files file are = (or_later _ (is_among info.file files) are.0, among_more infos files file are.1)

pub own_among : (infos : List InfoParts) → AreAmong infos (info_files infos)
own_among [] = tt
own_among (info ∷ infos) =
    (ap (λ (t : Bool). t || is_among info.file (info_files infos)) (equal_itself info.file), among_more infos (info_files infos) info.file (own_among infos))

abbrev Joins : CompactStage → List Call → Round → Type 0
Joins joining.Fresh calls round = (before after : At) → CallsLead before calls after → IsRound BeginCompact before round after
Joins (joining.Reading job parts infos pages bytes) calls round =
    (begun_at now after : At) → Writes begun_at → AreAmong infos (info_files job.blocks) → IsStill begun_at now → CallsLead now calls after
    → IsEnded (of_blocks job) begun_at round after
Joins (joining.Writing job bytes size) calls round =
    (begun_at now after : At) → Writes begun_at → IsStill begun_at now → CallsLead now calls after → IsEnded (of_blocks job) begun_at round after
Joins (joining.Failing number why) calls round = (now after : At) → CallsLead now calls after → IsStep now (DropCompact number) Fine after × (round ≡ Refused why)
Joins (joining.Ended last) calls round = ⊤

joins_does : (at : CompactStage) (calls : List Call) (round : Round) → CompactLeads at calls round → Joins at calls round
joins_does at calls round joins.nothing = λ before after lead. round_of.nothing (one_step before after BeginCompact reply.Nothing lead) refl
joins_does at calls round (joins.no_job why) = λ before after lead. round_of.no_job why (one_step before after BeginCompact (reply.Refused (begin_refusal why)) lead) refl
joins_does at calls round (joins.begun {calls = cs} {round = r} job rest) = λ before after lead.
    let s = first_step before after BeginCompact (given (of_blocks job)) cs lead in
    let on = joins_does (joining.Reading job [] job.blocks 0 []) cs r rest in
    round_of.job (of_blocks job) s.0 s.1
    (on s.0 s.0 after (begun_writes BeginCompact OfCompaction before s.0 (of_blocks job) s.1) (own_among job.blocks) (still_itself s.0) s.2)
joins_does at calls round (joins.read {calls = cs} {round = r} job parts info infos pages bytes page more rest) = λ begun_at now after writes among still lead.
    let s = first_step now after (ReadPage job.pin info.file pages) (Page page) cs lead in
    let on = joins_does (joining.Reading job parts (info ∷ infos) (pages + 1) (bytes ++ page)) cs r rest in
    on begun_at s.0 after writes among
    (still_twice begun_at now s.0 still (read_still now.faults s.0.faults now.machine s.0.machine job.pin info.file pages (Page page) s.1.1, s.1.0, s.1.2)) s.2
joins_does at calls round (joins.unread {calls = cs} {round = r} job parts info infos pages bytes more rest) = λ begun_at now after writes among still lead.
    let s = first_step now after (ReadPage job.pin info.file pages) (reply.Refused refusal.Fault) cs lead in
    let on = joins_does (joining.Failing job.number cause.Fault) cs r rest in
    let gone = on s.0 after s.2 in
    ended.failed (ReadPage job.pin info.file pages) now s.0 (refl, among.0) still s.1 gone.0 gone.1
joins_does at calls round (joins.block {calls = cs} {round = r} job parts info infos pages bytes rows all is rest) = λ begun_at now after writes among still lead.
    let on = joins_does (joining.Reading job (parts ++ rows ∷ []) infos 0 []) cs r rest in on begun_at now after writes among.1 still lead
joins_does at calls round (joins.no_block {calls = cs} {round = r} job parts info infos pages bytes place all is rest) = λ begun_at now after writes among still lead.
    let on = joins_does (joining.Failing job.number (cause.NotBlock info.file place)) cs r rest in
    let gone = on now after lead in ended.given_up (cause.NotBlock info.file place) now among.0 still gone.0 gone.1
joins_does at calls round (joins.starved {calls = cs} {round = r} job parts infos pages bytes rest) = λ begun_at now after writes among still lead.
    let on = joins_does (joining.Failing job.number cause.Memory) cs r rest in
    let gone = on now after lead in ended.given_up cause.Memory now tt still gone.0 gone.1
joins_does at calls round (joins.built {calls = cs} {round = r} job parts pages read bytes info is rest) = λ begun_at now after writes among still lead.
    let on = joins_does (joining.Writing job bytes info.rows) cs r rest in on begun_at now after writes still lead
joins_does at calls round (joins.written {calls = cs} {round = r} job bytes size some rest) = λ begun_at now after writes still lead.
    let s = first_step now after (WritePiece job.number job.file (take 65536 bytes)) Fine cs lead in
    let on = joins_does (joining.Writing job (drop 65536 bytes) size) cs r rest in
    on begun_at s.0 after writes (still_more begun_at now s.0 job.number job.file (take 65536 bytes) still s.1) s.2
joins_does at calls round (joins.unwritten {calls = cs} {round = r} job bytes size why some rest) = λ begun_at now after writes still lead.
    let piece = WritePiece job.number job.file (take 65536 bytes) in
    let s = first_step now after piece (reply.Refused (write_refusal why)) cs lead in
    let step = faulted piece (OfPiece job.number job.file (take 65536 bytes)) begun_at now s.0 why writes still s.1 in
    let on = joins_does (joining.Failing job.number (write_cause why)) cs r rest in
    let gone = on s.0 after s.2 in
    ended.failed piece now s.0 (refl, refl) still step.0 gone.0 (gone.1 ∙ ap Refused step.1)
joins_does at calls round (joins.listed job size) = λ begun_at now after writes still lead.
    commits_well (of_blocks job) size begun_at now after tt still lead (Did (length job.blocks) size)
    (ap (λ (n : ℕ). Did n size) (sym (length-map job.blocks (λ (info : InfoParts). info.file))))
joins_does at calls round (joins.unlisted job size why) = λ begun_at now after writes still lead.
    commits_not (of_blocks job) size why begun_at now after writes tt still lead
joins_does at calls round (joins.dropped number why) = λ now after lead. (one_step now after (DropCompact number) Fine lead, refl)
joins_does at calls round (joins.over last) = tt

pub compaction_does : (calls : List Call) (round : Round) (before after : At) → IsCompactRound calls round → CallsLead before calls after → IsRound BeginCompact before round after
compaction_does calls round before after leads lead = joins_does joining.Fresh calls round leads before after lead
