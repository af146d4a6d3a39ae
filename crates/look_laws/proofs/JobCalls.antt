-- The calls of flushes and of compactions.
use Rattle.std.proofs.Common.{◌≡◌, inl, inr, ℕ, ◌+◌, ◌++◌, List, [], ◌∷◌, None, false, take, drop, refl, ap, subst, arith, length}
use Rattle.std.specs.List.{Contains}
use Rattle.compactor.specs.Rounds.{Job, parts_of}
use Rattle.compactor.specs.Rounds.{Leads as CompactLeads, Stage as CompactStage}
use Rattle.compactor.specs.Rounds.{Leads as joins, Stage as joining}
use Rattle.flusher.specs.Rounds.{Leads as FlushLeads, Stage as FlushStage}
use Rattle.flusher.specs.Rounds.{Leads as flushes, Stage as flushing}
use Rattle.store_model.specs.Event.{Event, FlushParts, CompactParts}
use Rattle.store_model.specs.Event.{Event as event, Reply as reply}
use Rattle.store_model.specs.Event.Event.{WritePiece}
use Rattle.store_model.specs.Holds.{Hold, ends}
use Rattle.store_model.specs.Holds.Hold.{OpenFlush, OpenCompact}
use Rattle.store_state.specs.Made.{Call, call}
use Rattle.store_state.specs.Replies.{write_refusal}
use Rattle.store_state.specs.declared.errors.WriteError.TheVariants as write
use Rattle.store_state.specs.declared.rounds.Refusal.{Refusal}
use Rattle.store_state.specs.declared.rounds.Refusal.TheVariants as cause
use Rattle.store_state.specs.declared.rounds.Round.{Round}
use Rattle.store_state.specs.declared.rounds.Round.TheVariants as round
use Rattle.client_run.specs.EventRuns.{compaction_end, flush_end}
use Rattle.look_laws.specs.LookRuns.{IsOwnFile}
use Rattle.look_laws.specs.LookRuns.IsOwnFile.{OfFlush, OfCompact}
use Rattle.look_laws.proofs.Calls.{at_front}
use Rattle.look_laws.proofs.Pieces.{AreOfJob, AreOfRound, IsPieceOf}

-- ---- pieces

abbrev number_of : Event → ℕ
number_of (WritePiece n f bytes) = n
number_of _ = 0

abbrev file_of : Event → ℕ
file_of (WritePiece n f bytes) = f
file_of _ = 0

piece_is : (number file : ℕ) (piece : List ℕ) → IsPieceOf number file (WritePiece number file piece)
piece_is number file piece n f bytes e = (ap number_of e, ap file_of e)

-- ---- flushes

abbrev pub LeavesCompactions : Call → Type 0
LeavesCompactions c = (job : CompactParts) → ends c.event c.reply (OpenCompact job) ≡ false

abbrev pub IsFlushHold : ℕ → ℕ → Hold → Type 0
IsFlushHold number file hold = (job : FlushParts) × (job.number ≡ number) × (job.file ≡ file) × (hold ≡ OpenFlush job)

pub own_flush : (held : List Hold) (n f : ℕ) (hold : Hold) → IsFlushHold n f hold → Contains held hold → IsOwnFile held n f
own_flush held n f hold (job, number, file, is) there = OfFlush job number file (subst (λ (h : Hold). Contains held h) is there)

failing_flush : (number file : ℕ) (why : Refusal) (calls : List Call) (r : Round) → FlushLeads (flushing.Failing number why) calls r → AreOfJob LeavesCompactions number file calls
failing_flush number file why calls r (flushes.dropped n w) = ((λ n f bytes e. cc), (λ job. refl), inr refl, tt)

writing_flush : (number file : ℕ) (bytes : List ℕ) (size : ℕ) (calls : List Call) (r : Round) → FlushLeads (flushing.Writing number file bytes size) calls r → AreOfJob LeavesCompactions number file calls
writing_flush number file _ size _ r (flushes.written {calls} n f bytes s some rest) =
    (piece_is number file (take 65536 bytes), (λ job. refl), inl (λ hold. refl), writing_flush number file (drop 65536 bytes) size calls r rest)
writing_flush number file _ size _ r (flushes.unwritten {calls} n f bytes s why some rest) =
    (piece_is number file (take 65536 bytes), (λ job. refl), inl (λ hold. refl), failing_flush number file _ calls r rest)
writing_flush number file bytes size calls r (flushes.listed n f s) = ((λ n f bytes e. cc), (λ job. refl), inr refl, tt)
writing_flush number file bytes size calls r (flushes.unlisted n f s why) = ((λ n f bytes e. cc), (λ job. refl), inr refl, tt)

begun_flush : (number file : ℕ) (rows : _) (calls : List Call) (r : Round) → FlushLeads (flushing.Begun number file rows) calls r → AreOfJob LeavesCompactions number file calls
begun_flush number file rows calls r (flushes.starved n f rs) = ((λ n f bytes e. cc), (λ job. refl), inr refl, tt)
begun_flush number file rows calls r (flushes.built n f rs bytes info is rest) = writing_flush number file bytes info.rows calls r rest

pub flush_shape : (calls : List Call) (r : Round) → FlushLeads flushing.Fresh calls r → AreOfRound LeavesCompactions IsFlushHold calls
flush_shape calls r flushes.nothing = ((λ n f bytes e. cc), (λ job. refl), inr refl, tt)
flush_shape calls r (flushes.no_job why) = ((λ n f bytes e. cc), (λ job. refl), inr refl, tt)
flush_shape _ r (flushes.job {calls} number file rows rest) =
    let mine : FlushParts = record { number = number; file = file; rows = rows } in
    ((λ n f bytes e. cc), (λ job. refl), inl (OpenFlush mine, (mine, refl, refl, refl), at_front (OpenFlush mine) []), begun_flush number file rows calls r rest)

pub flush_leads : (s : FlushStage) → (calls : List Call) × (r : Round) × FlushLeads s calls r × (flush_end s ≡ None → calls ≡ [] → ⊥)
flush_leads flushing.Fresh = (call event.BeginFlush reply.Nothing ∷ [], round.Nothing, flushes.nothing, λ e n. cc)
flush_leads (flushing.Begun number file rows) = (call (event.DropFlush number) reply.Fine ∷ [], round.Refused cause.Memory, flushes.starved number file rows, λ e n. cc)
flush_leads (flushing.Writing number file [] size) = (call (event.CommitFlush number size) reply.Fine ∷ [], round.Did 1 size, flushes.listed number file size, λ e n. cc)
flush_leads (flushing.Writing number file (b ∷ bs) size) = (
  call (event.WritePiece number file (take 65536 (b ∷ bs))) (reply.Refused (write_refusal write.Fault)) ∷ call (event.DropFlush number) reply.Fine ∷ [],
  round.Refused cause.Fault,
  flushes.unwritten number file (b ∷ bs) size write.Fault (omega arith) (flushes.dropped number cause.Fault),
  λ e n. cc,
)
flush_leads (flushing.Failing number why) = (call (event.DropFlush number) reply.Fine ∷ [], round.Refused why, flushes.dropped number why, λ e n. cc)
flush_leads (flushing.Ended r) = ([], r, flushes.over r, λ e n. cc)

-- ---- compactions

abbrev pub LeavesFlushes : Call → Type 0
LeavesFlushes c = (job : FlushParts) → ends c.event c.reply (OpenFlush job) ≡ false

abbrev pub IsCompactHold : ℕ → ℕ → Hold → Type 0
IsCompactHold number file hold = (job : CompactParts) × (job.number ≡ number) × (job.file ≡ file) × (hold ≡ OpenCompact job)

pub own_compaction : (held : List Hold) (n f : ℕ) (hold : Hold) → IsCompactHold n f hold → Contains held hold → IsOwnFile held n f
own_compaction held n f hold (job, number, file, is) there = OfCompact job number file (subst (λ (h : Hold). Contains held h) is there)

failing_joins : (number file : ℕ) (why : Refusal) (calls : List Call) (r : Round) → CompactLeads (joining.Failing number why) calls r → AreOfJob LeavesFlushes number file calls
failing_joins number file why calls r (joins.dropped n w) = ((λ n f bytes e. cc), (λ job. refl), inr refl, tt)

writing_joins : (job : Job) (bytes : List ℕ) (size : ℕ) (calls : List Call) (r : Round) → CompactLeads (joining.Writing job bytes size) calls r → AreOfJob LeavesFlushes job.number job.file calls
writing_joins job _ size _ r (joins.written {calls} j bytes s some rest) =
    (piece_is job.number job.file (take 65536 bytes), (λ job. refl), inl (λ hold. refl), writing_joins job (drop 65536 bytes) size calls r rest)
writing_joins job _ size _ r (joins.unwritten {calls} j bytes s why some rest) =
    (piece_is job.number job.file (take 65536 bytes), (λ job. refl), inl (λ hold. refl), failing_joins job.number job.file _ calls r rest)
writing_joins job bytes size calls r (joins.listed j s) = ((λ n f bytes e. cc), (λ job. refl), inr refl, tt)
writing_joins job bytes size calls r (joins.unlisted j s why) = ((λ n f bytes e. cc), (λ job. refl), inr refl, tt)

reading_joins : (job : Job) (parts : _) (infos : _) (pages : ℕ) (bytes : List ℕ) (calls : List Call) (r : Round) → CompactLeads (joining.Reading job parts infos pages bytes) calls r
    → AreOfJob LeavesFlushes job.number job.file calls
reading_joins job _ _ _ _ _ r (joins.read {calls} j parts info infos pages bytes page more rest) =
    ((λ n f bytes e. cc), (λ job. refl), inl (λ hold. refl), reading_joins job parts (info ∷ infos) (pages + 1) (bytes ++ page) calls r rest)
reading_joins job _ _ _ _ _ r (joins.unread {calls} j parts info infos pages bytes more rest) =
    ((λ n f bytes e. cc), (λ job. refl), inl (λ hold. refl), failing_joins job.number job.file _ calls r rest)
reading_joins job _ _ _ _ calls r (joins.block j parts info infos pages bytes rows all is rest) = reading_joins job (parts ++ rows ∷ []) infos 0 [] calls r rest
reading_joins job _ _ _ _ calls r (joins.no_block j parts info infos pages bytes at all is rest) = failing_joins job.number job.file _ calls r rest
reading_joins job _ _ _ _ calls r (joins.starved j parts infos pages bytes rest) = failing_joins job.number job.file _ calls r rest
reading_joins job _ _ _ _ calls r (joins.built j parts pages pages_read bytes info is rest) = writing_joins job bytes info.rows calls r rest

pub compact_shape : (calls : List Call) (r : Round) → CompactLeads joining.Fresh calls r → AreOfRound LeavesFlushes IsCompactHold calls
compact_shape calls r joins.nothing = ((λ n f bytes e. cc), (λ job. refl), inr refl, tt)
compact_shape calls r (joins.no_job why) = ((λ n f bytes e. cc), (λ job. refl), inr refl, tt)
compact_shape _ r (joins.begun {calls} job rest) =
    ((λ n f bytes e. cc), (λ job. refl), inl (OpenCompact (parts_of job), (parts_of job, refl, refl, refl), at_front (OpenCompact (parts_of job)) []), reading_joins job [] job.blocks 0 [] calls r rest)

pub compact_leads : (s : CompactStage) → (calls : List Call) × (r : Round) × CompactLeads s calls r × (compaction_end s ≡ None → calls ≡ [] → ⊥)
compact_leads joining.Fresh = (call event.BeginCompact reply.Nothing ∷ [], round.Nothing, joins.nothing, λ e n. cc)
compact_leads (joining.Reading job parts infos pages bytes) = (
  call (event.DropCompact job.number) reply.Fine ∷ [],
  round.Refused cause.Memory,
  joins.starved job parts infos pages bytes (joins.dropped job.number cause.Memory),
  λ e n. cc,
)
compact_leads (joining.Writing job [] size) = (call (event.CommitCompact job.number size) reply.Fine ∷ [], round.Did (length job.blocks) size, joins.listed job size, λ e n. cc)
compact_leads (joining.Writing job (b ∷ bs) size) = (
  call (event.WritePiece job.number job.file (take 65536 (b ∷ bs))) (reply.Refused (write_refusal write.Fault)) ∷ call (event.DropCompact job.number) reply.Fine ∷ [],
  round.Refused cause.Fault,
  joins.unwritten job (b ∷ bs) size write.Fault (omega arith) (joins.dropped job.number cause.Fault),
  λ e n. cc,
)
compact_leads (joining.Failing number why) = (call (event.DropCompact number) reply.Fine ∷ [], round.Refused why, joins.dropped number why, λ e n. cc)
compact_leads (joining.Ended r) = ([], r, joins.over r, λ e n. cc)
