-- The calls of a whole round: its begin and, where it is refused later, the call that failed; whatever calls of others come in between.
use Rattle.std.proofs.Common.{◌≡◌, ◌⊎◌, inl, inr, ℕ, ◌+◌, List, [], ◌∷◌, ◌++◌, length, refl, sym, ap, subst, take, drop}
use Rattle.std.specs.Prelude.{⊤}
use Rattle.std.proofs.lemmas.List.{length-map}
use Rattle.span_types.specs.declared.spans.Row.{Row}
use Rattle.block_info.specs.InfoParts.{InfoParts}
use Rattle.compactor.specs.Rounds.{IsCompactRound, Leads as CompactLeads, Stage as CompactStage}
use Rattle.compactor.specs.Rounds.{Leads as joins, Stage as joining}
use Rattle.flusher.specs.Rounds.{IsFlushRound, Leads, Stage}
use Rattle.flusher.specs.Rounds.{Leads as leads, Stage as stage}
use Rattle.store_model.specs.Event.{Event as event, Reply as reply, Refusal as refusal}
use Rattle.store_model.specs.Event.Event.{BeginCompact, BeginFlush, CommitCompact, CommitFlush, ReadPage, WritePiece}
use Rattle.store_model.specs.Event.Reply.{Fine, Page}
use Rattle.store_state.specs.Given.{info_files}
use Rattle.store_state.specs.Made.{Call, call}
use Rattle.store_state.specs.Replies.{begin_refusal, write_refusal}
use Rattle.store_state.specs.Rounds.{begin_cause, write_cause}
use Rattle.store_state.specs.declared.errors.BeginError.{BeginError}
use Rattle.store_state.specs.declared.errors.BeginError.TheVariants as begin
use Rattle.store_state.specs.declared.errors.WriteError.{WriteError}
use Rattle.store_state.specs.declared.rounds.Refusal.{Refusal}
use Rattle.store_state.specs.declared.rounds.Refusal.TheVariants.{Busy, Fault, FilesSpent, Memory, NotBlock, ReadOnly}
use Rattle.store_state.specs.declared.rounds.Round.{Round}
use Rattle.store_state.specs.declared.rounds.Round.TheVariants.{Did, Nothing, Refused}
use Rattle.session_meaning.specs.Rounds.{IsGivenUpFor, IsSized, Job, blocks_of, given}
use Rattle.session_meaning.specs.Rounds.Job.{OfBlocks, OfRows}
use Rattle.session_meaning.proofs.RoundSteps.{IsWrite}
use Rattle.session_meaning.proofs.RoundSteps.IsWrite.{OfCompactCommit, OfFlushCommit, OfPiece}
use Rattle.session_meaning.proofs.Rounds.{AreAmong, of_blocks, own_among}

-- ---- how a round ends whose job was begun

-- The call was refused, and the round for that. Only a compaction reads.
pub data FailedBy (begins : event) (c : Call) (why : Refusal) : Type 0 where
  ByWrite : IsWrite c.event → (w : WriteError) → c.reply ≡ reply.Refused (write_refusal w) → why ≡ write_cause w → FailedBy begins c why
  ByRead : begins ≡ BeginCompact → (pin file page : ℕ) → c ≡ call (ReadPage pin file page) (reply.Refused refusal.Fault) → why ≡ Fault → FailedBy begins c why

-- One of these calls was.
pub record HasFailed (begins : event) (calls : List Call) (why : Refusal) : Type 0 where
  pub front : List Call
  pub c : Call
  pub back : List Call
  pub are : calls ≡ front ++ c ∷ back
  pub failed : FailedBy begins c why

abbrev pub EndsAfter : event → Job → List Call → Round → Type 0
EndsAfter begins job calls (Did blocks rows) = IsSized job rows × (blocks ≡ blocks_of job)
EndsAfter begins job calls Nothing = ⊥
EndsAfter begins job calls (Refused why) = IsGivenUpFor job why ⊎ HasFailed begins calls why

goes_on : (begins : event) (job : Job) (c : Call) (calls : List Call) (round : Round) → EndsAfter begins job calls round → EndsAfter begins job (c ∷ calls) round
goes_on begins job c calls (Did blocks rows) ends = ends
goes_on begins job c calls Nothing ends = ends
goes_on begins job c calls (Refused why) (inl for) = inl for
goes_on begins job c calls (Refused why) (inr f) =
    inr (record { front = c ∷ f.front; c = f.c; back = f.back; are = ap (λ (cs : List Call). c ∷ cs) f.are; failed = f.failed })

fails_here : (begins : event) (job : Job) (c : Call) (calls : List Call) (why : Refusal) (round : Round) → FailedBy begins c why → round ≡ Refused why → EndsAfter begins job (c ∷ calls) round
fails_here begins job c calls why round failed is =
    let here : HasFailed begins (c ∷ calls) why = record { front = []; c = c; back = calls; are = refl; failed = failed } in
    subst (λ (r : Round). EndsAfter begins job (c ∷ calls) r) (sym is) (inr here)

given_up : (begins : event) (job : Job) (calls : List Call) (why : Refusal) (round : Round) → IsGivenUpFor job why → round ≡ Refused why → EndsAfter begins job calls round
given_up begins job calls why round for is = subst (λ (r : Round). EndsAfter begins job calls r) (sym is) (inl for)

-- ---- its begin

pub data BeginsSo (begins : event) (calls : List Call) (round : Round) : Type 0 where
  FoundNone : calls ≡ call begins reply.Nothing ∷ [] → round ≡ Nothing → BeginsSo begins calls round
  NotBegun : (b : BeginError) → calls ≡ call begins (reply.Refused (begin_refusal b)) ∷ [] → round ≡ Refused (begin_cause b) → BeginsSo begins calls round
  Began : (job : Job) (rest : List Call) → calls ≡ call begins (given job) ∷ rest → EndsAfter begins job rest round → BeginsSo begins calls round

-- ---- a flush

abbrev of_rows : ℕ → ℕ → List Row → Job
of_rows number file rows = OfRows (record { number = number; file = file; rows = rows })

abbrev Says : Stage → List Call → Round → Type 0
Says stage.Fresh calls round = BeginsSo BeginFlush calls round
Says (stage.Begun number file rows) calls round = EndsAfter BeginFlush (of_rows number file rows) calls round
Says (stage.Writing number file bytes size) calls round = (rows : List Row) → IsSized (of_rows number file rows) size → EndsAfter BeginFlush (of_rows number file rows) calls round
Says (stage.Failing number why) calls round = round ≡ Refused why
Says (stage.Ended last) calls round = ⊤

flush_says : (at : Stage) (calls : List Call) (round : Round) → Leads at calls round → Says at calls round
flush_says at calls round leads.nothing = FoundNone refl refl
flush_says at calls round (leads.no_job why) = NotBegun why refl refl
flush_says at calls round (leads.job {calls = cs} {round = r} number file rows rest) =
    Began (of_rows number file rows) cs refl (flush_says (stage.Begun number file rows) cs r rest)
flush_says at calls round (leads.starved number file rows) = inl tt
flush_says at calls round (leads.built {calls = cs} {round = r} number file rows bytes info block rest) =
    flush_says (stage.Writing number file bytes info.rows) cs r rest rows (block.firsts, block.are_first, block.counted)
flush_says at calls round (leads.written {calls = cs} {round = r} number file bytes size some rest) = λ rows sized.
    goes_on BeginFlush (of_rows number file rows) (call (WritePiece number file (take 65536 bytes)) Fine) cs r
    (flush_says (stage.Writing number file (drop 65536 bytes) size) cs r rest rows sized)
flush_says at calls round (leads.unwritten {calls = cs} {round = r} number file bytes size why some rest) = λ rows sized.
    fails_here BeginFlush (of_rows number file rows) (call (WritePiece number file (take 65536 bytes)) (reply.Refused (write_refusal why))) cs (write_cause why) r
    (ByWrite (OfPiece number file (take 65536 bytes)) why refl refl) (flush_says (stage.Failing number (write_cause why)) cs r rest)
flush_says at calls round (leads.listed number file size) = λ rows sized. (sized, refl)
flush_says at calls round (leads.unlisted number file size why) = λ rows sized.
    fails_here BeginFlush (of_rows number file rows) (call (CommitFlush number size) (reply.Refused (write_refusal why))) [] (write_cause why) (Refused (write_cause why))
    (ByWrite (OfFlushCommit number size) why refl refl) refl
flush_says at calls round (leads.dropped number why) = refl
flush_says at calls round (leads.over last) = tt

pub flush_begins : (calls : List Call) (round : Round) → IsFlushRound calls round → BeginsSo BeginFlush calls round
flush_begins calls round leads = flush_says stage.Fresh calls round leads

-- ---- a compaction

abbrev SaysToo : CompactStage → List Call → Round → Type 0
SaysToo joining.Fresh calls round = BeginsSo BeginCompact calls round
SaysToo (joining.Reading job parts infos pages bytes) calls round = AreAmong infos (info_files job.blocks) → EndsAfter BeginCompact (of_blocks job) calls round
SaysToo (joining.Writing job bytes size) calls round = EndsAfter BeginCompact (of_blocks job) calls round
SaysToo (joining.Failing number why) calls round = round ≡ Refused why
SaysToo (joining.Ended last) calls round = ⊤

joins_says : (at : CompactStage) (calls : List Call) (round : Round) → CompactLeads at calls round → SaysToo at calls round
joins_says at calls round joins.nothing = FoundNone refl refl
joins_says at calls round (joins.no_job why) = NotBegun why refl refl
joins_says at calls round (joins.begun {calls = cs} {round = r} job rest) =
    Began (of_blocks job) cs refl (joins_says (joining.Reading job [] job.blocks 0 []) cs r rest (own_among job.blocks))
joins_says at calls round (joins.read {calls = cs} {round = r} job parts info infos pages bytes page more rest) = λ among.
    goes_on BeginCompact (of_blocks job) (call (ReadPage job.pin info.file pages) (Page page)) cs r
    (joins_says (joining.Reading job parts (info ∷ infos) (pages + 1) (bytes ++ page)) cs r rest among)
joins_says at calls round (joins.unread {calls = cs} {round = r} job parts info infos pages bytes more rest) = λ among.
    fails_here BeginCompact (of_blocks job) (call (ReadPage job.pin info.file pages) (reply.Refused refusal.Fault)) cs Fault r
    (ByRead refl job.pin info.file pages refl refl) (joins_says (joining.Failing job.number Fault) cs r rest)
joins_says at calls round (joins.block {calls = cs} {round = r} job parts info infos pages bytes rows all is rest) = λ among.
    joins_says (joining.Reading job (parts ++ rows ∷ []) infos 0 []) cs r rest among.1
joins_says at calls round (joins.no_block {calls = cs} {round = r} job parts info infos pages bytes place all is rest) = λ among.
    given_up BeginCompact (of_blocks job) cs (NotBlock info.file place) r among.0 (joins_says (joining.Failing job.number (NotBlock info.file place)) cs r rest)
joins_says at calls round (joins.starved {calls = cs} {round = r} job parts infos pages bytes rest) = λ among.
    given_up BeginCompact (of_blocks job) cs Memory r tt (joins_says (joining.Failing job.number Memory) cs r rest)
joins_says at calls round (joins.built {calls = cs} {round = r} job parts pages read bytes info is rest) = λ among.
    joins_says (joining.Writing job bytes info.rows) cs r rest
joins_says at calls round (joins.written {calls = cs} {round = r} job bytes size some rest) =
    goes_on BeginCompact (of_blocks job) (call (WritePiece job.number job.file (take 65536 bytes)) Fine) cs r (joins_says (joining.Writing job (drop 65536 bytes) size) cs r rest)
joins_says at calls round (joins.unwritten {calls = cs} {round = r} job bytes size why some rest) =
    fails_here BeginCompact (of_blocks job) (call (WritePiece job.number job.file (take 65536 bytes)) (reply.Refused (write_refusal why))) cs (write_cause why) r
    (ByWrite (OfPiece job.number job.file (take 65536 bytes)) why refl refl) (joins_says (joining.Failing job.number (write_cause why)) cs r rest)
joins_says at calls round (joins.listed job size) = (tt, sym (length-map job.blocks (λ (info : InfoParts). info.file)))
joins_says at calls round (joins.unlisted job size why) =
    fails_here BeginCompact (of_blocks job) (call (CommitCompact job.number size) (reply.Refused (write_refusal why))) [] (write_cause why) (Refused (write_cause why))
    (ByWrite (OfCompactCommit job.number size) why refl refl) refl
joins_says at calls round (joins.dropped number why) = refl
joins_says at calls round (joins.over last) = tt

pub compaction_begins : (calls : List Call) (round : Round) → IsCompactRound calls round → BeginsSo BeginCompact calls round
compaction_begins calls round leads = joins_says joining.Fresh calls round leads

-- ---- its first call

-- What a begin that is answered so makes of a round.
abbrev pub Decides : reply → Round → Type 0
Decides reply.Nothing round = round ≡ Nothing
Decides (reply.Refused (refusal.ReadOnly faults)) round = round ≡ Refused (ReadOnly faults)
Decides (reply.Refused (refusal.Busy number)) round = round ≡ Refused (Busy number)
Decides (reply.Refused (refusal.FilesSpent next)) round = round ≡ Refused (FilesSpent next)
Decides _ round = ⊤

refused_decides : (b : BeginError) (round : Round) → round ≡ Refused (begin_cause b) → Decides (reply.Refused (begin_refusal b)) round
refused_decides (begin.ReadOnly faults) round is = is
refused_decides (begin.Busy job) round is = is
refused_decides (begin.FilesSpent next) round is = is
refused_decides begin.Fault round is = tt
refused_decides begin.Memory round is = tt

given_decides : (job : Job) (round : Round) → Decides (given job) round
given_decides (OfRows job) round = tt
given_decides (OfBlocks job) round = tt

pub record HasBegun (begins : event) (calls : List Call) (round : Round) : Type 0 where
  pub answer : reply
  pub rest : List Call
  pub are : calls ≡ call begins answer ∷ rest
  pub decides : Decides answer round

pub has_begun : (begins : event) (calls : List Call) (round : Round) → BeginsSo begins calls round → HasBegun begins calls round
has_begun begins calls round (FoundNone are is) = record { answer = reply.Nothing; rest = []; are = are; decides = is }
has_begun begins calls round (NotBegun b are is) = record { answer = reply.Refused (begin_refusal b); rest = []; are = are; decides = refused_decides b round is }
has_begun begins calls round (Began job rest are ends) = record { answer = given job; rest = rest; are = are; decides = given_decides job round }
