-- Calls that push nothing.
use Rattle.std.proofs.Common.{List, [], ◌∷◌, ◌++◌, inl, inr, Result, ℕ, ◌+◌, Bool, true, false, sym, drop, subst}
use Rattle.std.specs.List.{AllByRecursion}
use Rattle.span_types.specs.declared.spans.Row.{Row}
use Rattle.compactor.specs.Rounds.{IsCompactRound, Leads as CompactLeads, Stage as CompactStage}
use Rattle.compactor.specs.Rounds.{Leads as joins, Stage as joining}
use Rattle.flusher.specs.Rounds.{IsFlushRound, Leads, Stage}
use Rattle.flusher.specs.Rounds.{Leads as leads, Stage as stage}
use Rattle.query_fanout.specs.Queries.{AreReads, IsAsked, ReadsPages, is_fault}
use Rattle.query_fanout.specs.declared.error.QueryError.{QueryError}
use Rattle.store_model.specs.Event.Event.{Done, ReadPage}
use Rattle.store_model.specs.Event.Reply.{Fine, Refused}
use Rattle.store_model.specs.Event.{Refusal as refusal}
use Rattle.store_state.specs.Given.{info_files}
use Rattle.store_state.specs.Made.{Call, call}
use Rattle.store_state.specs.Rounds.{write_cause}
use Rattle.store_state.specs.declared.rounds.Refusal.TheVariants.{Fault, Memory, NotBlock}
use Rattle.store_state.specs.declared.rounds.Round.{Round}
use Rattle.session_meaning.proofs.RoundLaws.{PushesNothing}

abbrev pub PushesNoBatch : Call → Type 0
PushesNoBatch c = PushesNothing c.event

abbrev pub AllPushNothing : List Call → Type 0
AllPushNothing calls = AllByRecursion PushesNoBatch calls

-- ---- a round

-- no call of a round pushes
pushes_nothing : (at : Stage) (calls : List Call) (round : Round) → Leads at calls round → AllPushNothing calls
pushes_nothing at calls round leads.nothing = (tt, tt)
pushes_nothing at calls round (leads.no_job why) = (tt, tt)
pushes_nothing at calls round (leads.job {calls = cs} {round = r} number file rows rest) = (tt, pushes_nothing (stage.Begun number file rows) cs r rest)
pushes_nothing at calls round (leads.starved number file rows) = (tt, tt)
pushes_nothing at calls round (leads.built {calls = cs} {round = r} number file rows bytes info block rest) = pushes_nothing (stage.Writing number file bytes info.rows) cs r rest
pushes_nothing at calls round (leads.written {calls = cs} {round = r} number file bytes size some rest) = (tt, pushes_nothing (stage.Writing number file (drop 65536 bytes) size) cs r rest)
pushes_nothing at calls round (leads.unwritten {calls = cs} {round = r} number file bytes size why some rest) = (tt, pushes_nothing (stage.Failing number (write_cause why)) cs r rest)
pushes_nothing at calls round (leads.listed number file size) = (tt, tt)
pushes_nothing at calls round (leads.unlisted number file size why) = (tt, tt)
pushes_nothing at calls round (leads.dropped number why) = (tt, tt)
pushes_nothing at calls round (leads.over last) = tt

pub flush_pushes_nothing : (calls : List Call) (round : Round) → IsFlushRound calls round → AllPushNothing calls
flush_pushes_nothing calls round leads = pushes_nothing stage.Fresh calls round leads

joins_nothing : (at : CompactStage) (calls : List Call) (round : Round) → CompactLeads at calls round → AllPushNothing calls
joins_nothing at calls round joins.nothing = (tt, tt)
joins_nothing at calls round (joins.no_job why) = (tt, tt)
joins_nothing at calls round (joins.begun {calls = cs} {round = r} job rest) = (tt, joins_nothing (joining.Reading job [] job.blocks 0 []) cs r rest)
joins_nothing at calls round (joins.read {calls = cs} {round = r} job parts info infos pages bytes page more rest) =
    (tt, joins_nothing (joining.Reading job parts (info ∷ infos) (pages + 1) (bytes ++ page)) cs r rest)
joins_nothing at calls round (joins.unread {calls = cs} {round = r} job parts info infos pages bytes more rest) = (tt, joins_nothing (joining.Failing job.number Fault) cs r rest)
joins_nothing at calls round (joins.block {calls = cs} {round = r} job parts info infos pages bytes rows all is rest) =
    joins_nothing (joining.Reading job (parts ++ rows ∷ []) infos 0 []) cs r rest
joins_nothing at calls round (joins.no_block {calls = cs} {round = r} job parts info infos pages bytes place all is rest) =
    joins_nothing (joining.Failing job.number (NotBlock info.file place)) cs r rest
joins_nothing at calls round (joins.starved {calls = cs} {round = r} job parts infos pages bytes rest) = joins_nothing (joining.Failing job.number Memory) cs r rest
joins_nothing at calls round (joins.built {calls = cs} {round = r} job parts pages read bytes info is rest) = joins_nothing (joining.Writing job bytes info.rows) cs r rest
joins_nothing at calls round (joins.written {calls = cs} {round = r} job bytes size some rest) = (tt, joins_nothing (joining.Writing job (drop 65536 bytes) size) cs r rest)
joins_nothing at calls round (joins.unwritten {calls = cs} {round = r} job bytes size why some rest) = (tt, joins_nothing (joining.Failing job.number (write_cause why)) cs r rest)
joins_nothing at calls round (joins.listed job size) = (tt, tt)
joins_nothing at calls round (joins.unlisted job size why) = (tt, tt)
joins_nothing at calls round (joins.dropped number why) = (tt, tt)
joins_nothing at calls round (joins.over last) = tt

pub compaction_pushes_nothing : (calls : List Call) (round : Round) → IsCompactRound calls round → AllPushNothing calls
compaction_pushes_nothing calls round leads = joins_nothing joining.Fresh calls round leads

-- ---- a query

both : (front back : List Call) → AllPushNothing front → AllPushNothing back → AllPushNothing (front ++ back)
both [] back first second = second
both (c ∷ front) back first second = (first.0, both front back first.1 second)

reads_push_nothing : (pin : ℕ) (files : List ℕ) (calls : List Call) → AreReads pin files calls → AllPushNothing calls
reads_push_nothing pin files [] none = tt
reads_push_nothing pin files (c ∷ calls) ((file, page, bytes, among, is), rest) = (subst PushesNoBatch (sym is) tt, reads_push_nothing pin files calls rest)

pages_push_nothing : (pin : ℕ) (files : List ℕ) (failed : Bool) (calls : List Call) → ReadsPages pin files failed calls → AllPushNothing calls
pages_push_nothing pin files false calls are = reads_push_nothing pin files calls are
pages_push_nothing pin files true calls (reads, file, page, are, among, is) =
    subst AllPushNothing (sym is) (both reads (call (ReadPage pin file page) (Refused refusal.Fault) ∷ []) (reads_push_nothing pin files reads are) (tt, tt))

pub query_pushes_nothing : {A : Type 0} (tells : ℕ → List Row → A → Type 0) (r : Result A QueryError) (calls : List Call) → IsAsked tells r calls → AllPushNothing calls
query_pushes_nothing tells r calls (inl (are, memory)) = subst AllPushNothing (sym are) (tt, tt)
query_pushes_nothing tells r calls (inr (look, reads, are, pages, comes)) =
    subst AllPushNothing (sym are)
    (tt, both reads (call (Done look.pin) Fine ∷ []) (pages_push_nothing look.pin (info_files look.blocks) (is_fault r) reads pages) (tt, tt))
