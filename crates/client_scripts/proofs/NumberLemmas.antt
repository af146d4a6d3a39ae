-- The numbers of pushes.
use Rattle.std.proofs.Common.{◌≡◌, inl, inr, ℕ, ◌+◌, Bool, true, false, List, [], ◌∷◌, ◌++◌, Option, None, Result, Ok, Err, map, take, drop, refl, sym, ◌∙◌, ap, subst}
use Rattle.std.proofs.lemmas.List.{append_assoc}
use Rattle.disk_model.specs.declared.disk.Device.{Ghosts}
use Rattle.span_types.specs.declared.spans.Row.{Row}
use Rattle.span_types.specs.declared.errors.Memory.{Memory as Starved}
use Rattle.otlp_spans.specs.declared.read.Reading.{Reading}
use Rattle.compactor.specs.Rounds.{Leads as CompactLeads, Stage as CompactStage}
use Rattle.compactor.specs.Rounds.{Leads as joins, Stage as joining}
use Rattle.flusher.specs.Rounds.{Leads, Stage}
use Rattle.flusher.specs.Rounds.{Leads as leads, Stage as stage}
use Rattle.query_fanout.specs.Queries.{AreReads, IsAsked, ReadsPages, is_fault}
use Rattle.query_fanout.specs.declared.error.QueryError.{QueryError}
use Rattle.query_fanout.specs.declared.searching.SearchAnswer.{SearchAnswer}
use Rattle.query_fanout.specs.declared.searching.Asked.{Asked}
use Rattle.query_fanout.specs.declared.trace.TraceAnswer.{TraceAnswer}
use Rattle.query_fanout.specs.SearchAnswers.{IsSearchAnswer}
use Rattle.query_fanout.specs.TraceAnswers.{IsTraceAnswer}
use Rattle.store_model.specs.Event.{Event, Reply as StepReply}
use Rattle.store_model.specs.Event.{Event as event, Reply as told, Refusal as cause}
use Rattle.store_model.specs.History.{History, count_of, push_of, with_entry}
use Rattle.store_model.specs.Step.{Machine}
use Rattle.store_model.specs.Told.{TellsLength, added_entry, asked_entry, history_after}
use Rattle.store_model.proofs.TellsHistory.{step_tells}
use Rattle.store_entries.specs.declared.entry.Entry.{Entry as Added}
use Rattle.store_state.specs.Given.{info_files}
use Rattle.store_state.specs.Made.{Call, call}
use Rattle.store_state.specs.Replies.{push_reply}
use Rattle.store_state.specs.Rounds.{write_cause}
use Rattle.store_state.specs.declared.errors.PushError.{PushError}
use Rattle.store_state.specs.declared.errors.ReclaimError.{ReclaimError}
use Rattle.store_state.specs.declared.rounds.Refusal.TheVariants.{Fault, Memory, NotBlock}
use Rattle.store_state.specs.declared.rounds.Round.{Round}
use Rattle.store_state.specs.declared.rounds.Round.TheVariants as round
use Rattle.store_core.specs.Cores.{CoreStandsFor}
use Rattle.store_core.specs.declared.store.Core.{Core}
use Rattle.port_history.specs.Entries.{Entry, Legal, call_of, own}
use Rattle.session_text.specs.Items.{Item}
use Rattle.session_text.specs.declared.reply.Reply.{Reply}
use Rattle.session_text.specs.declared.reply.Reply.TheVariants as session
use Rattle.session_text.specs.declared.request.Request.TheVariants as request
use Rattle.client_run.specs.Answers.{AreSeriesTold, IsSearchTold, asked_of, compact_reply, counted_of, cut_reply, flush_reply, pushed_reply, reclaimed_reply, trace_reply}
use Rattle.shared_store.specs.Over.{AreCallsOf}
use Rattle.client_scripts.specs.Numbers.{AreInARow, AreNumbered, AreTheirs, given_by, given_numbers, told_by_reply, told_numbers}
use Rattle.client_scripts.specs.Scripts.{AreItemsAnswered, IsItemAnswered, reply_count}
use Rattle.client_scripts.specs.Served.{AreServed}
use Rattle.client_scripts.specs.declared.script.Answered.{Answered}
use Rattle.client_scripts.proofs.ToldLemmas.{grown_count}

-- ---- in a row

none_added : (e : Event) (r : StepReply) → asked_entry e ≡ None → added_entry e r ≡ None
none_added e (told.Count n) none = none
none_added e told.Fine none = refl
none_added e told.Nothing none = refl
none_added e (told.Flushing job) none = refl
none_added e (told.Compacting job) none = refl
none_added e (told.Looked look) none = refl
none_added e (told.Page bytes) none = refl
none_added e (told.Refused why) none = refl

-- what adds nothing leaves the row as it is
stays : (h h' : History) (ns : List ℕ) → h' ≡ h → AreInARow (count_of h') ns → AreInARow (count_of h) ns
stays h h' ns same row = subst (λ (g : History). AreInARow (count_of g) ns) same row

-- so does an event that is no push
no_push : (e : Event) (r : StepReply) (h h' : History) (ns : List ℕ) → asked_entry e ≡ None → h' ≡ history_after e r h → AreInARow (count_of h') ns → AreInARow (count_of h) ns
no_push e r h h' ns none after row = stays h h' ns (after ∙ ap (λ (o : Option Added). with_entry o h) (none_added e r none)) row

-- the number that an event gives goes before the row of those after it
goes_on : (e : Event) (r : StepReply) (h h' : History) (ns : List ℕ) → h' ≡ history_after e r h → TellsLength e r h → AreInARow (count_of h') ns
    → AreInARow (count_of h) (given_by e r ++ ns)
goes_on (event.Push spans moment) (told.Count n) h h' ns after tells row =
    (tells, subst (λ (k : ℕ). AreInARow k ns) (ap count_of after ∙ grown_count h (push_of spans ∷ [])) row)
goes_on (event.Push spans moment) told.Fine h h' ns after tells row = stays h h' ns after row
goes_on (event.Push spans moment) told.Nothing h h' ns after tells row = stays h h' ns after row
goes_on (event.Push spans moment) (told.Flushing job) h h' ns after tells row = stays h h' ns after row
goes_on (event.Push spans moment) (told.Compacting job) h h' ns after tells row = stays h h' ns after row
goes_on (event.Push spans moment) (told.Looked look) h h' ns after tells row = stays h h' ns after row
goes_on (event.Push spans moment) (told.Page bytes) h h' ns after tells row = stays h h' ns after row
goes_on (event.Push spans moment) (told.Refused why) h h' ns after tells row = stays h h' ns after row
goes_on (event.Cut moment) r h h' ns after tells row = no_push (event.Cut moment) r h h' ns refl after row
goes_on event.CutAll r h h' ns after tells row = no_push event.CutAll r h h' ns refl after row
goes_on event.Held r h h' ns after tells row = no_push event.Held r h h' ns refl after row
goes_on event.BeginFlush r h h' ns after tells row = no_push event.BeginFlush r h h' ns refl after row
goes_on event.BeginCompact r h h' ns after tells row = no_push event.BeginCompact r h h' ns refl after row
goes_on (event.WritePiece job file bytes) r h h' ns after tells row = no_push (event.WritePiece job file bytes) r h h' ns refl after row
goes_on (event.CommitFlush job size) r h h' ns after tells row = no_push (event.CommitFlush job size) r h h' ns refl after row
goes_on (event.CommitCompact job size) r h h' ns after tells row = no_push (event.CommitCompact job size) r h h' ns refl after row
goes_on (event.DropFlush job) r h h' ns after tells row = no_push (event.DropFlush job) r h h' ns refl after row
goes_on (event.DropCompact job) r h h' ns after tells row = no_push (event.DropCompact job) r h h' ns refl after row
goes_on event.Look r h h' ns after tells row = no_push event.Look r h h' ns refl after row
goes_on (event.ReadPage pin block page) r h h' ns after tells row = no_push (event.ReadPage pin block page) r h h' ns refl after row
goes_on (event.Done pin) r h h' ns after tells row = no_push (event.Done pin) r h h' ns refl after row
goes_on event.Reclaim r h h' ns after tells row = no_push event.Reclaim r h h' ns refl after row

-- the numbers that legal calls give are in a row from the length of the history on
legally_in_a_row : (before after : ℕ) (m m' : Machine) (es : List Entry) → Legal before m es after m' → AreInARow (count_of m.history) (given_numbers (map call_of es))
legally_in_a_row before after m m' [] legal = tt
legally_in_a_row before after m m' (e ∷ es) legal =
    let tells = step_tells before e.after m legal.0 e.event e.reply legal.3 in
    goes_on e.event e.reply m.history legal.0.history (given_numbers (map call_of es)) tells.0 tells.1 (legally_in_a_row e.after after legal.0 m' es legal.4)

-- ---- calls that push nothing

given_append : (front back : List Call) → given_numbers (front ++ back) ≡ given_numbers front ++ given_numbers back
given_append [] back = refl
given_append (c ∷ front) back =
    ap (λ (ns : List ℕ). given_by c.event c.reply ++ ns) (given_append front back) ∙ sym (append_assoc (given_by c.event c.reply) (given_numbers front) (given_numbers back))

both_none : (front back : List Call) → given_numbers front ≡ [] → given_numbers back ≡ [] → given_numbers (front ++ back) ≡ []
both_none front back first second = given_append front back ∙ (ap (λ (ns : List ℕ). ns ++ given_numbers back) first ∙ second)

flush_gives_none : {calls : List Call} {r : Round} (at : Stage) → Leads at calls r → given_numbers calls ≡ []
flush_gives_none at leads.nothing = refl
flush_gives_none at (leads.no_job why) = refl
flush_gives_none at (leads.job number file rows rest) = flush_gives_none (stage.Begun number file rows) rest
flush_gives_none at (leads.starved number file rows) = refl
flush_gives_none at (leads.built number file rows bytes info block rest) = flush_gives_none (stage.Writing number file bytes info.rows) rest
flush_gives_none at (leads.written number file bytes size some rest) = flush_gives_none (stage.Writing number file (drop 65536 bytes) size) rest
flush_gives_none at (leads.unwritten number file bytes size why some rest) = flush_gives_none (stage.Failing number (write_cause why)) rest
flush_gives_none at (leads.listed number file size) = refl
flush_gives_none at (leads.unlisted number file size why) = refl
flush_gives_none at (leads.dropped number why) = refl
flush_gives_none at (leads.over last) = refl

compact_gives_none : {calls : List Call} {r : Round} (at : CompactStage) → CompactLeads at calls r → given_numbers calls ≡ []
compact_gives_none at joins.nothing = refl
compact_gives_none at (joins.no_job why) = refl
compact_gives_none at (joins.begun job rest) = compact_gives_none (joining.Reading job [] job.blocks 0 []) rest
compact_gives_none at (joins.read job parts info infos pages bytes page more rest) =
    compact_gives_none (joining.Reading job parts (info ∷ infos) (pages + 1) (bytes ++ page)) rest
compact_gives_none at (joins.unread job parts info infos pages bytes more rest) = compact_gives_none (joining.Failing job.number Fault) rest
compact_gives_none at (joins.block job parts info infos pages bytes rows all is rest) =
    compact_gives_none (joining.Reading job (parts ++ rows ∷ []) infos 0 []) rest
compact_gives_none at (joins.no_block job parts info infos pages bytes place all is rest) =
    compact_gives_none (joining.Failing job.number (NotBlock info.file place)) rest
compact_gives_none at (joins.starved job parts infos pages bytes rest) = compact_gives_none (joining.Failing job.number Memory) rest
compact_gives_none at (joins.built job parts pages read bytes info is rest) = compact_gives_none (joining.Writing job bytes info.rows) rest
compact_gives_none at (joins.written job bytes size some rest) = compact_gives_none (joining.Writing job (drop 65536 bytes) size) rest
compact_gives_none at (joins.unwritten job bytes size why some rest) = compact_gives_none (joining.Failing job.number (write_cause why)) rest
compact_gives_none at (joins.listed job size) = refl
compact_gives_none at (joins.unlisted job size why) = refl
compact_gives_none at (joins.dropped number why) = refl
compact_gives_none at (joins.over last) = refl

reads_give_none : (pin : ℕ) (files : List ℕ) (calls : List Call) → AreReads pin files calls → given_numbers calls ≡ []
reads_give_none pin files [] none = refl
reads_give_none pin files (c ∷ calls) ((file, page, bytes, among, is), rest) =
    ap (λ (x : Call). given_by x.event x.reply ++ given_numbers calls) is ∙ reads_give_none pin files calls rest

pages_give_none : (pin : ℕ) (files : List ℕ) (failed : Bool) (calls : List Call) → ReadsPages pin files failed calls → given_numbers calls ≡ []
pages_give_none pin files false calls are = reads_give_none pin files calls are
pages_give_none pin files true calls (reads, file, page, are, among, is) =
    ap given_numbers is ∙ both_none reads (call (event.ReadPage pin file page) (told.Refused cause.Fault) ∷ []) (reads_give_none pin files reads are) refl

query_gives_none : {A : Type 0} (tells : ℕ → List Row → A → Type 0) (r : Result A QueryError) (calls : List Call) → IsAsked tells r calls → given_numbers calls ≡ []
query_gives_none tells r calls (inl (are, memory)) = ap given_numbers are
query_gives_none tells r calls (inr (look, reads, are, pages, comes)) =
    ap given_numbers are
    ∙ both_none reads (call (event.Done look.pin) told.Fine ∷ []) (pages_give_none look.pin (info_files look.blocks) (is_fault r) reads pages) refl

-- ---- what replies tell

trace_tells_none : (answer : Result TraceAnswer QueryError) → told_by_reply (trace_reply answer) ≡ []
trace_tells_none (Ok answer) = refl
trace_tells_none (Err why) = refl

search_tells_none : (asked : Asked) (answer : Result SearchAnswer QueryError) (r : Reply) → IsSearchTold asked answer r → told_by_reply r ≡ []
search_tells_none asked (Ok answer) r (inl is) = ap told_by_reply is
search_tells_none asked (Ok answer) r (inr is) = ap told_by_reply is
search_tells_none asked (Err why) r is = ap told_by_reply is

metrics_tells_none : (start end step : ℕ) (rate : Bool) (answer : Result SearchAnswer QueryError) (r : Reply) → AreSeriesTold start end step rate answer r → told_by_reply r ≡ []
metrics_tells_none start end step rate (Ok answer) r (inl (series, are, is)) = ap told_by_reply is
metrics_tells_none start end step rate (Ok answer) r (inr is) = ap told_by_reply is
metrics_tells_none start end step rate (Err why) r is = ap told_by_reply is

cut_tells_none : (answer : Result ℕ Starved) → (told_by_reply (cut_reply session.Cut answer) ≡ []) × (told_by_reply (cut_reply session.CutAll answer) ≡ [])
cut_tells_none (Ok moved) = (refl, refl)
cut_tells_none (Err why) = (refl, refl)

flush_tells_none : (r : Round) → told_by_reply (flush_reply r) ≡ []
flush_tells_none (round.Did blocks rows) = refl
flush_tells_none round.Nothing = refl
flush_tells_none (round.Refused why) = refl

compact_tells_none : (r : Round) → told_by_reply (compact_reply r) ≡ []
compact_tells_none (round.Did blocks rows) = refl
compact_tells_none round.Nothing = refl
compact_tells_none (round.Refused why) = refl

reclaim_tells_none : (answer : Result ℕ ReclaimError) → told_by_reply (reclaimed_reply answer) ≡ []
reclaim_tells_none (Ok files) = refl
reclaim_tells_none (Err why) = refl

-- ---- a script

-- neither tells nor gives a number
neither : (r : Reply) (calls : List Call) → told_by_reply r ≡ [] → given_numbers calls ≡ [] → told_by_reply r ≡ given_numbers calls
neither r calls tells gives = tells ∙ sym gives

push_is_told : (reading : Reading) (moment : ℕ) (r : Reply) (calls : List Call) (answer : Result ℕ PushError) → r ≡ pushed_reply reading answer
    → calls ≡ call (event.Push reading.batch.spans moment) (push_reply answer) ∷ [] → told_by_reply r ≡ given_numbers calls
push_is_told reading moment r calls (Ok number) is are = ap told_by_reply is ∙ sym (ap given_numbers are)
push_is_told reading moment r calls (Err why) is are = ap told_by_reply is ∙ sym (ap given_numbers are)

item_is_told : (item : Item) (r : Reply) (calls : List Call) → IsItemAnswered item r calls → told_by_reply r ≡ given_numbers calls
item_is_told (Err why) r calls (is, none) = neither r calls (ap told_by_reply is) (ap given_numbers none)
item_is_told (Ok (request.Push reading moment)) r calls (answer, is, are) = push_is_told reading moment r calls answer is are
item_is_told (Ok (request.Trace id)) r calls (answer, is, asked) =
    neither r calls (ap told_by_reply is ∙ trace_tells_none answer) (query_gives_none (IsTraceAnswer id) answer calls asked)
item_is_told (Ok (request.Search s)) r calls (answer, is, asked) =
    neither r calls (search_tells_none (asked_of s) answer r is) (query_gives_none (IsSearchAnswer (asked_of s)) answer calls asked)
item_is_told (Ok (request.Metrics m)) r calls (answer, is, asked) =
    neither r calls (metrics_tells_none m.start m.end m.step m.rate answer r is) (query_gives_none (IsSearchAnswer (counted_of m)) answer calls asked)
item_is_told (Ok (request.Cut moment)) r calls (answer, is, are) = neither r calls (ap told_by_reply is ∙ (cut_tells_none answer).0) (ap given_numbers are)
item_is_told (Ok request.CutAll) r calls (answer, is, are) = neither r calls (ap told_by_reply is ∙ (cut_tells_none answer).1) (ap given_numbers are)
item_is_told (Ok request.Flush) r calls (last, is, goes) =
    neither r calls (ap told_by_reply is ∙ flush_tells_none last) (flush_gives_none stage.Fresh goes)
item_is_told (Ok request.Compact) r calls (last, is, goes) =
    neither r calls (ap told_by_reply is ∙ compact_tells_none last) (compact_gives_none joining.Fresh goes)
item_is_told (Ok request.Reclaim) r calls (answer, is, are) = neither r calls (ap told_by_reply is ∙ reclaim_tells_none answer) (ap given_numbers are)

items_are_told : (items : List Item) (replies : List Reply) (calls : List Call) → AreItemsAnswered items replies calls → told_numbers replies ≡ given_numbers calls
items_are_told [] replies calls (none, made) = ap told_numbers none ∙ sym (ap given_numbers made)
items_are_told (item ∷ items) [] calls none = absurd none
items_are_told (item ∷ items) (r ∷ replies) calls (now, later, are, first, rest) =
    let here = item_is_told item r now first in
    let after = items_are_told items replies later rest in
    let both : told_numbers (r ∷ replies) ≡ given_numbers now ++ given_numbers later = λ i. here i ++ after i in
    both ∙ sym (ap given_numbers are ∙ given_append now later)

are_theirs : (client : ℕ) (scripts : List (List Item)) (answers : List Answered) (es : List Entry) → AreServed client scripts answers es → AreTheirs client answers es
are_theirs client [] answers es none = subst (λ (xs : List Answered). AreTheirs client xs es) (sym none) tt
are_theirs client (script ∷ scripts) [] es none = absurd none
are_theirs client (script ∷ scripts) (answered ∷ answers) es served = (
  items_are_told (take (reply_count answered) script) answered.replies.items (map call_of (own (client ∷ []) es)) served.0.first,
  are_theirs (client + 1) scripts answers es served.1,
)

pub are_numbered : {D : Type 0} (g : Ghosts D) (old new : Core D) (es : List Entry) (scripts : List (List Item)) (answers : List Answered)
    → AreCallsOf g old es new → AreServed 0 scripts answers es → (m : Machine) → CoreStandsFor g old m → AreNumbered (count_of m.history) es answers
are_numbered g old new es scripts answers calls served m stands =
    let lead = calls.stands m stands in record {
      in_a_row = legally_in_a_row (g.faults old.disk) (g.faults new.disk) m lead.0 es lead.3;
      theirs = are_theirs 0 scripts answers es served;
    }
