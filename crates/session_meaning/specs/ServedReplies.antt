-- Words for the replies to several clients.
use Rattle.std.specs.Prelude.{◌≡◌, ⊤, ℕ, zero, suc, ◌+◌, ◌<◌, ◌≤◌, max, Bool, true, false, List, [], ◌∷◌, ◌++◌, map, Some, Ok, Err, length}
use Rattle.std.specs.List.{Contains}
use Rattle.client_run.specs.Answers.{asked_of, counted_of}
use Rattle.client_scripts.specs.Numbers.{AreNumbered}
use Rattle.client_scripts.specs.Told.{told_length}
use Rattle.client_scripts.specs.declared.script.Answered.{Answered}
use Rattle.port_history.specs.Entries.{Entry, added_by, call_of, own}
use Rattle.search_text.specs.Fields.{printed_fields}
use Rattle.session_text.specs.declared.reply.Reply.{Reply}
use Rattle.session_text.specs.declared.reply.Reply.TheVariants.{Measured, Refused, Searched, Traced}
use Rattle.session_text.specs.declared.request.Request.{Request}
use Rattle.session_text.specs.declared.request.Request.TheVariants as request
use Rattle.session_text.specs.Items.{Item}
use Rattle.span_types.specs.First.{IsFirstOf}
use Rattle.span_types.specs.declared.spans.Row.{Row}
use Rattle.spanset_eval.specs.declared.results.TraceResult.{TraceResult}
use Rattle.store_model.specs.After.{after_commit_compact, job_files}
use Rattle.store_model.specs.Choice.{in_files}
use Rattle.store_model.specs.History.{History, count_of, grown, up_to}
use Rattle.store_model.specs.State.{Compaction, block_rows}
use Rattle.store_model.specs.Step.{Machine, with_state}
use Rattle.store_state.specs.Made.{Call}
use Rattle.traceql_metrics.specs.Series.{AreSeries}
use Rattle.traceql_syntax.specs.Trees.{query_tree}
use Rattle.session_meaning.specs.Answering.{AreItemsAnswered}
use Rattle.session_meaning.specs.At.{At}
use Rattle.session_meaning.specs.Pushes.{HasRoomNow, accepted_entries}
use Rattle.session_meaning.specs.Serving.{EntriesLead, IsMade}
use Rattle.session_meaning.specs.Session.{IsFound, IsTraceIn, is_refusal, is_refused}

-- Among the replies to these items this one is the reply to this item, and the items before it were these, with these replies.
abbrev pub IsReplyTo : List Item → List Reply → (asked : List Item) → (got : List Reply) → Item → Reply → Type 0
IsReplyTo [] replies asked got item reply = ⊥
IsReplyTo (i ∷ items) [] asked got item reply = ⊥
IsReplyTo (i ∷ items) (r ∷ replies) [] [] item reply = (i ≡ item) × (r ≡ reply)
IsReplyTo (i ∷ items) (r ∷ replies) [] (g ∷ got) item reply = ⊥
IsReplyTo (i ∷ items) (r ∷ replies) (a ∷ asked) [] item reply = ⊥
IsReplyTo (i ∷ items) (r ∷ replies) (a ∷ asked) (g ∷ got) item reply = (i ≡ a) × (r ≡ g) × IsReplyTo items replies asked got item reply

-- The client with this number asked these items and got these replies; and then it asked this one and got this reply.
abbrev pub WasReplied : List (List Item) → List Answered → (client : ℕ) → (asked : List Item) → (got : List Reply) → Item → Reply → Type 0
WasReplied [] answers client asked got item reply = ⊥
WasReplied (script ∷ scripts) [] client asked got item reply = ⊥
WasReplied (script ∷ scripts) (answered ∷ answers) zero asked got item reply = IsReplyTo script answered.replies.items asked got item reply
WasReplied (script ∷ scripts) (answered ∷ answers) (suc client) asked got item reply = WasReplied scripts answers client asked got item reply

-- A call of this client, among those of all clients: those before it and after it, and where the store stands just before it and just after
-- it. Of the client's own calls those before it are the ones by which these items were answered so, and then these ones.
pub record CallPlace (told : Bool) (first : At) (entries : List Entry) (last : At) (client : ℕ) (asked : List Item) (got : List Reply) (front : List Call) : Type 0 where
  pub earlier : List Entry
  pub entry : Entry
  pub later : List Entry
  pub entries_are : entries ≡ earlier ++ entry ∷ later
  pub its : entry.seat ≡ client
  pub answers : List Call
  pub asked_before : AreItemsAnswered asked got answers
  pub own_before : map call_of (own (client ∷ []) earlier) ≡ answers ++ front
  pub before : At
  pub after : At
  pub to : EntriesLead told first earlier before
  pub made : IsMade told before entry after
  pub from : EntriesLead told after later last

-- It is answered by one call of the store.
abbrev pub TakesOneCall : Item → Type 0
TakesOneCall (Ok (request.Push reading moment)) = ⊤
TakesOneCall (Ok (request.Cut moment)) = ⊤
TakesOneCall (Ok request.CutAll) = ⊤
TakesOneCall (Ok request.Reclaim) = ⊤
TakesOneCall _ = ⊥

-- A block was listed in the place of those that the compaction which is open has pinned. It holds the first occurrences of their rows,
-- which were counted where what the blocks hold is told.
pub record ListsBlock (told : Bool) (m : Machine) (count : ℕ) (m' : Machine) : Type 0 where
  pub job : Compaction
  pub is_open : m.state.compaction ≡ Some job
  pub rows : List Row
  pub of_blocks : IsFirstOf (block_rows (in_files (job_files job m.state) m.state.blocks)) rows
  pub counted : told ≡ true → count ≡ length rows
  pub leaves : m' ≡ with_state (after_commit_compact job count rows m.state) m

-- What is asked has its part of what keeps a run from being refused: it is in order; a push has room just before its call; and a flush or a
-- compaction isn't refused, as for a job of another client that is open.
abbrev pub HasItsPart : Bool → At → List Entry → At → (client : ℕ) → (asked : List Item) → (got : List Reply) → Item → Reply → Type 0
HasItsPart told first entries last client asked got (Ok (request.Push reading moment)) reply =
    (place : CallPlace told first entries last client asked got []) → HasRoomNow (Ok (request.Push reading moment)) place.before.machine
HasItsPart told first entries last client asked got (Ok request.Flush) reply = is_refusal reply ≡ false
HasItsPart told first entries last client asked got (Ok request.Compact) reply = is_refusal reply ≡ false
HasItsPart told first entries last client asked got (Ok request) reply = ⊤
HasItsPart told first entries last client asked got (Err why) reply = is_refused (Err why) ≡ false

-- They ask nothing.
abbrev pub AskNothing : List (List Item) → Type 0
AskNothing [] = ⊤
AskNothing (script ∷ scripts) = (script ≡ []) × AskNothing scripts

-- A query tells of a front of this history, of as many entries as its reply says, and at least of so many; or it is refused. It is told
-- nothing else.
abbrev pub TellsFrontFrom : History → ℕ → Request → Reply → Type 0
TellsFrontFrom h least (request.Trace id) (Traced as_of rows) = (least ≤ as_of) × (as_of ≤ count_of h) × IsTraceIn id (up_to as_of h) rows
TellsFrontFrom h least (request.Trace id) (Refused why) = ⊤
TellsFrontFrom h least (request.Trace id) _ = ⊥
TellsFrontFrom h least (request.Search s) (Searched as_of fields results) =
    (least ≤ as_of) × (as_of ≤ count_of h) × (fields ≡ printed_fields (query_tree s.checked.query))
    × IsFound (asked_of s) (up_to as_of h) results
TellsFrontFrom h least (request.Search s) (Refused why) = ⊤
TellsFrontFrom h least (request.Search s) _ = ⊥
TellsFrontFrom h least (request.Metrics m) (Measured as_of series) =
    (least ≤ as_of) × (as_of ≤ count_of h)
    × ((results : List TraceResult) × IsFound (counted_of m) (up_to as_of h) results × AreSeries results m.start m.end m.step m.rate series)
TellsFrontFrom h least (request.Metrics m) (Refused why) = ⊤
TellsFrontFrom h least (request.Metrics m) _ = ⊥
TellsFrontFrom h least _ _ = ⊤

-- Each query of a client does: of all that it was told of before, by queries and by the numbers of its pushes.
abbrev pub TellFronts : History → ℕ → List Item → List Reply → Type 0
TellFronts h least [] replies = ⊤
TellFronts h least (item ∷ items) [] = ⊤
TellFronts h least (Err why ∷ items) (r ∷ replies) = TellFronts h least items replies
TellFronts h least (Ok asked ∷ items) (r ∷ replies) = TellsFrontFrom h least asked r × TellFronts h (max least (told_length r)) items replies

-- each query of all clients
abbrev pub AllTellFronts : History → ℕ → List (List Item) → List Answered → Type 0
AllTellFronts h least [] answers = ⊤
AllTellFronts h least (script ∷ scripts) [] = ⊤
AllTellFronts h least (script ∷ scripts) (answered ∷ answers) =
    TellFronts h least script answered.replies.items × AllTellFronts h least scripts answers

-- The clients from this number on: what the calls of each added to a history is just its pushes that were accepted, as what it asked and
-- was told has them, in that order.
abbrev pub AreAdded : ℕ → List (List Item) → List Answered → List Entry → Type 0
AreAdded client [] answers entries = answers ≡ []
AreAdded client (script ∷ scripts) [] entries = ⊥
AreAdded client (script ∷ scripts) (answered ∷ answers) entries =
    (added_by (own (client ∷ []) entries) ≡ accepted_entries script answered.replies.items) × AreAdded (client + 1) scripts answers entries

-- The last history is the first one and then what these calls added, in their one order. Each of them is one client's, and what those of a
-- client added is just its accepted pushes, in its order. Each accepted push is told its number in that order.
pub record HasTheirPushes (first last : History) (scripts : List (List Item)) (answers : List Answered) (entries : List Entry) : Type 0 where
  pub grows : last ≡ grown first (added_by entries)
  pub whose : (e : Entry) → Contains entries e → e.seat < length scripts
  pub theirs : AreAdded 0 scripts answers entries
  pub numbered : AreNumbered (count_of first) entries answers
