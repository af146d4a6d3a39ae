-- Which count a query of one of several clients tells, and why it is refused: at its own calls.
use Rattle.std.proofs.Common.{◌≡◌, inl, inr, ◌∙◌, ℕ, Bool, true, false, List, [], ◌∷◌, ◌++◌, None, Some, Result, Ok, Err, ap, refl, sym, subst}
use Rattle.client_run.specs.Answers.{AreSeriesTold, IsSearchTold, asked_of, counted_of, query_refusal, trace_reply}
use Rattle.client_run.specs.CoreRuns.{IsCounted}
use Rattle.client_scripts.specs.Told.{TellsFrom}
use Rattle.client_scripts.specs.declared.script.Answered.{Answered}
use Rattle.disk_model.proofs.CallRuns.{raised_rose}
use Rattle.port_history.specs.Entries.{Entry, call_of}
use Rattle.query_fanout.specs.Queries.{IsAsked, Sound, Taken, look_call, parts_of}
use Rattle.query_fanout.specs.SearchAnswers.{IsSearchAnswer}
use Rattle.query_fanout.specs.TraceAnswers.{IsTraceAnswer}
use Rattle.query_fanout.specs.declared.error.QueryError.{QueryError}
use Rattle.query_fanout.specs.declared.error.QueryError.TheVariants as error
use Rattle.query_fanout.specs.declared.searching.Asked.{Asked}
use Rattle.query_fanout.specs.declared.searching.SearchAnswer.{SearchAnswer}
use Rattle.query_fanout.specs.declared.trace.TraceAnswer.{TraceAnswer}
use Rattle.session_text.specs.declared.refusal.Refusal.{Refusal}
use Rattle.session_text.specs.declared.refusal.Refusal.TheVariants.{DiskFault, Memory, Round as RoundOf}
use Rattle.session_text.specs.declared.reply.Reply.{Reply}
use Rattle.session_text.specs.declared.reply.Reply.TheVariants.{Refused}
use Rattle.session_text.specs.declared.request.Request.TheVariants as request
use Rattle.session_text.specs.Items.{Item}
use Rattle.span_types.specs.declared.spans.Row.{Row}
use Rattle.store_model.specs.Event.{Event as event, Reply as reply_of, Refusal as cause}
use Rattle.store_model.specs.History.{count_of}
use Rattle.store_model.specs.State.{block_files, is_among}
use Rattle.store_model.specs.Step.{IsLook, Machine, Step}
use Rattle.store_state.specs.Given.{info_files}
use Rattle.store_state.specs.Made.{Call, call}
use Rattle.store_state.specs.declared.rounds.Refusal.TheVariants as round_cause
use Rattle.session_meaning.specs.Answering.{IsItemAnswered}
use Rattle.session_meaning.specs.At.{At, IsStep, history_of}
use Rattle.session_meaning.specs.Causes.{HasQueryCause}
use Rattle.session_meaning.specs.Pushes.{known_pushes}
use Rattle.session_meaning.specs.ServedWhole.{IsQuery}
use Rattle.session_meaning.specs.ServedReplies.{CallPlace, WasReplied}
use Rattle.session_meaning.specs.Serving.{Ran}
use Rattle.session_meaning.proofs.Looks.{look_taken}
use Rattle.session_meaning.proofs.QueryLaws.{looked_same}
use Rattle.session_meaning.proofs.ServedPlaces.{is_answered, mine, place_of}
use Rattle.session_meaning.proofs.ServedRoom.{FailsIn, Tells, in_all, metrics_tells, query_fails, search_tells, trace_tells}

-- ---- a look

-- It tells the history's length and the files of the listed blocks.
look_told : (f g : ℕ) (m m' : Machine) (look : Taken) → Step f g m event.Look (reply_of.Looked (parts_of look)) m'
    → (look.as_of ≡ count_of m.history) × (info_files look.blocks ≡ block_files m.state.blocks)
look_told f g m m' look step =
    let given : IsLook m (reply_of.Looked (parts_of look)) m' = look_taken f g m m' (parts_of look) step in
    let same = looked_same (parts_of look) (record { pin = given.0; files = block_files m.state.blocks; as_of = count_of m.history; rows = given.1 }) given.4 in
    (same.2, same.1)

-- ---- a reply

same_count : (a b : ℕ) → Some a ≡ Some b → a ≡ b
same_count a b e = cc

none_known : (known : ℕ) (r : Reply) (why : Refusal) → r ≡ Refused why → known_pushes r ≡ Some known → ⊥
none_known known r why is e = let none : None ≡ Some known = sym (ap known_pushes is) ∙ e in let bad : ⊥ = cc in bad

-- The count of an answer is the one that is told, and there is an answer.
abbrev Knows : {A : Type 0} → (A → ℕ) → Result A QueryError → ℕ → Type 0
Knows count (Ok x) known = count x ≡ known
Knows count (Err e) known = ⊥

trace_knows : (answer : Result TraceAnswer QueryError) (r : Reply) (known : ℕ) → r ≡ trace_reply answer → known_pushes r ≡ Some known → Knows (λ (y : TraceAnswer). y.as_of) answer known
trace_knows (Ok x) r known is knows = same_count x.as_of known (sym (ap known_pushes is) ∙ knows)
trace_knows (Err e) r known is knows = none_known known r (query_refusal e) is knows

search_knows : (asked : Asked) (answer : Result SearchAnswer QueryError) (r : Reply) (known : ℕ) → IsSearchTold asked answer r → known_pushes r ≡ Some known
    → Knows (λ (y : SearchAnswer). y.as_of) answer known
search_knows asked (Ok x) r known (inl is) knows = same_count x.as_of known (sym (ap known_pushes is) ∙ knows)
search_knows asked (Ok x) r known (inr is) knows = absurd (none_known known r Memory is knows)
search_knows asked (Err e) r known is knows = none_known known r (query_refusal e) is knows

metrics_knows : (start end step : ℕ) (rate : Bool) (answer : Result SearchAnswer QueryError) (r : Reply) (known : ℕ) → AreSeriesTold start end step rate answer r → known_pushes r ≡ Some known
    → Knows (λ (y : SearchAnswer). y.as_of) answer known
metrics_knows start end step rate (Ok x) r known (inl (series, are, is)) knows = same_count x.as_of known (sym (ap known_pushes is) ∙ knows)
metrics_knows start end step rate (Ok x) r known (inr is) knows = absurd (none_known known r Memory is knows)
metrics_knows start end step rate (Err e) r known is knows = none_known known r (query_refusal e) is knows

same_why : (a b : Refusal) → Refused a ≡ Refused b → a ≡ b
same_why a b e = cc

-- What is told of an answer that is none is why; of one that is one it is that memory ran out.
abbrev TellsWhy : {A : Type 0} → Result A QueryError → Refusal → Type 0
TellsWhy (Ok x) why = why ≡ Memory
TellsWhy (Err e) why = why ≡ query_refusal e

trace_why : (answer : Result TraceAnswer QueryError) (why : Refusal) → Refused why ≡ trace_reply answer → TellsWhy answer why
trace_why (Ok x) why is = let bad : ⊥ = cc in absurd bad
trace_why (Err e) why is = same_why why (query_refusal e) is

search_why : (asked : Asked) (answer : Result SearchAnswer QueryError) (why : Refusal) → IsSearchTold asked answer (Refused why) → TellsWhy answer why
search_why asked (Ok x) why (inl is) = let bad : ⊥ = cc in absurd bad
search_why asked (Ok x) why (inr is) = same_why why Memory is
search_why asked (Err e) why is = same_why why (query_refusal e) is

metrics_why : (start end step : ℕ) (rate : Bool) (answer : Result SearchAnswer QueryError) (why : Refusal) → AreSeriesTold start end step rate answer (Refused why) → TellsWhy answer why
metrics_why start end step rate (Ok x) why (inl (series, are, is)) = let bad : ⊥ = cc in absurd bad
metrics_why start end step rate (Ok x) why (inr is) = same_why why Memory is
metrics_why start end step rate (Err e) why is = same_why why (query_refusal e) is

-- Where what the blocks hold is told no query finds that one is none.
unblamed : {B : Type 0} (fits : B → Type 0) (other : Result B QueryError) (file at : ℕ) → Tells other (Refused (RoundOf (round_cause.NotBlock file at))) → Sound fits other → ⊥
unblamed fits (Ok y) file at tells sound = let bad : ⊥ = cc in bad
unblamed fits (Err error.Fault) file at tells sound = let bad : ⊥ = cc in bad
unblamed fits (Err (error.NotBlock f a)) file at tells sound = sound
unblamed fits (Err error.Memory) file at tells sound = let bad : ⊥ = cc in bad

untold : (told : Bool) → (told ≡ true → ⊥) → told ≡ false
untold true none = absurd (none refl)
untold false none = refl

-- ---- among all calls

module _ (told : Bool) (first last : At) (scripts : List (List Item)) (answers : List Answered) (entries : List Entry) (client : ℕ) (asked : List Item) (got : List Reply) (item : Item) (reply : Reply)
    (ran : Ran told first scripts answers entries last) (this : WasReplied scripts answers client asked got item reply) where
  abbrev its : List Call
  its = mine told first last scripts answers entries client asked got item reply ran this

  place_at : (front back : List Call) (x : Call) → its ≡ front ++ x ∷ back
      → (place : CallPlace told first entries last client asked got front) × (call_of place.entry ≡ x) × IsStep place.before x.event x.reply place.after
  place_at front back x are =
      let place = place_of told first last scripts answers entries client asked got item reply ran this front back x are in
      (place.0, place.1, subst (λ (y : Call). IsStep place.0.before y.event y.reply place.0.after) place.1 place.0.made.step)

  -- It tells as many pushes as there are just before its look.
  abbrev TellsLook : ℕ → Type 0
  TellsLook known = (place : CallPlace told first entries last client asked got []) × (place.entry.event ≡ event.Look) × (known ≡ count_of (history_of place.before))

  look_at : {A : Type 0} (tells : ℕ → List Row → A → Type 0) (count : A → ℕ) → ((n : ℕ) (rows : List Row) (x : A) → tells n rows x → count x ≡ n) → (x : A)
      → IsAsked tells (Ok x) its → TellsLook (count x)
  look_at tells count counts x (inl (are, memory)) = let bad : ⊥ = cc in absurd bad
  look_at tells count counts x (inr (look, reads, are, pages, (more, none, fits))) =
      let at = place_at [] (reads ++ call (event.Done look.pin) reply_of.Fine ∷ []) (look_call look) are in
      let looks = look_told at.0.before.faults at.0.after.faults at.0.before.machine at.0.after.machine look at.2.1 in
      (at.0, ap (λ (c : Call). c.event) at.1, counts look.as_of (look.rows ++ more) x fits ∙ looks.0)

  known_at : {A : Type 0} (tells : ℕ → List Row → A → Type 0) (count : A → ℕ) → ((n : ℕ) (rows : List Row) (x : A) → tells n rows x → count x ≡ n) → (known : ℕ)
      → (answer : Result A QueryError) → IsAsked tells answer its → Knows count answer known → TellsLook known
  known_at tells count counts known (Ok x) is knows = subst TellsLook knows (look_at tells count counts x is)
  known_at tells count counts known (Err e) is knows = absurd knows

  -- One of its calls shows why it was refused.
  abbrev ShowsWhy : Refusal → Type 0
  ShowsWhy why =
      (front back : List Call) × (place : CallPlace told first entries last client asked got front)
      × (its ≡ front ++ call_of place.entry ∷ back) × HasQueryCause told why place.before place.after

  shown_at : (why : Refusal) (front back : List Call) (x : Call) → its ≡ front ++ x ∷ back
      → ((before after : At) → IsStep before x.event x.reply after → HasQueryCause told why before after) → ShowsWhy why
  shown_at why front back x are shows =
      let at = place_at front back x are in
      (front, back, at.0, are ∙ ap (λ (y : Call). front ++ y ∷ back) (sym at.1), shows at.0.before at.0.after at.2)

  for_memory : {A : Type 0} (tells : ℕ → List Row → A → Type 0) (r : Result A QueryError) → IsAsked tells r its → ShowsWhy Memory
  for_memory tells r (inl (are, memory)) = shown_at Memory [] [] (call event.Look (reply_of.Refused cause.Memory)) are (λ before after step. tt)
  for_memory tells r (inr (look, reads, are, pages, comes)) =
      shown_at Memory [] (reads ++ call (event.Done look.pin) reply_of.Fine ∷ []) (look_call look) are (λ before after step. tt)

  for_fault : {A : Type 0} (tells : ℕ → List Row → A → Type 0) (r : Result A QueryError) → IsAsked tells r its → r ≡ Err error.Fault → ShowsWhy DiskFault
  for_fault tells r is fault =
      let fails = query_fails tells r its is fault in
      shown_at DiskFault fails.front fails.back fails.c fails.are (λ before after step.
      raised_rose before.faults after.faults (subst (λ (b : Bool). IsCounted b before.faults after.faults) fails.fault step.2))

  for_block : {A : Type 0} (tells : ℕ → List Row → A → Type 0) (file at : ℕ) → IsAsked tells (Err (error.NotBlock file at)) its → told ≡ false
      → ShowsWhy (RoundOf (round_cause.NotBlock file at))
  for_block tells file at (inl (are, memory)) untold = let bad : ⊥ = cc in absurd bad
  for_block tells file at (inr (look, reads, are, pages, among)) untold =
      shown_at (RoundOf (round_cause.NotBlock file at)) [] (reads ++ call (event.Done look.pin) reply_of.Fine ∷ []) (look_call look) are (λ before after step.
      let looks = look_told before.faults after.faults before.machine after.machine look step.1 in
      (untold, subst (λ (files : List ℕ). is_among file files ≡ true) looks.1 among))

  why_at : {A : Type 0} (tells : ℕ → List Row → A → Type 0) (answer : Result A QueryError) (why : Refusal) → IsAsked tells answer its → TellsWhy answer why
      → ((file at : ℕ) → why ≡ RoundOf (round_cause.NotBlock file at) → told ≡ false) → ShowsWhy why
  why_at tells (Ok x) why is because blames = subst ShowsWhy (sym because) (for_memory tells (Ok x) is)
  why_at tells (Err error.Memory) why is because blames = subst ShowsWhy (sym because) (for_memory tells (Err error.Memory) is)
  why_at tells (Err error.Fault) why is because blames = subst ShowsWhy (sym because) (for_fault tells (Err error.Fault) is refl)
  why_at tells (Err (error.NotBlock file at)) why is because blames = subst ShowsWhy (sym because) (for_block tells file at is (blames file at because))

-- ---- the laws

pub look_there : (told : Bool) (first last : At) (scripts : List (List Item)) (answers : List Answered) (entries : List Entry) (client : ℕ) (asked : List Item) (got : List Reply) (item : Item)
    (reply : Reply) (known : ℕ) → Ran told first scripts answers entries last → WasReplied scripts answers client asked got item reply → IsQuery item → known_pushes reply ≡ Some known
    → (place : CallPlace told first entries last client asked got []) × (place.entry.event ≡ event.Look) × (known ≡ count_of (history_of place.before))
look_there told first last scripts answers entries client asked got (Ok (request.Trace id)) reply known ran this query knows =
    let is = is_answered told first last scripts answers entries client asked got (Ok (request.Trace id)) reply ran this in
    known_at told first last scripts answers entries client asked got (Ok (request.Trace id)) reply ran this (IsTraceAnswer id) (λ (y : TraceAnswer). y.as_of) (λ n rows y fits. fits.count) known is.0 is.2
    (trace_knows is.0 reply known is.1 knows)
look_there told first last scripts answers entries client asked got (Ok (request.Search s)) reply known ran this query knows =
    let is = is_answered told first last scripts answers entries client asked got (Ok (request.Search s)) reply ran this in
    known_at told first last scripts answers entries client asked got (Ok (request.Search s)) reply ran this (IsSearchAnswer (asked_of s)) (λ (y : SearchAnswer). y.as_of) (λ n rows y fits. fits.count) known
    is.0 is.2 (search_knows (asked_of s) is.0 reply known is.1 knows)
look_there told first last scripts answers entries client asked got (Ok (request.Metrics m)) reply known ran this query knows =
    let is = is_answered told first last scripts answers entries client asked got (Ok (request.Metrics m)) reply ran this in
    known_at told first last scripts answers entries client asked got (Ok (request.Metrics m)) reply ran this (IsSearchAnswer (counted_of m)) (λ (y : SearchAnswer). y.as_of) (λ n rows y fits. fits.count) known
    is.0 is.2 (metrics_knows m.start m.end m.step m.rate is.0 reply known is.1 knows)
look_there told first last scripts answers entries client asked got (Ok (request.Push reading moment)) reply known ran this query knows = absurd query
look_there told first last scripts answers entries client asked got (Ok (request.Cut moment)) reply known ran this query knows = absurd query
look_there told first last scripts answers entries client asked got (Ok request.CutAll) reply known ran this query knows = absurd query
look_there told first last scripts answers entries client asked got (Ok request.Flush) reply known ran this query knows = absurd query
look_there told first last scripts answers entries client asked got (Ok request.Compact) reply known ran this query knows = absurd query
look_there told first last scripts answers entries client asked got (Ok request.Reclaim) reply known ran this query knows = absurd query
look_there told first last scripts answers entries client asked got (Err why) reply known ran this query knows = absurd query

module _ (told : Bool) (first last : At) (scripts : List (List Item)) (answers : List Answered) (entries : List Entry) (client : ℕ) (asked : List Item) (got : List Reply) where
  -- What a refused query is told, by the one of its calls that shows it.
  abbrev IsShown : Item → Refusal → Type 0
  IsShown item why =
      (front back : List Call) × (place : CallPlace told first entries last client asked got front)
      × IsItemAnswered item (Refused why) (front ++ call_of place.entry ∷ back) × HasQueryCause told why place.before place.after

  as_shown : (item : Item) (why : Refusal) → (ran : Ran told first scripts answers entries last) → (this : WasReplied scripts answers client asked got item (Refused why))
      → ShowsWhy told first last scripts answers entries client asked got item (Refused why) ran this why → IsShown item why
  as_shown item why ran this (front, back, place, are, holds) = (
    front,
    back,
    place,
    subst (λ (cs : List Call). IsItemAnswered item (Refused why) cs) are
        (is_answered told first last scripts answers entries client asked got item (Refused why) ran this),
    holds,
  )

  pub query_shown : (item : Item) (why : Refusal) → Ran told first scripts answers entries last → WasReplied scripts answers client asked got item (Refused why) → IsQuery item → IsShown item why
  query_shown (Ok (request.Trace id)) why ran this query =
      let item : Item = Ok (request.Trace id) in
      let is = is_answered told first last scripts answers entries client asked got item (Refused why) ran this in
      as_shown item why ran this (why_at told first last scripts answers entries client asked got item (Refused why) ran this (IsTraceAnswer id) is.0 why is.2 (trace_why is.0 why is.1)
      (λ file at names. untold told (λ sure.
      let all = in_all (history_of last) (count_of (history_of first)) scripts answers client asked got item (Refused why) (ran.seen sure) this in
      unblamed (TellsFrom (IsTraceAnswer id) all.0 (history_of last)) all.1.0 file at
      (subst (λ (w : Refusal). Tells all.1.0 (Refused w)) names (trace_tells all.1.0 (Refused why) all.1.1)) all.1.2)))
  query_shown (Ok (request.Search s)) why ran this query =
      let item : Item = Ok (request.Search s) in
      let is = is_answered told first last scripts answers entries client asked got item (Refused why) ran this in
      as_shown item why ran this
      (why_at told first last scripts answers entries client asked got item (Refused why) ran this (IsSearchAnswer (asked_of s)) is.0 why is.2 (search_why (asked_of s) is.0 why is.1)
      (λ file at names. untold told (λ sure.
      let all = in_all (history_of last) (count_of (history_of first)) scripts answers client asked got item (Refused why) (ran.seen sure) this in
      unblamed (TellsFrom (IsSearchAnswer (asked_of s)) all.0 (history_of last)) all.1.0 file at
      (subst (λ (w : Refusal). Tells all.1.0 (Refused w)) names (search_tells (asked_of s) all.1.0 (Refused why) all.1.1)) all.1.2)))
  query_shown (Ok (request.Metrics m)) why ran this query =
      let item : Item = Ok (request.Metrics m) in
      let is = is_answered told first last scripts answers entries client asked got item (Refused why) ran this in
      as_shown item why ran this
      (why_at told first last scripts answers entries client asked got item (Refused why) ran this (IsSearchAnswer (counted_of m)) is.0 why is.2 (metrics_why m.start m.end m.step m.rate is.0 why is.1)
      (λ file at names. untold told (λ sure.
      let all = in_all (history_of last) (count_of (history_of first)) scripts answers client asked got item (Refused why) (ran.seen sure) this in
      unblamed (TellsFrom (IsSearchAnswer (counted_of m)) all.0 (history_of last)) all.1.0 file at
      (subst (λ (w : Refusal). Tells all.1.0 (Refused w)) names (metrics_tells m.start m.end m.step m.rate all.1.0 (Refused why) all.1.1)) all.1.2)))
  query_shown (Ok (request.Push reading moment)) why ran this query = absurd query
  query_shown (Ok (request.Cut moment)) why ran this query = absurd query
  query_shown (Ok request.CutAll) why ran this query = absurd query
  query_shown (Ok request.Flush) why ran this query = absurd query
  query_shown (Ok request.Compact) why ran this query = absurd query
  query_shown (Ok request.Reclaim) why ran this query = absurd query
  query_shown (Err because) why ran this query = absurd query
