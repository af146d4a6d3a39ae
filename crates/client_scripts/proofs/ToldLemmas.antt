-- What a client is told over a seat, of the history that all calls make.
use Rattle.std.proofs.Common.{◌≡◌, inl, inr, ℕ, ◌+◌, ◌≤◌, max, List, [], ◌∷◌, ◌++◌, Option, Some, None, Result, Ok, Err, length, refl, sym, ◌∙◌, ap, subst, arith}
use Rattle.std.specs.Prelude.{IsTrue}
use Rattle.std.proofs.lemmas.List.{append_assoc, length-append}
use Rattle.std.proofs.lemmas.Option.{same_Some}
use Rattle.span_types.specs.declared.errors.Memory.{Memory as Starved}
use Rattle.span_types.specs.declared.ids.TraceId.{TraceId}
use Rattle.span_types.specs.declared.spans.Row.{Row}
use Rattle.store_entries.specs.declared.entry.Entry.{Entry as Added}
use Rattle.store_model.specs.History.{History, count_of, grown, history_rows, push_of}
use Rattle.store_model.specs.Told.{added_entry}
use Rattle.store_model.proofs.KeepsHolds.{grown_up}
use Rattle.store_model.specs.Event.{Event as event}
use Rattle.store_state.specs.Made.{AreMade, Call, call}
use Rattle.store_state.specs.Meaning.{Meaning, View}
use Rattle.store_state.specs.Replies.{push_reply}
use Rattle.store_state.specs.declared.errors.PushError.{PushError}
use Rattle.store_state.specs.declared.errors.ReclaimError.{ReclaimError}
use Rattle.store_state.specs.declared.rounds.Round.{Round}
use Rattle.store_state.specs.declared.rounds.Round.TheVariants as round
use Rattle.port_history.specs.Entries.{Entry, added_by, and_added, history_from}
use Rattle.port_history.proofs.Chains.{from_is_grown, history_append}
use Rattle.query_fanout.specs.Queries.{IsGrown, Sound, TellsOf}
use Rattle.query_fanout.specs.SearchAnswers.{IsSearchAnswer}
use Rattle.query_fanout.specs.TraceAnswers.{IsTraceAnswer}
use Rattle.query_fanout.specs.declared.error.QueryError.{QueryError}
use Rattle.query_fanout.specs.declared.error.QueryError.TheVariants.{Fault, Memory, NotBlock}
use Rattle.query_fanout.specs.declared.searching.Asked.{Asked}
use Rattle.query_fanout.specs.declared.searching.SearchAnswer.{SearchAnswer}
use Rattle.query_fanout.specs.declared.trace.TraceAnswer.{TraceAnswer}
use Rattle.otlp_spans.specs.declared.read.Reading.{Reading}
use Rattle.session_text.specs.declared.reply.Reply.{Reply}
use Rattle.session_text.specs.declared.reply.Reply.TheVariants.{Cut, CutAll}
use Rattle.session_text.specs.declared.request.Request.{Request}
use Rattle.session_text.specs.declared.request.Request.TheVariants as request
use Rattle.session_text.specs.declared.request.Metrics.{Metrics}
use Rattle.session_text.specs.Items.{Item}
use Rattle.client_run.specs.Answers.{HasReplied, IsMetricsTold, IsSearchTold, TellsHistory, asked_of, compact_reply, counted_of, cut_reply, flush_reply, pushed_reply, reclaimed_reply, trace_reply}
use Rattle.shared_store.specs.Seats.{Stand, seat_meaning, told_by}
use Rattle.shared_store.proofs.Both.{same_store, seen_goes_on}
use Rattle.client_scripts.specs.Scripts.{AreAnsweredOver}
use Rattle.client_scripts.specs.Stages.{KnowsOneLength}
use Rattle.client_scripts.specs.Told.{AreTold, BlameNone, IsToldOf, TellsFrom, told_length}
use Rattle.client_scripts.proofs.ScriptLemmas.{by_calls}

-- ---- of a longer history

sound_map : {A : Type 0} (one other : A → Type 0) (r : Result A QueryError) → ((x : A) → one x → other x) → Sound one r → Sound other r
sound_map one other (Ok x) f h = f x h
sound_map one other (Err Fault) f h = tt
sound_map one other (Err (NotBlock file at)) f h = h
sound_map one other (Err Memory) f h = tt

tells_longer : {A : Type 0} (tells : ℕ → List Row → A → Type 0) (least : ℕ) (h : History) (more : List Added) (x : A) → TellsFrom tells least h x → TellsFrom tells least (grown h more) x
tells_longer tells least h more x told = (
  told.0,
  told.1,
  (let size = length-append h.entries more in let low = told.2 in omega (arith, size, low)),
  subst (λ (g : History). tells told.0 (history_rows g) x) (sym (grown_up h more told.0 told.2)) told.3,
)

is_told_longer : (h : History) (more : List Added) (least : ℕ) (asked : Request) (r : Reply) → IsToldOf h least asked r → IsToldOf (grown h more) least asked r
is_told_longer h more least (request.Trace id) r told = (told.0, told.1, sound_map (TellsFrom (IsTraceAnswer id) least h) (TellsFrom (IsTraceAnswer id) least (grown h more)) told.0 (λ x. tells_longer (IsTraceAnswer id) least h more x) told.2)
is_told_longer h more least (request.Search s) r told =
    (told.0, told.1, sound_map (TellsFrom (IsSearchAnswer (asked_of s)) least h) (TellsFrom (IsSearchAnswer (asked_of s)) least (grown h more)) told.0 (λ x. tells_longer (IsSearchAnswer (asked_of s)) least h more x) told.2)
is_told_longer h more least (request.Metrics m) r told =
    (told.0, told.1, sound_map (TellsFrom (IsSearchAnswer (counted_of m)) least h) (TellsFrom (IsSearchAnswer (counted_of m)) least (grown h more)) told.0 (λ x. tells_longer (IsSearchAnswer (counted_of m)) least h more x) told.2)
is_told_longer h more least request.Compact r told = told
is_told_longer h more least (request.Push reading moment) r told = tt
is_told_longer h more least (request.Cut moment) r told = tt
is_told_longer h more least request.CutAll r told = tt
is_told_longer h more least request.Flush r told = tt
is_told_longer h more least request.Reclaim r told = tt

pub are_told_longer : (h : History) (more : List Added) (least : ℕ) (items : List Item) (replies : List Reply) → AreTold h least items replies
    → AreTold (grown h more) least items replies
are_told_longer h more least [] replies told = tt
are_told_longer h more least (item ∷ items) [] told = tt
are_told_longer h more least (Err why ∷ items) (r ∷ replies) told = are_told_longer h more least items replies told
are_told_longer h more least (Ok asked ∷ items) (r ∷ replies) told =
    (is_told_longer h more least asked r told.0, are_told_longer h more (max least (told_length r)) items replies told.1)

-- ---- by a query's own words

tells_from : {A : Type 0} (tells : ℕ → List Row → A → Type 0) (least : ℕ) (h later : History) (x : A) → least ≤ count_of h → TellsOf tells h later x → TellsFrom tells least later x
tells_from tells least h later x low told = (told.0, (let at = told.1 in omega (arith, low, at)), told.2, told.3)

-- what a query tells is told from the length on that was known before it
told_from : (least : ℕ) (h later : History) (asked : Request) (r : Reply) → least ≤ count_of h → TellsHistory h later asked r → IsToldOf later least asked r
told_from least h later (request.Trace id) r low told = (told.0, told.1, sound_map (TellsOf (IsTraceAnswer id) h later) (TellsFrom (IsTraceAnswer id) least later) told.0 (λ x. tells_from (IsTraceAnswer id) least h later x low) told.2)
told_from least h later (request.Search s) r low told =
    (told.0, told.1, sound_map (TellsOf (IsSearchAnswer (asked_of s)) h later) (TellsFrom (IsSearchAnswer (asked_of s)) least later) told.0 (λ x. tells_from (IsSearchAnswer (asked_of s)) least h later x low) told.2)
told_from least h later (request.Metrics m) r low told =
    (told.0, told.1, sound_map (TellsOf (IsSearchAnswer (counted_of m)) h later) (TellsFrom (IsSearchAnswer (counted_of m)) least later) told.0 (λ x. tells_from (IsSearchAnswer (counted_of m)) least h later x low) told.2)
told_from least h later request.Compact r low told = told
told_from least h later (request.Push reading moment) r low told = tt
told_from least h later (request.Cut moment) r low told = tt
told_from least h later request.CutAll r low told = tt
told_from least h later request.Flush r low told = tt
told_from least h later request.Reclaim r low told = tt

-- ---- what a reply tells of the length

nothing_low : (h : History) (r : Reply) → told_length r ≡ 0 → told_length r ≤ count_of h
nothing_low h r none = omega (arith, none)

trace_low : (h : History) (least : ℕ) (id : TraceId) (r : Reply) (answer : Result TraceAnswer QueryError) → r ≡ trace_reply answer
    → Sound (TellsFrom (IsTraceAnswer id) least h) answer → told_length r ≤ count_of h
trace_low h least id r (Ok a) is told =
    let at = told.2 in let count = told.3.count in subst (λ (x : Reply). told_length x ≤ count_of h) (sym is) (omega (arith, at, count))
trace_low h least id r (Err e) is told = subst (λ (x : Reply). told_length x ≤ count_of h) (sym is) (omega arith)

search_low : (h : History) (least : ℕ) (asked : Asked) (r : Reply) (answer : Result SearchAnswer QueryError) → IsSearchTold asked answer r
    → Sound (TellsFrom (IsSearchAnswer asked) least h) answer → told_length r ≤ count_of h
search_low h least asked r (Ok a) (inl is) told =
    let at = told.2 in let count = told.3.count in subst (λ (x : Reply). told_length x ≤ count_of h) (sym is) (omega (arith, at, count))
search_low h least asked r (Ok a) (inr is) told = subst (λ (x : Reply). told_length x ≤ count_of h) (sym is) (omega arith)
search_low h least asked r (Err e) is told = subst (λ (x : Reply). told_length x ≤ count_of h) (sym is) (omega arith)

metrics_low : (h : History) (least : ℕ) (q : Metrics) (r : Reply) (answer : Result SearchAnswer QueryError) → IsMetricsTold q answer r
    → Sound (TellsFrom (IsSearchAnswer (counted_of q)) least h) answer → told_length r ≤ count_of h
metrics_low h least q r (Ok a) (inl is) told =
    let at = told.2 in let count = told.3.count in subst (λ (x : Reply). told_length x ≤ count_of h) (sym is.2) (omega (arith, at, count))
metrics_low h least q r (Ok a) (inr is) told = subst (λ (x : Reply). told_length x ≤ count_of h) (sym is) (omega arith)
metrics_low h least q r (Err e) is told = subst (λ (x : Reply). told_length x ≤ count_of h) (sym is) (omega arith)

-- upkeep tells nothing of it
cut_told : (r : Reply) (answer : Result ℕ Starved) → r ≡ cut_reply Cut answer → told_length r ≡ 0
cut_told r (Ok moved) is = ap told_length is
cut_told r (Err e) is = ap told_length is

cut_all_told : (r : Reply) (answer : Result ℕ Starved) → r ≡ cut_reply CutAll answer → told_length r ≡ 0
cut_all_told r (Ok moved) is = ap told_length is
cut_all_told r (Err e) is = ap told_length is

flush_told : (r : Reply) (ended : Round) → r ≡ flush_reply ended → told_length r ≡ 0
flush_told r (round.Did blocks rows) is = ap told_length is
flush_told r round.Nothing is = ap told_length is
flush_told r (round.Refused why) is = ap told_length is

compact_told : (r : Reply) (ended : Round) → r ≡ compact_reply ended → told_length r ≡ 0
compact_told r (round.Did blocks rows) is = ap told_length is
compact_told r round.Nothing is = ap told_length is
compact_told r (round.Refused why) is = ap told_length is

reclaim_told : (r : Reply) (answer : Result ℕ ReclaimError) → r ≡ reclaimed_reply answer → told_length r ≡ 0
reclaim_told r (Ok files) is = ap told_length is
reclaim_told r (Err why) is = ap told_length is

-- ---- one history

pub grown_count : (h : History) (more : List Added) → count_of (grown h more) ≡ count_of h + length more
grown_count h more = let size = length-append h.entries more in omega (arith, size)

-- of two beginnings of one list that are as long as each other
same_front : {A : Type 0} (a b r q : List A) → a ++ r ≡ b ++ q → length a ≡ length b → a ≡ b
same_front [] [] r q e l = refl
same_front [] (y ∷ b) r q e l = absurd (omega (arith, l))
same_front (x ∷ a) [] r q e l = absurd (omega (arith, l))
same_front (x ∷ a) (y ∷ b) r q e l =
    let heads : x ≡ y = cc in
    let tails : a ++ r ≡ b ++ q = cc in
    let rest = same_front a b r q tails (omega (arith, l)) in λ i. heads i ∷ rest i

abbrev history_of : List Row → ℕ → List Added → History
history_of base start entries = record { base = base; start = start; entries = entries }

-- Two histories that the port may have known as it was first shared, and of which one grew as the other: they are the same.
one_history : (from other : History) (seen more : List Added) (grew : List Added) → count_of from ≡ count_of other
    → grown other (seen ++ more) ≡ grown (grown from seen) grew → other ≡ from
one_history from other seen more grew count same =
    let base : other.base ≡ from.base = ap (λ (h : History). h.base) same in
    let start : other.start ≡ from.start = ap (λ (h : History). h.start) same in
    let entries : other.entries ++ (seen ++ more) ≡ (from.entries ++ seen) ++ grew = ap (λ (h : History). h.entries) same in
    let front : other.entries ≡ from.entries = same_front other.entries from.entries (seen ++ more) (seen ++ grew)
    (entries ∙ append_assoc from.entries seen grew) (omega (arith, count, start)) in
    λ i. history_of (base i) (start i) (front i)

added_append : (a b : List Entry) → added_by (a ++ b) ≡ added_by a ++ added_by b
added_append [] b = refl
added_append (e ∷ a) b = step (added_entry e.event e.reply) (added_append a b)
  where
    step : (o : Option Added) → added_by (a ++ b) ≡ added_by a ++ added_by b → and_added o (added_by (a ++ b)) ≡ and_added o (added_by a) ++ added_by b
    step None rest = rest
    step (Some x) rest = ap (λ (xs : List Added). x ∷ xs) rest

module _ {C : Type 0} (m : Meaning C) (key : C) (one : KnowsOneLength m key) (from : View) (known : m.knows key from) where
  -- what a seat has seen makes this of the history
  abbrev seen_by : Stand C → History
  seen_by s = history_from from.history s.known.seen.entries

  abbrev view_of : Stand C → View
  view_of s = record { history = seen_by s; holds = s.known.seen.holds }

  knows_it : (s : Stand C) → s.known.start ≡ Some key → (seat_meaning m).knows s (view_of s)
  knows_it s start = record { key = key; start = start; from = from; known = known; history = refl; holds = refl }

  -- whichever history a seat knows that grew from this, it is the one that its calls make
  is_it : (s later : Stand C) (more : List Entry) (v : View) → later.known.start ≡ Some key → later.known.seen.entries ≡ s.known.seen.entries ++ more
      → (seat_meaning m).knows later v → IsGrown (seen_by s) v.history → v.history ≡ seen_by later
  is_it s later more v start grew knows grows =
      let same_key : knows.key ≡ key = same_Some knows.key key (sym knows.start ∙ start) in
      let its = subst (λ (k : C). m.knows k knows.from) same_key knows.known in
      let count : count_of from.history ≡ count_of knows.from.history = one from knows.from known its in
      let entries = later.known.seen.entries in
      let added : added_by entries ≡ added_by s.known.seen.entries ++ added_by more = ap added_by grew ∙ added_append s.known.seen.entries more in
      let made : v.history ≡ grown knows.from.history (added_by s.known.seen.entries ++ added_by more) =
      knows.history ∙ from_is_grown knows.from.history entries ∙ ap (grown knows.from.history) added in
      let grown_so : v.history ≡ grown (grown from.history (added_by s.known.seen.entries)) grows.0 =
      grows.1 ∙ ap (λ (h : History). grown h grows.0) (from_is_grown from.history s.known.seen.entries) in
      knows.history ∙ ap (λ (h : History). history_from h entries)
      (one_history from.history knows.from.history (added_by s.known.seen.entries) (added_by more) grows.0 count (sym made ∙ grown_so))

  seen_grows : (s later : Stand C) (more : List Entry) → later.known.seen.entries ≡ s.known.seen.entries ++ more → seen_by later ≡ grown (seen_by s) (added_by more)
  seen_grows s later more grew =
      ap (history_from from.history) grew ∙ history_append from.history s.known.seen.entries more ∙ from_is_grown (seen_by s) more

  -- ---- one item

  item_told : (s later : Stand C) (asked : Request) (r : Reply) (least : ℕ) → s.known.start ≡ Some key → IsTrue (m.tells key) → least ≤ count_of (seen_by s)
      → HasReplied (seat_meaning m) s asked r later → IsToldOf (seen_by later) least asked r
  item_told s later asked r least start tells low replied =
      let told = replied.told (subst (λ (o : Option C). IsTrue (told_by m o)) (sym start) tells) (view_of s) (knows_it s start) in
      let goes = seen_goes_on m s later replied.calls replied.made in
      let store = same_store m s later replied.calls replied.made in
      subst (λ (h : History). IsToldOf h least asked r) (is_it s later goes.0 told.0 (store.1 ∙ start) goes.1 told.1 told.2)
      (told_from least (seen_by s) told.0.history asked r low told.3)

  -- a push has its number in the history that its seat knows then
  push_low : (s later : Stand C) (reading : Reading) (moment : ℕ) (r : Reply) (answer : Result ℕ PushError) → s.known.start ≡ Some key
      → r ≡ pushed_reply reading answer → AreMade (seat_meaning m) s (call (event.Push reading.batch.spans moment) (push_reply answer) ∷ []) later
      → told_length r ≤ count_of (seen_by later)
  push_low s later reading moment r (Err why) start is made = subst (λ (x : Reply). told_length x ≤ count_of (seen_by later)) (sym is) (omega arith)
  push_low s later reading moment r (Ok number) start is made =
      let learnt = made.1.learns (view_of s) (knows_it s start) in
      let others = learnt.2.0 in
      let spans = push_of reading.batch.spans in
      let grew : learnt.0.history ≡ grown (seen_by s) (others ++ spans ∷ []) =
      learnt.2.1 ∙ ap (history_of (seen_by s).base (seen_by s).start) (append_assoc (seen_by s).entries others (spans ∷ [])) in
      let goes = seen_goes_on m s made.0 (call (event.Push reading.batch.spans moment) (push_reply (Ok number)) ∷ []) (made.0, made.1, refl) in
      let store = same_store m s made.0 (call (event.Push reading.batch.spans moment) (push_reply (Ok number)) ∷ []) (made.0, made.1, refl) in
      let now : learnt.0.history ≡ seen_by made.0 = is_it s made.0 goes.0 learnt.0 (store.1 ∙ start) goes.1 learnt.1 (others ++ spans ∷ [], grew) in
      let count : count_of learnt.0.history ≡ count_of (grown (grown (seen_by s) others) (spans ∷ [])) = ap count_of learnt.2.1 in
      let more = grown_count (grown (seen_by s) others) (spans ∷ []) in
      let its : number ≡ count_of (grown (seen_by s) others) = learnt.2.2 in
      let low : number + 1 ≤ count_of learnt.0.history = omega (arith, count, more, its) in
      subst (λ (x : Reply). told_length x ≤ count_of (seen_by later)) (sym is)
      (subst (λ (h : History). number + 1 ≤ count_of h) (now ∙ ap seen_by (sym made.2)) low)

  -- ---- a script

  reply_low : (s later : Stand C) (asked : Request) (r : Reply) (least : ℕ) → s.known.start ≡ Some key → HasReplied (seat_meaning m) s asked r later
      → IsToldOf (seen_by later) least asked r → told_length r ≤ count_of (seen_by later)
  reply_low s later (request.Push reading moment) r least start replied told =
      let answered = replied.answered in
      push_low s later reading moment r answered.0 start answered.1
      (subst (λ (cs : List Call). AreMade (seat_meaning m) s cs later) answered.2 replied.made)
  reply_low s later (request.Trace id) r least start replied told = trace_low (seen_by later) least id r told.0 told.1 told.2
  reply_low s later (request.Search q) r least start replied told = search_low (seen_by later) least (asked_of q) r told.0 told.1 told.2
  reply_low s later (request.Metrics q) r least start replied told = metrics_low (seen_by later) least q r told.0 told.1 told.2
  reply_low s later (request.Cut moment) r least start replied told = nothing_low (seen_by later) r (cut_told r replied.answered.0 replied.answered.1)
  reply_low s later request.CutAll r least start replied told = nothing_low (seen_by later) r (cut_all_told r replied.answered.0 replied.answered.1)
  reply_low s later request.Flush r least start replied told = nothing_low (seen_by later) r (flush_told r replied.answered.0 replied.answered.1)
  reply_low s later request.Compact r least start replied told = nothing_low (seen_by later) r (compact_told r replied.answered.0 replied.answered.1)
  reply_low s later request.Reclaim r least start replied told = nothing_low (seen_by later) r (reclaim_told r replied.answered.0 replied.answered.1)

  pub script_told : (s last : Stand C) (items : List Item) (replies : List Reply) (least : ℕ) → s.known.start ≡ Some key → IsTrue (m.tells key) → least ≤ count_of (seen_by s)
      → AreAnsweredOver (seat_meaning m) s items replies last → AreTold (seen_by last) least items replies
  script_told s last [] replies least start tells low are = tt
  script_told s last (item ∷ items) [] least start tells low are = tt
  script_told s last (Err why ∷ items) (r ∷ replies) least start tells low are =
      script_told are.0 last items replies least (ap (λ (x : Stand C). x.known.start) are.1.1 ∙ start) tells
      (subst (λ (x : Stand C). least ≤ count_of (seen_by x)) (sym are.1.1) low) are.2
  script_told s last (Ok asked ∷ items) (r ∷ replies) least start tells low are =
      let now = are.0 in
      let replied = are.1 in
      let here = item_told s now asked r least start tells low replied in
      let store = same_store m s now replied.calls replied.made in
      let goes = seen_goes_on m s now replied.calls replied.made in
      let grew = ap count_of (seen_grows s now goes.0 goes.1) ∙ grown_count (seen_by s) (added_by goes.0) in
      let high = reply_low s now asked r least start replied here in
      let rest = by_calls (seat_meaning m) now last items replies are.2 in
      let later = seen_goes_on m now last rest.0 rest.1 in (
        subst (λ (h : History). IsToldOf h least asked r) (sym (seen_grows now last later.0 later.1))
            (is_told_longer (seen_by now) (added_by later.0) least asked r here),
        script_told now last items replies (max least (told_length r)) (store.1 ∙ start) tells (omega (arith, low, grew, high)) are.2,
      )

-- Over a seat whose port showed its bytes as it was first shared, no reply to a request blames a block.
module _ {C : Type 0} (m : Meaning C) where
  pub script_blames : (s last : Stand C) (items : List Item) (replies : List Reply) → IsTrue (told_by m s.known.start)
      → AreAnsweredOver (seat_meaning m) s items replies last → BlameNone items replies
  script_blames s last [] replies tells are = tt
  script_blames s last (item ∷ items) [] tells are = tt
  script_blames s last (Err why ∷ items) (r ∷ replies) tells are =
      script_blames are.0 last items replies (subst (λ (x : Stand C). IsTrue (told_by m x.known.start)) (sym are.1.1) tells) are.2
  script_blames s last (Ok asked ∷ items) (r ∷ replies) tells are =
      let replied = are.1 in
      let store = same_store m s are.0 replied.calls replied.made in (
        replied.whole tells,
        script_blames are.0 last items replies (subst (λ (o : Option C). IsTrue (told_by m o)) (sym store.1) tells) are.2,
      )
