-- As many replies to several clients tell of a fault of the disk as calls of it failed.
use Rattle.std.proofs.Common.{◌≡◌, ◌⊎◌, inl, inr, ◌∙◌, ℕ, zero, suc, ◌+◌, ◌<◌, ◌≤◌, ◌==◌, ◌||◌, nat_le, Bool, true, false, List, [], ◌∷◌, ◌++◌, map, filter, take, drop, length, Option, Some, Result, Ok, Err, ap, arith, if◌then◌else◌, refl, sym, subst}
use Rattle.std.specs.Prelude.{⊤}
use Rattle.std.specs.List.{list_any, range_with_len}
use Rattle.std.proofs.lemmas.Bool.{le-leb, lt-leb}
use Rattle.client_run.specs.Answers.{AreSeriesTold, IsSearchTold, asked_of, counted_of, trace_reply}
use Rattle.client_run.specs.CoreRuns.{is_fault}
use Rattle.client_scripts.specs.Scripts as by_script
use Rattle.client_scripts.specs.Served.{AreServed}
use Rattle.client_scripts.specs.declared.script.Answered.{Answered}
use Rattle.compactor.specs.Rounds.{Leads as CompactLeads, Stage as CompactStage}
use Rattle.compactor.specs.Rounds.{Leads as joins, Stage as joining}
use Rattle.disk_model.specs.Counts.{RoseBy}
use Rattle.flusher.specs.Rounds.{Leads, Stage}
use Rattle.flusher.specs.Rounds.{Leads as leads, Stage as stage}
use Rattle.port_history.specs.Entries.{Entry, call_of, own}
use Rattle.query_fanout.specs.Queries.{AreReads, IsAsked, ReadsPages, is_fault as asks_fail}
use Rattle.query_fanout.specs.SearchAnswers.{IsSearchAnswer}
use Rattle.query_fanout.specs.TraceAnswers.{IsTraceAnswer}
use Rattle.query_fanout.specs.declared.error.QueryError.{QueryError}
use Rattle.query_fanout.specs.declared.error.QueryError.TheVariants as error
use Rattle.query_fanout.specs.declared.searching.Asked.{Asked}
use Rattle.query_fanout.specs.declared.searching.SearchAnswer.{SearchAnswer}
use Rattle.query_fanout.specs.declared.trace.TraceAnswer.{TraceAnswer}
use Rattle.session_text.specs.declared.reply.Reply.{Reply}
use Rattle.session_text.specs.declared.request.Request.TheVariants as request
use Rattle.session_text.specs.Items.{Item}
use Rattle.span_types.specs.declared.spans.Row.{Row}
use Rattle.store_model.specs.Event.{Event as event, Reply as reply, Refusal as refusal}
use Rattle.store_model.specs.Event.Event.{BeginCompact, BeginFlush, ReadPage, WritePiece}
use Rattle.store_model.specs.Event.Reply.{Fine}
use Rattle.store_model.specs.State.{is_among}
use Rattle.store_model.proofs.Numbers.{below_or_not, equal_itself, same_number}
use Rattle.store_state.specs.Made.{Call, call}
use Rattle.store_state.specs.Replies.{begin_refusal, count_reply, push_reply, reclaim_reply, write_refusal}
use Rattle.store_state.specs.Rounds.{write_cause}
use Rattle.store_state.specs.declared.errors.WriteError.{WriteError}
use Rattle.store_state.specs.declared.errors.WriteError.TheVariants as write
use Rattle.store_state.specs.declared.rounds.Refusal.{Refusal}
use Rattle.store_state.specs.declared.rounds.Refusal.TheVariants.{Fault, Memory, NotBlock}
use Rattle.store_state.specs.declared.rounds.Round.{Round}
use Rattle.store_state.specs.declared.rounds.Round.TheVariants.{Refused}
use Rattle.session_meaning.specs.At.{At}
use Rattle.session_meaning.specs.Causes.{blames_disk, disk_faults, faults_in}
use Rattle.session_meaning.specs.ServedRuns.{Asks, AsksAll, AsksNone, IsServedRun, Served, all_replies}
use Rattle.session_meaning.specs.Asked.{after_lines, after_moment}
use Rattle.session_meaning.specs.Runs.{Edges}
use Rattle.session_meaning.specs.Serving.{AreCuts, AreDealt, AreScripts, Dealt, EntriesLead, IsDealt, Ran, compactions, script_of, scripts_of}
use Rattle.session_meaning.specs.Serving.IsDealt.{asks, of_nobody, too_long}
use Rattle.io_edges.specs.Lines.{lines}
use Rattle.session_meaning.proofs.FaultLaws.{begin_fault, both_none, compact_fault, cut_all_fault, cut_fault, flagged, flush_fault, push_fault, reclaim_fault, rose_none, rose_then, round_faults}
use Rattle.session_meaning.proofs.FaultRuns.{asked_none}
use Rattle.session_meaning.proofs.ServedLaws.{AllBelow, all_below}

-- ---- the faults that calls answer

abbrev fault_in : Call → ℕ
fault_in c = if is_fault c.reply then 1 else 0

-- how many of these answer one
abbrev faults_of : List Call → ℕ
faults_of [] = 0
faults_of (c ∷ calls) = fault_in c + faults_of calls

plus_none : (n : ℕ) → n + 0 ≡ n
plus_none n = omega arith

sums : (a b c d : ℕ) → d ≡ b + c → a + d ≡ (a + b) + c
sums a b c d is = omega (arith, is)

faults_append : (front back : List Call) → faults_of (front ++ back) ≡ faults_of front + faults_of back
faults_append [] back = let e : faults_of back ≡ 0 + faults_of back = omega arith in e
faults_append (c ∷ front) back = sums (fault_in c) (faults_of front) (faults_of back) (faults_of (front ++ back)) (faults_append front back)

led_faults : (told : Bool) (first last : At) (es : List Entry) → EntriesLead told first es last → RoseBy (faults_of (map call_of es)) first.faults last.faults
led_faults told first last [] same = rose_none first.faults last.faults (ap (λ (at : At). at.faults) same)
led_faults told first last (e ∷ es) (between, made, rest) =
    rose_then (fault_in (call_of e)) (faults_of (map call_of es)) first.faults between.faults last.faults
    (flagged (is_fault e.reply) first.faults between.faults made.step.2) (led_faults told between last es rest)

-- ---- a query

abbrev one_if : Bool → ℕ
one_if failed = if failed then 1 else 0

given_reads : (pin : ℕ) (files : List ℕ) (reads : List Call) → AreReads pin files reads → faults_of reads ≡ 0
given_reads pin files [] are = refl
given_reads pin files (c ∷ reads) ((file, page, bytes, among, is), rest) = λ i. fault_in (is i) + given_reads pin files reads rest i

reads_faults : (pin : ℕ) (files : List ℕ) (failed : Bool) (reads : List Call) → ReadsPages pin files failed reads → faults_of reads ≡ one_if failed
reads_faults pin files false reads are = given_reads pin files reads are
reads_faults pin files true reads (given, file, page, are, among, is) =
    let last = call (ReadPage pin file page) (reply.Refused refusal.Fault) in
    ap faults_of is ∙ faults_append given (last ∷ []) ∙ ap (λ (n : ℕ). n + 1) (given_reads pin files given are)

query_faults : {A : Type 0} (tells : ℕ → List Row → A → Type 0) (answer : Result A QueryError) (calls : List Call) → IsAsked tells answer calls
    → faults_of calls ≡ one_if (asks_fail answer)
query_faults {A} tells answer calls (inl (are, memory)) = ap faults_of are ∙ sym (ap (λ (a : Result A QueryError). one_if (asks_fail a)) memory)
query_faults tells answer calls (inr (look, reads, are, pages, comes)) =
    let done = call (event.Done look.pin) Fine in
    let read = reads_faults look.pin _ (asks_fail answer) reads pages in
    let all = faults_append reads (done ∷ []) in
    ap faults_of are ∙ none_before (faults_of reads) (faults_of (reads ++ done ∷ [])) all ∙ read
  where
    none_before : (n m : ℕ) → m ≡ n + 0 → 0 + m ≡ n
    none_before n m is = omega (arith, is)

trace_faults : (answer : Result TraceAnswer QueryError) → faults_in (trace_reply answer) ≡ one_if (asks_fail answer)
trace_faults (Ok x) = refl
trace_faults (Err error.Fault) = refl
trace_faults (Err error.Memory) = refl
trace_faults (Err (error.NotBlock file at)) = refl

search_faults : (asked : Asked) (answer : Result SearchAnswer QueryError) (r : Reply) → IsSearchTold asked answer r → faults_in r ≡ one_if (asks_fail answer)
search_faults asked (Ok x) r (inl is) = ap faults_in is
search_faults asked (Ok x) r (inr is) = ap faults_in is
search_faults asked (Err error.Fault) r is = ap faults_in is
search_faults asked (Err error.Memory) r is = ap faults_in is
search_faults asked (Err (error.NotBlock file at)) r is = ap faults_in is

metrics_faults : (start end step : ℕ) (rate : Bool) (answer : Result SearchAnswer QueryError) (r : Reply) → AreSeriesTold start end step rate answer r → faults_in r ≡ one_if (asks_fail answer)
metrics_faults start end step rate (Ok x) r (inl (series, are, is)) = ap faults_in is
metrics_faults start end step rate (Ok x) r (inr is) = ap faults_in is
metrics_faults start end step rate (Err error.Fault) r is = ap faults_in is
metrics_faults start end step rate (Err error.Memory) r is = ap faults_in is
metrics_faults start end step rate (Err (error.NotBlock file at)) r is = ap faults_in is

-- ---- a round

-- A call that a round doesn't outlive answers a fault just if the round is refused for one.
write_faults : (e : event) (why : WriteError) → fault_in (call e (reply.Refused (write_refusal why))) ≡ round_faults (Refused (write_cause why))
write_faults e (write.ReadOnly faults) = refl
write_faults e write.Fault = refl

failed_so : (n m : ℕ) (why : Refusal) (round : Round) → n ≡ round_faults (Refused why) → (m ≡ 0) × (round ≡ Refused why) → n + m ≡ round_faults round
failed_so n m why round one (none, is) = both n m (round_faults (Refused why)) one none ∙ sym (ap round_faults is)
  where
    both : (a b c : ℕ) → a ≡ c → b ≡ 0 → a + b ≡ c
    both a b c first second = omega (arith, first, second)

given_up : (m : ℕ) (why : Refusal) (round : Round) → round_faults (Refused why) ≡ 0 → (m ≡ 0) × (round ≡ Refused why) → m ≡ round_faults round
given_up m why round quiet (none, is) = none ∙ sym quiet ∙ sym (ap round_faults is)

nothing_more : (n m k : ℕ) → n ≡ 0 → m ≡ k → n + m ≡ k
nothing_more n m k first second = omega (arith, first, second)

abbrev FlushCounts : Stage → List Call → Round → Type 0
FlushCounts stage.Fresh calls round = faults_of calls ≡ round_faults round
FlushCounts (stage.Begun number file rows) calls round = faults_of calls ≡ round_faults round
FlushCounts (stage.Writing number file bytes size) calls round = faults_of calls ≡ round_faults round
FlushCounts (stage.Failing number why) calls round = (faults_of calls ≡ 0) × (round ≡ Refused why)
FlushCounts (stage.Ended last) calls round = ⊤

flush_counts : (at : Stage) (calls : List Call) (round : Round) → Leads at calls round → FlushCounts at calls round
flush_counts at calls round leads.nothing = refl
flush_counts at calls round (leads.no_job why) = plus_none (fault_in (call BeginFlush (reply.Refused (begin_refusal why)))) ∙ sym (begin_fault why)
flush_counts at calls round (leads.job {calls = cs} {round = r} number file rows rest) =
    nothing_more 0 (faults_of cs) (round_faults r) refl (flush_counts (stage.Begun number file rows) cs r rest)
flush_counts at calls round (leads.starved number file rows) = refl
flush_counts at calls round (leads.built {calls = cs} {round = r} number file rows bytes info block rest) = flush_counts (stage.Writing number file bytes info.rows) cs r rest
flush_counts at calls round (leads.written {calls = cs} {round = r} number file bytes size some rest) =
    nothing_more 0 (faults_of cs) (round_faults r) refl (flush_counts (stage.Writing number file (drop 65536 bytes) size) cs r rest)
flush_counts at calls round (leads.unwritten {calls = cs} {round = r} number file bytes size why some rest) =
    let piece = WritePiece number file (take 65536 bytes) in
    failed_so (fault_in (call piece (reply.Refused (write_refusal why)))) (faults_of cs) (write_cause why) r (write_faults piece why) (flush_counts (stage.Failing number (write_cause why)) cs r rest)
flush_counts at calls round (leads.listed number file size) = refl
flush_counts at calls round (leads.unlisted number file size why) =
    let commit = event.CommitFlush number size in plus_none (fault_in (call commit (reply.Refused (write_refusal why)))) ∙ write_faults commit why
flush_counts at calls round (leads.dropped number why) = (refl, refl)
flush_counts at calls round (leads.over last) = tt

abbrev CompactCounts : CompactStage → List Call → Round → Type 0
CompactCounts joining.Fresh calls round = faults_of calls ≡ round_faults round
CompactCounts (joining.Reading job parts infos pages bytes) calls round = faults_of calls ≡ round_faults round
CompactCounts (joining.Writing job bytes size) calls round = faults_of calls ≡ round_faults round
CompactCounts (joining.Failing number why) calls round = (faults_of calls ≡ 0) × (round ≡ Refused why)
CompactCounts (joining.Ended last) calls round = ⊤

compact_counts : (at : CompactStage) (calls : List Call) (round : Round) → CompactLeads at calls round → CompactCounts at calls round
compact_counts at calls round joins.nothing = refl
compact_counts at calls round (joins.no_job why) = plus_none (fault_in (call BeginCompact (reply.Refused (begin_refusal why)))) ∙ sym (begin_fault why)
compact_counts at calls round (joins.begun {calls = cs} {round = r} job rest) =
    nothing_more 0 (faults_of cs) (round_faults r) refl (compact_counts (joining.Reading job [] job.blocks 0 []) cs r rest)
compact_counts at calls round (joins.read {calls = cs} {round = r} job parts info infos pages bytes page more rest) =
    nothing_more 0 (faults_of cs) (round_faults r) refl (compact_counts (joining.Reading job parts (info ∷ infos) (pages + 1) (bytes ++ page)) cs r rest)
compact_counts at calls round (joins.unread {calls = cs} {round = r} job parts info infos pages bytes more rest) =
    failed_so 1 (faults_of cs) Fault r refl (compact_counts (joining.Failing job.number Fault) cs r rest)
compact_counts at calls round (joins.block {calls = cs} {round = r} job parts info infos pages bytes rows all is rest) =
    compact_counts (joining.Reading job (parts ++ rows ∷ []) infos 0 []) cs r rest
compact_counts at calls round (joins.no_block {calls = cs} {round = r} job parts info infos pages bytes place all is rest) =
    given_up (faults_of cs) (NotBlock info.file place) r refl (compact_counts (joining.Failing job.number (NotBlock info.file place)) cs r rest)
compact_counts at calls round (joins.starved {calls = cs} {round = r} job parts infos pages bytes rest) =
    given_up (faults_of cs) Memory r refl (compact_counts (joining.Failing job.number Memory) cs r rest)
compact_counts at calls round (joins.built {calls = cs} {round = r} job parts pages read bytes info is rest) = compact_counts (joining.Writing job bytes info.rows) cs r rest
compact_counts at calls round (joins.written {calls = cs} {round = r} job bytes size some rest) =
    nothing_more 0 (faults_of cs) (round_faults r) refl (compact_counts (joining.Writing job (drop 65536 bytes) size) cs r rest)
compact_counts at calls round (joins.unwritten {calls = cs} {round = r} job bytes size why some rest) =
    let piece = WritePiece job.number job.file (take 65536 bytes) in
    failed_so (fault_in (call piece (reply.Refused (write_refusal why)))) (faults_of cs) (write_cause why) r (write_faults piece why) (compact_counts (joining.Failing job.number (write_cause why)) cs r rest)
compact_counts at calls round (joins.listed job size) = refl
compact_counts at calls round (joins.unlisted job size why) =
    let commit = event.CommitCompact job.number size in plus_none (fault_in (call commit (reply.Refused (write_refusal why)))) ∙ write_faults commit why
compact_counts at calls round (joins.dropped number why) = (refl, refl)
compact_counts at calls round (joins.over last) = tt

-- ---- an item and a script

item_counted : (item : Item) (r : Reply) (calls : List Call) → by_script.IsItemAnswered item r calls → blames_disk item ≡ false → faults_of calls ≡ faults_in r
item_counted (Ok (request.Push reading moment)) r calls (answer, is, are) none =
    ap faults_of are ∙ plus_none (fault_in (call (event.Push reading.batch.spans moment) (push_reply answer))) ∙ sym (push_fault reading answer) ∙ sym (ap faults_in is)
item_counted (Ok (request.Trace id)) r calls (answer, is, asked) none = query_faults (IsTraceAnswer id) answer calls asked ∙ sym (trace_faults answer) ∙ sym (ap faults_in is)
item_counted (Ok (request.Search s)) r calls (answer, is, asked) none = query_faults (IsSearchAnswer (asked_of s)) answer calls asked ∙ sym (search_faults (asked_of s) answer r is)
item_counted (Ok (request.Metrics m)) r calls (answer, is, asked) none =
    query_faults (IsSearchAnswer (counted_of m)) answer calls asked ∙ sym (metrics_faults m.start m.end m.step m.rate answer r is)
item_counted (Ok (request.Cut moment)) r calls (answer, is, are) none =
    ap faults_of are ∙ plus_none (fault_in (call (event.Cut moment) (count_reply answer))) ∙ sym (cut_fault answer) ∙ sym (ap faults_in is)
item_counted (Ok request.CutAll) r calls (answer, is, are) none =
    ap faults_of are ∙ plus_none (fault_in (call event.CutAll (count_reply answer))) ∙ sym (cut_all_fault answer) ∙ sym (ap faults_in is)
item_counted (Ok request.Flush) r calls (round, is, leads) none = flush_counts stage.Fresh calls round leads ∙ sym (flush_fault round) ∙ sym (ap faults_in is)
item_counted (Ok request.Compact) r calls (round, is, leads) none = compact_counts joining.Fresh calls round leads ∙ sym (compact_fault round) ∙ sym (ap faults_in is)
item_counted (Ok request.Reclaim) r calls (answer, is, are) none =
    ap faults_of are ∙ plus_none (fault_in (call event.Reclaim (reclaim_reply answer))) ∙ sym (reclaim_fault answer) ∙ sym (ap faults_in is)
item_counted (Err why) r calls (is, made) none = ap faults_of made ∙ sym (ap one_if none) ∙ sym (ap faults_in is)

items_counted : (items : List Item) (replies : List Reply) (calls : List Call) → by_script.AreItemsAnswered (take (length replies) items) replies calls → list_any blames_disk items ≡ false
    → faults_of calls ≡ disk_faults replies
items_counted [] [] calls (none, made) quiet = ap faults_of made
items_counted [] (r ∷ replies) calls (none, made) quiet = let bad : ⊥ = cc in absurd bad
items_counted (item ∷ items) [] calls (none, made) quiet = ap faults_of made
items_counted (item ∷ items) (r ∷ replies) calls (now, later, are, first, rest) quiet =
    let parts = both_none (blames_disk item) (list_any blames_disk items) quiet in
    let here = item_counted item r now first parts.0 in
    let after = items_counted items replies later rest parts.1 in
    let sum : faults_of now + faults_of later ≡ faults_in r + disk_faults replies = λ i. here i + after i in
    ap faults_of are ∙ faults_append now later ∙ sum

-- ---- all clients

-- how many of the calls under this number and later ones answer a fault
abbrev from_on : ℕ → List Entry → ℕ
from_on n [] = 0
from_on n (e ∷ es) = (if nat_le n e.seat then fault_in (call_of e) else 0) + from_on n es

abbrev Parts : ℕ → ℕ → ℕ → Bool → Bool → Bool → Type 0
Parts n seat f a b c = (if a then f else 0) ≡ (if b then f else 0) + (if c then f else 0)

-- A call under a number or a later one is under that number or under a later one.
one_part : (n seat f : ℕ) → Parts n seat f (nat_le n seat) (is_among seat (n ∷ [])) (nat_le (n + 1) seat)
one_part n seat f = at (n == seat) refl
  where
    so : (a b c : Bool) → nat_le n seat ≡ a → is_among seat (n ∷ []) ≡ b → nat_le (n + 1) seat ≡ c → Parts n seat f a b c
        → Parts n seat f (nat_le n seat) (is_among seat (n ∷ [])) (nat_le (n + 1) seat)
    so a b c first second third part =
        subst (λ (x : Bool). Parts n seat f x (is_among seat (n ∷ [])) (nat_le (n + 1) seat)) (sym first)
        (subst (λ (x : Bool). Parts n seat f a x (nat_le (n + 1) seat)) (sym second) (subst (λ (x : Bool). Parts n seat f a b x) (sym third) part))

    differs : (n == seat) ≡ false → n ≡ seat → ⊥
    differs not is = let e : (n == seat) ≡ true = ap (λ (k : ℕ). k == seat) is ∙ equal_itself seat in let bad : ⊥ = cc in bad

    other : (n == seat) ≡ false → (n < seat) ⊎ (seat ≤ n) → Parts n seat f (nat_le n seat) (is_among seat (n ∷ [])) (nat_le (n + 1) seat)
    other not (inl below) =
        so true false true (le-leb n seat (omega (arith, below))) (ap (λ (t : Bool). t || false) not) (le-leb (n + 1) seat (omega (arith, below)))
        (let e : f ≡ 0 + f = omega arith in e)
    other not (inr above) =
        let apart = differs not in
        so false false false (lt-leb n seat (omega (arith, above, apart))) (ap (λ (t : Bool). t || false) not) (lt-leb (n + 1) seat (omega (arith, above))) refl

    at : (t : Bool) → (n == seat) ≡ t → Parts n seat f (nat_le n seat) (is_among seat (n ∷ [])) (nat_le (n + 1) seat)
    at true same =
        let is = same_number n seat same in
        so true true false (le-leb n seat (omega (arith, is))) (ap (λ (t : Bool). t || false) same) (lt-leb (n + 1) seat (omega (arith, is)))
        (let e : f ≡ f + 0 = omega arith in e)
    at false not = other not (below_or_not n seat)

-- what a call counts among those of a client
own_one : (n : ℕ) (e : Entry) (es : List Entry)
    → faults_of (map call_of (own (n ∷ []) (e ∷ es))) ≡ (if is_among e.seat (n ∷ []) then fault_in (call_of e) else 0) + faults_of (map call_of (own (n ∷ []) es))
own_one n e es = go (is_among e.seat (n ∷ [])) refl
  where
    go : (t : Bool) → is_among e.seat (n ∷ []) ≡ t
        → faults_of (map call_of (own (n ∷ []) (e ∷ es))) ≡ (if is_among e.seat (n ∷ []) then fault_in (call_of e) else 0) + faults_of (map call_of (own (n ∷ []) es))
    go true is = rw is refl
    go false is = rw is (let e : faults_of (map call_of (own (n ∷ []) es)) ≡ 0 + faults_of (map call_of (own (n ∷ []) es)) = omega arith in e)

both_parts : (a b c x y z o : ℕ) → a ≡ b + c → x ≡ y + z → o ≡ b + y → a + x ≡ o + (c + z)
both_parts a b c x y z o one two three = omega (arith, one, two, three)

from_client : (n : ℕ) (es : List Entry) → from_on n es ≡ faults_of (map call_of (own (n ∷ []) es)) + from_on (n + 1) es
from_client n [] = refl
from_client n (e ∷ es) =
    let f = fault_in (call_of e) in
    both_parts (if nat_le n e.seat then f else 0) (if is_among e.seat (n ∷ []) then f else 0) (if nat_le (n + 1) e.seat then f else 0)
    (from_on n es) (faults_of (map call_of (own (n ∷ []) es))) (from_on (n + 1) es) (faults_of (map call_of (own (n ∷ []) (e ∷ es))))
    (one_part n e.seat f) (from_client n es) (own_one n e es)

all_from : (es : List Entry) → from_on 0 es ≡ faults_of (map call_of es)
all_from [] = refl
all_from (e ∷ es) =
    let each : nat_le 0 e.seat ≡ true = le-leb 0 e.seat (omega arith) in
    let rest = all_from es in
    λ i. (if each i then fault_in (call_of e) else 0) + rest i

none_from : (n : ℕ) (es : List Entry) → AllBelow n es → from_on n es ≡ 0
none_from n [] below = refl
none_from n (e ∷ es) (here, below) =
    let none : nat_le n e.seat ≡ false = lt-leb n e.seat here in
    let rest = none_from n es below in
    λ i. (if none i then fault_in (call_of e) else 0) + rest i

faults_joined : (xs ys : List Reply) → disk_faults (xs ++ ys) ≡ disk_faults xs + disk_faults ys
faults_joined [] ys = let e : disk_faults ys ≡ 0 + disk_faults ys = omega arith in e
faults_joined (x ∷ xs) ys = sums (faults_in x) (disk_faults xs) (disk_faults ys) (disk_faults (xs ++ ys)) (faults_joined xs ys)

served_from : (number : ℕ) (scripts : List (List Item)) (answers : List Answered) (es : List Entry) → AreServed number scripts answers es → list_any (list_any blames_disk) scripts ≡ false
    → from_on (number + length scripts) es ≡ 0 → from_on number es ≡ disk_faults (all_replies answers)
served_from number [] answers es none quiet rest =
    subst (λ (n : ℕ). from_on n es ≡ 0) (let e : number + 0 ≡ number = omega arith in e) rest ∙ sym (ap (λ (xs : List Answered). disk_faults (all_replies xs)) none)
served_from number (script ∷ scripts) [] es served quiet rest = absurd served
served_from number (script ∷ scripts) (answered ∷ answers) es (one, more) quiet rest =
    let parts = both_none (list_any blames_disk script) (list_any (list_any blames_disk) scripts) quiet in
    let its = items_counted script answered.replies.items (map call_of (own (number ∷ []) es)) one.first parts.0 in
    let on : number + suc (length scripts) ≡ (number + 1) + length scripts = omega arith in
    let later = served_from (number + 1) scripts answers es more parts.1 (subst (λ (n : ℕ). from_on n es ≡ 0) on rest) in
    let sum : faults_of (map call_of (own (number ∷ []) es)) + from_on (number + 1) es ≡ disk_faults answered.replies.items + disk_faults (all_replies answers) = λ i. its i + later i in
    from_client number es ∙ sum ∙ sym (faults_joined answered.replies.items (all_replies answers))

pub clients_counted : (told : Bool) (first last : At) (scripts : List (List Item)) (answers : List Answered) (entries : List Entry) → Ran told first scripts answers entries last
    → list_any (list_any blames_disk) scripts ≡ false → RoseBy (disk_faults (all_replies answers)) first.faults last.faults
clients_counted told first last scripts answers entries ran quiet =
    let below = all_below (length scripts) entries ran.whose in
    let none = subst (λ (n : ℕ). from_on n entries ≡ 0) (let e : length scripts ≡ 0 + length scripts = omega arith in e) (none_from (length scripts) entries below) in
    let all : faults_of (map call_of entries) ≡ disk_faults (all_replies answers) = sym (all_from entries) ∙ served_from 0 scripts answers entries ran.served quiet none in
    subst (λ (n : ℕ). RoseBy n first.faults last.faults) all (led_faults told first last entries ran.lead)

-- ---- the lines of a run

any_none : {T : Type 0} (p : T → Bool) (xs ys : List T) → list_any p xs ≡ false → list_any p ys ≡ false → list_any p (xs ++ ys) ≡ false
any_none p [] ys first second = second
any_none p (x ∷ xs) ys first second =
    let parts = both_none (p x) (list_any p xs) first in
    let rest = any_none p xs ys parts.1 second in
    λ i. parts.0 i || rest i

dealt_none : (clients moment : ℕ) (line : List ℕ) (refused : List (List ℕ)) (d : Dealt) → IsDealt clients moment line refused d → blames_disk d.item ≡ false
dealt_none clients moment line refused d (asks words short from reads) = asked_none moment words refused d.item reads
dealt_none clients moment line refused d (too_long over is clean) = ap (λ (x : Dealt). blames_disk x.item) is
dealt_none clients moment line refused d (of_nobody short none is clean) = ap (λ (x : Dealt). blames_disk x.item) is

all_dealt : (clients : ℕ) (lines : List (List ℕ)) (told : Option (List ℕ)) (dealt : List Dealt) (refused : List (List ℕ)) → AreDealt clients lines told dealt refused
    → list_any (λ (d : Dealt). blames_disk d.item) dealt ≡ false
all_dealt clients [] told dealt refused are = ap (list_any (λ (d : Dealt). blames_disk d.item)) are.0
all_dealt clients ([] ∷ lines) told dealt refused are = all_dealt clients lines told dealt refused are
all_dealt clients ((b ∷ bs) ∷ lines) told [] refused are = absurd are
all_dealt clients ((b ∷ bs) ∷ lines) told (one ∷ more) refused (moment, now, later, next, is, both, rest) =
    let here = dealt_none clients moment (b ∷ bs) now one is in
    let after = all_dealt clients lines (after_moment told) more later rest in
    λ i. here i || after i

script_none : (dealt : List Dealt) (client : ℕ) → list_any (λ (d : Dealt). blames_disk d.item) dealt ≡ false → list_any blames_disk (script_of dealt client) ≡ false
script_none [] client none = refl
script_none (d ∷ dealt) client none =
    let parts = both_none (blames_disk d.item) (list_any (λ (x : Dealt). blames_disk x.item) dealt) none in
    go (d.client == client) parts.0 (script_none dealt client parts.1)
  where
    go : (t : Bool) → blames_disk d.item ≡ false → list_any blames_disk (script_of dealt client) ≡ false
        → list_any blames_disk (map (λ (x : Dealt). x.item) (if t then d ∷ filter (λ (x : Dealt). x.client == client) dealt else filter (λ (x : Dealt). x.client == client) dealt)) ≡ false
    go true here rest = λ i. here i || rest i
    go false here rest = rest

scripts_none : (dealt : List Dealt) (clients : List ℕ) → list_any (λ (d : Dealt). blames_disk d.item) dealt ≡ false → list_any (list_any blames_disk) (map (script_of dealt) clients) ≡ false
scripts_none dealt [] none = refl
scripts_none dealt (client ∷ clients) none =
    let here = script_none dealt client none in
    let rest = scripts_none dealt clients none in
    λ i. here i || rest i

cuts_none : (rounds : ℕ) (told : Option (List ℕ)) (items : List Item) → AreCuts rounds told items → list_any blames_disk items ≡ false
cuts_none zero told items none = ap (list_any blames_disk) none
cuts_none (suc rounds) told items (moment, later, next, is, rest) = ap (list_any blames_disk) is ∙ cuts_none rounds (after_moment (after_moment told)) later rest

compactions_none : (rounds : ℕ) → list_any blames_disk (compactions rounds) ≡ false
compactions_none zero = refl
compactions_none (suc rounds) = compactions_none rounds

asked_scripts : (clients rounds : ℕ) (lines : List (List ℕ)) (told : Option (List ℕ)) (scripts : List (List Item)) (refused : List (List ℕ)) (to_tell : Option (List ℕ))
    → AreScripts clients rounds lines told scripts refused to_tell → list_any (list_any blames_disk) scripts ≡ false
asked_scripts clients rounds lines told scripts refused to_tell are =
    let upkeep : list_any (list_any blames_disk) (are.cuts ∷ compactions rounds ∷ []) ≡ false =
    (let cuts = cuts_none rounds (after_lines lines told) are.cuts are.are_cuts in let joined = compactions_none rounds in λ i. cuts i || (joined i || false)) in
    ap (list_any (list_any blames_disk)) are.scripts_are
    ∙ any_none (list_any blames_disk) (scripts_of clients are.dealt) (are.cuts ∷ compactions rounds ∷ [])
    (scripts_none are.dealt (range_with_len 0 clients) (all_dealt clients lines told are.dealt refused are.are_dealt)) upkeep

pub run_counted : (told : Bool) (clients rounds : ℕ) (s : Served) (old new : Edges) (text : List ℕ) → IsServedRun told clients rounds s old new → old.left ≡ Some text
    → RoseBy (disk_faults (all_replies s.answers)) old.disk_faults new.disk_faults
run_counted told clients rounds s old new text run tells =
    subst (λ (n : ℕ). RoseBy (disk_faults (all_replies s.answers)) n new.disk_faults) run.opened.first_faults
    (subst (λ (n : ℕ). RoseBy (disk_faults (all_replies s.answers)) s.first.faults n) run.opened.last_faults
    (clients_counted told s.first s.last s.scripts s.answers s.entries run.ran
    (quiet (subst (λ (o : Option (List ℕ)). Asks clients rounds o new.left s.ending s.scripts s.refused (after_moment old.moments) new.moments) tells run.asked))))
  where
    quiet : AsksAll clients rounds text s.ending s.scripts s.refused (after_moment old.moments) new.moments
        ⊎ AsksNone clients rounds text new.left s.ending s.scripts s.refused (after_moment old.moments) new.moments → list_any (list_any blames_disk) s.scripts ≡ false
    quiet (inl all) = asked_scripts clients rounds (lines text) (after_moment old.moments) s.scripts s.refused new.moments all.asked
    quiet (inr none) = ap (list_any (list_any blames_disk)) none.no_scripts
