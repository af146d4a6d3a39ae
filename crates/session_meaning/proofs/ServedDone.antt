-- What is done among several clients: it fails in none of its own calls, and has room at the first of them.
use Rattle.std.proofs.Common.{◌≡◌, ◌⊎◌, inl, inr, ◌∙◌, ℕ, ◌<◌, ◌≤◌, Bool, true, false, List, [], ◌∷◌, ◌++◌, Option, None, Ok, Err, ap, arith, option_map, refl, sym, subst}
use Rattle.client_run.specs.Answers.{asked_of, compact_reply, counted_of}
use Rattle.client_run.specs.CoreRuns.{IsCounted, is_fault}
use Rattle.client_scripts.specs.Told.{TellsFrom}
use Rattle.client_scripts.specs.declared.script.Answered.{Answered}
use Rattle.compactor.specs.Rounds.{FoundBlocks}
use Rattle.disk_model.proofs.CallRuns.{raised_rose}
use Rattle.port_history.specs.Entries.{Entry, call_of}
use Rattle.query_fanout.specs.SearchAnswers.{IsSearchAnswer}
use Rattle.query_fanout.specs.TraceAnswers.{IsTraceAnswer}
use Rattle.session_text.specs.declared.refusal.Refusal.TheVariants as why_is
use Rattle.session_text.specs.declared.reply.Reply.{Reply}
use Rattle.session_text.specs.declared.reply.Reply.TheVariants as says
use Rattle.session_text.specs.declared.request.Request.TheVariants as request
use Rattle.session_text.specs.Items.{Item}
use Rattle.store_model.specs.Event.{Event as event, Reply as reply_of, Refusal as cause}
use Rattle.store_model.specs.Event.Event.{BeginCompact, BeginFlush}
use Rattle.store_model.specs.Event.Reply.{Refused}
use Rattle.store_model.specs.History.{count_of}
use Rattle.store_model.specs.State.{Compaction, Flush}
use Rattle.store_model.specs.Step.{Step}
use Rattle.store_state.specs.Made.{Call, call}
use Rattle.store_state.specs.Replies.{begin_refusal, write_refusal}
use Rattle.store_state.specs.Rounds.{begin_cause}
use Rattle.store_state.specs.declared.errors.BeginError.{BeginError}
use Rattle.store_state.specs.declared.errors.BeginError.TheVariants as begin
use Rattle.store_state.specs.declared.errors.WriteError.{WriteError}
use Rattle.store_state.specs.declared.errors.WriteError.TheVariants as write
use Rattle.store_state.specs.declared.rounds.Refusal.{Refusal as Cause}
use Rattle.store_state.specs.declared.rounds.Refusal.TheVariants as cause_is
use Rattle.store_state.specs.declared.rounds.Round.{Round}
use Rattle.store_state.specs.declared.rounds.Round.TheVariants as round_is
use Rattle.session_meaning.specs.Answering.{IsItemAnswered}
use Rattle.session_meaning.specs.At.{At, IsStep, history_of}
use Rattle.session_meaning.specs.Pushes.{HasRoomNow, NeedsNoWrite}
use Rattle.session_meaning.specs.Rounds.{IsDoneOrStarved, IsGivenUpFor, Job, given}
use Rattle.session_meaning.specs.ServedFaults.{AtItsCalls, FindsRoom, Succeeds, Writes}
use Rattle.session_meaning.specs.ServedReplies.{CallPlace, TakesOneCall, WasReplied}
use Rattle.session_meaning.specs.Serving.{Ran}
use Rattle.session_meaning.specs.Session.{is_refusal, is_refused}
use Rattle.session_meaning.proofs.Room.{cut_plain, round_plain}
use Rattle.session_meaning.proofs.RoundCalls.{BeginsSo, EndsAfter, FailedBy, compaction_begins, flush_begins}
use Rattle.session_meaning.proofs.RoundCalls.BeginsSo.{Began, FoundNone, NotBegun}
use Rattle.session_meaning.proofs.RoundCalls.FailedBy.{ByRead, ByWrite}
use Rattle.session_meaning.proofs.RoundLaws.{OfKind, kind_of}
use Rattle.session_meaning.proofs.RoundLaws.OfKind.{Blocks, Rows}
use Rattle.session_meaning.proofs.RoundSteps.{IsBegin, begun, not_begun, open_job}
use Rattle.session_meaning.proofs.RoundSteps.IsBegin.{OfCompaction, OfFlush}
use Rattle.session_meaning.proofs.ServedCauses.{answered_there}
use Rattle.session_meaning.proofs.ServedPlaces.{is_answered, mine, place_of}
use Rattle.session_meaning.proofs.ServedReadOnly.{Stopped, not_both, step_stopped}
use Rattle.session_meaning.proofs.ServedRoom.{FailsIn, both_tell, call_plain, in_all, metrics_tells, query_fails, search_tells, trace_tells}

-- ---- one call

pub one_done : (told : Bool) (first last : At) (scripts : List (List Item)) (answers : List Answered) (entries : List Entry) (client : ℕ) (asked : List Item) (got : List Reply) (item : Item) (reply : Reply)
    → Ran told first scripts answers entries last → WasReplied scripts answers client asked got item reply → TakesOneCall item
    → (place : CallPlace told first entries last client asked got []) × IsItemAnswered item reply (call_of place.entry ∷ [])
    × (Succeeds place.before place.after → Writes place.before place.after → HasRoomNow item place.before.machine → is_refusal reply ≡ is_refused item)
one_done told first last scripts answers entries client asked got item reply ran this takes =
    let at = answered_there told first last scripts answers entries client asked got item reply ran this takes in
    (at.0, at.1, λ well writes room. call_plain told item at.0.before at.0.after reply takes at.2 well writes room)

-- ---- a round

given_done : (begins : event) (job : Job) (c : Cause) → OfKind begins job → IsGivenUpFor job c → (begins ≡ BeginCompact → FoundBlocks (round_is.Refused c)) → IsDoneOrStarved (round_is.Refused c)
given_done begins job cause_is.Memory of for finds = tt
given_done begins job (cause_is.NotBlock file at) (Rows its) for finds = absurd for
given_done begins job (cause_is.NotBlock file at) (Blocks its) for finds = absurd (finds refl)
given_done begins job (cause_is.ReadOnly faults) (Rows its) for finds = absurd for
given_done begins job (cause_is.ReadOnly faults) (Blocks its) for finds = absurd for
given_done begins job (cause_is.Busy number) (Rows its) for finds = absurd for
given_done begins job (cause_is.Busy number) (Blocks its) for finds = absurd for
given_done begins job (cause_is.FilesSpent next) (Rows its) for finds = absurd for
given_done begins job (cause_is.FilesSpent next) (Blocks its) for finds = absurd for
given_done begins job cause_is.Fault (Rows its) for finds = absurd for
given_done begins job cause_is.Fault (Blocks its) for finds = absurd for

too_high : (a b : ℕ) → b ≡ a → 4294967294 ≤ b → a < 4294967294 → ⊥
too_high a b same high low = omega (arith, same, high, low)

same_round : (a b : Cause) → says.Refused (why_is.Round a) ≡ says.Refused (why_is.Round b) → a ≡ b
same_round a b e = cc

-- What a compaction is told to have found is what it found.
found_so : (r : Reply) (round : Round) (c : Cause) → r ≡ compact_reply round → FoundBlocks round → r ≡ says.Refused (why_is.Round c) → FoundBlocks (round_is.Refused c)
found_so r (round_is.Did blocks rows) c is finds e = let bad : ⊥ = cc in absurd bad
found_so r round_is.Nothing c is finds e = let bad : ⊥ = cc in absurd bad
found_so r (round_is.Refused x) c is finds e = subst (λ (k : Cause). FoundBlocks (round_is.Refused k)) (same_round x c (sym is ∙ e)) finds

-- ---- the calls of an item

module _ (first last : At) (scripts : List (List Item)) (answers : List Answered) (entries : List Entry) (client : ℕ) (asked : List Item) (got : List Reply) (item : Item) (reply : Reply)
    (ran : Ran true first scripts answers entries last) (this : WasReplied scripts answers client asked got item reply) where
  abbrev its : List Call
  its = mine true first last scripts answers entries client asked got item reply ran this

  abbrev Each : (At → At → Type 0) → Type 0
  Each holds = AtItsCalls true first entries last client asked got item reply holds

  abbrev First : (CallPlace true first entries last client asked got [] → Type 0) → Type 0
  First holds = (place : CallPlace true first entries last client asked got []) → holds place

  -- One of them has its place, and is a step there.
  its_place : (front back : List Call) (c : Call) → its ≡ front ++ c ∷ back
      → (place : CallPlace true first entries last client asked got front) × IsItemAnswered item reply (front ++ call_of place.entry ∷ back) × IsStep place.before c.event c.reply place.after
  its_place front back c are =
      let at = place_of true first last scripts answers entries client asked got item reply ran this front back c are in
      let is : IsItemAnswered item reply its = is_answered true first last scripts answers entries client asked got item reply ran this in (
        at.0,
        subst (λ (cs : List Call). IsItemAnswered item reply cs) (are ∙ ap (λ (x : Call). front ++ x ∷ back) (sym at.1)) is,
        subst (λ (x : Call). IsStep at.0.before x.event x.reply at.0.after) at.1 at.0.made.step,
      )

  no_fault : Each Succeeds → (front back : List Call) (c : Call) → its ≡ front ++ c ∷ back → is_fault c.reply ≡ true → ⊥
  no_fault quiet front back c are fault =
      let at = its_place front back c are in
      let counted : IsCounted true at.0.before.faults at.0.after.faults = subst (λ (b : Bool). IsCounted b at.0.before.faults at.0.after.faults) fault at.2.2 in
      quiet front back at.0 at.1 (raised_rose at.0.before.faults at.0.after.faults counted)

  no_stop : Each Writes → (front back : List Call) (c : Call) (faults : ℕ) → its ≡ front ++ c ∷ back → c.reply ≡ Stopped faults → ⊥
  no_stop writes front back c faults are stops =
      let at = its_place front back c are in
      let before = at.0.before in
      let after = at.0.after in
      let step : Step before.faults after.faults before.machine c.event (Stopped faults) after.machine =
      subst (λ (r : reply_of). Step before.faults after.faults before.machine c.event r after.machine) stops at.2.1 in
      not_both faults before.machine.read_only (writes front back at.0 at.1) (step_stopped before.faults after.faults before.machine after.machine c.event faults step)

  -- a query that a fault ended
  no_failing : Each Succeeds → FailsIn its → ⊥
  no_failing quiet fails = no_fault quiet fails.front fails.back fails.c fails.are fails.fault

  begin_done : (begins : event) → IsBegin begins → Each Succeeds → Each Writes → First (λ place. open_job begins place.before.machine.state ≡ None)
      → First (λ place. place.before.machine.state.next_file < 4294967294) → (b : BeginError) → its ≡ call begins (Refused (begin_refusal b)) ∷ []
      → IsDoneOrStarved (round_is.Refused (begin_cause b))
  begin_done begins is quiet writes closed room (begin.ReadOnly faults) are = absurd (no_stop writes [] [] (call begins (Stopped faults)) faults are refl)
  begin_done begins is quiet writes closed room (begin.Busy number) are =
      let at = its_place [] [] (call begins (Refused (cause.Busy number))) are in
      let m = at.0.before.machine in
      let why = not_begun begins is at.0.before.faults at.0.after.faults m at.0.after.machine (cause.Busy number) at.2.1 in
      absurd (not_both number (open_job begins m.state) (closed at.0) why.1)
  begin_done begins is quiet writes closed room (begin.FilesSpent next) are =
      let at = its_place [] [] (call begins (Refused (cause.FilesSpent next))) are in
      let m = at.0.before.machine in
      let why = not_begun begins is at.0.before.faults at.0.after.faults m at.0.after.machine (cause.FilesSpent next) at.2.1 in
      absurd (too_high m.state.next_file next why.1 why.2 (room at.0))
  begin_done begins is quiet writes closed room begin.Fault are = absurd (no_fault quiet [] [] (call begins (Refused cause.Fault)) are refl)
  begin_done begins is quiet writes closed room begin.Memory are = tt

  failed_not : (begins : event) → Each Succeeds → Each Writes → (front back : List Call) (c : Call) (because : Cause) → its ≡ front ++ c ∷ back → FailedBy begins c because → ⊥
  failed_not begins quiet writes front back c because are (ByWrite is w answered so) = by_error w answered
    where
      by_error : (e : WriteError) → c.reply ≡ Refused (write_refusal e) → ⊥
      by_error (write.ReadOnly faults) stops = no_stop writes front back c faults are stops
      by_error write.Fault fails = no_fault quiet front back c are (ap is_fault fails)
  failed_not begins quiet writes front back c because are (ByRead joins pin file page is so) = no_fault quiet front back c are (ap (λ (x : Call). is_fault x.reply) is)

  ended_done : (begins : event) → IsBegin begins → Each Succeeds → Each Writes → (job : Job) (rest : List Call) → its ≡ call begins (given job) ∷ rest
      → (round : Round) → EndsAfter begins job rest round → ((c : Cause) → round ≡ round_is.Refused c → begins ≡ BeginCompact → FoundBlocks (round_is.Refused c)) → IsDoneOrStarved round
  ended_done begins is quiet writes job rest are (round_is.Did blocks rows) ends finds = tt
  ended_done begins is quiet writes job rest are round_is.Nothing ends finds = absurd ends
  ended_done begins is quiet writes job rest are (round_is.Refused c) (inl for) finds =
      let at = its_place [] rest (call begins (given job)) are in
      let begins_so = begun begins is at.0.before.faults at.0.after.faults at.0.before.machine at.0.after.machine job at.2.1 in
      given_done begins job c (kind_of begins is at.0.before.machine at.0.after.machine job begins_so.1) for (finds c refl)
  ended_done begins is quiet writes job rest are (round_is.Refused c) (inr f) finds =
      absurd (failed_not begins quiet writes (call begins (given job) ∷ f.front) f.back f.c c
      (are ∙ ap (λ (cs : List Call). call begins (given job) ∷ cs) f.are) f.failed)

  round_done : (begins : event) → IsBegin begins → Each Succeeds → Each Writes → First (λ place. open_job begins place.before.machine.state ≡ None)
      → First (λ place. place.before.machine.state.next_file < 4294967294) → (round : Round) → BeginsSo begins its round
      → ((c : Cause) → round ≡ round_is.Refused c → begins ≡ BeginCompact → FoundBlocks (round_is.Refused c)) → IsDoneOrStarved round
  round_done begins is quiet writes closed room round (FoundNone are none) finds = subst IsDoneOrStarved (sym none) tt
  round_done begins is quiet writes closed room round (NotBegun b are why) finds = subst IsDoneOrStarved (sym why) (begin_done begins is quiet writes closed room b are)
  round_done begins is quiet writes closed room round (Began job rest are ends) finds = ended_done begins is quiet writes job rest are round ends finds

-- ---- a line

module _ (first last : At) (scripts : List (List Item)) (answers : List Answered) (entries : List Entry) (client : ℕ) (asked : List Item) (got : List Reply) where
  abbrev EachOf : Item → Reply → (At → At → Type 0) → Type 0
  EachOf item reply holds = AtItsCalls true first entries last client asked got item reply holds

  one_plain : (item : Item) (reply : Reply) → TakesOneCall item → Ran true first scripts answers entries last → WasReplied scripts answers client asked got item reply
      → FindsRoom true first entries last client asked got item → EachOf item reply Succeeds → EachOf item reply Writes → is_refusal reply ≡ false
  one_plain item reply takes ran this has quiet writes =
      let one = one_done true first last scripts answers entries client asked got item reply ran this takes in
      one.2 (quiet [] [] one.0 one.1) (writes [] [] one.0 one.1) (has.room one.0) ∙ has.in_order

  flush_plain : (reply : Reply) → Ran true first scripts answers entries last → WasReplied scripts answers client asked got (Ok request.Flush) reply
      → FindsRoom true first entries last client asked got (Ok request.Flush) → EachOf (Ok request.Flush) reply Succeeds → EachOf (Ok request.Flush) reply Writes → is_refusal reply ≡ false
  flush_plain reply ran this has quiet writes =
      let is = is_answered true first last scripts answers entries client asked got (Ok request.Flush) reply ran this in
      let done = round_done first last scripts answers entries client asked got (Ok request.Flush) reply ran this BeginFlush OfFlush quiet writes
      (λ place. ap (λ (o : Option Flush). option_map (λ (job : Flush). job.number) o) (has.no_job place)) has.room is.0 (flush_begins _ is.0 is.2) (λ c so joins. absurd (apart joins)) in
      ap is_refusal is.1 ∙ round_plain (λ blocks rows. says.Flushed rows) says.NothingFlushed is.0 (λ blocks rows. refl) refl done
    where
      apart : BeginFlush ≡ BeginCompact → ⊥
      apart e = cc

  compact_plain : (reply : Reply) → Ran true first scripts answers entries last → WasReplied scripts answers client asked got (Ok request.Compact) reply
      → FindsRoom true first entries last client asked got (Ok request.Compact) → EachOf (Ok request.Compact) reply Succeeds → EachOf (Ok request.Compact) reply Writes → is_refusal reply ≡ false
  compact_plain reply ran this has quiet writes =
      let is = is_answered true first last scripts answers entries client asked got (Ok request.Compact) reply ran this in
      let told = in_all (history_of last) (count_of (history_of first)) scripts answers client asked got (Ok request.Compact) reply (ran.seen refl) this in
      let done = round_done first last scripts answers entries client asked got (Ok request.Compact) reply ran this BeginCompact OfCompaction quiet writes
      (λ place. ap (λ (o : Option Compaction). option_map (λ (job : Compaction). job.number) o) (has.no_job place)) has.room is.0 (compaction_begins _ is.0 is.2)
      (λ c so joins. found_so reply told.1.0 c told.1.1 told.1.2 (is.1 ∙ ap compact_reply so)) in
      ap is_refusal is.1 ∙ round_plain says.Compacted says.NothingCompacted is.0 (λ blocks rows. refl) refl done

  query_plain : (item : Item) (reply : Reply) → NeedsNoWrite item → Ran true first scripts answers entries last → WasReplied scripts answers client asked got item reply
      → is_refused item ≡ false → EachOf item reply Succeeds → is_refusal reply ≡ false
  query_plain (Ok (request.Trace id)) reply needs ran this order quiet =
      let item : Item = Ok (request.Trace id) in
      let is = is_answered true first last scripts answers entries client asked got item reply ran this in
      let told = in_all (history_of last) (count_of (history_of first)) scripts answers client asked got item reply (ran.seen refl) this in
      both_tell (TellsFrom (IsTraceAnswer id) told.0 (history_of last)) is.0 told.1.0 reply (trace_tells is.0 reply is.1) (trace_tells told.1.0 reply told.1.1) told.1.2
      (λ fault. no_failing first last scripts answers entries client asked got item reply ran this quiet (query_fails (IsTraceAnswer id) is.0 _ is.2 fault))
  query_plain (Ok (request.Search s)) reply needs ran this order quiet =
      let item : Item = Ok (request.Search s) in
      let is = is_answered true first last scripts answers entries client asked got item reply ran this in
      let told = in_all (history_of last) (count_of (history_of first)) scripts answers client asked got item reply (ran.seen refl) this in
      both_tell (TellsFrom (IsSearchAnswer (asked_of s)) told.0 (history_of last)) is.0 told.1.0 reply (search_tells (asked_of s) is.0 reply is.1)
      (search_tells (asked_of s) told.1.0 reply told.1.1) told.1.2
      (λ fault. no_failing first last scripts answers entries client asked got item reply ran this quiet (query_fails (IsSearchAnswer (asked_of s)) is.0 _ is.2 fault))
  query_plain (Ok (request.Metrics m)) reply needs ran this order quiet =
      let item : Item = Ok (request.Metrics m) in
      let is = is_answered true first last scripts answers entries client asked got item reply ran this in
      let told = in_all (history_of last) (count_of (history_of first)) scripts answers client asked got item reply (ran.seen refl) this in
      both_tell (TellsFrom (IsSearchAnswer (counted_of m)) told.0 (history_of last)) is.0 told.1.0 reply (metrics_tells m.start m.end m.step m.rate is.0 reply is.1)
      (metrics_tells m.start m.end m.step m.rate told.1.0 reply told.1.1) told.1.2
      (λ fault. no_failing first last scripts answers entries client asked got item reply ran this quiet (query_fails (IsSearchAnswer (counted_of m)) is.0 _ is.2 fault))
  query_plain (Ok (request.Cut moment)) reply needs ran this order quiet =
      let is = is_answered true first last scripts answers entries client asked got (Ok (request.Cut moment)) reply ran this in
      ap is_refusal is.1 ∙ cut_plain says.Cut is.0 (λ moved. refl)
  query_plain (Ok request.CutAll) reply needs ran this order quiet =
      let is = is_answered true first last scripts answers entries client asked got (Ok request.CutAll) reply ran this in
      ap is_refusal is.1 ∙ cut_plain says.CutAll is.0 (λ moved. refl)
  query_plain (Err why) reply needs ran this order quiet =
      let is = is_answered true first last scripts answers entries client asked got (Err why) reply ran this in
      ap is_refusal is.0 ∙ order
  query_plain (Ok (request.Push reading moment)) reply needs ran this order quiet = absurd needs
  query_plain (Ok request.Flush) reply needs ran this order quiet = absurd needs
  query_plain (Ok request.Compact) reply needs ran this order quiet = absurd needs
  query_plain (Ok request.Reclaim) reply needs ran this order quiet = absurd needs

  line_plain : (item : Item) (reply : Reply) → Ran true first scripts answers entries last → WasReplied scripts answers client asked got item reply
      → FindsRoom true first entries last client asked got item → EachOf item reply Succeeds → EachOf item reply Writes → is_refusal reply ≡ false
  line_plain (Ok (request.Push reading moment)) reply ran this has quiet writes = one_plain (Ok (request.Push reading moment)) reply tt ran this has quiet writes
  line_plain (Ok request.Reclaim) reply ran this has quiet writes = one_plain (Ok request.Reclaim) reply tt ran this has quiet writes
  line_plain (Ok request.Flush) reply ran this has quiet writes = flush_plain reply ran this has quiet writes
  line_plain (Ok request.Compact) reply ran this has quiet writes = compact_plain reply ran this has quiet writes
  line_plain (Ok (request.Trace id)) reply ran this has quiet writes = query_plain (Ok (request.Trace id)) reply tt ran this has.in_order quiet
  line_plain (Ok (request.Search s)) reply ran this has quiet writes = query_plain (Ok (request.Search s)) reply tt ran this has.in_order quiet
  line_plain (Ok (request.Metrics m)) reply ran this has quiet writes = query_plain (Ok (request.Metrics m)) reply tt ran this has.in_order quiet
  line_plain (Ok (request.Cut moment)) reply ran this has quiet writes = query_plain (Ok (request.Cut moment)) reply tt ran this has.in_order quiet
  line_plain (Ok request.CutAll) reply ran this has quiet writes = query_plain (Ok request.CutAll) reply tt ran this has.in_order quiet
  line_plain (Err why) reply ran this has quiet writes = query_plain (Err why) reply tt ran this has.in_order quiet

pub each_done : (first last : At) (scripts : List (List Item)) (answers : List Answered) (entries : List Entry) (client : ℕ) (asked : List Item) (got : List Reply) (item : Item) (reply : Reply)
    → Ran true first scripts answers entries last → WasReplied scripts answers client asked got item reply → FindsRoom true first entries last client asked got item
    → AtItsCalls true first entries last client asked got item reply Succeeds → NeedsNoWrite item ⊎ AtItsCalls true first entries last client asked got item reply Writes
    → is_refusal reply ≡ false
each_done first last scripts answers entries client asked got item reply ran this has quiet (inl needs) = query_plain first last scripts answers entries client asked got item reply needs ran this has.in_order quiet
each_done first last scripts answers entries client asked got item reply ran this has quiet (inr writes) = line_plain first last scripts answers entries client asked got item reply ran this has quiet writes
