-- Why a round of one of several clients is refused, or has nothing to do, and what it counts: at its own calls.
use Rattle.std.proofs.Common.{◌≡◌, ◌⊎◌, inl, inr, ◌∙◌, ℕ, ◌<◌, ◌≤◌, Bool, true, false, List, [], ◌∷◌, ◌++◌, Option, None, Some, Ok, Err, ap, arith, length, refl, sym, subst, take}
use Rattle.std.proofs.lemmas.List.{length-map}
use Rattle.std.specs.Prelude.{⊤}
use Rattle.client_scripts.specs.declared.script.Answered.{Answered}
use Rattle.compactor.specs.Rounds.{FoundBlocks}
use Rattle.port_history.specs.Entries.{Entry, call_of}
use Rattle.session_text.specs.declared.refusal.Refusal.{Refusal}
use Rattle.session_text.specs.declared.refusal.Refusal.TheVariants.{Round as RoundOf}
use Rattle.session_text.specs.declared.reply.Reply.{Reply}
use Rattle.session_text.specs.declared.reply.Reply.TheVariants.{Compacted, Flushed, NothingCompacted, NothingFlushed, Refused}
use Rattle.session_text.specs.declared.request.Request.TheVariants as request
use Rattle.session_text.specs.declared.request.Request.TheVariants.{Compact, Flush}
use Rattle.session_text.specs.Items.{Item}
use Rattle.span_types.specs.Faults.{Rose}
use Rattle.span_types.specs.First.{IsFirstOf}
use Rattle.span_types.specs.declared.spans.Row.{Row}
use Rattle.store_model.specs.Choice.{choice, most_rows}
use Rattle.store_model.specs.Event.{FlushParts, Event as event, Reply as reply_of, Refusal as refusal}
use Rattle.store_model.specs.Event.Event.{BeginCompact, BeginFlush, ReadPage}
use Rattle.store_model.specs.History.{count_of}
use Rattle.store_model.specs.State.{Block, State, block_files}
use Rattle.store_model.specs.Step.{Happens, Machine, Step, broken}
use Rattle.store_state.specs.Made.{Call, call}
use Rattle.store_state.specs.Replies.{begin_refusal, write_refusal}
use Rattle.store_state.specs.Rounds.{begin_cause, write_cause}
use Rattle.store_state.specs.declared.errors.BeginError.{BeginError}
use Rattle.store_state.specs.declared.errors.BeginError.TheVariants as begin
use Rattle.store_state.specs.declared.errors.WriteError.{WriteError}
use Rattle.store_state.specs.declared.errors.WriteError.TheVariants as write
use Rattle.store_state.specs.declared.rounds.Refusal.{Refusal as Cause}
use Rattle.store_state.specs.declared.rounds.Refusal.TheVariants as cause
use Rattle.store_state.specs.declared.rounds.Round.{Round}
use Rattle.store_state.specs.declared.rounds.Round.TheVariants.{Did, Nothing, Refused as IsRefused}
use Rattle.session_meaning.specs.declared.ending.Ending.TheVariants as ending
use Rattle.session_meaning.specs.Answering.{IsItemAnswered}
use Rattle.session_meaning.specs.At.{At, IsStep, IsStill, history_of}
use Rattle.session_meaning.specs.Rounds.{IsDoneOrStarved, IsGivenUpFor, IsSized, Job, blocks_of, given}
use Rattle.session_meaning.specs.Runs.{Edges, ReadsWell}
use Rattle.session_meaning.specs.ServedReplies.{CallPlace, HasItsPart, WasReplied}
use Rattle.session_meaning.specs.ServedRounds.{FailsAt, HasCauseThere, HasItsRoom, HasRoomForRound, IsDecided, IsFreeFor, IsRoundOf, IsTurnedDown, Kind, asked_for, begin_of, job_open, told_as, work_for}
use Rattle.session_meaning.specs.ServedRounds.Kind.{Flushes, Joins}
use Rattle.session_meaning.specs.ServedRounds.IsDecided.{busy, idle, spent, stopped}
use Rattle.session_meaning.specs.ServedRuns.{IsServedRun, Served}
use Rattle.session_meaning.specs.Serving.{Ran}
use Rattle.session_meaning.specs.Session.{is_refusal}
use Rattle.session_meaning.proofs.Room.{round_plain}
use Rattle.session_meaning.proofs.RoundCalls.{BeginsSo, Decides, EndsAfter, FailedBy, compaction_begins, flush_begins, has_begun}
use Rattle.session_meaning.proofs.RoundCalls.BeginsSo.{Began, FoundNone, NotBegun}
use Rattle.session_meaning.proofs.RoundCalls.FailedBy.{ByRead, ByWrite}
use Rattle.session_meaning.proofs.RoundLaws.{OfKind, chosen_listed, kind_of, same_files}
use Rattle.session_meaning.proofs.RoundLaws.OfKind.{Blocks, Rows}
use Rattle.session_meaning.proofs.RoundSteps.{BeginCause, IsBegin, IsWrite, begin_busy, begin_idle, begin_spent, begin_stopped, begun, idle as found_idle, not_begun, open_job, work, write_halted, write_stopped}
use Rattle.session_meaning.proofs.RoundSteps.IsBegin.{OfCompaction, OfFlush}
use Rattle.session_meaning.proofs.RoundSteps.IsWrite.{OfCompactCommit, OfFlushCommit, OfPiece}
use Rattle.session_meaning.proofs.ServedPlaces.{is_answered, mine, place_of}
use Rattle.session_meaning.proofs.ServedRoom.{in_all, rose_there, serving_well, writes_there}
use Rattle.session_meaning.proofs.Steps.{read_rose, read_still}

-- ---- kinds

is_begin : (kind : Kind) → IsBegin (begin_of kind)
is_begin Flushes = OfFlush
is_begin Joins = OfCompaction

job_is : (kind : Kind) (u : State) → open_job (begin_of kind) u ≡ job_open kind u
job_is Flushes u = refl
job_is Joins u = refl

work_is : (kind : Kind) (u : State) → work (begin_of kind) u ≡ work_for kind u
work_is Flushes u = refl
work_is Joins u = refl

begins_so : (kind : Kind) (calls : List Call) (round : Round) → IsRoundOf kind calls round → BeginsSo (begin_of kind) calls round
begins_so Flushes calls round leads = flush_begins calls round leads
begins_so Joins calls round leads = compaction_begins calls round leads

-- ---- a round and its reply

round_told : (kind : Kind) (r : Reply) (calls : List Call) → IsItemAnswered (Ok (asked_for kind)) r calls → (round : Round) × (r ≡ told_as kind round) × IsRoundOf kind calls round
round_told Flushes r calls is = is
round_told Joins r calls is = is

same_text : (a b : Refusal) → Refused a ≡ Refused b → a ≡ b
same_text a b e = cc

refused_round : (kind : Kind) (why : Refusal) (round : Round) → Refused why ≡ told_as kind round → (c : Cause) × (round ≡ IsRefused c) × (why ≡ RoundOf c)
refused_round Flushes why (Did blocks rows) e = let bad : ⊥ = cc in absurd bad
refused_round Flushes why Nothing e = let bad : ⊥ = cc in absurd bad
refused_round Flushes why (IsRefused c) e = (c, refl, same_text why (RoundOf c) e)
refused_round Joins why (Did blocks rows) e = let bad : ⊥ = cc in absurd bad
refused_round Joins why Nothing e = let bad : ⊥ = cc in absurd bad
refused_round Joins why (IsRefused c) e = (c, refl, same_text why (RoundOf c) e)

nothing_round : (kind : Kind) (round : Round) → told_as kind Nothing ≡ told_as kind round → round ≡ Nothing
nothing_round Flushes (Did blocks rows) e = let bad : ⊥ = cc in absurd bad
nothing_round Flushes Nothing e = refl
nothing_round Flushes (IsRefused c) e = let bad : ⊥ = cc in absurd bad
nothing_round Joins (Did blocks rows) e = let bad : ⊥ = cc in absurd bad
nothing_round Joins Nothing e = refl
nothing_round Joins (IsRefused c) e = let bad : ⊥ = cc in absurd bad

same_cause : (a b : Cause) → IsRefused a ≡ IsRefused b → a ≡ b
same_cause a b e = cc

same_round_text : (a b : Cause) → RoundOf a ≡ RoundOf b → a ≡ b
same_round_text a b e = cc

not_nothing : (c : Cause) → IsRefused c ≡ Nothing → ⊥
not_nothing c e = cc

-- ---- the cause of a refused call

begin_down : (b : BeginError) → IsTurnedDown (begin_cause b) (reply_of.Refused (begin_refusal b))
begin_down (begin.ReadOnly faults) = refl
begin_down (begin.Busy job) = refl
begin_down (begin.FilesSpent next) = refl
begin_down begin.Fault = refl
begin_down begin.Memory = tt

begin_caused : (kind : Kind) (told : Bool) (before after : At) (b : BeginError)
    → BeginCause (begin_of kind) (is_begin kind) before.faults after.faults before.machine after.machine (begin_refusal b)
    → HasCauseThere kind told (begin_cause b) (begin_of kind) before after
begin_caused Flushes told before after (begin.ReadOnly faults) c = c.0
begin_caused Flushes told before after (begin.Busy job) c = (c.0, c.1)
begin_caused Flushes told before after (begin.FilesSpent next) c = (c.0, c.1, c.2)
begin_caused Flushes told before after begin.Fault c = (c.1, c.2)
begin_caused Flushes told before after begin.Memory c = tt
begin_caused Joins told before after (begin.ReadOnly faults) c = c.0
begin_caused Joins told before after (begin.Busy job) c = (c.0, c.1)
begin_caused Joins told before after (begin.FilesSpent next) c = (c.0, c.1, c.2)
begin_caused Joins told before after begin.Fault c = (c.1, c.2)
begin_caused Joins told before after begin.Memory c = tt

write_down : (w : WriteError) → IsTurnedDown (write_cause w) (reply_of.Refused (write_refusal w))
write_down (write.ReadOnly faults) = refl
write_down write.Fault = refl

-- A write that the disk failed leaves a store that writes no more.
write_fails : (e : event) → IsWrite e → (before after : At) → Rose before.faults after.faults × (after.machine ≡ broken after.faults before.machine) → FailsAt e before after
write_fails e (OfPiece number file bytes) before after broke = broke
write_fails e (OfFlushCommit number size) before after broke = broke
write_fails e (OfCompactCommit number size) before after broke = broke

write_caused : (kind : Kind) (told : Bool) (before after : At) (e : event) → IsWrite e → (w : WriteError)
    → Step before.faults after.faults before.machine e (reply_of.Refused (write_refusal w)) after.machine → HasCauseThere kind told (write_cause w) e before after
write_caused Flushes told before after e is (write.ReadOnly faults) step = write_stopped e is before.faults after.faults before.machine after.machine faults step
write_caused Flushes told before after e is write.Fault step = write_fails e is before after (write_halted e is before.faults after.faults before.machine after.machine step)
write_caused Joins told before after e is (write.ReadOnly faults) step = write_stopped e is before.faults after.faults before.machine after.machine faults step
write_caused Joins told before after e is write.Fault step = write_fails e is before after (write_halted e is before.faults after.faults before.machine after.machine step)

-- a read is one of a compaction, and leaves the store as it was
read_caused : (kind : Kind) (told : Bool) (before after : At) (pin file page : ℕ) → begin_of kind ≡ BeginCompact
    → Step before.faults after.faults before.machine (ReadPage pin file page) (reply_of.Refused refusal.Fault) after.machine
    → HasCauseThere kind told cause.Fault (ReadPage pin file page) before after
read_caused Flushes told before after pin file page joins step = let bad : ⊥ = cc in absurd bad
read_caused Joins told before after pin file page joins step = (
  read_rose before.faults after.faults before.machine after.machine pin file page step,
  read_still before.faults after.faults before.machine after.machine pin file page (reply_of.Refused refusal.Fault) step,
)

failed_caused : (kind : Kind) (told : Bool) (before after : At) (x : Call) (c : Cause) → FailedBy (begin_of kind) x c → IsStep before x.event x.reply after
    → IsTurnedDown c x.reply × HasCauseThere kind told c x.event before after
failed_caused kind told before after x c (ByWrite is w answered because) step =
    let s : Step before.faults after.faults before.machine x.event (reply_of.Refused (write_refusal w)) after.machine =
    subst (λ (r : reply_of). Step before.faults after.faults before.machine x.event r after.machine) answered step.1 in
    subst (λ (k : Cause). IsTurnedDown k x.reply × HasCauseThere kind told k x.event before after) (sym because)
    (subst (λ (r : reply_of). IsTurnedDown (write_cause w) r) (sym answered) (write_down w), write_caused kind told before after x.event is w s)
failed_caused kind told before after x c (ByRead joins pin file page is because) step =
    let s : IsStep before (ReadPage pin file page) (reply_of.Refused refusal.Fault) after = subst (λ (y : Call). IsStep before y.event y.reply after) is step in
    subst (λ (k : Cause). IsTurnedDown k x.reply × HasCauseThere kind told k x.event before after) (sym because) (
      ap (λ (y : Call). y.reply) is,
      subst (λ (y : Call). HasCauseThere kind told cause.Fault y.event before after) (sym is) (read_caused kind told before after pin file page joins s.1),
    )

-- Where what the blocks hold is told, none is found to be none.
abbrev Finds : Kind → Cause → Type 0
Finds Flushes c = ⊤
Finds Joins c = FoundBlocks (IsRefused c)

untold : (told : Bool) → (told ≡ true → ⊥) → told ≡ false
untold true none = absurd (none refl)
untold false none = refl

flush_given_up : (told : Bool) (before after : At) (job : Job) (c : Cause) → OfKind BeginFlush job → IsGivenUpFor job c
    → IsTurnedDown c (given job) × HasCauseThere Flushes told c BeginFlush before after
flush_given_up told before after job cause.Memory kind for = (tt, tt)
flush_given_up told before after job (cause.NotBlock file at) (Rows its) for = absurd for
flush_given_up told before after job (cause.ReadOnly faults) (Rows its) for = absurd for
flush_given_up told before after job (cause.Busy number) (Rows its) for = absurd for
flush_given_up told before after job (cause.FilesSpent next) (Rows its) for = absurd for
flush_given_up told before after job cause.Fault (Rows its) for = absurd for

joins_given_up : (told : Bool) (before after : At) (job : Job) (c : Cause) → OfKind BeginCompact job → Happens before.machine BeginCompact (given job) after.machine → IsGivenUpFor job c
    → (told ≡ true → FoundBlocks (IsRefused c)) → IsTurnedDown c (given job) × HasCauseThere Joins told c BeginCompact before after
joins_given_up told before after job cause.Memory kind done for finds = (tt, tt)
joins_given_up told before after job (cause.NotBlock file at) (Blocks its) done for finds =
    (tt, (untold told finds, chosen_listed before.machine after.machine its done file for))
joins_given_up told before after job (cause.ReadOnly faults) (Blocks its) done for finds = absurd for
joins_given_up told before after job (cause.Busy number) (Blocks its) done for finds = absurd for
joins_given_up told before after job (cause.FilesSpent next) (Blocks its) done for finds = absurd for
joins_given_up told before after job cause.Fault (Blocks its) done for finds = absurd for

given_caused : (kind : Kind) (told : Bool) (before after : At) (job : Job) (c : Cause) → Happens before.machine (begin_of kind) (given job) after.machine → IsGivenUpFor job c
    → (told ≡ true → Finds kind c) → IsTurnedDown c (given job) × HasCauseThere kind told c (begin_of kind) before after
given_caused Flushes told before after job c done for finds = flush_given_up told before after job c (kind_of BeginFlush OfFlush before.machine after.machine job done) for
given_caused Joins told before after job c done for finds = joins_given_up told before after job c (kind_of BeginCompact OfCompaction before.machine after.machine job done) done for finds

-- ---- what a begin decides

decided_round : (kind : Kind) (f g : ℕ) (m m' : Machine) (r : reply_of) (ended round : Round) → Step f g m (begin_of kind) r m' → Decides r ended → IsDecided kind m round → ended ≡ round
decided_round kind f g m m' r ended round step decides (stopped faults stops) =
    subst (λ (x : reply_of). Decides x ended) (begin_stopped (begin_of kind) (is_begin kind) f g m m' r step faults stops) decides
decided_round kind f g m m' r ended round step decides (busy number writes opens) =
    subst (λ (x : reply_of). Decides x ended) (begin_busy (begin_of kind) (is_begin kind) f g m m' r step number writes (job_is kind m.state ∙ opens)) decides
decided_round kind f g m m' r ended round step decides (idle free none) =
    subst (λ (x : reply_of). Decides x ended)
    (begin_idle (begin_of kind) (is_begin kind) f g m m' r step free.writes (job_is kind m.state ∙ free.closed) (work_is kind m.state ∙ none)) decides
decided_round kind f g m m' r ended round step decides (spent free some high) =
    subst (λ (x : reply_of). Decides x ended)
    (begin_spent (begin_of kind) (is_begin kind) f g m m' r step free.writes (job_is kind m.state ∙ free.closed)
    (subst (λ (n : ℕ). 1 ≤ n) (sym (work_is kind m.state)) some) high) decides

nothing_there : (kind : Kind) (before after : At) → IsStep before (begin_of kind) reply_of.Nothing after
    → IsFreeFor kind before.machine × (work_for kind before.machine.state ≡ 0) × IsStill before after
nothing_there kind before after step =
    let m = before.machine in
    let none = found_idle (begin_of kind) (is_begin kind) before.faults after.faults m after.machine step.1 in
    (record { writes = none.0; closed = no_job (job_open kind m.state) refl none.0 }, sym (work_is kind m.state) ∙ none.1, (none.2, step.0, step.2))
  where
    no_job : (o : Option ℕ) → job_open kind before.machine.state ≡ o → before.machine.read_only ≡ None → o ≡ None
    no_job None is writes = refl
    no_job (Some number) is writes =
        let other = begin_busy (begin_of kind) (is_begin kind) before.faults after.faults before.machine after.machine reply_of.Nothing step.1 number writes (job_is kind before.machine.state ∙ is) in
        let bad : ⊥ = cc in absurd bad

-- ---- where no call fails

refused_told : (kind : Kind) (c : Cause) → told_as kind (IsRefused c) ≡ Refused (RoundOf c)
refused_told Flushes c = refl
refused_told Joins c = refl

told_plain : (kind : Kind) (round : Round) → IsDoneOrStarved round → is_refusal (told_as kind round) ≡ false
told_plain Flushes round done = round_plain (λ blocks rows. Flushed rows) NothingFlushed round (λ blocks rows. refl) refl done
told_plain Joins round done = round_plain Compacted NothingCompacted round (λ blocks rows. refl) refl done

some_not_none : (n : ℕ) (o : Option ℕ) → o ≡ None → o ≡ Some n → ⊥
some_not_none n o none some = cc

begin_well : (kind : Kind) (before after : At) (b : BeginError) → before.machine.read_only ≡ None → (Rose before.faults after.faults → ⊥) → job_open kind before.machine.state ≡ None
    → before.machine.state.next_file < 4294967294
    → BeginCause (begin_of kind) (is_begin kind) before.faults after.faults before.machine after.machine (begin_refusal b) → IsDoneOrStarved (IsRefused (begin_cause b))
begin_well kind before after (begin.ReadOnly faults) writes quiet closed files c = absurd (some_not_none faults before.machine.read_only writes c.0)
begin_well kind before after (begin.Busy number) writes quiet closed files c = absurd (some_not_none number (job_open kind before.machine.state) closed (sym (job_is kind before.machine.state) ∙ c.1))
begin_well kind before after (begin.FilesSpent next) writes quiet closed files c = let same = c.1 in let high = c.2 in absurd (let bad : ⊥ = omega (arith, same, high, files) in bad)
begin_well kind before after begin.Fault writes quiet closed files c = absurd (quiet c.1)
begin_well kind before after begin.Memory writes quiet closed files c = tt

flush_well : (job : Job) (c : Cause) → OfKind BeginFlush job → IsGivenUpFor job c → IsDoneOrStarved (IsRefused c)
flush_well job cause.Memory of for = tt
flush_well job (cause.NotBlock file at) (Rows its) for = absurd for
flush_well job (cause.ReadOnly faults) (Rows its) for = absurd for
flush_well job (cause.Busy number) (Rows its) for = absurd for
flush_well job (cause.FilesSpent next) (Rows its) for = absurd for
flush_well job cause.Fault (Rows its) for = absurd for

joins_well : (job : Job) (c : Cause) → OfKind BeginCompact job → IsGivenUpFor job c → FoundBlocks (IsRefused c) → IsDoneOrStarved (IsRefused c)
joins_well job cause.Memory of for finds = tt
joins_well job (cause.NotBlock file at) of for finds = absurd finds
joins_well job (cause.ReadOnly faults) (Blocks its) for finds = absurd for
joins_well job (cause.Busy number) (Blocks its) for finds = absurd for
joins_well job (cause.FilesSpent next) (Blocks its) for finds = absurd for
joins_well job cause.Fault (Blocks its) for finds = absurd for

given_well : (kind : Kind) (job : Job) (c : Cause) → OfKind (begin_of kind) job → IsGivenUpFor job c → Finds kind c → IsDoneOrStarved (IsRefused c)
given_well Flushes job c of for finds = flush_well job c of for
given_well Joins job c of for finds = joins_well job c of for finds

-- In a store that writes no call is refused but for a fault.
failed_not : (begins : event) (before after : At) (x : Call) (c : Cause) → FailedBy begins x c → IsStep before x.event x.reply after → before.machine.read_only ≡ None
    → (Rose before.faults after.faults → ⊥) → ⊥
failed_not begins before after x c (ByWrite is w answered because) step writes quiet =
    by_error w (subst (λ (r : reply_of). Step before.faults after.faults before.machine x.event r after.machine) answered step.1)
  where
    by_error : (e : WriteError) → Step before.faults after.faults before.machine x.event (reply_of.Refused (write_refusal e)) after.machine → ⊥
    by_error (write.ReadOnly faults) s =
        some_not_none faults before.machine.read_only writes (write_stopped x.event is before.faults after.faults before.machine after.machine faults s)
    by_error write.Fault s = quiet (write_halted x.event is before.faults after.faults before.machine after.machine s).0
failed_not begins before after x c (ByRead joins pin file page is because) step writes quiet =
    let s : IsStep before (ReadPage pin file page) (reply_of.Refused refusal.Fault) after = subst (λ (y : Call). IsStep before y.event y.reply after) is step in
    quiet (read_rose before.faults after.faults before.machine after.machine pin file page s.1)

-- ---- among all calls

module _ (told : Bool) (first last : At) (scripts : List (List Item)) (answers : List Answered) (entries : List Entry) (client : ℕ) (asked : List Item) (got : List Reply) (kind : Kind) where
  -- Of a round that was refused for this one call stands so among all calls.
  abbrev Blamed : Cause → Type 0
  Blamed c =
      (front back : List Call) × (place : CallPlace told first entries last client asked got front)
      × IsRoundOf kind (front ++ call_of place.entry ∷ back) (IsRefused c) × IsTurnedDown c place.entry.reply
      × HasCauseThere kind told c place.entry.event place.before place.after

  finds_there : (why : Refusal) (c : Cause) → Ran told first scripts answers entries last → WasReplied scripts answers client asked got (Ok (asked_for kind)) (Refused why) → why ≡ RoundOf c
      → told ≡ true → Finds kind c
  finds_there why c ran this is sure = by_kind kind this
    where
      by_kind : (k : Kind) → WasReplied scripts answers client asked got (Ok (asked_for k)) (Refused why) → Finds k c
      by_kind Flushes was = tt
      by_kind Joins was =
          let all = in_all (history_of last) (count_of (history_of first)) scripts answers client asked got (Ok Compact) (Refused why) (ran.seen sure) was in
          let other = refused_round Joins why all.1.0 all.1.1 in
          subst (λ (x : Cause). FoundBlocks (IsRefused x)) (same_round_text other.0 c (sym other.2 ∙ is)) (subst FoundBlocks other.1 all.1.2)

  module _ (reply : Reply) (ran : Ran told first scripts answers entries last) (this : WasReplied scripts answers client asked got (Ok (asked_for kind)) reply) where
    abbrev its : List Call
    its = mine told first last scripts answers entries client asked got (Ok (asked_for kind)) reply ran this

    -- what it came to
    how : (round : Round) × (reply ≡ told_as kind round) × IsRoundOf kind its round
    how = round_told kind reply its (is_answered told first last scripts answers entries client asked got (Ok (asked_for kind)) reply ran this)

    -- One of its calls has its place, and is a step there.
    place_at : (front back : List Call) (x : Call) → its ≡ front ++ x ∷ back
        → (place : CallPlace told first entries last client asked got front) × (call_of place.entry ≡ x) × IsStep place.before x.event x.reply place.after
    place_at front back x are =
        let place = place_of told first last scripts answers entries client asked got (Ok (asked_for kind)) reply ran this front back x are in
        (place.0, place.1, subst (λ (y : Call). IsStep place.0.before y.event y.reply place.0.after) place.1 place.0.made.step)

    blamed_at : (c : Cause) (front back : List Call) (x : Call) → its ≡ front ++ x ∷ back → IsRoundOf kind its (IsRefused c)
        → ((before after : At) → IsStep before x.event x.reply after → IsTurnedDown c x.reply × HasCauseThere kind told c x.event before after) → Blamed c
    blamed_at c front back x are leads says =
        let at = place_at front back x are in
        let holds = says at.0.before at.0.after at.2 in (
          front,
          back,
          at.0,
          subst (λ (cs : List Call). IsRoundOf kind cs (IsRefused c)) (are ∙ ap (λ (y : Call). front ++ y ∷ back) (sym at.1)) leads,
          subst (λ (y : Call). IsTurnedDown c y.reply) (sym at.1) holds.0,
          subst (λ (y : Call). HasCauseThere kind told c y.event at.0.before at.0.after) (sym at.1) holds.1,
        )

    by_begin : (c : Cause) → IsRoundOf kind its (IsRefused c) → (told ≡ true → Finds kind c) → BeginsSo (begin_of kind) its (IsRefused c) → Blamed c
    by_begin c leads finds (FoundNone are is) = absurd (not_nothing c is)
    by_begin c leads finds (NotBegun b are is) =
        blamed_at c [] [] (call (begin_of kind) (reply_of.Refused (begin_refusal b))) are leads (λ before after step.
        subst (λ (k : Cause). IsTurnedDown k (reply_of.Refused (begin_refusal b)) × HasCauseThere kind told k (begin_of kind) before after) (sym (same_cause c (begin_cause b) is)) (
          begin_down b,
          begin_caused kind told before after b
              (not_begun (begin_of kind) (is_begin kind) before.faults after.faults before.machine after.machine (begin_refusal b) step.1),
        ))
    by_begin c leads finds (Began job rest are (inl for)) =
        blamed_at c [] rest (call (begin_of kind) (given job)) are leads (λ before after step.
        given_caused kind told before after job c (begun (begin_of kind) (is_begin kind) before.faults after.faults before.machine after.machine job step.1).1 for finds)
    by_begin c leads finds (Began job rest are (inr f)) =
        blamed_at c (call (begin_of kind) (given job) ∷ f.front) f.back f.c (are ∙ ap (λ (cs : List Call). call (begin_of kind) (given job) ∷ cs) f.are) leads
        (λ before after step. failed_caused kind told before after f.c c f.failed step)

    -- ---- what its begin decides

    -- its begin, at its place
    begun_at : (place : CallPlace told first entries last client asked got []) × (place.entry.event ≡ begin_of kind)
        × ((round : Round) → IsDecided kind place.before.machine round → reply ≡ told_as kind round)
    begun_at =
        let has = has_begun (begin_of kind) its how.0 (begins_so kind its how.0 how.2) in
        let at = place_at [] has.rest (call (begin_of kind) has.answer) has.are in
        let m = at.0.before.machine in
        let f = at.0.before.faults in
        let g = at.0.after.faults in
        let m' = at.0.after.machine in (
          at.0,
          ap (λ (x : Call). x.event) at.1,
          λ round so. how.1 ∙ ap (told_as kind) (decided_round kind f g m m' has.answer how.0 round at.2.1 has.decides so),
        )

    -- A round that found nothing to do is its begin alone.
    idle_at : how.0 ≡ Nothing → (place : CallPlace told first entries last client asked got []) × IsRoundOf kind (call_of place.entry ∷ []) Nothing
        × IsFreeFor kind place.before.machine × (work_for kind place.before.machine.state ≡ 0) × IsStill place.before place.after
    idle_at is = by_none (begins_so kind its how.0 how.2)
      where
        by_none : BeginsSo (begin_of kind) its how.0 → (place : CallPlace told first entries last client asked got []) × IsRoundOf kind (call_of place.entry ∷ []) Nothing
            × IsFreeFor kind place.before.machine × (work_for kind place.before.machine.state ≡ 0) × IsStill place.before place.after
        by_none (FoundNone are none) =
            let at = place_at [] [] (call (begin_of kind) reply_of.Nothing) are in
            let none_there = nothing_there kind at.0.before at.0.after at.2 in (
              at.0,
              subst (λ (cs : List Call). IsRoundOf kind cs Nothing) (are ∙ ap (λ (y : Call). y ∷ []) (sym at.1)) (subst (λ (r : Round). IsRoundOf kind its r) is how.2),
              none_there.0,
              none_there.1,
              none_there.2,
            )
        by_none (NotBegun b are why) = absurd (not_nothing (begin_cause b) (sym why ∙ is))
        by_none (Began job rest are ends) = absurd (subst (λ (r : Round). EndsAfter (begin_of kind) job rest r) is ends)

    -- ---- what it counts

    -- A round that listed a block: its begin gave a job of its kind, and what is counted is told of that.
    counted_at : (blocks rows : ℕ) → how.0 ≡ Did blocks rows → (place : CallPlace told first entries last client asked got []) × (place.entry.event ≡ begin_of kind)
        × ((job : Job) × Happens place.before.machine (begin_of kind) (given job) place.after.machine × IsSized job rows × (blocks ≡ blocks_of job))
    counted_at blocks rows is = by_job (begins_so kind its how.0 how.2)
      where
        by_job : BeginsSo (begin_of kind) its how.0 → (place : CallPlace told first entries last client asked got []) × (place.entry.event ≡ begin_of kind)
            × ((job : Job) × Happens place.before.machine (begin_of kind) (given job) place.after.machine × IsSized job rows × (blocks ≡ blocks_of job))
        by_job (FoundNone are none) = let bad : ⊥ = (let e = sym none ∙ is in cc) in absurd bad
        by_job (NotBegun b are why) = let bad : ⊥ = (let e = sym why ∙ is in cc) in absurd bad
        by_job (Began job rest are ends) =
            let at = place_at [] rest (call (begin_of kind) (given job)) are in
            let did : EndsAfter (begin_of kind) job rest (Did blocks rows) = subst (λ (r : Round). EndsAfter (begin_of kind) job rest r) is ends in (
              at.0,
              ap (λ (x : Call). x.event) at.1,
              (job, (begun (begin_of kind) (is_begin kind) at.0.before.faults at.0.after.faults at.0.before.machine at.0.after.machine job at.2.1).1, did.0, did.1),
            )

    -- ---- where no call fails

    ended_well : told ≡ true → first.machine.read_only ≡ None → (Rose first.faults last.faults → ⊥) → (job : Job) (rest : List Call)
        → its ≡ call (begin_of kind) (given job) ∷ rest → OfKind (begin_of kind) job → (round : Round) → how.0 ≡ round → EndsAfter (begin_of kind) job rest round → IsDoneOrStarved round
    ended_well sure writes well job rest are of (Did blocks rows) is ends = tt
    ended_well sure writes well job rest are of Nothing is ends = absurd ends
    ended_well sure writes well job rest are of (IsRefused c) is (inl for) =
        let was = subst (λ (r : Reply). WasReplied scripts answers client asked got (Ok (asked_for kind)) r) (how.1 ∙ ap (told_as kind) is ∙ refused_told kind c) this in
        given_well kind job c of for (finds_there (RoundOf c) c ran was refl sure)
    ended_well sure writes well job rest are of (IsRefused c) is (inr f) =
        let front = call (begin_of kind) (given job) ∷ f.front in
        let at = place_at front f.back f.c (are ∙ ap (λ (cs : List Call). call (begin_of kind) (given job) ∷ cs) f.are) in
        absurd (failed_not (begin_of kind) at.0.before at.0.after f.c c f.failed at.2 (writes_there told first last entries client asked got front at.0 writes well)
        (λ rose. well (rose_there told first last entries client asked got front at.0 rose)))

    -- A round that finds the store free, with numbers of files left, is done or memory ran out.
    done_at : told ≡ true → first.machine.read_only ≡ None → (Rose first.faults last.faults → ⊥) → (place : CallPlace told first entries last client asked got [])
        × (place.entry.event ≡ begin_of kind)
        × (job_open kind place.before.machine.state ≡ None → place.before.machine.state.next_file < 4294967294 → IsDoneOrStarved how.0)
    done_at sure writes well = by_start (begins_so kind its how.0 how.2)
      where
        by_start : BeginsSo (begin_of kind) its how.0 → (place : CallPlace told first entries last client asked got []) × (place.entry.event ≡ begin_of kind)
            × (job_open kind place.before.machine.state ≡ None → place.before.machine.state.next_file < 4294967294 → IsDoneOrStarved how.0)
        by_start (FoundNone are is) =
            let at = place_at [] [] (call (begin_of kind) reply_of.Nothing) are in
            (at.0, ap (λ (x : Call). x.event) at.1, λ closed files. subst IsDoneOrStarved (sym is) tt)
        by_start (NotBegun b are is) =
            let at = place_at [] [] (call (begin_of kind) (reply_of.Refused (begin_refusal b))) are in
            let before = at.0.before in
            let after = at.0.after in (
              at.0,
              ap (λ (x : Call). x.event) at.1,
              λ closed files. subst IsDoneOrStarved (sym is)
                  (begin_well kind before after b (writes_there told first last entries client asked got [] at.0 writes well)
                  (λ rose. well (rose_there told first last entries client asked got [] at.0 rose)) closed files
                  (not_begun (begin_of kind) (is_begin kind) before.faults after.faults before.machine after.machine (begin_refusal b) at.2.1)),
            )
        by_start (Began job rest are ends) =
            let at = place_at [] rest (call (begin_of kind) (given job)) are in
            let begins = begun (begin_of kind) (is_begin kind) at.0.before.faults at.0.after.faults at.0.before.machine at.0.after.machine job at.2.1 in
            let of = kind_of (begin_of kind) (is_begin kind) at.0.before.machine at.0.after.machine job begins.1 in
            (at.0, ap (λ (x : Call). x.event) at.1, λ closed files. ended_well sure writes well job rest are of how.0 refl ends)

-- ---- the laws

pub refused_there : (told : Bool) (first last : At) (scripts : List (List Item)) (answers : List Answered) (entries : List Entry) (client : ℕ) (asked : List Item) (got : List Reply) (kind : Kind)
    (why : Refusal) → Ran told first scripts answers entries last → WasReplied scripts answers client asked got (Ok (asked_for kind)) (Refused why)
    → (c : Cause) × (front back : List Call) × (place : CallPlace told first entries last client asked got front) × (why ≡ RoundOf c)
    × IsRoundOf kind (front ++ call_of place.entry ∷ back) (IsRefused c) × IsTurnedDown c place.entry.reply
    × HasCauseThere kind told c place.entry.event place.before place.after
refused_there told first last scripts answers entries client asked got kind why ran this =
    let calls = mine told first last scripts answers entries client asked got (Ok (asked_for kind)) (Refused why) ran this in
    let came = how told first last scripts answers entries client asked got kind (Refused why) ran this in
    let found = refused_round kind why came.0 came.1 in
    let leads : IsRoundOf kind calls (IsRefused found.0) = subst (λ (r : Round). IsRoundOf kind calls r) found.1 came.2 in
    let blamed =
    by_begin told first last scripts answers entries client asked got kind (Refused why) ran this found.0 leads
    (finds_there told first last scripts answers entries client asked got kind why found.0 ran this found.2) (begins_so kind calls (IsRefused found.0) leads) in
    (found.0, blamed.0, blamed.1, blamed.2, found.2, blamed.3, blamed.4, blamed.5)

pub nothing_told : (told : Bool) (first last : At) (scripts : List (List Item)) (answers : List Answered) (entries : List Entry) (client : ℕ) (asked : List Item) (got : List Reply) (kind : Kind)
    → Ran told first scripts answers entries last → WasReplied scripts answers client asked got (Ok (asked_for kind)) (told_as kind Nothing)
    → (place : CallPlace told first entries last client asked got []) × IsRoundOf kind (call_of place.entry ∷ []) Nothing
    × IsFreeFor kind place.before.machine × (work_for kind place.before.machine.state ≡ 0) × IsStill place.before place.after
nothing_told told first last scripts answers entries client asked got kind ran this =
    let came = how told first last scripts answers entries client asked got kind (told_as kind Nothing) ran this in
    idle_at told first last scripts answers entries client asked got kind (told_as kind Nothing) ran this (nothing_round kind came.0 came.1)

pub decided_there : (told : Bool) (first last : At) (scripts : List (List Item)) (answers : List Answered) (entries : List Entry) (client : ℕ) (asked : List Item) (got : List Reply) (kind : Kind)
    (reply : Reply) → Ran told first scripts answers entries last → WasReplied scripts answers client asked got (Ok (asked_for kind)) reply
    → (place : CallPlace told first entries last client asked got []) × (place.entry.event ≡ begin_of kind)
    × ((round : Round) → IsDecided kind place.before.machine round → reply ≡ told_as kind round)
decided_there told first last scripts answers entries client asked got kind reply ran this =
    begun_at told first last scripts answers entries client asked got kind reply ran this

pub done_there : (first last : At) (scripts : List (List Item)) (answers : List Answered) (entries : List Entry) (client : ℕ) (asked : List Item) (got : List Reply) (kind : Kind) (reply : Reply)
    → Ran true first scripts answers entries last → WasReplied scripts answers client asked got (Ok (asked_for kind)) reply
    → first.machine.read_only ≡ None → (Rose first.faults last.faults → ⊥)
    → (place : CallPlace true first entries last client asked got []) × (place.entry.event ≡ begin_of kind)
    × (HasRoomForRound kind place.before.machine.state → is_refusal reply ≡ false)
done_there first last scripts answers entries client asked got kind reply ran this writes well =
    let came = how true first last scripts answers entries client asked got kind reply ran this in
    let done = done_at true first last scripts answers entries client asked got kind reply ran this refl writes well in
    (done.0, done.1, λ room. ap is_refusal came.1 ∙ told_plain kind came.0 (done.2 room.0 room.1))

pub served_with_room : (clients rounds : ℕ) (s : Served) (old new : Edges) → IsServedRun true clients rounds s old new → ReadsWell old new
    → ((client : ℕ) (asked : List Item) (got : List Reply) (item : Item) (reply : Reply) → WasReplied s.scripts s.answers client asked got item reply
    → HasItsRoom true s.first s.entries s.last client asked got item reply)
    → (s.ending ≡ ending.Answered) ⊎ (s.ending ≡ ending.Starved)
served_with_room clients rounds s old new run well room =
    serving_well clients rounds s old new run well (λ client asked got item reply this. part client asked got item reply this (room client asked got item reply this))
  where
    quiet : Rose s.first.faults s.last.faults → ⊥
    quiet rose = well.0.3 (subst (λ (n : ℕ). Rose n new.disk_faults) run.opened.first_faults (subst (λ (n : ℕ). Rose s.first.faults n) run.opened.last_faults rose))

    part : (client : ℕ) (asked : List Item) (got : List Reply) (item : Item) (reply : Reply) → WasReplied s.scripts s.answers client asked got item reply
        → HasItsRoom true s.first s.entries s.last client asked got item reply → HasItsPart true s.first s.entries s.last client asked got item reply
    part client asked got (Ok request.Flush) reply this its_room =
        let done = done_there s.first s.last s.scripts s.answers s.entries client asked got Flushes reply run.ran this run.opened.begins.writes quiet in
        done.2 (its_room done.0)
    part client asked got (Ok request.Compact) reply this its_room =
        let done = done_there s.first s.last s.scripts s.answers s.entries client asked got Joins reply run.ran this run.opened.begins.writes quiet in
        done.2 (its_room done.0)
    part client asked got (Ok (request.Push reading moment)) reply this its_room = its_room
    part client asked got (Ok (request.Trace id)) reply this its_room = its_room
    part client asked got (Ok (request.Search q)) reply this its_room = its_room
    part client asked got (Ok (request.Metrics m)) reply this its_room = its_room
    part client asked got (Ok (request.Cut moment)) reply this its_room = its_room
    part client asked got (Ok request.CutAll) reply this its_room = its_room
    part client asked got (Ok request.Reclaim) reply this its_room = its_room
    part client asked got (Err why) reply this its_room = its_room

-- ---- what is counted

same_rows : (one other : FlushParts) → reply_of.Flushing one ≡ reply_of.Flushing other → one.rows ≡ other.rows
same_rows one other e = let same : one ≡ other = cc in ap (λ (job : FlushParts). job.rows) same

pub flushed_round : (rows : ℕ) (round : Round) → Flushed rows ≡ told_as Flushes round → (blocks : ℕ) × (round ≡ Did blocks rows)
flushed_round rows (Did blocks n) e = (blocks, ap (λ (k : ℕ). Did blocks k) (same_flushed rows n e))
  where
    same_flushed : (a b : ℕ) → Flushed a ≡ Flushed b → b ≡ a
    same_flushed a b is = cc
flushed_round rows Nothing e = let bad : ⊥ = cc in absurd bad
flushed_round rows (IsRefused c) e = let bad : ⊥ = cc in absurd bad

joined_round : (blocks rows : ℕ) (round : Round) → Compacted blocks rows ≡ told_as Joins round → round ≡ Did blocks rows
joined_round blocks rows (Did b r) e = cc
joined_round blocks rows Nothing e = let bad : ⊥ = cc in absurd bad
joined_round blocks rows (IsRefused c) e = let bad : ⊥ = cc in absurd bad

flushed_rows : (m m' : Machine) (job : Job) (rows : ℕ) → OfKind BeginFlush job → Happens m BeginFlush (given job) m' → IsSized job rows
    → (firsts : List Row) × IsFirstOf (take most_rows m.state.head) firsts × (rows ≡ length firsts)
flushed_rows m m' job rows (Rows its) done (firsts, are, counted) = (firsts, subst (λ (rs : List Row). IsFirstOf rs firsts) (same_rows its _ done.0) are, counted)

joined_blocks : (m m' : Machine) (job : Job) (blocks : ℕ) → OfKind BeginCompact job → Happens m BeginCompact (given job) m' → blocks ≡ blocks_of job → blocks ≡ length (choice m.state.blocks)
joined_blocks m m' job blocks (Blocks its) done is =
    let theirs : its.files ≡ block_files (choice m.state.blocks) = (same_files its _ done.2).1 in
    is ∙ ap length theirs ∙ length-map (choice m.state.blocks) (λ (block : Block). block.file)

pub flush_counted : (told : Bool) (first last : At) (scripts : List (List Item)) (answers : List Answered) (entries : List Entry) (client rows : ℕ) (asked : List Item) (got : List Reply)
    → Ran told first scripts answers entries last → WasReplied scripts answers client asked got (Ok Flush) (Flushed rows)
    → (place : CallPlace told first entries last client asked got []) × (place.entry.event ≡ BeginFlush)
    × ((firsts : List Row) × IsFirstOf (take most_rows place.before.machine.state.head) firsts × (rows ≡ length firsts))
flush_counted told first last scripts answers entries client rows asked got ran this =
    let came = how told first last scripts answers entries client asked got Flushes (Flushed rows) ran this in
    let did = flushed_round rows came.0 came.1 in
    let at = counted_at told first last scripts answers entries client asked got Flushes (Flushed rows) ran this did.0 rows did.1 in
    let m = at.0.before.machine in
    let m' = at.0.after.machine in
    (at.0, at.1, flushed_rows m m' at.2.0 rows (kind_of BeginFlush OfFlush m m' at.2.0 at.2.1) at.2.1 at.2.2)

pub joined_counted : (told : Bool) (first last : At) (scripts : List (List Item)) (answers : List Answered) (entries : List Entry) (client blocks rows : ℕ) (asked : List Item) (got : List Reply)
    → Ran told first scripts answers entries last → WasReplied scripts answers client asked got (Ok Compact) (Compacted blocks rows)
    → (place : CallPlace told first entries last client asked got []) × (place.entry.event ≡ BeginCompact) × (blocks ≡ length (choice place.before.machine.state.blocks))
joined_counted told first last scripts answers entries client blocks rows asked got ran this =
    let came = how told first last scripts answers entries client asked got Joins (Compacted blocks rows) ran this in
    let at = counted_at told first last scripts answers entries client asked got Joins (Compacted blocks rows) ran this blocks rows (joined_round blocks rows came.0 came.1) in
    let m = at.0.before.machine in
    let m' = at.0.after.machine in
    (at.0, at.1, joined_blocks m m' at.2.0 blocks (kind_of BeginCompact OfCompaction m m' at.2.0 at.2.1) at.2.1 at.2.3)
