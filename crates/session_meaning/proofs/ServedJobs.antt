-- What the commit of a flush and that of a compaction of a client list, where others' calls came in between.
use Rattle.std.proofs.Common.{◌≡◌, ◌∙◌, ℕ, ◌+◌, Bool, List, [], ◌∷◌, ◌++◌, Ok, ap, length, refl, subst, sym, take, drop}
use Rattle.std.proofs.lemmas.List.{length-map}
use Rattle.std.specs.Prelude.{⊤}
use Rattle.block_info.specs.InfoParts.{InfoParts}
use Rattle.client_scripts.specs.declared.script.Answered.{Answered}
use Rattle.compactor.specs.Rounds.{IsCompactRound, Leads as CompactLeads, Stage as CompactStage, Job as Joining, parts_of}
use Rattle.compactor.specs.Rounds.{Leads as joins, Stage as joining}
use Rattle.flusher.specs.Rounds.{IsFlushRound, Leads, Stage}
use Rattle.flusher.specs.Rounds.{Leads as leads, Stage as stage}
use Rattle.port_history.specs.Entries.{Entry, call_of}
use Rattle.session_text.specs.declared.reply.Reply.{Reply}
use Rattle.session_text.specs.declared.reply.Reply.TheVariants.{Compacted, Flushed}
use Rattle.session_text.specs.declared.request.Request.TheVariants.{Compact, Flush}
use Rattle.session_text.specs.Items.{Item}
use Rattle.span_types.specs.First.{IsFirstOf}
use Rattle.span_types.specs.declared.spans.Row.{Row}
use Rattle.store_model.specs.After.{taken}
use Rattle.store_model.specs.Choice.{choice}
use Rattle.store_model.specs.Event.{CompactParts, FlushParts, Refusal as refusal, Reply as reply_of}
use Rattle.store_model.specs.Event.Event.{BeginCompact, BeginFlush, CommitCompact, CommitFlush, ReadPage, WritePiece}
use Rattle.store_model.specs.Event.Reply.{Compacting, Fine, Flushing, Page}
use Rattle.store_model.specs.Sound.{StateIsSound}
use Rattle.store_model.specs.State.{Block}
use Rattle.store_model.specs.Step.{Machine}
use Rattle.store_model.proofs.KeepsSound.{step_keeps}
use Rattle.store_state.specs.Made.{Call, call}
use Rattle.store_state.specs.Replies.{write_refusal}
use Rattle.store_state.specs.Rounds.{write_cause}
use Rattle.store_state.specs.declared.rounds.Refusal.{Refusal as Cause}
use Rattle.store_state.specs.declared.rounds.Refusal.TheVariants.{Fault, Memory, NotBlock}
use Rattle.store_state.specs.declared.rounds.Round.{Round}
use Rattle.store_state.specs.declared.rounds.Round.TheVariants.{Did, Nothing, Refused}
use Rattle.session_meaning.specs.At.{At, IsStep}
use Rattle.session_meaning.specs.Rounds.{IsSized}
use Rattle.session_meaning.specs.Rounds.Job.{OfBlocks, OfRows}
use Rattle.session_meaning.specs.ServedJobs.{ListsInPlace, ListsRows}
use Rattle.session_meaning.specs.ServedReplies.{CallPlace, WasReplied}
use Rattle.session_meaning.specs.Serving.{Ran}
use Rattle.session_meaning.proofs.OpenJobs.{carried, flush_opened, flush_stays, joining_opened, joining_stays, lists_in_place, lists_rows, StaysFlushing, StaysJoining}
use Rattle.session_meaning.proofs.RoundSteps.{begun, write_done}
use Rattle.session_meaning.proofs.RoundSteps.IsBegin.{OfCompaction, OfFlush}
use Rattle.session_meaning.proofs.RoundSteps.IsWrite.{OfCompactCommit, OfFlushCommit}
use Rattle.session_meaning.proofs.ServedCounts.{did_of}
use Rattle.session_meaning.proofs.ServedPlaces.{earlier_place, is_answered, mine, place_of}
use Rattle.session_meaning.proofs.ServedRounds.{flushed_round}

-- ---- the calls of a flush

abbrev parts : ℕ → ℕ → List Row → FlushParts
parts number file rows = record { number = number; file = file; rows = rows }

-- The last of these calls is the commit of this job.
abbrev Commits : FlushParts → List Call → Round → Type 0
Commits job calls (Did blocks size) =
    (front : List Call) × (calls ≡ front ++ call (CommitFlush job.number size) Fine ∷ []) × (blocks ≡ 1) × IsSized (OfRows job) size
Commits job calls _ = ⊤

-- The first of them begins a job, and the last is its commit.
abbrev BeginsAndCommits : List Call → Round → Type 0
BeginsAndCommits calls (Did blocks size) =
    (job : FlushParts) × (front : List Call)
    × (calls ≡ call BeginFlush (Flushing job) ∷ (front ++ call (CommitFlush job.number size) Fine ∷ [])) × (blocks ≡ 1) × IsSized (OfRows job) size
BeginsAndCommits calls _ = ⊤

abbrev FromOn : Stage → List Call → Round → Type 0
FromOn stage.Fresh calls round = BeginsAndCommits calls round
FromOn (stage.Begun number file rows) calls round = Commits (parts number file rows) calls round
FromOn (stage.Writing number file bytes size) calls round = (rows : List Row) → IsSized (OfRows (parts number file rows)) size → Commits (parts number file rows) calls round
FromOn (stage.Failing number why) calls round = round ≡ Refused why
FromOn (stage.Ended last) calls round = ⊤

more : (job : FlushParts) (c : Call) (calls : List Call) (round : Round) → Commits job calls round → Commits job (c ∷ calls) round
more job c calls (Did blocks size) (front, is, one, sized) = (c ∷ front, ap (λ (cs : List Call). c ∷ cs) is, one, sized)
more job c calls Nothing ends = tt
more job c calls (Refused why) ends = tt

begins : (job : FlushParts) (calls : List Call) (round : Round) → Commits job calls round → BeginsAndCommits (call BeginFlush (Flushing job) ∷ calls) round
begins job calls (Did blocks size) (front, is, one, sized) = (job, front, ap (λ (cs : List Call). call BeginFlush (Flushing job) ∷ cs) is, one, sized)
begins job calls Nothing ends = tt
begins job calls (Refused why) ends = tt

fails : (job : FlushParts) (calls : List Call) (round : Round) (why : Cause) → round ≡ Refused why → Commits job calls round
fails job calls round why is = subst (λ (r : Round). Commits job calls r) (sym is) tt

flush_ends : (at : Stage) (calls : List Call) (round : Round) → Leads at calls round → FromOn at calls round
flush_ends at calls round leads.nothing = tt
flush_ends at calls round (leads.no_job why) = tt
flush_ends at calls round (leads.job {calls = cs} {round = r} number file rows rest) =
    begins (parts number file rows) cs r (flush_ends (stage.Begun number file rows) cs r rest)
flush_ends at calls round (leads.starved number file rows) = tt
flush_ends at calls round (leads.built {calls = cs} {round = r} number file rows bytes info block rest) =
    flush_ends (stage.Writing number file bytes info.rows) cs r rest rows (block.firsts, block.are_first, block.counted)
flush_ends at calls round (leads.written {calls = cs} {round = r} number file bytes size some rest) = λ rows sized.
    more (parts number file rows) (call (WritePiece number file (take 65536 bytes)) Fine) cs r (flush_ends (stage.Writing number file (drop 65536 bytes) size) cs r rest rows sized)
flush_ends at calls round (leads.unwritten {calls = cs} {round = r} number file bytes size why some rest) = λ rows sized.
    fails (parts number file rows) (call (WritePiece number file (take 65536 bytes)) (reply_of.Refused (write_refusal why)) ∷ cs) r (write_cause why)
    (flush_ends (stage.Failing number (write_cause why)) cs r rest)
flush_ends at calls round (leads.listed number file size) = λ rows sized. ([], refl, refl, sized)
flush_ends at calls round (leads.unlisted number file size why) = λ rows sized. tt
flush_ends at calls round (leads.dropped number why) = refl
flush_ends at calls round (leads.over last) = tt

-- ---- the calls of a compaction

abbrev CommitsToo : Joining → List Call → Round → Type 0
CommitsToo job calls (Did blocks size) =
    (front : List Call) × (calls ≡ front ++ call (CommitCompact job.number size) Fine ∷ []) × (blocks ≡ length job.blocks)
CommitsToo job calls _ = ⊤

abbrev BeginsAndCommitsToo : List Call → Round → Type 0
BeginsAndCommitsToo calls (Did blocks size) =
    (job : Joining) × (front : List Call)
    × (calls ≡ call BeginCompact (Compacting (parts_of job)) ∷ (front ++ call (CommitCompact job.number size) Fine ∷ [])) × (blocks ≡ length job.blocks)
BeginsAndCommitsToo calls _ = ⊤

abbrev FromOnToo : CompactStage → List Call → Round → Type 0
FromOnToo joining.Fresh calls round = BeginsAndCommitsToo calls round
FromOnToo (joining.Reading job read infos pages bytes) calls round = CommitsToo job calls round
FromOnToo (joining.Writing job bytes size) calls round = CommitsToo job calls round
FromOnToo (joining.Failing number why) calls round = round ≡ Refused why
FromOnToo (joining.Ended last) calls round = ⊤

more_too : (job : Joining) (c : Call) (calls : List Call) (round : Round) → CommitsToo job calls round → CommitsToo job (c ∷ calls) round
more_too job c calls (Did blocks size) (front, is, all) = (c ∷ front, ap (λ (cs : List Call). c ∷ cs) is, all)
more_too job c calls Nothing ends = tt
more_too job c calls (Refused why) ends = tt

begins_too : (job : Joining) (calls : List Call) (round : Round) → CommitsToo job calls round → BeginsAndCommitsToo (call BeginCompact (Compacting (parts_of job)) ∷ calls) round
begins_too job calls (Did blocks size) (front, is, all) = (job, front, ap (λ (cs : List Call). call BeginCompact (Compacting (parts_of job)) ∷ cs) is, all)
begins_too job calls Nothing ends = tt
begins_too job calls (Refused why) ends = tt

fails_too : (job : Joining) (calls : List Call) (round : Round) (why : Cause) → round ≡ Refused why → CommitsToo job calls round
fails_too job calls round why is = subst (λ (r : Round). CommitsToo job calls r) (sym is) tt

joining_ends : (at : CompactStage) (calls : List Call) (round : Round) → CompactLeads at calls round → FromOnToo at calls round
joining_ends at calls round joins.nothing = tt
joining_ends at calls round (joins.no_job why) = tt
joining_ends at calls round (joins.begun {calls = cs} {round = r} job rest) = begins_too job cs r (joining_ends (joining.Reading job [] job.blocks 0 []) cs r rest)
joining_ends at calls round (joins.read {calls = cs} {round = r} job read info infos pages bytes page some rest) =
    more_too job (call (ReadPage job.pin info.file pages) (Page page)) cs r (joining_ends (joining.Reading job read (info ∷ infos) (pages + 1) (bytes ++ page)) cs r rest)
joining_ends at calls round (joins.unread {calls = cs} {round = r} job read info infos pages bytes some rest) =
    fails_too job (call (ReadPage job.pin info.file pages) (reply_of.Refused refusal.Fault) ∷ cs) r Fault (joining_ends (joining.Failing job.number Fault) cs r rest)
joining_ends at calls round (joins.block {calls = cs} {round = r} job read info infos pages bytes rows all is rest) =
    joining_ends (joining.Reading job (read ++ rows ∷ []) infos 0 []) cs r rest
joining_ends at calls round (joins.no_block {calls = cs} {round = r} job read info infos pages bytes place all is rest) =
    fails_too job cs r (NotBlock info.file place) (joining_ends (joining.Failing job.number (NotBlock info.file place)) cs r rest)
joining_ends at calls round (joins.starved {calls = cs} {round = r} job read infos pages bytes rest) =
    fails_too job cs r Memory (joining_ends (joining.Failing job.number Memory) cs r rest)
joining_ends at calls round (joins.built {calls = cs} {round = r} job read pages pages_read bytes info is rest) = joining_ends (joining.Writing job bytes info.rows) cs r rest
joining_ends at calls round (joins.written {calls = cs} {round = r} job bytes size some rest) =
    more_too job (call (WritePiece job.number job.file (take 65536 bytes)) Fine) cs r (joining_ends (joining.Writing job (drop 65536 bytes) size) cs r rest)
joining_ends at calls round (joins.unwritten {calls = cs} {round = r} job bytes size why some rest) =
    fails_too job (call (WritePiece job.number job.file (take 65536 bytes)) (reply_of.Refused (write_refusal why)) ∷ cs) r (write_cause why)
    (joining_ends (joining.Failing job.number (write_cause why)) cs r rest)
joining_ends at calls round (joins.listed job size) = ([], refl, refl)
joining_ends at calls round (joins.unlisted job size why) = tt
joining_ends at calls round (joins.dropped number why) = refl
joining_ends at calls round (joins.over last) = tt

-- ---- what was given

given_rows : (one other : FlushParts) → Flushing one ≡ Flushing other → (one.number ≡ other.number) × (one.rows ≡ other.rows)
given_rows one other e =
    let same : one ≡ other = cc in (ap (λ (job : FlushParts). job.number) same, ap (λ (job : FlushParts). job.rows) same)

given_blocks : (one other : CompactParts) → Compacting one ≡ Compacting other → (one.number ≡ other.number) × (one.files ≡ other.files)
given_blocks one other e =
    let same : one ≡ other = cc in (ap (λ (job : CompactParts). job.number) same, ap (λ (job : CompactParts). job.files) same)

-- ---- the laws

pub flush_lists : (told : Bool) (first last : At) (scripts : List (List Item)) (answers : List Answered) (entries : List Entry) (client rows : ℕ) (asked : List Item) (got : List Reply)
    → Ran told first scripts answers entries last → WasReplied scripts answers client asked got (Ok Flush) (Flushed rows)
    → (begin : CallPlace told first entries last client asked got []) × (front : List Call) × (place : CallPlace told first entries last client asked got front)
    × (between : List Entry) × (place.earlier ≡ begin.earlier ++ begin.entry ∷ between) × (begin.entry.event ≡ BeginFlush)
    × (place.entry.event ≡ CommitFlush (begin.before.machine.state.begun + 1) rows) × IsFlushRound (front ++ call_of place.entry ∷ []) (Did 1 rows)
    × ListsRows begin.before.machine place.before.machine rows place.after.machine
flush_lists told first last scripts answers entries client rows asked got ran this =
    let its = mine told first last scripts answers entries client asked got (Ok Flush) (Flushed rows) ran this in
    let is = is_answered told first last scripts answers entries client asked got (Ok Flush) (Flushed rows) ran this in
    let did = flushed_round rows is.0 is.1 in
    let round : IsFlushRound its (Did did.0 rows) = subst (λ (r : Round). IsFlushRound its r) did.1 is.2 in
    let ends = flush_ends stage.Fresh its (Did did.0 rows) round in
    let job = ends.0 in
    let first_call : Call = call BeginFlush (Flushing job) in
    let last_call : Call = call (CommitFlush job.number rows) Fine in
    let front : List Call = first_call ∷ ends.1 in
    let at = place_of told first last scripts answers entries client asked got (Ok Flush) (Flushed rows) ran this front [] last_call ends.2 in
    let begin = earlier_place told first last entries client asked got [] ends.1 first_call at.0 in
    let before = begin.place.before in
    let after = begin.place.after in
    let step : IsStep before BeginFlush (Flushing job) after = subst (λ (x : Call). IsStep before x.event x.reply after) begin.call begin.place.made.step in
    let gave = (begun BeginFlush OfFlush before.faults after.faults before.machine after.machine (OfRows job) step.1).1 in
    let same = given_rows job _ gave.0 in
    let stays = carried (StaysFlushing (taken before.machine.state)) (flush_stays (taken before.machine.state)) told after at.0.before begin.between begin.leads (flush_opened before.machine after.machine gave.1) in
    let ending : IsStep at.0.before (CommitFlush job.number rows) Fine at.0.after = subst (λ (x : Call). IsStep at.0.before x.event x.reply at.0.after) at.1 at.0.made.step in
    let done = write_done (CommitFlush job.number rows) (OfFlushCommit job.number rows) at.0.before.faults at.0.after.faults at.0.before.machine at.0.after.machine ending.1 in
    let sized : IsSized (OfRows job) rows = ends.4 in (
      begin.place,
      front,
      at.0,
      begin.between,
      begin.is_earlier,
      ap (λ (x : Call). x.event) begin.call,
      ap (λ (x : Call). x.event) at.1 ∙ ap (λ (n : ℕ). CommitFlush n rows) same.0,
      subst (λ (n : ℕ). IsFlushRound (front ++ call_of at.0.entry ∷ []) (Did n rows)) ends.3
          (subst (λ (cs : List Call). IsFlushRound cs (Did did.0 rows)) (ends.2 ∙ ap (λ (x : Call). front ++ x ∷ []) (sym at.1)) round),
      lists_rows job.number rows before.machine at.0.before.machine at.0.after.machine sized.0 same.0 stays
          (subst (λ (rs : List Row). IsFirstOf rs sized.0) same.1 sized.1) sized.2 done,
    )

pub compaction_lists : (told : Bool) (first last : At) (scripts : List (List Item)) (answers : List Answered) (entries : List Entry) (client blocks rows : ℕ) (asked : List Item) (got : List Reply)
    → Ran told first scripts answers entries last → WasReplied scripts answers client asked got (Ok Compact) (Compacted blocks rows)
    → (begin : CallPlace told first entries last client asked got []) × (front : List Call) × (place : CallPlace told first entries last client asked got front)
    × (between : List Entry) × (place.earlier ≡ begin.earlier ++ begin.entry ∷ between) × (begin.entry.event ≡ BeginCompact)
    × (place.entry.event ≡ CommitCompact (begin.before.machine.state.begun + 1) rows) × IsCompactRound (front ++ call_of place.entry ∷ []) (Did blocks rows)
    × ListsInPlace told begin.before.machine place.before.machine blocks rows place.after.machine
compaction_lists told first last scripts answers entries client blocks rows asked got ran this =
    let its = mine told first last scripts answers entries client asked got (Ok Compact) (Compacted blocks rows) ran this in
    let is = is_answered told first last scripts answers entries client asked got (Ok Compact) (Compacted blocks rows) ran this in
    let round : IsCompactRound its (Did blocks rows) = subst (λ (r : Round). IsCompactRound its r) (did_of blocks rows is.0 is.1) is.2 in
    let ends = joining_ends joining.Fresh its (Did blocks rows) round in
    let job = ends.0 in
    let first_call : Call = call BeginCompact (Compacting (parts_of job)) in
    let last_call : Call = call (CommitCompact job.number rows) Fine in
    let front : List Call = first_call ∷ ends.1 in
    let at = place_of told first last scripts answers entries client asked got (Ok Compact) (Compacted blocks rows) ran this front [] last_call ends.2 in
    let begin = earlier_place told first last entries client asked got [] ends.1 first_call at.0 in
    let before = begin.place.before in
    let after = begin.place.after in
    let step : IsStep before BeginCompact (Compacting (parts_of job)) after = subst (λ (x : Call). IsStep before x.event x.reply after) begin.call begin.place.made.step in
    let gave = (begun BeginCompact OfCompaction before.faults after.faults before.machine after.machine (OfBlocks (parts_of job)) step.1).1 in
    let same = given_blocks (parts_of job) _ gave.2 in
    let stays = carried (StaysJoining before.machine.state gave.0) (joining_stays before.machine.state gave.0) told after at.0.before begin.between begin.leads
    (joining_opened gave.0 before.machine after.machine gave.1 gave.3) in
    let sound : StateIsSound before.machine.state → StateIsSound at.0.before.machine.state =
    λ apart. carried (λ (m : Machine). StateIsSound m.state) (λ f g m m' e r s has. step_keeps f g m m' e r has s) told after at.0.before begin.between begin.leads
    (step_keeps before.faults after.faults before.machine after.machine BeginCompact (Compacting (parts_of job)) apart step.1) in
    let ending : IsStep at.0.before (CommitCompact job.number rows) Fine at.0.after = subst (λ (x : Call). IsStep at.0.before x.event x.reply at.0.after) at.1 at.0.made.step in
    let done = write_done (CommitCompact job.number rows) (OfCompactCommit job.number rows) at.0.before.faults at.0.after.faults at.0.before.machine at.0.after.machine ending.1 in
    let all : blocks ≡ length (choice before.machine.state.blocks) =
    ends.3 ∙ sym (length-map job.blocks (λ (info : InfoParts). info.file)) ∙ ap length same.1
    ∙ length-map (choice before.machine.state.blocks) (λ (block : Block). block.file) in (
      begin.place,
      front,
      at.0,
      begin.between,
      begin.is_earlier,
      ap (λ (x : Call). x.event) begin.call,
      ap (λ (x : Call). x.event) at.1 ∙ ap (λ (n : ℕ). CommitCompact n rows) same.0,
      subst (λ (cs : List Call). IsCompactRound cs (Did blocks rows)) (ends.2 ∙ ap (λ (x : Call). front ++ x ∷ []) (sym at.1)) round,
      lists_in_place told job.number rows gave.0 blocks before.machine at.0.before.machine at.0.after.machine same.0 gave.1 all stays sound at.0.made.counted done,
    )
