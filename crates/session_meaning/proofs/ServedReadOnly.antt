-- From when on the store of several clients writes no more, and who is told that.
use Rattle.std.proofs.Common.{◌≡◌, ◌⊎◌, inl, inr, ◌∙◌, ℕ, ◌+◌, ◌==◌, nat_le, nat_lt, Bool, true, false, List, [], ◌∷◌, ◌++◌, length, Option, None, Some, Result, Ok, Err, ap, refl, sym, subst}
use Rattle.client_run.specs.Answers.{AreSeriesTold, IsSearchTold, asked_of, compact_reply, cut_reply, flush_reply, pushed_reply, query_refusal, reclaimed_reply, trace_reply}
use Rattle.client_scripts.specs.declared.script.Answered.{Answered}
use Rattle.otlp_spans.specs.declared.read.Reading.{Reading}
use Rattle.port_history.specs.Entries.{Entry}
use Rattle.query_fanout.specs.declared.error.QueryError.{QueryError}
use Rattle.query_fanout.specs.declared.error.QueryError.TheVariants as error
use Rattle.query_fanout.specs.declared.searching.Asked.{Asked}
use Rattle.query_fanout.specs.declared.searching.SearchAnswer.{SearchAnswer}
use Rattle.query_fanout.specs.declared.trace.TraceAnswer.{TraceAnswer}
use Rattle.session_text.specs.declared.refusal.Refusal.{Refusal as Why}
use Rattle.session_text.specs.declared.refusal.Refusal.TheVariants as why_is
use Rattle.session_text.specs.declared.reply.Reply.{Reply}
use Rattle.session_text.specs.declared.reply.Reply.TheVariants as says
use Rattle.session_text.specs.declared.request.Request.{Request}
use Rattle.session_text.specs.declared.request.Request.TheVariants as request
use Rattle.session_text.specs.Items.{Item}
use Rattle.span_types.specs.Faults.{Rose}
use Rattle.span_types.specs.declared.errors.Memory.{Memory}
use Rattle.store_model.specs.Choice.{choice}
use Rattle.store_model.specs.Event.{Event as event, Reply as reply}
use Rattle.store_model.specs.Event.Event.{BeginCompact, BeginFlush, CommitCompact, CommitFlush, Cut, CutAll, Done, DropCompact, DropFlush, Held, Look, Push, ReadPage, Reclaim, WritePiece}
use Rattle.store_model.specs.Event.Reply.{Refused}
use Rattle.store_model.specs.Event.Refusal.{Busy, Fault, FilesSpent, LiveFull, ReadOnly, StoreFull}
use Rattle.store_model.specs.History.{count_of}
use Rattle.store_model.specs.State.{Compaction, Flush, held_of}
use Rattle.store_model.specs.Step.{Happens, Machine, Step, early, if_compacting, if_flushing, if_full, if_idle, if_read_only, if_test, writes}
use Rattle.store_model.specs.Step.Step.{Sure, Succeeds, Lacks, Unread, Breaks, Halts}
use Rattle.store_state.specs.Made.{Call, call}
use Rattle.store_state.specs.Replies.{begin_refusal, push_reply, reclaim_reply, write_refusal}
use Rattle.store_state.specs.Rounds.{begin_cause, write_cause}
use Rattle.store_state.specs.declared.errors.BeginError.{BeginError}
use Rattle.store_state.specs.declared.errors.BeginError.TheVariants as begin
use Rattle.store_state.specs.declared.errors.PushError.{PushError}
use Rattle.store_state.specs.declared.errors.PushError.TheVariants as push
use Rattle.store_state.specs.declared.errors.ReclaimError.{ReclaimError}
use Rattle.store_state.specs.declared.errors.ReclaimError.TheVariants as reclaim
use Rattle.store_state.specs.declared.errors.WriteError.{WriteError}
use Rattle.store_state.specs.declared.errors.WriteError.TheVariants as write
use Rattle.store_state.specs.declared.rounds.Refusal.{Refusal as Cause}
use Rattle.store_state.specs.declared.rounds.Refusal.TheVariants as cause_is
use Rattle.store_state.specs.declared.rounds.Round.{Round}
use Rattle.store_state.specs.declared.rounds.Round.TheVariants as round
use Rattle.session_meaning.specs.Answering.{IsItemAnswered}
use Rattle.session_meaning.specs.At.{At}
use Rattle.session_meaning.specs.Rounds.{IsGivenUpFor, Job, given}
use Rattle.session_meaning.specs.Rounds.Job.{OfBlocks, OfRows}
use Rattle.session_meaning.specs.ServedFaults.{HasBroken, count_told}
use Rattle.session_meaning.specs.ServedReplies.{CallPlace, WasReplied}
use Rattle.session_meaning.specs.Serving.{EntriesLead, Ran}
use Rattle.session_meaning.proofs.RoundCalls.{BeginsSo, FailedBy, compaction_begins, flush_begins}
use Rattle.session_meaning.proofs.RoundCalls.BeginsSo.{Began, FoundNone, NotBegun}
use Rattle.session_meaning.proofs.RoundCalls.FailedBy.{ByRead, ByWrite}
use Rattle.session_meaning.proofs.ServedPlaces.{is_answered, mine, place_of}
use Rattle.session_meaning.proofs.Steps.{happens_writes, read_only, rose_from}

-- ---- a step

if_none : (o : Option ℕ) (later : Option reply) → if_read_only o later ≡ None → o ≡ None
if_none None later none = refl
if_none (Some n) later none = let bad : ⊥ = cc in absurd bad

-- What writes, and isn't sure of its reply, finds a store that writes.
writes_yet : (m : Machine) (e : event) → early m e ≡ None → writes m.state e ≡ true → m.read_only ≡ None
writes_yet m (Push spans moment) none does = if_none m.read_only _ none
writes_yet m (Cut moment) none does = let bad : ⊥ = cc in absurd bad
writes_yet m CutAll none does = let bad : ⊥ = cc in absurd bad
writes_yet m Held none does = let bad : ⊥ = cc in absurd bad
writes_yet m BeginFlush none does = if_none m.read_only _ none
writes_yet m BeginCompact none does = if_none m.read_only _ none
writes_yet m (WritePiece job file bytes) none does = if_none m.read_only _ none
writes_yet m (CommitFlush job size) none does = if_none m.read_only _ none
writes_yet m (CommitCompact job size) none does = if_none m.read_only _ none
writes_yet m (DropFlush job) none does = let bad : ⊥ = cc in absurd bad
writes_yet m (DropCompact job) none does = let bad : ⊥ = cc in absurd bad
writes_yet m Look none does = let bad : ⊥ = cc in absurd bad
writes_yet m (ReadPage pin file page) none does = let bad : ⊥ = cc in absurd bad
writes_yet m (Done pin) none does = let bad : ⊥ = cc in absurd bad
writes_yet m Reclaim none does = if_none m.read_only _ none

-- It failed as it wrote, in a store that wrote until then.
record Broke (f g : ℕ) (m : Machine) (e : event) (r : reply) (m' : Machine) : Type 0 where
  wrote : m.read_only ≡ None
  is_write : writes m.state e ≡ true
  failed : r ≡ Refused Fault
  rose : Rose f g
  tells : m'.read_only ≡ Some g

stays_or_broke : (f g : ℕ) (m m' : Machine) (e : event) (r : reply) → Step f g m e r m' → (m'.read_only ≡ m.read_only) ⊎ Broke f g m e r m'
stays_or_broke f g m m' e r (Sure told same) = inl (ap read_only same)
stays_or_broke f g m m' e r (Succeeds none done) = inl (happens_writes m m' e r done)
stays_or_broke f g m m' e r (Lacks none takes told same) = inl (ap read_only same)
stays_or_broke f g m m' e r (Unread reads told rose same) = inl (ap read_only same)
stays_or_broke f g m m' e r (Breaks none does told rose same) =
    inr (record { wrote = writes_yet m e none does; is_write = does; failed = told; rose = rose; tells = ap read_only same })
stays_or_broke f g m m' e r (Halts none reclaims does told rose emptied fewer same) =
    inr (record { wrote = writes_yet m e none does; is_write = does; failed = told; rose = rose; tells = ap read_only same })

pub not_both : (n : ℕ) (o : Option ℕ) → o ≡ None → o ≡ Some n → ⊥
not_both n o none some = cc

-- ---- along calls

pub stays_so : (told : Bool) (first last : At) (entries : List Entry) (faults : ℕ) → EntriesLead told first entries last → first.machine.read_only ≡ Some faults
    → last.machine.read_only ≡ Some faults
stays_so told first last [] faults same is = ap (λ (at : At). at.machine.read_only) same ∙ is
stays_so told first last (e ∷ es) faults (between, made, rest) is =
    elim (stays_or_broke first.faults between.faults first.machine between.machine e.event e.reply made.step.1) [
      | inl same ↦ stays_so told between last es faults rest (same ∙ is)
      | inr broke ↦ absurd (not_both faults first.machine.read_only broke.wrote is)
    ]

pub breaks_once : (told : Bool) (first last : At) (entries : List Entry) → EntriesLead told first entries last → first.machine.read_only ≡ None
    → (last.machine.read_only ≡ None) ⊎ HasBroken told first entries last
breaks_once told first last [] same is = inl (ap (λ (at : At). at.machine.read_only) same ∙ is)
breaks_once told first last (e ∷ es) (between, made, rest) is =
    elim (stays_or_broke first.faults between.faults first.machine between.machine e.event e.reply made.step.1) [
      | inl same ↦ later (breaks_once told between last es rest (same ∙ is))
      | inr broke ↦ inr (record {
        earlier = [];
        entry = e;
        later = es;
        entries_are = refl;
        before = first;
        after = between;
        to = refl;
        made = made;
        from = rest;
        wrote = is;
        writes = broke.is_write;
        failed = broke.failed;
        rose = subst (λ (n : ℕ). Rose first.faults n) (sym made.to) broke.rose;
        tells = stays_so told between last es e.after rest (broke.tells ∙ ap (λ (n : ℕ). Some n) (sym made.to));
      })
    ]
  where
    later : (last.machine.read_only ≡ None) ⊎ HasBroken told between es last → (last.machine.read_only ≡ None) ⊎ HasBroken told first (e ∷ es) last
    later (inl writes) = inl writes
    later (inr b) = inr (record {
      earlier = e ∷ b.earlier;
      entry = b.entry;
      later = b.later;
      entries_are = ap (λ (xs : List Entry). e ∷ xs) b.entries_are;
      before = b.before;
      after = b.after;
      to = (between, made, b.to);
      made = b.made;
      from = b.from;
      wrote = b.wrote;
      writes = b.writes;
      failed = b.failed;
      rose = rose_from first.faults between.faults b.entry.after made.step.0 b.rose;
      tells = b.tells;
    })

-- ---- a call that is told so

abbrev pub Stopped : ℕ → reply
Stopped faults = Refused (ReadOnly faults)

stopped_by : (o : Option ℕ) (later : Option reply) (faults : ℕ) → (later ≡ Some (Stopped faults) → ⊥) → if_read_only o later ≡ Some (Stopped faults) → o ≡ Some faults
stopped_by None later faults none e = absurd (none e)
stopped_by (Some n) later faults none e = cc

no_test : (t : Bool) (r x : reply) (later : Option reply) → (r ≡ x → ⊥) → (later ≡ Some x → ⊥) → if_test t r later ≡ Some x → ⊥
no_test true r x later here after e = here (let same : r ≡ x = cc in same)
no_test false r x later here after e = after e

not_none : (x : reply) → None ≡ Some x → ⊥
not_none x e = cc

full_not : (count held more faults : ℕ) → if_full count held more ≡ Some (Stopped faults) → ⊥
full_not count held more faults e =
    no_test (nat_le 4294967295 count) (Refused (StoreFull count)) (Stopped faults) _ (λ same. let bad : ⊥ = cc in bad)
    (no_test (nat_lt 262144 (held + more)) (Refused (LiveFull held)) (Stopped faults) None (λ same. let bad : ⊥ = cc in bad) (not_none (Stopped faults))) e

idle_not : (work next faults : ℕ) → if_idle work next ≡ Some (Stopped faults) → ⊥
idle_not work next faults e =
    no_test (work == 0) reply.Nothing (Stopped faults) _ (λ same. let bad : ⊥ = cc in bad)
    (no_test (nat_le 4294967294 next) (Refused (FilesSpent next)) (Stopped faults) None (λ same. let bad : ⊥ = cc in bad) (not_none (Stopped faults))) e

flushing_not : (f : Option Flush) (later : Option reply) (faults : ℕ) → (later ≡ Some (Stopped faults) → ⊥) → if_flushing f later ≡ Some (Stopped faults) → ⊥
flushing_not None later faults none e = none e
flushing_not (Some job) later faults none e = cc

compacting_not : (f : Option Compaction) (later : Option reply) (faults : ℕ) → (later ≡ Some (Stopped faults) → ⊥) → if_compacting f later ≡ Some (Stopped faults) → ⊥
compacting_not None later faults none e = none e
compacting_not (Some job) later faults none e = cc

early_stopped : (m : Machine) (e : event) (faults : ℕ) → early m e ≡ Some (Stopped faults) → m.read_only ≡ Some faults
early_stopped m (Push spans moment) faults is = stopped_by m.read_only _ faults (full_not (count_of m.history) (held_of m.state) (length spans) faults) is
early_stopped m (Cut moment) faults is = absurd (not_none (Stopped faults) is)
early_stopped m CutAll faults is = absurd (not_none (Stopped faults) is)
early_stopped m Held faults is = absurd (not_none (Stopped faults) is)
early_stopped m BeginFlush faults is =
    stopped_by m.read_only _ faults (flushing_not m.state.flush _ faults (idle_not (length m.state.head) m.state.next_file faults)) is
early_stopped m BeginCompact faults is =
    stopped_by m.read_only _ faults (compacting_not m.state.compaction _ faults (idle_not (length (choice m.state.blocks)) m.state.next_file faults)) is
early_stopped m (WritePiece job file bytes) faults is = stopped_by m.read_only None faults (not_none (Stopped faults)) is
early_stopped m (CommitFlush job size) faults is = stopped_by m.read_only None faults (not_none (Stopped faults)) is
early_stopped m (CommitCompact job size) faults is = stopped_by m.read_only None faults (not_none (Stopped faults)) is
early_stopped m (DropFlush job) faults is = absurd (not_none (Stopped faults) is)
early_stopped m (DropCompact job) faults is = absurd (not_none (Stopped faults) is)
early_stopped m Look faults is = absurd (not_none (Stopped faults) is)
early_stopped m (ReadPage pin file page) faults is = absurd (not_none (Stopped faults) is)
early_stopped m (Done pin) faults is = absurd (not_none (Stopped faults) is)
early_stopped m Reclaim faults is = stopped_by m.read_only None faults (not_none (Stopped faults)) is

-- What happens isn't answered so.
happens_not : (m m' : Machine) (e : event) (faults : ℕ) → Happens m e (Stopped faults) m' → ⊥
happens_not m m' (Push spans moment) faults d = let is = d.0 in cc
happens_not m m' (Cut moment) faults d = let is = d.2 in cc
happens_not m m' CutAll faults d = let is = d.2 in cc
happens_not m m' Held faults d = let is = d.0 in cc
happens_not m m' BeginFlush faults d = let is = d.0 in cc
happens_not m m' BeginCompact faults d = let is = d.2 in cc
happens_not m m' (WritePiece job file bytes) faults d = let is = d.0 in cc
happens_not m m' (CommitFlush number size) faults d = let is = d.5 in cc
happens_not m m' (CommitCompact number size) faults d = let is = d.5 in cc
happens_not m m' (DropFlush number) faults d = let is = d.3 in cc
happens_not m m' (DropCompact number) faults d = let is = d.3 in cc
happens_not m m' Look faults d = let is = d.4 in cc
happens_not m m' (ReadPage pin file page) faults d = let is = d.1 in cc
happens_not m m' (Done pin) faults d = let is = d.1 in cc
happens_not m m' Reclaim faults d = let is = d.0 in cc

pub step_stopped : (f g : ℕ) (m m' : Machine) (e : event) (faults : ℕ) → Step f g m e (Stopped faults) m' → m.read_only ≡ Some faults
step_stopped f g m m' e faults (Sure told same) = early_stopped m e faults told
step_stopped f g m m' e faults (Succeeds none done) = absurd (happens_not m m' e faults done)
step_stopped f g m m' e faults (Lacks none takes told same) = let bad : ⊥ = cc in absurd bad
step_stopped f g m m' e faults (Unread reads told rose same) = let bad : ⊥ = cc in absurd bad
step_stopped f g m m' e faults (Breaks none does told rose same) = let bad : ⊥ = cc in absurd bad
step_stopped f g m m' e faults (Halts none reclaims does told rose emptied fewer same) = let bad : ⊥ = cc in absurd bad

-- ---- a reply that says so

-- One of these calls was answered so.
record HasStopped (calls : List Call) (faults : ℕ) : Type 0 where
  front : List Call
  c : Call
  back : List Call
  are : calls ≡ front ++ c ∷ back
  is : c.reply ≡ Stopped faults

first_stopped : (c : Call) (calls : List Call) (faults : ℕ) → c.reply ≡ Stopped faults → HasStopped (c ∷ calls) faults
first_stopped c calls faults is = record { front = []; c = c; back = calls; are = refl; is = is }

same_count : (a b : ℕ) → Some a ≡ Some b → a ≡ b
same_count a b e = cc

tells_none : (r : Reply) (why : Why) (x : Reply) → r ≡ x → says.Refused why ≡ r → says.Refused why ≡ x
tells_none r why x is also = also ∙ is

same_why : (a b : Why) → says.Refused a ≡ says.Refused b → a ≡ b
same_why a b e = cc

-- No reply but a refusal is one.
pushed_stops : (reading : Reading) (answer : Result ℕ PushError) (why : Why) (faults : ℕ) → says.Refused why ≡ pushed_reply reading answer → count_told why ≡ Some faults
    → push_reply answer ≡ Stopped faults
pushed_stops reading (Ok n) why faults is tells = let bad : ⊥ = cc in absurd bad
pushed_stops reading (Err (push.LiveFull held)) why faults is tells = let bad : ⊥ = (let e = sym (ap count_told (same_why why _ is)) ∙ tells in cc) in absurd bad
pushed_stops reading (Err (push.StoreFull pushes)) why faults is tells = let bad : ⊥ = (let e = sym (ap count_told (same_why why _ is)) ∙ tells in cc) in absurd bad
pushed_stops reading (Err (push.ReadOnly n)) why faults is tells =
    ap (λ (k : ℕ). Stopped k) (same_count n faults (sym (ap count_told (same_why why (why_is.ReadOnly n) is)) ∙ tells))
pushed_stops reading (Err push.Fault) why faults is tells = let bad : ⊥ = (let e = sym (ap count_told (same_why why _ is)) ∙ tells in cc) in absurd bad
pushed_stops reading (Err push.Memory) why faults is tells = let bad : ⊥ = (let e = sym (ap count_told (same_why why _ is)) ∙ tells in cc) in absurd bad

reclaim_stops : (answer : Result ℕ ReclaimError) (why : Why) (faults : ℕ) → says.Refused why ≡ reclaimed_reply answer → count_told why ≡ Some faults → reclaim_reply answer ≡ Stopped faults
reclaim_stops (Ok n) why faults is tells = let bad : ⊥ = cc in absurd bad
reclaim_stops (Err (reclaim.ReadOnly n)) why faults is tells =
    ap (λ (k : ℕ). Stopped k) (same_count n faults (sym (ap count_told (same_why why (why_is.ReadOnly n) is)) ∙ tells))
reclaim_stops (Err reclaim.Fault) why faults is tells = let bad : ⊥ = (let e = sym (ap count_told (same_why why _ is)) ∙ tells in cc) in absurd bad
reclaim_stops (Err reclaim.Memory) why faults is tells = let bad : ⊥ = (let e = sym (ap count_told (same_why why _ is)) ∙ tells in cc) in absurd bad

cut_stops_not : (tells : ℕ → Reply) (answer : Result ℕ Memory) (why : Why) (faults : ℕ) → ((n : ℕ) → says.Refused why ≡ tells n → ⊥) → says.Refused why ≡ cut_reply tells answer
    → count_told why ≡ Some faults → ⊥
cut_stops_not tells (Ok n) why faults none is count = none n is
cut_stops_not tells (Err e) why faults none is count = let same = sym (ap count_told (same_why why why_is.Memory is)) ∙ count in cc

query_stops_not : (e : QueryError) (why : Why) (faults : ℕ) → says.Refused why ≡ says.Refused (query_refusal e) → count_told why ≡ Some faults → ⊥
query_stops_not error.Fault why faults is tells = let e = sym (ap count_told (same_why why _ is)) ∙ tells in cc
query_stops_not (error.NotBlock file at) why faults is tells = let e = sym (ap count_told (same_why why _ is)) ∙ tells in cc
query_stops_not error.Memory why faults is tells = let e = sym (ap count_told (same_why why _ is)) ∙ tells in cc

memory_not : (why : Why) (faults : ℕ) → says.Refused why ≡ says.Refused why_is.Memory → count_told why ≡ Some faults → ⊥
memory_not why faults is tells = let e = sym (ap count_told (same_why why why_is.Memory is)) ∙ tells in cc

trace_stops_not : (answer : Result TraceAnswer QueryError) (why : Why) (faults : ℕ) → says.Refused why ≡ trace_reply answer → count_told why ≡ Some faults → ⊥
trace_stops_not (Ok x) why faults is tells = cc
trace_stops_not (Err e) why faults is tells = query_stops_not e why faults is tells

search_stops_not : (asked : Asked) (answer : Result SearchAnswer QueryError) (why : Why) (faults : ℕ) → IsSearchTold asked answer (says.Refused why) → count_told why ≡ Some faults → ⊥
search_stops_not asked (Ok x) why faults (inl is) tells = cc
search_stops_not asked (Ok x) why faults (inr is) tells = memory_not why faults is tells
search_stops_not asked (Err e) why faults is tells = query_stops_not e why faults is tells

metrics_stops_not : (start end step : ℕ) (rate : Bool) (answer : Result SearchAnswer QueryError) (why : Why) (faults : ℕ) → AreSeriesTold start end step rate answer (says.Refused why)
    → count_told why ≡ Some faults → ⊥
metrics_stops_not start end step rate (Ok x) why faults (inl (series, are, is)) tells = cc
metrics_stops_not start end step rate (Ok x) why faults (inr is) tells = memory_not why faults is tells
metrics_stops_not start end step rate (Err e) why faults is tells = query_stops_not e why faults is tells

-- ---- a round that says so

abbrev count_of_cause : Cause → Option ℕ
count_of_cause c = count_told (why_is.Round c)

begin_stops : (b : BeginError) (faults : ℕ) → count_of_cause (begin_cause b) ≡ Some faults → Refused (begin_refusal b) ≡ Stopped faults
begin_stops (begin.ReadOnly n) faults tells = ap (λ (k : ℕ). Stopped k) (same_count n faults tells)
begin_stops (begin.Busy job) faults tells = let bad : ⊥ = cc in absurd bad
begin_stops (begin.FilesSpent next) faults tells = let bad : ⊥ = cc in absurd bad
begin_stops begin.Fault faults tells = let bad : ⊥ = cc in absurd bad
begin_stops begin.Memory faults tells = let bad : ⊥ = cc in absurd bad

write_stops : (w : WriteError) (faults : ℕ) → count_of_cause (write_cause w) ≡ Some faults → Refused (write_refusal w) ≡ Stopped faults
write_stops (write.ReadOnly n) faults tells = ap (λ (k : ℕ). Stopped k) (same_count n faults tells)
write_stops write.Fault faults tells = let bad : ⊥ = cc in absurd bad

given_up_not : (job : Job) (c : Cause) (faults : ℕ) → IsGivenUpFor job c → count_of_cause c ≡ Some faults → ⊥
given_up_not job cause_is.Memory faults for tells = cc
given_up_not job (cause_is.NotBlock file at) faults for tells = cc
given_up_not job (cause_is.Busy number) faults for tells = cc
given_up_not job (cause_is.FilesSpent next) faults for tells = cc
given_up_not job cause_is.Fault faults for tells = cc
given_up_not (OfRows job) (cause_is.ReadOnly n) faults for tells = absurd for
given_up_not (OfBlocks job) (cause_is.ReadOnly n) faults for tells = absurd for

failed_stops : (begins : event) (c : Call) (because : Cause) (faults : ℕ) → FailedBy begins c because → count_of_cause because ≡ Some faults → c.reply ≡ Stopped faults
failed_stops begins c because faults (ByWrite is w answered so) tells = answered ∙ write_stops w faults (sym (ap count_of_cause so) ∙ tells)
failed_stops begins c because faults (ByRead joins pin file page is so) tells = let bad : ⊥ = (let e = sym (ap count_of_cause so) ∙ tells in cc) in absurd bad

same_round : (a b : Cause) → round.Refused a ≡ round.Refused b → a ≡ b
same_round a b e = cc

round_stops : (begins : event) (calls : List Call) (c : Cause) (faults : ℕ) → BeginsSo begins calls (round.Refused c) → count_of_cause c ≡ Some faults → HasStopped calls faults
round_stops begins calls c faults (FoundNone are is) tells = let bad : ⊥ = cc in absurd bad
round_stops begins calls c faults (NotBegun b are is) tells =
    let here = begin_stops b faults (sym (ap count_of_cause (same_round c (begin_cause b) is)) ∙ tells) in
    subst (λ (cs : List Call). HasStopped cs faults) (sym are) (first_stopped (call begins (Refused (begin_refusal b))) [] faults here)
round_stops begins calls c faults (Began job rest are (inl for)) tells = absurd (given_up_not job c faults for tells)
round_stops begins calls c faults (Began job rest are (inr f)) tells = record {
  front = call begins (given job) ∷ f.front;
  c = f.c;
  back = f.back;
  are = are ∙ ap (λ (cs : List Call). call begins (given job) ∷ cs) f.are;
  is = failed_stops begins f.c c faults f.failed tells;
}

flush_stops : (calls : List Call) (ended : Round) (why : Why) (faults : ℕ) → BeginsSo BeginFlush calls ended → says.Refused why ≡ flush_reply ended → count_told why ≡ Some faults
    → HasStopped calls faults
flush_stops calls (round.Did blocks rows) why faults begins is tells = let bad : ⊥ = cc in absurd bad
flush_stops calls round.Nothing why faults begins is tells = let bad : ⊥ = cc in absurd bad
flush_stops calls (round.Refused c) why faults begins is tells =
    round_stops BeginFlush calls c faults begins (sym (ap count_told (same_why why (why_is.Round c) is)) ∙ tells)

compact_stops : (calls : List Call) (ended : Round) (why : Why) (faults : ℕ) → BeginsSo BeginCompact calls ended → says.Refused why ≡ compact_reply ended → count_told why ≡ Some faults
    → HasStopped calls faults
compact_stops calls (round.Did blocks rows) why faults begins is tells = let bad : ⊥ = cc in absurd bad
compact_stops calls round.Nothing why faults begins is tells = let bad : ⊥ = cc in absurd bad
compact_stops calls (round.Refused c) why faults begins is tells =
    round_stops BeginCompact calls c faults begins (sym (ap count_told (same_why why (why_is.Round c) is)) ∙ tells)

one_stops : (calls : List Call) (c : Call) (faults : ℕ) → calls ≡ c ∷ [] → c.reply ≡ Stopped faults → HasStopped calls faults
one_stops calls c faults are is = subst (λ (cs : List Call). HasStopped cs faults) (sym are) (first_stopped c [] faults is)

request_stops : (asked : Request) (why : Why) (faults : ℕ) (calls : List Call) → IsItemAnswered (Ok asked) (says.Refused why) calls → count_told why ≡ Some faults → HasStopped calls faults
request_stops (request.Push reading moment) why faults calls (answer, is, are) tells =
    one_stops calls (call (Push reading.batch.spans moment) (push_reply answer)) faults are (pushed_stops reading answer why faults is tells)
request_stops (request.Trace id) why faults calls (answer, is, asks) tells = absurd (trace_stops_not answer why faults is tells)
request_stops (request.Search s) why faults calls (answer, is, asks) tells = absurd (search_stops_not (asked_of s) answer why faults is tells)
request_stops (request.Metrics m) why faults calls (answer, is, asks) tells = absurd (metrics_stops_not m.start m.end m.step m.rate answer why faults is tells)
request_stops (request.Cut moment) why faults calls (answer, is, are) tells =
    absurd (cut_stops_not says.Cut answer why faults (λ n same. let bad : ⊥ = cc in bad) is tells)
request_stops request.CutAll why faults calls (answer, is, are) tells =
    absurd (cut_stops_not says.CutAll answer why faults (λ n same. let bad : ⊥ = cc in bad) is tells)
request_stops request.Flush why faults calls (ended, is, leads) tells = flush_stops calls ended why faults (flush_begins calls ended leads) is tells
request_stops request.Compact why faults calls (ended, is, leads) tells = compact_stops calls ended why faults (compaction_begins calls ended leads) is tells
request_stops request.Reclaim why faults calls (answer, is, are) tells = one_stops calls (call Reclaim (reclaim_reply answer)) faults are (reclaim_stops answer why faults is tells)

-- ---- the law

pub told_stopped : (told : Bool) (first last : At) (scripts : List (List Item)) (answers : List Answered) (entries : List Entry) (client : ℕ) (asked : List Item) (got : List Reply) (words : Request) (why : Why)
    (faults : ℕ) → Ran told first scripts answers entries last → first.machine.read_only ≡ None → WasReplied scripts answers client asked got (Ok words) (says.Refused why)
    → count_told why ≡ Some faults
    → (front : List Call) × (place : CallPlace told first entries last client asked got front) × (place.entry.reply ≡ Stopped faults)
    × (broken : HasBroken told first place.earlier place.before) × (broken.entry.after ≡ faults)
told_stopped told first last scripts answers entries client asked got words why faults ran writes this tells =
    let calls = mine told first last scripts answers entries client asked got (Ok words) (says.Refused why) ran this in
    let is = is_answered told first last scripts answers entries client asked got (Ok words) (says.Refused why) ran this in
    let at = request_stops words why faults calls is tells in
    let place = place_of told first last scripts answers entries client asked got (Ok words) (says.Refused why) ran this at.front at.back at.c at.are in
    let answered : place.0.entry.reply ≡ Stopped faults = ap (λ (c : Call). c.reply) place.1 ∙ at.is in
    let step : Step place.0.before.faults place.0.after.faults place.0.before.machine place.0.entry.event (Stopped faults) place.0.after.machine =
    subst (λ (r : reply). Step place.0.before.faults place.0.after.faults place.0.before.machine place.0.entry.event r place.0.after.machine) answered place.0.made.step.1 in
    let stopped = step_stopped place.0.before.faults place.0.after.faults place.0.before.machine place.0.after.machine place.0.entry.event faults step in
    let broken = by_break place.0.earlier place.0.before stopped (breaks_once told first place.0.before place.0.earlier place.0.to writes) in
    (at.front, place.0, answered, broken.0, broken.1)
  where
    by_break : (earlier : List Entry) (before : At) → before.machine.read_only ≡ Some faults → (before.machine.read_only ≡ None) ⊎ HasBroken told first earlier before
        → (broken : HasBroken told first earlier before) × (broken.entry.after ≡ faults)
    by_break earlier before stopped (inl none) = absurd (not_both faults before.machine.read_only none stopped)
    by_break earlier before stopped (inr b) = (b, same_count b.entry.after faults (sym b.tells ∙ stopped))
