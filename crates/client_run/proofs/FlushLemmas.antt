-- The flush of a run of events.
use Rattle.std.proofs.Common.{◌≡◌, ℕ, List, [], ◌∷◌, true, Option, take, drop, refl, sym, subst, arith}
use Rattle.compactor.proofs.WriteLaws.{begin_found, write_found}
use Rattle.compactor.specs.Rounds.{FoundBlocks}
use Rattle.flusher.specs.Rounds.{Leads, Stage}
use Rattle.flusher.specs.Rounds.{Stage as stage}
use Rattle.flusher.specs.Rounds.{Leads as lead}
use Rattle.flusher.specs.Tasks.{Answers, Fits, OneEvent, Steps, Task, stage_of}
use Rattle.flusher.specs.Tasks.Task.{Fresh, Begun, Writing, Failing, Ended}
use Rattle.store_model.specs.Event.{Event as event, Reply as reply}
use Rattle.store_model.specs.Holds.{Hold, files_of, holds_after}
use Rattle.store_model.specs.State.{is_among}
use Rattle.store_state.specs.Given.{compact_of, flush_parts, compact_parts}
use Rattle.store_state.specs.Made.{Call, call}
use Rattle.store_state.specs.Meaning.{Meaning, IsOpen}
use Rattle.store_state.specs.Replies.{write_refusal}
use Rattle.store_state.specs.Rounds.{write_cause}
use Rattle.store_state.specs.declared.errors.WriteError.TheVariants as write
use Rattle.store_state.specs.declared.jobs.CompactJob.{CompactJob}
use Rattle.store_state.specs.declared.jobs.Look.{Look}
use Rattle.store_state.specs.declared.rounds.Round.{Round}
use Rattle.store_state.specs.declared.rounds.Round.TheVariants as round
use Rattle.store_state.specs.declared.rounds.Refusal.TheVariants as cause
use Rattle.store_state.specs.declared.rounds.Step.TheVariants as step
use Rattle.client_run.specs.declared.event.Event.TheVariants.{FlushStep}
use Rattle.client_run.specs.declared.event.EventReply.{EventReply}
use Rattle.client_run.specs.declared.event.EventReply.TheVariants.{Stepped}
use Rattle.client_run.specs.declared.tasks.Tasks.{Tasks}
use Rattle.client_run.specs.EventRuns.{FoundBlock, flush_end, from_there, step_reply}
use Rattle.client_run.specs.OwnFiles.{HaveOwnFiles}
use Rattle.client_run.specs.Taken.{FlushFinds, HasAnswered, IsFlushing, IsReady, looks_of}
use Rattle.client_run.proofs.JobLemmas.{EndsNoCompaction, LeavesBlocks, Untouched, compaction_stays, finds_after}
use Rattle.client_run.proofs.StepLemmas.{IsOther, LeavesLooks, other_among, refused_apart, same_looks, written_apart}

-- from each stage something leads on
leads_somewhere : (s : Stage) → (calls : List Call) × (r : Round) × Leads s calls r
leads_somewhere stage.Fresh = (call event.BeginFlush reply.Nothing ∷ [], round.Nothing, lead.nothing)
leads_somewhere (stage.Begun number file rows) =
    (call (event.DropFlush number) reply.Fine ∷ [], round.Refused cause.Memory, lead.starved number file rows)
leads_somewhere (stage.Writing number file [] size) = (call (event.CommitFlush number size) reply.Fine ∷ [], round.Did 1 size, lead.listed number file size)
leads_somewhere (stage.Writing number file (b ∷ bs) size) = (
  call (event.WritePiece number file (take 65536 (b ∷ bs))) (reply.Refused (write_refusal write.Fault)) ∷ call (event.DropFlush number) reply.Fine ∷ [],
  round.Refused cause.Fault,
  lead.unwritten number file (b ∷ bs) size write.Fault (omega arith) (lead.dropped number cause.Fault),
)
leads_somewhere (stage.Failing number why) = (call (event.DropFlush number) reply.Fine ∷ [], round.Refused why, lead.dropped number why)
leads_somewhere (stage.Ended r) = ([], r, lead.over r)

-- the flush writes no block to this file
abbrev IsApart : Stage → ℕ → Type 0
IsApart (stage.Begun number own rows) file = IsOther own file
IsApart (stage.Writing number own bytes size) file = IsOther own file
IsApart _ file = Unit {0}

-- A call of a flush at this stage: looks and compactions stay, and so do files but its own.
record IsOf (s : Stage) (c : Call) : Type 0 where
  looks : LeavesLooks c
  compactions : EndsNoCompaction c.event c.reply
  files : (file : ℕ) → IsApart s file → Untouched c.event c.reply file

is_of : (s : Stage) (c : Call) (calls : List Call) (r : Round) → Leads s (c ∷ calls) r → IsOf s c
is_of s c calls r lead.nothing = record {
  looks = (λ look. refl, refl);
  compactions = λ job. refl;
  files = λ file apart before after is. is;
}
is_of s c calls r (lead.no_job why) = record {
  looks = (λ look. refl, refl);
  compactions = λ job. refl;
  files = λ file apart before after is. is;
}
is_of s c calls r (lead.job number file rows h) = record {
  looks = (λ look. refl, refl);
  compactions = λ job. refl;
  files = λ file apart before after is. is;
}
is_of s c calls r (lead.starved number file rows) = record {
  looks = (λ look. refl, refl);
  compactions = λ job. refl;
  files = λ file apart before after is. is;
}
is_of s c calls r (lead.built number file rows bytes info is h) =
    let inner = is_of (stage.Writing number file bytes info.rows) c calls r h in
    record { looks = inner.looks; compactions = inner.compactions; files = inner.files }
is_of s c calls r (lead.written number own bytes size some h) = record {
  looks = (λ look. refl, refl);
  compactions = λ job. refl;
  files = λ file apart. written_apart number own file (take 65536 bytes) apart;
}
is_of s c calls r (lead.unwritten number own bytes size why some h) = record {
  looks = (λ look. refl, refl);
  compactions = λ job. refl;
  files = λ file apart. refused_apart number own file (take 65536 bytes) why apart;
}
is_of s c calls r (lead.listed number file size) = record {
  looks = (λ look. refl, refl);
  compactions = λ job. refl;
  files = λ file apart before after is. is;
}
is_of s c calls r (lead.unlisted number file size why) = record {
  looks = (λ look. refl, refl);
  compactions = λ job. refl;
  files = λ file apart before after is. is;
}
is_of s c calls r (lead.dropped number why) = record {
  looks = (λ look. refl, refl);
  compactions = λ job. refl;
  files = λ file apart before after is. is;
}

-- ---- no block is found to be none

-- A flush reads no block, so its round doesn't end because one is none.
pub found_by : {calls : List Call} {r : Round} (s : Stage) → Leads s calls r → FlushFinds s → FoundBlocks r
found_by s lead.nothing finds = tt
found_by s (lead.no_job why) finds = begin_found why
found_by s (lead.job number file rows h) finds = found_by (stage.Begun number file rows) h tt
found_by s (lead.starved number file rows) finds = tt
found_by s (lead.built number file rows bytes info is h) finds = found_by (stage.Writing number file bytes info.rows) h tt
found_by s (lead.written number own bytes size some h) finds = found_by (stage.Writing number own (drop 65536 bytes) size) h tt
found_by s (lead.unwritten number own bytes size why some h) finds = found_by (stage.Failing number (write_cause why)) h (write_found why)
found_by s (lead.listed number file size) finds = tt
found_by s (lead.unlisted number file size why) finds = write_found why
found_by s (lead.dropped number why) finds = finds
found_by s (lead.over r) finds = finds

-- nor is it given up for that
finds_on : (before after : Stage) (c : Call) → ((calls : List Call) (r : Round) → Leads after calls r → Leads before (c ∷ calls) r) → FlushFinds before → FlushFinds after
finds_on before stage.Fresh c leads finds = tt
finds_on before (stage.Begun number file rows) c leads finds = tt
finds_on before (stage.Writing number file bytes size) c leads finds = tt
finds_on before (stage.Failing number why) c leads finds =
    found_by before (leads (call (event.DropFlush number) reply.Fine ∷ []) (round.Refused why) (lead.dropped number why)) finds
finds_on before (stage.Ended r) c leads finds = found_by before (leads [] r (lead.over r)) finds

-- the files of an open compaction are apart from the flush's
apart : {P : Type 0} (meaning : Meaning P) (port : P) → HaveOwnFiles meaning port → (task : Task) → Fits meaning task port → (job : CompactJob) → IsOpen meaning port (compact_of job)
    → (file : ℕ) → is_among file (files_of (compact_of job)) ≡ true → IsApart (stage_of task) file
apart meaning port own Fresh fits job is_open file among = tt
apart meaning port own (Begun j) fits job is_open file among =
    other_among j.out.file file (files_of (compact_of job))
    (own (flush_parts j) (compact_parts job) fits.is_open is_open) among
apart meaning port own (Writing j bytes info) fits job is_open file among =
    other_among j.out.file file (files_of (compact_of job))
    (own (flush_parts j) (compact_parts job) fits.is_open is_open) among
apart meaning port own (Failing j why) fits job is_open file among = tt
apart meaning port own (Ended r) fits job is_open file among = tt

-- a step of a round that has not ended makes an event
one_event : {P : Type 0} (meaning : Meaning P) (old new : P) (before after : Task) → IsFlushing before → Steps meaning before old after new
    → OneEvent meaning before old after new
one_event meaning old new Fresh after going steps = steps
one_event meaning old new (Begun job) after going steps = steps
one_event meaning old new (Writing job bytes info) after going steps = steps
one_event meaning old new (Failing job why) after going steps = steps
one_event meaning old new (Ended r) after going steps = absurd going

answered_by : {P : Type 0} (meaning : Meaning P) (old new : P) (items : List (Option Look)) (tasks : Tasks) (after last : Task) (told : EventReply)
    → HaveOwnFiles meaning old → IsReady meaning old (looks_of items) tasks → OneEvent meaning tasks.flush old after new → told ≡ step_reply (flush_end (stage_of after))
    → stage_of last ≡ from_there stage.Fresh (stage_of after) (flush_end (stage_of after)) → Fits meaning last new → IsFlushing last
    → (FlushFinds (stage_of after) → FlushFinds (stage_of last) × FoundBlock told)
    → HasAnswered meaning old (looks_of items) tasks FlushStep told new (looks_of items) (record { flush = last; compaction = tasks.compaction })
answered_by meaning old new items tasks after last told own ready one is left fits going found =
    let some = leads_somewhere (stage_of after) in
    let of = is_of (stage_of tasks.flush) one.made some.0 some.1 (one.leads some.0 some.1 some.2) in
    let untouched : LeavesBlocks meaning old one.made.event one.made.reply =
    λ job is_open file among. of.files file (apart meaning old own tasks.flush ready.fit.0 job is_open file among) in
    record {
      calls = one.made ∷ [];
      made = (new, one.called, refl);
      answered = ((one.made, stage_of after, refl, one.leads, is, left), refl);
      left = sym (same_looks one.made items of.looks);
      fit = (
        fits,
        compaction_stays meaning old new one.made.event one.made.reply tasks.compaction one.called of.compactions untouched ready.holds ready.fit.1,
      );
      going = (going, ready.going.1);
      found = λ find.
          let finds = found (finds_on (stage_of tasks.flush) (stage_of after) one.made one.leads find.0) in
          ((finds.0, finds_after meaning old new one.made.event one.made.reply tasks.compaction one.called of.compactions untouched ready.fit.1 find.1), λ tells. finds.1);
    }

-- A step that ended the round leaves a flush that has made none.
pub has_ended_flush : {P : Type 0} (meaning : Meaning P) (old new : P) (items : List (Option Look)) (tasks : Tasks) (after next : Task) (r : Round)
    → HaveOwnFiles meaning old → Steps meaning tasks.flush old after new → after ≡ Ended r → next ≡ Fresh → IsReady meaning old (looks_of items) tasks
    → HasAnswered meaning old (looks_of items) tasks FlushStep (Stepped (step.Ended r)) new (looks_of items) (record { flush = next; compaction = tasks.compaction })
has_ended_flush meaning old new items tasks after next r own steps ended begins ready =
    let one = one_event meaning old new tasks.flush (Ended r) ready.going.0 (subst (λ (t : Task). Steps meaning tasks.flush old t new) ended steps) in
    let holds : (held : List Hold) × meaning.holds new held = (holds_after one.made.event one.made.reply ready.holds.0, one.called.holds ready.holds.0 ready.holds.1) in
    subst (λ (t : Task). HasAnswered meaning old (looks_of items) tasks FlushStep (Stepped (step.Ended r)) new (looks_of items) (record { flush = t; compaction = tasks.compaction })) (sym begins)
    (answered_by meaning old new items tasks (Ended r) Fresh (Stepped (step.Ended r)) own ready one refl refl holds tt (λ finds. (tt, finds)))

more : (t : Task) → Answers step.More t → (Stepped step.More ≡ step_reply (flush_end (stage_of t))) × (stage_of t ≡ from_there stage.Fresh (stage_of t) (flush_end (stage_of t))) × IsFlushing t
more Fresh h = (refl, refl, tt)
more (Begun job) h = (refl, refl, tt)
more (Writing job bytes info) h = (refl, refl, tt)
more (Failing job why) h = (refl, refl, tt)
more (Ended r) h = absurd h

-- A step after which the round goes on.
pub flush_goes_on : {P : Type 0} (meaning : Meaning P) (old new : P) (items : List (Option Look)) (tasks : Tasks) (after : Task)
    → HaveOwnFiles meaning old → Steps meaning tasks.flush old after new → Fits meaning after new → Answers step.More after → IsReady meaning old (looks_of items) tasks
    → HasAnswered meaning old (looks_of items) tasks FlushStep (Stepped step.More) new (looks_of items) (record { flush = after; compaction = tasks.compaction })
flush_goes_on meaning old new items tasks after own steps fits answers ready =
    let goes = more after answers in
    answered_by meaning old new items tasks after after (Stepped step.More) own ready (one_event meaning old new tasks.flush after ready.going.0 steps) goes.0 goes.1 fits goes.2
    (λ finds. (finds, tt))
