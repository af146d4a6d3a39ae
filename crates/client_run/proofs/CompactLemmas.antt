-- The compaction of a run of events.
use Rattle.std.proofs.Common.{◌≡◌, ℕ, List, [], ◌∷◌, ◌++◌, length, Option, take, refl, sym, subst, arith}
use Rattle.std.specs.Prelude.{IsTrue}
use Rattle.compactor.specs.Rounds.{Leads, Stage}
use Rattle.compactor.specs.Rounds.{Stage as stage}
use Rattle.compactor.specs.Rounds.{Leads as lead}
use Rattle.compactor.specs.Tasks.{Answers, FindsBlocks, Fits, OneEvent, Steps, Task, stage_of}
use Rattle.compactor.specs.Tasks.Task.{Fresh, Reading, Writing, Failing, Ended}
use Rattle.store_model.specs.Event.{Event as event, Reply as reply}
use Rattle.store_model.specs.Holds.{Hold, holds_after}
use Rattle.store_state.specs.Given.{flush_of, info_files, flush_parts, compact_parts}
use Rattle.store_state.specs.Made.{Call, call}
use Rattle.store_state.specs.Meaning.{Meaning, IsOpen}
use Rattle.store_state.specs.Replies.{write_refusal}
use Rattle.store_state.specs.declared.errors.WriteError.TheVariants as write
use Rattle.store_state.specs.declared.jobs.FlushJob.{FlushJob}
use Rattle.store_state.specs.declared.jobs.Look.{Look}
use Rattle.store_state.specs.declared.rounds.Round.{Round}
use Rattle.store_state.specs.declared.rounds.Round.TheVariants as round
use Rattle.store_state.specs.declared.rounds.Refusal.{Refusal}
use Rattle.store_state.specs.declared.rounds.Refusal.TheVariants as cause
use Rattle.store_state.specs.declared.rounds.Step.TheVariants as step
use Rattle.client_run.specs.declared.event.Event.TheVariants.{CompactStep}
use Rattle.client_run.specs.declared.event.EventReply.{EventReply}
use Rattle.client_run.specs.declared.event.EventReply.TheVariants.{Stepped}
use Rattle.client_run.specs.declared.tasks.Tasks.{Tasks}
use Rattle.client_run.specs.EventRuns.{FoundBlock, compaction_end, from_there, step_reply}
use Rattle.client_run.specs.OwnFiles.{HaveOwnFiles}
use Rattle.client_run.specs.Taken.{HasAnswered, IsCompacting, IsReady, looks_of}
use Rattle.client_run.proofs.JobLemmas.{EndsNoFlush, Untouched, flush_stays}
use Rattle.client_run.proofs.StepLemmas.{IsOther, LeavesLooks, other_first, refused_apart, same_looks, written_apart}

-- from each stage something leads on
leads_somewhere : (s : Stage) → (calls : List Call) × (r : Round) × Leads s calls r
leads_somewhere stage.Fresh = (call event.BeginCompact reply.Nothing ∷ [], round.Nothing, lead.nothing)
leads_somewhere (stage.Reading job parts infos pages bytes) = (
  call (event.DropCompact job.number) reply.Fine ∷ [],
  round.Refused cause.Memory,
  lead.starved job parts infos pages bytes (lead.dropped job.number cause.Memory),
)
leads_somewhere (stage.Writing job [] size) = (call (event.CommitCompact job.number size) reply.Fine ∷ [], round.Did (length job.blocks) size, lead.listed job size)
leads_somewhere (stage.Writing job (b ∷ bs) size) = (
  call (event.WritePiece job.number job.file (take 65536 (b ∷ bs))) (reply.Refused (write_refusal write.Fault)) ∷ call (event.DropCompact job.number) reply.Fine ∷ [],
  round.Refused cause.Fault,
  lead.unwritten job (b ∷ bs) size write.Fault (omega arith) (lead.dropped job.number cause.Fault),
)
leads_somewhere (stage.Failing number why) = (call (event.DropCompact number) reply.Fine ∷ [], round.Refused why, lead.dropped number why)
leads_somewhere (stage.Ended r) = ([], r, lead.over r)

-- the compaction writes no block to this file
abbrev IsApart : Stage → ℕ → Type 0
IsApart (stage.Reading job parts infos pages bytes) file = IsOther job.file file
IsApart (stage.Writing job bytes size) file = IsOther job.file file
IsApart _ file = Unit {0}

-- A call of a compaction at this stage: looks and flushes stay, and so do files but its own.
record IsOf (s : Stage) (c : Call) : Type 0 where
  looks : LeavesLooks c
  flushes : EndsNoFlush c.event c.reply
  files : (file : ℕ) → IsApart s file → Untouched c.event c.reply file

-- a call of a compaction that is given up
given_up : (s : Stage) (number : ℕ) (why : Refusal) (c : Call) → IsOf (stage.Failing number why) c → IsOf s c
given_up s number why c of = record { looks = of.looks; flushes = of.flushes; files = λ file apart. of.files file tt }

is_of : (s : Stage) (c : Call) (calls : List Call) (r : Round) → Leads s (c ∷ calls) r → IsOf s c
is_of s c calls r lead.nothing = record {
  looks = (λ look. refl, refl);
  flushes = λ job. refl;
  files = λ file apart before after is. is;
}
is_of s c calls r (lead.no_job why) = record {
  looks = (λ look. refl, refl);
  flushes = λ job. refl;
  files = λ file apart before after is. is;
}
is_of s c calls r (lead.begun job h) = record {
  looks = (λ look. refl, refl);
  flushes = λ job. refl;
  files = λ file apart before after is. is;
}
is_of s c calls r (lead.read job parts info infos pages bytes page more h) = record {
  looks = (λ look. refl, refl);
  flushes = λ job. refl;
  files = λ file apart before after is. is;
}
is_of s c calls r (lead.unread job parts info infos pages bytes more h) = record {
  looks = (λ look. refl, refl);
  flushes = λ job. refl;
  files = λ file apart before after is. is;
}
is_of s c calls r (lead.block job parts info infos pages bytes rows all is h) =
    let inner = is_of (stage.Reading job (parts ++ rows ∷ []) infos 0 []) c calls r h in
    record { looks = inner.looks; flushes = inner.flushes; files = inner.files }
is_of s c calls r (lead.no_block job parts info infos pages bytes at all is h) =
    given_up s job.number (cause.NotBlock info.file at) c (is_of (stage.Failing job.number (cause.NotBlock info.file at)) c calls r h)
is_of s c calls r (lead.starved job parts infos pages bytes h) =
    given_up s job.number cause.Memory c (is_of (stage.Failing job.number cause.Memory) c calls r h)
is_of s c calls r (lead.built job parts pages pages_read bytes info is h) =
    let inner = is_of (stage.Writing job bytes info.rows) c calls r h in
    record { looks = inner.looks; flushes = inner.flushes; files = inner.files }
is_of s c calls r (lead.written job bytes size some h) = record {
  looks = (λ look. refl, refl);
  flushes = λ job. refl;
  files = λ file apart. written_apart job.number job.file file (take 65536 bytes) apart;
}
is_of s c calls r (lead.unwritten job bytes size why some h) = record {
  looks = (λ look. refl, refl);
  flushes = λ job. refl;
  files = λ file apart. refused_apart job.number job.file file (take 65536 bytes) why apart;
}
is_of s c calls r (lead.listed job size) = record {
  looks = (λ look. refl, refl);
  flushes = λ job. refl;
  files = λ file apart before after is. is;
}
is_of s c calls r (lead.unlisted job size why) = record {
  looks = (λ look. refl, refl);
  flushes = λ job. refl;
  files = λ file apart before after is. is;
}
is_of s c calls r (lead.dropped number why) = record {
  looks = (λ look. refl, refl);
  flushes = λ job. refl;
  files = λ file apart before after is. is;
}

-- the file of an open flush is apart from the compaction's own
apart : {P : Type 0} (meaning : Meaning P) (port : P) → HaveOwnFiles meaning port → (task : Task) → Fits meaning task port → (job : FlushJob) → IsOpen meaning port (flush_of job)
    → IsApart (stage_of task) job.out.file
apart meaning port own Fresh fits job is_open = tt
apart meaning port own (Reading j parts pages bytes) fits job is_open =
    other_first job.out.file j.out.file (info_files j.pin.blocks)
    (own (flush_parts job) (compact_parts j) is_open fits.is_open)
apart meaning port own (Writing j bytes info) fits job is_open =
    other_first job.out.file j.out.file (info_files j.pin.blocks)
    (own (flush_parts job) (compact_parts j) is_open fits.is_open)
apart meaning port own (Failing j why) fits job is_open = tt
apart meaning port own (Ended r) fits job is_open = tt

-- a step of a round that has not ended makes an event
one_event : {P : Type 0} (meaning : Meaning P) (old new : P) (before after : Task) → IsCompacting before → Steps meaning before old after new
    → OneEvent meaning before old after new
one_event meaning old new Fresh after going steps = steps
one_event meaning old new (Reading job parts pages bytes) after going steps = steps
one_event meaning old new (Writing job bytes info) after going steps = steps
one_event meaning old new (Failing job why) after going steps = steps
one_event meaning old new (Ended r) after going steps = absurd going

answered_by : {P : Type 0} (meaning : Meaning P) (old new : P) (items : List (Option Look)) (tasks : Tasks) (after last : Task) (told : EventReply)
    → HaveOwnFiles meaning old → IsReady meaning old (looks_of items) tasks → OneEvent meaning tasks.compaction old after new → told ≡ step_reply (compaction_end (stage_of after))
    → stage_of last ≡ from_there stage.Fresh (stage_of after) (compaction_end (stage_of after)) → Fits meaning last new → IsCompacting last
    → (FindsBlocks meaning tasks.compaction old → FindsBlocks meaning last new × (IsTrue (meaning.tells new) → FoundBlock told))
    → HasAnswered meaning old (looks_of items) tasks CompactStep told new (looks_of items) (record { flush = tasks.flush; compaction = last })
answered_by meaning old new items tasks after last told own ready one is left fits going found =
    let some = leads_somewhere (stage_of after) in
    let of = is_of (stage_of tasks.compaction) one.made some.0 some.1 (one.leads some.0 some.1 some.2) in
    record {
      calls = one.made ∷ [];
      made = (new, one.called, refl);
      answered = ((one.made, stage_of after, refl, one.leads, is, left), refl);
      left = sym (same_looks one.made items of.looks);
      fit = (
        flush_stays meaning old new one.made.event one.made.reply tasks.flush one.called of.flushes
            (λ job is_open. of.files job.out.file (apart meaning old own tasks.compaction ready.fit.1 job is_open)) ready.holds ready.fit.0,
        fits,
      );
      going = (ready.going.0, going);
      found = λ find. (let finds = found find.1 in ((find.0, finds.0), finds.1));
    }

-- A step that ended the round leaves a compaction that has made none.
pub has_ended_compaction : {P : Type 0} (meaning : Meaning P) (old new : P) (items : List (Option Look)) (tasks : Tasks) (after next : Task) (r : Round)
    → HaveOwnFiles meaning old → Steps meaning tasks.compaction old after new → (FindsBlocks meaning tasks.compaction old → FindsBlocks meaning after new)
    → after ≡ Ended r → next ≡ Fresh → IsReady meaning old (looks_of items) tasks
    → HasAnswered meaning old (looks_of items) tasks CompactStep (Stepped (step.Ended r)) new (looks_of items) (record { flush = tasks.flush; compaction = next })
has_ended_compaction meaning old new items tasks after next r own steps finds ended begins ready =
    let one = one_event meaning old new tasks.compaction (Ended r) ready.going.1 (subst (λ (t : Task). Steps meaning tasks.compaction old t new) ended steps) in
    let holds : (held : List Hold) × meaning.holds new held = (holds_after one.made.event one.made.reply ready.holds.0, one.called.holds ready.holds.0 ready.holds.1) in
    subst (λ (t : Task). HasAnswered meaning old (looks_of items) tasks CompactStep (Stepped (step.Ended r)) new (looks_of items) (record { flush = tasks.flush; compaction = t })) (sym begins)
    (answered_by meaning old new items tasks (Ended r) Fresh (Stepped (step.Ended r)) own ready one refl refl holds tt
    (λ find. (tt, subst (λ (t : Task). FindsBlocks meaning t new) ended (finds find))))

more : (t : Task) → Answers step.More t → (Stepped step.More ≡ step_reply (compaction_end (stage_of t))) × (stage_of t ≡ from_there stage.Fresh (stage_of t) (compaction_end (stage_of t))) × IsCompacting t
more Fresh h = (refl, refl, tt)
more (Reading job parts pages bytes) h = (refl, refl, tt)
more (Writing job bytes info) h = (refl, refl, tt)
more (Failing job why) h = (refl, refl, tt)
more (Ended r) h = absurd h

-- A step after which the round goes on.
pub compaction_goes_on : {P : Type 0} (meaning : Meaning P) (old new : P) (items : List (Option Look)) (tasks : Tasks) (after : Task)
    → HaveOwnFiles meaning old → Steps meaning tasks.compaction old after new → Fits meaning after new → (FindsBlocks meaning tasks.compaction old → FindsBlocks meaning after new)
    → Answers step.More after → IsReady meaning old (looks_of items) tasks
    → HasAnswered meaning old (looks_of items) tasks CompactStep (Stepped step.More) new (looks_of items) (record { flush = tasks.flush; compaction = after })
compaction_goes_on meaning old new items tasks after own steps fits finds answers ready =
    let goes = more after answers in
    answered_by meaning old new items tasks after after (Stepped step.More) own ready (one_event meaning old new tasks.compaction after ready.going.1 steps) goes.0 goes.1 fits goes.2
    (λ find. (finds find, λ tells. tt))
