use Rattle.std.proofs.Common.{◌≡◌, [], ◌∷◌, zero, refl, sym, subst, ap, false, Bool, arith}
use Rattle.std.specs.Prelude.{IsTrue, ◌||◌, Option, Some, None, Ok, IfSome, ◌≤◌, length}
use Rattle.store_model.specs.Event.Event.{BeginFlush}
use Rattle.store_model.specs.Event.{Reply as reply}
use Rattle.store_state.specs.Given.{flush_of, flush_parts}
use Rattle.store_state.specs.Made.{call}
use Rattle.store_state.specs.Meaning.{Meaning, Called}
use Rattle.store_state.specs.Replies.{begin_flush_reply, begin_refusal}
use Rattle.store_state.specs.declared.jobs.FlushJob.{FlushJob}
use Rattle.store_state.specs.declared.rounds.Refusal.{Refusal}
use Rattle.store_state.specs.declared.rounds.Round.TheVariants.{Nothing, Refused}
use Rattle.store_state.proofs.HoldLaws.{opens_new}
use Rattle.flusher.specs.Rounds.{Stage as stage, Leads}
use Rattle.flusher.specs.Rounds.Leads.{nothing, no_job, job}
use Rattle.flusher.proofs.TaskLaws.{ends_in, itself}
use Rattle.flusher.proofs.task.begin.Goals as goal

-- the reply of a begin whose answer is known
replied : {P : Type 0} (meaning : Meaning P) (old new : P) (o o' : Option FlushJob) → o ≡ o' → Called meaning old BeginFlush (begin_flush_reply (Ok o)) new
    → Called meaning old BeginFlush (begin_flush_reply (Ok o')) new
replied meaning old new o o' same called = subst (λ (x : Option FlushJob). Called meaning old BeginFlush (begin_flush_reply (Ok x)) new) same called

abbrev IsFresh : FlushJob → Type 0
IsFresh j = (j.out.written ≡ 0) × (1 ≤ length j.rows) × (length j.rows ≤ 1048576)

fresh_job : (o : Option FlushJob) (j : FlushJob) → o ≡ Some j → IfSome o IsFresh → IsFresh j
fresh_job o j same fresh = subst (λ (x : Option FlushJob). IfSome x IsFresh) same fresh

pub returns-in-Ok-Some-clause-steps : goal.returns-in-Ok-Some-clause-steps
returns-in-Ok-Some-clause-steps g c = record {
  made = call BeginFlush (reply.Flushing (flush_parts c.in-Ok-Some.job));
  called = replied g.P.LookPort.meaning c.args.port.now c.begin_flush.new.self c.in-Ok-Some.field-0 (Some c.in-Ok-Some.job) c.in-Ok-Some.field-0-is c.in-Ok-Some.ensures.called;
  leads = λ calls round h. job c.in-Ok-Some.job.out.number c.in-Ok-Some.job.out.file c.in-Ok-Some.job.rows h;
}

pub returns-in-Ok-Some-clause-fits : goal.returns-in-Ok-Some-clause-fits
returns-in-Ok-Some-clause-fits g c =
    let called = replied g.P.LookPort.meaning c.args.port.now c.begin_flush.new.self c.in-Ok-Some.field-0 (Some c.in-Ok-Some.job) c.in-Ok-Some.field-0-is c.in-Ok-Some.ensures.called in
    let fresh = fresh_job c.in-Ok-Some.field-0 c.in-Ok-Some.job c.in-Ok-Some.field-0-is c.in-Ok-Some.ensures.fresh in
    record {
      is_open = opens_new g.P.LookPort.meaning c.args.port.now c.begin_flush.new.self BeginFlush
          (reply.Flushing (flush_parts c.in-Ok-Some.job)) (flush_of c.in-Ok-Some.job)
          called c.requires (zero, omega arith, refl);
      at_start = fresh.0;
      some = fresh.1;
      few = fresh.2;
      empty = λ tells. called.empty (subst IsTrue called.telling tells) c.in-Ok-Some.job.out.file
          (ap (λ (t : Bool). t || false) (itself c.in-Ok-Some.job.out.file));
    }

pub returns-in-Ok-None-clause-steps : goal.returns-in-Ok-None-clause-steps
returns-in-Ok-None-clause-steps g c = record {
  made = call BeginFlush reply.Nothing;
  called = replied g.P.LookPort.meaning c.args.port.now c.begin_flush.new.self c.in-Ok-None.field-0 None c.in-Ok-None.field-0-is c.in-Ok-None.ensures.called;
  leads = ends_in stage.Fresh (call BeginFlush reply.Nothing) Nothing nothing;
}

pub returns-in-Err-clause-steps : goal.returns-in-Err-clause-steps
returns-in-Err-clause-steps g c = record {
  made = call BeginFlush (reply.Refused (begin_refusal c.in-Err.error));
  called = c.in-Err.ensures.called;
  leads = ends_in stage.Fresh (call BeginFlush (reply.Refused (begin_refusal c.in-Err.error))) (Refused c.begin_cause.result)
      (subst (λ (why : Refusal). Leads stage.Fresh (call BeginFlush (reply.Refused (begin_refusal c.in-Err.error)) ∷ []) (Refused why)) (sym c.begin_cause.ensures) (no_job c.in-Err.error));
}
