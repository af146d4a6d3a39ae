use Rattle.std.proofs.Common.{List, ◌≡◌, ◌+◌, ◌*◌, ◌^◌, ◌≤◌, length, [], ◌∷◌, zero, refl, sym, subst, ap, false, Bool, arith}
use Rattle.std.specs.Prelude.{IsTrue, ◌||◌, Option, Some, None, Ok, IfSome}
use Rattle.store_model.specs.Event.Event.{BeginCompact}
use Rattle.store_model.specs.Event.{Reply as reply}
use Rattle.store_model.specs.Holds.{Hold}
use Rattle.store_state.specs.Given.{compact_of, compact_parts}
use Rattle.store_state.specs.Made.{call}
use Rattle.store_state.specs.Meaning.{Meaning, Called}
use Rattle.store_state.specs.Replies.{begin_compact_reply, begin_refusal}
use Rattle.store_state.specs.Shown.{AreBlocks, JoinsChoice}
use Rattle.store_state.specs.declared.jobs.CompactJob.{CompactJob}
use Rattle.store_state.specs.declared.rounds.Refusal.{Refusal}
use Rattle.store_state.specs.declared.rounds.Round.TheVariants.{Nothing, Refused}
use Rattle.store_state.proofs.HoldLaws.{opens_new}
use Rattle.flusher.proofs.TaskLaws.{itself}
use Rattle.compactor.specs.Rounds.{FoundBlocks, Leads}
use Rattle.compactor.specs.Rounds.{Stage as stage}
use Rattle.compactor.specs.Rounds.Leads.{nothing, no_job}
use Rattle.compactor.specs.Tasks.{FindsBlocks, Fits, OneEvent, Task, steps_left}
use Rattle.compactor.specs.Tasks.Task.{Fresh}
use Rattle.compactor.proofs.ReadLaws.{begun_event, fits_first}
use Rattle.compactor.proofs.WriteLaws.{begin_found, ends_in}
use Rattle.compactor.proofs.task.begin.Goals as goal

-- the reply of a begin whose answer is known
replied : {P : Type 0} (meaning : Meaning P) (old new : P) (o o' : Option CompactJob) → o ≡ o' → Called meaning old BeginCompact (begin_compact_reply (Ok o)) new
    → Called meaning old BeginCompact (begin_compact_reply (Ok o')) new
replied meaning old new o o' same called = subst (λ (x : Option CompactJob). Called meaning old BeginCompact (begin_compact_reply (Ok x)) new) same called

known : (o : Option CompactJob) (j : CompactJob) (Holds : CompactJob → Type 0) → o ≡ Some j → IfSome o Holds → Holds j
known o j Holds same h = subst (λ (x : Option CompactJob). IfSome x Holds) same h

pub returns-in-Ok-Some-clause-steps : goal.returns-in-Ok-Some-clause-steps
returns-in-Ok-Some-clause-steps g c =
    subst (λ (t : Task). OneEvent g.P.LookPort.meaning Fresh c.args.port.now t c.begin_compact.new.self) (sym c.unread.ensures)
    (begun_event g.P.LookPort.meaning c.args.port.now c.begin_compact.new.self c.in-Ok-Some.job
    (replied g.P.LookPort.meaning c.args.port.now c.begin_compact.new.self c.in-Ok-Some.field-0 (Some c.in-Ok-Some.job) c.in-Ok-Some.field-0-is c.in-Ok-Some.ensures.called))

pub returns-in-Ok-Some-clause-fits : goal.returns-in-Ok-Some-clause-fits
returns-in-Ok-Some-clause-fits g c =
    let meaning = g.P.LookPort.meaning in
    let old = c.args.port.now in
    let new = c.begin_compact.new.self in
    let j : CompactJob = c.in-Ok-Some.job in
    let o : Option CompactJob = c.in-Ok-Some.field-0 in
    let called = replied meaning old new o (Some j) c.in-Ok-Some.field-0-is c.in-Ok-Some.ensures.called in
    let joins : JoinsChoice (meaning.lists old) j.level j.pin.blocks =
    known o j (λ (job : CompactJob). JoinsChoice (meaning.lists old) job.level job.pin.blocks) c.in-Ok-Some.field-0-is (c.in-Ok-Some.ensures.joins c.requires.0 c.requires.1) in
    subst (λ (t : Task). Fits meaning t new) (sym c.unread.ensures)
    (fits_first meaning j new
    (opens_new meaning old new BeginCompact (reply.Compacting (compact_parts j)) (compact_of j) called c.requires (zero, omega arith, refl))
    (known o j (λ (job : CompactJob). job.out.written ≡ 0) c.in-Ok-Some.field-0-is c.in-Ok-Some.ensures.fresh)
    (c.a_choice_is_few.ensures joins.0 j.level j.pin.blocks joins.1 joins.2)
    (λ tells. called.empty (subst IsTrue called.telling tells) j.out.file (ap (λ (t : Bool). t || false) (itself j.out.file))))

pub returns-in-Ok-Some-clause-found : goal.returns-in-Ok-Some-clause-found
returns-in-Ok-Some-clause-found g c =
    let meaning = g.P.LookPort.meaning in
    let old = c.args.port.now in
    let new = c.begin_compact.new.self in
    subst (λ (t : Task). FindsBlocks meaning t new) (sym c.unread.ensures)
    (λ tells. known c.in-Ok-Some.field-0 c.in-Ok-Some.job (λ (job : CompactJob). (held : List Hold) → meaning.holds old held → AreBlocks (meaning.shows new) job.pin.blocks) c.in-Ok-Some.field-0-is
    (c.in-Ok-Some.ensures.whole tells) c.requires.0 c.requires.1)

pub returns-in-Ok-None-clause-steps : goal.returns-in-Ok-None-clause-steps
returns-in-Ok-None-clause-steps g c = record {
  made = call BeginCompact reply.Nothing;
  called = replied g.P.LookPort.meaning c.args.port.now c.begin_compact.new.self c.in-Ok-None.field-0 None c.in-Ok-None.field-0-is c.in-Ok-None.ensures.called;
  leads = ends_in stage.Fresh (call BeginCompact reply.Nothing) Nothing nothing;
}

pub returns-in-Err-clause-steps : goal.returns-in-Err-clause-steps
returns-in-Err-clause-steps g c = record {
  made = call BeginCompact (reply.Refused (begin_refusal c.in-Err.error));
  called = c.in-Err.ensures.called;
  leads = ends_in stage.Fresh (call BeginCompact (reply.Refused (begin_refusal c.in-Err.error))) (Refused c.begin_cause.result)
      (subst (λ (why : Refusal). Leads stage.Fresh (call BeginCompact (reply.Refused (begin_refusal c.in-Err.error)) ∷ []) (Refused why)) (sym c.begin_cause.ensures) (no_job c.in-Err.error));
}

pub returns-in-Err-clause-found : goal.returns-in-Err-clause-found
returns-in-Err-clause-found g c = λ tells. subst (λ (why : Refusal). FoundBlocks (Refused why)) (sym c.begin_cause.ensures) (begin_found c.in-Err.error)

pub returns-in-Ok-Some-clause-left : goal.returns-in-Ok-Some-clause-left
returns-in-Ok-Some-clause-left g c =
    let meaning = g.P.LookPort.meaning in
    let j : CompactJob = c.in-Ok-Some.job in
    let joins : JoinsChoice (meaning.lists c.args.port.now) j.level j.pin.blocks =
    known c.in-Ok-Some.field-0 j (λ (job : CompactJob). JoinsChoice (meaning.lists c.args.port.now) job.level job.pin.blocks) c.in-Ok-Some.field-0-is (c.in-Ok-Some.ensures.joins c.requires.0 c.requires.1) in
    let four : length j.pin.blocks ≤ 4 = (c.a_choice_is_few.ensures joins.0 j.level j.pin.blocks joins.1 joins.2).four in
    subst (λ (t : Task). steps_left t ≤ 6 * 2 ^ 64 + 4) (sym c.unread.ensures) (omega (arith, four))
