use Rattle.store_model.specs.Event.Event.{DropFlush}
use Rattle.store_model.specs.Event.Reply.{Fine}
use Rattle.store_state.specs.Made.{call}
use Rattle.store_state.specs.declared.rounds.Refusal.TheVariants.{Memory}
use Rattle.store_state.specs.declared.rounds.Round.TheVariants.{Refused}
use Rattle.flusher.specs.Rounds.{Stage as stage}
use Rattle.flusher.specs.Rounds.Leads.{starved}
use Rattle.flusher.proofs.TaskLaws.{ends_in}
use Rattle.flusher.proofs.task.give_up_begun.Goals as goal

pub returns-clause-steps : goal.returns-clause-steps
returns-clause-steps g c = record {
  made = call (DropFlush c.args.job.out.number) Fine;
  called = c.drop_flush.ensures;
  leads = ends_in (stage.Begun c.args.job.out.number c.args.job.out.file c.args.job.rows) (call (DropFlush c.args.job.out.number) Fine) (Refused Memory)
      (starved c.args.job.out.number c.args.job.out.file c.args.job.rows);
}
