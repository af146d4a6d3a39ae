use Rattle.store_model.specs.Event.Event.{DropFlush}
use Rattle.store_model.specs.Event.Reply.{Fine}
use Rattle.store_state.specs.Made.{call}
use Rattle.store_state.specs.declared.rounds.Round.TheVariants.{Refused}
use Rattle.flusher.specs.Rounds.{Stage as stage}
use Rattle.flusher.specs.Rounds.Leads.{dropped}
use Rattle.flusher.proofs.TaskLaws.{ends_in}
use Rattle.flusher.proofs.task.give_up.Goals as goal

pub returns-clause-steps : goal.returns-clause-steps
returns-clause-steps g c = record {
  made = call (DropFlush c.args.job.out.number) Fine;
  called = c.drop_flush.ensures;
  leads = ends_in (stage.Failing c.args.job.out.number c.args.why) (call (DropFlush c.args.job.out.number) Fine) (Refused c.args.why) (dropped c.args.job.out.number c.args.why);
}
