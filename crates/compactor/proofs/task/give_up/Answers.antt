use Rattle.std.proofs.Common.{subst}
use Rattle.std.specs.Prelude.{IsTrue}
use Rattle.store_model.specs.Event.Event.{DropCompact}
use Rattle.store_model.specs.Event.Reply.{Fine}
use Rattle.store_state.specs.Made.{call}
use Rattle.store_state.specs.declared.rounds.Round.TheVariants.{Refused}
use Rattle.compactor.specs.Rounds.{Stage as stage}
use Rattle.compactor.specs.Rounds.Leads.{dropped}
use Rattle.compactor.proofs.WriteLaws.{ends_in}
use Rattle.compactor.proofs.task.give_up.Goals as goal

pub returns-clause-steps : goal.returns-clause-steps
returns-clause-steps g c = record {
  made = call (DropCompact c.args.job.out.number) Fine;
  called = c.drop_compact.ensures;
  leads = ends_in (stage.Failing c.args.job.out.number c.args.why) (call (DropCompact c.args.job.out.number) Fine) (Refused c.args.why) (dropped c.args.job.out.number c.args.why);
}

pub returns-clause-found : goal.returns-clause-found
returns-clause-found g c = λ found tells. found (subst IsTrue c.drop_compact.ensures.telling tells)
