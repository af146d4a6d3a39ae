use Rattle.std.proofs.Common.{[], ◌∷◌, sym, subst, drop, arith}
use Rattle.std.proofs.lemmas.List.{drop_all}
use Rattle.store_model.specs.Event.Event.{CommitCompact}
use Rattle.store_model.specs.Event.{Reply as reply}
use Rattle.store_model.specs.Event.Reply.{Fine}
use Rattle.store_state.specs.Made.{call}
use Rattle.store_state.specs.Replies.{write_refusal}
use Rattle.store_state.specs.declared.rounds.Refusal.{Refusal}
use Rattle.store_state.specs.declared.rounds.Round.{Round}
use Rattle.store_state.specs.declared.rounds.Round.TheVariants.{Refused}
use Rattle.compactor.specs.Rounds.{FoundBlocks, Leads}
use Rattle.compactor.specs.Rounds.{Stage as stage}
use Rattle.compactor.specs.Tasks.{job_of}
use Rattle.compactor.proofs.WriteLaws.{block_rows, ends_in, leads_listed, leads_unlisted, may_be_listed, write_found}
use Rattle.compactor.proofs.task.commit.Goals as goal

pub done_of-done-requires : goal.done_of-done-requires
done_of-done-requires g c = (let few = c.requires.is_writing.joins in omega (arith, few))

pub commit_compact-requires-clause-size : goal.commit_compact-requires-clause-size
commit_compact-requires-clause-size g c = block_rows g.P.LookPort.meaning c.args.job c.args.block.bytes c.args.block.info c.args.port.now c.requires.is_writing

pub commit_compact-requires-clause-names : goal.commit_compact-requires-clause-names
commit_compact-requires-clause-names g c = record { its_file = c.requires.is_writing.block.its_file; its_level = c.requires.is_writing.block.its_level }

pub commit_compact-requires-clause-block : goal.commit_compact-requires-clause-block
commit_compact-requires-clause-block g c = may_be_listed g.P.LookPort.meaning c.args.job c.args.block.bytes c.args.block.info c.args.port.now c.requires.is_writing c.requires.whole

pub returns-in-Ok-clause-steps : goal.returns-in-Ok-clause-steps
returns-in-Ok-clause-steps g c =
    let rest = drop c.args.job.out.written c.args.block.bytes in
    let made = call (CommitCompact c.args.job.out.number c.args.block.info.rows) Fine in
    let at = stage.Writing (job_of c.args.job) rest c.args.block.info.rows in
    record {
      made = made;
      called = c.in-Ok.ensures;
      leads = ends_in at made c.done_of-done.result
          (subst (λ (r : Round). Leads at (made ∷ []) r) (sym c.done_of-done.ensures)
          (leads_listed (job_of c.args.job) c.args.block.info.rows rest (drop_all c.args.job.out.written c.args.block.bytes (omega (arith, c.requires.whole)))));
    }

pub returns-in-Ok-clause-found : goal.returns-in-Ok-clause-found
returns-in-Ok-clause-found g c = λ tells. subst (λ (r : Round). FoundBlocks r) (sym c.done_of-done.ensures) tt

pub returns-clause-steps : goal.returns-clause-steps
returns-clause-steps g c =
    let rest = drop c.args.job.out.written c.args.block.bytes in
    let made = call (CommitCompact c.args.job.out.number c.args.block.info.rows) (reply.Refused (write_refusal c.in-Err.error)) in
    let at = stage.Writing (job_of c.args.job) rest c.args.block.info.rows in
    record {
      made = made;
      called = c.in-Err.ensures;
      leads = ends_in at made (Refused c.write_cause.result)
          (subst (λ (why : Refusal). Leads at (made ∷ []) (Refused why)) (sym c.write_cause.ensures)
          (leads_unlisted (job_of c.args.job) c.args.block.info.rows rest c.in-Err.error (drop_all c.args.job.out.written c.args.block.bytes (omega (arith, c.requires.whole)))));
    }

pub returns-clause-found : goal.returns-clause-found
returns-clause-found g c = λ tells. subst (λ (why : Refusal). FoundBlocks (Refused why)) (sym c.write_cause.ensures) (write_found c.in-Err.error)
