use Rattle.std.proofs.Common.{ℕ, [], ◌∷◌, sym, subst, drop}
use Rattle.store_model.specs.Event.Event.{CommitFlush}
use Rattle.store_model.specs.Event.{Reply as reply}
use Rattle.store_model.specs.Event.Reply.{Fine}
use Rattle.store_state.specs.Made.{call}
use Rattle.store_state.specs.Replies.{write_refusal}
use Rattle.store_state.specs.declared.rounds.Refusal.{Refusal}
use Rattle.store_state.specs.declared.rounds.Round.TheVariants.{Did, Refused}
use Rattle.flusher.specs.Rounds.{Stage as stage, Leads}
use Rattle.flusher.proofs.TaskLaws.{block_rows, drop_all, ends_in, leads_listed, leads_unlisted, may_be_listed}
use Rattle.flusher.proofs.task.commit.Goals as goal

pub commit_flush-requires-clause-size : goal.commit_flush-requires-clause-size
commit_flush-requires-clause-size g c =
    block_rows c.args.job.out.file c.args.job.rows c.args.block.bytes c.args.block.info c.requires.is_writing.block c.requires.is_writing.some c.requires.is_writing.few

pub commit_flush-requires-clause-names : goal.commit_flush-requires-clause-names
commit_flush-requires-clause-names g c = record { its_file = c.requires.is_writing.block.its_file; its_level = c.requires.is_writing.block.its_level }

pub commit_flush-requires-clause-block : goal.commit_flush-requires-clause-block
commit_flush-requires-clause-block g c = may_be_listed g.P.LookPort.meaning c.args.job c.args.block.bytes c.args.block.info c.args.port.now c.requires.is_writing c.requires.whole

pub returns-in-Ok-clause-steps : goal.returns-in-Ok-clause-steps
returns-in-Ok-clause-steps g c =
    let rest = drop c.args.job.out.written c.args.block.bytes in
    let made = call (CommitFlush c.args.job.out.number c.args.block.info.rows) Fine in
    let at = stage.Writing c.args.job.out.number c.args.job.out.file rest c.args.block.info.rows in
    record {
      made = made;
      called = c.in-Ok.ensures;
      leads = ends_in at made (Did 1 c.rows_of-rows.result)
          (subst (λ (n : ℕ). Leads at (made ∷ []) (Did 1 n)) (sym c.rows_of-rows.ensures)
          (leads_listed c.args.job.out.number c.args.job.out.file c.args.block.info.rows rest (drop_all c.args.job.out.written c.args.block.bytes c.requires.whole)));
    }

pub returns-clause-steps : goal.returns-clause-steps
returns-clause-steps g c =
    let rest = drop c.args.job.out.written c.args.block.bytes in
    let made = call (CommitFlush c.args.job.out.number c.args.block.info.rows) (reply.Refused (write_refusal c.in-Err.error)) in
    let at = stage.Writing c.args.job.out.number c.args.job.out.file rest c.args.block.info.rows in
    record {
      made = made;
      called = c.in-Err.ensures;
      leads = ends_in at made (Refused c.write_cause.result)
          (subst (λ (why : Refusal). Leads at (made ∷ []) (Refused why)) (sym c.write_cause.ensures)
          (leads_unlisted c.args.job.out.number c.args.job.out.file c.args.block.info.rows rest c.in-Err.error (drop_all c.args.job.out.written c.args.block.bytes c.requires.whole)));
    }
