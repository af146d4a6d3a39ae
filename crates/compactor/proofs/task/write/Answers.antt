use Rattle.std.proofs.Common.{◌≡◌, ◌≤◌, ◌+◌, ℕ, List, length, take, drop, refl, sym, ◌∙◌, ap, subst, arith, length-drop}
use Rattle.store_model.specs.Event.Event.{WritePiece}
use Rattle.store_model.specs.Event.{Reply as reply}
use Rattle.store_model.specs.Event.Reply.{Fine}
use Rattle.store_state.specs.Given.{compact_of, compact_parts}
use Rattle.store_state.specs.Given.IsJobOf.{OfCompact}
use Rattle.store_state.specs.Made.{call}
use Rattle.store_state.specs.Replies.{write_refusal}
use Rattle.store_state.specs.declared.jobs.CompactJob.{CompactJob}
use Rattle.store_state.specs.declared.rounds.Refusal.{Refusal}
use Rattle.store_state.specs.declared.rounds.Round.TheVariants.{Refused}
use Rattle.store_state.proofs.HoldLaws.{stays_open}
use Rattle.compactor.specs.Rounds.{FoundBlocks, Leads}
use Rattle.compactor.specs.Rounds.{Stage as stage}
use Rattle.compactor.specs.Tasks.{job_of}
use Rattle.compactor.proofs.WriteLaws.{goes_on, has_written, leads_on, leads_out, same_job, still_open, write_found}
use Rattle.compactor.proofs.task.write.Goals as goal

pub write_piece-requires-clause-open : goal.write_piece-requires-clause-open
write_piece-requires-clause-open g c = OfCompact (compact_parts c.args.job) refl refl c.requires.is_writing.is_open

pub write_piece-requires-clause-whole : goal.write_piece-requires-clause-whole
write_piece-requires-clause-whole g c = λ tells writes.
    has_written (g.P.LookPort.meaning.shows c.args.port.now) c.args.job c.requires.is_writing.parts c.args.block.bytes (c.requires.is_writing.told tells) c.requires.is_writing.within

pub returns-in-Ok-clause-steps : goal.returns-in-Ok-clause-steps
returns-in-Ok-clause-steps g c =
    let w = c.args.job.out.written in
    let piece = c.piece.result.now in
    let after : CompactJob = record { out = c.write_piece.new.out; pin = c.args.job.pin; level = c.args.job.level } in
    record {
      made = call (WritePiece c.args.job.out.number c.args.job.out.file piece) Fine;
      called = c.in-Ok.ensures.called;
      leads = leads_on (job_of c.args.job) (job_of after) c.args.block.info.rows
          (drop w c.args.block.bytes) (drop c.write_piece.new.out.written c.args.block.bytes) piece
          (same_job c.args.job c.write_piece.new.out c.write_piece.ensures.same.0 c.write_piece.ensures.same.1)
          (ap (λ (n : ℕ). drop n c.args.block.bytes) c.in-Ok.ensures.raised
          ∙ subst (λ (b : List ℕ). drop (w + length piece) b ≡ drop 65536 (drop w b)) c.as_slice.ensures c.piece.ensures.rest)
          (subst (λ (b : List ℕ). piece ≡ take 65536 (drop w b)) c.as_slice.ensures c.piece.ensures.bytes)
          (omega (arith, length-drop w c.args.block.bytes, c.requires.more));
    }

pub returns-in-Ok-clause-fits : goal.returns-in-Ok-clause-fits
returns-in-Ok-clause-fits g c = goes_on g.P.LookPort.meaning c.args.port.now c.write_piece.new.self c.args.job c.args.block.bytes c.args.block.info c.piece.result.now
    c.write_piece.new.out c.requires.is_writing c.in-Ok.ensures.called
    (subst (λ (b : List ℕ). c.piece.result.now ≡ take (length c.piece.result.now) (drop c.args.job.out.written b)) c.as_slice.ensures c.piece.ensures.part)
    (subst (λ (b : List ℕ). c.args.job.out.written + length c.piece.result.now ≤ length b) c.as_slice.ensures c.piece.ensures.end)
    c.write_piece.ensures.same.0 c.write_piece.ensures.same.1 c.in-Ok.ensures.raised

pub returns-in-Err-clause-steps : goal.returns-in-Err-clause-steps
returns-in-Err-clause-steps g c =
    let w = c.args.job.out.written in
    let piece = c.piece.result.now in
    record {
      made = call (WritePiece c.args.job.out.number c.args.job.out.file piece) (reply.Refused (write_refusal c.in-Err.error));
      called = c.in-Err.ensures.called;
      leads = λ calls round h. leads_out (job_of c.args.job) c.args.block.info.rows c.write_piece.new.out.number (drop w c.args.block.bytes) piece c.in-Err.error
          c.write_piece.ensures.same.0 (subst (λ (b : List ℕ). piece ≡ take 65536 (drop w b)) c.as_slice.ensures c.piece.ensures.bytes)
          (omega (arith, length-drop w c.args.block.bytes, c.requires.more)) calls round
          (subst (λ (why : Refusal). Leads (stage.Failing c.write_piece.new.out.number why) calls round) c.write_cause.ensures h);
    }

pub returns-in-Err-clause-fits : goal.returns-in-Err-clause-fits
returns-in-Err-clause-fits g c = still_open g.P.LookPort.meaning c.write_piece.new.self c.args.job c.write_piece.new.out
    (stays_open g.P.LookPort.meaning c.args.port.now c.write_piece.new.self _ _ (compact_of c.args.job) c.in-Err.ensures.called c.requires.is_writing.is_open refl)
    c.write_piece.ensures.same.0 c.write_piece.ensures.same.1

pub returns-in-Err-clause-found : goal.returns-in-Err-clause-found
returns-in-Err-clause-found g c = λ tells. subst (λ (why : Refusal). FoundBlocks (Refused why)) (sym c.write_cause.ensures) (write_found c.in-Err.error)
