use Rattle.std.proofs.Common.{◌≡◌, ◌≤◌, ◌+◌, ℕ, List, length, take, drop, refl, ◌∙◌, ap, subst, arith, length-drop}
use Rattle.store_model.specs.Event.Event.{WritePiece}
use Rattle.store_model.specs.Event.{Reply as reply}
use Rattle.store_model.specs.Event.Reply.{Fine}
use Rattle.store_state.specs.Given.{flush_of, flush_parts}
use Rattle.store_state.specs.Given.IsJobOf.{OfFlush}
use Rattle.store_state.specs.Made.{call}
use Rattle.store_state.specs.Replies.{write_refusal}
use Rattle.store_state.specs.declared.rounds.Refusal.{Refusal}
use Rattle.store_state.proofs.HoldLaws.{stays_open}
use Rattle.flusher.specs.Rounds.{Stage as stage, Leads}
use Rattle.flusher.proofs.TaskLaws.{goes_on, leads_on, leads_out, still_open}
use Rattle.flusher.proofs.task.write.Goals as goal

pub write_piece-requires-clause-open : goal.write_piece-requires-clause-open
write_piece-requires-clause-open g c = OfFlush (flush_parts c.args.job) refl refl c.requires.is_writing.is_open

pub returns-in-Ok-clause-steps : goal.returns-in-Ok-clause-steps
returns-in-Ok-clause-steps g c =
    let w = c.args.job.out.written in
    let piece = c.piece.result.now in
    record {
      made = call (WritePiece c.args.job.out.number c.args.job.out.file piece) Fine;
      called = c.in-Ok.ensures.called;
      leads = leads_on c.args.job.out.number c.args.job.out.file c.args.block.info.rows c.write_piece.new.out.number c.write_piece.new.out.file
          (drop w c.args.block.bytes) (drop c.write_piece.new.out.written c.args.block.bytes) piece c.write_piece.ensures.same.0 c.write_piece.ensures.same.1
          (ap (λ (n : ℕ). drop n c.args.block.bytes) c.in-Ok.ensures.raised
          ∙ subst (λ (b : List ℕ). drop (w + length piece) b ≡ drop 65536 (drop w b)) c.as_slice.ensures c.piece.ensures.rest)
          (subst (λ (b : List ℕ). piece ≡ take 65536 (drop w b)) c.as_slice.ensures c.piece.ensures.bytes)
          (omega (arith, length-drop w c.args.block.bytes, c.requires.more));
    }

pub returns-in-Ok-clause-fits : goal.returns-in-Ok-clause-fits
returns-in-Ok-clause-fits g c = goes_on g.P.LookPort.meaning c.args.port.now c.write_piece.new.self c.args.job c.args.block.bytes c.args.block.info c.piece.result.now
    c.write_piece.new.out c.requires.is_writing c.in-Ok.ensures.called
    (subst (λ (b : List ℕ). c.piece.result.now ≡ take (length c.piece.result.now) (drop c.args.job.out.written b)) c.as_slice.ensures c.piece.ensures.part)
    (subst (λ (b : List ℕ). c.args.job.out.written + length c.piece.result.now ≤ length b) c.as_slice.ensures c.piece.ensures.end)
    c.write_piece.ensures.same.0 c.write_piece.ensures.same.1 c.in-Ok.ensures.raised

pub returns-in-Err-clause-steps : goal.returns-in-Err-clause-steps
returns-in-Err-clause-steps g c =
    let w = c.args.job.out.written in
    let piece = c.piece.result.now in
    record {
      made = call (WritePiece c.args.job.out.number c.args.job.out.file piece) (reply.Refused (write_refusal c.in-Err.error));
      called = c.in-Err.ensures.called;
      leads = λ calls round h. leads_out c.args.job.out.number c.args.job.out.file c.args.block.info.rows c.write_piece.new.out.number (drop w c.args.block.bytes) piece c.in-Err.error
          c.write_piece.ensures.same.0 (subst (λ (b : List ℕ). piece ≡ take 65536 (drop w b)) c.as_slice.ensures c.piece.ensures.bytes)
          (omega (arith, length-drop w c.args.block.bytes, c.requires.more)) calls round
          (subst (λ (why : Refusal). Leads (stage.Failing c.write_piece.new.out.number why) calls round) c.write_cause.ensures h);
    }

pub returns-in-Err-clause-fits : goal.returns-in-Err-clause-fits
returns-in-Err-clause-fits g c = still_open g.P.LookPort.meaning c.write_piece.new.self c.args.job c.write_piece.new.out
    (stays_open g.P.LookPort.meaning c.args.port.now c.write_piece.new.self _ _ (flush_of c.args.job) c.in-Err.ensures.called c.requires.is_writing.is_open refl)
    c.write_piece.ensures.same.0 c.write_piece.ensures.same.1
