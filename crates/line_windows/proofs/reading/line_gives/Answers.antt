use Rattle.std.proofs.Common.{Ok, subst, sym}
use Rattle.session_text.specs.declared.request.Request.{Request}
use Rattle.session_text.specs.Requests.{AsksPush}
use Rattle.line_windows.proofs.WindowLemmas.{asks_push, gives_reading, gives_refusal}
use Rattle.line_windows.proofs.reading.line_gives.Goals as goal

pub reading_of-requires : goal.reading_of-requires
reading_of-requires c = asks_push c.args.line.now c.in-Ok.request 0 c.in-Ok.ensures.asked

pub returns-in-Ok : goal.returns-in-Ok
returns-in-Ok c =
    let is = c.reading_of.ensures in
    gives_reading c.args.line.now c.reading_of.result 0 is.0 (subst (λ (r : Request). AsksPush 0 c.args.line.now (Ok r)) is.1 c.in-Ok.ensures.asked)

pub returns-in-Err : goal.returns-in-Err
returns-in-Err c = gives_refusal c.args.line.now c.in-Err.why 0 c.in-Err.ensures.asked
