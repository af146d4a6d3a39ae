use Rattle.std.proofs.Common.{◌∙◌}
use Rattle.block_read.proofs.TraceWalk.{part_told}
use Rattle.block_read.proofs.parts.traces_of_part.Goals as goal

pub returns-in-Ok-clause-answers : goal.returns-in-Ok-clause-answers
returns-in-Ok-clause-answers g c = λ told rows has.
    c.traces_of_bytes.ensures.answers rows
    (part_told c.args.form c.args.entry.now (g.P.Pages.held c.args.pages.now c.args.block) c.as_slice.result.now rows has (c.as_slice.ensures.value ∙ c.in-Ok.ensures.bytes told))
