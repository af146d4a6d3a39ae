use Rattle.std.proofs.Common.{sym, ◌∙◌}
use Rattle.block_read.specs.Answers.{is_fault}
use Rattle.block_read.proofs.PageReads.{has_read_then}
use Rattle.block_read.proofs.TraceWalk.{nowhere}
use Rattle.block_read.proofs.calls.trace_rows.Goals as goal

pub returns-in-Ok-Some-clause-read : goal.returns-in-Ok-Some-clause-read
returns-in-Ok-Some-clause-read g c =
    has_read_then g.P.Pages.went (is_fault c.rows_at.result) c.args.pages.now c.find_trace.new.pages c.rows_at.new.pages c.in-Ok-Some.ensures.only.read c.rows_at.ensures.only.read

pub returns-in-Ok-None-clause-answers : goal.returns-in-Ok-None-clause-answers
returns-in-Ok-None-clause-answers g c = λ told rows has. c.none.ensures ∙ sym (nowhere c.args.id rows (sym c.in-Ok-None.field-0-is ∙ c.in-Ok-None.ensures.place told rows has))
