use Rattle.std.proofs.Common.{◌∙◌, arith, refl, sym}
use Rattle.search_answer.proofs.Starts.{part_found}
use Rattle.search_answer.proofs.traces.in_range.Goals as goal

pub returns : goal.returns
returns c =
    part_found c.args.range c.args.part.now c.first-item.result _ (omega (arith, c.in-len1-up.len_at_least)) c.first-item.is refl c.trace_of.ensures c.start_of.ensures c.requires
    (sym c.starts_in.ensures ∙ c.if-not-starts_in.false)
