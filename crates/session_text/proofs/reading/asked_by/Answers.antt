use Rattle.std.proofs.Common.{[], Err, refl, sym, subst, inl}
use Rattle.traceql_types.proofs.Calls.{refuses-none}
use Rattle.session_text.specs.declared.refusal.Refusal.TheVariants.{BadRequest}
use Rattle.session_text.specs.Lines.{first_part, other_parts}
use Rattle.session_text.specs.Requests.{Answers, Line}
use Rattle.session_text.proofs.TextLemmas.{of_other}
use Rattle.session_text.proofs.reading.asked_by.Goals as goal

pub returns-in_default-clause-asked : goal.returns-in_default-clause-asked
returns-in_default-clause-asked g c = (
  [],
  refuses-none g.P.PatternMaker.makes c.args.maker.now c.args.maker.now c.args.maker.now,
  subst (λ (l : Line). Answers l [] (Err (BadRequest 0)))
      (sym (of_other c.args.moment c.args.line.now c.split_text.result.0.now (first_part c.args.line.now) (other_parts c.args.line.now) c.split_text.ensures.first
      c.in_default.not-trace c.in_default.not-search c.in_default.not-metrics c.in_default.not-cut c.in_default.not-cutall c.in_default.not-flush c.in_default.not-compact c.in_default.not-reclaim))
      (inl refl, refl),
)
