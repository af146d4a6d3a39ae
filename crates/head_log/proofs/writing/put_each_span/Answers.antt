use Rattle.std.proofs.Common.{arith, subst}
use Rattle.std.proofs.lemmas.Grind.{common_steps}
use Rattle.std.proofs.lemmas.List.Elements.{All-more}
use Rattle.span_types.specs.declared.spans.Span.{Span}
use Rattle.head_log.specs.Written.{IsSoundAlone}
use Rattle.head_log.proofs.writing.put_each_span.Goals as goal

pub loop-span-preserved : goal.loop-span-preserved
loop-span-preserved c = (
  grind (arith, common_steps),
  All-more (IsSoundAlone c.args.extended) c.args.spans.now c.loop-span.span-index c.span-item.result (omega arith) c.loop-span.invariant.1
      (subst (λ (span : Span). IsSoundAlone c.args.extended span) c.span-item.is c.in_ok-put_span.ensures.sound),
)
