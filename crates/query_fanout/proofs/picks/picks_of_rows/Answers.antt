use Rattle.std.proofs.Common.{List, map, ap, subst, ◌∙◌}
use Rattle.span_types.specs.declared.spans.Span.{Span}
use Rattle.column_scan.specs.Sieves.{AreSifted}
use Rattle.query_fanout.proofs.picks.picks_of_rows.Goals as goal

pub returns : goal.returns
returns c =
    subst (λ (spans : List Span). AreSifted c.args.sieve.now spans c.in_ok-picks.picks.items)
    (ap (λ l. map (λ s. s.now) l) c.as_slice.ensures.value ∙ c.in_ok-spans.ensures) c.in_ok-picks.ensures
