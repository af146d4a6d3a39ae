use Rattle.std.proofs.Common.{List, [], refl, subst, sym}
use Rattle.span_types.specs.declared.attrs.Attr.{Attr}
use Rattle.span_types.specs.Promises.{AreDistinct}
use Rattle.otlp_spans.proofs.ReadableLaws.{firsts_distinct}
use Rattle.otlp_spans.proofs.attributes.attributes_from.Goals as goal

pub of-requires : goal.of-requires
of-requires c = subst (λ (l : List Attr). AreDistinct l) (sym c.in_ok-firsts.ensures) (firsts_distinct [] [] _ (λ key. refl))
