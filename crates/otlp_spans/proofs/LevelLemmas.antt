-- Span objects one by one, as the spans and the number of their list.
use Rattle.std.proofs.Common.{◌≡◌, List, [], ◌∷◌, ◌++◌, length, flat_map, Option, Some, None, Result, refl, ap, subst, ◌∙◌, arith}
use Rattle.std.specs.Prelude.{OnOk}
use Rattle.std.specs.List.{cons_option, filter_map}
use Rattle.serde_json.specs.Data.{Data}
use Rattle.span_types.specs.declared.attrs.Resource.{Resource}
use Rattle.span_types.specs.declared.attrs.Scope.{Scope}
use Rattle.span_types.specs.declared.spans.Span.{Span}
use Rattle.otlp_spans.specs.Attributes.{list_in}
use Rattle.otlp_spans.specs.Forms.{found}
use Rattle.otlp_spans.specs.Json.{total}
use Rattle.otlp_spans.specs.Reading.{scope_from, scope_spans, span_of}
use Rattle.otlp_spans.specs.Walk.{items_from}
use Rattle.otlp_spans.specs.declared.paths.Member.TheVariants as m

one_more : (o : Option Span) (l : List Span) → cons_option o [] ++ l ≡ cons_option o l
one_more None l = refl
one_more (Some s) l = refl

spans_flat : (resource : Resource) (scope : Scope) (ds : List Data) → flat_map (λ d. cons_option (span_of resource scope d) []) ds ≡ filter_map (span_of resource scope) ds
spans_flat resource scope [] = refl
spans_flat resource scope (d ∷ ds) =
    ap (λ (l : List Span). cons_option (span_of resource scope d) [] ++ l) (spans_flat resource scope ds)
    ∙ one_more (span_of resource scope d) (filter_map (span_of resource scope) ds)

pub each_one : (ds : List Data) → total (λ d. 1) ds ≡ length ds
each_one [] = refl
each_one (d ∷ ds) = let rest = each_one ds in omega arith

-- what was gathered of a member of `scopeSpans`, of which a scope and spans were found
pub scope_gathered : {T E : Type 0} (result : Result T E) (resource : Resource) (scope : Scope) (d : Data) (found_scope found_spans : Option Data) (before after : List Span)
    → scope ≡ scope_from found_scope → found_scope ≡ found m.Scope d → found_spans ≡ found m.Spans d
    → OnOk result (after ≡ before ++ flat_map (λ e. cons_option (span_of resource scope e) []) (items_from found_spans)) → OnOk result (after ≡ before ++ scope_spans resource d)
unfolding scope_spans
scope_gathered result resource scope d found_scope found_spans before after is same listed gathered =
    subst (λ (l : List Span). OnOk result (after ≡ before ++ l))
    (spans_flat resource scope (items_from found_spans)
    ∙ ap (λ (o : Option Data). filter_map (span_of resource scope) (items_from o)) listed
    ∙ ap (λ (c : Scope). filter_map (span_of resource c) (list_in m.Spans d)) (is ∙ ap scope_from same)) gathered
