-- What is written for runs of spans and for a whole trace reads back.
use Rattle.std.proofs.Common.{◌≡◌, ℕ, Bool, true, ◌+◌, ◌-◌, ◌≤◌, leb, List, length, map, Some, None, Ok, refl, sym, ap, ap₂, ◌∙◌, arith, le-leb}
use Rattle.std.specs.List.{AllByRecursion, filter_map}
use Rattle.std.proofs.lemmas.List.Elements.{recursion_from_All}
use Rattle.serde_json.specs.Data.{Data}
use Rattle.span_types.specs.EqualLaws.{resource_decides, scope_decides}
use Rattle.span_types.specs.declared.attrs.Resource.{Resource}
use Rattle.span_types.specs.declared.attrs.Scope.{Scope}
use Rattle.span_types.specs.declared.limits.TheConstants.{MOST_SPANS}
use Rattle.span_types.specs.declared.spans.Span.{Span}
use Rattle.span_types.specs.Equal.{same_resource, same_scope}
use Rattle.span_runs.specs.Runs.{of_one_resource, of_one_scope, runs}
use Rattle.span_runs.proofs.RunLaws.{AreLinked, AreRuns-runs, EachLinked, all_of-runs, each_linked, each_of_runs, origins_equal, run_items}
use Rattle.otlp_spans.specs.declared.paths.Member.TheVariants as m
use Rattle.otlp_spans.specs.Attributes.{list_in}
use Rattle.otlp_spans.specs.Fits.{FitsResourceRun, FitsScopeRun, FitsSpan, FitsTrace}
use Rattle.otlp_spans.specs.Forms.{first_wrong, request_form, resource_spans_form, scope_spans_form, span_form}
use Rattle.otlp_spans.specs.Json.{json_of, total}
use Rattle.otlp_spans.specs.Reading.{given_by, objects_of, objects_of_resource, objects_of_scope, reading_of, resource_spans, scope_spans, skipped_of, skipped_of_resource, skipped_of_scope, skipped_of_span, span_of, spans_of}
use Rattle.otlp_spans.specs.Writing.{resource_json, resource_spans_json, scope_json, scope_spans_json, span_json, trace_json}
use Rattle.otlp_spans.proofs.JsonLemmas.{items_in-items_of}
use Rattle.otlp_spans.proofs.ReadsBackLists.{each, each3, flat_back, kept_back, list_right, mapped, total_len, total_none}
use Rattle.otlp_spans.proofs.ReadsBackSpans.{resource_back, resource_right, resource_skips, scope_back, scope_right, scope_skips, span_back, span_right, span_skips}

-- ---- the spans of a run

span_of_back : (resource : Resource) (scope : Scope) (s : Span) → FitsSpan s → s.resource ≡ resource → s.scope ≡ scope
    → span_of resource scope (span_json s) ≡ Some s
span_of_back resource scope s fits of_resource of_scope =
    ap₂ (λ (r : Resource) (c : Scope). span_of r c (span_json s)) (sym of_resource) (sym of_scope) ∙ span_back s fits

each_linked_run : (same : Span → Span → Bool) (spans : List Span) → EachLinked same (runs same spans)
each_linked_run same spans = each_linked same (runs same spans) (AreRuns-runs same spans)

-- ---- runs of one scope

run_spans : (run : Span × List Span) → list_in m.Spans (scope_spans_json run) ≡ map span_json (run_items run)
unfolding scope_spans_json
run_spans run = items_in-items_of (map span_json (run_items run))

scope_run_back : (resource : Resource) (run : Span × List Span)
    → FitsScopeRun run → AllByRecursion (λ s. s.resource ≡ resource) (run_items run) → AreLinked of_one_scope run.0 run.1
    → scope_spans resource (scope_spans_json run) ≡ run_items run
unfolding scope_spans scope_spans_json scope_json
scope_run_back resource run fits of linked =
    let alike = origins_equal same_scope (λ s. s.scope) scope_decides run.0 run.1 linked in
    ap₂ (λ (c : Scope) (l : List Data). filter_map (span_of resource c) l) (scope_back run.0.scope fits.scope) (run_spans run)
    ∙ kept_back (span_of resource run.0.scope) span_json (run_items run)
    (each3 (span_of_back resource run.0.scope) (run_items run) (recursion_from_All FitsSpan (run_items run) fits.spans) of (refl, alike))

scope_run_skips : (run : Span × List Span) → FitsScopeRun run → skipped_of_scope (scope_spans_json run) ≡ 0
unfolding skipped_of_scope scope_spans_json scope_json
scope_run_skips run fits =
    ap₂ (λ (a b : ℕ). a + b) (scope_skips run.0.scope fits.scope)
    (ap (λ (l : List Data). total skipped_of_span l) (run_spans run)
    ∙ total_none skipped_of_span span_json (run_items run) (each span_skips (run_items run) (recursion_from_All FitsSpan (run_items run) fits.spans)))

scope_run_objects : (run : Span × List Span) → objects_of_scope (scope_spans_json run) ≡ length (run_items run)
scope_run_objects run = ap (λ (l : List Data). length l) (run_spans run) ∙ mapped span_json (run_items run)

scope_run_right : (run : Span × List Span) → first_wrong scope_spans_form (scope_spans_json run) ≡ None
unfolding scope_spans_json scope_json
scope_run_right run = rw (scope_right run.0.scope, list_right span_form span_json span_right (run_items run)) refl

-- ---- runs of one resource

resource_run_back : (run : Span × List Span) → FitsResourceRun run → AreLinked of_one_resource run.0 run.1 → resource_spans (resource_spans_json run) ≡ run_items run
unfolding resource_spans resource_spans_json resource_json
resource_run_back run fits linked =
    let scopes = runs of_one_scope (run_items run) in
    let alike = origins_equal same_resource (λ s. s.resource) resource_decides run.0 run.1 linked in
    let of = each_of_runs of_one_scope (λ s. s.resource ≡ run.0.resource) (run_items run) (refl, alike) in
    let back = each3 (scope_run_back run.0.resource) scopes (recursion_from_All FitsScopeRun scopes fits.scopes) of (each_linked_run of_one_scope (run_items run)) in
    rw (resource_back run.0.resource fits.resource, items_in-items_of (map scope_spans_json scopes))
    (flat_back (scope_spans run.0.resource) scope_spans_json scopes back ∙ all_of-runs of_one_scope (run_items run))

resource_run_skips : (run : Span × List Span) → FitsResourceRun run → skipped_of_resource (resource_spans_json run) ≡ 0
unfolding skipped_of_resource resource_spans_json resource_json
resource_run_skips run fits =
    let scopes = runs of_one_scope (run_items run) in
    ap₂ (λ (a b : ℕ). a + b) (resource_skips run.0.resource fits.resource)
    (ap (λ (l : List Data). total skipped_of_scope l) (items_in-items_of (map scope_spans_json scopes))
    ∙ total_none skipped_of_scope scope_spans_json scopes (each scope_run_skips scopes (recursion_from_All FitsScopeRun scopes fits.scopes)))

resource_run_objects : (run : Span × List Span) → objects_of_resource (resource_spans_json run) ≡ length (run_items run)
unfolding objects_of_resource resource_spans_json
resource_run_objects run =
    let scopes = runs of_one_scope (run_items run) in
    rw (items_in-items_of (map scope_spans_json scopes))
    (total_len objects_of_scope scope_spans_json scope_run_objects scopes ∙ ap length (all_of-runs of_one_scope (run_items run)))

resource_run_right : (run : Span × List Span) → first_wrong resource_spans_form (resource_spans_json run) ≡ None
unfolding resource_spans_json resource_json
resource_run_right run =
    rw (resource_right run.0.resource, list_right scope_spans_form scope_spans_json scope_run_right (runs of_one_scope (run_items run))) refl

-- ---- a trace

trace_spans : (spans : List Span) → FitsTrace spans → spans_of (trace_json spans) ≡ spans
unfolding spans_of trace_json
trace_spans spans fits =
    let rs = runs of_one_resource spans in
    let fit = recursion_from_All FitsResourceRun rs fits in
    let back = each3 (λ r f links _. resource_run_back r f links) rs fit (each_linked_run of_one_resource spans) fit in
    rw (items_in-items_of (map resource_spans_json rs)) (flat_back resource_spans resource_spans_json rs back ∙ all_of-runs of_one_resource spans)

trace_skips : (spans : List Span) → FitsTrace spans → skipped_of (trace_json spans) ≡ 0
unfolding skipped_of trace_json
trace_skips spans fits =
    let rs = runs of_one_resource spans in
    rw (items_in-items_of (map resource_spans_json rs))
    (total_none skipped_of_resource resource_spans_json rs (each resource_run_skips rs (recursion_from_All FitsResourceRun rs fits)))

trace_objects : (spans : List Span) → objects_of (trace_json spans) ≡ length spans
unfolding objects_of trace_json
trace_objects spans =
    let rs = runs of_one_resource spans in
    rw (items_in-items_of (map resource_spans_json rs))
    (total_len objects_of_resource resource_spans_json resource_run_objects rs ∙ ap length (all_of-runs of_one_resource spans))

trace_right : (spans : List Span) → first_wrong request_form (trace_json spans) ≡ None
unfolding trace_json
trace_right spans = rw (list_right resource_spans_form resource_spans_json resource_run_right (runs of_one_resource spans)) refl

pub trace_back : (spans : List Span) → FitsTrace spans → length spans ≤ MOST_SPANS
    → given_by (Some (trace_json spans)) ≡ Ok (record { spans = spans; rejected = 0; skipped = 0 })
trace_back spans fits few =
    let test : leb (length spans) MOST_SPANS ≡ true = le-leb (length spans) MOST_SPANS few in
    let none : length spans - length spans ≡ 0 = omega arith in
    rw (trace_right spans) (rw (trace_objects spans, trace_spans spans fits, trace_skips spans fits, test, none) refl)

pub line_back : (line : List ℕ) (spans : List Span) → json_of line ≡ Some (trace_json spans) → FitsTrace spans → length spans ≤ MOST_SPANS
    → reading_of line ≡ Ok (record { spans = spans; rejected = 0; skipped = 0 })
unfolding reading_of
line_back line spans is fits few = ap given_by is ∙ trace_back spans fits few
