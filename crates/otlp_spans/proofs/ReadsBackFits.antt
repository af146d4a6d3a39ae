-- What the types promise of the values of runs, as they are written one after the other.
use Rattle.std.proofs.Common.{◌≡◌, ◌<◌, List, [], ◌∷◌, length, map, get_or, All, refl, ap, subst, arith}
use Rattle.std.proofs.lemmas.List.Elements.{All-cons, All-map, All-nil}
use Rattle.serde_json.specs.Data.{Data}
use Rattle.span_types.specs.declared.attrs.Resource.{Resource}
use Rattle.span_types.specs.declared.attrs.Scope.{Scope}
use Rattle.span_types.specs.declared.spans.Row.{Row}
use Rattle.span_runs.specs.Runs.{as_run, of_one_scope, runs}
use Rattle.otlp_spans.specs.Fits.{AreFit, FitsResourceRun, FitsScopeRun, FitsSpan}
use Rattle.otlp_spans.specs.Writing.{span_json, spans_in}

pub scope_run_fits : (rows : List Row) (first : Row) (scope : Scope) → 0 < length rows → scope ≡ (get_or rows 0 first).span.scope
    → AreFit scope.attrs → All (λ row. FitsSpan row.span) rows → All FitsScopeRun (as_run (spans_in rows))
scope_run_fits [] first scope some of fit each = absurd (omega arith)
scope_run_fits (r ∷ rows) first scope some of fit each =
    All-cons FitsScopeRun (r.span, spans_in rows) []
    (record { scope = subst (λ (s : Scope). AreFit s.attrs) of fit; spans = All-map FitsSpan (λ row. row.span) (r ∷ rows) each })
    (All-nil FitsScopeRun)

pub resource_run_fits : (rows : List Row) (first : Row) (resource : Resource) → 0 < length rows → resource ≡ (get_or rows 0 first).span.resource
    → AreFit resource.attrs → All FitsScopeRun (runs of_one_scope (spans_in rows)) → All FitsResourceRun (as_run (spans_in rows))
resource_run_fits [] first resource some of fit each = absurd (omega arith)
resource_run_fits (r ∷ rows) first resource some of fit each =
    All-cons FitsResourceRun (r.span, spans_in rows) []
    (record { resource = subst (λ (x : Resource). AreFit x.attrs) of fit; scopes = each })
    (All-nil FitsResourceRun)

pub rows_json : (rows : List Row) → map (λ row. span_json row.span) rows ≡ map span_json (spans_in rows)
rows_json [] = refl
rows_json (r ∷ rows) = ap (λ (l : List Data). span_json r.span ∷ l) (rows_json rows)
