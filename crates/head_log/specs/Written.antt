-- For private clauses: what the types promise of a batch, as far as it is written.
use Rattle.std.specs.Prelude.{Bool, true, false, All, List, ◌∷◌}
use Rattle.span_types.specs.declared.spans.Span.{Span}
use Rattle.span_types.specs.Equal.{same_resource, same_scope}
use Rattle.span_runs.specs.Runs.{runs, of_one}
use Rattle.byte_fields.specs.Sound.{IsBelow64, IsWord, AreSound, AreSoundAttrs, IsTrace, IsSpanId, IsParent, IsSoundEvent, IsSoundLink, IsSoundResource, IsSoundScope}

-- the events and links of a span, where its body has them
abbrev pub AreSoundExtras : Bool → Span → Type 0
AreSoundExtras true span = AreSound IsSoundEvent span.events × AreSound IsSoundLink span.links
AreSoundExtras false span = Unit {0}

-- a span but for its resource and its scope
pub record IsSoundAlone (extended : Bool) (span : Span) : Type 0 where
  pub trace : IsTrace span.trace
  pub id : IsSpanId span.id
  pub parent : IsParent span.parent
  pub name : IsWord span.name
  pub start : IsBelow64 span.start
  pub ended : IsBelow64 span.«end»
  pub message : IsWord span.message
  pub attrs : AreSoundAttrs span.attrs
  pub extras : AreSoundExtras extended span

-- a run's origin, which its first span has, and its spans
pub record IsSoundRun {O : Type 0} (of : Span → O) (IsSound : O → Type 0) (Content : List Span → Type 0) (run : Span × List Span) : Type 0 where
  pub origin : IsSound (of run.0)
  pub content : Content (run.0 ∷ run.1)

abbrev pub AreSoundRuns : {O : Type 0} → (O → O → Bool) → (Span → O) → (O → Type 0) → (List Span → Type 0) → List Span → Type 0
AreSoundRuns same of IsSound Content spans = All (IsSoundRun of IsSound Content) (runs (of_one same of) spans)

abbrev pub AreSoundAlone : Bool → List Span → Type 0
AreSoundAlone extended spans = All (IsSoundAlone extended) spans

abbrev pub AreSoundScopes : Bool → List Span → Type 0
AreSoundScopes extended spans = AreSoundRuns same_scope (λ s. s.scope) IsSoundScope (AreSoundAlone extended) spans

abbrev pub AreSoundResources : Bool → List Span → Type 0
AreSoundResources extended spans = AreSoundRuns same_resource (λ s. s.resource) IsSoundResource (AreSoundScopes extended) spans
