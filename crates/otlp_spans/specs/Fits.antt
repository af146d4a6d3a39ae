-- ---- for private clauses: what the types of a trace's values promise, as far as it is written
use Rattle.std.specs.Prelude.{◌≡◌, ⊤, ℕ, ◌^◌, ◌<◌, All, List, [], ◌∷◌, length, FitsSigned, IfSome, None}
use Rattle.std.specs.Int.{w64}
use Rattle.hex.specs.Hex.{IsBytes}
use Rattle.serde_json.specs.Data.{Data, Members, put}
use Rattle.span_types.specs.declared.attrs.Attr.{Attr}
use Rattle.span_types.specs.declared.attrs.AttrValue.{AttrValue}
use Rattle.span_types.specs.declared.attrs.AttrValue.TheVariants.{Whole}
use Rattle.span_types.specs.declared.spans.Span.{Span}
use Rattle.span_types.specs.declared.spans.SpanEvent.{SpanEvent}
use Rattle.span_types.specs.declared.spans.SpanLink.{SpanLink}
use Rattle.span_types.specs.Promises.{AreDistinct, AreNames}
use Rattle.span_runs.specs.Runs.{of_one_resource, of_one_scope, runs}
use Rattle.otlp_spans.specs.Writing.{list_json}

-- so many bytes
pub record AreBytes (count : ℕ) (bytes : List ℕ) : Type 0 where
  pub len : length bytes ≡ count
  pub fit : IsBytes bytes

-- a whole number of 64 signed bits, where the value is a number
abbrev pub FitsValue : AttrValue → Type 0
FitsValue (Whole n) = FitsSigned w64 n
FitsValue _ = ⊤

abbrev pub FitsAttr : Attr → Type 0
FitsAttr a = FitsValue a.value

-- attributes whose values fit and whose keys differ
pub record AreFit (attrs : List Attr) : Type 0 where
  pub values : All FitsAttr attrs
  pub distinct : AreDistinct attrs

pub record FitsEvent (e : SpanEvent) : Type 0 where
  pub time : e.time < 2 ^ 64
  pub attrs : AreFit e.attrs

pub record FitsLink (l : SpanLink) : Type 0 where
  pub names : AreNames l.trace l.span None
  pub trace : AreBytes 16 l.trace.0
  pub span : AreBytes 8 l.span.0
  pub attrs : AreFit l.attrs

-- a span, but for its resource and scope
pub record FitsSpan (s : Span) : Type 0 where
  pub names : AreNames s.trace s.id s.parent
  pub trace : AreBytes 16 s.trace.0
  pub id : AreBytes 8 s.id.0
  pub parent : IfSome s.parent (λ p. AreBytes 8 p.0)
  pub start : s.start < 2 ^ 64
  pub end : s.end < 2 ^ 64
  pub attrs : AreFit s.attrs
  pub events : All FitsEvent s.events
  pub links : All FitsLink s.links

-- a run's scope, which its first span has, and its spans
pub record FitsScopeRun (run : Span × List Span) : Type 0 where
  pub scope : AreFit run.0.scope.attrs
  pub spans : All FitsSpan (run.0 ∷ run.1)

-- a run's resource, which its first span has, and its runs of one scope
pub record FitsResourceRun (run : Span × List Span) : Type 0 where
  pub resource : AreFit run.0.resource.attrs
  pub scopes : All FitsScopeRun (runs of_one_scope (run.0 ∷ run.1))

abbrev pub FitsTrace : List Span → Type 0
FitsTrace spans = All FitsResourceRun (runs of_one_resource spans)

-- the members, with the list at its name where it has an item
abbrev pub put_some : {A : Type 0} → List ℕ → (A → Data) → List A → Members → Members
put_some name f [] others = others
put_some name f (x ∷ xs) others = put name (list_json f (x ∷ xs)) others
