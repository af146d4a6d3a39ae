-- Which batches a log can keep. The types of spans promise all of it but the number.
use Rattle.std.specs.Prelude.{ℕ, ◌<◌, ◌≤◌, List, length}
use Rattle.std.specs.List.{AllByRecursion}
use Rattle.span_types.specs.declared.spans.Span.{Span}
use Rattle.span_types.specs.declared.limits.TheConstants.{MOST_SPANS}
use Rattle.byte_fields.specs.Sound.{IsBelow64, IsWord, AreSound, AreSoundAttrs, IsTrace, IsSpanId, IsParent, IsSoundEvent, IsSoundLink, IsSoundResource, IsSoundScope}

pub record IsSoundSpan (span : Span) : Type 0 where
  pub trace : IsTrace span.trace
  pub id : IsSpanId span.id
  pub parent : IsParent span.parent
  pub name : IsWord span.name
  pub start : IsBelow64 span.start
  pub ended : IsBelow64 span.«end»
  pub message : IsWord span.message
  pub attrs : AreSoundAttrs span.attrs
  pub resource : IsSoundResource span.resource
  pub scope : IsSoundScope span.scope
  pub events : AreSound IsSoundEvent span.events
  pub links : AreSound IsSoundLink span.links

-- a batch that can be kept under this number
pub record IsSoundBatch (number : ℕ) (spans : List Span) : Type 0 where
  pub below : number < 4294967295
  pub few : length spans ≤ MOST_SPANS
  pub each : AllByRecursion IsSoundSpan spans
