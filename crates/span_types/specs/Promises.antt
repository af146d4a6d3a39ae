-- What the types of attributes and spans promise.
use Rattle.std.specs.Prelude.{◌≡◌, ℕ, ◌==◌, Bool, false, List, [], ◌∷◌, ◌++◌, Option, IfSome}
use Rattle.std.specs.List.{list_all, list_any}
use Rattle.std.specs.Str.{bytes_eq}
use Rattle.span_types.specs.declared.attrs.Attr.{Attr}
use Rattle.span_types.specs.declared.ids.SpanId.{SpanId}
use Rattle.span_types.specs.declared.ids.TraceId.{TraceId}

-- one of the attributes has the key
abbrev pub has_key : List ℕ → List Attr → Bool
has_key key attrs = list_any (λ attr. bytes_eq attr.key key) attrs

-- each key is none of those before it
abbrev pub AreDistinctAfter : List Attr → List Attr → Type 0
AreDistinctAfter before [] = Unit {0}
AreDistinctAfter before (attr ∷ later) = (has_key attr.key before ≡ false) × AreDistinctAfter (before ++ attr ∷ []) later

-- no two attributes have one key
abbrev pub AreDistinct : List Attr → Type 0
AreDistinct attrs = AreDistinctAfter [] attrs

-- all the bytes are zeros
abbrev pub all_zero : List ℕ → Bool
all_zero bytes = list_all (λ b. b == 0) bytes

-- no id is all zeros: not the trace's, nor the span's, nor its parent's
pub record AreNames (trace : TraceId) (id : SpanId) (parent : Option SpanId) : Type 0 where
  pub of_trace : all_zero trace.0 ≡ false
  pub of_span : all_zero id.0 ≡ false
  pub of_parent : IfSome parent (λ p. all_zero p.0 ≡ false)
