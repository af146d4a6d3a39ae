-- When two values, attributes, resources or scopes are equal, as tests: exactly where they are the same.
use Rattle.std.specs.Prelude.{◌&&◌, Bool, true, false, not, List}
use Rattle.std.specs.Cmp.Lexicographic.{pointwise}
use Rattle.std.specs.Ordering.{int_eq}
use Rattle.std.specs.Str.{bytes_eq}
use Rattle.span_types.specs.declared.attrs.Attr.{Attr}
use Rattle.span_types.specs.declared.attrs.AttrValue.{AttrValue}
use Rattle.span_types.specs.declared.attrs.AttrValue.TheVariants.{Text, Whole, Truth}
use Rattle.span_types.specs.declared.attrs.Resource.{Resource}
use Rattle.span_types.specs.declared.attrs.Scope.{Scope}

abbrev pub same_truth : Bool → Bool → Bool
same_truth true b = b
same_truth false b = not b

-- Two values are of one kind and equal.
abbrev pub same_value : AttrValue → AttrValue → Bool
same_value (Text s) (Text t) = bytes_eq s t
same_value (Whole m) (Whole n) = int_eq m n
same_value (Truth a) (Truth b) = same_truth a b
same_value _ _ = false

abbrev pub same_attr : Attr → Attr → Bool
same_attr a b = bytes_eq a.key b.key && same_value a.value b.value

-- Two lists of attributes have equal keys and values, in order.
abbrev pub same_attrs : List Attr → List Attr → Bool
same_attrs = pointwise same_attr

unfoldable pub same_resource : Resource → Resource → Bool
same_resource a b = same_attrs a.attrs b.attrs

unfoldable pub same_scope : Scope → Scope → Bool
same_scope a b = bytes_eq a.name b.name && bytes_eq a.version b.version && same_attrs a.attrs b.attrs
