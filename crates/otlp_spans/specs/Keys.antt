-- ---- for private clauses: the keys of attributes, and their values by one name
use Rattle.std.specs.Prelude.{◌≡◌, ℕ, List, [], ◌∷◌, ◌++◌, Bool, not, codes, if◌then◌else◌, Option, None, option_map}
use Rattle.std.specs.Borrow.{Bor}
use Rattle.std.specs.BTreeSet.{BTreeSet, contains}
use Rattle.std.specs.Cmp.Lexicographic.{slice_cmp}
use Rattle.std.specs.Ordering.{nat_cmp}
use Rattle.std.specs.Str.{bytes_eq}
use Rattle.serde_json.specs.Data.{Data}
use Rattle.serde_json.specs.Find.{as_bool, as_str}
use Rattle.span_types.specs.declared.attrs.Attr.{Attr}
use Rattle.span_types.specs.declared.attrs.AttrValue.{AttrValue}
use Rattle.span_types.specs.declared.attrs.AttrValue.TheVariants.{Text, Whole, Truth}
use Rattle.span_types.specs.Promises.{has_key}
use Rattle.otlp_spans.specs.Fields.{int_of}

-- the set has exactly the keys of these attributes
abbrev pub HasKeysOf : BTreeSet (Bor (List ℕ)) → List Attr → Type 0
HasKeysOf keys attrs = (key : Bor (List ℕ)) → contains (λ a b. slice_cmp nat_cmp a.now b.now) keys key ≡ has_key key.now attrs

-- of each attribute whether none of those before it has its key, where these stand before them all
abbrev pub are_first : List Attr → List Attr → List Bool
are_first before [] = []
are_first before (a ∷ later) = not (has_key a.key before) ∷ are_first (before ++ a ∷ []) later

-- what a value is by its one member of this name
abbrev pub value_named : List ℕ → Data → Option AttrValue
value_named name d =
    if bytes_eq name (codes "stringValue") then option_map Text (as_str d)
    else if bytes_eq name (codes "boolValue") then option_map Truth (as_bool d)
    else if bytes_eq name (codes "intValue") then option_map Whole (int_of d)
    else None
