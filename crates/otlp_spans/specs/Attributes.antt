-- What attributes a list of OTLP/JSON has.
use Rattle.std.specs.Prelude.{ℕ, List, [], ◌∷◌, ◌++◌, if◌then◌else◌, Option, Some, None, option_map}
use Rattle.std.specs.List.{filter, filter_map}
use Rattle.std.specs.Option.{is_some}
use Rattle.serde_json.specs.Data.{Data}
use Rattle.serde_json.specs.Find.{as_bool, as_str}
use Rattle.span_types.specs.declared.attrs.Attr.{Attr}
use Rattle.span_types.specs.declared.attrs.AttrValue.{AttrValue}
use Rattle.span_types.specs.declared.attrs.AttrValue.TheVariants.{Text, Whole, Truth}
use Rattle.span_types.specs.Promises.{has_key}
use Rattle.otlp_spans.specs.declared.paths.Member.{Member}
use Rattle.otlp_spans.specs.declared.paths.Member.TheVariants as m
use Rattle.otlp_spans.specs.Fields.{int_of}
use Rattle.otlp_spans.specs.Forms.{found}
use Rattle.otlp_spans.specs.Json.{◌>>=◌, list_of, or_empty, total}

-- The text that a member is; empty where it is absent.
abbrev pub text_in : Member → Data → List ℕ
text_in m d = or_empty (found m d >>= as_str)

-- The items of the list that a member is; none where it is absent.
abbrev pub list_in : Member → Data → List Data
list_in m d = or_empty (found m d >>= list_of)

-- The members of which a value has exactly one.
abbrev pub value_members : List Member
value_members = m.StringValue ∷ m.BoolValue ∷ m.IntValue ∷ m.DoubleValue ∷ m.ArrayValue ∷ m.KvlistValue ∷ m.BytesValue ∷ []

-- Those that a value has.
abbrev pub present_in : Data → List Member
present_in d = filter (λ m. is_some (found m d)) value_members

-- What a value is by its one member: a text, a truth or a whole number. The other four aren't kept.
abbrev pub value_by : Member → Data → Option AttrValue
value_by m.StringValue d = option_map Text (as_str d)
value_by m.BoolValue d = option_map Truth (as_bool d)
value_by m.IntValue d = option_map Whole (int_of d)
value_by _ d = None

-- The one item of a list.
abbrev pub only : {A : Type 0} → List A → Option A
only (x ∷ []) = Some x
only _ = None

unfoldable pub value_of : Data → Option AttrValue
value_of d = do
  m ← only (present_in d)
  found m d >>= value_by m

abbrev pub value_in : Data → Option AttrValue
value_in d = found m.Value d >>= value_of

-- An attribute that is kept.
unfoldable pub attr_of : Data → Option Attr
attr_of d = do
  value ← value_in d
  Some (record { key = text_in m.Key d; value = value })

-- Of each key the first attribute, where these attributes stand before them.
abbrev pub firsts_behind : List Attr → List Attr → List Attr
firsts_behind before [] = []
firsts_behind before (a ∷ later) =
    if has_key a.key before then firsts_behind (before ++ a ∷ []) later
    else a ∷ firsts_behind (before ++ a ∷ []) later

-- The attributes that an object has: of those that are kept the first of each key.
unfoldable pub attrs_in : Data → List Attr
attrs_in d = firsts_behind [] (filter_map attr_of (list_in m.Attributes d))

-- ---- what is skipped

-- Of an item of a list: the item itself where it isn't kept, else what is skipped inside it.
abbrev pub skipped_by : {A : Type 0} → (Data → Option A) → (Data → ℕ) → Data → ℕ
skipped_by of inside d = if is_some (of d) then inside d else 1

-- Inside an attribute nothing is skipped.
abbrev pub nothing : Data → ℕ
nothing d = 0

-- How many attributes of an object are skipped: those that aren't kept.
unfoldable pub skipped_attrs : Data → ℕ
skipped_attrs d = total (skipped_by attr_of nothing) (list_in m.Attributes d)
