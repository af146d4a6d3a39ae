-- Which members of a line must have which form, and where the first one stands that hasn't.
use Rattle.std.specs.Prelude.{◌≡◌, ◌⊎◌, ⊤, ℕ, suc, ◌<◌, ◌||◌, Bool, true, false, List, [], ◌∷◌, ◌++◌, codes, decimal, Option, Some, None, option_map}
use Rattle.std.specs.Option.{is_some, option_or}
use Rattle.serde_json.specs.Data.{Data}
use Rattle.serde_json.specs.Find.{as_array, as_number, as_object, as_str, at}
use Rattle.otlp_spans.specs.Json.{◌>>=◌, list_of, member_of, or_empty}
use Rattle.otlp_spans.specs.Members.{member_name, member_rank}
use Rattle.otlp_spans.specs.declared.paths.Member.{Member}
use Rattle.otlp_spans.specs.declared.paths.Member.TheVariants as m
use Rattle.otlp_spans.specs.declared.paths.Step.{Step}
use Rattle.otlp_spans.specs.declared.paths.Step.TheVariants.{Item, Of}

-- What a value must be. An object's members may be absent or null; others than those named may be anything.
mutual
  pub data Form : Type 0 where
    Text : Form
    NumberOrText : Form
    ListOf : Form → Form
    ObjectOf : Fields → Form

  pub data Fields : Type 0 where
    no_more : Fields
    field : Member → Form → Fields → Fields

-- ---- the forms of a line, from the inside out

abbrev pub attribute_form : Form
attribute_form = ObjectOf (field m.Key Text no_more)

abbrev pub attributes_form : Form
attributes_form = ListOf attribute_form

abbrev pub status_form : Form
status_form = ObjectOf (field m.Message Text (field m.Code NumberOrText no_more))

abbrev pub event_form : Form
event_form = ObjectOf (field m.Name Text (field m.Attributes attributes_form no_more))

abbrev pub link_form : Form
link_form = ObjectOf (field m.Attributes attributes_form no_more)

abbrev pub span_form : Form
span_form = ObjectOf (
    field m.Name Text (
    field m.Kind NumberOrText (
    field m.Status status_form (
    field m.Attributes attributes_form (
    field m.Events (ListOf event_form) (
    field m.Links (ListOf link_form) no_more))))))

abbrev pub scope_form : Form
scope_form = ObjectOf (field m.Name Text (field m.Version Text (field m.Attributes attributes_form no_more)))

abbrev pub scope_spans_form : Form
scope_spans_form = ObjectOf (field m.Scope scope_form (field m.Spans (ListOf span_form) no_more))

abbrev pub resource_form : Form
resource_form = ObjectOf (field m.Attributes attributes_form no_more)

abbrev pub resource_spans_form : Form
resource_spans_form = ObjectOf (field m.Resource resource_form (field m.ScopeSpans (ListOf scope_spans_form) no_more))

-- a whole line
abbrev pub request_form : Form
request_form = ObjectOf (field m.ResourceSpans (ListOf resource_spans_form) no_more)

-- ---- wrong forms

-- the member of an object with this name, which isn't null
abbrev pub found : Member → Data → Option Data
found m d = member_of (member_name m) d

-- the value itself is of the form, whatever is in it
abbrev pub is_kind : Form → Data → Bool
is_kind Text d = is_some (as_str d)
is_kind NumberOrText d = is_some (as_number d) || is_some (as_str d)
is_kind (ListOf f) d = is_some (as_array d)
is_kind (ObjectOf fs) d = is_some (as_object d)

-- the form of a member
pub data IsField : Member → Form → Fields → Type 0 where
  first : {m : Member} {f : Form} {fs : Fields} → IsField m f (field m f fs)
  later : {m k : Member} {f g : Form} {fs : Fields} → IsField m f fs → IsField m f (field k g fs)

-- the value has a part of the wrong form at the end of this path
pub data IsWrong : Form → Data → List Step → Type 0 where
  here : {f : Form} {d : Data} → is_kind f d ≡ false → IsWrong f d []
  item : {f : Form} {d e : Data} {path : List Step} (i : ℕ) → at i d ≡ Some e → IsWrong f e path → IsWrong (ListOf f) d (Item i ∷ path)
  member : {fs : Fields} {f : Form} {d e : Data} {path : List Step} (m : Member) → IsField m f fs → found m d ≡ Some e → IsWrong f e path
      → IsWrong (ObjectOf fs) d (Of m ∷ path)

-- Paths are tested by their first difference: items by index, members in the order in which they are listed.
abbrev pub rank : Step → ℕ
rank (Item i) = i
rank (Of m) = member_rank m

abbrev pub IsBefore : List Step → List Step → Type 0
IsBefore path [] = ⊥
IsBefore [] (t ∷ other) = ⊤
IsBefore (s ∷ path) (t ∷ other) = (rank s < rank t) ⊎ ((s ≡ t) × IsBefore path other)

-- the first part of the wrong form stands there
pub record IsFirstWrong (f : Form) (d : Data) (path : List Step) : Type 0 where
  pub wrong : IsWrong f d path
  pub first : (other : List Step) → IsWrong f d other → (other ≡ path) ⊎ IsBefore path other

-- the text of a path: `$`, and for each step `.name` or `[index]`
abbrev pub step_text : Step → List ℕ
step_text (Item i) = codes "[" ++ (decimal i ++ codes "]")
step_text (Of m) = codes "." ++ member_name m

abbrev pub steps_text : List Step → List ℕ
steps_text [] = []
steps_text (s ∷ path) = step_text s ++ steps_text path

abbrev pub path_text : List Step → List ℕ
path_text path = codes "$" ++ steps_text path

-- ---- the same, as a plain program

-- a path in a part of a value, from the value on
abbrev pub behind : Step → Option (List Step) → Option (List Step)
behind s path = option_map (λ p. s ∷ p) path

-- what is wrong in a value, where it is of the form's kind
abbrev pub if_kind : Bool → Option (List Step) → Option (List Step)
if_kind true inside = inside
if_kind false inside = Some []

-- what is first found wrong in items, the first of which has this index, where `wrong` looks into one
abbrev pub first_in_items : (Data → Option (List Step)) → ℕ → List Data → Option (List Step)
first_in_items wrong i [] = None
first_in_items wrong i (d ∷ ds) = option_or (behind (Item i) (wrong d)) (first_in_items wrong (suc i) ds)

abbrev mutual
  pub first_wrong : Form → Data → Option (List Step)
  first_wrong Text d = if_kind (is_some (as_str d)) None
  first_wrong NumberOrText d = if_kind (is_some (as_number d) || is_some (as_str d)) None
  first_wrong (ListOf f) d = if_kind (is_some (as_array d)) (first_in_items (first_wrong f) 0 (or_empty (list_of d)))
  first_wrong (ObjectOf fs) d = if_kind (is_some (as_object d)) (first_in_fields fs d)

  pub first_in_fields : Fields → Data → Option (List Step)
  first_in_fields no_more d = None
  first_in_fields (field m f fs) d = option_or (behind (Of m) (found m d >>= first_wrong f)) (first_in_fields fs d)

-- the first wrong form in one member
abbrev pub first_in_field : Member → Form → Data → Option (List Step)
first_in_field m f d = behind (Of m) (found m d >>= first_wrong f)
