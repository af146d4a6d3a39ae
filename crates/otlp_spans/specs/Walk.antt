-- ---- for private clauses: how far the walk over a line's value came
use Rattle.std.specs.Prelude.{◌≡◌, ℕ, ◌+◌, min, List, IfErr, Option, Some, None, Result}
use Rattle.std.specs.Option.{option_or}
use Rattle.serde_json.specs.Data.{Data}
use Rattle.serde_json.specs.Find.{as_str}
use Rattle.span_types.specs.declared.attrs.AttrValue.{AttrValue}
use Rattle.otlp_spans.specs.Attributes.{value_of}
use Rattle.otlp_spans.specs.Json.{◌>>=◌, list_of, not_null, or_empty}
use Rattle.otlp_spans.specs.declared.errors.Stop.{Stop}
use Rattle.otlp_spans.specs.declared.errors.Stop.TheVariants.{Wrong}
use Rattle.otlp_spans.specs.declared.paths.Member.{Member}
use Rattle.otlp_spans.specs.declared.paths.Member.TheVariants as m
use Rattle.otlp_spans.specs.declared.paths.Step.{Step}
use Rattle.otlp_spans.specs.declared.paths.Step.TheVariants.{Of}
use Rattle.otlp_spans.specs.Reading.{last64}
use Rattle.otlp_spans.specs.Forms.{Form, ListOf, NumberOrText, Text, attributes_form, behind, event_form, first_in_field, first_wrong, link_form, status_form}

-- where the walk stops for a wrong form, this is the first one
abbrev pub StopsAt : {T : Type 0} → Result T Stop → Option (List Step) → Type 0
StopsAt result wrong = IfErr result (λ e. (path : List Step) → e ≡ Wrong path → wrong ≡ Some path)

-- the first wrong form in a span's name, kind and status, else in the rest
abbrev pub labels_wrong : Data → Option (List Step) → Option (List Step)
labels_wrong d rest = option_or (first_in_field m.Name Text d) (option_or (first_in_field m.Kind NumberOrText d) (option_or (first_in_field m.Status status_form d) rest))

-- the first wrong form in a span's attributes, events and links
abbrev pub rest_wrong : Data → Option (List Step)
rest_wrong d =
    option_or (first_in_field m.Attributes attributes_form d)
    (option_or (first_in_field m.Events (ListOf event_form) d) (option_or (first_in_field m.Links (ListOf link_form) d) None))

-- the text that was found as a member; empty where it is absent
abbrev pub text_from : Option Data → List ℕ
text_from found = or_empty (found >>= as_str)

-- the items of the list that was found as a member; none where it is absent
abbrev pub items_from : Option Data → List Data
items_from found = or_empty (found >>= list_of)

-- what was found as a member, unless it is null
abbrev pub unless_null : Option Data → Option Data
unless_null found = found >>= not_null

-- the value of an attribute that was found as a member, where it is kept
abbrev pub kept_value : Option Data → Option AttrValue
kept_value found = found >>= value_of

-- the first wrong form in what was found as a member
abbrev pub first_behind : Member → Form → Option Data → Option (List Step)
first_behind m f found = behind (Of m) (found >>= first_wrong f)

-- a count that saturates has grown by so much
abbrev pub Adds : ℕ → ℕ → ℕ → Type 0
Adds before now more = min now last64 ≡ min (before + more) last64
