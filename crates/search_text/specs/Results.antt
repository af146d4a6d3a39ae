-- The JSON of a search's results, with each object's keys in ascending order.
use Rattle.std.specs.Prelude.{ℕ, ◌==◌, List, [], ◌∷◌, ◌++◌, codes, decimal, map, if◌then◌else◌}
use Rattle.std.specs.Fmt.{signed_decimal}
use Rattle.std.specs.List.{zip}
use Rattle.hex.specs.Hex.{encode_lower}
use Rattle.serde_json.specs.Data.{Data, array, boolean, member, no_members, null, number, object, string, unsigned}
use Rattle.serde_json.specs.View.{items_of}
use Rattle.serde_json.specs.Written.{compact_text}
use Rattle.traceql_tokens.specs.Fixed.{word_text}
use Rattle.traceql_print.specs.Signs.{kind_word, status_word}
use Rattle.traceql_value.specs.Fractions.{Fraction}
use Rattle.traceql_value.specs.declared.value.Value.{Value}
use Rattle.traceql_value.specs.declared.value.Value.TheVariants.{Nil, Truth, Number, Text, Status, Kind}
use Rattle.spanset_eval.specs.declared.results.Hit.{Hit}
use Rattle.spanset_eval.specs.declared.results.SetResult.{SetResult}
use Rattle.spanset_eval.specs.declared.results.TraceResult.{TraceResult}

-- the list of what f gives of each item
abbrev pub list_json : {A : Type 0} → (A → Data) → List A → Data
list_json f xs = array (items_of (map f xs))

-- an object of this one member
abbrev pub only : List ℕ → Data → Data
only key d = object (member key d no_members)

-- a fraction: its numerator with its sign, a slash and its denominator
abbrev pub fraction_text : Fraction → List ℕ
fraction_text r = signed_decimal r.numerator ++ (codes "/" ++ decimal r.denominator)

-- a number: a decimal text where it is whole, else a fraction
unfoldable pub number_json : Fraction → Data
number_json r = if r.denominator == 1 then only (codes "intValue") (string (signed_decimal r.numerator)) else only (codes "ratioValue") (string (fraction_text r))

-- What a field expression is for a span. Statuses and kinds have TraceQL's words.
unfoldable pub value_json : Value → Data
value_json Nil = null
value_json (Truth truth) = only (codes "boolValue") (boolean truth)
value_json (Number r) = number_json r
value_json (Text text) = only (codes "stringValue") (string text)
value_json (Status code) = only (codes "statusValue") (string (word_text (status_word code)))
value_json (Kind kind) = only (codes "kindValue") (string (word_text (kind_word kind)))

-- a text, and null for what is none
abbrev pub text_json : Value → Data
text_json (Text text) = string text
text_json _ = null

-- a selected field, printed, and what it is for a span
unfoldable pub field_json : List ℕ × Value → Data
field_json (field, value) = object (
    member (codes "key") (string field) (
    member (codes "value") (value_json value) no_members))

-- A span. Its fields stand beside the printed ones, one for one.
unfoldable pub hit_json : List (List ℕ) → Hit → Data
hit_json fields h = object (
    member (codes "attributes") (list_json field_json (zip fields h.fields)) (
    member (codes "durationNanos") (string (decimal h.duration)) (
    member (codes "name") (string h.name) (
    member (codes "spanId") (string (encode_lower h.id.0)) (
    member (codes "startTimeUnixNano") (string (decimal h.start)) no_members)))))

-- a spanset: the values by which it was split off, how many spans it has, and those of them that are shown
unfoldable pub set_json : List (List ℕ) → SetResult → Data
set_json fields s = object (
    member (codes "by") (list_json value_json s.by) (
    member (codes "matched") (number (unsigned s.matched)) (
    member (codes "spans") (list_json (hit_json fields) s.spans) no_members)))

-- a trace, and what is left of it
unfoldable pub result_json : List (List ℕ) → TraceResult → Data
result_json fields t = object (
    member (codes "durationNanos") (string (decimal t.duration)) (
    member (codes "rootName") (text_json t.root_name) (
    member (codes "rootService") (text_json t.root_service) (
    member (codes "spanSets") (list_json (set_json fields) t.sets) (
    member (codes "startTimeUnixNano") (string (decimal t.start)) (
    member (codes "traceId") (string (encode_lower t.trace.0)) no_members))))))

-- all traces, in the order in which they stand
unfoldable pub results_json : List (List ℕ) → List TraceResult → Data
results_json fields traces = only (codes "traces") (list_json (result_json fields) traces)

-- the text of a search's results
unfoldable pub results_text : List (List ℕ) → List TraceResult → List ℕ
results_text fields traces = compact_text (results_json fields traces)
