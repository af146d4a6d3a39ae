-- No value that is written has a float.
use Rattle.std.proofs.Common.{◌≡◌, ℕ, Bool, true, false, List, [], ◌∷◌, ◌==◌, map, refl, ap, ◌∙◌}
use Rattle.std.specs.Prelude.{if◌then◌else◌}
use Rattle.std.specs.List.{zip}
use Rattle.serde_json.specs.Data.{Data, null, string}
use Rattle.serde_json.specs.View.{items_of}
use Rattle.serde_json.specs.Written.{compact_text, has_float, items_have_float}
use Rattle.traceql_value.specs.Fractions.{Fraction}
use Rattle.traceql_value.specs.declared.value.Value.{Value}
use Rattle.traceql_value.specs.declared.value.Value.TheVariants.{Nil, Truth, Number, Text, Status, Kind}
use Rattle.spanset_eval.specs.declared.results.Hit.{Hit}
use Rattle.spanset_eval.specs.declared.results.SetResult.{SetResult}
use Rattle.spanset_eval.specs.declared.results.TraceResult.{TraceResult}
use Rattle.search_text.specs.Results.{field_json, hit_json, list_json, number_json, result_json, results_json, results_text, set_json, text_json, value_json}

items_plain : {A : Type 0} (f : A → Data) → ((x : A) → has_float (f x) ≡ false) → (xs : List A) → items_have_float (items_of (map f xs)) ≡ false
items_plain f plain [] = refl
items_plain f plain (x ∷ xs) = rw (plain x) (items_plain f plain xs)

pub list_plain : {A : Type 0} (f : A → Data) → ((x : A) → has_float (f x) ≡ false) → (xs : List A) → has_float (list_json f xs) ≡ false
list_plain f plain xs = items_plain f plain xs

pub either : (b : Bool) (x y : Data) → has_float x ≡ false → has_float y ≡ false → has_float (if b then x else y) ≡ false
either true x y of_x of_y = of_x
either false x y of_x of_y = of_y

number_plain : (r : Fraction) → has_float (number_json r) ≡ false
unfolding number_json
number_plain r = either (r.denominator == 1) _ _ refl refl

pub value_plain : (v : Value) → has_float (value_json v) ≡ false
unfolding value_json
value_plain Nil = refl
value_plain (Truth truth) = refl
value_plain (Number r) = number_plain r
value_plain (Text text) = refl
value_plain (Status code) = refl
value_plain (Kind kind) = refl

text_plain : (v : Value) → has_float (text_json v) ≡ false
text_plain Nil = refl
text_plain (Truth truth) = refl
text_plain (Number r) = refl
text_plain (Text text) = refl
text_plain (Status code) = refl
text_plain (Kind kind) = refl

field_plain : (f : List ℕ × Value) → has_float (field_json f) ≡ false
unfolding field_json
field_plain (name, v) = rw (value_plain v) refl

hit_plain : (fields : List (List ℕ)) (h : Hit) → has_float (hit_json fields h) ≡ false
unfolding hit_json
hit_plain fields h = rw (list_plain field_json field_plain (zip fields h.fields)) refl

set_plain : (fields : List (List ℕ)) (s : SetResult) → has_float (set_json fields s) ≡ false
unfolding set_json
set_plain fields s = rw (list_plain value_json value_plain s.by, list_plain (hit_json fields) (hit_plain fields) s.spans) refl

result_plain : (fields : List (List ℕ)) (t : TraceResult) → has_float (result_json fields t) ≡ false
unfolding result_json
result_plain fields t = rw (text_plain t.root_name, text_plain t.root_service, list_plain (set_json fields) (set_plain fields) t.sets) refl

results_plain : (fields : List (List ℕ)) (traces : List TraceResult) → has_float (results_json fields traces) ≡ false
unfolding results_json
results_plain fields traces = rw (list_plain (result_json fields) (result_plain fields) traces) refl

-- What is written for a value that is a search's is the search's text.
pub written : (fields : List (List ℕ)) (traces : List TraceResult) (d : Data) (text : List ℕ) → d ≡ results_json fields traces
    → (has_float d ≡ false → text ≡ compact_text d) → text ≡ results_text fields traces
unfolding results_text
written fields traces d text is printed = printed (ap has_float is ∙ results_plain fields traces) ∙ ap compact_text is
