-- Lists and objects of JSON beside what serde_json holds.
use Rattle.std.proofs.Common.{◌≡◌, ℕ, Bool, true, false, cond, List, [], ◌∷◌, Some, None, refl, ap}
use Rattle.std.proofs.lemmas.Str.{IsUtf8-from_is_utf8, is_utf8-from_IsUtf8}
use Rattle.std.specs.Str.{is_utf8, IsUtf8}
use Rattle.serde_json.specs.Read.{read}
use Rattle.serde_json.specs.Data.{Data}
use Rattle.serde_json.specs.View.{items_of}
use Rattle.otlp_spans.specs.Json.{items_in, json_of}

pub items_in-items_of : (ds : List Data) → items_in (items_of ds) ≡ ds
items_in-items_of [] = refl
items_in-items_of (d ∷ ds) = ap (λ (rest : List Data). d ∷ rest) (items_in-items_of ds)

pub ruleset item_lists = items_in-items_of

-- ---- a text's value

pub json_of-some : (bytes : List ℕ) (d : Data) → IsUtf8 bytes × (read bytes ≡ Some d) → json_of bytes ≡ Some d
unfolding json_of
json_of-some bytes d h = rw (is_utf8-from_IsUtf8 bytes h.0) h.1

by_test : (bytes : List ℕ) (b : Bool) → is_utf8 bytes ≡ b → (IsUtf8 bytes → read bytes ≡ None) → cond b (read bytes) None ≡ None
by_test bytes true is h = h (IsUtf8-from_is_utf8 bytes is)
by_test bytes false is h = refl

pub json_of-none : (bytes : List ℕ) → (IsUtf8 bytes → read bytes ≡ None) → json_of bytes ≡ None
unfolding json_of
json_of-none bytes h = by_test bytes (is_utf8 bytes) refl h
