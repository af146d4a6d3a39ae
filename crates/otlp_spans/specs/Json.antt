-- Looking into a JSON value. Nothing here knows of spans.
use Rattle.std.specs.Prelude.{ℕ, ◌+◌, List, [], ◌∷◌, if◌then◌else◌, Option, Some, None, option_map}
use Rattle.std.specs.Option.{is_some}
use Rattle.std.specs.Str.{is_utf8}
use Rattle.serde_json.specs.Data.{Data, Items, no_items, item}
use Rattle.serde_json.specs.Find.{as_array, as_null, get}
use Rattle.serde_json.specs.Read.{read}

-- The second step, where the first gave a value.
infixl 10 ◌>>=◌
abbrev pub ◌>>=◌ : {A B : Type 0} → Option A → (A → Option B) → Option B
None >>= f = None
Some x >>= f = f x

-- A list that may be absent: then it has no items. A text too.
abbrev pub or_empty : {A : Type 0} → Option (List A) → List A
or_empty None = []
or_empty (Some xs) = xs

-- The value of a text in UTF-8, as serde_json reads it.
unfoldable pub json_of : List ℕ → Option Data
json_of bytes = if is_utf8 bytes then read bytes else None

-- The items of a JSON list, in order.
abbrev pub items_in : Items → List Data
items_in no_items = []
items_in (item d ds) = d ∷ items_in ds

-- The items, where the value is a list.
abbrev pub list_of : Data → Option (List Data)
list_of d = option_map items_in (as_array d)

-- A value that isn't null.
abbrev pub not_null : Data → Option Data
not_null d = if is_some (as_null d) then None else Some d

-- The member of an object: null is as if it weren't there.
abbrev pub member_of : List ℕ → Data → Option Data
member_of name d = get name d >>= not_null

-- The sum of what f gives of each item.
abbrev pub total : {A : Type 0} → (A → ℕ) → List A → ℕ
total f [] = 0
total f (x ∷ xs) = f x + total f xs
