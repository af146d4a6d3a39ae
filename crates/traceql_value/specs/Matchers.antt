-- Private mechanism. What the patterns that are ready to search answer.
use Rattle.std.specs.Prelude.{◌≡◌, ℕ, ◌<◌, Bool, false, List, [], ◌∷◌, length, map, Option, Some, None, All, IfSome, is_some, slice_get, ◌==◌, if◌then◌else◌}
use Rattle.std.specs.BTreeMap.{BTreeMap, get_by}
use Rattle.std.specs.Cmp.Lexicographic.{slice_cmp}
use Rattle.std.specs.Option.{option_and_then, option_map, option_map_or, option_or}
use Rattle.std.specs.Ordering.{nat_cmp}
use Rattle.std.specs.Str.{bytes_eq}
use Rattle.regex.specs.Patterns.{Re, find_str}
use Rattle.regex.specs.Strings.{matcher_pattern}
use Rattle.traceql_types.specs.Asked.{PlacedText}
use Rattle.traceql_types.specs.declared.pattern.Pattern.{Pattern}
use Rattle.traceql_types.specs.Patterns.{pattern_text, pattern_re}
use Rattle.traceql_value.specs.declared.matchers.Search.{Search}
use Rattle.traceql_value.specs.Meaning.{matches}
use denote.Ref.{Bor}

-- whether there is a match in the text
abbrev pub finds : Re → List ℕ → Bool
finds re text = is_some (find_str re text 0)

-- the regular expression of the first pattern of this string
abbrev pub first_re : List Pattern → List ℕ → Option Re
first_re [] string = None
first_re (p ∷ ps) string = if bytes_eq (pattern_text p) string then Some (pattern_re p) else first_re ps string

-- a search: the string whose pattern it is for, and the regular expression that it looks for
abbrev pub Known : Type 0
Known = List ℕ × Re

abbrev pub known : Search → Known
known s = (s.string.now, matcher_pattern s.matcher)

abbrev pub all_known : List Search → List Known
all_known = map known

-- the search for a regular expression, if there is one, under this string
abbrev pub with_string : List ℕ → Option Re → Option Known
with_string string None = None
with_string string (Some re) = Some (string, re)

-- the numbers of searches by their strings
abbrev pub Numbers : Type 0
Numbers = BTreeMap (Bor (List ℕ)) ℕ

-- the number of this string's search
abbrev pub number_of : Numbers → List ℕ → Option ℕ
number_of numbers string = get_by (λ k. slice_cmp nat_cmp string k.now) numbers

-- this string's search
abbrev pub search_of : List Known → Numbers → List ℕ → Option Known
search_of searches numbers string = option_and_then (slice_get searches) (number_of numbers string)

-- whether the search of this number finds a match in the text
abbrev pub found_at : List Known → Option ℕ → List ℕ → Bool
found_at searches number text = option_map_or (λ k. finds k.1 text) (option_and_then (slice_get searches) number) false

-- whether the search of this number is this string's
abbrev pub is_search_of : List Known → ℕ → List ℕ → Bool
is_search_of searches number string = option_map_or (λ k. bytes_eq k.0 string) (slice_get searches number) false

-- Each string's search looks for the first pattern of that string, and there is one just where there is such a pattern.
pub record AreSearches (ps : List Pattern) (searches : List Known) (numbers : Numbers) : Type 0 where
  pub first : (string : List ℕ) → search_of searches numbers string ≡ with_string string (first_re ps string)
  pub numbered : (string : List ℕ) → IfSome (number_of numbers string) (λ n. n < length searches)
  pub each : All (λ k. first_re ps k.0 ≡ Some k.1) searches

-- each string's search finds in each text what its pattern does
abbrev pub SearchFor : List Known → Numbers → List Pattern → Type 0
SearchFor searches numbers ps = (string text : List ℕ) → found_at searches (number_of numbers string) text ≡ matches ps string text

-- and so does each search of the list
abbrev pub EachSearchesFor : List Known → List Pattern → Type 0
EachSearchesFor searches ps = All (λ k. (text : List ℕ) → finds k.1 text ≡ matches ps k.0 text) searches

-- the number of the search to which a place leads
abbrev pub number_at : BTreeMap ℕ ℕ → ℕ → Option ℕ
number_at places at = get_by (λ k. nat_cmp at k) places

-- the number that the last of these strings at the place has
abbrev pub last_number : (List ℕ → Option ℕ) → List PlacedText → ℕ → Option ℕ
last_number numbers [] at = None
last_number numbers (m ∷ ms) at = option_or (last_number numbers ms at) (if m.0 == at then numbers m.1 else None)

-- the string of the search to which a place leads
abbrev pub string_at : List Known → BTreeMap ℕ ℕ → ℕ → Option (List ℕ)
string_at searches places at = option_map (λ k. k.0) (option_and_then (slice_get searches) (number_at places at))
