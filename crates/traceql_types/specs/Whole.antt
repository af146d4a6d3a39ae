-- Texts that `regex` reads as patterns, and texts as patterns of the whole text.
use Rattle.std.specs.Prelude.{◌≡◌, ◌<◌, ◌≤◌, ◌⊎◌, ℕ, List, ◌++◌, codes, chars, IfSome, IsSomeAnd}
use Rattle.std.proofs.Props.{props}
use Rattle.regex.specs.Patterns.{Re, default_config, Reads}
use Rattle.regex.specs.declared.string.regex.Regex.{Regex}
use Rattle.regex.specs.Strings.{regex_source, regex_config, regex_pattern, IsReadFromSource}
use Rattle.regex_syntax.specs.Captures.{SameCaptures}
use Rattle.regex_syntax.specs.Grammar.{read}

-- the pattern that matches where the given one matches a whole text
abbrev pub whole_text : List ℕ → List ℕ
whole_text text = codes "\\A(?:" ++ text ++ codes ")\\z"

-- `regex` reads a pattern from the text, which nests no deeper than `regex` allows.
abbrev pub IsReadable : List ℕ → Type 0
IsReadable text = IsSomeAnd (read default_config (chars text)) (λ (re, names). re.depth ≤ default_config.nest_limit)

-- `regex` reads no pattern from the text, or one that nests deeper than `regex` allows.
abbrev pub IsUnreadable : List ℕ → Type 0
IsUnreadable text = IfSome (read default_config (chars text)) (λ (re, names). default_config.nest_limit < re.depth)

-- the text is no pattern, by itself or as a pattern of the whole text
abbrev pub IsNoPattern : List ℕ → Type 0
IsNoPattern text = IsUnreadable text ⊎ IsUnreadable (whole_text text)

-- `regex`, with its options as they are at first, reads the text as this regular expression
abbrev pub IsReadAs : List ℕ → Re → Type 0
IsReadAs text re =
    (r : Regex) × (regex_source r ≡ text) × (regex_config r ≡ default_config) × IsReadFromSource r × (regex_pattern r ≡ re)

pub readable-prop : (text : List ℕ) → IsProp (IsReadable text)
readable-prop text = hlevel props

-- two patterns have the same captures in one way at most, and so a reading is one of its text in one way at most
same-prop : (a b : Re) → IsProp (SameCaptures a b)
same-prop a b = hlevel props

pub read-prop : (r : Regex) → IsProp (IsReadFromSource r)
unfolding Reads
read-prop r = hlevel (props, same-prop)
