-- What answers for the strings that a query asks for.
use Rattle.std.specs.Prelude.{◌≡◌, ℕ, List, Contains, is_some}
use Rattle.regex.specs.Patterns.{find_str}
use Rattle.traceql_types.specs.declared.pattern.Pattern.{Pattern}
use Rattle.traceql_types.specs.Patterns.{pattern_text, pattern_re}
use Rattle.traceql_types.specs.Whole.{whole_text, IsReadAs}
use Rattle.traceql_value.specs.Meaning.{matches}

-- The pattern is one of the list, made of this string, and `regex` reads it in the string between `\A(?:` and `)\z`. The
-- string matches a text exactly where that reading finds a match in the text.
pub record AnswersFor (ps : List Pattern) (string : List ℕ) (p : Pattern) : Type 0 where
  pub listed : Contains ps p
  pub shows : pattern_text p ≡ string
  pub reading : IsReadAs (whole_text string) (pattern_re p)
  pub answers : (text : List ℕ) → matches ps string text ≡ is_some (find_str (pattern_re p) text 0)

-- a pattern of the list answers for the string
abbrev pub IsAnswered : List Pattern → List ℕ → Type 0
IsAnswered ps string = (p : Pattern) × AnswersFor ps string p
