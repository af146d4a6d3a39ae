-- What clauses see of a pattern.
use Rattle.std.specs.Prelude.{ℕ, List}
use Rattle.regex.specs.Patterns.{Re}
use Rattle.regex.specs.Strings.{regex_pattern}
use Rattle.traceql_types.specs.declared.pattern.Pattern.{Pattern}

-- the text that it was made of
abbrev pub pattern_text : Pattern → List ℕ
pattern_text p = p.text

-- the regular expression that is looked for in a text: the pattern, from the text's start to its end
abbrev pub pattern_re : Pattern → Re
pattern_re p = regex_pattern p.regex
