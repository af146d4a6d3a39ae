-- Private mechanism. The text so far, as the printer's own functions see it.
use Rattle.std.specs.Prelude.{ℕ, Bool, true, List, [], ◌++◌}
use Rattle.std.specs.List.{fold}
use Rattle.traceql_tokens.specs.declared.kinds.TokenKind.{TokenKind}
use Rattle.traceql_print.specs.Text.{gap, kind_text, opens, closes}

-- what is printed, and whether the next token stands at it without a space
pub record Printer : Type 0 where
  pub text : List ℕ
  pub tight : Bool

-- what stands before a token is printed
abbrev pub spaced : Printer → (closing : Bool) → Printer
spaced s closing = record { text = s.text ++ gap s.tight closing; tight = s.tight }

-- one token more
unfoldable pub put : Printer → TokenKind → Printer
put s k = record { text = s.text ++ (gap s.tight (closes k) ++ kind_text k); tight = opens k }

-- several tokens more
unfoldable pub put_all : Printer → List TokenKind → Printer
put_all s ks = fold put s ks

abbrev pub blank : Printer
blank = record { text = []; tight = true }
