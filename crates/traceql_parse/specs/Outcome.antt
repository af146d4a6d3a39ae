-- Private mechanism. What parsing answers, given what was read.
use Rattle.std.specs.Prelude.{◌≡◌, ℕ, List, [], ◌∷◌, Result, Ok, Err}
use Rattle.traceql_tokens.specs.declared.kinds.Token.{Token}
use Rattle.traceql_tokens.specs.declared.kinds.TokenKind.{TokenKind}
use Rattle.traceql_tokens.specs.declared.kinds.TokenKind.TheVariants as token
use Rattle.traceql_syntax.specs.declared.errors.ParseError.{ParseError}
use Rattle.traceql_syntax.specs.declared.errors.ParseError.TheVariants as error
use Rattle.traceql_syntax.specs.Refusals.{fault_error}
use Rattle.traceql_parse.specs.declared.stop.Cause.{Cause}
use Rattle.traceql_parse.specs.declared.stop.Cause.TheVariants as cause
use Rattle.traceql_parse.specs.Reading.{Answer}

-- the refusal of a token for a cause
abbrev pub token_error : Cause → ℕ → TokenKind → ParseError
token_error why at token.Unknown = error.BadChar at
token_error cause.Faulty at (token.Broken c f) = fault_error at f
token_error cause.TooDeep at k = error.TooDeep at
token_error _ at k = error.Unexpected at

-- the refusal of the tokens from one on, or of the text's end
abbrev pub error_of : Cause → ℕ → List Token → ParseError
error_of why len [] = error.Unended len
error_of why len (t ∷ ts) = token_error why t.at t.kind

-- what was read is all of the tokens
abbrev pub outcome : {A : Type 0} → ℕ → Answer A → Result A ParseError
outcome len (Ok (x, [])) = Ok x
outcome len (Ok (x, (t ∷ ts))) = Err (token_error cause.Unexpected t.at t.kind)
outcome len (Err (why, rest)) = Err (error_of why len rest)

-- the code, seen by view, answers so, unless memory ran out
abbrev pub Answers : {X A : Type 0} → (X → A) → Result X ParseError → Result A ParseError → Type 0
Answers view (Ok x) expected = expected ≡ Ok (view x)
Answers view (Err error.Memory) expected = Unit {0}
Answers view (Err e) expected = expected ≡ Err e
