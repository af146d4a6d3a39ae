-- The clauses of a call that parses a text, from what the parser of tokens answers.
use Rattle.std.proofs.Common.{◌≡◌, ℕ, ◌≤◌, List, length, Result, Ok, Err, IfOk, IfErr, MatchResult, refl, subst}
use Rattle.traceql_tokens.specs.Tokens.{AreTokensOf}
use Rattle.traceql_tokens.specs.declared.fixed.Word.{Word}
use Rattle.traceql_tokens.specs.declared.kinds.Token.{Token}
use Rattle.traceql_syntax.specs.declared.errors.ParseError.{ParseError}
use Rattle.traceql_syntax.specs.declared.errors.ParseError.TheVariants as error
use Rattle.span_types.specs.declared.limits.TheConstants.{MOST_QUERY_BYTES}
use Rattle.traceql_syntax.specs.Refusals.{DEPTH, Spelling, IsRefusalOf, ReadsAs}
use Rattle.traceql_parse.specs.Outcome.{Answers, outcome}
use Rattle.traceql_parse.proofs.Laws.{Reader}
use Rattle.traceql_parse.proofs.Parsing.{Parses, outcome_found, outcome_complete, refusal_is}

module _ {X A : Type 0} (view : X → A) (reader : Reader A) (S : Spelling A) (laws : Parses reader S) (words : List Word) (text : List ℕ) (ts : List Token) (lexed : AreTokensOf words 0 text ts) (fits : length text ≤ MOST_QUERY_BYTES) where
  abbrev pub expected : Result A ParseError
  expected = outcome (length text) (reader 63 ts)

  reads : (q : A) → expected ≡ Ok q → ReadsAs words S DEPTH text q
  reads q h = record { tokens = ts; lexed = lexed; spelled = outcome_found reader S laws (length text) 63 q ts h }

  pub parse_found : (r : Result X ParseError) → Answers view r expected → IfOk r (λ q. (length text ≤ MOST_QUERY_BYTES) × ReadsAs words S DEPTH text (view q))
  parse_found (Ok q) h = (fits, reads (view q) h)
  parse_found (Err e) h = tt

  expects : ((us : List Token) → AreTokensOf words 0 text us → us ≡ ts) → (q : A) → ReadsAs words S DEPTH text q → expected ≡ Ok q
  expects once q r = outcome_complete reader S laws (length text) 63 q ts (subst (λ (z : List Token). S 64 q z) (once r.tokens r.lexed) r.spelled)

  only_memory : (e : ParseError) (q : A) → Answers view (Err e) expected → expected ≡ Ok q → e ≡ error.Memory
  only_memory error.Memory q h k = refl
  only_memory (error.TooLong len) q h k = cc
  only_memory (error.BadChar at) q h k = cc
  only_memory (error.Unexpected at) q h k = cc
  only_memory (error.Unended at) q h k = cc
  only_memory (error.NumberRange at) q h k = cc
  only_memory (error.FractionLiteral at) q h k = cc
  only_memory (error.TooDeep at) q h k = cc

  pub parse_complete : ((us : List Token) → AreTokensOf words 0 text us → us ≡ ts) → (r : Result X ParseError) → Answers view r expected → (q : A) → ReadsAs words S DEPTH text q → MatchResult r (λ p. view p ≡ q) (λ e. e ≡ error.Memory)
  parse_complete once (Ok p) h q d = let k : expected ≡ Ok q = expects once q d in cc
  parse_complete once (Err e) h q d = only_memory e q h (expects once q d)

  refusal_of : (e : ParseError) → Answers view (Err e) expected → IsRefusalOf words S text e
  refusal_of error.Memory h = tt
  refusal_of (error.TooLong len) h = refusal_is reader S laws words text ts (error.TooLong len) lexed fits h
  refusal_of (error.BadChar at) h = refusal_is reader S laws words text ts (error.BadChar at) lexed fits h
  refusal_of (error.Unexpected at) h = refusal_is reader S laws words text ts (error.Unexpected at) lexed fits h
  refusal_of (error.Unended at) h = refusal_is reader S laws words text ts (error.Unended at) lexed fits h
  refusal_of (error.NumberRange at) h = refusal_is reader S laws words text ts (error.NumberRange at) lexed fits h
  refusal_of (error.FractionLiteral at) h = refusal_is reader S laws words text ts (error.FractionLiteral at) lexed fits h
  refusal_of (error.TooDeep at) h = refusal_is reader S laws words text ts (error.TooDeep at) lexed fits h

  pub parse_refused : (r : Result X ParseError) → Answers view r expected → IfErr r (λ e. IsRefusalOf words S text e)
  parse_refused (Ok q) h = tt
  parse_refused (Err e) h = refusal_of e h
