-- What a text stands for, and why it is refused where it stands for nothing.
use Rattle.std.specs.Prelude.{◌≡◌, ◌≢◌, ℕ, suc, ◌<◌, ◌≤◌, List, [], ◌∷◌, ◌++◌, length, Some}
use Rattle.span_types.specs.declared.limits.TheConstants.{MOST_QUERY_BYTES}
use Rattle.traceql_tokens.specs.Tokens.{AreTokensOf, mended, fault_of, query_words, metrics_words}
use Rattle.traceql_tokens.specs.declared.fixed.Word.{Word}
use Rattle.traceql_tokens.specs.declared.kinds.Fault.{Fault}
use Rattle.traceql_tokens.specs.declared.kinds.Fault.TheVariants as fault
use Rattle.traceql_tokens.specs.declared.kinds.Token.{Token}
use Rattle.traceql_tokens.specs.declared.kinds.TokenKind.TheVariants as token
use Rattle.traceql_syntax.specs.declared.errors.ParseError.{ParseError}
use Rattle.traceql_syntax.specs.declared.errors.ParseError.TheVariants as error
use Rattle.traceql_syntax.specs.Grammar.{SpellsQuery, SpellsMetrics}
use Rattle.traceql_syntax.specs.Trees.{QueryTree, MetricsTree, bare_query}

-- how many constructs may be open at one place
abbrev pub DEPTH : ℕ
DEPTH = 64

-- A grammar: the tokens spell this tree, with at most so many constructs open at one place.
abbrev pub Spelling : Type 0 → Type 1
Spelling A = ℕ → A → List Token → Type 0

-- the text is this tree, each part with its place, with at most so many constructs open at one place
pub record ReadsAs {A : Type 0} (words : List Word) (Spelled : Spelling A) (depth : ℕ) (text : List ℕ) (x : A) : Type 0 where
  pub tokens : List Token
  pub lexed : AreTokensOf words 0 text tokens
  pub spelled : Spelled depth x tokens

-- the text is this query
abbrev pub Reads : ℕ → List ℕ → QueryTree → Type 0
Reads depth text q = ReadsAs query_words SpellsQuery depth text q

-- The text is a query that equals this one: the grammar's relation between texts and queries, which knows no limit
-- and no places.
abbrev pub Means : List ℕ → QueryTree → Type 0
Means text q = (depth : ℕ) × (placed : QueryTree) × Reads depth text placed × (bare_query placed ≡ bare_query q)

-- the tokens begin what the grammar spells, with at most so many constructs open at one place
abbrev pub Begins : {A : Type 0} → Spelling A → ℕ → List Token → Type 0
Begins {A} Spelled depth front = (x : A) × (more : List Token) × Spelled depth x (front ++ more)

-- the token without its fault
abbrev pub healed : Token → Token
healed t = record { at = t.at; kind = mended t.kind }

-- the refusal of a token with a fault, which is at the token's first byte unless the fault has a place of its own
abbrev pub fault_error : ℕ → Fault → ParseError
fault_error at fault.NumberRange = error.NumberRange at
fault_error at fault.FractionLiteral = error.FractionLiteral at
fault_error at (fault.Unended quote) = error.Unended quote
fault_error at (fault.UnknownEscape backslash) = error.BadChar backslash

-- Why a token is refused after tokens that begin a sentence: it begins no token at all; no sentence whatever its depth
-- goes on with it, even without its fault; a sentence goes on with it, but for its fault; or only a deeper one does.
pub data Blames {A : Type 0} (Spelled : Spelling A) (depth : ℕ) (front : List Token) (t : Token) : ParseError → Type 0 where
  unknown : t.kind ≡ token.Unknown → Blames Spelled depth front t (error.BadChar t.at)
  unexpected : t.kind ≢ token.Unknown → ((d : ℕ) → Begins Spelled d (front ++ healed t ∷ []) → ⊥) → Blames Spelled depth front t (error.Unexpected t.at)
  faulty : {f : Fault} → fault_of t.kind ≡ Some f → Begins Spelled depth (front ++ healed t ∷ []) → Blames Spelled depth front t (fault_error t.at f)
  deep : (Begins Spelled depth (front ++ healed t ∷ []) → ⊥) → Begins Spelled (suc depth) (front ++ healed t ∷ []) → Blames Spelled depth front t (error.TooDeep t.at)

-- Why a text of this length is refused after its first tokens: it ends there and is no sentence yet, or the next token
-- is refused.
abbrev pub IsCause : {A : Type 0} → Spelling A → ℕ → ℕ → List Token → List Token → ParseError → Type 0
IsCause {A} Spelled depth len front [] why = (why ≡ error.Unended len) × ((x : A) → Spelled depth x front → ⊥)
IsCause Spelled depth len front (t ∷ rest) why = Blames Spelled depth front t why

-- The text is refused for this cause: its first tokens begin a sentence, and after them it is refused. That is the
-- earliest place, since what is before it is no cause.
pub record Refuses {A : Type 0} (words : List Word) (Spelled : Spelling A) (depth : ℕ) (text : List ℕ) (why : ParseError) : Type 0 where
  pub front : List Token
  pub rest : List Token
  pub lexed : AreTokensOf words 0 text (front ++ rest)
  pub begun : Begins Spelled depth front
  pub cause : IsCause Spelled depth (length text) front rest why

-- The refusal is right: out of memory, a text that is too long, or else the refusal of the earliest place.
abbrev pub IsRefusalOf : {A : Type 0} → List Word → Spelling A → List ℕ → ParseError → Type 0
IsRefusalOf words Spelled text error.Memory = Unit {0}
IsRefusalOf words Spelled text (error.TooLong len) = (MOST_QUERY_BYTES < length text) × (len ≡ length text)
IsRefusalOf words Spelled text why = (length text ≤ MOST_QUERY_BYTES) × Refuses words Spelled DEPTH text why

-- the refusal of a text that is no query
abbrev pub IsRefusal : List ℕ → ParseError → Type 0
IsRefusal text why = IsRefusalOf query_words SpellsQuery text why

-- Metrics queries.

abbrev pub ReadsMetrics : ℕ → List ℕ → MetricsTree → Type 0
ReadsMetrics depth text m = ReadsAs metrics_words SpellsMetrics depth text m

-- the refusal of a text that is no metrics query
abbrev pub IsMetricsRefusal : List ℕ → ParseError → Type 0
IsMetricsRefusal text why = IsRefusalOf metrics_words SpellsMetrics text why
