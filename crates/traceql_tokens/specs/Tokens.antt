-- What the tokens of a text are.
use Rattle.std.specs.Prelude.{◌≡◌, ◌≢◌, ℕ, ◌+◌, ◌<◌, ◌≤◌, true, false, List, [], ◌∷◌, ◌++◌, length, Contains, Option, Some, None, Result, Ok, Err, ◌⊎◌}
use Rattle.std.specs.List.{list_all}
use Rattle.traceql_tokens.specs.Bytes.{is_blank, IsBlank, is_name_byte, decimal}
use Rattle.traceql_tokens.specs.Fixed.{sign_text, word_text, intrinsic_text, scope_text}
use Rattle.traceql_tokens.specs.Strings.{IsString}
use Rattle.traceql_tokens.specs.Numbers.{LIMIT, IsDigitRun, IsBareDecimal, Part, IsDuration, AreNanos, AreTooMany}
use Rattle.traceql_tokens.specs.declared.fixed.AttributeScope.{AttributeScope}
use Rattle.traceql_tokens.specs.declared.fixed.AttributeScope.TheVariants as scope
use Rattle.traceql_tokens.specs.declared.fixed.Word.{Word}
use Rattle.traceql_tokens.specs.declared.kinds.Class.{Class}
use Rattle.traceql_tokens.specs.declared.kinds.Class.TheVariants as class
use Rattle.traceql_tokens.specs.declared.kinds.Fault.{Fault}
use Rattle.traceql_tokens.specs.declared.kinds.Fault.TheVariants as fault
use Rattle.traceql_tokens.specs.declared.kinds.Token.{Token}
use Rattle.traceql_tokens.specs.declared.kinds.TokenKind.{TokenKind}
use Rattle.traceql_tokens.specs.declared.kinds.TokenKind.TheVariants as token
use Rattle.traceql_tokens.specs.declared.tables.TheConstants.{WORDS, METRICS_WORDS}

-- the text is a name that begins at this place: a run of bytes that may stand in one, or a string
abbrev pub IsName : ℕ → List ℕ → Result (List ℕ) Fault → Type 0
IsName at text (Ok name) = ((text ≡ name) × (list_all is_name_byte name ≡ true)) ⊎ IsString at text (Ok name)
IsName at text (Err f) = IsString at text (Err f)

-- the text is an attribute that begins at this place: its scope and directly its name
pub record IsAttribute (at : ℕ) (text : List ℕ) (scope : AttributeScope) (name : Result (List ℕ) Fault) : Type 0 where
  pub rest : List ℕ
  pub written : text ≡ scope_text scope ++ rest
  pub named : IsName (at + length (scope_text scope)) rest name

-- the text is a token of this class that begins at this place, and has this fault
abbrev pub IsBroken : ℕ → List ℕ → Class → Fault → Type 0
IsBroken at text class.Quoted f = IsString at text (Err f)
IsBroken at text class.Attribute f = (scope : AttributeScope) × IsAttribute at text scope (Err f)
IsBroken at text class.Number fault.NumberRange = IsDigitRun text × (LIMIT ≤ decimal text)
IsBroken at text class.Number fault.FractionLiteral = IsBareDecimal text
IsBroken at text class.Number _ = ⊥
IsBroken at text class.Duration fault.NumberRange = (ps : List Part) × IsDuration text ps × AreTooMany ps
IsBroken at text class.Duration fault.FractionLiteral = (ps : List Part) × IsDuration text ps × (AreTooMany ps → ⊥) × ((n : ℕ) → AreNanos ps n → ⊥)
IsBroken at text class.Duration _ = ⊥

-- A language has these words, and no others.
module _ (words : List Word) where
  -- the text is this token, beginning at this place
  unfoldable pub IsTokenOf : ℕ → List ℕ → TokenKind → Type 0
  IsTokenOf at text (token.Mark s) = text ≡ sign_text s
  IsTokenOf at text (token.Keyword w) = (text ≡ word_text w) × Contains words w
  IsTokenOf at text (token.Builtin i) = text ≡ intrinsic_text i
  IsTokenOf at text (token.Named scope name) = (name ≢ []) × IsAttribute at text scope (Ok name)
  IsTokenOf at text token.Nameless = (scope : AttributeScope) × IsAttribute at text scope (Ok [])
  IsTokenOf at text (token.Quoted value) = IsString at text (Ok value)
  IsTokenOf at text (token.Number n) = IsDigitRun text × (n ≡ decimal text) × (n < LIMIT)
  IsTokenOf at text (token.Duration n) = (ps : List Part) × IsDuration text ps × AreNanos ps n × (n < LIMIT)
  IsTokenOf at text (token.Broken c f) = IsBroken at text c f
  IsTokenOf at text token.Unknown = ⊥

  -- what is left begins with this token, and with no longer one
  pub record TakesOf (at : ℕ) (left : List ℕ) (kind : TokenKind) (word rest : List ℕ) : Type 0 where
    pub parted : left ≡ word ++ rest
    pub is : IsTokenOf at word kind
    pub longest : (other more : List ℕ) (k : TokenKind) → left ≡ other ++ more → IsTokenOf at other k → length other ≤ length word

  -- what is left begins with a byte that isn't white space, and with no token
  pub record BeginsNoneOf (at : ℕ) (left : List ℕ) : Type 0 where
    pub first : ℕ
    pub others : List ℕ
    pub parted : left ≡ first ∷ others
    pub solid : is_blank first ≡ false
    pub none : (other more : List ℕ) (k : TokenKind) → left ≡ other ++ more → IsTokenOf at other k → ⊥

  -- The text, whose first byte has this place, has these tokens: white space, and either nothing more, or the longest
  -- token and then the tokens of the rest, or a byte that begins no token, which ends the list.
  unfoldable pub AreTokensOf : ℕ → List ℕ → List Token → Type 0
  AreTokensOf at text [] = IsBlank text
  AreTokensOf at text (t ∷ ts) =
      (blanks left : List ℕ) × IsBlank blanks × (text ≡ blanks ++ left) × (t.at ≡ at + length blanks)
      × (((word rest : List ℕ) × TakesOf t.at left t.kind word rest × AreTokensOf (t.at + length word) rest ts) ⊎ ((t.kind ≡ token.Unknown) × BeginsNoneOf t.at left × (ts ≡ [])))

-- the words of a query, and those of a metrics query, by names that other crates can use
abbrev pub query_words : List Word
query_words = WORDS

abbrev pub metrics_words : List Word
metrics_words = METRICS_WORDS

-- the same in a query, which has the words of `WORDS`
abbrev pub IsToken : ℕ → List ℕ → TokenKind → Type 0
IsToken = IsTokenOf WORDS

abbrev pub AreTokens : ℕ → List ℕ → List Token → Type 0
AreTokens = AreTokensOf WORDS

-- the token without its fault: some token of its class
abbrev pub mended : TokenKind → TokenKind
mended (token.Broken class.Quoted f) = token.Quoted []
mended (token.Broken class.Number f) = token.Number 0
mended (token.Broken class.Duration f) = token.Duration 0
mended (token.Broken class.Attribute f) = token.Named scope.Any []
mended (token.Mark s) = token.Mark s
mended (token.Keyword w) = token.Keyword w
mended (token.Builtin i) = token.Builtin i
mended (token.Named s name) = token.Named s name
mended (token.Quoted value) = token.Quoted value
mended (token.Number n) = token.Number n
mended (token.Duration n) = token.Duration n
mended token.Nameless = token.Nameless
mended token.Unknown = token.Unknown

-- what is wrong with it
abbrev pub fault_of : TokenKind → Option Fault
fault_of (token.Broken c f) = Some f
fault_of _ = None
