-- Private mechanism. What the parser's functions read from the front of a list of tokens.
use Rattle.std.specs.Prelude.{ℕ, zero, suc, Bool, true, false, List, [], ◌∷◌, ◌++◌, Option, Some, None, option_map, is_some, if◌then◌else◌, Ok, Err}
use Rattle.traceql_tokens.specs.declared.fixed.Sign.{Sign}
use Rattle.traceql_tokens.specs.declared.fixed.Word.{Word}
use Rattle.traceql_tokens.specs.declared.fixed.Word.TheVariants as word
use Rattle.traceql_tokens.specs.declared.kinds.Token.{Token}
use Rattle.traceql_tokens.specs.declared.kinds.TokenKind.{TokenKind}
use Rattle.traceql_tokens.specs.declared.kinds.TokenKind.TheVariants as token
use Rattle.traceql_syntax.specs.declared.field.BinaryOp.{BinaryOp}
use Rattle.traceql_syntax.specs.declared.field.BinaryOp.TheVariants as binary
use Rattle.traceql_syntax.specs.declared.field.Field.{Field}
use Rattle.traceql_syntax.specs.declared.field.Level.{Level}
use Rattle.traceql_syntax.specs.declared.field.Level.TheVariants as level
use Rattle.traceql_syntax.specs.declared.field.Literal.{Literal}
use Rattle.traceql_syntax.specs.declared.query.SpansetLevel.{SpansetLevel}
use Rattle.traceql_syntax.specs.declared.query.SpansetLevel.TheVariants as set_level
use Rattle.traceql_syntax.specs.declared.query.SpansetOp.{SpansetOp}
use Rattle.traceql_syntax.specs.Trees.{Literally, Asks, Unary, Binary, Match, Placed, SetTree, Filter, Join, AggregateTree, Count, Of, ThresholdTree, Aggregate, StageTree, Keep, By, Coalesce, Select, Compare, QueryTree}
use Rattle.traceql_syntax.specs.Tables.{prefix_sign, comparison_sign, level_sign, pattern_sign, set_sign, aggregate_word, literal_of, field_of, measure_of}
use Rattle.traceql_parse.specs.Reading.{Answer, ◌>>=◌, next_sign, next_word, expect_sign, expect_word, expect, begins, delimits, items}
use Rattle.traceql_parse.specs.declared.stop.Cause.TheVariants as cause
use Rattle.traceql_parse.specs.declared.lookahead.AggregateWord.{AggregateWord}
use Rattle.traceql_parse.specs.declared.lookahead.AggregateWord.TheVariants as aggregate
use Rattle.traceql_parse.specs.declared.lookahead.Delimiter.TheVariants as delimiter
use Rattle.traceql_parse.specs.declared.lookahead.ItemSign.{ItemSign}
use Rattle.traceql_parse.specs.declared.lookahead.ItemSign.TheVariants as item_sign
use Rattle.traceql_parse.specs.declared.lookahead.StageSign.{StageSign}
use Rattle.traceql_parse.specs.declared.lookahead.StageSign.TheVariants as stage_sign

-- what is read with one construct more open
pub record Readers : Type 0 where
  pub prefixed : List Token → Answer Placed
  pub powered : List Token → Answer Placed
  pub whole : List Token → Answer Placed

-- one construct more is open, or too many are
abbrev pub enter : {R A : Type 0} → Option R → List Token → (R → Answer A) → Answer A
enter None ts next = Err (cause.TooDeep, ts)
enter (Some b) ts next = next b

-- a literal or a field, and its place
abbrev pub leaf_or : ℕ → Option Literal → Option Field → Option Placed
leaf_or at (Some x) f = Some (at, Literally at x)
leaf_or at None (Some f) = Some (at, Asks at f)
leaf_or at None None = None

abbrev pub leaf_at : ℕ → TokenKind → Option Placed
leaf_at at k = leaf_or at (literal_of k) (field_of k)

abbrev pub quoted_at : ℕ → TokenKind → Option (ℕ × List ℕ)
quoted_at at (token.Quoted text) = Some (at, text)
quoted_at at _ = None

abbrev pub field_at : ℕ → TokenKind → Option Field
field_at at k = field_of k

abbrev pub measure_at : Bool → ℕ → TokenKind → Option ThresholdTree
measure_at negative at k = measure_of negative at k

unfoldable pub parens : Option Readers → List Token → Answer Placed
parens below ts = do
  o ← expect_sign (delimits delimiter.OpenParen) ts
  e ← enter below ts (λ b. b.whole o.1)
  c ← expect_sign (delimits delimiter.CloseParen) e.1
  Ok ((o.0.0, e.0.1), c.1)

unfoldable pub atom : Option Readers → List Token → Answer Placed
atom below ts = if begins delimiter.OpenParen ts then parens below ts else expect leaf_at ts

unfoldable pub prefix : Option Readers → List Token → Answer Placed
prefix below ts = do
  o ← expect_sign prefix_sign ts
  e ← enter below ts (λ b. b.prefixed o.1)
  Ok ((o.0.0, Unary o.0.0 o.0.1 e.0.0 e.0.1), e.1)

unfoldable pub prefixed : Option Readers → List Token → Answer Placed
prefixed below ts = if is_some (next_sign prefix_sign ts) then prefix below ts else atom below ts

unfoldable pub exponent : Option Readers → List Token → Answer (ℕ × Placed)
exponent below ts = do
  o ← expect_sign (delimits delimiter.Caret) ts
  e ← enter below ts (λ b. b.powered o.1)
  Ok ((o.0.0, e.0), e.1)

abbrev pub raised : Placed → ℕ × Placed → Placed
raised a x = (a.0, Binary x.0 binary.Power a.0 a.1 x.1.0 x.1.1)

unfoldable pub powered : Option Readers → List Token → Answer Placed
powered below ts = do
  a ← prefixed below ts
  if begins delimiter.Caret a.1 then (exponent below a.1 >>= λ x. Ok (raised a.0 x.0, x.1)) else Ok a

-- an operator of a level with its right side: an operand, or a pattern
pub data Item : Type 0 where
  Operator : (at : ℕ) → BinaryOp → Placed → Item
  Pattern : (at : ℕ) → (negated : Bool) → (pattern_at : ℕ) → (pattern : List ℕ) → Item

abbrev pub join : Placed → Item → Placed
join a (Operator at op b) = (a.0, Binary at op a.0 a.1 b.0 b.1)
join a (Pattern at negated pattern_at pattern) = (a.0, Match at negated a.0 a.1 pattern_at pattern)

abbrev pub or_else : {V : Type 0} → Option V → Option V → Option V
or_else (Some v) other = Some v
or_else None other = other

-- the signs after which an item of a level stands
abbrev pub item_sign_of : Level → Sign → Option ItemSign
item_sign_of level.Product s = option_map item_sign.Operator (level_sign level.Product s)
item_sign_of level.Sum s = option_map item_sign.Operator (level_sign level.Sum s)
item_sign_of level.Comparison s = or_else (option_map item_sign.Pattern (pattern_sign s)) (option_map item_sign.Operator (level_sign level.Comparison s))
item_sign_of level.Choice s = option_map item_sign.Operator (level_sign level.Choice s)

abbrev pub right_side : (List Token → Answer Placed) → ℕ → ItemSign → List Token → Answer Item
right_side operand at (item_sign.Operator op) ts = operand ts >>= λ e. Ok (Operator at op e.0, e.1)
right_side operand at (item_sign.Pattern negated) ts = expect quoted_at ts >>= λ p. Ok (Pattern at negated p.0.0 p.0.1, p.1)

unfoldable pub item : Level → (List Token → Answer Placed) → List Token → Answer Item
item l operand ts = expect_sign (item_sign_of l) ts >>= λ o. right_side operand o.0.0 o.0.1 o.1

abbrev pub goes_on : Level → List Token → Bool
goes_on l ts = is_some (next_sign (item_sign_of l) ts)

unfoldable pub more : Level → (List Token → Answer Placed) → Placed → List Token → Answer Placed
more l operand a ts = items (goes_on l) (item l operand) join a ts

abbrev pub group : Level → (List Token → Answer Placed) → List Token → Answer Placed
group l operand ts = operand ts >>= λ a. more l operand a.0 a.1

-- what stands between the operators of a level
unfoldable pub operand_of : Option Readers → Level → List Token → Answer Placed
operand_of below level.Product = powered below
operand_of below level.Sum = group level.Product (powered below)
operand_of below level.Comparison = group level.Sum (group level.Product (powered below))
operand_of below level.Choice = group level.Comparison (group level.Sum (group level.Product (powered below)))

unfoldable pub grouped : Option Readers → Level → List Token → Answer Placed
grouped below l ts = group l (operand_of below l) ts

abbrev pub readers_over : Option Readers → Readers
readers_over below = record { prefixed = prefixed below; powered = powered below; whole = grouped below level.Choice }

-- what is read where so many constructs may still be opened, but for the first
unfoldable pub below : ℕ → Option Readers
below zero = None
below (suc n) = Some (readers_over (below n))

unfoldable pub whole : ℕ → List Token → Answer Placed
whole n ts = grouped (below n) level.Choice ts

-- Spansets.

unfoldable pub condition : ℕ → List Token → Answer (Option Placed)
condition n ts = if begins delimiter.CloseBrace ts then (expect_sign (delimits delimiter.CloseBrace) ts >>= λ c. Ok (None, c.1)) else (whole n ts >>= λ e. expect_sign (delimits delimiter.CloseBrace) e.1 >>= λ c. Ok (Some e.0, c.1))

unfoldable pub braces : ℕ → List Token → Answer (ℕ × Option Placed)
braces n ts = do
  o ← expect_sign (delimits delimiter.OpenBrace) ts
  c ← condition n o.1
  Ok ((o.0.0, c.0), c.1)

abbrev pub SetReader : Type 0
SetReader = List Token → Answer SetTree

unfoldable pub set_parens : Option SetReader → List Token → Answer SetTree
set_parens below ts = do
  o ← expect_sign (delimits delimiter.OpenParen) ts
  e ← enter below ts (λ b. b o.1)
  c ← expect_sign (delimits delimiter.CloseParen) e.1
  Ok (e.0, c.1)

unfoldable pub part : ℕ → Option SetReader → List Token → Answer SetTree
part n below ts = if begins delimiter.OpenParen ts then set_parens below ts else (braces n ts >>= λ c. Ok (Filter c.0.0 c.0.1, c.1))

-- an operator between spansets with its right side
abbrev pub SetItem : Type 0
SetItem = (ℕ × SpansetOp) × SetTree

abbrev pub set_join : SetTree → SetItem → SetTree
set_join a x = Join x.0.0 x.0.1 a x.1

unfoldable pub set_item : SpansetLevel → SetReader → List Token → Answer SetItem
set_item l operand ts = do
  o ← expect_sign (set_sign l) ts
  e ← operand o.1
  Ok ((o.0, e.0), e.1)

abbrev pub set_goes_on : SpansetLevel → List Token → Bool
set_goes_on l ts = is_some (next_sign (set_sign l) ts)

unfoldable pub set_more : SpansetLevel → SetReader → SetTree → List Token → Answer SetTree
set_more l operand a ts = items (set_goes_on l) (set_item l operand) set_join a ts

abbrev pub set_group : SpansetLevel → SetReader → SetReader
set_group l operand ts = operand ts >>= λ a. set_more l operand a.0 a.1

unfoldable pub set_operand_of : ℕ → Option SetReader → SpansetLevel → List Token → Answer SetTree
set_operand_of n below set_level.Structure = part n below
set_operand_of n below set_level.Union = set_group set_level.Structure (part n below)

unfoldable pub sets : ℕ → Option SetReader → SpansetLevel → List Token → Answer SetTree
sets n below l ts = set_group l (set_operand_of n below l) ts

unfoldable pub sets_below : ℕ → Option SetReader
sets_below zero = None
sets_below (suc n) = Some (sets n (sets_below n) set_level.Union)

-- Stages. So many constructs may be open inside the parentheses that a stage opens.

abbrev pub enclosed : {A : Type 0} → (List Token → Answer A) → List Token → Answer A
enclosed inside ts = do
  o ← expect_sign (delimits delimiter.OpenParen) ts
  e ← inside o.1
  c ← expect_sign (delimits delimiter.CloseParen) e.1
  Ok (e.0, c.1)

abbrev pub nothing : List Token → Answer (Unit {0})
nothing ts = Ok (tt, ts)

abbrev pub aggregate_word_of : Word → Option AggregateWord
aggregate_word_of word.Count = Some aggregate.Count
aggregate_word_of w = option_map aggregate.Of (aggregate_word w)

abbrev pub aggregate_rest : ℕ → AggregateWord → List Token → Answer AggregateTree
aggregate_rest n aggregate.Count ts = enclosed nothing ts >>= λ x. Ok (Count, x.1)
aggregate_rest n (aggregate.Of op) ts = enclosed (whole n) ts >>= λ x. Ok (Of op x.0, x.1)

unfoldable pub aggregate_at : ℕ → List Token → Answer AggregateTree
aggregate_at n ts = expect_word aggregate_word_of ts >>= λ w. aggregate_rest n w.0.1 w.1

unfoldable pub signed : List Token → Answer ThresholdTree
signed ts = if begins delimiter.Minus ts then (expect_sign (delimits delimiter.Minus) ts >>= λ m. expect (measure_at true) m.1) else (expect (measure_at false) ts)

unfoldable pub threshold : ℕ → List Token → Answer ThresholdTree
threshold n ts = if is_some (next_word aggregate_word_of ts) then (aggregate_at n ts >>= λ a. Ok (Aggregate a.0, a.1)) else (signed ts)

unfoldable pub compare : ℕ → List Token → Answer StageTree
compare n ts = do
  a ← aggregate_at n ts
  o ← expect_sign comparison_sign a.1
  b ← threshold n o.1
  Ok (Compare a.0 o.0.0 o.0.1 b.0, b.1)

unfoldable pub comma_field : List Token → Answer Field
comma_field ts = expect_sign (delimits delimiter.Comma) ts >>= λ c. expect field_at c.1

abbrev pub snoc : {A : Type 0} → List A → A → List A
snoc xs x = xs ++ x ∷ []

unfoldable pub more_fields : List Field → List Token → Answer (List Field)
more_fields fs ts = items (begins delimiter.Comma) comma_field snoc fs ts

unfoldable pub fields : List Token → Answer (List Field)
fields ts = expect field_at ts >>= λ f. more_fields (f.0 ∷ []) f.1

-- the word of the stage `by`
abbrev pub by_word : Word → Option (Unit {0})
by_word word.By = Some tt
by_word _ = None

-- what the first token says of the stage
abbrev pub word_stage : Word → StageSign
word_stage word.By = stage_sign.By
word_stage word.Coalesce = stage_sign.Coalesce
word_stage word.Select = stage_sign.Select
word_stage _ = stage_sign.Compare

abbrev pub kind_stage : TokenKind → StageSign
kind_stage (token.Keyword w) = word_stage w
kind_stage _ = stage_sign.Compare

abbrev pub stage_sign_of : List Token → StageSign
stage_sign_of [] = stage_sign.Compare
stage_sign_of (t ∷ ts) = kind_stage t.kind

-- the tokens after the stage's first word
abbrev pub tail_of : List Token → List Token
tail_of [] = []
tail_of (t ∷ ts) = ts

abbrev pub worded : ℕ → StageSign → List Token → Answer StageTree
worded n stage_sign.By ts = enclosed (whole n) (tail_of ts) >>= λ e. Ok (By e.0, e.1)
worded n stage_sign.Coalesce ts = enclosed nothing (tail_of ts) >>= λ x. Ok (Coalesce, x.1)
worded n stage_sign.Select ts = enclosed fields (tail_of ts) >>= λ fs. Ok (Select fs.0, fs.1)
worded n stage_sign.Compare ts = compare n ts

unfoldable pub stage : ℕ → List Token → Answer StageTree
stage n ts = if begins delimiter.OpenBrace ts then (braces (suc n) ts >>= λ c. Ok (Keep c.0.0 c.0.1, c.1)) else worded n (stage_sign_of ts) ts

unfoldable pub piped : ℕ → List Token → Answer StageTree
piped n ts = expect_sign (delimits delimiter.Bar) ts >>= λ b. stage n b.1

abbrev pub add_stage : QueryTree → StageTree → QueryTree
add_stage q s = record { spansets = q.spansets; stages = q.stages ++ s ∷ [] }

unfoldable pub more_stages : ℕ → QueryTree → List Token → Answer QueryTree
more_stages n q ts = items (begins delimiter.Bar) (piped n) add_stage q ts

abbrev pub alone : SetTree → QueryTree
alone e = record { spansets = e; stages = [] }

unfoldable pub all_sets : ℕ → List Token → Answer SetTree
all_sets n ts = sets n (sets_below n) set_level.Union ts

-- a query, where one construct more than n may be open
unfoldable pub query : ℕ → List Token → Answer QueryTree
query n ts = all_sets (suc n) ts >>= λ s. more_stages n (alone s.0) s.1
