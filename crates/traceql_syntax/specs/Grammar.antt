-- The grammar: which lists of tokens spell which trees, with a rule for each production.
--
-- The number is how many constructs may be open at one place: parentheses, unary operators and `^`. It stands at each
-- rule and not at the trees, since a tree forgets the parentheses round its parts. The grammar without a limit is the
-- relation for some number.
use Rattle.std.specs.Prelude.{◌≡◌, ℕ, suc, Bool, true, false, List, [], ◌∷◌, ◌++◌, Option, Some, None}
use Rattle.traceql_tokens.specs.declared.fixed.Sign.{Sign}
use Rattle.traceql_tokens.specs.declared.fixed.Sign.TheVariants as sign
use Rattle.traceql_tokens.specs.declared.fixed.Word.{Word}
use Rattle.traceql_tokens.specs.declared.fixed.Word.TheVariants as word
use Rattle.traceql_tokens.specs.declared.kinds.Token.{Token}
use Rattle.traceql_tokens.specs.declared.kinds.TokenKind.TheVariants as token
use Rattle.traceql_syntax.specs.declared.field.BinaryOp.{BinaryOp}
use Rattle.traceql_syntax.specs.declared.field.BinaryOp.TheVariants as binary
use Rattle.traceql_syntax.specs.declared.field.Comparison.{Comparison}
use Rattle.traceql_syntax.specs.declared.field.Field.{Field}
use Rattle.traceql_syntax.specs.declared.field.Level.{Level}
use Rattle.traceql_syntax.specs.declared.field.Level.TheVariants as level
use Rattle.traceql_syntax.specs.declared.field.Literal.{Literal}
use Rattle.traceql_syntax.specs.declared.field.UnaryOp.{UnaryOp}
use Rattle.traceql_syntax.specs.declared.query.AggregateOp.{AggregateOp}
use Rattle.traceql_syntax.specs.declared.query.SpansetLevel.{SpansetLevel}
use Rattle.traceql_syntax.specs.declared.query.SpansetLevel.TheVariants as set_level
use Rattle.traceql_syntax.specs.declared.query.SpansetOp.{SpansetOp}
use Rattle.traceql_syntax.specs.Trees.{Literally, Asks, Unary, Binary, Match, Placed, SetTree, Filter, Join, AggregateTree, Count, Of, ThresholdTree, Aggregate, StageTree, Keep, By, Coalesce, Select, Compare, QueryTree, MetricsTree}
use Rattle.traceql_syntax.specs.Tables.{metrics_word, prefix_sign, comparison_sign, level_sign, pattern_sign, set_sign, aggregate_word, literal_of, field_of, measure_of}

-- a sign and a word at a place
abbrev pub mark : ℕ → Sign → Token
mark at s = record { at = at; kind = token.Mark s }

abbrev pub keyword : ℕ → Word → Token
keyword at w = record { at = at; kind = token.Keyword w }

-- what stands between an opening and a closing parenthesis, and between braces
abbrev pub in_parens : ℕ → List Token → ℕ → List Token
in_parens opened ts closed = mark opened sign.OpenParen ∷ (ts ++ mark closed sign.CloseParen ∷ [])

abbrev pub in_braces : ℕ → List Token → ℕ → List Token
in_braces opened ts closed = mark opened sign.OpenBrace ∷ (ts ++ mark closed sign.CloseBrace ∷ [])

-- The classes of field expressions: `atom`, `unary`, `pow`, and `mul`, `sum`, `cmp` and `or`, which group from the left.
pub data Class : Type 0 where
  Atom : Class
  Prefixed : Class
  Powered : Class
  Grouped : Level → Class

-- what an operator of this level stands between, on its right
abbrev pub under : Level → Class
under level.Product = Powered
under level.Sum = Grouped level.Product
under level.Comparison = Grouped level.Sum
under level.Choice = Grouped level.Comparison

-- `or`, the class of whole expressions
abbrev pub Whole_expression : Class
Whole_expression = Grouped level.Choice

-- the tokens spell this operand of the class, with at most so many constructs open at one place
pub data Spells : ℕ → Class → Placed → List Token → Type 0 where
  literal : {n : ℕ} {x : Literal} (t : Token) → literal_of t.kind ≡ Some x → Spells n Atom (t.at, Literally t.at x) (t ∷ [])
  field : {n : ℕ} {x : Field} (t : Token) → field_of t.kind ≡ Some x → Spells n Atom (t.at, Asks t.at x) (t ∷ [])
  parens : {n : ℕ} {e : Placed} {ts : List Token} (opened closed : ℕ) → Spells n Whole_expression e ts → Spells (suc n) Atom (opened, e.1) (in_parens opened ts closed)
  prefix : {n : ℕ} {op : UnaryOp} {e : Placed} {ts : List Token} (at : ℕ) (s : Sign) → prefix_sign s ≡ Some op → Spells n Prefixed e ts → Spells (suc n) Prefixed (at, Unary at op e.0 e.1) (mark at s ∷ ts)
  atom : {n : ℕ} {e : Placed} {ts : List Token} → Spells n Atom e ts → Spells n Prefixed e ts
  power : {n : ℕ} {a b : Placed} {xs ys : List Token} (at : ℕ) → Spells (suc n) Prefixed a xs → Spells n Powered b ys → Spells (suc n) Powered (a.0, Binary at binary.Power a.0 a.1 b.0 b.1) (xs ++ mark at sign.Caret ∷ ys)
  lone : {n : ℕ} {e : Placed} {ts : List Token} → Spells n Prefixed e ts → Spells n Powered e ts
  left : {n : ℕ} {op : BinaryOp} {a b : Placed} {xs ys : List Token} (l : Level) (at : ℕ) (s : Sign) → level_sign l s ≡ Some op → Spells n (Grouped l) a xs → Spells n (under l) b ys → Spells n (Grouped l) (a.0, Binary at op a.0 a.1 b.0 b.1) (xs ++ mark at s ∷ ys)
  match : {n : ℕ} {negated : Bool} {a : Placed} {xs : List Token} (at : ℕ) (s : Sign) (pattern_at : ℕ) (pattern : List ℕ) → pattern_sign s ≡ Some negated → Spells n (Grouped level.Comparison) a xs → Spells n (Grouped level.Comparison) (a.0, Match at negated a.0 a.1 pattern_at pattern) (xs ++ (mark at s ∷ (record { at = pattern_at; kind = token.Quoted pattern }) ∷ []))
  single : {n : ℕ} {e : Placed} {ts : List Token} (l : Level) → Spells n (under l) e ts → Spells n (Grouped l) e ts

-- what stands in the braces of a filter: nothing, or an expression
pub data SpellsCondition : ℕ → Option Placed → List Token → Type 0 where
  empty : {n : ℕ} → SpellsCondition n None []
  condition : {n : ℕ} {e : Placed} {ts : List Token} → Spells n Whole_expression e ts → SpellsCondition n (Some e) ts

-- The classes of expressions over spansets: `part`, and `struct` and `spansets`, which group from the left.
pub data SetClass : Type 0 where
  Part : SetClass
  Sets : SpansetLevel → SetClass

abbrev pub under_set : SpansetLevel → SetClass
under_set set_level.Structure = Part
under_set set_level.Union = Sets set_level.Structure

pub data SpellsSet : ℕ → SetClass → SetTree → List Token → Type 0 where
  filter : {n : ℕ} {c : Option Placed} {ts : List Token} (opened closed : ℕ) → SpellsCondition n c ts → SpellsSet n Part (Filter opened c) (in_braces opened ts closed)
  set_parens : {n : ℕ} {e : SetTree} {ts : List Token} (opened closed : ℕ) → SpellsSet n (Sets set_level.Union) e ts → SpellsSet (suc n) Part e (in_parens opened ts closed)
  set_left : {n : ℕ} {op : SpansetOp} {a b : SetTree} {xs ys : List Token} (l : SpansetLevel) (at : ℕ) (s : Sign) → set_sign l s ≡ Some op → SpellsSet n (Sets l) a xs → SpellsSet n (under_set l) b ys → SpellsSet n (Sets l) (Join at op a b) (xs ++ mark at s ∷ ys)
  set_single : {n : ℕ} {e : SetTree} {ts : List Token} (l : SpansetLevel) → SpellsSet n (under_set l) e ts → SpellsSet n (Sets l) e ts

pub data SpellsAggregate : ℕ → AggregateTree → List Token → Type 0 where
  count : {n : ℕ} (at opened closed : ℕ) → SpellsAggregate (suc n) Count (keyword at word.Count ∷ in_parens opened [] closed)
  of : {n : ℕ} {op : AggregateOp} {e : Placed} {ts : List Token} (at : ℕ) (w : Word) (opened closed : ℕ) → aggregate_word w ≡ Some op → Spells n Whole_expression e ts → SpellsAggregate (suc n) (Of op e) (keyword at w ∷ in_parens opened ts closed)

-- what an aggregate is compared with: an aggregate, or a number or duration with or without a minus
pub data SpellsThreshold : ℕ → ThresholdTree → List Token → Type 0 where
  aggregate : {n : ℕ} {a : AggregateTree} {ts : List Token} → SpellsAggregate n a ts → SpellsThreshold n (Aggregate a) ts
  plain : {n : ℕ} {x : ThresholdTree} (t : Token) → measure_of false t.at t.kind ≡ Some x → SpellsThreshold n x (t ∷ [])
  minus : {n : ℕ} {x : ThresholdTree} (at : ℕ) (t : Token) → measure_of true t.at t.kind ≡ Some x → SpellsThreshold n x (mark at sign.Minus ∷ t ∷ [])

-- the fields of a `select`
pub data SpellsFields : List Field → List Token → Type 0 where
  only : {x : Field} (t : Token) → field_of t.kind ≡ Some x → SpellsFields (x ∷ []) (t ∷ [])
  more : {x : Field} {fs : List Field} {ts : List Token} (at : ℕ) (t : Token) → SpellsFields fs ts → field_of t.kind ≡ Some x → SpellsFields (fs ++ x ∷ []) (ts ++ (mark at sign.Comma ∷ t ∷ []))

pub data SpellsStage : ℕ → StageTree → List Token → Type 0 where
  keep : {n : ℕ} {c : Option Placed} {ts : List Token} (opened closed : ℕ) → SpellsCondition n c ts → SpellsStage n (Keep opened c) (in_braces opened ts closed)
  by : {n : ℕ} {e : Placed} {ts : List Token} (at opened closed : ℕ) → Spells n Whole_expression e ts → SpellsStage (suc n) (By e) (keyword at word.By ∷ in_parens opened ts closed)
  coalesce : {n : ℕ} (at opened closed : ℕ) → SpellsStage (suc n) Coalesce (keyword at word.Coalesce ∷ in_parens opened [] closed)
  select : {n : ℕ} {fs : List Field} {ts : List Token} (at opened closed : ℕ) → SpellsFields fs ts → SpellsStage (suc n) (Select fs) (keyword at word.Select ∷ in_parens opened ts closed)
  compare : {n : ℕ} {op : Comparison} {a : AggregateTree} {b : ThresholdTree} {xs ys : List Token} (at : ℕ) (s : Sign) → comparison_sign s ≡ Some op → SpellsAggregate n a xs → SpellsThreshold n b ys → SpellsStage n (Compare a at op b) (xs ++ mark at s ∷ ys)

pub data SpellsQuery : ℕ → QueryTree → List Token → Type 0 where
  start : {n : ℕ} {e : SetTree} {ts : List Token} → SpellsSet n (Sets set_level.Union) e ts → SpellsQuery n (record { spansets = e; stages = [] }) ts
  piped : {n : ℕ} {q : QueryTree} {s : StageTree} {xs ys : List Token} (at : ℕ) → SpellsQuery n q xs → SpellsStage n s ys → SpellsQuery n (record { spansets = q.spansets; stages = q.stages ++ s ∷ [] }) (xs ++ mark at sign.Bar ∷ ys)

-- A metrics query: a query, a bar, `rate ( )` or `count_over_time ( )`, and after it, if the spans are split, `by` and an expression in
-- parentheses.
pub data SpellsMetrics : ℕ → MetricsTree → List Token → Type 0 where
  whole : {n : ℕ} {q : QueryTree} {rate : Bool} {xs : List Token} (bar at opened closed : ℕ) (w : Word) → metrics_word w ≡ Some rate → SpellsQuery (suc n) q xs → SpellsMetrics (suc n) (record { query = q; rate = rate; by = None }) (xs ++ mark bar sign.Bar ∷ keyword at w ∷ in_parens opened [] closed)
  split : {n : ℕ} {q : QueryTree} {rate : Bool} {e : Placed} {xs ys : List Token} (bar at opened closed by by_opened by_closed : ℕ) (w : Word) → metrics_word w ≡ Some rate → SpellsQuery (suc n) q xs → Spells n Whole_expression e ys → SpellsMetrics (suc n) (record { query = q; rate = rate; by = Some e }) (xs ++ mark bar sign.Bar ∷ keyword at w ∷ (in_parens opened [] closed ++ keyword by word.By ∷ in_parens by_opened ys by_closed))
