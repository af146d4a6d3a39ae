-- The tokens that a query is printed with, by their kinds.
use Rattle.std.specs.Prelude.{Bool, true, false, List, [], ◌∷◌, ◌++◌, Option, Some, None, if◌then◌else◌}
use Rattle.std.specs.List.{flat_map}
use Rattle.traceql_tokens.specs.declared.fixed.Sign.TheVariants as sign
use Rattle.traceql_tokens.specs.declared.fixed.Word.{Word}
use Rattle.traceql_tokens.specs.declared.fixed.Word.TheVariants as word
use Rattle.traceql_tokens.specs.declared.kinds.TokenKind.{TokenKind}
use Rattle.traceql_tokens.specs.declared.kinds.TokenKind.TheVariants as token
use Rattle.traceql_syntax.specs.declared.field.Field.{Field}
use Rattle.traceql_syntax.specs.Trees.{Tree, Literally, Asks, Unary, Binary, Match, Placed, SetTree, Filter, Join, AggregateTree, Count, Of, ThresholdTree, Aggregate, Number, Duration, StageTree, Keep, By, Coalesce, Select, Compare, QueryTree}
use Rattle.traceql_print.specs.Signs.{unary_sign, binary_sign, comparison_sign, match_sign, set_sign, aggregate_word, literal_kind, field_kind}

abbrev pub in_parens : List TokenKind → List TokenKind
in_parens ks = token.Mark sign.OpenParen ∷ (ks ++ token.Mark sign.CloseParen ∷ [])

-- a word and what stands in parentheses after it
abbrev pub call : Word → List TokenKind → List TokenKind
call w ks = token.Keyword w ∷ in_parens ks

-- an operand, which stands in parentheses where it is binary itself
abbrev pub operand : Bool → List TokenKind → List TokenKind
operand binary ks = if binary then in_parens ks else ks

abbrev pub is_binary : Tree → Bool
is_binary (Binary at op first a second b) = true
is_binary (Match at negated first a pattern_at pattern) = true
is_binary _ = false

abbrev pub expr_kinds : Tree → List TokenKind
expr_kinds (Literally at x) = literal_kind x ∷ []
expr_kinds (Asks at f) = field_kind f ∷ []
expr_kinds (Unary at op first e) = token.Mark (unary_sign op) ∷ operand (is_binary e) (expr_kinds e)
expr_kinds (Binary at op first a second b) = operand (is_binary a) (expr_kinds a) ++ (token.Mark (binary_sign op) ∷ operand (is_binary b) (expr_kinds b))
expr_kinds (Match at negated first a pattern_at pattern) = operand (is_binary a) (expr_kinds a) ++ (token.Mark (match_sign negated) ∷ token.Quoted pattern ∷ [])

abbrev pub condition_kinds : Option Placed → List TokenKind
condition_kinds None = []
condition_kinds (Some e) = expr_kinds e.1

abbrev pub filter_kinds : Option Placed → List TokenKind
filter_kinds c = token.Mark sign.OpenBrace ∷ (condition_kinds c ++ token.Mark sign.CloseBrace ∷ [])

abbrev pub is_join : SetTree → Bool
is_join (Filter at c) = false
is_join (Join at op a b) = true

abbrev pub set_kinds : SetTree → List TokenKind
set_kinds (Filter at c) = filter_kinds c
set_kinds (Join at op a b) = operand (is_join a) (set_kinds a) ++ (token.Mark (set_sign op) ∷ operand (is_join b) (set_kinds b))

abbrev pub aggregate_kinds : AggregateTree → List TokenKind
aggregate_kinds Count = call word.Count []
aggregate_kinds (Of op e) = call (aggregate_word op) (expr_kinds e.1)

-- a number or a duration, and a minus before it where it is negative
abbrev pub signed : Bool → TokenKind → List TokenKind
signed true k = token.Mark sign.Minus ∷ k ∷ []
signed false k = k ∷ []

abbrev pub threshold_kinds : ThresholdTree → List TokenKind
threshold_kinds (Aggregate a) = aggregate_kinds a
threshold_kinds (Number at negative n) = signed negative (token.Number n)
threshold_kinds (Duration at negative n) = signed negative (token.Duration n)

-- fields with a comma before each
abbrev pub more_fields_kinds : List Field → List TokenKind
more_fields_kinds fs = flat_map (λ f. token.Mark sign.Comma ∷ field_kind f ∷ []) fs

-- the fields of a `select`, a comma before each but the first
abbrev pub fields_kinds : List Field → List TokenKind
fields_kinds [] = []
fields_kinds (f ∷ fs) = field_kind f ∷ more_fields_kinds fs

abbrev pub stage_kinds : StageTree → List TokenKind
stage_kinds (Keep at c) = filter_kinds c
stage_kinds (By e) = call word.By (expr_kinds e.1)
stage_kinds Coalesce = call word.Coalesce []
stage_kinds (Select fs) = call word.Select (fields_kinds fs)
stage_kinds (Compare a at op b) = aggregate_kinds a ++ (token.Mark (comparison_sign op) ∷ threshold_kinds b)

-- stages with a bar before each
abbrev pub stages_kinds : List StageTree → List TokenKind
stages_kinds stages = flat_map (λ s. token.Mark sign.Bar ∷ stage_kinds s) stages

abbrev pub query_kinds : QueryTree → List TokenKind
query_kinds q = set_kinds q.spansets ++ stages_kinds q.stages
