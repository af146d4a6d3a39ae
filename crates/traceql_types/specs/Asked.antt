-- The patterns that a query asks for, in the text's order: the place of each one's string, and the string.
use Rattle.std.specs.Prelude.{ℕ, List, [], ◌∷◌, ◌++◌, Option, Some, None}
use Rattle.std.specs.List.{flat_map}
use Rattle.traceql_syntax.specs.Trees.{Tree, Literally, Asks, Unary, Binary, Match, Placed, SetTree, Filter, Join, AggregateTree, Count, Of, ThresholdTree, Aggregate, Number, Duration, StageTree, Keep, By, Coalesce, Select, Compare, QueryTree}

-- a place and the string that begins there
abbrev pub PlacedText : Type 0
PlacedText = ℕ × List ℕ

abbrev pub in_expr : Tree → List PlacedText
in_expr (Literally at l) = []
in_expr (Asks at f) = []
in_expr (Unary at op first e) = in_expr e
in_expr (Binary at op first a second b) = in_expr a ++ in_expr b
in_expr (Match at negated first e pattern_at pattern) = in_expr e ++ (pattern_at, pattern) ∷ []

abbrev pub in_filter : Option Placed → List PlacedText
in_filter None = []
in_filter (Some e) = in_expr e.1

abbrev pub in_set : SetTree → List PlacedText
in_set (Filter at condition) = in_filter condition
in_set (Join at op a b) = in_set a ++ in_set b

abbrev pub in_aggregate : AggregateTree → List PlacedText
in_aggregate Count = []
in_aggregate (Of op e) = in_expr e.1

abbrev pub in_threshold : ThresholdTree → List PlacedText
in_threshold (Aggregate a) = in_aggregate a
in_threshold (Number at negative value) = []
in_threshold (Duration at negative nanos) = []

abbrev pub in_stage : StageTree → List PlacedText
in_stage (Keep at condition) = in_filter condition
in_stage (By e) = in_expr e.1
in_stage Coalesce = []
in_stage (Select fields) = []
in_stage (Compare a at op b) = in_aggregate a ++ in_threshold b

-- one for each `=~` and `!~` of a query
abbrev pub asked_patterns : QueryTree → List PlacedText
asked_patterns q = in_set q.spansets ++ flat_map in_stage q.stages
