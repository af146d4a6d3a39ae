-- Private mechanism. The parser's own types as the definitions of what it reads see them.
use Rattle.std.specs.Prelude.{◌≡◌, ℕ, suc, List, Some, None, Result, Ok, Err}
use Rattle.traceql_tokens.specs.declared.kinds.Token.{Token}
use Rattle.traceql_syntax.specs.declared.query.SpansetLevel.TheVariants as set_level
use Rattle.traceql_syntax.specs.Trees.{placed, set_tree}
use Rattle.traceql_parse.specs.declared.spanset.SetItem.{SetItem}
use Rattle.traceql_parse.specs.declared.field.Item.{Item}
use Rattle.traceql_parse.specs.declared.field.Item.TheVariants as code
use Rattle.traceql_parse.specs.declared.stop.Stop.{Stop}
use Rattle.traceql_parse.specs.declared.stop.Cause.TheVariants as cause
use Rattle.traceql_parse.specs.Reading.{StopsAt}
use Rattle.traceql_parse.specs.Descent as read

abbrev pub item_tree : Item → read.Item
item_tree (code.Operator at op right) = read.Operator at op (placed right)
item_tree (code.Pattern at negated pattern_at pattern) = read.Pattern at negated pattern_at pattern

-- how many constructs may be opened inside, or the refusal where none may
abbrev pub Enters : ℕ → List Token → Result ℕ Stop → Type 0
Enters depth ts (Ok inner) = (depth ≡ suc inner) × (read.below depth ≡ Some (read.readers_over (read.below inner)))
Enters depth ts (Err stop) = StopsAt stop (cause.TooDeep, ts) × (read.below depth ≡ None)

abbrev pub set_item_tree : SetItem → read.SetItem
set_item_tree x = ((x.at, x.op), set_tree x.right)

-- the same among spansets
abbrev pub SetEnters : ℕ → List Token → Result ℕ Stop → Type 0
SetEnters depth ts (Ok inner) = (depth ≡ suc inner) × (read.sets_below depth ≡ Some (read.sets inner (read.sets_below inner) set_level.Union))
SetEnters depth ts (Err stop) = StopsAt stop (cause.TooDeep, ts) × (read.sets_below depth ≡ None)
