-- So far the map has the first rows of what was taken.
use Rattle.std.proofs.Common.{◌≡◌}
use Rattle.std.specs.BTreeMap.{get}
use Rattle.span_types.specs.declared.ids.Key.{Key}
use Rattle.span_types.specs.Orders.{key_cmp}
use Rattle.span_types.specs.First.{first_at}
use Rattle.span_types.proofs.first.firsts_by_key.Given as goal

abbrev pub invariant-loop-row : goal.invariant-loop-row
invariant-loop-row l = (k : Key) → get key_cmp l.firsts k ≡ first_at k l.yielded
