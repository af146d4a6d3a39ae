-- So far the new list has the items that were copied.
use Rattle.std.proofs.Common.{◌≡◌, take}
use Rattle.span_types.proofs.list.SeqTryCopy.copy.Given as goal

abbrev pub invariant-loop-item : goal.invariant-loop-item
invariant-loop-item g l = l.inner.items ≡ take l.item-index l.item-items
