-- So far the first bytes are those of the length.
use Rattle.std.proofs.Common.{◌≡◌, ◌++◌, take, drop}
use Rattle.block_stripes.proofs.stripe_writing.set_length.Given as goal

abbrev pub invariant-loop-i : goal.invariant-loop-i
invariant-loop-i l = l.bytes.items ≡ take l.i l.field ++ drop l.i l.initial.bytes.items
