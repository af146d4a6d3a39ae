use Rattle.std.proofs.Common.{◌≡◌, ◌++◌, take, drop}
use Rattle.head_log.proofs.prepared.set_length.Given as goal

abbrev pub invariant-loop-i : goal.invariant-loop-i
invariant-loop-i l = l.text.items ≡ take l.i l.bytes ++ drop l.i l.initial.text.items
