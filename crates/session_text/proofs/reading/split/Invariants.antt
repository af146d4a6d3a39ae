use Rattle.std.proofs.Common.{◌≡◌, ◌++◌, drop, take}
use Rattle.session_text.specs.Lines.{first_part, other_parts}
use Rattle.session_text.proofs.reading.split.Given as goal

-- no space so far
abbrev pub invariant-loop-i : goal.invariant-loop-i
invariant-loop-i l = (first_part l.line ≡ take l.i l.line ++ first_part (drop l.i l.line)) × (other_parts l.line ≡ other_parts (drop l.i l.line))
