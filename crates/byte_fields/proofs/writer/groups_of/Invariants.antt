use Rattle.std.proofs.Common.{◌≡◌, ◌-◌, ◌<◌, ◌++◌, length, take}
use Rattle.byte_fields.specs.Spelling.{groups, var_bytes}
use Rattle.byte_fields.proofs.NumberLaws.{room}
use Rattle.byte_fields.proofs.writer.groups_of.Given as goal

abbrev pub invariant-loop-index : goal.invariant-loop-index
invariant-loop-index l = (length l.groups ≡ 10) × (take l.index l.groups ++ groups (9 - l.index) l.rest ≡ var_bytes l.value) × (l.rest < room (9 - l.index))
