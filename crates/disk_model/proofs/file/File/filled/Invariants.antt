use Rattle.std.proofs.Common.{◌≡◌}
use Rattle.disk_model.specs.Picks.{filled, byte_of}
use Rattle.disk_model.proofs.file.File.filled.Given as goal

-- the bytes up to this offset
abbrev pub invariant-loop-offset : goal.invariant-loop-offset
invariant-loop-offset l = l.bytes.items ≡ filled l.self (byte_of l.pick l.seed l.self) l.offset
