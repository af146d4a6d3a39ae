-- A fresh scan for each of the blocks so far.
use Rattle.std.proofs.Common.{◌≡◌, All, take}
use Rattle.query_fanout.specs.Rounds.{IsFresh, infos_of}
use Rattle.query_fanout.proofs.scans.scans_of.Given as goal

abbrev pub invariant-loop-info : goal.invariant-loop-info
invariant-loop-info l = (infos_of l.scans.items ≡ take l.info-index l.look.pin.blocks) × All IsFresh l.scans.items
