use Rattle.std.proofs.Common.{◌≡◌, ◌++◌, take}
use Rattle.std.specs.List.{AllByRecursion, flat_map}
use Rattle.block_format.specs.Headers.{HasMoments, entry_bytes}
use Rattle.block_format.proofs.header.put_entries.Given as goal

-- the entries so far
abbrev pub invariant-loop-stripe : goal.invariant-loop-stripe
invariant-loop-stripe l = record {
  written : l.out ≡ l.fn.out ++ flat_map entry_bytes (take l.stripe-index l.stripes);
  sound : AllByRecursion HasMoments (take l.stripe-index l.stripes);
}
