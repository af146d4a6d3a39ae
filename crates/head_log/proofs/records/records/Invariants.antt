use Rattle.std.proofs.Common.{◌≡◌, ◌-◌, ◌≤◌, [], length}
use Rattle.head_log.specs.Scanning.{records_at}
use Rattle.head_log.proofs.records.records.Given as goal

abbrev pub invariant-loop : goal.invariant-loop
invariant-loop l = (records_at (length l.bytes - l.counter) l.number l.batches.items (record { whole = l.bytes; at = l.gate }) ≡ records_at (length l.bytes) l.first [] (record { whole = l.bytes; at = l.fn.at })) × (l.gate ≤ length l.bytes)
