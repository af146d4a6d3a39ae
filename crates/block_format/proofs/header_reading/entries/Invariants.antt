use Rattle.std.proofs.Common.{◌≡◌, ◌≤◌, ◌-◌, ◌^◌, []}
use Rattle.block_format.specs.HeaderReadings.{entries_at}
use Rattle.block_format.proofs.header_reading.entries.Given as goal

-- reading the rest from here is reading all from the start
abbrev pub invariant-loop-index : goal.invariant-loop-index
invariant-loop-index l = record {
  reads : entries_at (l.count - l.index) l.page l.stripes.items l.reader ≡ entries_at l.count l.first [] l.fn.reader;
  reach : l.page ≤ 2 ^ 51;
  whole : l.reader.whole ≡ l.fn.reader.whole;
}
