use Rattle.std.proofs.Common.{◌≡◌, ◌-◌, ◌++◌, []}
use Rattle.block_list.specs.Reading.{loose_at, SameFiles}
use Rattle.block_list.proofs.reading.read_loose.Given as goal

-- reading the rest from here is reading all from the start, and the files so far are named
abbrev pub invariant-loop-index : goal.invariant-loop-index
invariant-loop-index l = record {
  reads : loose_at l.head.next_file l.fn.seen.keys (l.head.loose - l._index) l.loose.items l.reader ≡ loose_at l.head.next_file l.fn.seen.keys l.head.loose [] l.fn.reader;
  named : SameFiles l.seen.keys (l.fn.seen.keys ++ l.loose.items);
}
