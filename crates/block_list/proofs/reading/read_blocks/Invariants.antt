use Rattle.std.proofs.Common.{◌≡◌, ◌-◌, ◌++◌, [], map}
use Rattle.block_list.specs.Reading.{blocks_at, SameFiles}
use Rattle.block_list.proofs.reading.read_blocks.Given as goal

-- reading the rest from here is reading all from the start, and the files so far are named
abbrev pub invariant-loop-index : goal.invariant-loop-index
invariant-loop-index l = record {
  reads : blocks_at l.head.next_file l.fn.seen.keys (l.head.blocks - l._index) l.blocks.items l.reader ≡ blocks_at l.head.next_file l.fn.seen.keys l.head.blocks [] l.fn.reader;
  named : SameFiles l.seen.keys (l.fn.seen.keys ++ map (λ block. block.file) l.blocks.items);
}
