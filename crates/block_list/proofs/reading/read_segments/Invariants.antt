use Rattle.std.proofs.Common.{◌≡◌, ◌-◌, [], None, map}
use Rattle.block_list.specs.Reading.{segments_at, SameFiles}
use Rattle.block_list.proofs.reading.read_segments.Given as goal

-- reading the rest from here is reading all from the start, and the files so far are named
abbrev pub invariant-loop-index : goal.invariant-loop-index
invariant-loop-index l = record {
  reads : segments_at l.head.next_file l.head.floor (l.head.segments - l.index) l.before l.segments.items l.reader ≡ segments_at l.head.next_file l.head.floor l.head.segments None [] l.fn.reader;
  named : SameFiles l.seen.keys (map (λ segment. segment.file) l.segments.items);
}
