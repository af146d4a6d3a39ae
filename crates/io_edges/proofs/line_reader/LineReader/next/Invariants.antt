use Rattle.std.proofs.Common.{◌-◌}
use Rattle.io_edges.specs.Lines.{taken_limit}
use Rattle.io_edges.proofs.ReaderLemmas.{IsOnTheWay}
use Rattle.io_edges.proofs.line_reader.LineReader.next.Given as goal

abbrev pub invariant-lines : goal.invariant-lines
invariant-lines g l = IsOnTheWay g.S.Source.left g.S.Source.faults l.initial.self l.self l.initial.source l.source

abbrev pub decreases-lines : goal.decreases-lines
decreases-lines g l = taken_limit - l.self.taken
