use Rattle.io_edges.proofs.ReaderLemmas.{Answers-at_hand, IsToRead-at_hand}
use Rattle.io_edges.proofs.line_reader.LineReader.at_hand.Goals as goal

pub returns-clause-line : goal.returns-clause-line
returns-clause-line c = Answers-at_hand c.args.self.now c.scan.new.self c.scan.result c.scan.ensures.line

pub returns-clause-none : goal.returns-clause-none
returns-clause-none c = IsToRead-at_hand c.args.self.now c.scan.new.self c.scan.result c.scan.ensures.kept
