-- The blocks so far are read.
use Rattle.std.proofs.Common.{Ok, take}
use Rattle.query_fanout.specs.Reading.{AtMost, BlocksRead, most_of}
use Rattle.query_fanout.proofs.blocks.of_blocks.Given as goal

abbrev pub invariant-loop-info : goal.invariant-loop-info
invariant-loop-info g l =
    BlocksRead g.P.LookPort.meaning l.look (take l.info-index l.look.pin.blocks) (g.R.OfBlock.some l.reads) (g.R.OfBlock.fits l.reads)
    (AtMost (most_of (g.R.OfBlock.most l.reads) (take l.info-index l.look.pin.blocks))) l.fn.port (Ok l.found.items) l.port
