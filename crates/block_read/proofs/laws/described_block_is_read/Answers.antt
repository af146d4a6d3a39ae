use Rattle.block_read.proofs.BlockFiles.{gives_info, gives_rows, says_size}
use Rattle.block_read.proofs.laws.described_block_is_read.Goals as goal

pub returns-clause-size : goal.returns-clause-size
returns-clause-size c = says_size c.filters_hold_their_traces.ensures.size

pub returns-clause-rows : goal.returns-clause-rows
returns-clause-rows c = gives_rows c.filters_hold_their_traces.ensures.size

pub returns-clause-info : goal.returns-clause-info
returns-clause-info c = gives_info
