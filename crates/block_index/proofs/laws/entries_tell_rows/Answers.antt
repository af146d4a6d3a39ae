use Rattle.block_index.proofs.RowLaws.{entries_tell}
use Rattle.block_index.proofs.laws.entries_tell_rows.Goals as goal

pub returns : goal.returns
returns c = entries_tell
