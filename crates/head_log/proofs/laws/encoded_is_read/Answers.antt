use Rattle.head_log.proofs.AgainRecords.{segment_again}
use Rattle.head_log.proofs.laws.encoded_is_read.Goals as goal

pub returns : goal.returns
returns c = λ first gate batches bytes holds. segment_again first batches gate bytes holds
