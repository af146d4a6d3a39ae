use Rattle.head_log.proofs.MeantRecords.{segment_means}
use Rattle.head_log.proofs.laws.read_is_encoded.Goals as goal

pub returns : goal.returns
returns c = λ first bytes found end fit read. segment_means first bytes found end fit read
