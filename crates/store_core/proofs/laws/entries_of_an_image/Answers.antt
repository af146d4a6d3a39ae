use Rattle.store_core.proofs.EntryCounts.{one_count, sound_count}
use Rattle.store_core.proofs.laws.entries_of_an_image.Goals as goal

pub returns-clause-one : goal.returns-clause-one
returns-clause-one c = one_count

pub returns-clause-sound : goal.returns-clause-sound
returns-clause-sound c = sound_count
