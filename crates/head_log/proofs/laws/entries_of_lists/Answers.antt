use Rattle.head_log.proofs.EntryLemmas.{length-entries, entries-append}
use Rattle.head_log.proofs.laws.entries_of_lists.Goals as goal

pub returns : goal.returns
returns c = record { length = length-entries; append = entries-append }
