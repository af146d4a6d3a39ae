use Rattle.std.proofs.Common.{Some, refl}
use Rattle.block_list.proofs.AgainSlots.{slots_again, only_one}
use Rattle.block_list.proofs.ReadyLemmas.{rules_of}
use Rattle.block_list.proofs.laws.held_list_is_read.Goals as goal

pub returns-clause-read : goal.returns-clause-read
returns-clause-read c = slots_again

pub returns-clause-one : goal.returns-clause-one
returns-clause-one c = λ first second list other holds same. only_one first second list other same (slots_again first second list holds)

pub returns-clause-rules : goal.returns-clause-rules
returns-clause-rules c = λ first second body holds. rules_of 0 first second (Some body) body holds refl
