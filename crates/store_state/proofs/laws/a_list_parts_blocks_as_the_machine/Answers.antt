use Rattle.std.proofs.Common.{sym}
use Rattle.store_state.proofs.Listings.{blocks_outside, files_inside}
use Rattle.store_state.proofs.laws.a_list_parts_blocks_as_the_machine.Goals as goal

pub returns-clause-stay : goal.returns-clause-stay
returns-clause-stay c = λ files blocks. sym (blocks_outside files blocks)

pub returns-clause-go : goal.returns-clause-go
returns-clause-go c = λ files blocks. sym (files_inside files blocks)
