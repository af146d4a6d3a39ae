use Rattle.std.proofs.Common.{◌++◌, refl}
use Rattle.store_model.specs.State.{live_rows}
use Rattle.live_traces.specs.Parts.{least_number}
use Rattle.store_state.proofs.Listings.{floor_is}
use Rattle.store_state.proofs.laws.the_floor_is_the_least_that_waits.Goals as goal

pub returns : goal.returns
returns c = λ count u. floor_is count u (least_number (u.head ++ live_rows u.live)) refl
