use Rattle.shared_store.proofs.Both.{is_both}
use Rattle.shared_store.proofs.made.a_joined_seat_has_what_both_had.Goals as goal

pub returns : goal.returns
returns g c = is_both
