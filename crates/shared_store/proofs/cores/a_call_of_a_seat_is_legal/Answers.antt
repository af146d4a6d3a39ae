use Rattle.shared_store.proofs.CoreLaws.{has_called}
use Rattle.shared_store.proofs.cores.a_call_of_a_seat_is_legal.Goals as goal

pub returns : goal.returns
returns g c = λ v w event reply called start. has_called g.D.Device v w event reply called c.args.key.now start
