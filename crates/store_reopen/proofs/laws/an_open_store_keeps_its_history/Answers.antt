use Rattle.store_reopen.proofs.Through.{core_keeps, keeps_from_now}
use Rattle.store_reopen.proofs.laws.an_open_store_keeps_its_history.Goals as goal

pub returns-clause-keeps : goal.returns-clause-keeps
returns-clause-keeps g c = λ m stands. core_keeps g.D.Device c.args.core.now m stands

pub returns-clause-begins : goal.returns-clause-begins
returns-clause-begins g c = λ m stands. keeps_from_now g.D.Device g.met.D.Device.only_now c.args.core.now m stands
