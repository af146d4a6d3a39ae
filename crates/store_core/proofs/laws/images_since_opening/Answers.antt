use Rattle.store_core.proofs.Past.{stands_since, stands_since_now}
use Rattle.store_core.proofs.laws.images_since_opening.Goals as goal

pub returns-clause-begins : goal.returns-clause-begins
returns-clause-begins g c = λ m stands. stands_since_now g.D.Device g.met.D.Device.only_now c.args.old.now m stands

pub returns-clause-goes_on : goal.returns-clause-goes_on
returns-clause-goes_on g c = λ e r m start least did since.
    stands_since g.D.Device c.args.old.now c.args.new.now e r m start least did since
