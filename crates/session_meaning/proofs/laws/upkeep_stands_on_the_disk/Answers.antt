use Rattle.session_meaning.proofs.OnDisk.{calls_tidy, lists_state}
use Rattle.session_meaning.proofs.laws.upkeep_stands_on_the_disk.Goals as goal

pub returns-clause-listed : goal.returns-clause-listed
returns-clause-listed g c = λ m stands tells writes image left. lists_state g.D.Device c.args.old.now m stands tells writes image left

pub returns-clause-tidy : goal.returns-clause-tidy
returns-clause-tidy g c = λ calls made m stands tells tidy.
    calls_tidy g.D.Device g.met.D.Device.counts_now g.met.D.Device.only_now c.args.old.now c.args.new.now calls made m stands tells tidy
