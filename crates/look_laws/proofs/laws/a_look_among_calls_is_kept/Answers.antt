use Rattle.look_laws.proofs.Keeping.{kept}
use Rattle.look_laws.proofs.laws.a_look_among_calls_is_kept.Goals as goal

pub returns : goal.returns
returns g c = kept g.P.LookPort.meaning c.args.old.now c.args.new.now
