use Rattle.headline.proofs.Kept.{lines_keep, request_keeps}
use Rattle.headline.proofs.laws.a_request_keeps_what_is_stored.Goals as goal

pub returns-clause-of_a_request : goal.returns-clause-of_a_request
returns-clause-of_a_request g c = request_keeps g.D.Device g.met.D.Device.only_now c.args.old.now c.args.new.now

pub returns-clause-of_lines : goal.returns-clause-of_lines
returns-clause-of_lines g c = lines_keep g.D.Device g.met.D.Device.only_now c.args.old.now c.args.new.now
