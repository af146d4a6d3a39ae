use Rattle.store_reopen.proofs.Through.{event_goes_on, opened_again, still_closed}
use Rattle.store_reopen.proofs.laws.a_history_goes_on.Goals as goal

pub returns-clause-event : goal.returns-clause-event
returns-clause-event g c = λ e r m start least pending did stands keeps.
    event_goes_on g.D.Device c.args.old.now c.args.new.now e r m start least pending did stands keeps

pub returns-clause-closed : goal.returns-clause-closed
returns-clause-closed g c = λ h unsure start least pending keeps telling kept.
    still_closed g.D.Device start c.args.disk.now c.args.later.now least pending h unsure keeps telling kept

pub returns-clause-opened : goal.returns-clause-opened
returns-clause-opened g c = λ h unsure start least moment pending keeps telling kept on.
    opened_again g.D.Device start c.args.disk.now c.args.new.now least moment pending h unsure keeps telling kept on
