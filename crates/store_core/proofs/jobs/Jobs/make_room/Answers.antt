use Rattle.store_core.proofs.JobRooms.{same_jobs, same_loose}
use Rattle.store_core.proofs.jobs.Jobs.make_room.Goals as goal

pub returns-then-segments-gt-MOST_LISTED-clause-same : goal.returns-then-segments-gt-MOST_LISTED-clause-same
returns-then-segments-gt-MOST_LISTED-clause-same c = same_jobs c.args.self.now

pub returns-in_err-reserve-clause-same : goal.returns-in_err-reserve-clause-same
returns-in_err-reserve-clause-same c = same_loose c.args.self.now c.reserve.new.self c.reserve.ensures.items

pub returns-in_err-room-clause-same : goal.returns-in_err-room-clause-same
returns-in_err-room-clause-same c = same_loose c.args.self.now c.reserve.new.self c.reserve.ensures.items

pub returns-in_err-other-clause-same : goal.returns-in_err-other-clause-same
returns-in_err-other-clause-same c = same_loose c.args.self.now c.reserve.new.self c.reserve.ensures.items
