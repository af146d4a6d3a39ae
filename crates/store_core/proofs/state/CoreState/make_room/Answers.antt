use Rattle.store_core.proofs.MadeRooms.{one_job, room_still, infos_still}
use Rattle.store_core.proofs.state.CoreState.make_room.Goals as goal

pub make_room-requires : goal.make_room-requires
make_room-requires c = one_job c.args.self.now.jobs c.requires

pub returns-in_err-reserve-clause-still : goal.returns-in_err-reserve-clause-still
returns-in_err-reserve-clause-still c = infos_still c.args.self.now c.reserve.new.self c.reserve.ensures.items c.reserve.ensures.capacity

pub returns-clause-still : goal.returns-clause-still
returns-clause-still c =
    let room = c.make_room.ensures in
    room_still c.args.self.now c.reserve.new.self c.make_room.new.self c.make_room.result c.reserve.ensures.items c.reserve.ensures.capacity c.in_ok-reserve.ensures.ok room.same room.others room.room room.refused
