use Rattle.store_state.specs.Given.{info_files}
use Rattle.store_core.proofs.CompactDrops.{did_dropped}
use Rattle.store_core.proofs.JobRooms.{compaction_room}
use Rattle.store_core.proofs.OpenCompactions.{compaction_here}
use Rattle.store_core.proofs.store.Core.drop_compact.Goals as goal

pub drop_compact-requires : goal.drop_compact-requires
drop_compact-requires g c = compaction_room c.args.self.now.state.jobs c.args.self.now.state.list c.requires.job.1.state.has.jobs

pub returns : goal.returns
returns g c =
    let known = c.requires.job in
    let job = c.args.job in
    let core = c.args.self.now.state in
    let gone = c.drop_compact.ensures in
    did_dropped g.D.Device g.met.D.Device.only_now c.args.self.now c.drop_compact.new.self c.free_number.new.pins job.out.number job.out.file job.level job.pin.number (info_files job.pin.blocks)
    (λ m has. compaction_here core known.0 m job.out.number job.out.file job.level job.pin.number (info_files job.pin.blocks) known.1.state.has known.2 has)
    (record { gone = gone.gone; loose = gone.loose; begun = gone.same.0; next_file = gone.same.1; flush = gone.same.2; capacity = gone.room })
    (record { taken = c.free_number.ensures.taken; files = c.free_number.ensures.files })
