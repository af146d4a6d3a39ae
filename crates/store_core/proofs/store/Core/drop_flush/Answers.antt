use Rattle.store_core.proofs.DropEvents.{did_dropped}
use Rattle.store_core.proofs.JobRooms.{flush_room}
use Rattle.store_core.proofs.OpenJobs.{open_here}
use Rattle.store_core.proofs.store.Core.drop_flush.Goals as goal

pub drop_flush-requires : goal.drop_flush-requires
drop_flush-requires g c = flush_room c.args.self.now.state.jobs c.args.self.now.state.list c.requires.job.1.state.has.jobs

pub returns : goal.returns
returns g c =
    let known = c.requires.job in
    let was = known.2 in
    let gone = c.drop_flush.ensures in
    did_dropped g.D.Device g.met.D.Device.only_now c.args.self.now c.undo_flush.new.self c.drop_flush.new.self c.args.job.out.number c.args.job.out.file
    (λ m has. open_here c.args.self.now.state known.0 m c.args.job.out.number c.args.job.out.file was.job known.1.state.has was.is_open was.its_number was.its_file has)
    (record { gone = gone.gone; loose = gone.loose; begun = gone.same.0; next_file = gone.same.1; compaction = gone.same.2; capacity = gone.room })
    c.undo_flush.ensures.gone c.undo_flush.ensures.back c.undo_flush.ensures.same
