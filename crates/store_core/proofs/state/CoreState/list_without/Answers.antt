use Rattle.std.proofs.Common.{arith}
use Rattle.store_core.proofs.NextRoom.{one_at_most, two_at_most}
use Rattle.store_core.proofs.ReclaimStates.{as_kept}
use Rattle.store_core.proofs.state.CoreState.list_without.Goals as goal

pub edited-list-requires-clause-loose : goal.edited-list-requires-clause-loose
edited-list-requires-clause-loose c =
    let flush = two_at_most c.flush_files.result in
    let compaction = one_at_most c.compact_file.result in
    let room = c.in_ok-room.ensures.loose in
    omega (arith, flush, compaction, room)

pub returns-clause-list : goal.returns-clause-list
returns-clause-list c = as_kept c.args.self.now.list c.args.self.now.jobs c.args.kept.now _ _ _ c.flush_files.ensures c.compact_file.ensures c.edited-list.ensures
