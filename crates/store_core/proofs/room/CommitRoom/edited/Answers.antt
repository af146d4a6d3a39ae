use Rattle.std.proofs.Common.{length-append, arith}
use Rattle.store_state.specs.Edited.{edit_of, one_of}
use Rattle.store_state.specs.Loose.{flush_part}
use Rattle.store_core.proofs.NextRoom.{text_fits}
use Rattle.store_core.proofs.room.CommitRoom.edited.Goals as goal

pub edited-body-requires-clause-blocks : goal.edited-body-requires-clause-blocks
edited-body-requires-clause-blocks c =
    let fits = c.requires.fits in
    let some = fits.1 in
    let room = fits.3.blocks in
    omega (arith, some, room)

pub edited-body-requires-clause-segments : goal.edited-body-requires-clause-segments
edited-body-requires-clause-segments c =
    let fits = c.requires.fits in
    let some = fits.1 in
    let room = fits.3.segments in
    omega (arith, some, room)

pub edited-body-requires-clause-loose : goal.edited-body-requires-clause-loose
edited-body-requires-clause-loose c =
    let fits = c.requires.fits in
    let few = fits.2 in
    let room = fits.3.files in
    omega (arith, few, room)

pub refill-requires-clause-rules : goal.refill-requires-clause-rules
refill-requires-clause-rules c = c.requires.rules c.edited-body.result c.edited-body.ensures

pub refill-requires-clause-room : goal.refill-requires-clause-room
refill-requires-clause-room c =
    let edit = c.args.edit in
    text_fits c.args.self c.args.list.now (edit_of edit) c.edited-body.result _ (length-append (flush_part edit.flush) (one_of edit.compaction)) c.requires.fits c.edited-body.ensures
