use Rattle.disk_model.proofs.Runs.{untouched_then}
use Rattle.block_list.proofs.loading.read_both.Goals as goal

pub returns-in_err-first-clause-untouched : goal.returns-in_err-first-clause-untouched
returns-in_err-first-clause-untouched g c =
    let d = g.D.Device in
    untouched_then d.tells d.held d.may_leave d.moment d.left_since c.args.disk.now c.sync_slots.new.disk c.read_counting.new.disk c.sync_slots.ensures.untouched c.read_counting.ensures.untouched

pub returns-in_err-second-clause-untouched : goal.returns-in_err-second-clause-untouched
returns-in_err-second-clause-untouched g c =
    let d = g.D.Device in
    untouched_then d.tells d.held d.may_leave d.moment d.left_since c.args.disk.now c.read_counting.new.disk c.read_counting-2.new.disk
    (untouched_then d.tells d.held d.may_leave d.moment d.left_since c.args.disk.now c.sync_slots.new.disk c.read_counting.new.disk c.sync_slots.ensures.untouched c.read_counting.ensures.untouched)
    c.read_counting-2.ensures.untouched

pub returns-clause-untouched : goal.returns-clause-untouched
returns-clause-untouched g c =
    let d = g.D.Device in
    untouched_then d.tells d.held d.may_leave d.moment d.left_since c.args.disk.now c.read_counting.new.disk c.read_counting-2.new.disk
    (untouched_then d.tells d.held d.may_leave d.moment d.left_since c.args.disk.now c.sync_slots.new.disk c.read_counting.new.disk c.sync_slots.ensures.untouched c.read_counting.ensures.untouched)
    c.read_counting-2.ensures.untouched
