use Rattle.disk_model.proofs.Runs.{untouched_call, untouched_then}
use Rattle.block_list.proofs.loading.sync_slots.Goals as goal

pub returns-in_err-sync-clause-untouched : goal.returns-in_err-sync-clause-untouched
returns-in_err-sync-clause-untouched g c =
    let d = g.D.Device in
    let s = c.sync.ensures in
    untouched_call d.tells d.held d.may_leave d.moment d.left_since c.args.disk.now c.sync.new.self (g.met.D.Device.only_now c.args.disk.now) s.counted.telling s.same_bytes s.crash s.time

pub returns-clause-untouched : goal.returns-clause-untouched
returns-clause-untouched g c =
    let d = g.D.Device in
    let s = c.sync.ensures in
    let t = c.sync-2.ensures in
    untouched_then d.tells d.held d.may_leave d.moment d.left_since c.args.disk.now c.sync.new.self c.sync-2.new.self
    (untouched_call d.tells d.held d.may_leave d.moment d.left_since c.args.disk.now c.sync.new.self (g.met.D.Device.only_now c.args.disk.now) s.counted.telling s.same_bytes s.crash s.time)
    (untouched_call d.tells d.held d.may_leave d.moment d.left_since c.sync.new.self c.sync-2.new.self (g.met.D.Device.only_now c.sync.new.self) t.counted.telling t.same_bytes t.crash t.time)
