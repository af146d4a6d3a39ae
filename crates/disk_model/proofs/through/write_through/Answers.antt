-- What a crash leaves while one file is changed and synced.
use Rattle.std.proofs.Common.{length}
use Rattle.disk_model.specs.Bytes.{Torn}
use Rattle.disk_model.proofs.Passing.{torn_same, passes_known, one_change, one_change_synced}
use Rattle.disk_model.proofs.through.write_through.Goals as goal

pub returns-in_err-write-clause-any_moment : goal.returns-in_err-write-clause-any_moment
returns-in_err-write-clause-any_moment g c =
    one_change g.D.Device.moment g.D.Device.left_since g.D.Device.may_leave c.args.file (Torn c.args.at (length c.args.bytes.now)) (torn_same c.args.at (length c.args.bytes.now)) c.args.disk.now c.write.new.self
    (g.met.D.Device.only_now c.args.disk.now) c.write.ensures.crash c.write.ensures.time

pub returns-in_err-write-clause-passes : goal.returns-in_err-write-clause-passes
returns-in_err-write-clause-passes g c = λ known only.
    passes_known g.D.Device.moment g.D.Device.left_since g.D.Device.may_leave c.args.file (Torn c.args.at (length c.args.bytes.now)) known c.args.disk.now c.write.new.self
    (returns-in_err-write-clause-any_moment g c) c.write.ensures.crash only

pub returns-clause-any_moment : goal.returns-clause-any_moment
returns-clause-any_moment g c =
    one_change_synced g.D.Device.moment g.D.Device.left_since g.D.Device.may_leave c.args.file (Torn c.args.at (length c.args.bytes.now)) (torn_same c.args.at (length c.args.bytes.now)) c.args.disk.now c.write.new.self c.sync.new.self
    (g.met.D.Device.only_now c.args.disk.now) c.write.ensures.crash c.write.ensures.time c.sync.ensures.crash c.sync.ensures.time

pub returns-clause-passes : goal.returns-clause-passes
returns-clause-passes g c = λ known only.
    passes_known g.D.Device.moment g.D.Device.left_since g.D.Device.may_leave c.args.file (Torn c.args.at (length c.args.bytes.now)) known c.args.disk.now c.sync.new.self
    (returns-clause-any_moment g c) (λ image left. c.write.ensures.crash image (c.sync.ensures.crash image left)) only
