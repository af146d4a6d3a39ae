-- What a crash leaves while one file is changed and synced.
use Rattle.disk_model.specs.Bytes.{HalfCut}
use Rattle.disk_model.proofs.Passing.{cut_same, passes_known, one_change, one_change_synced}
use Rattle.disk_model.proofs.through.cut_through.Goals as goal

pub returns-in_err-cut-clause-any_moment : goal.returns-in_err-cut-clause-any_moment
returns-in_err-cut-clause-any_moment g c =
    one_change g.D.Device.moment g.D.Device.left_since g.D.Device.may_leave c.args.file (HalfCut c.args.len) (cut_same c.args.len) c.args.disk.now c.cut.new.self
    (g.met.D.Device.only_now c.args.disk.now) c.cut.ensures.crash c.cut.ensures.time

pub returns-in_err-cut-clause-passes : goal.returns-in_err-cut-clause-passes
returns-in_err-cut-clause-passes g c = λ known only.
    passes_known g.D.Device.moment g.D.Device.left_since g.D.Device.may_leave c.args.file (HalfCut c.args.len) known c.args.disk.now c.cut.new.self
    (returns-in_err-cut-clause-any_moment g c) c.cut.ensures.crash only

pub returns-clause-any_moment : goal.returns-clause-any_moment
returns-clause-any_moment g c =
    one_change_synced g.D.Device.moment g.D.Device.left_since g.D.Device.may_leave c.args.file (HalfCut c.args.len) (cut_same c.args.len) c.args.disk.now c.cut.new.self c.sync.new.self
    (g.met.D.Device.only_now c.args.disk.now) c.cut.ensures.crash c.cut.ensures.time c.sync.ensures.crash c.sync.ensures.time

pub returns-clause-passes : goal.returns-clause-passes
returns-clause-passes g c = λ known only.
    passes_known g.D.Device.moment g.D.Device.left_since g.D.Device.may_leave c.args.file (HalfCut c.args.len) known c.args.disk.now c.sync.new.self
    (returns-clause-any_moment g c) (λ image left. c.cut.ensures.crash image (c.sync.ensures.crash image left)) only
