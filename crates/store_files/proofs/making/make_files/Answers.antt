use Rattle.std.proofs.Common.{[], IsTrue, refl, sym, ◌∙◌, subst, arith}
use Rattle.std.proofs.lemmas.Result.{err_from_is_err_and}
use Rattle.disk_model.specs.Images.{OnFile}
use Rattle.disk_model.specs.Bytes.{HalfCut}
use Rattle.disk_model.proofs.CallRuns.{calls_failed, calls_then, calls_wider}
use Rattle.disk_model.proofs.Passing.{other_stays_run}
use Rattle.disk_model.proofs.Runs.{run_more, run_on}
use Rattle.store_files.specs.Files.{SameBelow, IsEmptied}
use Rattle.store_files.proofs.Apart.{below_change, below_in_file, below_then, emptied, ok_anyway, ok_each}
use Rattle.store_files.proofs.making.make_files.Goals as goal

pub returns-in_err-cut_through-clause-any_moment : goal.returns-in_err-cut_through-clause-any_moment
returns-in_err-cut_through-clause-any_moment g c = λ limit low high.
    let d = g.D.Device in
    run_more d.moment d.left_since d.may_leave (OnFile c.args.files.block (HalfCut 0)) (SameBelow limit) c.args.disk.now c.cut_through.new.disk
    (record { since = c.cut_through.ensures.any_moment; now = c.cut_through.ensures.crash })
    (λ origin image possible change. below_change limit c.args.files.block (HalfCut 0) origin image low change)

pub returns-clause-any_moment : goal.returns-clause-any_moment
returns-clause-any_moment g c = λ limit low high.
    let d = g.D.Device in
    let first = run_more d.moment d.left_since d.may_leave (OnFile c.args.files.block (HalfCut 0)) (SameBelow limit) c.args.disk.now c.cut_through.new.disk
    (record { since = c.cut_through.ensures.any_moment; now = c.cut_through.ensures.crash })
    (λ origin image possible change. below_change limit c.args.files.block (HalfCut 0) origin image low change) in
    run_on d.moment d.left_since d.may_leave (SameBelow limit) c.args.disk.now c.cut_through.new.disk c.create.new.disk (below_then limit) first
    (below_in_file d.moment d.left_since d.may_leave limit c.args.files.segment _ _ c.cut_through.new.disk c.create.new.disk high c.create.ensures.any_moment)

pub returns-in_err-cut_through-clause-others : goal.returns-in_err-cut_through-clause-others
returns-in_err-cut_through-clause-others g c = λ told file first second. c.cut_through.ensures.besides told file first

pub returns-clause-others : goal.returns-clause-others
returns-clause-others g c = λ told file first second.
    c.create.ensures.besides (subst IsTrue (sym c.cut_through.ensures.counted.telling) told) file second ∙ c.cut_through.ensures.besides told file first

pub returns-clause-empty : goal.returns-clause-empty
returns-clause-empty g c = λ told.
    let d = g.D.Device in
    let cut = emptied (d.held c.cut_through.new.disk) (d.may_leave c.cut_through.new.disk) c.args.files.block (c.in_ok-cut_through.ensures.shortened told) (c.in_ok-cut_through.ensures.lasting told) in
    ok_anyway c.create.result (IsEmptied (d.held c.create.new.disk) (d.may_leave c.create.new.disk) c.args.files.block) (
      c.create.ensures.besides (subst IsTrue (sym c.cut_through.ensures.counted.telling) told) c.args.files.block c.requires ∙ cut.0,
      other_stays_run c.args.files.segment c.args.files.block _ [] (d.may_leave c.cut_through.new.disk) (d.may_leave c.create.new.disk) c.requires cut.1 c.create.ensures.any_moment.now,
    )

pub returns-clause-segment : goal.returns-clause-segment
returns-clause-segment g c = λ told.
    ok_each c.create.result _ _ (λ first. c.create.ensures.empty first (subst IsTrue (sym c.cut_through.ensures.counted.telling) told))

pub returns-in_err-cut_through-clause-counted : goal.returns-in_err-cut_through-clause-counted
returns-in_err-cut_through-clause-counted g c =
    let d = g.D.Device in
    let disk = c.args.disk.now in
    let mid = c.cut_through.new.disk in
    let p = err_from_is_err_and c.from_residual.result c.from_residual.ensures.1 in
    rw p.1 (calls_failed d 2 3 2 disk mid _ _ (calls_wider d disk mid _ 2 0 2 (omega arith) c.in_err-cut_through.ensures.counted) refl refl)

pub returns-clause-counted : goal.returns-clause-counted
returns-clause-counted g c =
    let d = g.D.Device in
    let disk = c.args.disk.now in
    let mid = c.cut_through.new.disk in
    calls_then d 2 3 2 disk mid c.create.new.disk _ _ (calls_wider d disk mid _ 2 0 2 (omega arith) c.in_ok-cut_through.ensures.counted) refl c.create.ensures.counted
