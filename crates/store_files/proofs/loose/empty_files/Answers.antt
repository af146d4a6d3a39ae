use Rattle.std.proofs.Common.{◌<◌, ◌+◌, ◌*◌, IsTrue, length, get_or, refl, sym, subst, arith}
use Rattle.std.specs.List.{Contains}
use Rattle.std.proofs.lemmas.Result.{err_from_is_err_and}
use Rattle.std.proofs.lemmas.List.Elements.{Contains-get_or}
use Rattle.disk_model.proofs.CallRuns.{calls_then}
use Rattle.disk_model.specs.Images.{bytes_of}
use Rattle.store_files.proofs.Answered.{no_calls, count_as, calls_short}
use Rattle.store_files.proofs.LooseFiles.{emptied_then, nothing_done, others_same, others_emptied, empty_now, emptied_more, emptied_all}
use Rattle.store_files.proofs.loose.empty_files.Goals as goal

pub loop-file-init : goal.loop-file-init
loop-file-init g c =
    let d = g.D.Device in
    let disk = c.args.disk.now in
    record {
      so_far = λ told body ready is. (nothing_done d.moment d.left_since d.may_leave disk (g.met.D.Device.only_now disk), ready);
      emptied = λ told k below. absurd (omega (arith, below));
      others = λ told. others_same (Contains c.args.files.now) (d.held disk) (d.may_leave disk);
      made = no_calls d 0 disk;
    }

pub loop-file-preserved : goal.loop-file-preserved
loop-file-preserved g c =
    let d = g.D.Device in
    let mid = c.loop-file.disk in
    let new = c.cut_through.new.disk in
    let files = c.args.files.now in
    let n = c.loop-file.file-index in
    let inside : n < length files = omega arith in
    record {
      so_far = λ told body ready is.
          let so_far = c.loop-file.invariant.so_far told body ready is in
          let told_mid : IsTrue (d.tells mid) = subst IsTrue (sym c.loop-file.invariant.made.telling) told in
          emptied_then d.moment d.left_since d.may_leave c.args.disk.now mid new (d.held mid) (d.held new) body files is (get_or files n 0) so_far.0 so_far.1
          (Contains-get_or files n 0 inside) c.cut_through.ensures.any_moment c.cut_through.ensures.crash (c.cut_through.ensures.besides told_mid);
      emptied = λ told.
          let told_mid : IsTrue (d.tells mid) = subst IsTrue (sym c.loop-file.invariant.made.telling) told in
          emptied_more files n _ (d.may_leave mid) (d.may_leave new) (c.loop-file.invariant.emptied told) c.cut_through.ensures.crash
          (empty_now (get_or files n 0) (d.held new) (bytes_of (d.held mid) (get_or files n 0)) (d.may_leave new) (c.in_ok-cut_through.ensures.shortened told_mid) (c.in_ok-cut_through.ensures.lasting told_mid));
      others = λ told.
          let told_mid : IsTrue (d.tells mid) = subst IsTrue (sym c.loop-file.invariant.made.telling) told in
          others_emptied (Contains files) (d.held c.args.disk.now) (d.held mid) (d.held new) (d.may_leave c.args.disk.now) (d.may_leave mid) (d.may_leave new) (c.loop-file.invariant.others told)
          (get_or files n 0) _ (Contains-get_or files n 0 inside) (c.cut_through.ensures.besides told_mid) c.cut_through.ensures.crash;
      made = count_as d 0 c.args.disk.now new _ (2 * n + 2) (2 * (n + 1)) (omega arith) (calls_then d (2 * n) 2 0 c.args.disk.now mid new _ _ c.loop-file.invariant.made refl c.in_ok-cut_through.ensures.counted);
    }

pub returns-in_err-cut_through-clause-counted : goal.returns-in_err-cut_through-clause-counted
returns-in_err-cut_through-clause-counted g c =
    let d = g.D.Device in
    let n = c.loop-file.file-index in
    let inside : n < length c.args.files.now = omega arith in
    let disk = c.args.disk.now in
    let new = c.cut_through.new.disk in
    let p = err_from_is_err_and c.from_residual.result c.from_residual.ensures.1 in
    rw p.1 (calls_short d 0 disk new _ (2 * n + 2) (2 * length c.args.files.now) (omega (arith, inside)) refl
    (calls_then d (2 * n) 2 0 disk c.loop-file.disk new _ _ c.loop-file.invariant.made refl c.in_err-cut_through.ensures.counted))

pub returns-in_err-cut_through-clause-kept : goal.returns-in_err-cut_through-clause-kept
returns-in_err-cut_through-clause-kept g c = λ told body ready is.
    let d = g.D.Device in
    let mid = c.loop-file.disk in
    let new = c.cut_through.new.disk in
    let files = c.args.files.now in
    let n = c.loop-file.file-index in
    let inside : n < length files = omega arith in
    let so_far = c.loop-file.invariant.so_far told body ready is in
    let told_mid : IsTrue (d.tells mid) = subst IsTrue (sym c.loop-file.invariant.made.telling) told in
    (emptied_then d.moment d.left_since d.may_leave c.args.disk.now mid new (d.held mid) (d.held new) body files is (get_or files n 0) so_far.0 so_far.1
    (Contains-get_or files n 0 inside) c.cut_through.ensures.any_moment c.cut_through.ensures.crash (c.cut_through.ensures.besides told_mid)).0

pub returns-in_err-cut_through-clause-ready : goal.returns-in_err-cut_through-clause-ready
returns-in_err-cut_through-clause-ready g c = λ told body ready is.
    let d = g.D.Device in
    let mid = c.loop-file.disk in
    let new = c.cut_through.new.disk in
    let files = c.args.files.now in
    let n = c.loop-file.file-index in
    let inside : n < length files = omega arith in
    let so_far = c.loop-file.invariant.so_far told body ready is in
    let told_mid : IsTrue (d.tells mid) = subst IsTrue (sym c.loop-file.invariant.made.telling) told in
    (emptied_then d.moment d.left_since d.may_leave c.args.disk.now mid new (d.held mid) (d.held new) body files is (get_or files n 0) so_far.0 so_far.1
    (Contains-get_or files n 0 inside) c.cut_through.ensures.any_moment c.cut_through.ensures.crash (c.cut_through.ensures.besides told_mid)).1

pub returns-in_err-cut_through-clause-others : goal.returns-in_err-cut_through-clause-others
returns-in_err-cut_through-clause-others g c = λ told.
    let d = g.D.Device in
    let mid = c.loop-file.disk in
    let new = c.cut_through.new.disk in
    let files = c.args.files.now in
    let n = c.loop-file.file-index in
    let inside : n < length files = omega arith in
    let told_mid : IsTrue (d.tells mid) = subst IsTrue (sym c.loop-file.invariant.made.telling) told in
    others_emptied (Contains files) (d.held c.args.disk.now) (d.held mid) (d.held new) (d.may_leave c.args.disk.now) (d.may_leave mid) (d.may_leave new) (c.loop-file.invariant.others told)
    (get_or files n 0) _ (Contains-get_or files n 0 inside) (c.cut_through.ensures.besides told_mid) c.cut_through.ensures.crash

pub returns-clause-kept : goal.returns-clause-kept
returns-clause-kept g c = λ told body ready is. (c.loop-file.invariant.so_far told body ready is).0

pub returns-clause-ready : goal.returns-clause-ready
returns-clause-ready g c = λ told body ready is. (c.loop-file.invariant.so_far told body ready is).1

pub returns-clause-emptied : goal.returns-clause-emptied
returns-clause-emptied g c = λ told.
    let d = g.D.Device in
    emptied_all c.args.files.now (d.may_leave c.loop-file.disk) (λ k below. c.loop-file.invariant.emptied told k (omega (arith, below)))
