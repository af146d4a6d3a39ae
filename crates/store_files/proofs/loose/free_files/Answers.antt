use Rattle.std.proofs.Common.{◌⊎◌, inl, inr, ◌*◌, ◌≤◌, ℕ, IsTrue, [], length, refl, sym, subst, arith}
use Rattle.std.specs.List.{Contains}
use Rattle.std.proofs.lemmas.Result.{err_from_is_err_and}
use Rattle.disk_model.proofs.CallRuns.{calls_counts, counts_as, counts_then}
use Rattle.disk_model.proofs.Runs.{run_on}
use Rattle.store_images.specs.Stored.{KeepsStored}
use Rattle.store_images.proofs.Keeping.{keeps_then}
use Rattle.store_files.proofs.Apart.{ok_anyway, ok_then}
use Rattle.store_files.proofs.Answered.{fine_calls}
use Rattle.store_files.proofs.LeftFiles.{freed_same, others_then, others_wider}
use Rattle.store_files.proofs.loose.free_files.Goals as goal

pub returns-in_err-empty_files-clause-kept : goal.returns-in_err-empty_files-clause-kept
returns-in_err-empty_files-clause-kept g c = λ told body ready unused low. c.empty_files.ensures.kept told body ready unused

pub returns-in_err-empty_files-clause-ready : goal.returns-in_err-empty_files-clause-ready
returns-in_err-empty_files-clause-ready g c = λ told body ready unused low. c.empty_files.ensures.ready told body ready unused

pub returns-in_err-empty_files-clause-others : goal.returns-in_err-empty_files-clause-others
returns-in_err-empty_files-clause-others g c = λ told.
    let d = g.D.Device in
    let disk = c.args.disk.now in
    let mid = c.empty_files.new.disk in
    others_wider (Contains c.args.files.now) (λ (file : ℕ). (c.args.first ≤ file) ⊎ Contains c.args.files.now file) (d.held disk) (d.held mid) (d.may_leave disk) (d.may_leave mid) (λ file inside. inr inside)
    (c.empty_files.ensures.others told)

pub returns-in_err-empty_files-clause-counted : goal.returns-in_err-empty_files-clause-counted
returns-in_err-empty_files-clause-counted g c =
    let d = g.D.Device in
    let p = err_from_is_err_and c.from_residual.result c.from_residual.ensures.1 in
    rw p.1 (counts_as d 0 _ _ _ _ c.args.disk.now c.empty_files.new.disk (calls_counts d c.args.disk.now c.empty_files.new.disk _ (2 * length c.args.files.now) 0 c.in_err-empty_files.ensures.counted)
    (λ ok. absurd cc) (λ err. refl))

pub returns-clause-kept : goal.returns-clause-kept
returns-clause-kept g c = λ told body ready unused low.
    let d = g.D.Device in
    let mid = c.empty_files.new.disk in
    let told_mid : IsTrue (d.tells mid) = subst IsTrue (sym c.empty_files.ensures.counted.telling) told in
    run_on d.moment d.left_since d.may_leave KeepsStored c.args.disk.now mid c.empty_left.new.disk keeps_then (c.empty_files.ensures.kept told body ready unused)
    (c.empty_left.ensures.kept told_mid body (c.empty_files.ensures.ready told body ready unused) low)

pub returns-clause-ready : goal.returns-clause-ready
returns-clause-ready g c = λ told body ready unused low.
    let d = g.D.Device in
    let told_mid : IsTrue (d.tells c.empty_files.new.disk) = subst IsTrue (sym c.empty_files.ensures.counted.telling) told in
    c.empty_left.ensures.ready told_mid body (c.empty_files.ensures.ready told body ready unused) low

pub returns-clause-emptied : goal.returns-clause-emptied
returns-clause-emptied g c = λ told.
    let d = g.D.Device in
    let told_mid : IsTrue (d.tells c.empty_files.new.disk) = subst IsTrue (sym c.empty_files.ensures.counted.telling) told in
    ok_anyway c.empty_left.result _ (λ file inside low below.
    (c.empty_left.ensures.others told_mid).images file [] low (λ beyond. omega (arith, below, beyond)) (c.in_ok-empty_files.ensures.emptied told file inside))

pub returns-clause-freed : goal.returns-clause-freed
returns-clause-freed g c = λ told low.
    let d = g.D.Device in
    let disk = c.args.disk.now in
    let mid = c.empty_files.new.disk in
    let told_mid : IsTrue (d.tells mid) = subst IsTrue (sym c.empty_files.ensures.counted.telling) told in
    ok_then c.empty_left.result _ _ (λ freed. freed_same (d.held disk) (d.held mid) c.args.first (d.may_leave c.empty_left.new.disk)
    (λ file above. (c.empty_files.ensures.others told).still file (let least = c.requires.given in omega (arith, least, above)) (λ inside. let below = low file inside in omega (arith, below, above))) freed)
    (c.empty_left.ensures.freed told_mid)

pub returns-clause-others : goal.returns-clause-others
returns-clause-others g c = λ told.
    let d = g.D.Device in
    let disk = c.args.disk.now in
    let mid = c.empty_files.new.disk in
    let new = c.empty_left.new.disk in
    let told_mid : IsTrue (d.tells mid) = subst IsTrue (sym c.empty_files.ensures.counted.telling) told in
    others_then (λ (file : ℕ). (c.args.first ≤ file) ⊎ Contains c.args.files.now file) (d.held disk) (d.held mid) (d.held new) (d.may_leave disk) (d.may_leave mid) (d.may_leave new)
    (others_wider (Contains c.args.files.now) (λ (file : ℕ). (c.args.first ≤ file) ⊎ Contains c.args.files.now file) (d.held disk) (d.held mid) (d.may_leave disk) (d.may_leave mid) (λ file inside. inr inside)
    (c.empty_files.ensures.others told))
    (others_wider (λ (file : ℕ). c.args.first ≤ file) (λ (file : ℕ). (c.args.first ≤ file) ⊎ Contains c.args.files.now file) (d.held mid) (d.held new) (d.may_leave mid) (d.may_leave new) (λ file beyond. inl beyond)
    (c.empty_left.ensures.others told_mid))

pub returns-clause-counted : goal.returns-clause-counted
returns-clause-counted g c =
    let d = g.D.Device in
    let disk = c.args.disk.now in
    let mid = c.empty_files.new.disk in
    counts_then d 0 (Unit {0}) ⊥ _ _ disk mid c.empty_left.new.disk (fine_calls d (2 * length c.args.files.now) 0 disk mid _ c.in_ok-empty_files.ensures.counted) tt c.empty_left.ensures.counted
