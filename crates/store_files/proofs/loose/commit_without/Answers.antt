use Rattle.std.proofs.Common.{◌+◌, ◌*◌, IsTrue, Some, length, refl, sym, ◌∙◌, subst, arith}
use Rattle.std.specs.List.{Contains}
use Rattle.std.proofs.lemmas.Result.{err_from_is_err_and}
use Rattle.disk_model.proofs.CallRuns.{calls_failed, calls_then, calls_wider}
use Rattle.block_list.specs.Commit.{slot_of}
use Rattle.block_list.proofs.ReadyLemmas.{can_lay}
use Rattle.store_files.specs.Loose.{next_with}
use Rattle.store_files.proofs.LooseFiles.{others_committed}
use Rattle.store_files.proofs.ReclaimImages.{committed_next}
use Rattle.store_files.proofs.loose.commit_without.Goals as goal

pub returns-in_err-empty_files-clause-kept : goal.returns-in_err-empty_files-clause-kept
returns-in_err-empty_files-clause-kept g c = λ told body next_file loose ready may text. c.empty_files.ensures.kept told body ready may.unused

pub returns-in_err-empty_files-clause-others : goal.returns-in_err-empty_files-clause-others
returns-in_err-empty_files-clause-others g c = λ told body next_file loose ready may text. c.empty_files.ensures.others told

pub returns-in_err-empty_files-clause-still : goal.returns-in_err-empty_files-clause-still
returns-in_err-empty_files-clause-still g c = λ told. (c.empty_files.ensures.others told).still

pub returns-in_err-empty_files-clause-counted : goal.returns-in_err-empty_files-clause-counted
returns-in_err-empty_files-clause-counted g c =
    let d = g.D.Device in
    let p = err_from_is_err_and c.from_residual.result c.from_residual.ensures.1 in
    rw p.1 (calls_failed d (2 * length c.args.files.now) 6 (1 + length c.args.text.now.text) c.args.disk.now c.empty_files.new.disk _ _
    (calls_wider d c.args.disk.now c.empty_files.new.disk _ (2 * length c.args.files.now) 0 (1 + length c.args.text.now.text) (omega arith) c.in_err-empty_files.ensures.counted) refl refl)

pub returns-clause-kept : goal.returns-clause-kept
returns-clause-kept g c = λ told body next_file loose ready may text.
    let d = g.D.Device in
    let mid = c.empty_files.new.disk in
    let told_mid : IsTrue (d.tells mid) = subst IsTrue (sym c.empty_files.ensures.counted.telling) told in
    let readied = c.empty_files.ensures.ready told body ready may.unused in
    let can = can_lay (d.held mid) (d.may_leave mid) (Some body) c.args.text.now readied text.generation in
    committed_next d.moment d.left_since d.may_leave c.args.disk.now mid c.commit.new.disk (d.held mid) body next_file loose c.args.files.now (slot_of c.args.text.now)
    (c.empty_files.ensures.kept told body ready may.unused) readied (c.in_ok-empty_files.ensures.emptied told) may (omega arith)
    (c.commit.ensures.any_moment told_mid can (Some body) (next_with body next_file loose) readied.stands text.generation text)

pub returns-clause-ready : goal.returns-clause-ready
returns-clause-ready g c = λ told body next_file loose ready may text.
    let d = g.D.Device in
    let mid = c.empty_files.new.disk in
    let told_mid : IsTrue (d.tells mid) = subst IsTrue (sym c.empty_files.ensures.counted.telling) told in
    let readied = c.empty_files.ensures.ready told body ready may.unused in
    let can = can_lay (d.held mid) (d.may_leave mid) (Some body) c.args.text.now readied text.generation in
    c.commit.ensures.ready told_mid can (Some body) (next_with body next_file loose) readied text

pub returns-clause-others : goal.returns-clause-others
returns-clause-others g c = λ told body next_file loose ready may text.
    let d = g.D.Device in
    let disk = c.args.disk.now in
    let mid = c.empty_files.new.disk in
    let new = c.commit.new.disk in
    let told_mid : IsTrue (d.tells mid) = subst IsTrue (sym c.empty_files.ensures.counted.telling) told in
    let readied = c.empty_files.ensures.ready told body ready may.unused in
    let can = can_lay (d.held mid) (d.may_leave mid) (Some body) c.args.text.now readied text.generation in
    others_committed (Contains c.args.files.now) (d.held disk) (d.held mid) (d.held new) (d.may_leave disk) (d.may_leave mid) (d.may_leave new) (c.empty_files.ensures.others told)
    (slot_of c.args.text.now) _ (omega arith) (c.commit.ensures.besides told_mid)
    (c.commit.ensures.any_moment told_mid can (Some body) (next_with body next_file loose) readied.stands text.generation text).now

pub returns-clause-still : goal.returns-clause-still
returns-clause-still g c = λ told file least apart.
    let d = g.D.Device in
    let told_mid : IsTrue (d.tells c.empty_files.new.disk) = subst IsTrue (sym c.empty_files.ensures.counted.telling) told in
    c.commit.ensures.besides told_mid file (λ is. omega (arith, least, is)) ∙ (c.empty_files.ensures.others told).still file least apart

pub returns-clause-counted : goal.returns-clause-counted
returns-clause-counted g c =
    let d = g.D.Device in
    calls_then d (2 * length c.args.files.now) 6 (1 + length c.args.text.now.text) c.args.disk.now c.empty_files.new.disk c.commit.new.disk _ _
    (calls_wider d c.args.disk.now c.empty_files.new.disk _ (2 * length c.args.files.now) 0 (1 + length c.args.text.now.text) (omega arith) c.in_ok-empty_files.ensures.counted) refl c.commit.ensures.counted
