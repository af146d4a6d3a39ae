use Rattle.std.proofs.Common.{ℕ, IsTrue, Some, refl, sym, ◌∙◌, subst}
use Rattle.std.specs.List.{Contains}
use Rattle.disk_model.specs.Images.{bytes_of}
use Rattle.disk_model.specs.Crash.{OnlyBytes, Untouched}
use Rattle.disk_model.proofs.Runs.{run_on, run_untouched}
use Rattle.block_list.specs.Loading.{IsReady}
use Rattle.block_list.specs.declared.body.ListBody.{ListBody}
use Rattle.block_list.proofs.ReadyLemmas.{ready_quiet}
use Rattle.store_images.specs.Stored.{KeepsStored}
use Rattle.store_images.specs.Settled.{IsSettled}
use Rattle.store_images.proofs.Keeping.{keeps_same, keeps_then}
use Rattle.store_files.specs.LogReading.{tail_of}
use Rattle.store_files.specs.declared.error.OpenError.TheVariants.{Fault, NotStore}
use Rattle.store_files.proofs.LogSteps.{handed_on}
use Rattle.store_files.specs.Loose.{used_files}
use Rattle.store_files.proofs.LeftFiles.{freed_same, used_not_spare}
use Rattle.store_files.proofs.LooseFiles.{segment_used, used_low}
use Rattle.store_core.proofs.OpeningSteps.{block_low, listed_used, segment_low, settled_again, used_by, used_stays}
use Rattle.disk_model.proofs.CallRuns.{counts_then}
use Rattle.store_files.proofs.Answered.{fine_answer, handed_answer, other_answer, then_answer}
use Rattle.store_core.proofs.opening.read_store.Goals as goal

pub returns-in-Err-clause-not_store : goal.returns-in-Err-clause-not_store
returns-in-Err-clause-not_store g c = λ told file at is. c.in-Err.ensures.not_store told file at (handed_on _ c.in-Err.error (NotStore file at) refl is)

pub empty_loose-requires-clause-ready : goal.empty_loose-requires-clause-ready
empty_loose-requires-clause-ready g c = λ told_mid.
    let d = g.D.Device in
    let disk = c.args.disk.now in
    let mid = c.read_listed.new.disk in
    let untouched = c.read_listed.ensures.untouched in
    let told : IsTrue (d.tells disk) = subst IsTrue untouched.telling told_mid in
    ready_quiet (d.held disk) (d.held mid) (d.may_leave disk) (d.may_leave mid) (Some c.args.list) (untouched.same_bytes told) untouched.crash (c.requires.ready told)

pub returns-in-Ok-empty_loose-clause-kept : goal.returns-in-Ok-empty_loose-clause-kept
returns-in-Ok-empty_loose-clause-kept g c = λ told.
    let d = g.D.Device in
    let disk = c.args.disk.now in
    let mid = c.read_listed.new.disk in
    let untouched = c.read_listed.ensures.untouched in
    run_on d.moment d.left_since d.may_leave KeepsStored disk mid c.empty_loose.new.disk keeps_then
    (run_untouched d.tells d.held d.may_leave d.moment d.left_since KeepsStored disk mid keeps_same untouched) (c.empty_loose.ensures.kept (subst IsTrue (sym untouched.telling) told))

pub returns-in-Err-empty_loose-clause-kept : goal.returns-in-Err-empty_loose-clause-kept
returns-in-Err-empty_loose-clause-kept g c = λ told.
    let d = g.D.Device in
    let disk = c.args.disk.now in
    let mid = c.read_listed.new.disk in
    let untouched = c.read_listed.ensures.untouched in
    run_on d.moment d.left_since d.may_leave KeepsStored disk mid c.empty_loose.new.disk keeps_then
    (run_untouched d.tells d.held d.may_leave d.moment d.left_since KeepsStored disk mid keeps_same untouched) (c.empty_loose.ensures.kept (subst IsTrue (sym untouched.telling) told))

pub returns-in-Err-empty_loose-clause-not_store : goal.returns-in-Err-empty_loose-clause-not_store
returns-in-Err-empty_loose-clause-not_store g c = λ told file at is.
    absurd (c.in-Err-empty_loose.ensures.a_store file at (handed_on _ c.in-Err-empty_loose.error (NotStore file at) refl is))

pub returns-in-Ok-empty_loose-clause-blocks_still : goal.returns-in-Ok-empty_loose-clause-blocks_still
returns-in-Ok-empty_loose-clause-blocks_still g c = λ told x inside.
    let d = g.D.Device in
    let list : ListBody = c.args.list in
    let rules = c.requires.rules in
    let untouched = c.read_listed.ensures.untouched in
    let others = c.in-Ok-empty_loose.ensures.others (subst IsTrue (sym untouched.telling) told) in
    others.still x.file (block_low list rules x inside) (used_not_spare list rules x.file (listed_used list x inside) (used_stays list rules x.file (listed_used list x inside))) ∙ untouched.same_bytes told x.file

pub returns-in-Ok-empty_loose-clause-settled : goal.returns-in-Ok-empty_loose-clause-settled
returns-in-Ok-empty_loose-clause-settled g c = λ told blocks its stand h stands.
    let d = g.D.Device in
    let disk = c.args.disk.now in
    let mid = c.read_listed.new.disk in
    let new = c.empty_loose.new.disk in
    let list : ListBody = c.args.list in
    let rules = c.requires.rules in
    let read = c.in-Ok.ensures.log in
    let untouched = c.read_listed.ensures.untouched in
    let told_mid : IsTrue (d.tells mid) = subst IsTrue (sym untouched.telling) told in
    let others = c.in-Ok-empty_loose.ensures.others told_mid in
    let tail = tail_of c.in-Ok.read.1 in
    let one_image : (file : ℕ) → Contains (used_files list) file → OnlyBytes file (bytes_of (d.held disk) file) (d.may_leave mid) =
    used_by list (λ (file : ℕ). OnlyBytes file (bytes_of (d.held disk) file) (d.may_leave mid)) (c.in-Ok.ensures.segments_lie told) (c.in-Ok.ensures.blocks_lie told) in
    subst (λ (l : ListBody). IsSettled (d.held new) (d.may_leave new) l blocks tail h) (sym c.in-Ok-empty_loose.ensures.list)
    (settled_again (IsTrue (d.tells disk)) told (d.held disk) (d.held new) (d.may_leave new) list read.0 tail (c.requires.ready told).stands read.2
    (λ file used. others.still file (used_low list rules file used) (used_not_spare list rules file used (used_stays list rules file used)) ∙ untouched.same_bytes told file)
    (λ file used. others.images file (bytes_of (d.held disk) file) (used_low list rules file used) (used_not_spare list rules file used (used_stays list rules file used)) (one_image file used))
    blocks its stand h stands (subst (λ (l : ListBody). IsReady (d.held new) (d.may_leave new) (Some l)) c.in-Ok-empty_loose.ensures.list (c.in-Ok-empty_loose.ensures.ready told_mid)))

pub returns-in-Ok-empty_loose-clause-ready : goal.returns-in-Ok-empty_loose-clause-ready
returns-in-Ok-empty_loose-clause-ready g c = λ told. c.in-Ok-empty_loose.ensures.ready (subst IsTrue (sym c.read_listed.ensures.untouched.telling) told)

pub returns-in-Err-clause-left : goal.returns-in-Err-clause-left
returns-in-Err-clause-left g c = λ other. c.read_listed.ensures.untouched

pub returns-in-Err-empty_loose-clause-left : goal.returns-in-Err-empty_loose-clause-left
returns-in-Err-empty_loose-clause-left g c = λ other.
    let d = g.D.Device in
    subst (λ x. Untouched d.tells d.held d.may_leave d.moment d.left_since c.args.disk.now x) (sym (c.in-Err-empty_loose.ensures.unchanged other)) c.read_listed.ensures.untouched

pub returns-in-Ok-empty_loose-clause-still : goal.returns-in-Ok-empty_loose-clause-still
returns-in-Ok-empty_loose-clause-still g c = λ told x inside.
    let list : ListBody = c.args.list in
    let untouched = c.read_listed.ensures.untouched in
    let others = c.in-Ok-empty_loose.ensures.others (subst IsTrue (sym untouched.telling) told) in
    others.still x.file (segment_low list c.requires.rules x inside) (used_not_spare list c.requires.rules x.file (segment_used list x inside) (used_stays list c.requires.rules x.file (segment_used list x inside))) ∙ untouched.same_bytes told x.file

pub returns-in-Ok-empty_loose-clause-freed : goal.returns-in-Ok-empty_loose-clause-freed
returns-in-Ok-empty_loose-clause-freed g c = λ told.
    let d = g.D.Device in
    let untouched = c.read_listed.ensures.untouched in
    freed_same (d.held c.args.disk.now) (d.held c.read_listed.new.disk) c.args.list.next_file (d.may_leave c.empty_loose.new.disk) (λ file above. untouched.same_bytes told file)
    (c.in-Ok-empty_loose.ensures.freed (subst IsTrue (sym untouched.telling) told))

-- ---- what it counts

pub returns-in-Err-clause-counted : goal.returns-in-Err-clause-counted
returns-in-Err-clause-counted g c = handed_answer g.D.Device Fault c.args.disk.now c.read_listed.new.disk c.in-Err.error c.in-Err.ensures.counted

pub returns-in-Ok-empty_loose-clause-counted : goal.returns-in-Ok-empty_loose-clause-counted
returns-in-Ok-empty_loose-clause-counted g c =
    let d = g.D.Device in
    let disk = c.args.disk.now in
    let mid = c.read_listed.new.disk in
    let new = c.empty_loose.new.disk in
    other_answer d Fault disk new _ (λ is. absurd cc)
    (counts_then d 0 (Unit {0}) ⊥ (Unit {0}) ⊥ disk mid new (fine_answer d 0 Fault disk mid _ c.in-Ok.ensures.counted) tt (fine_answer d 0 Fault mid new _ c.in-Ok-empty_loose.ensures.counted))

pub returns-in-Err-empty_loose-clause-counted : goal.returns-in-Err-empty_loose-clause-counted
returns-in-Err-empty_loose-clause-counted g c =
    let d = g.D.Device in
    let disk = c.args.disk.now in
    let mid = c.read_listed.new.disk in
    let new = c.empty_loose.new.disk in
    then_answer d Fault disk mid new _ (fine_answer d 0 Fault disk mid _ c.in-Ok.ensures.counted) (handed_answer d Fault mid new c.in-Err-empty_loose.error c.in-Err-empty_loose.ensures.counted)
