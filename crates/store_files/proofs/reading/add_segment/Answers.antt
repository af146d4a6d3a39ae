use Rattle.std.proofs.Common.{◌++◌, List, IsTrue, Err, sym, ◌∙◌, ap, subst}
use Rattle.disk_model.specs.Images.{bytes_of}
use Rattle.disk_model.proofs.Runs.{untouched_call, untouched_then}
use Rattle.head_log.specs.declared.numbered.NumberedBatch.{NumberedBatch}
use Rattle.head_log.specs.declared.read_back.LogError.TheVariants as log_errors
use Rattle.store_files.specs.declared.error.OpenError.TheVariants.{Fault}
use Rattle.disk_model.proofs.CallRuns.{counts_then, passes_once}
use Rattle.store_files.proofs.Answered.{broke_answer, fine_answer, other_answer, plain_fault, plain_fine, then_answer, went_well}
use Rattle.store_files.proofs.LogSteps.{read_of}
use Rattle.store_files.proofs.reading.add_segment.Goals as goal

pub returns-in-Ok-append-clause-read : goal.returns-in-Ok-append-clause-read
returns-in-Ok-append-clause-read g c =
    let d = g.D.Device in
    let disk = c.args.disk.now in
    let mid = c.sync.new.self in
    let ref = c.args.segment.now in
    let told_mid : IsTrue (d.tells disk) → IsTrue (d.tells mid) = λ told. subst IsTrue (sym c.sync.ensures.counted.telling) told in
    read_of (d.tells disk) (bytes_of (d.held disk) ref.file) (bytes_of (d.held mid) ref.file) ref c.in-Ok-scan.found _ _ _ c.requires (λ told. c.sync.ensures.same_bytes told ref.file)
    c.in-Ok-scan.ensures.numbered (λ told. c.in-Ok-scan.ensures.stands (told_mid told)) c.in-Ok-scan.ensures.named c.in-Ok-scan.ensures.below
    (c.in-Ok-append.ensures.items ∙ ap (λ (l : List NumberedBatch). c.args.batches.now.items ++ l) c.into_vec-entries.ensures)

pub returns-in-Ok-append-clause-lies : goal.returns-in-Ok-append-clause-lies
returns-in-Ok-append-clause-lies g c = λ told image left.
    c.in-Ok.ensures.lasting told image (c.scan.ensures.untouched.crash image left) ∙ c.sync.ensures.same_bytes told c.args.segment.now.file

pub returns-in-Ok-append-clause-untouched : goal.returns-in-Ok-append-clause-untouched
returns-in-Ok-append-clause-untouched g c =
    let d = g.D.Device in
    let disk = c.args.disk.now in
    let mid = c.sync.new.self in
    untouched_then d.tells d.held d.may_leave d.moment d.left_since disk mid c.scan.new.disk
    (untouched_call d.tells d.held d.may_leave d.moment d.left_since disk mid (g.met.D.Device.only_now disk) c.sync.ensures.counted.telling c.sync.ensures.same_bytes c.sync.ensures.crash c.sync.ensures.time)
    c.scan.ensures.untouched

-- ---- what it counts

pub returns-in_default-clause-counted : goal.returns-in_default-clause-counted
returns-in_default-clause-counted g c = plain_fault g.D.Device Fault c.args.disk.now c.sync.new.self _ (passes_once g.D.Device _ _ c.sync.ensures.time) c.in_default.ensures.counted

pub returns-in-Ok-append-clause-counted : goal.returns-in-Ok-append-clause-counted
returns-in-Ok-append-clause-counted g c =
    let d = g.D.Device in
    let disk = c.args.disk.now in
    let mid = c.sync.new.self in
    let new = c.scan.new.disk in
    other_answer d Fault disk new _ (λ is. absurd cc)
    (counts_then d 0 (Unit {0}) ⊥ (Unit {0}) ⊥ disk mid new (plain_fine d disk mid _ (passes_once g.D.Device _ _ c.sync.ensures.time) c.in-Ok.ensures.counted) tt (fine_answer d 0 log_errors.Fault mid new _ c.in-Ok-scan.ensures.counted))

pub returns-in-Err-Fault-clause-counted : goal.returns-in-Err-Fault-clause-counted
returns-in-Err-Fault-clause-counted g c =
    let d = g.D.Device in
    let disk = c.args.disk.now in
    let mid = c.sync.new.self in
    let new = c.scan.new.disk in
    then_answer d Fault disk mid new _ (plain_fine d disk mid _ (passes_once g.D.Device _ _ c.sync.ensures.time) c.in-Ok.ensures.counted)
    (broke_answer d Fault mid new c.in-Err-Fault.ensures.counted (ap Err c.in-Err-Fault.field-0-is))

pub returns-in-Err-NotLog-clause-counted : goal.returns-in-Err-NotLog-clause-counted
returns-in-Err-NotLog-clause-counted g c =
    let d = g.D.Device in
    let disk = c.args.disk.now in
    let mid = c.sync.new.self in
    let new = c.scan.new.disk in
    let e = c.in-Err-NotLog.field-0-is in
    other_answer d Fault disk new _ (λ is. absurd cc)
    (counts_then d 0 (Unit {0}) ⊥ (Unit {0}) ⊥ disk mid new (plain_fine d disk mid _ (passes_once g.D.Device _ _ c.sync.ensures.time) c.in-Ok.ensures.counted) tt (went_well d mid new c.in-Err-NotLog.ensures.counted (λ is. absurd cc) (λ is. absurd cc)))
