use Rattle.store_files.specs.declared.error.OpenError.TheVariants.{Fault}
use Rattle.disk_model.proofs.CallRuns.{passes_once}
use Rattle.store_files.proofs.Answered.{plain_fault, plain_fine, then_answer}
use Rattle.store_files.proofs.blocks.last_bytes.Goals as goal

pub returns-in_default-clause-counted : goal.returns-in_default-clause-counted
returns-in_default-clause-counted g c = plain_fault g.D.Device Fault c.args.disk.now c.sync.new.self _ (passes_once g.D.Device _ _ c.sync.ensures.time) c.in_default.ensures.counted

pub returns-clause-counted : goal.returns-clause-counted
returns-clause-counted g c =
    let d = g.D.Device in
    let disk = c.args.disk.now in
    let mid = c.sync.new.self in
    then_answer d Fault disk mid c.file_bytes.new.disk _ (plain_fine d disk mid _ (passes_once g.D.Device _ _ c.sync.ensures.time) c.in-Ok.ensures.counted) c.file_bytes.ensures.counted
