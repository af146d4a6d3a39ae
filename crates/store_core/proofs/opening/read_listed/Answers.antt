use Rattle.std.proofs.Common.{IsTrue, List, refl, sym, ◌∙◌, subst}
use Rattle.std.specs.List.{Contains}
use Rattle.disk_model.proofs.Runs.{untouched_then}
use Rattle.block_list.specs.declared.body.BlockRef.{BlockRef}
use Rattle.store_images.specs.Stored.{first_number}
use Rattle.store_files.specs.BlockReading.{BlocksBreak, BlocksRead}
use Rattle.store_files.specs.LogReading.{tail_of}
use Rattle.store_core.specs.Opening.ListBreaks.{block, log}
use Rattle.store_files.specs.declared.error.OpenError.TheVariants.{Fault, NotStore}
use Rattle.store_files.proofs.LogSteps.{handed_on, log_read_before}
use Rattle.store_core.proofs.OpeningSteps.{breaks_same}
use Rattle.store_files.proofs.ReadBlocks.{read_blocks_whole}
use Rattle.disk_model.proofs.CallRuns.{counts_then}
use Rattle.store_files.proofs.Answered.{fine_answer, handed_answer, other_answer, then_answer}
use Rattle.store_core.proofs.opening.read_listed.Goals as goal

pub returns-in-Err-clause-not_store : goal.returns-in-Err-clause-not_store
returns-in-Err-clause-not_store g c = λ told file at is.
    let d = g.D.Device in
    block (subst (λ (l : List BlockRef). BlocksBreak (d.held c.args.disk.now) l file at) c.as_slice.ensures
    (c.in-Err.ensures.not_store told file at (handed_on _ c.in-Err.error (NotStore file at) refl is)))

pub returns-in-Ok-read_rows-clause-blocks : goal.returns-in-Ok-read_rows-clause-blocks
returns-in-Ok-read_rows-clause-blocks g c =
    let d = g.D.Device in
    let disk = c.args.disk.now in
    subst (λ (l : List BlockRef). BlocksRead (IsTrue (d.tells disk)) (d.held disk) l c.in-Ok.infos.items) c.as_slice.ensures c.in-Ok.ensures.read

pub returns-in-Ok-read_rows-clause-log : goal.returns-in-Ok-read_rows-clause-log
returns-in-Ok-read_rows-clause-log g c =
    let d = g.D.Device in
    let disk = c.args.disk.now in
    let mid = c.read_blocks.new.disk in
    let list = c.args.list.now in
    let untouched = c.read_blocks.ensures.untouched in
    let read = c.in-Ok-read_rows.ensures.read in (
      read.0,
      read.1,
      log_read_before (IsTrue (d.tells disk)) (IsTrue (d.tells mid)) (d.held disk) (d.held mid) list.segments (first_number list) read.0 (tail_of c.in-Ok-read_rows.segment)
          (λ told. subst IsTrue (sym untouched.telling) told) untouched.same_bytes read.2,
    )

pub returns-in-Ok-read_rows-clause-blocks_lie : goal.returns-in-Ok-read_rows-clause-blocks_lie
returns-in-Ok-read_rows-clause-blocks_lie g c = λ told x inside image left.
    c.in-Ok.ensures.lies told x (subst (λ (l : List BlockRef). Contains l x) (sym c.as_slice.ensures) inside) image (c.read_rows.ensures.untouched.crash image left)

pub returns-in-Ok-read_rows-clause-segments_lie : goal.returns-in-Ok-read_rows-clause-segments_lie
returns-in-Ok-read_rows-clause-segments_lie g c = λ told x inside image left.
    let untouched = c.read_blocks.ensures.untouched in
    c.in-Ok-read_rows.ensures.lies (subst IsTrue (sym untouched.telling) told) x inside image left ∙ untouched.same_bytes told x.file

pub returns-in-Ok-read_rows-clause-untouched : goal.returns-in-Ok-read_rows-clause-untouched
returns-in-Ok-read_rows-clause-untouched g c =
    let d = g.D.Device in
    untouched_then d.tells d.held d.may_leave d.moment d.left_since c.args.disk.now c.read_blocks.new.disk c.read_rows.new.disk c.read_blocks.ensures.untouched c.read_rows.ensures.untouched

pub returns-in-Err-read_rows-clause-untouched : goal.returns-in-Err-read_rows-clause-untouched
returns-in-Err-read_rows-clause-untouched g c =
    let d = g.D.Device in
    untouched_then d.tells d.held d.may_leave d.moment d.left_since c.args.disk.now c.read_blocks.new.disk c.read_rows.new.disk c.read_blocks.ensures.untouched c.read_rows.ensures.untouched

pub returns-in-Err-read_rows-clause-not_store : goal.returns-in-Err-read_rows-clause-not_store
returns-in-Err-read_rows-clause-not_store g c = λ told file at is.
    let d = g.D.Device in
    let disk = c.args.disk.now in
    let mid = c.read_blocks.new.disk in
    let list = c.args.list.now in
    let untouched = c.read_blocks.ensures.untouched in
    let told_mid : IsTrue (d.tells mid) = subst IsTrue (sym untouched.telling) told in
    log (read_blocks_whole (IsTrue (d.tells disk)) (d.held disk) list.blocks c.in-Ok.infos.items (subst (λ (l : List BlockRef). BlocksRead (IsTrue (d.tells disk)) (d.held disk) l c.in-Ok.infos.items) c.as_slice.ensures c.in-Ok.ensures.read) told)
    (breaks_same (d.held disk) (d.held mid) list.segments (first_number list) file at (λ x inside. untouched.same_bytes told x.file)
    (c.in-Err-read_rows.ensures.not_store told_mid file at (handed_on _ c.in-Err-read_rows.error (NotStore file at) refl is)))

-- ---- what it counts

pub returns-in-Err-clause-counted : goal.returns-in-Err-clause-counted
returns-in-Err-clause-counted g c = handed_answer g.D.Device Fault c.args.disk.now c.read_blocks.new.disk c.in-Err.error c.in-Err.ensures.counted

pub returns-in-Ok-read_rows-clause-counted : goal.returns-in-Ok-read_rows-clause-counted
returns-in-Ok-read_rows-clause-counted g c =
    let d = g.D.Device in
    let disk = c.args.disk.now in
    let mid = c.read_blocks.new.disk in
    let new = c.read_rows.new.disk in
    other_answer d Fault disk new _ (λ is. absurd cc)
    (counts_then d 0 (Unit {0}) ⊥ (Unit {0}) ⊥ disk mid new (fine_answer d 0 Fault disk mid _ c.in-Ok.ensures.counted) tt (fine_answer d 0 Fault mid new _ c.in-Ok-read_rows.ensures.counted))

pub returns-in-Err-read_rows-clause-counted : goal.returns-in-Err-read_rows-clause-counted
returns-in-Err-read_rows-clause-counted g c =
    let d = g.D.Device in
    let disk = c.args.disk.now in
    let mid = c.read_blocks.new.disk in
    let new = c.read_rows.new.disk in
    then_answer d Fault disk mid new _ (fine_answer d 0 Fault disk mid _ c.in-Ok.ensures.counted) (handed_answer d Fault mid new c.in-Err-read_rows.error c.in-Err-read_rows.ensures.counted)
