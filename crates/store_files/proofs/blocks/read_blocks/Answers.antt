use Rattle.std.proofs.Common.{◌<◌, IsTrue, List, length, take_all, get_or, sym, ◌∙◌, subst, arith}
use Rattle.std.specs.List.{Contains}
use Rattle.std.proofs.lemmas.Result.{err_from_is_err_and}
use Rattle.disk_model.proofs.CallRuns.{counts_none, counts_then}
use Rattle.disk_model.proofs.Runs.{untouched_same, untouched_then}
use Rattle.block_list.specs.declared.body.BlockRef.{BlockRef}
use Rattle.store_images.proofs.Lists.{not_in_nil}
use Rattle.store_files.specs.BlockReading.{BlocksRead}
use Rattle.store_files.specs.declared.error.OpenError.TheVariants.{NotStore, Fault}
use Rattle.store_files.proofs.Answered.{fine_answer}
use Rattle.store_files.proofs.LogSteps.{lie_on, passed_on}
use Rattle.store_files.proofs.ReadBlocks.{breaks_at, built_before, malformed_before, none_first, none_read, read_further}
use Rattle.store_files.proofs.blocks.read_blocks.Goals as goal

abbrev no_block : BlockRef
no_block = record { file = 0; level = 0; rows = 0 }

pub loop-block-init : goal.loop-block-init
loop-block-init g c =
    let d = g.D.Device in
    let disk = c.args.disk.now in
    record {
      read = none_read (IsTrue (d.tells disk)) (d.held disk) c.args.blocks.now c.new-infos.result.items c.new-infos.ensures.items;
      lies = λ told x inside. absurd (not_in_nil x (subst (λ (l : List BlockRef). Contains l x) (none_first c.args.blocks.now) inside));
      untouched = untouched_same d.tells d.held d.may_leave d.moment d.left_since disk (g.met.D.Device.only_now disk);
      counts = counts_none d 0 ⊥ disk (λ bad. bad);
    }

pub loop-block-preserved : goal.loop-block-preserved
loop-block-preserved g c =
    let d = g.D.Device in
    let disk = c.args.disk.now in
    let mid = c.loop-block.disk in
    let new = c.read_block.new.disk in
    let blocks = c.args.blocks.now in
    let n = c.loop-block.block-index in
    let inside : n < length blocks = omega arith in
    let untouched = c.loop-block.invariant.untouched in
    let told_mid : IsTrue (d.tells disk) → IsTrue (d.tells mid) = λ told. subst IsTrue (sym untouched.telling) told in
    let one = c.in_ok-info.ensures in
    record {
      read = read_further (IsTrue (d.tells disk)) (d.held disk) blocks n no_block c.loop-block.infos.items _ c.in_ok-info.info inside c.loop-block.invariant.read one.named
          (built_before (IsTrue (d.tells disk)) (IsTrue (d.tells mid)) (d.held disk) (d.held mid) (get_or blocks n no_block).file c.in_ok-info.info told_mid (λ told. untouched.same_bytes told _) one.built)
          c.in-Ok.ensures.items;
      lies = λ told. lie_on (λ (ref : BlockRef). ref.file) (d.held disk) (d.may_leave mid) (d.may_leave new) blocks n no_block inside c.read_block.ensures.untouched.crash (c.loop-block.invariant.lies told)
          (λ image left. one.lies (told_mid told) image left ∙ untouched.same_bytes told _);
      untouched = untouched_then d.tells d.held d.may_leave d.moment d.left_since disk mid new untouched c.read_block.ensures.untouched;
      counts = counts_then d 0 (Unit {0}) ⊥ (Unit {0}) ⊥ disk mid new c.loop-block.invariant.counts tt (fine_answer d 0 Fault mid new _ c.in_ok-info.ensures.counted);
    }

pub returns-in_err-info-clause-not_store : goal.returns-in_err-info-clause-not_store
returns-in_err-info-clause-not_store g c = λ told file at is.
    let d = g.D.Device in
    let disk = c.args.disk.now in
    let mid = c.loop-block.disk in
    let blocks = c.args.blocks.now in
    let n = c.loop-block.block-index in
    let inside : n < length blocks = omega arith in
    let untouched = c.loop-block.invariant.untouched in
    let told_mid : IsTrue (d.tells mid) = subst IsTrue (sym untouched.telling) told in
    let p = err_from_is_err_and c.from_residual.result c.from_residual.ensures.1 in
    let m = c.in_err-info.ensures.malformed told_mid file at (passed_on c.from_residual.result p.0 c.in_err-info.field-0.0 (NotStore file at) p.1 p.2 is) in
    breaks_at (IsTrue (d.tells disk)) (d.held disk) blocks n no_block c.loop-block.infos.items file at inside told c.loop-block.invariant.read m.0
    (malformed_before (d.held disk) (d.held mid) (get_or blocks n no_block) at (untouched.same_bytes told _) m.1)

pub returns-clause-read : goal.returns-clause-read
returns-clause-read g c =
    let d = g.D.Device in
    let blocks = c.args.blocks.now in
    let n = c.loop-block.block-index in
    subst (λ (l : List BlockRef). BlocksRead (IsTrue (d.tells c.args.disk.now)) (d.held c.args.disk.now) l c.loop-block.infos.items) (take_all n blocks (omega (arith, c.loop-block-test.false))) c.loop-block.invariant.read

pub returns-clause-lies : goal.returns-clause-lies
returns-clause-lies g c = λ told x inside.
    let blocks = c.args.blocks.now in
    let n = c.loop-block.block-index in
    c.loop-block.invariant.lies told x (subst (λ (l : List BlockRef). Contains l x) (sym (take_all n blocks (omega (arith, c.loop-block-test.false)))) inside)
