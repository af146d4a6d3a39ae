use Rattle.std.proofs.Common.{◌≡◌, ◌-◌, min, ◌++◌, List, ℕ, length, take, drop, ◌∙◌, refl, sym, ap, subst, arith}
use Rattle.std.specs.Prelude.{IsTrue}
use Rattle.disk_model.specs.Images.{bytes_of}
use Rattle.disk_model.proofs.CallRuns.{counts_none, counts_then}
use Rattle.disk_model.proofs.Runs.{untouched_same, untouched_then}
use Rattle.store_files.specs.declared.error.OpenError.TheVariants.{Fault}
use Rattle.store_files.proofs.Answered.{fine_answer}
use Rattle.head_log.proofs.FileReading.{front_more}
use Rattle.store_files.proofs.blocks.file_bytes.Goals as goal

pub loop-init : goal.loop-init
loop-init g c =
    let d = g.D.Device in
    let disk = c.args.disk.now in
    record {
      front = λ told. c.new-bytes.ensures.items ∙ sym (ap (λ (l : List ℕ). take (length l) (bytes_of (d.held disk) c.args.file)) c.new-bytes.ensures.items);
      untouched = untouched_same d.tells d.held d.may_leave d.moment d.left_since disk (g.met.D.Device.only_now disk);
      counts = counts_none d 0 ⊥ disk (λ bad. bad);
      part = refl;
    }

pub loop-preserved : goal.loop-preserved
loop-preserved g c =
    let d = g.D.Device in
    let disk = c.args.disk.now in
    let mid = c.loop.disk in
    let new = c.read_more.new.disk in
    let was = c.loop.invariant in
    let e = c.in_ok-read_more.ensures in
    record {
      front = λ told.
          let there : IsTrue (d.tells mid) = subst IsTrue (sym was.untouched.telling) told in
          let all = bytes_of (d.held disk) c.args.file in
          let same : bytes_of (d.held mid) c.args.file ≡ all = was.untouched.same_bytes told c.args.file in
          let is = subst (λ (b : List ℕ). c.read_more.new.bytes.items ≡ c.loop.bytes.items ++ take c.in_ok-read_more.field-0 (drop (length c.loop.bytes.items) b)) same (e.bytes there) in
          let count = subst (λ (b : List ℕ). c.in_ok-read_more.field-0 ≡ min (length c.loop.part) (length b - length c.loop.bytes.items)) same (e.count there) in
          front_more all c.loop.bytes.items c.read_more.new.bytes.items c.in_ok-read_more.field-0 (was.front told) is (omega (arith, count));
      untouched = untouched_then d.tells d.held d.may_leave d.moment d.left_since disk mid new was.untouched e.untouched;
      counts = counts_then d 0 (Unit {0}) ⊥ (Unit {0}) ⊥ disk mid new was.counts tt (fine_answer d 0 Fault mid new _ e.counted);
      part = omega (arith, was.part, c.read_more.auto.part);
    }
