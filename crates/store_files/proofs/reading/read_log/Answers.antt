use Rattle.std.proofs.Common.{◌≡◌, ◌<◌, ℕ, IsTrue, List, length, take, take_all, get_or, refl, sym, ◌∙◌, ap, subst, arith}
use Rattle.std.specs.List.{Contains}
use Rattle.std.proofs.lemmas.Result.{err_from_is_err_and}
use Rattle.disk_model.proofs.CallRuns.{counts_then}
use Rattle.disk_model.proofs.Runs.{untouched_then}
use Rattle.head_log.specs.Scanning.{segment_at}
use Rattle.block_list.specs.declared.body.SegmentRef.{SegmentRef}
use Rattle.store_images.specs.Stored.{first_number}
use Rattle.store_images.proofs.Lists.{not_in_nil}
use Rattle.store_files.specs.LogReading.{tail_of, LogBreaks}
use Rattle.store_files.specs.declared.error.OpenError.TheVariants.{NotStore, Fault}
use Rattle.store_files.proofs.Answered.{fine_answer, other_answer, passed_answer, then_answer}
use Rattle.store_files.proofs.LogSteps.{reads_one, reads_on, read_before, first_breaks, later_breaks, astray_at, breaks_as, passed_on, first_is, lie_on}
use Rattle.store_files.proofs.reading.read_log.Goals as goal

pub loop-at-init : goal.loop-at-init
loop-at-init g c =
    let d = g.D.Device in
    let told = IsTrue (d.tells c.args.disk.now) in
    let held = d.held c.args.disk.now in
    let segments : List SegmentRef = c.as_slice-segments.result.now in
    let some : 0 < length segments = subst (λ (l : List SegmentRef). 0 < length l) (sym c.as_slice-segments.ensures) c.requires.some_segment in
    record {
      read = reads_one told held segments (record { file = 0; first = 0 }) (first_number c.args.list.now) c.new-batches.result.items c.add_segment.new.batches.items c.in_ok-last.last some c.new-batches.ensures.items
          (first_is c.args.list.now segments (record { file = 0; first = 0 }) c.as_slice-segments.ensures some) c.in_ok-last.ensures.read;
      few = c.in_ok-last.ensures.read.2.few;
      lies = λ told. lie_on (λ (ref : SegmentRef). ref.file) held (d.may_leave c.add_segment.new.disk) (d.may_leave c.add_segment.new.disk) segments 0 (record { file = 0; first = 0 }) some (λ image left. left)
          (λ x inside. absurd (not_in_nil x inside)) (c.in_ok-last.ensures.lies told);
      untouched = c.add_segment.ensures.untouched;
      counts = fine_answer d 0 Fault c.args.disk.now c.add_segment.new.disk _ c.in_ok-last.ensures.counted;
    }

pub loop-at-preserved : goal.loop-at-preserved
loop-at-preserved g c =
    let d = g.D.Device in
    let disk = c.args.disk.now in
    let mid = c.loop-at.disk in
    let new = c.add_segment-in-loop-at.new.disk in
    let segments : List SegmentRef = c.as_slice-segments.result.now in
    let at = c.loop-at.at in
    let inside : at < length segments = omega arith in
    let untouched = c.loop-at.invariant.untouched in
    let told_mid : IsTrue (d.tells disk) → IsTrue (d.tells mid) = λ told. subst IsTrue (sym untouched.telling) told in
    let more = c.in_ok-last-2.ensures.read in
    record {
      read = reads_on (IsTrue (d.tells disk)) (d.held disk) segments at (record { file = 0; first = 0 }) (first_number c.args.list.now) c.loop-at.batches.items c.add_segment-in-loop-at.new.batches.items
          (tail_of c.loop-at.last) c.in_ok-last-2.last inside c.loop-at.invariant.read (omega (arith, c.if-segment-last.false))
          (more.0, more.1, read_before (IsTrue (d.tells disk)) (IsTrue (d.tells mid)) _ _ _ more.0 c.in_ok-last-2.last told_mid (λ told. untouched.same_bytes told _) more.2);
      few = more.2.few;
      lies = λ told. lie_on (λ (ref : SegmentRef). ref.file) (d.held disk) (d.may_leave mid) (d.may_leave new) segments at (record { file = 0; first = 0 }) inside c.add_segment-in-loop-at.ensures.untouched.crash (c.loop-at.invariant.lies told)
          (λ image left. c.in_ok-last-2.ensures.lies (told_mid told) image left ∙ untouched.same_bytes told _);
      untouched = untouched_then d.tells d.held d.may_leave d.moment d.left_since disk mid new untouched c.add_segment-in-loop-at.ensures.untouched;
      counts = counts_then d 0 (Unit {0}) ⊥ (Unit {0}) ⊥ disk mid new c.loop-at.invariant.counts tt (fine_answer d 0 Fault mid new _ c.in_ok-last-2.ensures.counted);
    }

pub returns-in_err-last-clause-not_store : goal.returns-in_err-last-clause-not_store
returns-in_err-last-clause-not_store g c = λ told file at is.
    let d = g.D.Device in
    let held = d.held c.args.disk.now in
    let p = err_from_is_err_and c.from_residual.result c.from_residual.ensures.1 in
    let segments : List SegmentRef = c.as_slice-segments.result.now in
    let some : 0 < length segments = subst (λ (l : List SegmentRef). 0 < length l) (sym c.as_slice-segments.ensures) c.requires.some_segment in
    let m = c.in_err-last.ensures.malformed told file at (passed_on c.from_residual.result p.0 c.in_err-last.field-0.0 (NotStore file at) p.1 p.2 is) in
    subst (λ (l : List SegmentRef). LogBreaks held l (first_number c.args.list.now) file at) c.as_slice-segments.ensures
    (subst (λ (n : ℕ). LogBreaks held segments n file at) (first_is c.args.list.now segments (record { file = 0; first = 0 }) c.as_slice-segments.ensures some)
    (first_breaks (IsTrue (d.tells c.args.disk.now)) held segments (record { file = 0; first = 0 }) file at some m.0 m.1))

pub returns-then-segment-last-clause-not_store : goal.returns-then-segment-last-clause-not_store
returns-then-segment-last-clause-not_store g c = λ told file at is.
    let d = g.D.Device in
    let held = d.held c.args.disk.now in
    let segments : List SegmentRef = c.as_slice-segments.result.now in
    let n = c.loop-at.at in
    let inside : n < length segments = omega arith in
    let read = c.loop-at.invariant.read in
    subst (λ (l : List SegmentRef). LogBreaks held l (first_number c.args.list.now) file at) c.as_slice-segments.ensures
    (breaks_as _ held segments (first_number c.args.list.now) c.loop-at.last.file c.loop-at.last.gate file at refl is
    (astray_at (IsTrue (d.tells c.args.disk.now)) held segments n (record { file = 0; first = 0 }) (first_number c.args.list.now) read.0 (tail_of c.loop-at.last) inside told read.2
    (λ same. absurd (omega (arith, same, c.if-segment-last.true)))))

pub returns-in_err-last-2-clause-not_store : goal.returns-in_err-last-2-clause-not_store
returns-in_err-last-2-clause-not_store g c = λ told file at is.
    let d = g.D.Device in
    let held = d.held c.args.disk.now in
    let mid = c.loop-at.disk in
    let p = err_from_is_err_and c.from_residual-in_err-last-2.result c.from_residual-in_err-last-2.ensures.1 in
    let segments : List SegmentRef = c.as_slice-segments.result.now in
    let n = c.loop-at.at in
    let inside : n < length segments = omega arith in
    let read = c.loop-at.invariant.read in
    let untouched = c.loop-at.invariant.untouched in
    let told_mid : IsTrue (d.tells mid) = subst IsTrue (sym untouched.telling) told in
    let m = c.in_err-last-2.ensures.malformed told_mid file at (passed_on c.from_residual-in_err-last-2.result p.0 c.in_err-last-2.field-0.0 (NotStore file at) p.1 p.2 is) in
    subst (λ (l : List SegmentRef). LogBreaks held l (first_number c.args.list.now) file at) c.as_slice-segments.ensures
    (later_breaks (IsTrue (d.tells c.args.disk.now)) held segments n (record { file = 0; first = 0 }) (first_number c.args.list.now) read.0 (tail_of c.loop-at.last) file at inside told read.2
    (omega (arith, c.if-segment-last.false)) m.0 (ap (λ (b : List ℕ). segment_at (get_or segments n (record { file = 0; first = 0 })).first b) (sym (untouched.same_bytes told (get_or segments n (record { file = 0; first = 0 })).file)) ∙ m.1))

pub returns-clause-lies : goal.returns-clause-lies
returns-clause-lies g c = λ told x inside.
    let segments : List SegmentRef = c.as_slice-segments.result.now in
    let at = c.loop-at.at in
    let whole : take at segments ≡ segments = take_all at segments (omega (arith, c.loop-at-test.false)) in
    c.loop-at.invariant.lies told x (subst (λ (l : List SegmentRef). Contains l x) (sym (whole ∙ c.as_slice-segments.ensures)) inside)

-- ---- what it counts

pub returns-in_err-last-clause-counted : goal.returns-in_err-last-clause-counted
returns-in_err-last-clause-counted g c =
    let p = err_from_is_err_and c.from_residual.result c.from_residual.ensures.1 in
    passed_answer g.D.Device Fault c.args.disk.now c.add_segment.new.disk c.from_residual.result p.0 c.in_err-last.field-0.0 p.1 p.2 c.in_err-last.ensures.counted

pub returns-then-segment-last-clause-counted : goal.returns-then-segment-last-clause-counted
returns-then-segment-last-clause-counted g c = other_answer g.D.Device Fault c.args.disk.now c.loop-at.disk _ (λ is. absurd cc) c.loop-at.invariant.counts

pub returns-in_err-last-2-clause-counted : goal.returns-in_err-last-2-clause-counted
returns-in_err-last-2-clause-counted g c =
    let d = g.D.Device in
    let mid = c.loop-at.disk in
    let new = c.add_segment-in-loop-at.new.disk in
    let p = err_from_is_err_and c.from_residual-in_err-last-2.result c.from_residual-in_err-last-2.ensures.1 in
    then_answer d Fault c.args.disk.now mid new _ c.loop-at.invariant.counts
    (passed_answer d Fault mid new c.from_residual-in_err-last-2.result p.0 c.in_err-last-2.field-0.0 p.1 p.2 c.in_err-last-2.ensures.counted)

pub returns-clause-counted : goal.returns-clause-counted
returns-clause-counted g c = other_answer g.D.Device Fault c.args.disk.now c.loop-at.disk _ (λ is. absurd cc) c.loop-at.invariant.counts
