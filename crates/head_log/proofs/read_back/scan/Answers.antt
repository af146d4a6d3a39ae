use Rattle.std.proofs.Common.{◌∙◌, ◌<◌, All, List, sym, subst, arith}
use Rattle.head_log.specs.declared.numbered.NumberedBatch.{NumberedBatch}
use Rattle.head_log.specs.Stands.{SegmentHolds}
use Rattle.head_log.proofs.AgainRecords.{recalled, never_broken}
use Rattle.head_log.proofs.MeantRecords.{found_below, segment_means}
use Rattle.head_log.proofs.read_back.scan.Goals as goal

pub invariant_of-segment : goal.invariant_of-segment
invariant_of-segment g c =
    let small = c.in-Ok.bytes.small in
    let room = c.in-Ok.bytes.ok in
    record { near = omega (arith, room.0, room.1, c.in-Ok-read_segment.ensures.within, c.as_slice.ensures.len) }

pub returns-in-Ok-read_segment-clause-kept : goal.returns-in-Ok-read_segment-clause-kept
returns-in-Ok-read_segment-clause-kept g c = λ told batches gate stands.
    let e = c.in-Ok-read_segment.ensures in
    let p = recalled c.args.first _ _ (c.as_slice.ensures.value ∙ c.in-Ok.ensures.bytes told) c.in-Ok-read_segment.batches.items c.in-Ok-read_segment.gate e.reads batches gate stands in
    (c.of.ensures ∙ p.0, p.1)

pub returns-in-Err-At-clause-kept : goal.returns-in-Err-At-clause-kept
returns-in-Err-At-clause-kept g c = λ told batches gate stands.
    let e = c.in-Err-At.ensures in
    let read = rw c.in-Err-At.field-0-is at e.reads in
    never_broken c.args.first _ _ (c.as_slice.ensures.value ∙ c.in-Ok.ensures.bytes told) c.in-Err-At.at read batches gate stands

-- what was read is what the bytes stand for
pub returns-in-Ok-read_segment-clause-stands : goal.returns-in-Ok-read_segment-clause-stands
returns-in-Ok-read_segment-clause-stands g c = λ told.
    let e = c.in-Ok-read_segment.ensures in
    let m = segment_means c.args.first _ _ _ e.fit e.reads in
    (m.0, c.of.ensures ∙ m.1, subst (SegmentHolds c.args.first m.0 c.in-Ok-read_segment.gate) (c.as_slice.ensures.value ∙ c.in-Ok.ensures.bytes told) m.2)

pub returns-in-Ok-read_segment-clause-numbered : goal.returns-in-Ok-read_segment-clause-numbered
returns-in-Ok-read_segment-clause-numbered g c =
    let e = c.in-Ok-read_segment.ensures in
    let m = segment_means c.args.first _ _ _ e.fit e.reads in
    (m.0, c.of.ensures ∙ m.1)

pub returns-in-Ok-read_segment-clause-below : goal.returns-in-Ok-read_segment-clause-below
returns-in-Ok-read_segment-clause-below g c =
    let e = c.in-Ok-read_segment.ensures in
    subst (λ (l : List NumberedBatch). All (λ (e : NumberedBatch). e.number < 4294967295) l) (sym c.of.ensures) (found_below c.args.first _ _ _ e.fit e.reads)
