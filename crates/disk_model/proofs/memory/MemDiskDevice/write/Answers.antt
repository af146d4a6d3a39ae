-- What the trait says of a write, from what it made of the disk.
use Rattle.std.proofs.Common.{◌+◌, ◌^◌, inl, inr, length, refl, sym, ap, subst, arith}
use Rattle.std.proofs.lemmas.Bool.{cases_lt}
use Rattle.disk_model.specs.Counts.{Writing}
use Rattle.disk_model.specs.Images.{Besides, OnFile, SameBytes}
use Rattle.disk_model.specs.Bytes.{Torn}
use Rattle.disk_model.specs.Crash.{Elapses, Follows, Within}
use Rattle.disk_model.specs.History.{Past, MayLeave, LeftSince, held_now}
use Rattle.disk_model.specs.Memory.{noted, past_of}
use Rattle.disk_model.specs.declared.change.Change.TheVariants.{Write, LostWrite}
use Rattle.disk_model.proofs.Counting.{change_met, far_met, noted_counts}
use Rattle.disk_model.proofs.Passing.{torn_same}
use Rattle.disk_model.proofs.Steps.{written_at_ok, ok_any, err_then, pasts, besides_added, same_follows, write_follows, lost_write_follows, same_elapses, added_elapses}
use Rattle.disk_model.proofs.memory.MemDiskDevice.write.Goals as goal

pub returns-clause-written : goal.returns-clause-written
returns-clause-written c = λ told. elim (cases_lt (c.args.at + length c.args.bytes.now) (2 ^ 63)) [
  | inl near ↦ written_at_ok c.args.self.now c.write.new.self c.args.file c.args.at c.args.bytes.now c.write.result (noted (LostWrite c.args.file c.args.at (length c.args.bytes.now))) (c.write.ensures.near near)
  | inr far ↦ err_then c.write.result _ (c.write.ensures.far far).0
]

pub returns-clause-near : goal.returns-clause-near
returns-clause-near c = elim (cases_lt (c.args.at + length c.args.bytes.now) (2 ^ 63)) [
  | inl near ↦ ok_any c.write.result _ near
  | inr far ↦ err_then c.write.result _ (c.write.ensures.far far).0
]

-- a write that ends too far changes nothing, and each other one only its own file
pub returns-clause-far_bytes : goal.returns-clause-far_bytes
returns-clause-far_bytes c = λ told far.
    subst (λ (new : Past). SameBytes (held_now c.args.self.now.history) (held_now new)) (sym (ap past_of (c.write.ensures.far far).1)) (λ file. refl)

pub returns-clause-far_crash : goal.returns-clause-far_crash
returns-clause-far_crash c = λ far.
    subst (λ (new : Past). Within (MayLeave c.args.self.now.history) (MayLeave new)) (sym (ap past_of (c.write.ensures.far far).1)) (λ image left. left)

pub returns-clause-besides : goal.returns-clause-besides
returns-clause-besides c = λ told.
    let past = c.args.self.now.history in
    elim (cases_lt (c.args.at + length c.args.bytes.now) (2 ^ 63)) [
      | inl near ↦
          pasts c.args.self.now c.write.new.self (Write c.args.file c.args.at c.args.bytes.now) c.write.result (λ (new : Past). Besides c.args.file (held_now past) (held_now new)) (LostWrite c.args.file c.args.at (length c.args.bytes.now)) (c.write.ensures.near near)
          (λ other differs. refl) (besides_added past (Write c.args.file c.args.at c.args.bytes.now)) (besides_added past (LostWrite c.args.file c.args.at (length c.args.bytes.now)))
      | inr far ↦ subst (λ (new : Past). Besides c.args.file (held_now past) (held_now new)) (sym (ap past_of (c.write.ensures.far far).1)) (λ other differs. refl)
    ]

pub returns-clause-crash : goal.returns-clause-crash
returns-clause-crash c =
    let past = c.args.self.now.history in
    let Step = λ (new : Past). Follows (OnFile c.args.file (Torn c.args.at (length c.args.bytes.now))) (MayLeave past) (MayLeave new) in
    let same = same_follows c.args.file (Torn c.args.at (length c.args.bytes.now)) (torn_same c.args.at (length c.args.bytes.now)) past in
    elim (cases_lt (c.args.at + length c.args.bytes.now) (2 ^ 63)) [
      | inl near ↦
          pasts c.args.self.now c.write.new.self (Write c.args.file c.args.at c.args.bytes.now) c.write.result Step (LostWrite c.args.file c.args.at (length c.args.bytes.now)) (c.write.ensures.near near)
          same (write_follows past c.args.file c.args.at c.args.bytes.now) (lost_write_follows past c.args.file c.args.at (length c.args.bytes.now))
      | inr far ↦ subst Step (sym (ap past_of (c.write.ensures.far far).1)) same
    ]

pub returns-clause-time : goal.returns-clause-time
returns-clause-time c =
    let past = c.args.self.now.history in
    let Step = λ (new : Past). Elapses (length past.changes) (length new.changes) (LeftSince past) (LeftSince new) (MayLeave new) in
    elim (cases_lt (c.args.at + length c.args.bytes.now) (2 ^ 63)) [
      | inl near ↦
          pasts c.args.self.now c.write.new.self (Write c.args.file c.args.at c.args.bytes.now) c.write.result Step (LostWrite c.args.file c.args.at (length c.args.bytes.now)) (c.write.ensures.near near)
          (same_elapses past) (added_elapses past (Write c.args.file c.args.at c.args.bytes.now)) (added_elapses past (LostWrite c.args.file c.args.at (length c.args.bytes.now)))
      | inr far ↦ subst Step (sym (ap past_of (c.write.ensures.far far).1)) (same_elapses past)
    ]

pub returns-clause-counted : goal.returns-clause-counted
returns-clause-counted c =
    let end = c.args.at + length c.args.bytes.now in
    elim (cases_lt end (2 ^ 63)) [
      | inl near ↦
          change_met (Writing end) c.args.self.now c.write.new.self c.write.result (noted (Write c.args.file c.args.at c.args.bytes.now)) (noted (LostWrite c.args.file c.args.at (length c.args.bytes.now)))
          c.counts_fit.ensures (λ far. absurd (omega (arith, near, far))) (λ before now e. e) (noted_counts (Write c.args.file c.args.at c.args.bytes.now)) (noted_counts (LostWrite c.args.file c.args.at (length c.args.bytes.now))) (c.write.ensures.near near)
      | inr far ↦ far_met end c.args.self.now c.write.new.self c.write.result c.counts_fit.ensures far (c.write.ensures.far far).0 (c.write.ensures.far far).1
    ]
