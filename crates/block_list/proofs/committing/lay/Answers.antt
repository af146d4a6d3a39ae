-- At every moment of the call the slots stand for the old list.
use Rattle.std.proofs.Common.{◌-◌, ◌∷◌, ℕ, length, drop, refl, ◌∙◌, subst, arith}
use Rattle.disk_model.specs.Images.{bytes_of}
use Rattle.disk_model.specs.Bytes.{Torn}
use Rattle.disk_model.specs.Crash.{OnlyBytes, RunInFile}
use Rattle.block_list.specs.Slots.{ImageHoldsList}
use Rattle.block_list.specs.Commit.{slot_of}
use Rattle.block_list.proofs.SlotLemmas.{only_slot}
use Rattle.block_list.proofs.CommitLemmas.{closed_bytes, gate_closes, lays, other_stays, writes_then}
use Rattle.block_list.proofs.committing.lay.Goals as goal

-- closing the gate
pub returns-in_err-write_through-clause-any_moment : goal.returns-in_err-write_through-clause-any_moment
returns-in_err-write_through-clause-any_moment g c = λ told can old holds next.
    let d = g.D.Device in
    gate_closes d.moment d.left_since d.may_leave c.args.list.now (d.held c.args.disk.now) old c.args.disk.now c.write_through.new.disk c.slot-slot.result c.slot-slot.ensures can holds next c.write_through.ensures.passes

-- and then writing the list
pub returns-clause-any_moment : goal.returns-clause-any_moment
returns-clause-any_moment g c = λ told can old holds next.
    let d = g.D.Device in
    let held = d.held c.args.disk.now in
    let mid = c.write_through.new.disk in
    let slot = slot_of c.args.list.now in
    let rest = drop 1 (bytes_of held slot) in
    let first = gate_closes d.moment d.left_since d.may_leave c.args.list.now held old c.args.disk.now mid c.slot-slot.result c.slot-slot.ensures can holds next c.write_through.ensures.passes in
    let G : ℕ → Type 0 = λ s. OnlyBytes s (0 ∷ drop 1 (bytes_of held s)) (d.may_leave mid) in
    let known : G c.slot-slot.result = λ image left.
    c.in_ok-write_through.ensures.lasting told image left ∙ c.in_ok-write_through.ensures.written told ∙ closed_bytes (bytes_of held c.slot-slot.result) in
    let F : ℕ → Type 0 = λ s. RunInFile d.moment d.left_since d.may_leave s (Torn 1 (length c.text.result.now) (0 ∷ drop 1 (bytes_of held s))) (Torn 1 (length c.text.result.now) (0 ∷ drop 1 (bytes_of held s))) mid c.write_through-2.new.disk in
    let other : OnlyBytes (1 - slot) (bytes_of held (1 - slot)) (d.may_leave mid) =
    other_stays slot (λ image. ImageHoldsList image old) (bytes_of held (1 - slot)) (d.may_leave c.args.disk.now) (d.may_leave mid) (omega arith) first.now
    (only_slot (1 - slot) held (d.may_leave c.args.disk.now) (omega arith) can.slot_0 can.slot_1) in
    writes_then d.moment d.left_since d.may_leave slot (λ image. ImageHoldsList image old) (λ image. ImageHoldsList image old) (λ image. ImageHoldsList image old) c.args.disk.now mid c.write_through-2.new.disk first
    (lays d.moment d.left_since d.may_leave slot c.args.list.now.generation held rest (length c.text.result.now) old mid c.write_through-2.new.disk refl next holds other
    (subst F c.slot-slot.ensures (c.write_through-2.ensures.passes (0 ∷ drop 1 (bytes_of held c.slot-slot.result)) known)))
    (λ image h. h) (λ image h. h)
