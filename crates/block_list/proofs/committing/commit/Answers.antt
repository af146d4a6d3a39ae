-- At every moment of the call the slots stand for the old list or for the new one.
use Rattle.std.proofs.Common.{◌≡◌, ◌%◌, ℕ, IsTrue, OnOk, inl, sym, ◌∙◌, ap, subst, arith}
use Rattle.disk_model.specs.Images.{bytes_of, Besides}
use Rattle.disk_model.specs.Crash.{OnlyBytes}
use Rattle.disk_model.proofs.Runs.{run_more}
use Rattle.block_list.specs.Slots.{ImageHoldsList}
use Rattle.block_list.specs.Commit.{slot_of, CanOpen, ImageHoldsEither, WritesSlot}
use Rattle.block_list.proofs.CommitLemmas.{may_open, writes_then, both}
use Rattle.block_list.proofs.ReadyLemmas.{ready_after}
use Rattle.block_list.proofs.committing.commit.Goals as goal

pub returns-in_err-lay-clause-any_moment : goal.returns-in_err-lay-clause-any_moment
returns-in_err-lay-clause-any_moment g c = λ told can old new holds next body.
    let d = g.D.Device in
    let slot = slot_of c.args.list.now in
    run_more d.moment d.left_since d.may_leave (WritesSlot slot (λ image. ImageHoldsList image old)) (WritesSlot slot (ImageHoldsEither old new)) c.args.disk.now c.lay.new.disk (c.lay.ensures.any_moment told can old holds next)
    (λ origin image possible w. record { list = inl w.list; besides = w.besides })

pub returns-clause-any_moment : goal.returns-clause-any_moment
returns-clause-any_moment g c = λ told can old new holds next body.
    let d = g.D.Device in
    let mid = c.lay.new.disk in
    let told_mid : IsTrue (d.tells mid) = subst IsTrue (sym c.lay.ensures.counted.telling) told in
    let opens : CanOpen (d.held mid) (d.may_leave mid) c.args.list.now = may_open c.args.list.now (d.held c.args.disk.now) (d.held mid) (d.may_leave c.args.disk.now) (d.may_leave mid) can
    (λ list holds next. (c.lay.ensures.any_moment told can list holds next).now) (c.lay.ensures.besides told) (c.in_ok-lay.ensures.in_place told) in
    let first = c.lay.ensures.any_moment told can old holds next in
    let holds_mid : ImageHoldsList (d.held mid) old = (first.now (d.held mid) (g.met.D.Device.held_may_stay mid told_mid)).2.list in
    writes_then d.moment d.left_since d.may_leave (slot_of c.args.list.now) (λ image. ImageHoldsList image old) (ImageHoldsEither old new) (ImageHoldsEither old new) c.args.disk.now mid c.open_gate.new.disk first
    (c.open_gate.ensures.any_moment told_mid opens old new holds_mid next body) (λ image h. inl h) (λ image h. h)

pub returns-clause-counts : goal.returns-clause-counts
returns-clause-counts g c = λ told can new body.
    let d = g.D.Device in
    let mid = c.lay.new.disk in
    let told_mid : IsTrue (d.tells mid) = subst IsTrue (sym c.lay.ensures.counted.telling) told in
    let opens : CanOpen (d.held mid) (d.may_leave mid) c.args.list.now = may_open c.args.list.now (d.held c.args.disk.now) (d.held mid) (d.may_leave c.args.disk.now) (d.may_leave mid) can
    (λ list holds next. (c.lay.ensures.any_moment told can list holds next).now) (c.lay.ensures.besides told) (c.in_ok-lay.ensures.in_place told) in
    c.open_gate.ensures.counts told_mid opens new body

pub returns-clause-slot_0 : goal.returns-clause-slot_0
returns-clause-slot_0 g c = λ told can.
    let d = g.D.Device in
    let mid = c.lay.new.disk in
    let told_mid : IsTrue (d.tells mid) = subst IsTrue (sym c.lay.ensures.counted.telling) told in
    let opens : CanOpen (d.held mid) (d.may_leave mid) c.args.list.now = may_open c.args.list.now (d.held c.args.disk.now) (d.held mid) (d.may_leave c.args.disk.now) (d.may_leave mid) can
    (λ list holds next. (c.lay.ensures.any_moment told can list holds next).now) (c.lay.ensures.besides told) (c.in_ok-lay.ensures.in_place told) in
    c.open_gate.ensures.slot_0 told_mid opens

pub returns-clause-slot_1 : goal.returns-clause-slot_1
returns-clause-slot_1 g c = λ told can.
    let d = g.D.Device in
    let mid = c.lay.new.disk in
    let told_mid : IsTrue (d.tells mid) = subst IsTrue (sym c.lay.ensures.counted.telling) told in
    let opens : CanOpen (d.held mid) (d.may_leave mid) c.args.list.now = may_open c.args.list.now (d.held c.args.disk.now) (d.held mid) (d.may_leave c.args.disk.now) (d.may_leave mid) can
    (λ list holds next. (c.lay.ensures.any_moment told can list holds next).now) (c.lay.ensures.besides told) (c.in_ok-lay.ensures.in_place told) in
    c.open_gate.ensures.slot_1 told_mid opens

pub returns-clause-ready : goal.returns-clause-ready
returns-clause-ready g c = λ told can old new ready body.
    let d = g.D.Device in
    let mid = c.lay.new.disk in
    let told_mid : IsTrue (d.tells mid) = subst IsTrue (sym c.lay.ensures.counted.telling) told in
    let opens : CanOpen (d.held mid) (d.may_leave mid) c.args.list.now = may_open c.args.list.now (d.held c.args.disk.now) (d.held mid) (d.may_leave c.args.disk.now) (d.may_leave mid) can
    (λ list holds next. (c.lay.ensures.any_moment told can list holds next).now) (c.lay.ensures.besides told) (c.in_ok-lay.ensures.in_place told) in
    let held = d.held c.args.disk.now in
    let later = d.held c.open_gate.new.disk in
    let slot = slot_of c.args.list.now in
    let told_new : IsTrue (d.tells c.open_gate.new.disk) = subst IsTrue (sym c.open_gate.ensures.counted.telling) told_mid in
    let parity : new.generation % 2 ≡ slot = ap (λ (n : ℕ). n % 2) (sym body.generation) in
    let besides : Besides slot held later = λ other differs. c.open_gate.ensures.besides told_mid other differs ∙ c.lay.ensures.besides told other differs in
    let may_leave = d.may_leave c.open_gate.new.disk in
    let only : OnOk c.open_gate.result (OnlyBytes 0 (bytes_of later 0) may_leave × OnlyBytes 1 (bytes_of later 1) may_leave) =
    both c.open_gate.result (c.open_gate.ensures.slot_0 told_mid opens) (c.open_gate.ensures.slot_1 told_mid opens) (λ first second. (first, second)) in
    both c.open_gate.result (c.open_gate.ensures.counts told_mid opens new body) only
    (λ counts each. ready_after slot held later (d.may_leave c.args.disk.now) may_leave old new (omega arith) parity ready besides
    (counts later (g.met.D.Device.held_may_stay c.open_gate.new.disk told_new)) each.0 each.1)
