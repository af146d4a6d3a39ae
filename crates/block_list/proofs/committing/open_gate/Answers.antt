-- At every moment of the call the slots stand for the old list or for the new one.
use Rattle.std.proofs.Common.{◌≡◌, ◌≢◌, ◌-◌, ◌%◌, ◌∷◌, ◌++◌, [], ℕ, List, OnOk, sym, ◌∙◌, ap, subst, arith}
use Rattle.disk_model.specs.Images.{bytes_of, Besides}
use Rattle.disk_model.specs.Bytes.{overwritten, Torn}
use Rattle.disk_model.specs.Crash.{OnlyBytes, RunInFile}
use Rattle.block_list.specs.Slots.{IsNext}
use Rattle.block_list.specs.Commit.{slot_of}
use Rattle.block_list.proofs.CommitLemmas.{opened_bytes, opens, image_opened, slot_lasts, both}
use Rattle.block_list.proofs.committing.open_gate.Goals as goal

pub returns-clause-any_moment : goal.returns-clause-any_moment
returns-clause-any_moment g c = λ told can old new holds next body.
    let d = g.D.Device in
    let held = d.held c.args.disk.now in
    let list = c.args.list.now in
    let laid = (0 ∷ list.text) ++ can.in_place.0 in
    let F : ℕ → Type 0 = λ s. OnlyBytes s laid (d.may_leave c.args.disk.now) → RunInFile d.moment d.left_since d.may_leave s (Torn 0 1 laid) (Torn 0 1 laid) c.args.disk.now c.write_through.new.disk in
    opens d.moment d.left_since d.may_leave (slot_of list) held list.text can.in_place.0 old new c.args.disk.now c.write_through.new.disk (ap (λ (n : ℕ). n % 2) (sym body.generation)) body.rules body.text
    (subst (λ (n : ℕ). IsNext n old) body.generation next) holds (can.in_place.1 held (g.met.D.Device.held_may_stay c.args.disk.now told)) can.other
    (subst F c.slot.ensures (c.write_through.ensures.passes laid) can.in_place.1)

pub returns-clause-counts : goal.returns-clause-counts
returns-clause-counts g c = λ told can new body.
    let d = g.D.Device in
    let held = d.held c.args.disk.now in
    let later = c.write_through.new.disk in
    let list = c.args.list.now in
    let slot = slot_of list in
    let rest = can.in_place.0 in
    let laid = (0 ∷ list.text) ++ rest in
    let F : ℕ → Type 0 = λ s. OnlyBytes s laid (d.may_leave c.args.disk.now) → RunInFile d.moment d.left_since d.may_leave s (Torn 0 1 laid) (Torn 0 1 laid) c.args.disk.now later in
    let run = subst F c.slot.ensures (c.write_through.ensures.passes laid) can.in_place.1 in
    let lasting = subst (λ (s : ℕ). OnOk c.write_through.result (OnlyBytes s (bytes_of (d.held later) s) (d.may_leave later))) c.slot.ensures (c.write_through.ensures.lasting told) in
    let written = subst (λ (s : ℕ). OnOk c.write_through.result (bytes_of (d.held later) s ≡ overwritten (bytes_of held s) 0 (1 ∷ []))) c.slot.ensures (c.write_through.ensures.written told) in
    let differs : 1 - slot ≢ slot = omega arith in
    both c.write_through.result lasting written
    (λ only now image left.
    let but = run.now image left in
    image_opened slot list.generation (bytes_of held (1 - slot)) list.text rest new image (omega arith) (ap (λ (n : ℕ). n % 2) (sym body.generation)) body.rules body.text body.generation can.follows
    (but.besides (1 - slot) differs ∙ can.other but.origin but.possible)
    (only image left ∙ now ∙ ap (λ (b : List ℕ). overwritten b 0 (1 ∷ [])) (can.in_place.1 held (g.met.D.Device.held_may_stay c.args.disk.now told)) ∙ opened_bytes list.text rest))

pub returns-clause-slot_0 : goal.returns-clause-slot_0
returns-clause-slot_0 g c = λ told can.
    let d = g.D.Device in
    let later = c.write_through.new.disk in
    let slot = slot_of c.args.list.now in
    let laid = (0 ∷ c.args.list.now.text) ++ can.in_place.0 in
    let F : ℕ → Type 0 = λ s. OnlyBytes s laid (d.may_leave c.args.disk.now) → RunInFile d.moment d.left_since d.may_leave s (Torn 0 1 laid) (Torn 0 1 laid) c.args.disk.now later in
    let run = subst F c.slot.ensures (c.write_through.ensures.passes laid) can.in_place.1 in
    let besides = subst (λ (s : ℕ). Besides s (d.held c.args.disk.now) (d.held later)) c.slot.ensures (c.write_through.ensures.besides told) in
    let lasting = subst (λ (s : ℕ). OnOk c.write_through.result (OnlyBytes s (bytes_of (d.held later) s) (d.may_leave later))) c.slot.ensures (c.write_through.ensures.lasting told) in
    both c.write_through.result lasting lasting
    (λ own same. slot_lasts 0 slot (d.held c.args.disk.now) (d.held later) (Torn 0 1 laid) (d.may_leave c.args.disk.now) (d.may_leave later) (omega arith) (omega arith) run.now besides can.other own)

pub returns-clause-slot_1 : goal.returns-clause-slot_1
returns-clause-slot_1 g c = λ told can.
    let d = g.D.Device in
    let later = c.write_through.new.disk in
    let slot = slot_of c.args.list.now in
    let laid = (0 ∷ c.args.list.now.text) ++ can.in_place.0 in
    let F : ℕ → Type 0 = λ s. OnlyBytes s laid (d.may_leave c.args.disk.now) → RunInFile d.moment d.left_since d.may_leave s (Torn 0 1 laid) (Torn 0 1 laid) c.args.disk.now later in
    let run = subst F c.slot.ensures (c.write_through.ensures.passes laid) can.in_place.1 in
    let besides = subst (λ (s : ℕ). Besides s (d.held c.args.disk.now) (d.held later)) c.slot.ensures (c.write_through.ensures.besides told) in
    let lasting = subst (λ (s : ℕ). OnOk c.write_through.result (OnlyBytes s (bytes_of (d.held later) s) (d.may_leave later))) c.slot.ensures (c.write_through.ensures.lasting told) in
    both c.write_through.result lasting lasting
    (λ own same. slot_lasts 1 slot (d.held c.args.disk.now) (d.held later) (Torn 0 1 laid) (d.may_leave c.args.disk.now) (d.may_leave later) (omega arith) (omega arith) run.now besides can.other own)
