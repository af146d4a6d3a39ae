-- The bytes that were read are those that count.
use Rattle.std.proofs.Common.{◌≡◌, ◌<◌, ◌≤◌, min, ℕ, List, IsTrue, IfOk, length, take, sym, ◌∙◌, ap, subst, arith, length-take}
use Rattle.disk_model.specs.Images.{bytes_of}
use Rattle.block_list.specs.Fronts.{size_in, counting}
use Rattle.block_list.proofs.Fronts.{short_counts, size_front, least_counts}
use Rattle.block_list.proofs.loading.read_counting.Goals as goal

pub returns-then-len-lt-HEAD-clause-bytes : goal.returns-then-len-lt-HEAD-clause-bytes
returns-then-len-lt-HEAD-clause-bytes g c = λ told.
    let whole = bytes_of (g.D.Device.held c.args.disk.now) c.args.file in
    let is = c.in_ok-head.ensures.bytes told in
    let size = ap length is in
    let room = c.in_ok-head.head.ok in
    is ∙ short_counts whole (omega (arith, c.if-len-lt-HEAD.true, c.len.ensures, room.0, room.1, size))

pub returns-clause-bytes : goal.returns-clause-bytes
returns-clause-bytes g c = λ told.
    let d = g.D.Device in
    let file = c.args.file in
    let whole = bytes_of (d.held c.args.disk.now) file in
    let is = c.in_ok-head.ensures.bytes told in
    let size = ap length is in
    let room = c.in_ok-head.head.ok in
    let long : 30 ≤ length whole = omega (arith, c.if-len-lt-HEAD.false, c.len.ensures, room.0, room.1, size, length-take 30 whole) in
    let one = c.in_ok-head.ensures.untouched in
    let told_one : IsTrue (d.tells c.read_first.new.disk) = subst IsTrue (sym one.telling) told in
    let two = c.in_ok-len-in-Ok.ensures in
    let told_two : IsTrue (d.tells c.len-in-Ok.new.self) = subst IsTrue (sym two.counted.telling) told_one in
    let same : bytes_of (d.held c.len-in-Ok.new.self) file ≡ whole = two.same_bytes told_one file ∙ one.same_bytes told file in
    let all : c.in_ok-len-in-Ok.field-0 ≡ length whole = two.length told_one ∙ ap length (one.same_bytes told file) in
    let needed : c.in-Ok.size ≡ size_in whole = c.in-Ok.ensures ∙ ap size_in (c.deref.ensures.value ∙ is) ∙ size_front whole long in
    let count : c.min-size.result ≡ min c.in-Ok.size c.in_ok-len-in-Ok.field-0 = c.min-size.ensures in
    let counts : take c.min-size.result (bytes_of (d.held c.len-in-Ok.new.self) file) ≡ counting whole =
    ap (λ (l : List ℕ). take c.min-size.result l) same ∙ ap (λ (n : ℕ). take n whole) count ∙ least_counts whole c.in-Ok.size c.in_ok-len-in-Ok.field-0 needed all in
    subst (λ (l : List ℕ). IfOk c.read_first-2.result (λ bytes. bytes.items ≡ l)) counts (c.read_first-2.ensures.bytes told_two)
