use Rattle.std.proofs.Common.{◌≡◌, ◌++◌, ℕ, List, IsTrue, Ok, Err, sym, ◌∙◌, ap, subst, take, drop}
use Rattle.std.specs.Prelude.{replicate}
use Rattle.disk_model.specs.Images.{bytes_of}
use Rattle.page_cache.specs.Frames.{Frame, IsTaken}
use Rattle.store_state.specs.Written.{page_of}
use Rattle.store_core.specs.Frames.{FramesFit}
use Rattle.store_core.proofs.Frames.{found_bytes, found_fits, taken_fits}
use Rattle.store_core.proofs.KeptFiles.{named_kept}
use Rattle.store_core.proofs.PageEvents.{page_done, page_here}
use Rattle.store_core.proofs.store.Core.read_page.Goals as goal

-- ---- past the end of every file

pub returns-in_default-clause-did : goal.returns-in_default-clause-did
returns-in_default-clause-did g c =
    page_here g.D.Device g.met.D.Device.only_now c.args.self.now c.args.pin.now.number c.args.block c.args.page c.args.self.now.cache (λ m s fits. fits) c.read_past_end.new.buf c.read_past_end.ensures

-- ---- the page stood in a frame

pub returns-then-find-clause-bytes : goal.returns-then-find-clause-bytes
returns-then-find-clause-bytes g c = λ told.
    let d = g.D.Device in
    let core = c.args.self.now in
    let known = c.requires.open in
    found_bytes (IsTrue (d.tells core.disk)) (d.held core.disk) known.0.state c.args.block c.args.page c.find.new.buf core.cache c.find.new.self (c.find.ensures.found c.if-find.true) known.1.frames told
    (named_kept core.state known.0 known.0 c.args.pin.now.number c.args.block known.1.state.has known.1.state.has known.2)

pub returns-then-find-clause-did : goal.returns-then-find-clause-did
returns-then-find-clause-did g c =
    let d = g.D.Device in
    let core = c.args.self.now in
    page_here d g.met.D.Device.only_now core c.args.pin.now.number c.args.block c.args.page c.find.new.self
    (λ m s fits. found_fits (IsTrue (d.tells core.disk)) (d.held core.disk) m.state c.args.block c.args.page c.find.new.buf core.cache c.find.new.self (c.find.ensures.found c.if-find.true) fits)
    c.find.new.buf (returns-then-find-clause-bytes g c)

-- ---- it was read

pub returns-in-Ok-clause-did : goal.returns-in-Ok-clause-did
returns-in-Ok-clause-did g c =
    let d = g.D.Device in
    let core = c.args.self.now in
    let known = c.requires.open in
    let bytes : List ℕ = bytes_of (d.held core.disk) c.args.block in
    let its : IsTrue (d.tells core.disk) → c.read_from.new.buf ≡ page_of bytes c.args.page =
    λ told. c.in-Ok.ensures.bytes told ∙ ap (λ (n : ℕ). take 4096 (drop n bytes ++ replicate 4096 0)) c.in-Some.ensures.1 in
    let taken : IsTaken c.args.block c.args.page c.read_from.new.buf core.cache c.keep.new.self =
    subst (λ (fs : List Frame). IsTaken c.args.block c.args.page c.read_from.new.buf fs c.keep.new.self) (c.find.ensures.unchanged c.if-find.false) c.keep.ensures in
    let u = c.read_from.ensures in
    page_done d core c.read_from.new.disk c.args.pin.now.number c.args.block c.args.page u.untouched (u.calls.later, u.calls.at_most) (u.reads.later, u.reads.at_most) c.keep.new.self
    (λ m s fits. taken_fits (IsTrue (d.tells core.disk)) (d.held core.disk) m.state c.args.block c.args.page c.read_from.new.buf core.cache c.keep.new.self s.sound
    (named_kept core.state known.0 m c.args.pin.now.number c.args.block known.1.state.has s.has known.2) its taken fits)
    {U = Unit {0}} (Ok tt) c.read_from.new.buf its c.in-Ok.ensures.counted

-- ---- its read failed

pub returns-in-Err-clause-did : goal.returns-in-Err-clause-did
returns-in-Err-clause-did g c =
    let d = g.D.Device in
    let core = c.args.self.now in
    let u = c.read_from.ensures in
    page_done d core c.read_from.new.disk c.args.pin.now.number c.args.block c.args.page u.untouched (u.calls.later, u.calls.at_most) (u.reads.later, u.reads.at_most) c.find.new.self
    (λ m s fits. subst (FramesFit (IsTrue (d.tells core.disk)) (d.held core.disk) m.state) (sym (c.find.ensures.unchanged c.if-find.false)) fits)
    {U = Unit {0}} (Err c.in-Err.error) c.read_from.new.buf (λ told. tt) c.in-Err.ensures.counted
