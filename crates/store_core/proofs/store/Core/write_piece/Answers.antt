use Rattle.std.proofs.Common.{ℕ, ◌+◌, List, length, refl, sym, subst, ◌∙◌, ap, arith, length-append}
use Rattle.disk_model.specs.Images.{bytes_of}
use Rattle.disk_model.proofs.CallRuns.{passes_once, write_calls}
use Rattle.disk_model.proofs.BytesLemmas.{overwritten_end}
use Rattle.store_model.specs.Event.Event.{WritePiece}
use Rattle.store_model.specs.Event.Reply.{Refused}
use Rattle.store_model.specs.Event.Refusal.{Fault}
use Rattle.store_core.specs.Events.{Did}
use Rattle.store_core.specs.declared.store.Core.{Core}
use Rattle.store_core.proofs.OpenJobs.{job_file}
use Rattle.store_core.proofs.PieceEvents.{no_piece, did_piece, did_piece_fail}
use Rattle.store_core.proofs.States.{none_of}
use Rattle.store_core.proofs.store.Core.write_piece.Goals as goal

pub returns-in-Some-clause-did : goal.returns-in-Some-clause-did
returns-in-Some-clause-did g c = no_piece g.D.Device g.met.D.Device.only_now c.args.self.now c.args.out.now.number c.args.out.now.file c.args.bytes.now c.in-Some.faults c.in-Some.is

pub returns-in-Some-clause-whole : goal.returns-in-Some-clause-whole
returns-in-Some-clause-whole g c = λ told whole other. whole

pub returns-in-Ok-clause-did : goal.returns-in-Ok-clause-did
returns-in-Ok-clause-did g c =
    let core = c.args.self.now in
    let known = c.requires.job in
    did_piece g.D.Device g.met.D.Device.only_now core c.write.new.self c.args.out.now.number c.args.out.now.file c.args.out.now.written c.args.bytes.now (none_of core.state.read_only c.in_default.not-Some)
    (job_file core.state known.0 c.args.out.now known.1.state.has known.2)
    _ (write_calls g.D.Device core.disk c.write.new.self _ (c.args.out.now.written + length c.args.bytes.now) (passes_once g.D.Device _ _ c.write.ensures.time) c.in-Ok.ensures.counted) c.write.ensures.besides c.write.ensures.crash c.write.ensures.time
    c.in-Ok.ensures.written (λ told. c.requires.whole told (none_of core.state.read_only c.in_default.not-Some)) refl

pub returns-in-Ok-clause-whole : goal.returns-in-Ok-clause-whole
returns-in-Ok-clause-whole g c = λ told whole other.
    let old = bytes_of (g.D.Device.held c.args.self.now.disk) c.args.out.now.file in
    let new = c.in-Ok.ensures.written told ∙ overwritten_end old c.args.out.now.written c.args.bytes.now whole in
    let size = length-append old c.args.bytes.now in
    let same = ap (λ (b : List ℕ). length b) new in
    omega (arith, size, whole, same)

pub returns-in-Err-clause-did : goal.returns-in-Err-clause-did
returns-in-Err-clause-did g c =
    let core = c.args.self.now in
    let known = c.requires.job in
    subst (λ (s : Core _). Did g.D.Device core (WritePiece c.args.out.now.number c.args.out.now.file c.args.bytes.now) (Refused Fault) s) (sym c.stop_writing.ensures)
    (did_piece_fail g.D.Device g.met.D.Device.only_now core c.write.new.self c.args.out.now.number c.args.out.now.file c.args.out.now.written c.args.bytes.now (none_of core.state.read_only c.in_default.not-Some)
    (job_file core.state known.0 c.args.out.now known.1.state.has known.2)
    _ (write_calls g.D.Device core.disk c.write.new.self _ (c.args.out.now.written + length c.args.bytes.now) (passes_once g.D.Device _ _ c.write.ensures.time) c.in-Err.ensures.counted) c.write.ensures.besides c.write.ensures.crash c.write.ensures.time
    (g.D.Device.faults c.write.new.self) refl refl)

pub returns-in-Some-clause-refused : goal.returns-in-Some-clause-refused
returns-in-Some-clause-refused g c = λ stopped. (c.in-Some.faults, refl)

pub returns-in-Ok-clause-refused : goal.returns-in-Ok-clause-refused
returns-in-Ok-clause-refused g c = λ stopped. absurd (stopped (none_of c.args.self.now.state.read_only c.in_default.not-Some))

pub returns-in-Err-clause-refused : goal.returns-in-Err-clause-refused
returns-in-Err-clause-refused g c = λ stopped. absurd (stopped (none_of c.args.self.now.state.read_only c.in_default.not-Some))

pub returns-in-Ok-clause-near : goal.returns-in-Ok-clause-near
returns-in-Ok-clause-near g c = λ low. c.in-Ok.ensures.counted.near low

pub returns-in-Err-clause-near : goal.returns-in-Err-clause-near
returns-in-Err-clause-near g c = λ low. ap (λ (s : Core _). g.D.Device.far_writes s.disk) c.stop_writing.ensures ∙ c.in-Err.ensures.counted.near low
