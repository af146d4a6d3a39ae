use Rattle.std.proofs.Common.{◌≡◌, ◌+◌, ◌-◌, ◌^◌, ◌≤◌, min, ℕ, Option, List, ◌++◌, length, take, drop, refl, sym, ◌∙◌, ap, subst, arith, length-append, length-take}
use Rattle.std.specs.Prelude.{Vec}
use Rattle.std.specs.Vec.{vec_len, vec_capacity}
use Rattle.std.specs.declared.alloc.Global.{Global}
use Rattle.span_types.specs.declared.spans.Row.{Row}
use Rattle.store_model.specs.Choice.{most_rows}
use Rattle.store_model.specs.Event.Event.{BeginFlush}
use Rattle.store_model.specs.Event.Reply.{Refused}
use Rattle.store_model.specs.Event.Refusal.{Fault}
use Rattle.store_state.specs.Replies.{begin_refusal}
use Rattle.store_core.specs.Events.{Did}
use Rattle.store_core.specs.declared.store.Core.{Core}
use Rattle.store_core.specs.Jobs.{CommitFits, SameCompaction}
use Rattle.store_core.specs.declared.jobs.OpenCompaction.{OpenCompaction}
use Rattle.store_core.proofs.JobRooms.{RoomOfCompaction, kept_infos, kept_jobs, made_jobs, one_none, one_at_most}
use Rattle.store_core.proofs.BeginEvents.{did_not_begin, did_idle, did_lack, did_begin_as, did_begin_fail, back_in_front, idle_is, free_is}
use Rattle.store_core.proofs.store.Core.begin_flush.Goals as goal

pub returns-in-Err-clause-begun : goal.returns-in-Err-clause-begun
returns-in-Err-clause-begun g c = did_not_begin g.D.Device g.met.D.Device.only_now c.args.self.now (begin_refusal c.in-Err.error) c.in-Err.ensures.refused c.in-Err.ensures.no_fault

pub returns-then-not-some-clause-begun : goal.returns-then-not-some-clause-begun
returns-then-not-some-clause-begun g c = did_idle g.D.Device g.met.D.Device.only_now c.args.self.now (λ m has. idle_is c.in-Ok.some m c.if-not-some.true (c.in-Ok.ensures.free m has))

pub take_head-requires : goal.take_head-requires
take_head-requires g c = c.undo_flush.ensures.gone

pub make_room-requires : goal.make_room-requires
make_room-requires g c =
    let jobs = c.args.self.now.state.jobs in
    let may = c.in-Ok.ensures.sure c.if-not-some.false in
    let none = one_none jobs.flush may.none in
    let one = one_at_most jobs.compaction in
    omega (arith, none, one)

pub next_files-files-requires : goal.next_files-files-requires
next_files-files-requires g c = let may = c.in-Ok.ensures.sure c.if-not-some.false in let same = c.make_room.ensures.same.next_file in let low = may.files in omega (arith, same, low)

pub make_files-requires : goal.make_files-requires
make_files-requires g c = λ is. let block = c.next_files-files.ensures.0 in let segment = c.next_files-files.ensures.1 in omega (arith, is, block, segment)

pub begin_flush-number-requires : goal.begin_flush-number-requires
begin_flush-number-requires g c = let may = c.in-Ok.ensures.sure c.if-not-some.false in let same = c.make_room.ensures.same.next_file in let low = may.files in omega (arith, same, low)

pub returns-in_default-clause-begun : goal.returns-in_default-clause-begun
returns-in_default-clause-begun g c =
    let core = c.args.self.now in
    let may = c.in-Ok.ensures.sure c.if-not-some.false in
    let undone = c.undo_flush.ensures in
    did_lack g.D.Device g.met.D.Device.only_now core c.undo_flush.new.self c.reserve.new.self core.state.jobs (λ m has. free_is c.in-Ok.some m c.if-not-some.false (c.in-Ok.ensures.free m has)) may.none
    (kept_infos core.state.list core.state.infos c.reserve.new.self core.state.jobs c.reserve.ensures.items c.reserve.ensures.capacity)
    (λ m has. record { live = undone.same; head = undone.back; flushing = undone.gone })

pub returns-in_default-make_room-clause-begun : goal.returns-in_default-make_room-clause-begun
returns-in_default-make_room-clause-begun g c =
    let core = c.args.self.now in
    let may = c.in-Ok.ensures.sure c.if-not-some.false in
    let same = c.make_room.ensures.same in
    let undone = c.undo_flush.ensures in
    did_lack g.D.Device g.met.D.Device.only_now core c.undo_flush.new.self c.reserve.new.self c.make_room.new.self (λ m has. free_is c.in-Ok.some m c.if-not-some.false (c.in-Ok.ensures.free m has)) may.none
    (kept_jobs core.state.list core.state.infos c.reserve.new.self core.state.jobs c.make_room.new.self same c.in_default-make_room.ensures.refused c.reserve.ensures.items c.reserve.ensures.capacity)
    (λ m has. record { live = undone.same; head = undone.back; flushing = undone.gone })

pub returns-in_default-take_head-clause-begun : goal.returns-in_default-take_head-clause-begun
returns-in_default-take_head-clause-begun g c =
    let core = c.args.self.now in
    let may = c.in-Ok.ensures.sure c.if-not-some.false in
    let same = c.make_room.ensures.same in
    let undone = c.undo_flush.ensures in
    let lacks = c.in_default-take_head.ensures.refused in
    did_lack g.D.Device g.met.D.Device.only_now core c.take_head.new.self c.reserve.new.self c.make_room.new.self (λ m has. free_is c.in-Ok.some m c.if-not-some.false (c.in-Ok.ensures.free m has)) may.none
    (made_jobs core.state.list core.state.infos c.reserve.new.self core.state.jobs c.make_room.new.self same c.in-Ok-make_room.ensures.others c.in-Ok-make_room.ensures.room c.reserve.ensures.items c.in-Ok-reserve.ensures.ok)
    (λ m has. record { live = c.take_head.ensures.same ∙ undone.same; head = lacks.1 ∙ undone.back; flushing = lacks.0 })

pub returns-in-Ok-make_files-clause-begun : goal.returns-in-Ok-make_files-clause-begun
returns-in-Ok-make_files-clause-begun g c =
    let d = g.D.Device in
    let core = c.args.self.now in
    let may = c.in-Ok.ensures.sure c.if-not-some.false in
    let same = c.make_room.ensures.same in
    let undone = c.undo_flush.ensures in
    let took = c.in-Ok-take_head.ensures.taken in
    let begun = c.begin_flush-number.ensures in
    let files = c.next_files-files in
    did_begin_as d core c.make_files.new.disk files.result may.writes may.none may.files (files.ensures.0 ∙ same.next_file) (files.ensures.1 ∙ ap (λ (n : ℕ). n + 1) same.next_file)
    (λ m has. free_is c.in-Ok.some m c.if-not-some.false (c.in-Ok.ensures.free m has))
    _ c.in-Ok-make_files.ensures.counted c.make_files.ensures.any_moment c.make_files.ensures.others
    c.take_head.new.self c.reserve.new.self c.begin_flush-number.new.self c.in-Ok-make_room.room c.in-Ok-take_head.rows c.reserve.ensures.items c.in-Ok-reserve.ensures.ok
    (record {
      next_file = begun.next_file ∙ ap (λ (n : ℕ). n + 2) same.next_file;
      number = subst (λ (n : ℕ). c.begin_flush-number.new.self.begun ≡ min (n + 1) (2 ^ 64 - 1)) same.begun begun.number.1;
      loose = ap (λ (v : Vec ℕ Global). v.items) begun.same.0 ∙ same.loose;
      flush = begun.flush;
      compaction = subst (λ (k : Option OpenCompaction). SameCompaction core.state.jobs.compaction k) (sym begun.same.1) same.compaction;
      loose_room = subst (λ (v : Vec ℕ Global). vec_len v + length core.state.list.segments + length core.state.list.blocks + 4 ≤ vec_capacity v) (sym begun.same.0) c.in-Ok-make_room.ensures.room;
      mine = subst (λ (v : Vec ℕ Global). CommitFits c.in-Ok-make_room.room core.state.list (vec_len v) 2) (sym begun.same.0) c.in-Ok-make_room.ensures.fits;
      other = subst (λ (v : Vec ℕ Global). RoomOfCompaction core.state.list (vec_len v) 2 c.begin_flush-number.new.self.compaction) (sym begun.same.0)
          (subst (λ (k : Option OpenCompaction). RoomOfCompaction core.state.list (vec_len c.make_room.new.self.loose) 2 k) (sym begun.same.1) c.in-Ok-make_room.ensures.others.compaction);
    })
    (record {
      live = c.take_head.ensures.same ∙ undone.same;
      taken = took.0 ∙ ap (λ (r : List Row). take most_rows r) undone.back;
      flushing = took.1;
      head = took.2 ∙ ap (λ (r : List Row). drop most_rows r) undone.back;
    })
    refl c.begin_flush-number.result begun.number.0 c.in-Ok-make_files.ensures.empty c.in-Ok-make_files.ensures.segment

pub returns-in-Ok-make_files-clause-fresh : goal.returns-in-Ok-make_files-clause-fresh
returns-in-Ok-make_files-clause-fresh g c =
    let core = c.args.self.now in
    let may = c.in-Ok.ensures.sure c.if-not-some.false in
    let rows : List Row = c.in-Ok-take_head.rows in
    let all : List Row = core.state.live.flushing ++ core.state.live.head in
    let is : rows ≡ take most_rows all = c.in-Ok-take_head.ensures.taken.0 ∙ ap (λ (r : List Row). take most_rows r) c.undo_flush.ensures.back in
    let size : length rows ≡ length (take most_rows all) = ap (λ (r : List Row). length r) is in
    let taken = length-take most_rows all in
    let joined = length-append core.state.live.flushing core.state.live.head in
    let some = may.rows in
    (refl, omega (arith, size, taken, joined, some), omega (arith, size, taken))

pub returns-in-Err-make_files-clause-begun : goal.returns-in-Err-make_files-clause-begun
returns-in-Err-make_files-clause-begun g c =
    let d = g.D.Device in
    let core = c.args.self.now in
    let may = c.in-Ok.ensures.sure c.if-not-some.false in
    let same = c.make_room.ensures.same in
    let undone = c.undo_flush.ensures in
    let took = c.in-Ok-take_head.ensures.taken in
    let files = c.next_files-files in
    let back = c.undo_flush-in-Err-make_files.ensures in
    subst (λ (s : Core _). Did d core BeginFlush (Refused Fault) s) (sym c.stop_writing.ensures)
    (did_begin_fail d core c.make_files.new.disk files.result may.writes may.none may.files (files.ensures.0 ∙ same.next_file) (files.ensures.1 ∙ ap (λ (n : ℕ). n + 1) same.next_file)
    (λ m has. free_is c.in-Ok.some m c.if-not-some.false (c.in-Ok.ensures.free m has))
    _ c.in-Err-make_files.ensures.counted c.make_files.ensures.any_moment c.make_files.ensures.others
    c.undo_flush-in-Err-make_files.new.self c.reserve.new.self c.make_room.new.self (d.faults c.make_files.new.disk) refl refl
    (made_jobs core.state.list core.state.infos c.reserve.new.self core.state.jobs c.make_room.new.self same c.in-Ok-make_room.ensures.others c.in-Ok-make_room.ensures.room c.reserve.ensures.items c.in-Ok-reserve.ensures.ok)
    (λ m has. back_in_front core.state.live c.take_head.new.self c.undo_flush-in-Err-make_files.new.self c.in-Ok-take_head.rows
    (record {
      live = c.take_head.ensures.same ∙ undone.same;
      taken = took.0 ∙ ap (λ (r : List Row). take most_rows r) undone.back;
      flushing = took.1;
      head = took.2 ∙ ap (λ (r : List Row). drop most_rows r) undone.back;
    })
    back.back back.gone back.same))
