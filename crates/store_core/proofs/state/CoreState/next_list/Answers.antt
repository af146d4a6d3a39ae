use Rattle.std.proofs.Common.{◌≡◌, ◌≤◌, ◌∙◌, ℕ, ◌+◌, ◌*◌, ◌++◌, List, length, None, Option, IsSome, refl, sym, ap, subst, arith}
use Rattle.std.proofs.lemmas.Option.{IfSome_then}
use Rattle.std.specs.Prelude.{Vec}
use Rattle.std.specs.declared.alloc.Global.{Global}
use Rattle.store_model.specs.State.{live_rows}
use Rattle.live_traces.specs.Parts.{least_number}
use Rattle.store_state.specs.Edited.{one_of}
use Rattle.store_state.specs.Listed.{floor_from}
use Rattle.store_state.specs.Loose.{flush_part}
use Rattle.store_core.specs.Jobs.{one_if, open_jobs, files_of_compaction}
use Rattle.store_core.specs.NextList.{length_of, next_floor}
use Rattle.store_core.specs.declared.jobs.OpenCompaction.{OpenCompaction}
use Rattle.store_core.specs.declared.jobs.OpenFlush.{OpenFlush}
use Rattle.store_core.specs.declared.room.CommitRoom.{CommitRoom}
use Rattle.store_core.specs.declared.state.CoreState.{CoreState}
use Rattle.store_core.proofs.RoomLeft.{one_of_compaction}
use Rattle.store_core.proofs.NextTaken.{as_next, room_fits, room_is, some_of, if_some, to_some}
use Rattle.store_core.proofs.state.CoreState.next_list.Goals as goal

pub take_room-room-requires-clause-open : goal.take_room-room-requires-clause-open
take_room-room-requires-clause-open c = c.requires.open

pub take_room-room-requires-clause-room : goal.take_room-room-requires-clause-room
take_room-room-requires-clause-room c = IfSome_then c.args.self.now.jobs.flush c.requires.room.rooms.flush (λ known ready. subst (λ (r : Option CommitRoom). IsSome r) (sym ready.1) refl)

pub edited-requires-clause-fits : goal.edited-requires-clause-fits
edited-requires-clause-fits c =
    let core : CoreState = c.args.self.now in
    let known = some_of core.jobs.flush c.requires.open in
    let taken = if_some _ core.jobs.flush known.0 known.1 c.take_room-room.ensures.taken in
    let ready = if_some _ core.jobs.flush known.0 known.1 c.requires.room.rooms.flush in
    let same = c.take_room-room.ensures.same in
    let one : one_if core.jobs.flush ≡ 1 = ap (λ (o : Option OpenFlush). one_if o) known.1 in
    let other = ap (λ (l : List ℕ). length l) (c.compact_file-compaction.ensures ∙ ap files_of_compaction same.3) ∙ one_of_compaction core.jobs.compaction in
    let len = ap (λ (l : List ℕ). length l) (c.as_slice.ensures.value ∙ ap (λ (v : Vec ℕ Global). v.items) same.2) ∙ sym core.jobs.loose.ok.0 in
    let few : length (flush_part None) + length (one_of c.compact_file-compaction.result) ≤ 2 * open_jobs core.jobs = omega (arith, one, other) in
    room_fits core ready.0 c.take_room-room.result.1 _ _ (room_is ready.0 c.take_room-room.result.1 (sym ready.1 ∙ taken.1)) len (omega (arith, one)) few ready.2

pub edited-requires-clause-rules : goal.edited-requires-clause-rules
edited-requires-clause-rules c = λ next after.
    let core : CoreState = c.args.self.now in
    let known = some_of core.jobs.flush c.requires.open in
    let taken = if_some _ core.jobs.flush known.0 known.1 c.take_room-room.ensures.taken in
    let few = c.requires.few in
    let sum = c.length-first.ensures.sum in
    let first_is : c.length-first.result ≡ length_of core = omega (arith, sum, few) in
    let same = c.take_room-room.ensures.same in
    let floor_is : c.floor_of-floor.result ≡ next_floor core = c.floor_of-floor.ensures ∙ ap (floor_from c.length-first.result) c.least_number.ensures
    ∙ ap (λ (n : ℕ). floor_from n (least_number (core.live.head ++ live_rows core.live.live))) first_is in
    if_some _ core.jobs.flush known.0 known.1 c.requires.rules next
    (as_next core known.0.files c.take_room-room.result.0 c.args.rows c.take_room-room.new.self.next_file c.length-first.result c.floor_of-floor.result _ _ next
    taken.0 same.1 (c.as_slice.ensures.value ∙ ap (λ (v : Vec ℕ Global). v.items) same.2) first_is floor_is (c.compact_file-compaction.ensures ∙ ap files_of_compaction same.3) after)

pub returns-clause-list : goal.returns-clause-list
returns-clause-list c =
    let core : CoreState = c.args.self.now in
    let known = some_of core.jobs.flush c.requires.open in
    let taken = if_some _ core.jobs.flush known.0 known.1 c.take_room-room.ensures.taken in
    let few = c.requires.few in
    let sum = c.length-first.ensures.sum in
    let first_is : c.length-first.result ≡ length_of core = omega (arith, sum, few) in
    let same = c.take_room-room.ensures.same in
    let floor_is : c.floor_of-floor.result ≡ next_floor core = c.floor_of-floor.ensures ∙ ap (floor_from c.length-first.result) c.least_number.ensures
    ∙ ap (λ (n : ℕ). floor_from n (least_number (core.live.head ++ live_rows core.live.live))) first_is in
    to_some _ core.jobs.flush known.0 known.1
    (as_next core known.0.files c.take_room-room.result.0 c.args.rows c.take_room-room.new.self.next_file c.length-first.result c.floor_of-floor.result _ _ c.edited.result.0
    taken.0 same.1 (c.as_slice.ensures.value ∙ ap (λ (v : Vec ℕ Global). v.items) same.2) first_is floor_is (c.compact_file-compaction.ensures ∙ ap files_of_compaction same.3) c.edited.ensures.list)

pub returns-clause-flush : goal.returns-clause-flush
returns-clause-flush c = IfSome_then c.args.self.now.jobs.flush c.take_room-room.ensures.taken (λ known taken. taken.2)

pub returns-clause-same : goal.returns-clause-same
returns-clause-same c =
    let core : CoreState = c.args.self.now in
    let mid = c.take_room-room.new.self in
    let same = c.take_room-room.ensures.same in
    ap (λ (n : ℕ). record core { jobs = record mid { begun = n } }) same.0
    ∙ ap (λ (n : ℕ). record core { jobs = record mid { begun = core.jobs.begun; next_file = n } }) same.1
    ∙ ap (λ (v : Vec ℕ Global). record core { jobs = record mid { begun = core.jobs.begun; next_file = core.jobs.next_file; loose = v } }) same.2
    ∙ ap (λ (o : Option OpenCompaction). record core { jobs = record mid { begun = core.jobs.begun; next_file = core.jobs.next_file; loose = core.jobs.loose; compaction = o } }) same.3
