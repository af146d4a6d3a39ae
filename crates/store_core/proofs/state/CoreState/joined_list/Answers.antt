use Rattle.std.proofs.Common.{◌≡◌, ◌≤◌, ◌∙◌, ℕ, ◌+◌, ◌*◌, List, length, Option, IsSome, refl, sym, ap, subst, arith}
use Rattle.std.proofs.lemmas.List.{append-nil}
use Rattle.std.proofs.lemmas.Option.{IfSome_then}
use Rattle.std.specs.Prelude.{Vec}
use Rattle.std.specs.declared.alloc.Global.{Global}
use Rattle.store_core.specs.Jobs.{files_of_flush, one_if, open_jobs}
use Rattle.store_core.specs.declared.jobs.OpenCompaction.{OpenCompaction}
use Rattle.store_core.specs.declared.jobs.OpenFlush.{OpenFlush}
use Rattle.store_core.specs.declared.room.CommitRoom.{CommitRoom}
use Rattle.store_core.specs.declared.state.CoreState.{CoreState}
use Rattle.store_state.specs.Loose.{flush_part}
use Rattle.store_core.proofs.RoomLeft.{two_of_flush}
use Rattle.store_core.proofs.NextTaken.{as_joined, room_fits, room_is, some_of, if_some, to_some}
use Rattle.store_core.proofs.state.CoreState.joined_list.Goals as goal

pub take_compact_room-file-requires-clause-open : goal.take_compact_room-file-requires-clause-open
take_compact_room-file-requires-clause-open c = c.requires.open

pub take_compact_room-file-requires-clause-room : goal.take_compact_room-file-requires-clause-room
take_compact_room-file-requires-clause-room c = IfSome_then c.args.self.now.jobs.compaction c.requires.room.rooms.compaction (λ known ready. subst (λ (r : Option CommitRoom). IsSome r) (sym ready.1) refl)

pub edited-requires-clause-fits : goal.edited-requires-clause-fits
edited-requires-clause-fits c =
    let core : CoreState = c.args.self.now in
    let known = some_of core.jobs.compaction c.requires.open in
    let taken = if_some _ core.jobs.compaction known.0 known.1 c.take_compact_room-file.ensures.taken in
    let ready = if_some _ core.jobs.compaction known.0 known.1 c.requires.room.rooms.compaction in
    let same = c.take_compact_room-file.ensures.same in
    let one : one_if core.jobs.compaction ≡ 1 = ap (λ (o : Option OpenCompaction). one_if o) known.1 in
    let other = ap (λ (l : List ℕ). length l) (c.flush_files-flush.ensures ∙ ap files_of_flush same.3) ∙ two_of_flush core.jobs.flush in
    let len = ap (λ (l : List ℕ). length l) (c.as_slice.ensures.value ∙ ap (λ (v : Vec ℕ Global). v.items) same.2) ∙ sym core.jobs.loose.ok.0 in
    let few : length (flush_part c.flush_files-flush.result) + 0 ≤ 2 * open_jobs core.jobs = omega (arith, one, other) in
    room_fits core ready.0 c.take_compact_room-file.result.2 _ _ (room_is ready.0 c.take_compact_room-file.result.2 (sym ready.1 ∙ taken.2)) len (omega (arith, one)) few ready.2

pub edited-requires-clause-rules : goal.edited-requires-clause-rules
edited-requires-clause-rules c = λ next after.
    let core : CoreState = c.args.self.now in
    let known = some_of core.jobs.compaction c.requires.open in
    let taken = if_some _ core.jobs.compaction known.0 known.1 c.take_compact_room-file.ensures.taken in
    let same = c.take_compact_room-file.ensures.same in
    if_some _ core.jobs.compaction known.0 known.1 c.requires.rules next
    (as_joined core known.0 c.args.joined.now c.take_compact_room-file.result.0 c.take_compact_room-file.result.1 c.args.rows c.take_compact_room-file.new.self.next_file _ _ next
    taken.0 taken.1 same.1 (c.as_slice.ensures.value ∙ ap (λ (v : Vec ℕ Global). v.items) same.2) (append-nil (flush_part c.flush_files-flush.result) ∙ c.flush_files-flush.ensures ∙ ap files_of_flush same.3) after)

pub returns-clause-list : goal.returns-clause-list
returns-clause-list c =
    let core : CoreState = c.args.self.now in
    let known = some_of core.jobs.compaction c.requires.open in
    let taken = if_some _ core.jobs.compaction known.0 known.1 c.take_compact_room-file.ensures.taken in
    let same = c.take_compact_room-file.ensures.same in
    to_some _ core.jobs.compaction known.0 known.1
    (as_joined core known.0 c.args.joined.now c.take_compact_room-file.result.0 c.take_compact_room-file.result.1 c.args.rows c.take_compact_room-file.new.self.next_file _ _ c.edited.result.0
    taken.0 taken.1 same.1 (c.as_slice.ensures.value ∙ ap (λ (v : Vec ℕ Global). v.items) same.2) (append-nil (flush_part c.flush_files-flush.result) ∙ c.flush_files-flush.ensures ∙ ap files_of_flush same.3) c.edited.ensures.list)

pub returns-clause-compaction : goal.returns-clause-compaction
returns-clause-compaction c = IfSome_then c.args.self.now.jobs.compaction c.take_compact_room-file.ensures.taken (λ known taken. taken.3)

pub returns-clause-same : goal.returns-clause-same
returns-clause-same c =
    let core : CoreState = c.args.self.now in
    let mid = c.take_compact_room-file.new.self in
    let same = c.take_compact_room-file.ensures.same in
    ap (λ (n : ℕ). record core { jobs = record mid { begun = n } }) same.0
    ∙ ap (λ (n : ℕ). record core { jobs = record mid { begun = core.jobs.begun; next_file = n } }) same.1
    ∙ ap (λ (v : Vec ℕ Global). record core { jobs = record mid { begun = core.jobs.begun; next_file = core.jobs.next_file; loose = v } }) same.2
    ∙ ap (λ (o : Option OpenFlush). record core { jobs = record mid { begun = core.jobs.begun; next_file = core.jobs.next_file; loose = core.jobs.loose; flush = o } }) same.3
