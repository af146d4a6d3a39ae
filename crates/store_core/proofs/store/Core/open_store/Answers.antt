use Rattle.std.proofs.Common.{◌≡◌, IsTrue, Option, None, Some, Ok, Err, sym, ◌∙◌, ap, subst, arith}
use Rattle.block_list.specs.Slots.{ImageHoldsList}
use Rattle.block_list.specs.Reading.{slots_at}
use Rattle.block_list.specs.Loading.{IsReady}
use Rattle.block_list.specs.declared.body.ListBody.{ListBody}
use Rattle.disk_model.specs.Images.{bytes_of}
use Rattle.store_core.specs.Opening.StoreBreaks.{slot, listed}
use Rattle.store_core.specs.Opening.HasEntries.{vacant, filled}
use Rattle.store_core.proofs.OpeningSteps.{block_low, list_breaks_same, segment_low, store_unbroken, sound_unbroken, refused_slot, refused_fault}
use Rattle.store_core.specs.Opening.{LeavesAlone, opened_list, refusal_of}
use Rattle.block_list.proofs.SlotLemmas.{same_some}
use Rattle.store_files.specs.Loose.{AreFreed}
use Rattle.store_files.proofs.LeftFiles.{freed_same, next_low}
use Rattle.store_images.proofs.Keeping.{one_list}
use Rattle.store_core.proofs.LeftAlone.{left_untouched, left_loaded, left_then}
use Rattle.store_images.specs.Stored.{first_number}
use Rattle.store_images.proofs.Logs.{log_same}
use Rattle.store_files.specs.LogReading.{tail_of}
use Rattle.store_files.proofs.LogSteps.{read_whole, read_size}
use Rattle.store_core.proofs.NewCores.{no_history, no_history_is_empty}
use Rattle.store_files.proofs.ReadBlocks.{read_blocks_whole, whole_same}
use Rattle.store_core.proofs.OpeningEnds.{opened_existing, opened_new, kept_loaded, kept_then, kept_new, if_ok_both, if_ok_more, if_err_more}
use Rattle.disk_model.proofs.Runs.{untouched_same}
use Rattle.disk_model.proofs.CallRuns.{counts_as, counts_then}
use Rattle.store_files.specs.declared.error.OpenError.TheVariants.{Fault}
use Rattle.block_list.specs.declared.error.ListError.TheVariants as list_errors
use Rattle.store_files.proofs.Answered.{fine_answer, refused_answer}
use Rattle.store_core.proofs.store.Core.open_store.Goals as goal

-- ---- no frames were made

pub returns-in_default-clause-left : goal.returns-in_default-clause-left
returns-in_default-clause-left g c = λ told other.
    let d = g.D.Device in
    left_untouched d c.args.disk c.args.disk told (untouched_same d.tells d.held d.may_leave d.moment d.left_since c.args.disk (g.met.D.Device.only_now c.args.disk))

-- ---- the list wasn't loaded

pub returns-in-Err-clause-kept_refused : goal.returns-in-Err-clause-kept_refused
returns-in-Err-clause-kept_refused g c = kept_loaded g.D.Device c.args.disk c.load.new.disk c.load.ensures.kept

pub returns-in-Err-clause-not_store : goal.returns-in-Err-clause-not_store
returns-in-Err-clause-not_store g c = λ told file at is.
    slot (c.in-Err.ensures.not_list told file at (ap Err (refused_slot c.in-Err.error file at (sym c.refusal.ensures ∙ is))))

pub returns-in-Err-clause-sound : goal.returns-in-Err-clause-sound
returns-in-Err-clause-sound g c = λ told sound file at is.
    sound_unbroken (g.D.Device.held c.args.disk) sound.0 file at sound.1
    (slot (c.in-Err.ensures.not_list told file at (ap Err (refused_slot c.in-Err.error file at (sym c.refusal.ensures ∙ is)))))

pub returns-in-Err-clause-left : goal.returns-in-Err-clause-left
returns-in-Err-clause-left g c = λ told other.
    left_untouched g.D.Device c.args.disk c.load.new.disk told (c.in-Err.ensures.left_alone (λ is. other (c.refusal.ensures ∙ ap refusal_of is)))

-- ---- a new store was made

pub returns-in-None-clause-left : goal.returns-in-None-clause-left
returns-in-None-clause-left g c =
    let d = g.D.Device in
    let disk = c.args.disk in
    let mid = c.load.new.disk in
    if_err_more c.open_new.result _ _
    (λ e same told other. subst (λ x. LeavesAlone d disk x) (sym (same other)) (left_loaded d disk mid None (c.load.ensures.kept told)
    (subst (λ (l : Option ListBody). ImageHoldsList (d.held disk) l) c.in-None.is (c.in-Ok-load.ensures.list told))
    (subst (λ (l : Option ListBody). IsReady (d.held mid) (d.may_leave mid) l) c.in-None.is (c.in-Ok-load.ensures.ready told)) (c.load.ensures.slots told) (c.load.ensures.others told)))
    c.open_new.ensures.unchanged

pub returns-in-None-clause-list : goal.returns-in-None-clause-list
returns-in-None-clause-list g c =
    let d = g.D.Device in
    if_ok_more c.open_new.result _ _
    (λ core is told list there. is ∙ ap opened_list (one_list (d.held c.args.disk) None list (subst (λ (l : Option ListBody). ImageHoldsList (d.held c.args.disk) l) c.in-None.is (c.in-Ok-load.ensures.list told)) there))
    c.open_new.ensures.list

pub returns-in-None-clause-counted : goal.returns-in-None-clause-counted
returns-in-None-clause-counted g c =
    let d = g.D.Device in
    if_ok_more c.open_new.result _ _
    (λ core is told. (None, subst (λ (l : Option ListBody). ImageHoldsList (d.held c.args.disk) l) c.in-None.is (c.in-Ok-load.ensures.list told)))
    c.open_new.ensures.list

pub returns-in-None-clause-ready : goal.returns-in-None-clause-ready
returns-in-None-clause-ready g c = if_ok_more c.open_new.result _ _ (λ core ready told. ready (subst IsTrue (sym c.load.ensures.counted.telling) told)) c.open_new.ensures.ready

pub returns-in-None-clause-opened : goal.returns-in-None-clause-opened
returns-in-None-clause-opened g c =
    let d = g.D.Device in
    if_ok_more c.open_new.result _ _
    (λ core both. opened_new d c.args.disk c.args.moment core (λ told. subst (λ (l : Option ListBody). ImageHoldsList (d.held c.args.disk) l) c.in-None.is (c.in-Ok-load.ensures.list told)) both.0 (both.1 ∙ c.in-Ok.ensures))
    (if_ok_both c.open_new.result _ _ c.open_new.ensures.stands c.open_new.ensures.frames)

pub returns-in-None-clause-kept : goal.returns-in-None-clause-kept
returns-in-None-clause-kept g c =
    let d = g.D.Device in
    let mid = c.load.new.disk in
    if_ok_more c.open_new.result _ _ (λ core run. kept_then d c.args.disk mid core.disk c.load.ensures.counted.telling (kept_loaded d c.args.disk mid c.load.ensures.kept)
    (kept_new d g.met.D.Device.counts_now g.met.D.Device.held_may_stay mid core.disk
    (λ told. subst (λ (l : Option ListBody). IsReady (d.held mid) (d.may_leave mid) l) c.in-None.is (c.in-Ok-load.ensures.ready (subst IsTrue c.load.ensures.counted.telling told))) run)) c.open_new.ensures.any_moment

pub returns-in-None-clause-kept_refused : goal.returns-in-None-clause-kept_refused
returns-in-None-clause-kept_refused g c =
    let d = g.D.Device in
    let mid = c.load.new.disk in
    if_err_more c.open_new.result _ _ (λ e run. kept_then d c.args.disk mid e.1 c.load.ensures.counted.telling (kept_loaded d c.args.disk mid c.load.ensures.kept)
    (kept_new d g.met.D.Device.counts_now g.met.D.Device.held_may_stay mid e.1
    (λ told. subst (λ (l : Option ListBody). IsReady (d.held mid) (d.may_leave mid) l) c.in-None.is (c.in-Ok-load.ensures.ready (subst IsTrue c.load.ensures.counted.telling told))) run)) c.open_new.ensures.any_moment_refused

pub returns-in-None-clause-not_store : goal.returns-in-None-clause-not_store
returns-in-None-clause-not_store g c = if_err_more c.open_new.result _ _ (λ e never told file at is. absurd (never file at is)) c.open_new.ensures.a_store

pub returns-in-None-clause-sound : goal.returns-in-None-clause-sound
returns-in-None-clause-sound g c = if_err_more c.open_new.result _ _ (λ e never told sound file at is. never file at is) c.open_new.ensures.a_store

pub returns-in-None-clause-entries : goal.returns-in-None-clause-entries
returns-in-None-clause-entries g c =
    let d = g.D.Device in
    if_ok_more c.open_new.result _ _
    (λ core stands told. vacant (subst (λ (l : Option ListBody). ImageHoldsList (d.held c.args.disk) l) c.in-None.is (c.in-Ok-load.ensures.list told))
    (sym (stands no_history no_history_is_empty).stands.has.count ∙ no_history_is_empty.no_entries))
    c.open_new.ensures.stands

-- ---- a store was read

pub returns-in-Ok-read_store-clause-list : goal.returns-in-Ok-read_store-clause-list
returns-in-Ok-read_store-clause-list g c = λ told list there.
    let d = g.D.Device in
    c.in-Ok-read_store.ensures.state.1.listing
    ∙ ap opened_list (one_list (d.held c.args.disk) (Some c.in-Some.list) list (subst (λ (l : Option ListBody). ImageHoldsList (d.held c.args.disk) l) c.in-Some.is (c.in-Ok-load.ensures.list told)) there)

pub returns-in-Ok-read_store-clause-counted : goal.returns-in-Ok-read_store-clause-counted
returns-in-Ok-read_store-clause-counted g c = λ told.
    let d = g.D.Device in
    (Some c.in-Some.list, subst (λ (l : Option ListBody). ImageHoldsList (d.held c.args.disk) l) c.in-Some.is (c.in-Ok-load.ensures.list told))

pub returns-in-Ok-read_store-clause-ready : goal.returns-in-Ok-read_store-clause-ready
returns-in-Ok-read_store-clause-ready g c = λ told. c.in-Ok-read_store.ensures.ready (subst IsTrue (sym c.load.ensures.counted.telling) told)

pub returns-in-Err-read_store-clause-left : goal.returns-in-Err-read_store-clause-left
returns-in-Err-read_store-clause-left g c = λ told other.
    let d = g.D.Device in
    let disk = c.args.disk in
    let mid = c.load.new.disk in
    left_then d disk mid c.read_store.new.disk
    (left_loaded d disk mid (Some c.in-Some.list) (c.load.ensures.kept told)
    (subst (λ (l : Option ListBody). ImageHoldsList (d.held disk) l) c.in-Some.is (c.in-Ok-load.ensures.list told))
    (subst (λ (l : Option ListBody). IsReady (d.held mid) (d.may_leave mid) l) c.in-Some.is (c.in-Ok-load.ensures.ready told)) (c.load.ensures.slots told) (c.load.ensures.others told))
    (left_untouched d mid c.read_store.new.disk (subst IsTrue (sym c.load.ensures.counted.telling) told) (c.in-Err-read_store.ensures.left other))

pub returns-in-Ok-read_store-clause-opened : goal.returns-in-Ok-read_store-clause-opened
returns-in-Ok-read_store-clause-opened g c =
    let d = g.D.Device in
    let disk = c.args.disk in
    let mid = c.load.new.disk in
    let list = c.in-Some.list in
    let state = c.in-Ok-read_store.ensures.state in
    opened_existing d disk mid c.args.moment _ list (c.in-Ok-load.ensures.rules list (ap Ok c.in-Some.is)) state.0
    c.load.ensures.counted.telling (c.read_store.ensures.counted.telling ∙ c.load.ensures.counted.telling)
    (λ told. subst (λ (l : Option ListBody). ImageHoldsList (d.held disk) l) c.in-Some.is (c.in-Ok-load.ensures.list told))
    (λ told. (subst (λ (l : Option ListBody). IsReady (d.held mid) (d.may_leave mid) l) c.in-Some.is (c.in-Ok-load.ensures.ready told)).stands) c.load.ensures.others
    state.1 state.2 c.in-Ok-read_store.ensures.blocks c.in-Ok-read_store.ensures.still c.in-Ok-read_store.ensures.blocks_still c.in-Ok-read_store.ensures.settled
    g.met.D.Device.only_now c.now-since.ensures c.in-Ok.ensures

pub returns-in-Ok-read_store-clause-kept : goal.returns-in-Ok-read_store-clause-kept
returns-in-Ok-read_store-clause-kept g c =
    let d = g.D.Device in
    kept_then d c.args.disk c.load.new.disk c.read_store.new.disk c.load.ensures.counted.telling (kept_loaded d c.args.disk c.load.new.disk c.load.ensures.kept) c.read_store.ensures.kept

pub returns-in-Ok-read_store-clause-unbroken : goal.returns-in-Ok-read_store-clause-unbroken
returns-in-Ok-read_store-clause-unbroken g c = λ told file at broken.
    let d = g.D.Device in
    let disk = c.args.disk in
    let mid = c.load.new.disk in
    let list = c.in-Some.list in
    let rules = c.in-Ok-load.ensures.rules list (ap Ok c.in-Some.is) in
    let state = c.in-Ok-read_store.ensures.state in
    let told_mid : IsTrue (d.tells mid) = subst IsTrue (sym c.load.ensures.counted.telling) told in
    store_unbroken (d.held disk) list state.0 file at
    (subst (λ (l : Option ListBody). slots_at (bytes_of (d.held disk) 0) (bytes_of (d.held disk) 1) ≡ Ok l) c.in-Some.is (c.in-Ok-load.ensures.found told))
    (whole_same (d.held disk) (d.held mid) list.blocks (λ x inside. c.load.ensures.others told x.file (block_low list rules x inside))
    (read_blocks_whole (IsTrue (d.tells mid)) (d.held mid) list.blocks c.in-Ok-read_store.state.infos.items c.in-Ok-read_store.ensures.blocks told_mid))
    (log_same (d.held mid) (d.held disk) list.segments (first_number list) state.0 (λ x inside. sym (c.load.ensures.others told x.file (segment_low list rules x inside)))
    (read_whole (IsTrue (d.tells mid)) (d.held mid) list.segments (first_number list) state.0 (tail_of c.in-Ok-read_store.state.segment) state.2 told_mid)) broken

pub returns-in-Ok-read_store-clause-entries : goal.returns-in-Ok-read_store-clause-entries
returns-in-Ok-read_store-clause-entries g c = λ told.
    let d = g.D.Device in
    let disk = c.args.disk in
    let mid = c.load.new.disk in
    let list = c.in-Some.list in
    let rules = c.in-Ok-load.ensures.rules list (ap Ok c.in-Some.is) in
    let state = c.in-Ok-read_store.ensures.state in
    let tail = tail_of c.in-Ok-read_store.state.segment in
    let told_mid : IsTrue (d.tells mid) = subst IsTrue (sym c.load.ensures.counted.telling) told in
    filled list state.0
    (subst (λ (l : Option ListBody). ImageHoldsList (d.held disk) l) c.in-Some.is (c.in-Ok-load.ensures.list told))
    (log_same (d.held mid) (d.held disk) list.segments (first_number list) state.0 (λ x inside. sym (c.load.ensures.others told x.file (segment_low list rules x inside)))
    (read_whole (IsTrue (d.tells mid)) (d.held mid) list.segments (first_number list) state.0 tail state.2 told_mid))
    (read_size (IsTrue (d.tells mid)) (d.held mid) list.segments (first_number list) state.0 tail state.2)

pub returns-in-Err-read_store-clause-kept_refused : goal.returns-in-Err-read_store-clause-kept_refused
returns-in-Err-read_store-clause-kept_refused g c =
    let d = g.D.Device in
    kept_then d c.args.disk c.load.new.disk c.read_store.new.disk c.load.ensures.counted.telling (kept_loaded d c.args.disk c.load.new.disk c.load.ensures.kept) c.read_store.ensures.kept

pub returns-in-Err-read_store-clause-not_store : goal.returns-in-Err-read_store-clause-not_store
returns-in-Err-read_store-clause-not_store g c = λ told file at is.
    let d = g.D.Device in
    let disk = c.args.disk in
    let mid = c.load.new.disk in
    let list = c.in-Some.list in
    let told_mid : IsTrue (d.tells mid) = subst IsTrue (sym c.load.ensures.counted.telling) told in
    listed list (subst (λ (l : Option ListBody). slots_at (bytes_of (d.held disk) 0) (bytes_of (d.held disk) 1) ≡ Ok l) c.in-Some.is (c.in-Ok-load.ensures.found told))
    (list_breaks_same (d.held disk) (d.held mid) list file at
    (λ x inside. c.load.ensures.others told x.file (segment_low list (c.in-Ok-load.ensures.rules list (ap Ok c.in-Some.is)) x inside))
    (λ x inside. c.load.ensures.others told x.file (block_low list (c.in-Ok-load.ensures.rules list (ap Ok c.in-Some.is)) x inside)) (c.in-Err-read_store.ensures.not_store told_mid file at (ap Err is)))

pub returns-in-Err-read_store-clause-sound : goal.returns-in-Err-read_store-clause-sound
returns-in-Err-read_store-clause-sound g c = λ told sound file at is.
    let d = g.D.Device in
    let disk = c.args.disk in
    let mid = c.load.new.disk in
    let list = c.in-Some.list in
    let told_mid : IsTrue (d.tells mid) = subst IsTrue (sym c.load.ensures.counted.telling) told in
    sound_unbroken (d.held disk) sound.0 file at sound.1
    (listed list (subst (λ (l : Option ListBody). slots_at (bytes_of (d.held disk) 0) (bytes_of (d.held disk) 1) ≡ Ok l) c.in-Some.is (c.in-Ok-load.ensures.found told))
    (list_breaks_same (d.held disk) (d.held mid) list file at
    (λ x inside. c.load.ensures.others told x.file (segment_low list (c.in-Ok-load.ensures.rules list (ap Ok c.in-Some.is)) x inside))
    (λ x inside. c.load.ensures.others told x.file (block_low list (c.in-Ok-load.ensures.rules list (ap Ok c.in-Some.is)) x inside)) (c.in-Err-read_store.ensures.not_store told_mid file at (ap Err is))))

pub returns-in-Ok-read_store-clause-freed : goal.returns-in-Ok-read_store-clause-freed
returns-in-Ok-read_store-clause-freed g c = λ told other there.
    let d = g.D.Device in
    let disk = c.args.disk in
    let mid = c.load.new.disk in
    let list : ListBody = c.in-Some.list in
    let rules = c.in-Ok-load.ensures.rules list (ap Ok c.in-Some.is) in
    let least = next_low list rules in
    let is : list ≡ other = same_some list other (one_list (d.held disk) (Some list) (Some other) (subst (λ (l : Option ListBody). ImageHoldsList (d.held disk) l) c.in-Some.is (c.in-Ok-load.ensures.list told)) there) in
    subst (λ (l : ListBody). AreFreed (d.held disk) l.next_file (d.may_leave c.read_store.new.disk)) is
    (freed_same (d.held disk) (d.held mid) list.next_file (d.may_leave c.read_store.new.disk) (λ file above. c.load.ensures.others told file (omega (arith, least, above)))
    (c.in-Ok-read_store.ensures.freed (subst IsTrue (sym c.load.ensures.counted.telling) told)))

pub returns-in-None-clause-freed : goal.returns-in-None-clause-freed
returns-in-None-clause-freed g c =
    let d = g.D.Device in
    if_ok_more c.open_new.result _ _
    (λ core is told list there. absurd (let bad : None ≡ Some list = one_list (d.held c.args.disk) None (Some list) (subst (λ (l : Option ListBody). ImageHoldsList (d.held c.args.disk) l) c.in-None.is (c.in-Ok-load.ensures.list told)) there in cc))
    c.open_new.ensures.list

-- ---- what it counts

pub returns-in-Err-clause-calls_refused : goal.returns-in-Err-clause-calls_refused
returns-in-Err-clause-calls_refused g c =
    let error = c.in-Err.error in
    counts_as g.D.Device 0 _ _ _ _ c.args.disk c.load.new.disk (refused_answer g.D.Device 0 list_errors.Fault c.args.disk c.load.new.disk error c.in-Err.ensures.counted)
    (λ other is. other (c.refusal.ensures ∙ ap refusal_of is)) (λ is. refused_fault error (sym c.refusal.ensures ∙ is))

pub returns-in-None-clause-calls : goal.returns-in-None-clause-calls
returns-in-None-clause-calls g c =
    let d = g.D.Device in
    let disk = c.args.disk in
    let mid = c.load.new.disk in
    if_ok_more c.open_new.result _ _ (λ core run. counts_then d 0 (Unit {0}) ⊥ (Unit {0}) ⊥ disk mid core.disk (fine_answer d 0 list_errors.Fault disk mid _ c.in-Ok-load.ensures.counted) tt run) c.open_new.ensures.counted

pub returns-in-None-clause-calls_refused : goal.returns-in-None-clause-calls_refused
returns-in-None-clause-calls_refused g c =
    let d = g.D.Device in
    let disk = c.args.disk in
    let mid = c.load.new.disk in
    if_err_more c.open_new.result _ _ (λ e run. counts_then d 0 (Unit {0}) ⊥ _ _ disk mid e.1 (fine_answer d 0 list_errors.Fault disk mid _ c.in-Ok-load.ensures.counted) tt run) c.open_new.ensures.counted_refused

pub returns-in-Ok-read_store-clause-calls : goal.returns-in-Ok-read_store-clause-calls
returns-in-Ok-read_store-clause-calls g c =
    let d = g.D.Device in
    let disk = c.args.disk in
    let mid = c.load.new.disk in
    let new = c.read_store.new.disk in
    counts_then d 0 (Unit {0}) ⊥ (Unit {0}) ⊥ disk mid new (fine_answer d 0 list_errors.Fault disk mid _ c.in-Ok-load.ensures.counted) tt (fine_answer d 0 Fault mid new _ c.in-Ok-read_store.ensures.counted)

pub returns-in-Err-read_store-clause-calls_refused : goal.returns-in-Err-read_store-clause-calls_refused
returns-in-Err-read_store-clause-calls_refused g c =
    let d = g.D.Device in
    let disk = c.args.disk in
    let mid = c.load.new.disk in
    let new = c.read_store.new.disk in
    counts_then d 0 (Unit {0}) ⊥ _ _ disk mid new (fine_answer d 0 list_errors.Fault disk mid _ c.in-Ok-load.ensures.counted) tt
    (refused_answer d 0 Fault mid new c.in-Err-read_store.error c.in-Err-read_store.ensures.counted)
