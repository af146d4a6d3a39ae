use Rattle.std.proofs.Common.{◌≡◌, ◌⊎◌, inl, ◌+◌, ◌≤◌, ℕ, IsTrue, List, length, Some, refl, sym, ◌∙◌, subst, arith}
use Rattle.std.specs.List.{Contains}
use Rattle.block_list.specs.Body.{MeetsRules}
use Rattle.block_list.specs.Commit.{IsListText, slot_of}
use Rattle.block_list.specs.Loading.{IsReady}
use Rattle.block_list.specs.declared.body.ListBody.{ListBody}
use Rattle.block_list.proofs.ReadyLemmas.{can_lay}
use Rattle.store_files.specs.Loose.{next_without, AreUnused, OthersStay, IsSpare}
use Rattle.store_images.proofs.Keeping.{given_out}
use Rattle.store_files.proofs.LeftFiles.{freed_committed, next_low, others_wider}
use Rattle.store_files.proofs.LooseFiles.{committed_then, loose_named, others_committed, rules_without, loose_unused, left_as_is, left_without, text_short}
use Rattle.store_files.specs.declared.error.OpenError.TheVariants.{Fault}
use Rattle.store_files.proofs.Answered.{broke_answer, fault_answer, other_answer, still_answer, then_answer, well_answer, went_well}
use Rattle.store_files.proofs.loose.empty_loose.Goals as goal

pub returns-then-len-eq0-clause-list : goal.returns-then-len-eq0-clause-list
returns-then-len-eq0-clause-list g c = left_as_is c.args.list (sym c.len.ensures ∙ c.if-len-eq0.true)

pub returns-then-len-eq0-clause-kept : goal.returns-then-len-eq0-clause-kept
returns-then-len-eq0-clause-kept g c = λ told. c.empty_left.ensures.kept told c.args.list (c.requires.ready told) (omega arith)

pub returns-then-len-eq0-clause-ready : goal.returns-then-len-eq0-clause-ready
returns-then-len-eq0-clause-ready g c = λ told. c.empty_left.ensures.ready told c.args.list (c.requires.ready told) (omega arith)

pub returns-then-len-eq0-clause-others : goal.returns-then-len-eq0-clause-others
returns-then-len-eq0-clause-others g c = λ told.
    let d = g.D.Device in
    let disk = c.args.disk.now in
    let new = c.empty_left.new.disk in
    others_wider (λ (file : ℕ). c.args.list.next_file ≤ file) (IsSpare c.args.list) (d.held disk) (d.held new) (d.may_leave disk) (d.may_leave new) (λ file beyond. inl beyond) (c.empty_left.ensures.others told)

pub prepare-requires : goal.prepare-requires
prepare-requires g c = subst MeetsRules (sym c.take_loose-next.ensures.list) (rules_without c.args.list c.requires.rules)

pub returns-in_default-free_files-clause-kept : goal.returns-in_default-free_files-clause-kept
returns-in_default-free_files-clause-kept g c = λ told.
    c.free_files.ensures.kept told c.args.list (c.requires.ready told) (subst (AreUnused c.args.list) (sym (c.as_slice.ensures ∙ c.take_loose-next.ensures.loose)) (loose_unused c.args.list c.requires.rules)) (omega arith)

pub returns-in_default-commit-clause-kept : goal.returns-in_default-commit-clause-kept
returns-in_default-commit-clause-kept g c = λ told.
    let d = g.D.Device in
    let list : ListBody = c.args.list in
    let mid = c.free_files.new.disk in
    let prepared = c.in-Ok-prepare.prepared in
    let told_mid : IsTrue (d.tells mid) = subst IsTrue (sym c.free_files.ensures.counted.telling) told in
    let text : IsListText prepared (next_without list) = subst (λ (l : ListBody). IsListText prepared l) c.take_loose-next.ensures.list c.in-Ok-prepare.ensures.text in
    let are : _ ≡ list.loose = c.as_slice.ensures ∙ c.take_loose-next.ensures.loose in
    let ready = c.free_files.ensures.ready told list (c.requires.ready told) (subst (AreUnused list) (sym are) (loose_unused list c.requires.rules)) (omega arith) in
    let can = can_lay (d.held mid) (d.may_leave mid) (Some list) prepared ready text.generation in
    committed_then d.moment d.left_since d.may_leave c.args.disk.now mid c.commit.new.disk (d.held mid) list (slot_of prepared)
    (c.free_files.ensures.kept told list (c.requires.ready told) (subst (AreUnused list) (sym are) (loose_unused list c.requires.rules)) (omega arith)) ready
    (λ file inside. let given = given_out list file c.requires.rules (loose_named list file inside) in c.in-Ok-free_files.ensures.emptied told file (subst (λ (l : List ℕ). Contains l file) (sym are) inside) given.0 given.1) (omega arith)
    (c.commit.ensures.any_moment told_mid can (Some list) (next_without list) ready.stands text.generation text)

pub returns-clause-list : goal.returns-clause-list
returns-clause-list g c = c.take_loose-next.ensures.list ∙ left_without c.args.list (λ is. omega (arith, c.if-len-eq0.false, c.len.ensures, is))

pub returns-clause-kept : goal.returns-clause-kept
returns-clause-kept g c = λ told.
    let d = g.D.Device in
    let list : ListBody = c.args.list in
    let mid = c.free_files.new.disk in
    let prepared = c.in-Ok-prepare.prepared in
    let told_mid : IsTrue (d.tells mid) = subst IsTrue (sym c.free_files.ensures.counted.telling) told in
    let text : IsListText prepared (next_without list) = subst (λ (l : ListBody). IsListText prepared l) c.take_loose-next.ensures.list c.in-Ok-prepare.ensures.text in
    let are : _ ≡ list.loose = c.as_slice.ensures ∙ c.take_loose-next.ensures.loose in
    let ready = c.free_files.ensures.ready told list (c.requires.ready told) (subst (AreUnused list) (sym are) (loose_unused list c.requires.rules)) (omega arith) in
    let can = can_lay (d.held mid) (d.may_leave mid) (Some list) prepared ready text.generation in
    committed_then d.moment d.left_since d.may_leave c.args.disk.now mid c.commit.new.disk (d.held mid) list (slot_of prepared)
    (c.free_files.ensures.kept told list (c.requires.ready told) (subst (AreUnused list) (sym are) (loose_unused list c.requires.rules)) (omega arith)) ready
    (λ file inside. let given = given_out list file c.requires.rules (loose_named list file inside) in c.in-Ok-free_files.ensures.emptied told file (subst (λ (l : List ℕ). Contains l file) (sym are) inside) given.0 given.1) (omega arith)
    (c.commit.ensures.any_moment told_mid can (Some list) (next_without list) ready.stands text.generation text)

pub returns-clause-ready : goal.returns-clause-ready
returns-clause-ready g c = λ told.
    let d = g.D.Device in
    let list : ListBody = c.args.list in
    let mid = c.free_files.new.disk in
    let new = c.commit.new.disk in
    let prepared = c.in-Ok-prepare.prepared in
    let told_mid : IsTrue (d.tells mid) = subst IsTrue (sym c.free_files.ensures.counted.telling) told in
    let text : IsListText prepared (next_without list) = subst (λ (l : ListBody). IsListText prepared l) c.take_loose-next.ensures.list c.in-Ok-prepare.ensures.text in
    let ready = c.free_files.ensures.ready told list (c.requires.ready told) (subst (AreUnused list) (sym (c.as_slice.ensures ∙ c.take_loose-next.ensures.loose)) (loose_unused list c.requires.rules)) (omega arith) in
    let can = can_lay (d.held mid) (d.may_leave mid) (Some list) prepared ready text.generation in
    subst (λ (l : ListBody). IsReady (d.held new) (d.may_leave new) (Some l)) (sym c.take_loose-next.ensures.list)
    (c.in-Ok-commit.ensures.ready told_mid can (Some list) (next_without list) ready text)

pub returns-clause-others : goal.returns-clause-others
returns-clause-others g c = λ told.
    let d = g.D.Device in
    let list : ListBody = c.args.list in
    let disk = c.args.disk.now in
    let mid = c.free_files.new.disk in
    let new = c.commit.new.disk in
    let prepared = c.in-Ok-prepare.prepared in
    let told_mid : IsTrue (d.tells mid) = subst IsTrue (sym c.free_files.ensures.counted.telling) told in
    let text : IsListText prepared (next_without list) = subst (λ (l : ListBody). IsListText prepared l) c.take_loose-next.ensures.list c.in-Ok-prepare.ensures.text in
    let are : _ ≡ list.loose = c.as_slice.ensures ∙ c.take_loose-next.ensures.loose in
    let ready = c.free_files.ensures.ready told list (c.requires.ready told) (subst (AreUnused list) (sym are) (loose_unused list c.requires.rules)) (omega arith) in
    let can = can_lay (d.held mid) (d.may_leave mid) (Some list) prepared ready text.generation in
    others_committed (IsSpare list) (d.held disk) (d.held mid) (d.held new) (d.may_leave disk) (d.may_leave mid) (d.may_leave new)
    (subst (λ (l : List ℕ). OthersStay (λ (file : ℕ). (list.next_file ≤ file) ⊎ Contains l file) (d.held disk) (d.held mid) (d.may_leave disk) (d.may_leave mid)) are (c.free_files.ensures.others told))
    (slot_of prepared) _ (omega arith) (c.commit.ensures.besides told_mid)
    (c.commit.ensures.any_moment told_mid can (Some list) (next_without list) ready.stands text.generation text).now

pub returns-in_default-clause-kept : goal.returns-in_default-clause-kept
returns-in_default-clause-kept g c = λ told. c.empty_left.ensures.kept told c.args.list (c.requires.ready told) (omega arith)

pub returns-clause-freed : goal.returns-clause-freed
returns-clause-freed g c = λ told.
    let d = g.D.Device in
    let list : ListBody = c.args.list in
    let mid = c.free_files.new.disk in
    let new = c.commit.new.disk in
    let prepared = c.in-Ok-prepare.prepared in
    let told_mid : IsTrue (d.tells mid) = subst IsTrue (sym c.free_files.ensures.counted.telling) told in
    let text : IsListText prepared (next_without list) = subst (λ (l : ListBody). IsListText prepared l) c.take_loose-next.ensures.list c.in-Ok-prepare.ensures.text in
    let are : _ ≡ list.loose = c.as_slice.ensures ∙ c.take_loose-next.ensures.loose in
    let ready = c.free_files.ensures.ready told list (c.requires.ready told) (subst (AreUnused list) (sym are) (loose_unused list c.requires.rules)) (omega arith) in
    let can = can_lay (d.held mid) (d.may_leave mid) (Some list) prepared ready text.generation in
    let run = c.commit.ensures.any_moment told_mid can (Some list) (next_without list) ready.stands text.generation text in
    let low = λ (file : ℕ) (inside : Contains list.loose file). (given_out list file c.requires.rules (loose_named list file inside)).1 in
    freed_committed (d.held c.args.disk.now) list.next_file (slot_of prepared) _ (d.may_leave mid) (d.may_leave new) (omega arith) (next_low list c.requires.rules) run.now
    (c.in-Ok-free_files.ensures.freed told (λ file inside. low file (subst (λ (l : List ℕ). Contains l file) are inside)))

pub empty_left-requires : goal.empty_left-requires
empty_left-requires g c = record { given = next_low c.args.list c.requires.rules }

pub free_files-requires : goal.free_files-requires
free_files-requires g c = record { given = next_low c.args.list c.requires.rules }

-- ---- what it counts

pub returns-in_default-clause-counted : goal.returns-in_default-clause-counted
returns-in_default-clause-counted g c = broke_answer g.D.Device Fault c.args.disk.now c.empty_left.new.disk c.in_default.ensures.counted refl

pub returns-then-len-eq0-clause-counted : goal.returns-then-len-eq0-clause-counted
returns-then-len-eq0-clause-counted g c =
    let d = g.D.Device in
    let disk = c.args.disk.now in
    let new = c.empty_left.new.disk in
    other_answer d Fault disk new _ (λ is. absurd cc) (went_well d disk new c.in-Ok.ensures.counted refl (λ bad. absurd cc))

pub returns-in_default-prepare-clause-counted : goal.returns-in_default-prepare-clause-counted
returns-in_default-prepare-clause-counted g c = still_answer g.D.Device Fault c.args.disk.now _ (λ is. absurd cc)

pub returns-in_default-free_files-clause-counted : goal.returns-in_default-free_files-clause-counted
returns-in_default-free_files-clause-counted g c = broke_answer g.D.Device Fault c.args.disk.now c.free_files.new.disk c.in_default-free_files.ensures.counted refl

pub returns-in_default-commit-clause-counted : goal.returns-in_default-commit-clause-counted
returns-in_default-commit-clause-counted g c =
    let d = g.D.Device in
    let disk = c.args.disk.now in
    let mid = c.free_files.new.disk in
    let prepared = c.in-Ok-prepare.prepared in
    then_answer d Fault disk mid c.commit.new.disk _ (went_well d disk mid c.in-Ok-free_files.ensures.counted refl (λ bad. absurd cc))
    (fault_answer d 6 (1 + length prepared.text) (text_short prepared _ c.in-Ok-prepare.ensures.text) Fault mid c.commit.new.disk _ c.in_default-commit.ensures.counted)

pub returns-clause-counted : goal.returns-clause-counted
returns-clause-counted g c =
    let d = g.D.Device in
    let disk = c.args.disk.now in
    let mid = c.free_files.new.disk in
    let prepared = c.in-Ok-prepare.prepared in
    then_answer d Fault disk mid c.commit.new.disk _ (went_well d disk mid c.in-Ok-free_files.ensures.counted refl (λ bad. absurd cc))
    (well_answer d 6 (1 + length prepared.text) (text_short prepared _ c.in-Ok-prepare.ensures.text) Fault mid c.commit.new.disk _ _ (λ is. absurd cc) c.in-Ok-commit.ensures.counted)
