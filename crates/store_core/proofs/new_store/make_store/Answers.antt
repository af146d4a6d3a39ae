use Rattle.std.proofs.Common.{◌≡◌, ◌+◌, ◌%◌, ℕ, length, List, [], IsTrue, None, sym, ap, subst, arith}
use Rattle.disk_model.specs.Images.{bytes_of}
use Rattle.disk_model.specs.Crash.{OnlyBytes}
use Rattle.head_log.specs.Stands.{SegmentHolds}
use Rattle.block_list.specs.Body.{MeetsRules}
use Rattle.block_list.specs.Commit.{IsListText, slot_of}
use Rattle.block_list.specs.declared.body.ListBody.{ListBody}
use Rattle.block_list.proofs.ReadyLemmas.{can_lay}
use Rattle.store_core.specs.New.{new_list}
use Rattle.store_core.proofs.Founding.{rules_new, vacant_now, made_segment, ready_still, committed, still_two, new_settled}
use Rattle.store_files.specs.declared.error.OpenError.TheVariants.{Fault}
use Rattle.store_core.proofs.Counted.{counts_short}
use Rattle.store_files.proofs.Answered.{fault_answer, fine_calls, still_answer, then_answer, well_answer}
use Rattle.store_files.proofs.LooseFiles.{text_short}
use Rattle.store_core.proofs.new_store.make_store.Goals as goal

pub prepare-requires : goal.prepare-requires
prepare-requires g c = subst MeetsRules (sym c.in-Ok.ensures) rules_new

pub returns-in_default-clause-any_moment : goal.returns-in_default-clause-any_moment
returns-in_default-clause-any_moment g c = λ told.
    let d = g.D.Device in
    let disk = c.args.disk.now in
    vacant_now d.moment d.left_since d.may_leave disk (d.held disk) (g.met.D.Device.only_now disk) (c.requires.vacant told)

pub returns-in_default-prepare-clause-any_moment : goal.returns-in_default-prepare-clause-any_moment
returns-in_default-prepare-clause-any_moment g c = λ told.
    let d = g.D.Device in
    let disk = c.args.disk.now in
    vacant_now d.moment d.left_since d.may_leave disk (d.held disk) (g.met.D.Device.only_now disk) (c.requires.vacant told)

pub returns-in_default-create-clause-any_moment : goal.returns-in_default-create-clause-any_moment
returns-in_default-create-clause-any_moment g c = λ told.
    let d = g.D.Device in
    let disk = c.args.disk.now in
    made_segment d.moment d.left_since d.may_leave disk c.create.new.disk (d.held disk) _ _ (c.requires.vacant told) c.create.ensures.any_moment

pub returns-in_default-commit-clause-any_moment : goal.returns-in_default-commit-clause-any_moment
returns-in_default-commit-clause-any_moment g c = λ told.
    let d = g.D.Device in
    let disk = c.args.disk.now in
    let mid = c.create.new.disk in
    let prepared = c.in-Ok-prepare.prepared in
    let told_mid : IsTrue (d.tells mid) = subst IsTrue (sym c.create.ensures.counted.telling) told in
    let body : IsListText prepared new_list = subst (λ (l : ListBody). IsListText prepared l) c.in-Ok.ensures c.in-Ok-prepare.ensures.text in
    let first_slot : slot_of prepared ≡ 0 = ap (λ (n : ℕ). n % 2) body.generation in
    let vacant = c.requires.vacant told in
    let ready = ready_still d.moment d.left_since d.may_leave disk mid (d.held disk) (d.held mid) _ _ vacant c.create.ensures.any_moment (c.create.ensures.besides told) in
    let can = can_lay (d.held mid) (d.may_leave mid) None prepared ready body.generation in
    let lies = c.in-Ok-create.ensures.empty 0 told in
    committed d.moment d.left_since d.may_leave disk mid c.commit.new.disk (slot_of prepared) (bytes_of (d.held mid) 2) first_slot
    (made_segment d.moment d.left_since d.may_leave disk mid (d.held disk) _ _ vacant c.create.ensures.any_moment) lies.1 lies.0
    (c.commit.ensures.any_moment told_mid can None new_list ready.stands body.generation body)

pub returns-clause-any_moment : goal.returns-clause-any_moment
returns-clause-any_moment g c = λ told.
    let d = g.D.Device in
    let disk = c.args.disk.now in
    let mid = c.create.new.disk in
    let prepared = c.in-Ok-prepare.prepared in
    let told_mid : IsTrue (d.tells mid) = subst IsTrue (sym c.create.ensures.counted.telling) told in
    let body : IsListText prepared new_list = subst (λ (l : ListBody). IsListText prepared l) c.in-Ok.ensures c.in-Ok-prepare.ensures.text in
    let first_slot : slot_of prepared ≡ 0 = ap (λ (n : ℕ). n % 2) body.generation in
    let vacant = c.requires.vacant told in
    let ready = ready_still d.moment d.left_since d.may_leave disk mid (d.held disk) (d.held mid) _ _ vacant c.create.ensures.any_moment (c.create.ensures.besides told) in
    let can = can_lay (d.held mid) (d.may_leave mid) None prepared ready body.generation in
    let lies = c.in-Ok-create.ensures.empty 0 told in
    committed d.moment d.left_since d.may_leave disk mid c.commit.new.disk (slot_of prepared) (bytes_of (d.held mid) 2) first_slot
    (made_segment d.moment d.left_since d.may_leave disk mid (d.held disk) _ _ vacant c.create.ensures.any_moment) lies.1 lies.0
    (c.commit.ensures.any_moment told_mid can None new_list ready.stands body.generation body)

pub returns-clause-made : goal.returns-clause-made
returns-clause-made g c = λ told.
    let d = g.D.Device in
    let disk = c.args.disk.now in
    let mid = c.create.new.disk in
    let new = c.commit.new.disk in
    let prepared = c.in-Ok-prepare.prepared in
    let told_mid : IsTrue (d.tells mid) = subst IsTrue (sym c.create.ensures.counted.telling) told in
    let body : IsListText prepared new_list = subst (λ (l : ListBody). IsListText prepared l) c.in-Ok.ensures c.in-Ok-prepare.ensures.text in
    let first_slot : slot_of prepared ≡ 0 = ap (λ (n : ℕ). n % 2) body.generation in
    let ready = ready_still d.moment d.left_since d.may_leave disk mid (d.held disk) (d.held mid) _ _ (c.requires.vacant told) c.create.ensures.any_moment (c.create.ensures.besides told) in
    let can = can_lay (d.held mid) (d.may_leave mid) None prepared ready body.generation in
    let lies = c.in-Ok-create.ensures.empty 0 told in
    let run = c.commit.ensures.any_moment told_mid can None new_list ready.stands body.generation body in
    let two : bytes_of (d.held new) 2 ≡ bytes_of (d.held mid) 2 = c.commit.ensures.besides told_mid 2 (λ is. omega (arith, is, first_slot)) in
    new_settled (d.held new) (d.may_leave new) (c.in-Ok-commit.ensures.ready told_mid can None new_list ready body)
    (subst (λ (b : List ℕ). SegmentHolds 0 [] 1 b) (sym two) lies.0)
    (subst (λ (b : List ℕ). OnlyBytes 2 b (d.may_leave new)) (sym two) (still_two d.moment d.left_since d.may_leave mid new (slot_of prepared) (bytes_of (d.held mid) 2) first_slot lies.1 run))

-- ---- what it counts

pub returns-in_default-clause-counted : goal.returns-in_default-clause-counted
returns-in_default-clause-counted g c = still_answer g.D.Device Fault c.args.disk.now _ (λ is. absurd cc)

pub returns-in_default-prepare-clause-counted : goal.returns-in_default-prepare-clause-counted
returns-in_default-prepare-clause-counted g c = still_answer g.D.Device Fault c.args.disk.now _ (λ is. absurd cc)

pub returns-in_default-create-clause-counted : goal.returns-in_default-create-clause-counted
returns-in_default-create-clause-counted g c = fault_answer g.D.Device 3 2 (omega arith) Fault c.args.disk.now c.create.new.disk _ c.in_default-create.ensures.counted

pub returns-in_default-commit-clause-counted : goal.returns-in_default-commit-clause-counted
returns-in_default-commit-clause-counted g c =
    let d = g.D.Device in
    let disk = c.args.disk.now in
    let mid = c.create.new.disk in
    let prepared = c.in-Ok-prepare.prepared in
    then_answer d Fault disk mid c.commit.new.disk _ (counts_short d 2 0 (Unit {0}) ⊥ disk mid (omega arith) (fine_calls d 3 2 disk mid _ c.in-Ok-create.ensures.counted))
    (fault_answer d 6 (1 + length prepared.text) (text_short prepared _ c.in-Ok-prepare.ensures.text) Fault mid c.commit.new.disk _ c.in_default-commit.ensures.counted)

pub returns-clause-counted : goal.returns-clause-counted
returns-clause-counted g c =
    let d = g.D.Device in
    let disk = c.args.disk.now in
    let mid = c.create.new.disk in
    let prepared = c.in-Ok-prepare.prepared in
    then_answer d Fault disk mid c.commit.new.disk _ (counts_short d 2 0 (Unit {0}) ⊥ disk mid (omega arith) (fine_calls d 3 2 disk mid _ c.in-Ok-create.ensures.counted))
    (well_answer d 6 (1 + length prepared.text) (text_short prepared _ c.in-Ok-prepare.ensures.text) Fault mid c.commit.new.disk _ _ (λ is. absurd cc) c.in-Ok-commit.ensures.counted)
