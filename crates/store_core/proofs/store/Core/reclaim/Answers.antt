use Rattle.std.proofs.Common.{◌∙◌, refl, sym, subst}
use Rattle.block_list.specs.Body.{MeetsRules}
use Rattle.block_list.specs.Commit.{IsListText}
use Rattle.block_list.specs.declared.body.ListBody.{ListBody}
use Rattle.store_model.specs.Event.Event.{Reclaim}
use Rattle.store_model.specs.Event.Reply.{Refused}
use Rattle.store_model.specs.Event.Refusal.{Fault}
use Rattle.store_core.specs.Events.{Did}
use Rattle.store_core.specs.declared.store.Core.{Core}
use Rattle.store_core.proofs.PinnedFiles.{parted_as}
use Rattle.store_core.proofs.ReclaimEvents.{no_reclaim, lacks_memory, none_loose, none_to_empty, did_reclaim_fail, did_reclaimed, none_there, some_there, kept_fit, named_loose}
use Rattle.store_core.proofs.ReclaimStates.{kept_list, list_kept}
use Rattle.store_core.proofs.States.{none_of}
use Rattle.store_core.proofs.store.Core.reclaim.Goals as goal

pub returns-in-Some : goal.returns-in-Some
returns-in-Some g c = no_reclaim g.D.Device g.met.D.Device.only_now c.args.self.now c.in-Some.faults c.in-Some.is

pub returns-then-is_empty : goal.returns-then-is_empty
returns-then-is_empty g c =
    let core = c.args.self.now in
    none_loose g.D.Device g.met.D.Device.only_now core (none_of core.state.read_only c.in_default.not-Some)
    (none_there core.state.jobs.loose (sym c.is_empty.ensures ∙ c.if-is_empty.true))

pub returns-in_default-part_files : goal.returns-in_default-part_files
returns-in_default-part_files g c = lacks_memory g.D.Device g.met.D.Device.only_now c.args.self.now (none_of c.args.self.now.state.read_only c.in_default.not-Some)

pub returns-in_default-list_without : goal.returns-in_default-list_without
returns-in_default-list_without g c = lacks_memory g.D.Device g.met.D.Device.only_now c.args.self.now (none_of c.args.self.now.state.read_only c.in_default.not-Some)

pub returns-then-is_empty-2 : goal.returns-then-is_empty-2
returns-then-is_empty-2 g c =
    let core = c.args.self.now in
    none_to_empty g.D.Device g.met.D.Device.only_now core c.in-Ok.kept.items c.in-Ok.free.items (none_of core.state.read_only c.in_default.not-Some) c.in-Ok.ensures
    (none_there c.in-Ok.free (sym c.is_empty-2.ensures ∙ c.if-is_empty-2.true))

pub returns-in_default-commit_without : goal.returns-in_default-commit_without
returns-in_default-commit_without g c =
    let core = c.args.self.now in
    let kept = c.as_slice.result.now in
    let free = c.as_slice-2.result.now in
    let w = c.commit_without.ensures in
    let made = c.in-Ok-list_without.ensures in
    let is = kept_list core.state.list core.state.jobs kept c.in-Ok-list_without.list made.list in
    let text : MeetsRules (list_kept core.state.list core.state.jobs kept) → IsListText c.in-Ok-list_without.text (list_kept core.state.list core.state.jobs kept) =
    λ rules. subst (λ (l : ListBody). IsListText c.in-Ok-list_without.text l) is (made.text (subst MeetsRules (sym is) rules)) in
    subst (λ (s : Core _). Did g.D.Device core Reclaim (Refused Fault) s) (sym c.stop_writing.ensures)
    (did_reclaim_fail g.D.Device core c.commit_without.new.disk (none_of core.state.read_only c.in_default.not-Some) kept free
    (parted_as core.state.pins.items core.state.jobs.loose.items c.in-Ok.kept.items kept c.in-Ok.free.items free c.as_slice.ensures.value c.as_slice-2.ensures.value c.in-Ok.ensures)
    (some_there c.in-Ok.free free c.as_slice-2.ensures.value (sym c.is_empty-2.ensures ∙ c.if-is_empty-2.false))
    _ _ c.in-Ok-list_without.ensures.short c.in_default-commit_without.ensures.counted
    (λ told ready may rules. w.kept told core.state.list core.state.jobs.next_file (named_loose core.state kept) ready may (text rules))
    (λ told ready may rules. w.others told core.state.list core.state.jobs.next_file (named_loose core.state kept) ready may (text rules))
    w.still (g.D.Device.faults c.commit_without.new.disk) refl refl)

pub keep_loose-requires : goal.keep_loose-requires
keep_loose-requires g c =
    let core = c.args.self.now in
    kept_fit core.state.pins.items core.state.jobs.loose c.in-Ok.kept.items c.in-Ok.free.items c.as_slice-3.result.now c.as_slice-3.ensures.value c.in-Ok.ensures

pub returns : goal.returns
returns g c =
    let core = c.args.self.now in
    let kept = c.as_slice.result.now in
    let free = c.as_slice-2.result.now in
    let w = c.commit_without.ensures in
    let made = c.in-Ok-list_without.ensures in
    let is = kept_list core.state.list core.state.jobs kept c.in-Ok-list_without.list made.list in
    let text : MeetsRules (list_kept core.state.list core.state.jobs kept) → IsListText c.in-Ok-list_without.text (list_kept core.state.list core.state.jobs kept) =
    λ rules. subst (λ (l : ListBody). IsListText c.in-Ok-list_without.text l) is (made.text (subst MeetsRules (sym is) rules)) in
    let loose = c.keep_loose.ensures in
    did_reclaimed g.D.Device core c.commit_without.new.disk (none_of core.state.read_only c.in_default.not-Some) kept free
    (parted_as core.state.pins.items core.state.jobs.loose.items c.in-Ok.kept.items kept c.in-Ok.free.items free c.as_slice.ensures.value c.as_slice-2.ensures.value c.in-Ok.ensures)
    (some_there c.in-Ok.free free c.as_slice-2.ensures.value (sym c.is_empty-2.ensures ∙ c.if-is_empty-2.false))
    _ _ c.in-Ok-list_without.ensures.short c.in-Ok-commit_without.ensures.counted
    (λ told ready may rules. w.kept told core.state.list core.state.jobs.next_file (named_loose core.state kept) ready may (text rules))
    (λ told ready may rules. w.others told core.state.list core.state.jobs.next_file (named_loose core.state kept) ready may (text rules))
    w.still refl c.len.result (c.len.ensures ∙ sym c.as_slice-2.ensures.len) c.keep_loose.new.self.loose (loose.loose ∙ c.as_slice-3.ensures.value ∙ sym c.as_slice.ensures.value) loose.room
    (λ told ready may rules. c.in-Ok-commit_without.ensures.ready told core.state.list core.state.jobs.next_file (named_loose core.state kept) ready may (text rules))
    c.in-Ok-list_without.list c.keep_loose.new.self is loose.same
