use Rattle.std.proofs.Common.{◌≡◌, ℕ, List, None, IsTrue, refl, sym, ◌∙◌, subst, arith}
use Rattle.std.specs.Prelude.{Vec}
use Rattle.std.specs.declared.alloc.Global.{Global}
use Rattle.disk_model.specs.Images.{OnFile}
use Rattle.disk_model.specs.Bytes.{HalfCut}
use Rattle.disk_model.proofs.Runs.{run_more}
use Rattle.store_model.specs.Choice.{choice}
use Rattle.store_model.specs.Event.Event.{BeginCompact}
use Rattle.store_model.specs.Step.{early}
use Rattle.store_state.specs.Listed.{picked}
use Rattle.store_model.specs.Event.Reply.{Refused}
use Rattle.store_model.specs.Event.Refusal.{Fault}
use Rattle.store_core.specs.Events.{Did}
use Rattle.store_core.specs.declared.store.Core.{Core}
use Rattle.store_files.specs.Files.{SameBelow}
use Rattle.store_core.specs.Beginning.{MayCompact, IsMade}
use Rattle.store_files.proofs.Apart.{below_change, emptied}
use Rattle.store_core.proofs.CompactBegins.{did_choose_none}
use Rattle.store_core.proofs.CompactMakes.{did_refused, did_not_make, did_made, did_made_fail, joins_made, blocks_made, blocks_still, of_some, whole_made}
use Rattle.store_core.proofs.store.Core.begin_compact.Goals as goal

pub returns-in-Ok-None-clause-begun : goal.returns-in-Ok-None-clause-begun
returns-in-Ok-None-clause-begun g c = did_choose_none g.D.Device g.met.D.Device.only_now c.args.self.now (λ m has. c.in-Ok-None.ensures.none m has (let is = c.in-Ok-None.field-0-is in cc))

pub returns-in-Err-clause-begun : goal.returns-in-Err-clause-begun
returns-in-Err-clause-begun g c = did_refused g.D.Device g.met.D.Device.only_now c.args.self.now c.in-Err.error c.in-Err.ensures.refused c.in-Err.ensures.lacking c.in-Err.ensures.no_fault

pub returns-in_default-clause-begun : goal.returns-in_default-clause-begun
returns-in_default-clause-begun g c =
    let found = c.in-Ok-Some in
    did_not_make g.D.Device g.met.D.Device.only_now c.args.self.now c.make_compact.new.self
    (λ m has. of_some (λ (v : Vec ℕ Global). early m BeginCompact ≡ None) found.field-0 found.chosen found.field-0-is (found.ensures.free m has)) c.in_default.ensures.lacking

pub returns-in-Ok-cut_through-clause-begun : goal.returns-in-Ok-cut_through-clause-begun
returns-in-Ok-cut_through-clause-begun g c =
    let d = g.D.Device in
    let core = c.args.self.now in
    let found = c.in-Ok-Some in
    let may : MayCompact core.state c.as_slice.result.now = subst (MayCompact core.state) (sym c.as_slice.ensures.value)
    (of_some (λ (v : Vec ℕ Global). MayCompact core.state v.items) found.field-0 found.chosen found.field-0-is found.ensures.sure) in
    let made : IsMade core.state c.as_slice.result.now c.in-Ok.level c.in-Ok.pin c.in-Ok.room c.make_compact.new.self = c.in-Ok.ensures.made in
    let cut = c.cut_through.ensures in
    let begun = c.begin_compact-number.ensures in
    did_made d core c.cut_through.new.disk c.as_slice.result.now c.in-Ok.level c.in-Ok.pin c.in-Ok.room c.make_compact.new.self made may
    (λ m has. of_some (λ (v : Vec ℕ Global). early m BeginCompact ≡ None) found.field-0 found.chosen found.field-0-is (found.ensures.free m has))
    _ c.in-Ok-cut_through.ensures.counted
    (run_more d.moment d.left_since d.may_leave (OnFile c.make_compact.new.self.jobs.next_file (HalfCut 0)) (SameBelow c.make_compact.new.self.jobs.next_file) core.disk c.cut_through.new.disk
    (record { since = cut.any_moment; now = cut.crash })
    (λ origin image possible change. below_change c.make_compact.new.self.jobs.next_file c.make_compact.new.self.jobs.next_file (HalfCut 0) origin image (omega arith) change))
    cut.besides refl
    c.begin_compact-number.new.self c.begin_compact-number.result begun.number.0 begun.number.1 begun.next_file begun.compaction begun.same
    (λ listed are. subst (λ (l : List ℕ). picked l listed ≡ choice listed) (sym c.as_slice.ensures.value)
    (of_some (λ (v : Vec ℕ Global). picked v.items listed ≡ choice listed) found.field-0 found.chosen found.field-0-is (found.ensures.chosen listed are)))
    c.a_choice_is_few.ensures
    (λ told. emptied (d.held c.cut_through.new.disk) (d.may_leave c.cut_through.new.disk) c.make_compact.new.self.jobs.next_file (c.in-Ok-cut_through.ensures.shortened told) (c.in-Ok-cut_through.ensures.lasting told))

pub returns-in-Ok-cut_through-clause-joins : goal.returns-in-Ok-cut_through-clause-joins
returns-in-Ok-cut_through-clause-joins g c = λ m s.
    let core = c.args.self.now in
    let found = c.in-Ok-Some in
    let may : MayCompact core.state c.as_slice.result.now = subst (MayCompact core.state) (sym c.as_slice.ensures.value)
    (of_some (λ (v : Vec ℕ Global). MayCompact core.state v.items) found.field-0 found.chosen found.field-0-is found.ensures.sure) in
    let made : IsMade core.state c.as_slice.result.now c.in-Ok.level c.in-Ok.pin c.in-Ok.room c.make_compact.new.self = c.in-Ok.ensures.made in
    joins_made core.state c.as_slice.result.now c.in-Ok.level c.in-Ok.pin.blocks made.blocks made.its_level
    (λ listed are. subst (λ (l : List ℕ). picked l listed ≡ choice listed) (sym c.as_slice.ensures.value)
    (of_some (λ (v : Vec ℕ Global). picked v.items listed ≡ choice listed) found.field-0 found.chosen found.field-0-is (found.ensures.chosen listed are)))
    may c.a_choice_is_few.ensures m s.state.has

pub returns-in-Ok-cut_through-clause-blocks : goal.returns-in-Ok-cut_through-clause-blocks
returns-in-Ok-cut_through-clause-blocks g c = λ told m s.
    let made : IsMade c.args.self.now.state c.as_slice.result.now c.in-Ok.level c.in-Ok.pin c.in-Ok.room c.make_compact.new.self = c.in-Ok.ensures.made in
    blocks_made g.D.Device _ c.as_slice.result.now c.in-Ok.pin.blocks m (made.blocks ∙ blocks_still c.args.self.now.state c.make_compact.new.self c.as_slice.result.now made.still) told s

pub returns-in-Ok-cut_through-clause-whole : goal.returns-in-Ok-cut_through-clause-whole
returns-in-Ok-cut_through-clause-whole g c = λ told m s.
    let d = g.D.Device in
    let core = c.args.self.now in
    let made : IsMade core.state c.as_slice.result.now c.in-Ok.level c.in-Ok.pin c.in-Ok.room c.make_compact.new.self = c.in-Ok.ensures.made in
    let known : IsTrue (d.tells core.disk) = subst IsTrue c.in-Ok-cut_through.ensures.counted.telling told in
    whole_made d core c.cut_through.new.disk c.as_slice.result.now c.in-Ok.pin.blocks c.make_compact.new.self.jobs.next_file m made.blocks made.still.keeps.same.next_file
    (c.cut_through.ensures.besides known) s.state (s.whole known)

pub returns-clause-begun : goal.returns-clause-begun
returns-clause-begun g c =
    let d = g.D.Device in
    let core = c.args.self.now in
    let found = c.in-Ok-Some in
    let may : MayCompact core.state c.as_slice.result.now = subst (MayCompact core.state) (sym c.as_slice.ensures.value)
    (of_some (λ (v : Vec ℕ Global). MayCompact core.state v.items) found.field-0 found.chosen found.field-0-is found.ensures.sure) in
    let made : IsMade core.state c.as_slice.result.now c.in-Ok.level c.in-Ok.pin c.in-Ok.room c.make_compact.new.self = c.in-Ok.ensures.made in
    let cut = c.cut_through.ensures in
    subst (λ (s : Core _). Did d core BeginCompact (Refused Fault) s) (sym c.stop_writing.ensures)
    (did_made_fail d core c.cut_through.new.disk c.as_slice.result.now c.in-Ok.level c.in-Ok.pin c.in-Ok.room c.make_compact.new.self made may
    (λ m has. of_some (λ (v : Vec ℕ Global). early m BeginCompact ≡ None) found.field-0 found.chosen found.field-0-is (found.ensures.free m has))
    _ c.in-Err-cut_through.ensures.counted
    (run_more d.moment d.left_since d.may_leave (OnFile c.make_compact.new.self.jobs.next_file (HalfCut 0)) (SameBelow c.make_compact.new.self.jobs.next_file) core.disk c.cut_through.new.disk
    (record { since = cut.any_moment; now = cut.crash })
    (λ origin image possible change. below_change c.make_compact.new.self.jobs.next_file c.make_compact.new.self.jobs.next_file (HalfCut 0) origin image (omega arith) change))
    cut.besides c.free_number.new.pins (d.faults c.cut_through.new.disk) refl refl c.free_number.ensures.taken c.free_number.ensures.files)
