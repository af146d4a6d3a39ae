use Rattle.std.proofs.Common.{◌≡◌, true, IsTrue, sym, ◌∙◌, subst}
use Rattle.disk_model.specs.Images.{bytes_of}
use Rattle.disk_model.proofs.Runs.{run_same}
use Rattle.block_list.specs.Slots.{IsVacant}
use Rattle.block_list.specs.Loading.{KeepsList, IsFree}
use Rattle.block_list.specs.Fronts.{is_to_clear}
use Rattle.block_list.proofs.Fronts.{clear_same, clear_vacant_long, cleared_then, cleared_else, free_else}
use Rattle.block_list.proofs.LoadLemmas.{kept_cut, keeps_same, vacant_from}
use Rattle.block_list.proofs.loading.clear_vacant.Goals as goal

pub returns-then-is_to_clear-clause-kept : goal.returns-then-is_to_clear-clause-kept
returns-then-is_to_clear-clause-kept g c = λ told.
    let d = g.D.Device in
    let whole = bytes_of (d.held c.args.disk.now) c.args.slot in
    let is : is_to_clear whole ≡ true = sym (clear_same c.args.bytes.now whole (c.requires.bytes told)) ∙ sym c.is_to_clear.ensures ∙ c.if-is_to_clear.true in
    let both = clear_vacant_long whole is in
    kept_cut d.moment d.left_since d.may_leave c.args.slot whole c.args.disk.now c.cut_through.new.disk c.requires.slot (c.requires.only told) (vacant_from whole both.0) both.1
    (record { since = c.cut_through.ensures.any_moment; now = c.cut_through.ensures.crash })

pub returns-clause-kept : goal.returns-clause-kept
returns-clause-kept g c = λ told.
    let d = g.D.Device in
    run_same d.moment d.left_since d.may_leave KeepsList c.args.disk.now keeps_same (g.met.D.Device.only_now c.args.disk.now)

pub returns-then-is_to_clear-clause-cleared : goal.returns-then-is_to_clear-clause-cleared
returns-then-is_to_clear-clause-cleared g c = λ told.
    let whole = bytes_of (g.D.Device.held c.args.disk.now) c.args.slot in
    let is : is_to_clear whole ≡ true = sym (clear_same c.args.bytes.now whole (c.requires.bytes told)) ∙ sym c.is_to_clear.ensures ∙ c.if-is_to_clear.true in
    rw (cleared_then whole is) (c.cut_through.ensures.shortened told)

pub returns-clause-cleared : goal.returns-clause-cleared
returns-clause-cleared g c = λ told.
    let whole = bytes_of (g.D.Device.held c.args.disk.now) c.args.slot in
    sym (cleared_else whole (sym (clear_same c.args.bytes.now whole (c.requires.bytes told)) ∙ sym c.is_to_clear.ensures ∙ c.if-is_to_clear.false))

pub returns-clause-free : goal.returns-clause-free
returns-clause-free g c = λ told.
    let whole = bytes_of (g.D.Device.held c.args.disk.now) c.args.slot in
    free_else whole (sym (clear_same c.args.bytes.now whole (c.requires.bytes told)) ∙ sym c.is_to_clear.ensures ∙ c.if-is_to_clear.false)
