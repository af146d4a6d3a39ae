use Rattle.std.proofs.Common.{◌≡◌, ◌==◌, ◌+◌, ℕ, List, IsTrue, if◌then◌else◌, ap, refl, sym, ◌∙◌, subst, arith}
use Rattle.std.proofs.lemmas.Result.{err_from_is_err_and}
use Rattle.block_info.specs.InfoParts.{InfoParts}
use Rattle.disk_model.specs.Images.{bytes_of}
use Rattle.store_state.specs.Given.{info_files}
use Rattle.store_state.specs.Written.{AreBlocksOf}
use Rattle.store_files.specs.Pins.{files_at}
use Rattle.store_core.proofs.ListedBlocks.{whole_same}
use Rattle.store_core.proofs.Showing.{look_shows}
use Rattle.store_core.proofs.LookEvents.{did_looked, did_look_lacking}
use Rattle.store_core.proofs.store.Core.take_look.Goals as goal

pub returns-in_err-rows-clause-looked : goal.returns-in_err-rows-clause-looked
returns-in_err-rows-clause-looked g c =
    let p = err_from_is_err_and c.from_residual.result c.from_residual.ensures.1 in
    rw p.1 (did_look_lacking g.D.Device g.met.D.Device.only_now c.args.self.now c.args.self.now.state.pins (λ n. refl) (λ n. refl))

pub returns-in_err-blocks-clause-looked : goal.returns-in_err-blocks-clause-looked
returns-in_err-blocks-clause-looked g c =
    let p = err_from_is_err_and c.from_residual-in_err-blocks.result c.from_residual-in_err-blocks.ensures.1 in
    rw p.1 (did_look_lacking g.D.Device g.met.D.Device.only_now c.args.self.now c.args.self.now.state.pins (λ n. refl) (λ n. refl))

pub returns-in_err-files-clause-looked : goal.returns-in_err-files-clause-looked
returns-in_err-files-clause-looked g c =
    let p = err_from_is_err_and c.from_residual-in_err-files.result c.from_residual-in_err-files.ensures.1 in
    rw p.1 (did_look_lacking g.D.Device g.met.D.Device.only_now c.args.self.now c.args.self.now.state.pins (λ n. refl) (λ n. refl))

pub returns-in_err-number-clause-looked : goal.returns-in_err-number-clause-looked
returns-in_err-number-clause-looked g c =
    let p = err_from_is_err_and c.from_residual-in_err-number.result c.from_residual-in_err-number.ensures.1 in
    rw p.1 (did_look_lacking g.D.Device g.met.D.Device.only_now c.args.self.now c.take_number.new.pins c.in_err-number.ensures.refused c.in_err-number.ensures.refused_files)

pub returns-clause-looked : goal.returns-clause-looked
returns-clause-looked g c =
    let number = c.in_ok-number.ensures in
    let same : c.in_ok-files.files ≡ info_files c.in_ok-blocks.blocks = c.in_ok-files.ensures ∙ sym (ap info_files c.in_ok-blocks.ensures) in
    did_looked g.D.Device g.met.D.Device.only_now c.args.self.now c.take_number.new.pins _ _ _ _ c.length-as_of.ensures.count c.length-as_of.ensures.sum (ap info_files c.in_ok-blocks.ensures) c.in_ok-rows.ensures
    number.free number.least number.taken (subst (λ (f : List ℕ). (other : ℕ) → files_at other c.take_number.new.pins.items ≡ (if c.in_ok-number.number == other then f else files_at other c.args.self.now.state.pins.items)) same number.files)

pub returns-clause-shows : goal.returns-clause-shows
returns-clause-shows g c = λ m stands.
    let d = g.D.Device in
    let core = c.args.self.now in
    let sum = c.length-as_of.ensures.sum in
    let few = stands.stands.has.few in
    let length_is : c.length-as_of.result ≡ core.state.segment.first + core.state.segment.count = omega (arith, sum, few) in
    look_shows (IsTrue (d.tells core.disk)) (d.held core.disk) (d.may_leave core.disk) (record core.state { pins = c.take_number.new.pins }) m _ stands.stands c.in_ok-blocks.ensures length_is c.in_ok-rows.ensures

pub returns-in_err-rows-clause-left : goal.returns-in_err-rows-clause-left
returns-in_err-rows-clause-left g c = record { infos = refl; live = refl; telling = refl; bytes = λ told file. refl }

pub returns-in_err-blocks-clause-left : goal.returns-in_err-blocks-clause-left
returns-in_err-blocks-clause-left g c = record { infos = refl; live = refl; telling = refl; bytes = λ told file. refl }

pub returns-in_err-files-clause-left : goal.returns-in_err-files-clause-left
returns-in_err-files-clause-left g c = record { infos = refl; live = refl; telling = refl; bytes = λ told file. refl }

pub returns-in_err-number-clause-left : goal.returns-in_err-number-clause-left
returns-in_err-number-clause-left g c = record { infos = refl; live = refl; telling = refl; bytes = λ told file. refl }

pub returns-clause-left : goal.returns-clause-left
returns-clause-left g c = record { infos = refl; live = refl; telling = refl; bytes = λ told file. refl }

pub returns-clause-whole : goal.returns-clause-whole
returns-clause-whole g c = λ told m s.
    whole_same (g.D.Device.held c.args.self.now.disk) c.args.self.now.state.infos.items c.in_ok-blocks.blocks c.in_ok-blocks.ensures (s.whole told)

pub returns-clause-kept : goal.returns-clause-kept
returns-clause-kept g c = λ kept k.
    let bytes = bytes_of (g.D.Device.held c.args.self.now.disk) in record {
      pinned = c.in_ok-blocks.ensures ∙ sym k.infos;
      blocks = subst (λ (infos : List InfoParts). AreBlocksOf bytes infos kept.parts) (k.infos ∙ sym c.in_ok-blocks.ensures) k.blocks;
      outside = c.in_ok-rows.ensures ∙ sym k.outside;
    }
