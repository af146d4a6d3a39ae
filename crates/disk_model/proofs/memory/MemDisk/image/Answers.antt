-- The image that is given holds what was picked, and nothing is pending.
use Rattle.std.proofs.Common.{◌≡◌, sym, ◌∙◌, ap, subst}
use Rattle.disk_model.specs.Images.{bytes_of}
use Rattle.disk_model.specs.Files.{MayBeLeft, settled}
use Rattle.disk_model.specs.History.{Past, state_of, files_now, held_now}
use Rattle.disk_model.specs.HistoryLaws.{sound_now}
use Rattle.disk_model.proofs.PicksLemmas.{state_of-unchanged, held_first, picked_left}
use Rattle.disk_model.proofs.memory.MemDisk.image.Goals as goal

pub returns-clause-nothing_pending : goal.returns-clause-nothing_pending
returns-clause-nothing_pending c = λ file.
    let other = c.in_ok-image.field-0 in
    subst (λ (p : Past). state_of (files_now p) file ≡ settled (bytes_of (held_now p) file)) (sym c.in_ok-image.ensures.first)
    (state_of-unchanged other.first file ∙ ap settled (sym (held_first other.first file)))

pub returns-clause-picked : goal.returns-clause-picked
returns-clause-picked c = λ file.
    let other = c.in_ok-image.field-0 in
    ap (λ (p : Past). bytes_of (held_now p) file) c.in_ok-image.ensures.first ∙ held_first other.first file ∙ c.in_ok-image.ensures.picked file

pub returns-clause-one_of_them : goal.returns-clause-one_of_them
returns-clause-one_of_them c = λ file.
    let s = state_of (files_now c.args.self.now.history) file in
    subst (MayBeLeft s) (sym (returns-clause-picked c file)) (picked_left c.args.pick file s (sound_now c.args.self.now.history file))
