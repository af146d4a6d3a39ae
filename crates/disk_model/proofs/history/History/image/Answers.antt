use Rattle.std.proofs.Common.{◌∙◌, ap}
use Rattle.disk_model.specs.Images.{Image, bytes_of}
use Rattle.disk_model.specs.History.{Past, state_of, files_now}
use Rattle.disk_model.specs.Picks.{picked, picked_image}
use Rattle.disk_model.proofs.PicksLemmas.{picked_of}
use Rattle.disk_model.proofs.history.History.image.Goals as goal

pub returns-clause-picked : goal.returns-clause-picked
returns-clause-picked c = λ file.
    let past : Past = record { first = c.self.inside.first.items; changes = c.self.inside.changes.items } in
    let files = c.self.inside.files.items in
    ap (λ (i : Image). bytes_of i file) (c.in_ok-first.ensures.picked ∙ ap (picked_image c.args.pick) c.deref.ensures.value)
    ∙ picked_of c.args.pick files file
    ∙ ap (picked c.args.pick file) (c.self.invariant file)
    ∙ ap (λ (p : Past). picked c.args.pick file (state_of (files_now p) file)) c.self.view_is
