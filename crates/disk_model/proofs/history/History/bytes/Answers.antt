-- what the list of files holds, as the changes left it
use Rattle.std.proofs.Common.{sym, ◌∙◌, ap}
use Rattle.disk_model.specs.Files.{FileState}
use Rattle.disk_model.specs.Images.{bytes_of}
use Rattle.disk_model.specs.History.{Past, Files, state_of, files_now, held_now}
use Rattle.disk_model.specs.HistoryLaws.{bytes_of-held}
use Rattle.disk_model.proofs.history.History.bytes.Goals as goal

pub returns : goal.returns
returns c =
    let past : Past = record { first = c.self.inside.first.items; changes = c.self.inside.changes.items } in
    c.held_of.ensures
    ∙ ap (λ (files : Files). (state_of files c.args.file).held) c.deref.ensures.value
    ∙ ap (λ (s : FileState). s.held) (c.self.invariant c.args.file)
    ∙ sym (bytes_of-held (files_now past) c.args.file)
    ∙ ap (λ (p : Past). bytes_of (held_now p) c.args.file) c.self.view_is
