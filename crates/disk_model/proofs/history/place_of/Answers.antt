use Rattle.std.proofs.Common.{[], ◌∷◌, ◌++◌, ap, ◌∙◌}
use Rattle.disk_model.specs.Files.{FileState}
use Rattle.disk_model.specs.History.{Files, state_of}
use Rattle.disk_model.proofs.FilesLemmas.{state_of-push}
use Rattle.disk_model.proofs.history.place_of.Goals as goal

pub returns-clause-same : goal.returns-clause-same
returns-clause-same c = λ other.
    ap (λ (files : Files). state_of files other) c.in_ok-push.ensures.items
    ∙ ap (λ (state : FileState). state_of (c.args.files.now.items ++ (c.args.file, state) ∷ []) other) c.empty.ensures
    ∙ state_of-push c.args.files.now.items c.args.file other
