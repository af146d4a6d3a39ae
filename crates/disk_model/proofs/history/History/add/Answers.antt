use Rattle.std.proofs.Common.{List, [], ◌∷◌, ◌++◌, sym, ◌∙◌, ap}
use Rattle.disk_model.specs.History.{Files, state_of, unchanged, replayed}
use Rattle.disk_model.specs.declared.change.Change.{Change}
use Rattle.disk_model.specs.HistoryLaws.{replayed-append}
use Rattle.disk_model.proofs.FilesLemmas.{after_same}
use Rattle.disk_model.proofs.history.History.add.Goals as goal

pub invariant_of-self-2 : goal.invariant_of-self-2
invariant_of-self-2 c = λ file.
    let first = unchanged c.self.inside.first.items in
    let changes = c.self.inside.changes.items in
    c.in_ok-apply.ensures.ok file
    ∙ after_same (replayed first changes) c.self.inside.files.items c.args.change c.self.invariant file
    ∙ ap (λ (files : Files). state_of files file) (sym (replayed-append first changes c.args.change))
    ∙ ap (λ (cs : List Change). state_of (replayed first (cs ++ c.args.change ∷ [])) file) (sym c.reserve.ensures.items)
    ∙ ap (λ (cs : List Change). state_of (replayed first cs) file) (sym c.push_reserved.ensures)
