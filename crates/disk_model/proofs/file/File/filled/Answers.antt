use Rattle.std.proofs.Common.{ℕ, List, [], ◌∷◌, ◌++◌, sym, ◌∙◌, ap}
use Rattle.disk_model.specs.Picks.{filled, byte_of}
use Rattle.disk_model.proofs.PicksLemmas.{filled_more}
use Rattle.disk_model.proofs.file.File.filled.Goals as goal

pub loop-offset-preserved : goal.loop-offset-preserved
loop-offset-preserved c =
    let s = c.args.self.now in
    let byte = byte_of c.args.pick c.args.seed s in
    let offset = c.loop-offset.offset in
    c.in_ok-push.ensures.items
    ∙ ap (λ (l : List ℕ). l ++ c.byte_of.result ∷ []) c.loop-offset.invariant
    ∙ ap (λ (n : ℕ). filled s byte offset ++ n ∷ []) c.byte_of.ensures
    ∙ sym (filled_more s byte offset)
