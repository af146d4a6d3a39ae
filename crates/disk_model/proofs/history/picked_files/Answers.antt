use Rattle.std.proofs.Common.{◌≡◌, ◌<◌, ◌+◌, ℕ, List, [], ◌∷◌, ◌++◌, length, take, sym, ◌∙◌, ap, arith}
use Rattle.std.proofs.lemmas.List.{take_more, map-append}
use Rattle.disk_model.specs.Images.{Image}
use Rattle.disk_model.specs.Files.{FileState, settled}
use Rattle.disk_model.specs.History.{unchanged}
use Rattle.disk_model.specs.Picks.{picked, picked_image}
use Rattle.disk_model.proofs.PicksLemmas.{held_more}
use Rattle.disk_model.proofs.history.picked_files.Goals as goal

pub loop-entry-preserved : goal.loop-entry-preserved
loop-entry-preserved c =
    let files = c.args.files.now in
    let index = c.loop-entry.entry-index in
    let entry = c.entry-item.result in
    let bytes = c.in_ok-bytes.bytes.items in
    let image = c.loop-entry.image.items in
    let inside : index < length files = omega arith in
    let one_more : take (index + 1) files ≡ take index files ++ entry ∷ [] =
    take_more files index entry inside ∙ ap (λ (e : ℕ × FileState). take index files ++ e ∷ []) (sym c.entry-item.is) in
    let image_is : c.push-in-loop-entry.new.self.items ≡ image ++ (entry.0, bytes) ∷ [] =
    c.in_ok-push-2.ensures.items ∙ ap (λ (b : List ℕ). image ++ (entry.0, b) ∷ []) c.of.ensures in
    let held_is : c.push.new.self.items ≡ c.loop-entry.held.items ++ (entry.0, settled bytes) ∷ [] =
    c.in_ok-push.ensures.items
    ∙ ap (λ (s : FileState). c.loop-entry.held.items ++ (entry.0, s) ∷ []) (c.in_ok-holding.ensures ∙ ap settled c.deref.ensures.value) in
    record {
      picked =
          image_is
          ∙ ap (λ (b : List ℕ). image ++ (entry.0, b) ∷ []) c.in_ok-bytes.ensures
          ∙ ap (λ (i : Image). i ++ (entry.0, picked c.args.pick entry.0 entry.1) ∷ []) c.loop-entry.invariant.picked
          ∙ sym (map-append (λ (e : ℕ × FileState). (e.0, picked c.args.pick e.0 e.1)) (take index files) (entry ∷ []))
          ∙ ap (picked_image c.args.pick) (sym one_more);
      held =
          held_is
          ∙ held_more image c.loop-entry.held.items entry.0 bytes c.loop-entry.invariant.held
          ∙ ap unchanged (sym image_is);
    }
