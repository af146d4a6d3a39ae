use Rattle.std.proofs.Common.{◌≡◌, ℕ, ◌∙◌, ap, subst, set, slice_index_or}
use Rattle.std.proofs.lemmas.Result.{on_ok_weaker}
use Rattle.disk_model.specs.Files.{FileState}
use Rattle.disk_model.specs.History.{StandsAt, state_of, changed, file_of}
use Rattle.disk_model.proofs.FilesLemmas.{set_is_after}
use Rattle.disk_model.proofs.history.apply.Goals as goal

pub returns-clause-ok : goal.returns-clause-ok
returns-clause-ok c =
    let files = c.place_of.new.files.items in
    let place = c.in_ok-place.place in
    let change = c.args.change.now in
    let entry = c.index_mut-entry.result.now in
    let stands : StandsAt files (file_of change) place = subst (λ (f : ℕ). StandsAt files f place) c.file.ensures c.in_ok-place.ensures.place in
    let named : entry.0 ≡ file_of change = ap (λ (e : ℕ × FileState). e.0) c.index_mut-entry.ensures.value ∙ stands.named entry in
    on_ok_weaker c.apply.result
    (λ made file.
    ap (λ (s : FileState). state_of (set files place (entry.0, s)) file) (made ∙ ap (λ (e : ℕ × FileState). changed change e.1) c.index_mut-entry.ensures.value)
    ∙ ap (λ (n : ℕ). state_of (set files place (n, changed change (slice_index_or files place entry).1)) file) named
    ∙ set_is_after c.args.files.now.items files change place entry c.in_ok-place.ensures.same stands file)
    c.apply.ensures.ok
