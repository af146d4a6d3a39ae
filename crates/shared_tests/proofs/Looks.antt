-- Pages of a look's blocks.
use Rattle.std.proofs.Common.{◌≡◌, ℕ, ◌==◌, Bool, true, List, [], ◌∷◌, refl, sym, ◌∙◌, ap}
use Rattle.std.specs.Prelude.{◌||◌}
use Rattle.std.specs.List.{list_any}
use Rattle.block_info.specs.InfoParts.{InfoParts}
use Rattle.store_model.specs.State.{is_among}
use Rattle.store_state.specs.Given.{info_files, look_of, look_parts, IsPinOf}
use Rattle.store_state.specs.Given.IsPinOf.{OfLook}
use Rattle.store_state.specs.Meaning.{Meaning, IsOpen}
use Rattle.store_state.specs.declared.jobs.Look.{Look}

any_among : (file : ℕ) (infos : List InfoParts) → list_any (λ (info : InfoParts). info.file == file) infos ≡ is_among file (info_files infos)
any_among file [] = refl
any_among file (info ∷ infos) = ap (λ (t : Bool). (info.file == file) || t) (any_among file infos)

-- a look whose pin names the file pins it
pub pins_file : {P : Type 0} (meaning : Meaning P) (port : P) (look : Look) (file : ℕ) (names : Bool) → names ≡ list_any (λ (info : InfoParts). info.file == file) look.pin.blocks → names ≡ true
    → IsOpen meaning port (look_of look) → IsPinOf look.pin file (IsOpen meaning port)
pins_file meaning port look file names is said is_open =
    OfLook (look_parts look) refl refl is_open (sym (any_among file look.pin.blocks) ∙ sym is ∙ said)
