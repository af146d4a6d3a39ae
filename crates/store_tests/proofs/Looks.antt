-- A look that is open, from one call of its port to the next.
use Rattle.std.proofs.Common.{◌≡◌, ℕ, ◌==◌, Bool, true, false, List, [], ◌∷◌, refl, sym, ◌∙◌, ap, subst}
use Rattle.std.specs.Prelude.{◌||◌}
use Rattle.std.specs.List.{list_any}
use Rattle.block_info.specs.InfoParts.{InfoParts}
use Rattle.compactor.specs.Rounds.{Leads, Stage}
use Rattle.compactor.specs.Rounds.Stage.{Fresh}
use Rattle.compactor.specs.Rounds.Leads.{nothing, no_job, begun, read, unread, block, no_block, starved, built, written, unwritten, listed, unlisted, dropped, over}
use Rattle.store_model.specs.Holds.{ends}
use Rattle.store_model.specs.State.{is_among}
use Rattle.store_state.specs.Given.{info_files, look_of, look_parts, IsPinOf}
use Rattle.store_state.specs.Given.IsPinOf.{OfLook}
use Rattle.store_state.specs.Made.{Call, AreMade}
use Rattle.store_state.specs.Meaning.{Meaning, IsOpen}
use Rattle.store_state.specs.declared.jobs.Look.{Look}
use Rattle.store_state.specs.declared.rounds.Round.{Round}
use Rattle.store_state.proofs.HoldLaws.{stays_open}

any_among : (file : ℕ) (infos : List InfoParts) → list_any (λ (info : InfoParts). info.file == file) infos ≡ is_among file (info_files infos)
any_among file [] = refl
any_among file (info ∷ infos) = ap (λ (t : Bool). (info.file == file) || t) (any_among file infos)

-- a look whose pin names the file pins it
pub pins_file : {P : Type 0} (meaning : Meaning P) (port : P) (look : Look) (file : ℕ) (names : Bool) → names ≡ list_any (λ (info : InfoParts). info.file == file) look.pin.blocks → names ≡ true
    → IsOpen meaning port (look_of look) → IsPinOf look.pin file (IsOpen meaning port)
pins_file meaning port look file names is said is_open =
    OfLook (look_parts look) refl refl is_open (sym (any_among file look.pin.blocks) ∙ sym is ∙ said)

-- none of the calls gives it back
abbrev KeepsLook : Look → List Call → Type 0
KeepsLook look [] = Unit {0}
KeepsLook look (c ∷ calls) = (ends c.event c.reply (look_of look) ≡ false) × KeepsLook look calls

stays : {P : Type 0} (meaning : Meaning P) (old new : P) (calls : List Call) (look : Look) → KeepsLook look calls → AreMade meaning old calls new
    → IsOpen meaning old (look_of look) → IsOpen meaning new (look_of look)
stays {P} meaning old new [] look keeps made is = subst (λ (x : P). IsOpen meaning x (look_of look)) (sym made) is
stays meaning old new (c ∷ calls) look keeps made is =
    stays meaning made.0 new calls look keeps.1 made.2 (stays_open meaning old made.0 c.event c.reply (look_of look) made.1 is keeps.0)

-- a compaction gives none back
keeps_look : (look : Look) (stage : Stage) (calls : List Call) (round : Round) → Leads stage calls round → KeepsLook look calls
keeps_look look _ _ _ nothing = (refl, tt)
keeps_look look _ _ _ (no_job why) = (refl, tt)
keeps_look look _ _ _ (begun job rest) = (refl, keeps_look look _ _ _ rest)
keeps_look look _ _ _ (read job parts info infos pages bytes page below rest) = (refl, keeps_look look _ _ _ rest)
keeps_look look _ _ _ (unread job parts info infos pages bytes below rest) = (refl, keeps_look look _ _ _ rest)
keeps_look look _ _ _ (block job parts info infos pages bytes rows all are rest) = keeps_look look _ _ _ rest
keeps_look look _ _ _ (no_block job parts info infos pages bytes at all breaks rest) = keeps_look look _ _ _ rest
keeps_look look _ _ _ (starved job parts infos pages bytes rest) = keeps_look look _ _ _ rest
keeps_look look _ _ _ (built job parts pages pages_read bytes info is rest) = keeps_look look _ _ _ rest
keeps_look look _ _ _ (written job bytes size some rest) = (refl, keeps_look look _ _ _ rest)
keeps_look look _ _ _ (unwritten job bytes size why some rest) = (refl, keeps_look look _ _ _ rest)
keeps_look look _ _ _ (listed job size) = (refl, tt)
keeps_look look _ _ _ (unlisted job size why) = (refl, tt)
keeps_look look _ _ _ (dropped number why) = (refl, tt)
keeps_look look _ _ _ (over round) = tt

pub stays_beside : {P : Type 0} (meaning : Meaning P) (old new : P) (calls : List Call) (round : Round) (look : Look) → Leads Fresh calls round → AreMade meaning old calls new
    → IsOpen meaning old (look_of look) → IsOpen meaning new (look_of look)
stays_beside meaning old new calls round look leads made is = stays meaning old new calls look (keeps_look look Fresh calls round leads) made is
