-- What a crash leaves in the middle of a run, and from which history the next one goes on. At first a crash may leave images of two histories, where
-- an earlier run ended with a push that was answered `disk-fault`.
use Rattle.std.specs.Prelude.{◌≡◌, ◌⊎◌, ℕ, ◌≤◌, List, [], ◌∷◌, Option}
use Rattle.std.specs.List.{Contains}
use Rattle.disk_model.specs.Images.{Image}
use Rattle.store_entries.specs.declared.entry.Entry.{Entry}
use Rattle.store_images.specs.Stored.{ImageStandsFor, MayStandFor}
use Rattle.store_model.specs.History.{History, count_of, grown, up_to, with_entry}
use Rattle.store_reopen.specs.Through.{Pending, StoodAmid}
use Rattle.session_meaning.specs.Kept.{Kept, were_unsure}

-- Each of these images stands for the history, or for it and then the entry that isn't sure. An earlier run leaves such ones.
abbrev pub AllMayStandFor : History → Option Entry → (Image → Type 0) → Type 0
AllMayStandFor h unsure images = (image : Image) → images image → MayStandFor h unsure image

-- The image stands for just the histories for which one of these stands.
abbrev pub StandsAsOneOf : (Image → Type 0) → Image → Type 0
StandsAsOneOf images image =
    (one : Image) × images one × ((h : History) → ImageStandsFor one h → ImageStandsFor image h)
    × ((h : History) → ImageStandsFor image h → ImageStandsFor one h)

-- The image stands for what was stored before the run, with or without the entry that wasn't sure then; or for the run's history at
-- some length from that one on, and it may be for a push besides that was answered `disk-fault` there.
abbrev pub LiesAmid : History → Option Entry → ℕ → History → List Pending → Image → Type 0
LiesAmid before unsure least last pending image = MayStandFor before unsure image ⊎ StoodAmid least last pending image

-- The history is a front of the last one, not below that length; or it is such a front at which a push was answered `disk-fault`, and
-- then that push.
abbrev pub IsAmid : ℕ → Kept → History → Type 0
IsAmid least last h =
    ((n : ℕ) × (least ≤ n) × (n ≤ count_of last.history) × (h ≡ up_to n last.history))
    ⊎ ((p : Pending) × Contains (were_unsure last) p × (least ≤ p.length) × (p.length ≤ count_of last.history)
    × (h ≡ grown (up_to p.length last.history) (p.entry ∷ [])))

-- The next run goes on from what was stored before the run, with or without the entry that wasn't sure then; or from the run's history so.
abbrev pub GoesOnFrom : History → Option Entry → ℕ → Kept → History → Type 0
GoesOnFrom before unsure least last h = (h ≡ before) ⊎ ((h ≡ with_entry unsure before) ⊎ IsAmid least last h)
