-- What lines ask, one after another.
use Rattle.std.specs.Prelude.{◌≡◌, ℕ, List, [], ◌∷◌, ◌++◌, Result}
use Rattle.session_text.specs.declared.refusal.Refusal.{Refusal}
use Rattle.session_text.specs.declared.request.Request.{Request}
use Rattle.session_text.specs.Requests.{Asks}

-- What is asked, or the refusal that was made in reading.
abbrev pub Item : Type 0
Item = Result Request Refusal

-- The lines ask this, in order, where the maker of patterns refused these texts, in order: those that the lines blame. A
-- line without bytes asks nothing.
abbrev pub AreAsked : List (List ℕ) → List Item → List (List ℕ) → Type 0
AreAsked [] items refused = (items ≡ []) × (refused ≡ [])
AreAsked ([] ∷ lines) items refused = AreAsked lines items refused
AreAsked ((b ∷ bs) ∷ lines) [] refused = ⊥
AreAsked ((b ∷ bs) ∷ lines) (item ∷ items) refused =
    (now later : List (List ℕ)) × (refused ≡ now ++ later) × Asks (b ∷ bs) now item × AreAsked lines items later
