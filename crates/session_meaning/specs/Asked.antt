-- What the lines of an input ask, at the moments of a clock.
use Rattle.std.specs.Prelude.{◌≡◌, ℕ, List, [], ◌∷◌, ◌++◌, Option}
use Rattle.std.specs.Option.{ForSome, option_map}
use Rattle.io_edges.specs.Devices.{first_moment, later_moments}
use Rattle.session_text.specs.Items.{Item}
use Rattle.session_text.specs.Requests.{AsksAt}
use Rattle.session_meaning.specs.Act.{Act, ComesTo}

-- A clock that has these moments to give gives this one next. One that doesn't tell its moments may give any.
abbrev pub IsNextMoment : Option (List ℕ) → ℕ → Type 0
IsNextMoment told moment = ForSome told (λ moments. moment ≡ first_moment moments)

-- what it has to give after that
abbrev pub after_moment : Option (List ℕ) → Option (List ℕ)
after_moment told = option_map later_moments told

-- What it has to give after these lines were read: it is asked once for each line that has bytes.
abbrev pub after_lines : List (List ℕ) → Option (List ℕ) → Option (List ℕ)
after_lines [] told = told
after_lines ([] ∷ lines) told = after_lines lines told
after_lines ((b ∷ bs) ∷ lines) told = after_lines lines (after_moment told)

-- A line that is read at the clock's next moment asks this, or has this cause to be refused, where the maker of patterns
-- refused these texts.
abbrev pub AsksNext : Option (List ℕ) → List ℕ → List (List ℕ) → Item → Type 0
AsksNext told line refused item = (moment : ℕ) × IsNextMoment told moment × AsksAt moment line refused item

-- A line that is read at the clock's next moment comes to this.
abbrev pub ComesToNext : Option (List ℕ) → List ℕ → List (List ℕ) → Act → Type 0
ComesToNext told line refused act = (moment : ℕ) × IsNextMoment told moment × ComesTo moment line refused act

-- The lines come to this in order, each read at the clock's next moment, where the maker of patterns refused these texts, in
-- order: those that the lines blame. A line without bytes is passed over.
abbrev pub AreAsked : List (List ℕ) → Option (List ℕ) → List Act → List (List ℕ) → Type 0
AreAsked [] told acts refused = (acts ≡ []) × (refused ≡ [])
AreAsked ([] ∷ lines) told acts refused = AreAsked lines told acts refused
AreAsked ((b ∷ bs) ∷ lines) told [] refused = ⊥
AreAsked ((b ∷ bs) ∷ lines) told (act ∷ acts) refused =
    (now later : List (List ℕ)) × (refused ≡ now ++ later) × ComesToNext told (b ∷ bs) now act
    × AreAsked lines (after_moment told) acts later
