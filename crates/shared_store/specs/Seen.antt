-- What a seat has seen.
use Rattle.std.specs.Prelude.{◌≡◌, ℕ, List, [], ◌∷◌, ◌++◌, length, map, Bool, true, false, ◌||◌, if◌then◌else◌, ◌==◌, nat_le, Option, None, IsTrue}
use Rattle.std.specs.List.{flat_map}
use Rattle.store_model.specs.Event.{Event, Reply}
use Rattle.store_model.specs.Event.Event.{WritePiece}
use Rattle.store_model.specs.Event.Reply.{Refused}
use Rattle.store_model.specs.Event.Refusal.{Fault}
use Rattle.store_model.specs.Holds.{Hold, files_of}
use Rattle.store_model.specs.State.{is_among}
use Rattle.port_history.specs.Entries.{Entry, own}

-- What one of two seats had when they were made one: its calls, names, looks and jobs, and their files.
pub record Half : Type 0 where
  pub entries : List Entry
  pub names : List ℕ
  pub holds : List Hold
  pub kept : List (ℕ × List ℕ)

pub record Seen : Type 0 where
  -- all calls up to its own last one, and what it has been told of besides
  pub entries : List Entry
  -- its names: the first is the one under which it goes on
  pub names : List ℕ
  -- its open looks and jobs
  pub holds : List Hold
  -- the files of these, with their bytes
  pub kept : List (ℕ × List ℕ)
  -- the two seats of which it was made, if that was since its last call
  pub joined : Option (Half × Half)

abbrev pub nothing_seen : Seen
nothing_seen = record { entries = []; names = []; holds = []; kept = []; joined = None }

-- a file with its bytes
abbrev pub with_bytes : (ℕ → List ℕ) → ℕ → ℕ × List ℕ
with_bytes shows file = (file, shows file)

-- the files of these, with the bytes that a port shows
abbrev pub kept_of : (ℕ → List ℕ) → List Hold → List (ℕ × List ℕ)
kept_of shows holds = map (with_bytes shows) (flat_map files_of holds)

-- the bytes of a file, and none of one that isn't there
abbrev pub bytes_in : List (ℕ × List ℕ) → ℕ → List ℕ
bytes_in [] file = []
bytes_in (x ∷ xs) file = if x.0 == file then x.1 else bytes_in xs file

-- the names after an entry at this place, and the one under which it stands
abbrev pub names_after : ℕ → List ℕ → List ℕ
names_after place [] = place ∷ []
names_after place (n ∷ names) = n ∷ names

abbrev pub name_at : ℕ → List ℕ → ℕ
name_at place [] = place
name_at place (n ∷ names) = n

-- The seen history of a seat goes on with these: they begin with it, and of the seat's calls they have just those that it had.
pub record GoesOn (names : List ℕ) (seen entries : List Entry) : Type 0 where
  pub later : List Entry
  pub begins : entries ≡ seen ++ later
  pub others : own names later ≡ []
  pub mine : own names entries ≡ own names seen

-- No name is among both.
abbrev pub ShareNone : List ℕ → List ℕ → Type 0
ShareNone names others = (n : ℕ) → is_among n names ≡ true → is_among n others ≡ false

-- The files of these looks and jobs have the bytes that they had.
abbrev pub SameBytes : List Hold → List (ℕ × List ℕ) → List (ℕ × List ℕ) → Type 0
SameBytes holds old new = (file : ℕ) → is_among file (flat_map files_of holds) ≡ true → bytes_in new file ≡ bytes_in old file

-- Of two seats that were made one: they shared no name, its history goes on with that of each, and where bytes are told it shows
-- what each showed.
pub record AreJoined (told : Bool) (one other : Half) (seen : Seen) : Type 0 where
  pub apart : ShareNone one.names other.names
  pub first : GoesOn one.names one.entries seen.entries
  pub second : GoesOn other.names other.entries seen.entries
  pub shows_first : IsTrue told → SameBytes one.holds one.kept seen.kept
  pub shows_second : IsTrue told → SameBytes other.holds other.kept seen.kept

abbrev pub half_of : Seen → Half
half_of s = record { entries = s.entries; names = s.names; holds = s.holds; kept = s.kept }

-- the longer of two
abbrev pub longer : List Entry → List Entry → List Entry
longer a b = if nat_le (length a) (length b) then b else a

-- the names of two seats; the earlier one comes first, under which they go on
abbrev pub joined_names : List ℕ → List ℕ → List ℕ
joined_names [] ys = ys
joined_names (a ∷ xs) [] = a ∷ xs
joined_names (a ∷ xs) (b ∷ ys) = if nat_le a b then (a ∷ xs) ++ b ∷ ys else (b ∷ ys) ++ a ∷ xs

-- the call is a write of a piece, which failed
abbrev pub fails : Event → Reply → Bool
fails (WritePiece job file bytes) (Refused Fault) = true
fails _ _ = false

-- some write of a piece among them failed
abbrev pub some_fails : List Entry → Bool
some_fails [] = false
some_fails (e ∷ es) = fails e.event e.reply || some_fails es
