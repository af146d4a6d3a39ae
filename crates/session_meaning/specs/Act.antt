-- What a line of a session comes to.
use Rattle.std.specs.Prelude.{◌≡◌, true, false, ℕ, List, []}
use Rattle.session_text.specs.Items.{Item}
use Rattle.session_text.specs.Requests.{AsksAt, is_reopen}

pub data Act : Type 0 where
  -- this is asked of the store, or the line is refused in reading
  Ask : Item → Act
  -- the store is closed and opened again, at this moment
  Reopen : ℕ → Act
  -- the line isn't read, since the store is closed
  Unread : Act

-- What a line may come to that is read at a moment, where the maker of patterns refused these texts. Whether the store is closed, so
-- that the line isn't read, the line doesn't say.
abbrev pub ComesTo : ℕ → List ℕ → List (List ℕ) → Act → Type 0
ComesTo moment line refused (Ask item) = (is_reopen line ≡ false) × AsksAt moment line refused item
ComesTo moment line refused (Reopen at) = (is_reopen line ≡ true) × (at ≡ moment) × (refused ≡ [])
ComesTo moment line refused Unread = (is_reopen line ≡ false) × (refused ≡ [])
