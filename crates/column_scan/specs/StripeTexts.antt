-- Private mechanism. The texts that a stripe begins with.
use Rattle.std.specs.Prelude.{◌≡◌, ℕ, List, Result, Ok}
use Rattle.byte_fields.specs.Reading.{Stand, ◌>>=◌}
use Rattle.block_columns.specs.ColumnReadings.{Read, Spot, column_at, number_at}
use Rattle.block_stripes.specs.StripeReadings.{whole_text_at}
use Rattle.block_stripes.specs.StripeStarts.{content_spot}

unfoldable pub texts_of : List ℕ → Result (List (List ℕ)) ℕ
texts_of bytes = do
  content ← content_spot bytes
  count ← number_at content
  texts ← column_at whole_text_at count.0 count.1
  Ok texts.0

-- If something can be read there, it is this, and it ends where the reader stands afterwards.
abbrev pub IsNext : {A : Type 0} → Read A → Stand → A → Stand → Type 0
IsNext {A} read old x new = (s t : Spot) (y : A) → s.stand ≡ old → read s ≡ Ok (y, t) → (y ≡ x) × (t.stand ≡ new)

abbrev pub IsNextCount : Stand → ℕ → Stand → Type 0
IsNextCount = IsNext number_at

abbrev pub IsNextText : Stand → List ℕ → Stand → Type 0
IsNextText = IsNext whole_text_at
