-- Where the reader of columns stands, and what it reads there.
use Rattle.std.specs.Prelude.{ℕ, zero, suc, ◌+◌, max, Bool, List, [], ◌∷◌, ◌++◌, length, Option, Some, None, Result, Ok, Err, ◌==◌, nat_le, slice_get, if◌then◌else◌}
use Rattle.std.specs.List.{list_any}
use Rattle.byte_fields.specs.Reading.{Stand, ◌>>=◌, var_at}
use Rattle.byte_fields.specs.Breaks.{in_part}

-- The bytes and the offset of the next one, whether the file goes on after them, and how many values of the table were
-- referred to.
pub record Spot : Type 0 where
  pub within : Bool
  pub stand : Stand
  pub used : ℕ

abbrev pub Read : Type 0 → Type 0
Read A = Spot → Result (A × Spot) ℕ

abbrev pub at_spot : {A : Type 0} → Spot → Result (A × Stand) ℕ → Result (A × Spot) ℕ
at_spot s (Ok x) = Ok (x.0, record { within = s.within; stand = x.1; used = s.used })
at_spot s (Err at) = Err at

-- a field that refers to nothing
unfoldable pub field : {A : Type 0} → (Bool → Stand → Result (A × Stand) ℕ) → Read A
field read s = at_spot s (read s.within s.stand)

abbrev pub number_at : Read ℕ
number_at = field (λ within. in_part within var_at)

-- the value, or the offset where there is none
abbrev pub or_malformed : {A : Type 0} → ℕ → Option A → Spot → Result (A × Spot) ℕ
or_malformed at (Some x) s = Ok (x, s)
or_malformed at None s = Err at

-- a value that was referred to before, or the next one of the table
abbrev pub named : {T : Type 0} → List T → ℕ → ℕ → Option T
named table used n = if nat_le n used then slice_get table n else None

unfoldable pub reference_at : {T : Type 0} → List T → Read T
reference_at table s = do
  n ← number_at s
  or_malformed s.stand.at (named table s.used n.0) (record { within = n.1.within; stand = n.1.stand; used = max s.used (n.0 + 1) })

-- a value in two parts, the one after the other
unfoldable pub pair_at : {A B : Type 0} → Read A → Read B → Read (A × B)
pair_at first second s = do
  x ← first s
  y ← second x.1
  Ok ((x.0, y.0), y.1)

-- a value that is made of what is read
unfoldable pub made_at : {A B : Type 0} → (A → B) → Read A → Read B
made_at make read s = do
  x ← read s
  Ok (make x.0, x.1)

-- so many items after these ones
unfoldable pub items_at : {A : Type 0} → (List A → Read A) → ℕ → List A → Read (List A)
items_at read zero before s = Ok (before, s)
items_at read (suc n) before s = read before s >>= λ x. items_at read n (before ++ x.0 ∷ []) x.1

-- a count, and so many items
unfoldable pub counted_at : {A : Type 0} → (List A → Read A) → Read (List A)
counted_at read s = do
  n ← number_at s
  items_at read n.0 [] n.1

-- a column: so many values of one kind
abbrev pub column_at : {A : Type 0} → Read A → ℕ → Read (List A)
column_at read n s = items_at (λ _. read) n [] s

-- each value of one column with that of the other in its row
abbrev pub beside : {A B : Type 0} → List A → List B → List (A × B)
beside [] ys = []
beside (x ∷ xs) [] = []
beside (x ∷ xs) (y ∷ ys) = (x, y) ∷ beside xs ys

-- columns, and then further columns
unfoldable pub both_at : {A B : Type 0} → (ℕ → Read (List A)) → (ℕ → Read (List B)) → ℕ → Read (List (A × B))
both_at left right n s = do
  xs ← left n s
  ys ← right n xs.1
  Ok (beside xs.0 ys.0, ys.1)

-- a list whose bytes are there, or for which there are none
unfoldable pub only_if_at : {A : Type 0} → Bool → Read (List A) → Read (List A)
only_if_at there read s = if there then read s else Ok ([], s)

-- a value that is malformed where it is bad
unfoldable pub unless_at : {A : Type 0} → (A → Bool) → Read A → Read A
unless_at bad read s = do
  x ← read s
  if bad x.0 then Err s.stand.at else Ok x

-- a value that is none of those before it
abbrev pub new_at : {T : Type 0} → (T → T → Bool) → Read T → List T → Read T
new_at same read before = unless_at (λ x. list_any (same x) before) read

-- a table: its values, which are distinct
abbrev pub table_at : {T : Type 0} → (T → T → Bool) → Read T → Read (List T)
table_at same read s = counted_at (new_at same read) s

-- the offset of the item of this number in a list that stands there
unfoldable pub item_at : {A : Type 0} → Read A → ℕ → Spot → Result ℕ ℕ
item_at read number list = do
  n ← number_at list
  before ← column_at read number n.1
  Ok before.1.stand.at

-- malformed at this offset, or at that where it isn't found
abbrev pub malformed : {B : Type 0} → Result ℕ ℕ → Result B ℕ
malformed (Ok at) = Err at
malformed (Err at) = Err at

-- What was found, where each value of its table is used. The list that is the table is malformed at the first value that isn't.
abbrev pub all_used : {T B A : Type 0} → Read B → Spot → List T → ℕ → A × Spot → Result (A × Spot) ℕ
all_used read list table used found = if used == length table then Ok found else malformed (item_at read used list)

-- a column of values that stand in a table of their own, each of which is used
unfoldable pub owners_at : {T B : Type 0} → Read B → Spot → List T → ℕ → Read (List T)
owners_at read list table n s = do
  xs ← column_at (reference_at table) n (record { within = s.within; stand = s.stand; used = 0 })
  all_used read list table xs.1.used (xs.0, record { within = xs.1.within; stand = xs.1.stand; used = s.used })
