-- The bytes of a value that refers to a table, and the table after it.
use Rattle.std.specs.Prelude.{ℕ, Bool, List, [], ◌∷◌, ◌++◌, length, map, if◌then◌else◌}
use Rattle.byte_fields.specs.Spelling.{var_bytes}
use Rattle.block_columns.specs.Tables.{number_in, with_value}

-- bytes, and the values that were referred to up to their end, in order of first use
abbrev pub Encoded : Type 0 → Type 0
Encoded T = List ℕ × List T

-- what a value is encoded as, where these others were referred to before
abbrev pub Encoding : Type 0 → Type 0 → Type 0
Encoding T A = A → List T → Encoded T

-- a value that refers to nothing
abbrev pub plain : {T A : Type 0} → (A → List ℕ) → Encoding T A
plain bytes x table = (bytes x, table)

-- a value of the table: its number
abbrev pub reference : {T : Type 0} → (T → T → Bool) → Encoding T T
reference same x table = (var_bytes (number_in same table x), with_value same table x)

-- one value, and then another
abbrev pub followed : {T A B : Type 0} → Encoding T A → Encoding T B → A → B → List T → Encoded T
followed first second x y table = (let a = first x table in let b = second y a.1 in (a.0 ++ b.0, b.1))

-- a value in two parts, the one after the other
unfoldable pub pair : {T A B : Type 0} → Encoding T A → Encoding T B → Encoding T (A × B)
pair first second x table = followed first second x.0 x.1 table

-- the values of a column
unfoldable pub column : {T A : Type 0} → Encoding T A → Encoding T (List A)
column encode [] table = ([], table)
column encode (x ∷ xs) table = (let a = encode x table in let b = column encode xs a.1 in (a.0 ++ b.0, b.1))

-- a count, and so many values
unfoldable pub counted : {T A : Type 0} → Encoding T A → Encoding T (List A)
counted encode xs table = followed (plain var_bytes) (column encode) (length xs) xs table

-- columns, and then further columns
unfoldable pub both : {T A B : Type 0} → Encoding T (List A) → Encoding T (List B) → Encoding T (List (A × B))
both left right rows table = followed left right (map (λ r. r.0) rows) (map (λ r. r.1) rows) table

-- columns of rows, one after the other
unfoldable pub columns : {T A : Type 0} → List (Encoding T (List A)) → Encoding T (List A)
columns [] rows table = ([], table)
columns (first ∷ later) rows table = followed first (columns later) rows rows table

-- a list whose bytes are there, or for which there are none
unfoldable pub only_if : {T A : Type 0} → Bool → Encoding T (List A) → Encoding T (List A)
only_if there encode xs table = if there then encode xs table else ([], table)

-- the numbers of values in a table of their own, and that table: each value once, in order of first use
unfoldable pub numbered : {T : Type 0} → (T → T → Bool) → List T → Encoded T
numbered same xs = column (reference same) xs []

abbrev pub first_uses : {T : Type 0} → (T → T → Bool) → List T → List T
first_uses same xs = (numbered same xs).1

-- a column of values that stand in a table of their own
abbrev pub owners : {T A : Type 0} → (A → A → Bool) → Encoding T (List A)
owners same = plain (λ xs. (numbered same xs).0)

-- what was encoded so far, with a value after it
abbrev pub wrote : {T A : Type 0} → Encoding T A → A → Encoded T → Encoded T
wrote encode x old = (let a = encode x old.1 in (old.0 ++ a.0, a.1))
