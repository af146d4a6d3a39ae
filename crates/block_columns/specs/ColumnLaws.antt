-- How a reading and an encoding belong together, where both refer to one table.
use Rattle.std.specs.Prelude.{◌≡◌, ℕ, ◌+◌, ◌≤◌, Bool, true, false, List, [], ◌∷◌, ◌++◌, length, map, take, Result, Ok}
use Rattle.std.specs.List.{AllByRecursion}
use Rattle.byte_fields.specs.Reading.{Stand, left, ahead, IsWithin}
use Rattle.byte_fields.specs.Laws.{Took}
use Rattle.block_columns.specs.Tables.{AllAfter, IsNew}
use Rattle.block_columns.specs.ColumnEncodings.{Encoded, Encoding}
use Rattle.block_columns.specs.ColumnReadings.{Spot, Read}

abbrev pub read_to : {A S : Type 0} → A → S → Result (A × S) ℕ
read_to x t = Ok (x, t)

-- the values that were referred to
abbrev pub known : {T : Type 0} → List T → Spot → List T
known table s = take s.used table

-- a place from which can be read
pub record IsAt {T : Type 0} (table : List T) (s : Spot) : Type 0 where
  pub within : IsWithin s.stand.whole s.stand.at
  pub few : s.used ≤ length table

-- one list is the front of another
pub record Begins {A : Type 0} (front whole : List A) : Type 0 where
  pub rest : List A
  pub is : whole ≡ front ++ rest

-- what was passed between two places
pub record Wrote {T : Type 0} (table : List T) (made : Encoded T) (s t : Spot) : Type 0 where
  pub bytes : Took made.0 s.stand t.stand
  pub table_is : made.1 ≡ known table t
  pub few : t.used ≤ length table
  pub same : s.within ≡ t.within

-- what was read and where the reader then stands: its encoding was passed, and it can be kept
pub record Found {T A : Type 0} (table : List T) (encode : Encoding T A) (Fits : A → Type 0) (s : Spot) (x : A) (t : Spot) : Type 0 where
  pub wrote : Wrote table (encode x (known table s)) s t
  pub fits : Fits x

-- where the reader stands after this encoding
abbrev pub after : {T : Type 0} → Encoded T → Spot → Spot
after made s = record { within = s.within; stand = ahead (length made.0) s.stand; used = length made.1 }

-- this encoding stands there, and what it refers to are the first values of the table
pub record Stands {T : Type 0} (table : List T) (made : Encoded T) (rest : List ℕ) (s : Spot) : Type 0 where
  pub bytes : left s.stand ≡ made.0 ++ rest
  pub table_is : Begins made.1 table

-- a table with more values, which are new, distinct, and can be kept
pub record Adds {T : Type 0} (same : T → T → Bool) (P : T → Type 0) (old new : List T) : Type 0 where
  pub more : List T
  pub is : new ≡ old ++ more
  pub fresh : AllAfter (IsNew same) old more
  pub each : AllByRecursion P more

-- what is read is encoded there
abbrev pub ReadsEncoded : {T A : Type 0} → List T → Read A → Encoding T A → (A → Type 0) → Type 0
ReadsEncoded {T} {A} table read encode Fits = (s : Spot) → IsAt table s → (x : A) (t : Spot) → read s ≡ read_to x t → Found table encode Fits s x t

-- what is encoded there is read
abbrev pub EncodedReads : {T A : Type 0} → List T → Read A → Encoding T A → (A → Type 0) → Type 0
EncodedReads {T} {A} table read encode Fits = (s : Spot) → IsAt table s → (x : A) (rest : List ℕ) → Fits x
    → Stands table (encode x (known table s)) rest s → read s ≡ read_to x (after (encode x (known table s)) s)

-- an encoding adds to the table new values alone
abbrev pub AddsNew : {T A : Type 0} → (T → T → Bool) → (T → Type 0) → Encoding T A → (A → Type 0) → Type 0
AddsNew {T} {A} same P encode Fits = (x : A) (table : List T) → Fits x → Adds same P table (encode x table).1

-- all laws of one value
pub record Laws {T A : Type 0} (same : T → T → Bool) (P : T → Type 0) (table : List T) (read : Read A) (encode : Encoding T A) (Fits : A → Type 0) : Type 0 where
  pub meant : ReadsEncoded table read encode Fits
  pub again : EncodedReads table read encode Fits
  pub adds : AddsNew same P encode Fits

-- all laws of columns
pub record ColumnLaws {T A : Type 0} (same : T → T → Bool) (P : T → Type 0) (table : List T) (read : ℕ → Read (List A)) (encode : Encoding T (List A)) (Fits : ℕ → List A → Type 0) : Type 0 where
  pub one : (n : ℕ) → Laws same P table (read n) encode (Fits n)
  pub sized : (n : ℕ) (xs : List A) → Fits n xs → length xs ≡ n

-- so many values, each of which can be kept
abbrev pub IsColumn : {A : Type 0} → (A → Type 0) → ℕ → List A → Type 0
IsColumn Fits n xs = (length xs ≡ n) × AllByRecursion Fits xs

-- a list that can be kept, and that is empty where there are no bytes for it
abbrev pub IsOnlyIf : {A : Type 0} → Bool → (List A → Type 0) → List A → Type 0
IsOnlyIf true Fits xs = Fits xs
IsOnlyIf false Fits xs = xs ≡ []

abbrev pub IsBoth : {A B : Type 0} → (ℕ → List A → Type 0) → (ℕ → List B → Type 0) → ℕ → List (A × B) → Type 0
IsBoth Left Right n rows = Left n (map (λ r. r.0) rows) × Right n (map (λ r. r.1) rows)

abbrev pub IsPair : {A B : Type 0} → (A → Type 0) → (B → Type 0) → A × B → Type 0
IsPair Left Right x = Left x.0 × Right x.1
