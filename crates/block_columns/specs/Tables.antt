-- Tables of distinct values, in which a value stands for its number.
use Rattle.std.specs.Prelude.{◌≡◌, ℕ, Bool, false, List, [], ◌∷◌, ◌++◌, if◌then◌else◌}
use Rattle.std.specs.List.{list_any, position_or_len}

-- a value's number, or the one that it gets where it is new
abbrev pub number_in : {T : Type 0} → (T → T → Bool) → List T → T → ℕ
number_in same table x = position_or_len (same x) table

-- the table with this value, at its end where it is new
abbrev pub with_value : {T : Type 0} → (T → T → Bool) → List T → T → List T
with_value same table x = if list_any (same x) table then table else table ++ x ∷ []

-- each item is good after those before it
abbrev pub AllAfter : {A : Type 0} → (List A → A → Type 0) → List A → List A → Type 0
AllAfter Good before [] = Unit {0}
AllAfter Good before (x ∷ xs) = Good before x × AllAfter Good (before ++ x ∷ []) xs

-- a value that is none of those before it
abbrev pub IsNew : {T : Type 0} → (T → T → Bool) → List T → T → Type 0
IsNew same before x = list_any (same x) before ≡ false
