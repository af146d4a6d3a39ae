-- The bytes that part tokens, and the number that digits stand for.
use Rattle.std.specs.Prelude.{◌≡◌, ℕ, ◌+◌, ◌-◌, ◌*◌, Bool, true, ◌||◌, ◌==◌, List, not, fold, codes}
use Rattle.std.specs.List.{list_any, list_all}
use Rattle.std.specs.Char.{is_ascii_digit}

-- white space: a space, a tab, a line feed or a carriage return
abbrev pub is_blank : ℕ → Bool
is_blank b = b == 32 || b == 9 || b == 10 || b == 13

-- a byte that an attribute's name without quotes doesn't have: white space, a quote or one of these signs
abbrev pub ends_name : ℕ → Bool
ends_name b = is_blank b || list_any (λ c. b == c) (codes "`{}()=~!<>&|^,\"")

-- a byte that such a name may have
abbrev pub is_name_byte : ℕ → Bool
is_name_byte b = not (ends_name b)

-- all of the text is white space
abbrev pub IsBlank : List ℕ → Type 0
IsBlank text = list_all is_blank text ≡ true

-- all of the text is decimal digits
abbrev pub AreDigits : List ℕ → Type 0
AreDigits text = list_all is_ascii_digit text ≡ true

-- the number that decimal digits stand for
abbrev pub decimal : List ℕ → ℕ
decimal digits = fold (λ n d. 10 * n + (d - 48)) 0 digits
