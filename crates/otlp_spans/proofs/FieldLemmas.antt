-- A moment's text beside what `parse` answers.
use Rattle.std.proofs.Common.{◌≡◌, ◌≢◌, ℕ, ◌^◌, ◌<◌, ◌==◌, Bool, true, false, cond, List, [], ◌∷◌, length, Option, Some, None, option_map, Bor, MatchOption, Result, Ok, Err, refl, ap, arith, rules}
use Rattle.std.specs.Char.{is_ascii_digit}
use Rattle.std.specs.List.{list_all}
use Rattle.std.specs.Result.{result_ok, OkIff}
use Rattle.std.specs.Str.Parse.{digits_value, ParsesUnsigned}
use Rattle.std.proofs.lemmas.Bool.{eqb-true}
use Rattle.std.proofs.lemmas.Bool.Decides.{nat_tests}
use Rattle.std.proofs.lemmas.Str.Parse.{IsNumeralModel, numerals_by_value, parse_digits}
use Rattle.otlp_spans.specs.Fields.{after_minus, moment_of}

abbrev pub IsDigits : List ℕ → Type 0
IsDigits text = list_all is_ascii_digit text ≡ true

pub own : IsNumeralModel IsDigits (digits_value 10)
own = numerals_by_value _ (search rules)

from_number : {E : Type 0} (text : List ℕ) (r : Result ℕ E) → IsDigits text
    → OkIff r ((0 < length text) × (digits_value 10 text < 2 ^ 64)) (digits_value 10 text) → result_ok r ≡ moment_of text
from_number text (Ok n) digits h = grind (arith, nat_tests)
from_number text (Err e) digits h = grind (arith, nat_tests)

-- what `parse` answers for digits is the moment that they write
pub moment_of-digits : {E : Type 0} (text : List ℕ) (r : Result ℕ E) → ParsesUnsigned 64 10 text r → IsDigits text → result_ok r ≡ moment_of text
moment_of-digits text r parsed digits = from_number text r digits (parse_digits own 64 text r parsed digits)

-- ---- a minus

by_first : (c : ℕ) (cs : List ℕ) (b : Bool) → (c == 45) ≡ b → ((rest : List ℕ) → c ∷ cs ≢ 45 ∷ rest) → None ≡ cond b (Some cs) None
by_first c cs true is none = absurd (none cs (ap (λ (x : ℕ). x ∷ cs) (eqb-true c 45 is)))
by_first c cs false is none = refl

no_minus : (text : List ℕ) → ((rest : List ℕ) → text ≢ 45 ∷ rest) → None ≡ after_minus text
no_minus [] none = refl
no_minus (c ∷ cs) none = by_first c cs (c == 45) refl none

-- what `strip_prefix` answers is what follows a minus
pub after_minus-stripped : (text : List ℕ) (r : Option (Bor (List ℕ))) → MatchOption r ((rest : List ℕ) → text ≢ 45 ∷ rest) (λ x. text ≡ 45 ∷ x.now)
    → option_map (λ s. s.now) r ≡ after_minus text
after_minus-stripped text None none = no_minus text none
after_minus-stripped text (Some x) is = rw is refl
