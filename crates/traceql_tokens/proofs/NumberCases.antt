-- What token a number is, by what the lexer found.
use Rattle.std.proofs.Common.{◌≡◌, ℕ, suc, ◌+◌, ◌<◌, ◌≤◌, true, false, cond, min, List, [], ◌∷◌, length, None, Some, unwrap_or, refl, ap, ◌∙◌, arith, lt-ltb, ltb}
use Rattle.std.specs.List.{prefix_len}
use Rattle.std.specs.Char.{is_ascii_digit}
use Rattle.std.proofs.lemmas.Bool.Decides.{nat_tests}
use Rattle.traceql_tokens.specs.Bytes.{decimal}
use Rattle.traceql_tokens.specs.Numbers.{LIMIT, fraction_text}
use Rattle.traceql_tokens.specs.NumberWalk.{whole_at, after_whole, fraction_at, number_kind, plain_at, plain_of, duration_at, number_at}
use Rattle.traceql_tokens.specs.declared.kinds.Class.TheVariants as class
use Rattle.traceql_tokens.specs.declared.kinds.Fault.TheVariants as fault
use Rattle.traceql_tokens.specs.declared.kinds.TokenKind.{TokenKind}
use Rattle.traceql_tokens.specs.declared.kinds.TokenKind.TheVariants as token
use Rattle.traceql_tokens.proofs.NumberSteps.{whole_len}

pub below_limit : (n : ℕ) → n < LIMIT → ltb n LIMIT ≡ true
below_limit n h = lt-ltb n LIMIT h

pub above_limit : (n : ℕ) → LIMIT ≤ n → ltb n LIMIT ≡ false
above_limit n h = grind (arith, nat_tests)

pub number_in : (n m : ℕ) → m ≡ min n LIMIT → m < LIMIT → number_kind n ≡ token.Number m
unfolding number_kind
number_in n m e h =
    let same : n ≡ m = omega arith in
    ap (λ b. cond b (token.Number n) (token.Broken class.Number fault.NumberRange)) (below_limit n (omega arith)) ∙ ap token.Number same

pub number_out : (n m : ℕ) → m ≡ min n LIMIT → LIMIT ≤ m → number_kind n ≡ token.Broken class.Number fault.NumberRange
unfolding number_kind
number_out n m e h = ap (λ b. cond b (token.Number n) (token.Broken class.Number fault.NumberRange)) (above_limit n (omega arith))

pub ruleset kind_cases = (number_in, number_out)

abbrev plain_with : List ℕ → List ℕ → TokenKind × ℕ
plain_with bs f = (plain_of (whole_at bs) f, prefix_len is_ascii_digit bs + length (fraction_text f))

no_fraction : (bs f : List ℕ) → length f ≡ 0 → plain_with bs f ≡ (number_kind (decimal (whole_at bs)), length (whole_at bs))
no_fraction bs [] h = let e = whole_len bs in let z : prefix_len is_ascii_digit bs + 0 ≡ length (whole_at bs) = omega arith in ap (λ n. (number_kind (decimal (whole_at bs)), n)) z
no_fraction bs (d ∷ ds) h = absurd (omega arith)

some_fraction : (bs f : List ℕ) → (length f ≡ 0 → ⊥) → plain_with bs f ≡ (token.Broken class.Number fault.FractionLiteral, length (whole_at bs) + 1 + length f)
some_fraction bs [] h = absurd (h refl)
some_fraction bs (d ∷ ds) h = let e = whole_len bs in let z : prefix_len is_ascii_digit bs + suc (suc (length ds)) ≡ length (whole_at bs) + 1 + suc (length ds) = omega arith in ap (λ n. (token.Broken class.Number fault.FractionLiteral, n)) z

pub plain_whole : (bs : List ℕ) → length (fraction_at (after_whole bs)) ≡ 0 → plain_at bs ≡ (number_kind (decimal (whole_at bs)), length (whole_at bs))
unfolding plain_at
plain_whole bs h = no_fraction bs (fraction_at (after_whole bs)) h

pub plain_fraction : (bs : List ℕ) → (length (fraction_at (after_whole bs)) ≡ 0 → ⊥) → plain_at bs ≡ (token.Broken class.Number fault.FractionLiteral, length (whole_at bs) + 1 + length (fraction_at (after_whole bs)))
unfolding plain_at
plain_fraction bs h = some_fraction bs (fraction_at (after_whole bs)) h

pub ruleset plain_cases = (plain_whole, plain_fraction)

pub number_duration : (bs : List ℕ) (r : TokenKind × ℕ) → duration_at bs ≡ Some r → number_at bs ≡ r
unfolding number_at
number_duration bs r h = ap (λ o. unwrap_or o (plain_at bs)) h

pub number_plain : (bs : List ℕ) → duration_at bs ≡ None → number_at bs ≡ plain_at bs
unfolding number_at
number_plain bs h = ap (λ o. unwrap_or o (plain_at bs)) h

pub ruleset number_cases = (number_duration, number_plain)
