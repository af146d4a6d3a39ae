-- What a stripe's entry says of its bytes.
use Rattle.std.proofs.Common.{◌≡◌, ℕ, ◌+◌, ◌==◌, Bool, true, false, List, Option, Result, Ok, Err, ap, subst}
use Rattle.std.specs.Int.{div_ceil}
use Rattle.span_types.specs.declared.spans.Row.{Row}
use Rattle.byte_fields.specs.Reading.{◌>>=◌, fixed64_at}
use Rattle.byte_fields.specs.Breaks.{in_part}
use Rattle.byte_fields.proofs.Meant.{bound}
use Rattle.block_info.specs.declared.info.StripeInfo.{StripeInfo}
use Rattle.block_stripes.specs.StripeReadings.{stripe_at}
use Rattle.block_stripes.specs.Stripes.{is_extended}
use Rattle.block_read.specs.BlockReadings.{agreeing, agrees, can_agree, follow, starts, stripe_of, unless_not, within}

tested : {A : Type 0} (b : Bool) (at : ℕ) (x y : A) → unless_not b at x ≡ Ok y → x ≡ y
tested {A} true at x y is = same x y is
  where
    same : (a b : A) → (let one : Result A ℕ = Ok a in let two : Result A ℕ = Ok b in one ≡ two) → a ≡ b
    same a b e = cc
tested false at x y is = cc

read_within : (entry : StripeInfo) (part : List ℕ) (read : Result (List Row) ℕ) (rows : List Row) → agreeing entry part (within part read) ≡ Ok rows → read ≡ Ok rows
read_within entry part (Ok x) rows is = ap (λ (l : List Row). (let r : Result (List Row) ℕ = Ok l in r)) (tested (agrees entry (starts x)) 0 x rows is)
read_within entry part (Err at) rows is = cc

-- the rows that are read by an entry are those of the bytes
pub whole_read : (form : ℕ) (entry : StripeInfo) (last : Option Row) (part : List ℕ) (rows : List Row) → stripe_of form entry last part ≡ Ok rows → stripe_at (is_extended form) part ≡ Ok rows
unfolding stripe_of
whole_read form entry last part rows e =
    let read = agreeing entry part (within part (stripe_at (is_extended form) part)) in
    let front = in_part false fixed64_at (record { whole = part; at = 0 }) in
    let a = bound (unless_not (can_agree entry) 0 entry) (λ _. front >>= λ size. unless_not (div_ceil (8 + size.0) 4096 == entry.pages) 0 size >>= λ _. read >>= λ rows. unless_not (follow last rows) 0 rows) rows e in
    let b = bound front (λ size. unless_not (div_ceil (8 + size.0) 4096 == entry.pages) 0 size >>= λ _. read >>= λ rows. unless_not (follow last rows) 0 rows) rows a.last in
    let c = bound (unless_not (div_ceil (8 + b.value.0) 4096 == entry.pages) 0 b.value) (λ _. read >>= λ rows. unless_not (follow last rows) 0 rows) rows b.last in
    let d = bound read (λ rows. unless_not (follow last rows) 0 rows) rows c.last in
    read_within entry part (stripe_at (is_extended form) part) rows (subst (λ (l : List Row). read ≡ Ok l) {x = d.value} (tested (follow last d.value) 0 d.value rows d.last) d.first)
