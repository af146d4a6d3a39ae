use Rattle.std.proofs.Common.{◌≡◌, List, Result, Ok, ℕ, sym, ◌∙◌}
use Rattle.span_types.specs.declared.spans.Row.{Row}
use Rattle.block_stripes.specs.Stripes.{StripeHolds, is_extended}
use Rattle.block_stripes.proofs.StripeLaws.{again_stripe}
use Rattle.block_stripes.proofs.laws.one_meaning.Goals as goal

same : (a b : List Row) → (let r : Result (List Row) ℕ = Ok a in let q : Result (List Row) ℕ = Ok b in r ≡ q) → a ≡ b
same a b e = cc

pub returns : goal.returns
returns c = λ form bytes rows others one two.
    let extended = is_extended form in
    same rows others (sym (again_stripe extended bytes rows one.bytes_fit one.rows_are one.bytes_are) ∙ again_stripe extended bytes others two.bytes_fit two.rows_are two.bytes_are)
