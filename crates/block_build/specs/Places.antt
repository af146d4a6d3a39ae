-- ---- for private clauses: where the stripes of a block are
use Rattle.std.specs.Prelude.{ℕ, ◌+◌, List, [], ◌∷◌}
use Rattle.block_info.specs.declared.info.StripeInfo.{StripeInfo}

abbrev pub at_page : ℕ → StripeInfo → StripeInfo
at_page page stripe = record { page = page; pages = stripe.pages; rows = stripe.rows; earliest = stripe.earliest; latest = stripe.latest }

-- the same entries, of which the first begins at that page, and each other one where the one before it ends
abbrev pub placed : ℕ → List StripeInfo → List StripeInfo
placed page [] = []
placed page (stripe ∷ stripes) = at_page page stripe ∷ placed (page + stripe.pages) stripes
