-- A block's information as contracts see it: its parts, none of which reaches page 2^52.
use Rattle.std.specs.Prelude.{ℕ, ◌+◌, ◌^◌, ◌<◌, List}
use Rattle.std.specs.List.{AllByRecursion}
use Rattle.block_info.specs.declared.info.StripeInfo.{StripeInfo}

pub record InfoParts : Type 0 where
  pub file : ℕ
  pub level : ℕ
  pub form : ℕ
  pub rows : ℕ
  pub pages : ℕ
  pub index_page : ℕ
  pub index_pages : ℕ
  pub bloom_page : ℕ
  pub bloom_pages : ℕ
  pub stripes : List StripeInfo

-- no part reaches page 2^52
abbrev pub IsInReach : ℕ → ℕ → ℕ → ℕ → ℕ → List StripeInfo → Type 0
IsInReach pages index_page index_pages bloom_page bloom_pages stripes =
    (pages < 2 ^ 52) × (index_page + index_pages < 2 ^ 52) × (bloom_page + bloom_pages < 2 ^ 52)
    × AllByRecursion (λ (stripe : StripeInfo). stripe.page + stripe.pages < 2 ^ 52) stripes
