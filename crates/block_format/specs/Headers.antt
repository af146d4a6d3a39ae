-- The header of a block: its bytes, and the rules that its numbers meet.
use Rattle.std.specs.Prelude.{◌≡◌, ◌⊎◌, ℕ, ◌+◌, ◌*◌, ◌<◌, ◌≤◌, ◌^◌, ◌==◌, Bool, true, false, List, [], ◌∷◌, ◌++◌, length, Result, Ok, Err}
use Rattle.std.specs.Int.{div_ceil}
use Rattle.std.specs.List.{AllByRecursion, flat_map}
use Rattle.byte_fields.specs.Spelling.{fixed32_bytes, fixed64_bytes}
use Rattle.byte_fields.specs.Sound.{IsBelow64}
use Rattle.block_info.specs.declared.info.StripeInfo.{StripeInfo}
use Rattle.block_stripes.specs.declared.error.FormatError.{FormatError}
use Rattle.block_stripes.specs.declared.error.FormatError.TheVariants.{NotBlock, Memory}
use Rattle.block_format.specs.declared.header.Header.{Header}
use Rattle.block_stripes.specs.StripeEncodings.{padded}

-- ---- bytes

-- the fewest pages that hold the fields of a header of so many stripes
abbrev pub header_pages : ℕ → ℕ
header_pages stripes = div_ceil (20 + 32 * stripes) 4096

-- `TSB` and the digit of the form
abbrev pub form_bytes : ℕ → List ℕ
form_bytes form = 84 ∷ 83 ∷ 66 ∷ (48 + form) ∷ []

-- the form, and how many pages and stripes there are
unfoldable pub counts_bytes : Header → List ℕ
counts_bytes header =
    form_bytes header.form
    ++ (fixed32_bytes header.pages ++ (fixed32_bytes (length header.stripes) ++ (fixed32_bytes header.index_pages ++ fixed32_bytes header.bloom_pages)))

-- the entry of a stripe
unfoldable pub entry_bytes : StripeInfo → List ℕ
entry_bytes stripe = fixed64_bytes stripe.pages ++ (fixed64_bytes stripe.rows ++ (fixed64_bytes stripe.earliest ++ fixed64_bytes stripe.latest))

abbrev pub fields_bytes : Header → List ℕ
fields_bytes header = counts_bytes header ++ flat_map entry_bytes header.stripes

-- with zeros up to a whole page
abbrev pub header_bytes : Header → List ℕ
header_bytes header = padded (fields_bytes header)

-- ---- rules

-- every stripe but the last has 256 rows, and the last has 1 to 256
abbrev pub HasRows : Bool → ℕ → Type 0
HasRows true rows = (1 ≤ rows) × (rows ≤ 256)
HasRows false rows = rows ≡ 256

-- a stripe that begins at that page and ends at page 2^51 at most
pub record IsAtPage (last : Bool) (page : ℕ) (stripe : StripeInfo) : Type 0 where
  pub begins : stripe.page ≡ page
  pub ends : page + stripe.pages ≤ 2 ^ 51
  pub rows : HasRows last stripe.rows

-- stripes of which the first begins at that page, and each other one where the one before it ends
abbrev pub AreFromPage : ℕ → List StripeInfo → Type 0
AreFromPage page [] = Unit {0}
AreFromPage page (stripe ∷ stripes) = IsAtPage (length stripes == 0) page stripe × AreFromPage (page + stripe.pages) stripes

-- A header that can be written: what its type doesn't promise.
pub record CanBeHeader (header : Header) : Type 0 where
  pub form : (header.form ≡ 1) ⊎ (header.form ≡ 2)
  pub some : 1 ≤ length header.stripes
  pub few : length header.stripes ≤ 4096
  pub pages : header.pages ≡ header_pages (length header.stripes)
  pub stripes : AreFromPage header.pages header.stripes

-- the moments of a stripe's entry, which its type promises to fit
abbrev pub HasMoments : StripeInfo → Type 0
HasMoments stripe = IsBelow64 stripe.earliest × IsBelow64 stripe.latest

-- the bytes of a header stand for this one
pub record HeaderHolds (bytes : List ℕ) (header : Header) : Type 0 where
  pub rules : CanBeHeader header
  pub index_pages : header.index_pages < 2 ^ 32
  pub bloom_pages : header.bloom_pages < 2 ^ 32
  pub moments : AllByRecursion HasMoments header.stripes
  pub bytes_are : bytes ≡ header_bytes header

-- What a call answers is what reading gives: a header, or the first offset at which the bytes are malformed; or memory ran out.
abbrev pub ReadsHeader : Result Header FormatError → Result Header ℕ → Type 0
ReadsHeader (Ok header) read = read ≡ Ok header
ReadsHeader (Err (NotBlock at)) read = read ≡ Err at
ReadsHeader (Err Memory) read = Unit {0}
