-- Stripe by stripe, the rows are read.
use Rattle.std.proofs.Common.{◌≡◌, ℕ, zero, suc, ◌+◌, ◌*◌, ◌<◌, ◌≤◌, ◌^◌, min, List, [], ◌∷◌, ◌++◌, length, drop, get_or, Option, Result, Ok, Err, append_assoc, refl, sym, ap, ◌∙◌, arith}
use Rattle.std.proofs.lemmas.List.{append-nil, drop_all, drop_more}
use Rattle.span_types.specs.declared.spans.Row.{Row}
use Rattle.byte_fields.specs.declared.breaks.Break.{Break}
use Rattle.byte_fields.specs.declared.breaks.Break.TheVariants as breaks
use Rattle.byte_fields.specs.Breaks.{Fails}
use Rattle.byte_fields.specs.Reading.{◌>>=◌}
use Rattle.block_info.specs.declared.info.StripeInfo.{StripeInfo}
use Rattle.block_format.specs.Headers.{AreFromPage}
use Rattle.block_read.specs.Answers.{made_of}
use Rattle.block_read.specs.BlockReadings.{in_file, last_of, stripe_of, stripes_of}
use Rattle.block_read.specs.Files.{part_of}

-- the rows so far, and those of the stripes that are left
abbrev pub with_later : List Row → Result (List Row) ℕ → Result (List Row) ℕ
with_later rows later = made_of (λ more. rows ++ more) later

joined_later : (rows found : List Row) (later : Result (List Row) ℕ) → with_later rows (later >>= λ more. Ok (found ++ more)) ≡ with_later (rows ++ found) later
joined_later rows found (Ok more) = ap (λ (l : List Row). (let r : Result (List Row) ℕ = Ok l in r)) (sym (append_assoc rows found more))
joined_later rows found (Err at) = refl

-- the stripe with that number, and those after it
at_stripe : (stripes : List StripeInfo) (i : ℕ) (d entry : StripeInfo) → i < length stripes → entry ≡ get_or stripes i d → drop i stripes ≡ entry ∷ drop (i + 1) stripes
at_stripe stripes i d entry low is = drop_more stripes i d low ∙ ap (λ (e : StripeInfo). e ∷ drop (i + 1) stripes) (sym is)

pub walk_more : (form : ℕ) (stripes : List StripeInfo) (i : ℕ) (d entry : StripeInfo) (last : Option Row) (bytes : List ℕ) (rows found new : List Row) (next : Option Row) (whole : Result (List Row) ℕ) → i < length stripes → entry ≡ get_or stripes i d
    → in_file (4096 * entry.page) (part_of entry.page entry.pages bytes) (stripe_of form entry last (part_of entry.page entry.pages bytes)) ≡ Ok found → next ≡ last_of found → new ≡ rows ++ found
    → with_later rows (stripes_of form (drop i stripes) last bytes) ≡ whole → with_later new (stripes_of form (drop (i + 1) stripes) next bytes) ≡ whole
unfolding stripes_of
walk_more form stripes i d entry last bytes rows found new next whole low is read next_is new_is so_far =
    let rest = drop (i + 1) stripes in
    let later = stripes_of form rest (last_of found) bytes in
    let step : stripes_of form (drop i stripes) last bytes ≡ (later >>= λ more. Ok (found ++ more)) = ap (λ (l : List StripeInfo). stripes_of form l last bytes) (at_stripe stripes i d entry low is) ∙ rw read refl in
    ap (λ (o : Option Row). with_later new (stripes_of form rest o bytes)) next_is ∙ ap (λ (l : List Row). with_later l later) new_is
    ∙ sym (joined_later rows found later) ∙ sym (ap (with_later rows) step) ∙ so_far

pub walk_fails : (error : Break) (form : ℕ) (stripes : List StripeInfo) (i : ℕ) (d entry : StripeInfo) (last : Option Row) (bytes : List ℕ) (rows : List Row) (whole : Result (List Row) ℕ) → i < length stripes → entry ≡ get_or stripes i d
    → Fails error (in_file (4096 * entry.page) (part_of entry.page entry.pages bytes) (stripe_of form entry last (part_of entry.page entry.pages bytes))) → with_later rows (stripes_of form (drop i stripes) last bytes) ≡ whole → Fails error whole
unfolding stripes_of
walk_fails breaks.Memory form stripes i d entry last bytes rows whole low is fails so_far = tt
walk_fails (breaks.At at) form stripes i d entry last bytes rows whole low is fails so_far =
    sym so_far ∙ ap (λ (l : List StripeInfo). with_later rows (stripes_of form l last bytes)) (at_stripe stripes i d entry low is) ∙ rw fails refl

pub walk_ends : (form : ℕ) (stripes : List StripeInfo) (i : ℕ) (last : Option Row) (bytes : List ℕ) (rows : List Row) (whole : Result (List Row) ℕ) → length stripes ≤ i
    → with_later rows (stripes_of form (drop i stripes) last bytes) ≡ whole → whole ≡ Ok rows
unfolding stripes_of
walk_ends form stripes i last bytes rows whole high so_far =
    sym so_far ∙ ap (λ (l : List StripeInfo). with_later rows (stripes_of form l last bytes)) (drop_all i stripes high) ∙ ap (λ (l : List Row). (let r : Result (List Row) ℕ = Ok l in r)) (append-nil rows)

pub walk_begins : (whole : Result (List Row) ℕ) → with_later [] whole ≡ whole
walk_begins (Ok rows) = refl
walk_begins (Err at) = refl

-- ---- where stripes are

pub near_page : (page : ℕ) (stripes : List StripeInfo) (i : ℕ) (d entry : StripeInfo) → AreFromPage page stripes → i < length stripes → entry ≡ get_or stripes i d → entry.page ≤ 2 ^ 51
near_page page [] i d entry from low is = absurd (omega (arith, low))
near_page page (stripe ∷ stripes) zero d entry from low is =
    let begins = from.0.begins in
    let ends = from.0.ends in
    let same : entry.page ≡ stripe.page = ap (λ (e : StripeInfo). e.page) is in
    omega (arith, same, begins, ends)
near_page page (stripe ∷ stripes) (suc i) d entry from low is = near_page (page + stripe.pages) stripes i d entry from.1 (omega (arith, low)) is

-- ---- a break in a part

pub placed : (base : ℕ) (part : List ℕ) (at new : ℕ) (read : Result (List Row) ℕ) → read ≡ Err at → new ≡ base + min at (length part) → in_file base part read ≡ Err new
placed base part at new read e is = ap (in_file base part) e ∙ ap (λ (k : ℕ). (let r : Result (List Row) ℕ = Err k in r)) (sym is)
