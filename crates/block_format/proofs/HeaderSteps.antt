-- What the calls that read and write a header come to.
use Rattle.std.proofs.Common.{◌≡◌, ℕ, suc, ◌+◌, ◌-◌, ◌*◌, ◌<◌, eqb, List, [], ◌∷◌, ◌++◌, length, replicate, Result, Ok, Err, refl, sym, ap, ◌∙◌, arith, append_assoc}
use Rattle.std.specs.Prelude.{OnOk}
use Rattle.std.specs.List.{flat_map}
use Rattle.std.proofs.lemmas.Bool.Decides.{nat_tests}
use Rattle.std.proofs.lemmas.List.{length-append}
use Rattle.byte_fields.specs.Reading.{Stand}
use Rattle.byte_fields.specs.Breaks.{Fails}
use Rattle.byte_fields.specs.declared.breaks.Break.{Break}
use Rattle.byte_fields.specs.declared.breaks.Break.TheVariants as breaks
use Rattle.block_info.specs.declared.info.StripeInfo.{StripeInfo}
use Rattle.block_format.specs.declared.header.Header.{Header}
use Rattle.block_stripes.specs.StripeEncodings.{fill_size}
use Rattle.block_format.specs.Headers.{counts_bytes, entry_bytes, fields_bytes, header_bytes}
use Rattle.block_format.specs.HeaderReadings.{entries_at, entry_at}

-- ---- reading entries

-- the rest of the entries is one entry and the rest
pub entries_next : (count left page : ℕ) (before : List StripeInfo) (s t : Stand) (stripe : StripeInfo) → count ≡ suc left → entry_at (eqb left 0) page s ≡ Ok (stripe, t)
    → entries_at count page before s ≡ entries_at left (page + stripe.pages) (before ++ stripe ∷ []) t
unfolding entries_at
entries_next count left page before s t stripe is read = rw (is, read) refl

entries_stop : (count left page : ℕ) (before : List StripeInfo) (s : Stand) (at : ℕ) → count ≡ suc left → entry_at (eqb left 0) page s ≡ Err at → entries_at count page before s ≡ Err at
unfolding entries_at
entries_stop count left page before s at is read = rw (is, read) refl

pub entries_end : (count page : ℕ) (before : List StripeInfo) (s : Stand) → count ≡ 0 → entries_at count page before s ≡ Ok (before, s)
unfolding entries_at
entries_end count page before s is = rw is refl

-- an entry that can't be read ends the reading of all
pub entries_fail : (e : Break) (count left page : ℕ) (before : List StripeInfo) (s : Stand) (whole : Result (List StripeInfo × Stand) ℕ) → count ≡ suc left → Fails e (entry_at (eqb left 0) page s)
    → entries_at count page before s ≡ whole → Fails e whole
entries_fail breaks.Memory count left page before s whole is fails same = tt
entries_fail (breaks.At at) count left page before s whole is fails same = sym same ∙ entries_stop count left page before s at is fails

-- the last entry is the one that leaves none
pub last_is : (index count left : ℕ) → index < count → left ≡ count - (index + 1) → eqb (index + 1) count ≡ eqb left 0
last_is index count left inside is = grind (arith, nat_tests)

-- ---- sizes

length-counts : (header : Header) → length (counts_bytes header) ≡ 20
unfolding counts_bytes
length-counts header = refl

length-entry : (stripe : StripeInfo) → length (entry_bytes stripe) ≡ 32
unfolding entry_bytes
length-entry stripe = refl

pub length-entries : (stripes : List StripeInfo) → length (flat_map entry_bytes stripes) ≡ 32 * length stripes
length-entries [] = refl
length-entries (stripe ∷ stripes) = omega (arith, length-append (entry_bytes stripe) (flat_map entry_bytes stripes), length-entries stripes, length-entry stripe)

pub length-fields : (header : Header) → length (fields_bytes header) ≡ 20 + 32 * length header.stripes
length-fields header = omega (arith, length-append (counts_bytes header) (flat_map entry_bytes header.stripes), length-counts header, length-entries header.stripes)

-- ---- fields one after another

pub wrote_four : {T E : Type 0} (r : Result T E) (old a b c d one two three new : List ℕ) → one ≡ old ++ a → two ≡ one ++ b → three ≡ two ++ c → OnOk r (new ≡ three ++ d) → OnOk r (new ≡ old ++ (a ++ (b ++ (c ++ d))))
wrote_four (Err e) old a b c d one two three new p q s last = tt
wrote_four (Ok x) old a b c d one two three new p q s last =
    last
    ∙ ap (λ (l : List ℕ). l ++ d) (s ∙ ap (λ (l : List ℕ). l ++ c) (q ∙ ap (λ (l : List ℕ). l ++ b) p))
    ∙ append_assoc ((old ++ a) ++ b) c d
    ∙ append_assoc (old ++ a) b (c ++ d)
    ∙ append_assoc old a (b ++ (c ++ d))

pub wrote_five : {T E : Type 0} (r : Result T E) (old a b c d e one two three four new : List ℕ) → one ≡ old ++ a → two ≡ one ++ b → three ≡ two ++ c → four ≡ three ++ d → OnOk r (new ≡ four ++ e)
    → OnOk r (new ≡ old ++ (a ++ (b ++ (c ++ (d ++ e)))))
wrote_five r old a b c d e one two three four new p q s t last = wrote_more r (wrote_four r one b c d e two three four new q s t last) p
  where
    wrote_more : {T E : Type 0} (r : Result T E) → OnOk r (new ≡ one ++ (b ++ (c ++ (d ++ e)))) → one ≡ old ++ a → OnOk r (new ≡ old ++ (a ++ (b ++ (c ++ (d ++ e)))))
    wrote_more (Err e) last p = tt
    wrote_more (Ok x) last p = last ∙ ap (λ (l : List ℕ). l ++ (b ++ (c ++ (d ++ e)))) p ∙ append_assoc old a (b ++ (c ++ (d ++ e)))

pub header_written : (header : Header) (stripes : List StripeInfo) (size : ℕ) (one two three new : List ℕ) → stripes ≡ header.stripes → size ≡ 20 + 32 * length stripes → one ≡ counts_bytes header → two ≡ one ++ flat_map entry_bytes stripes
    → three ≡ two ++ replicate (fill_size size) 0 → new ≡ three → new ≡ header_bytes header
header_written header stripes size one two three new same count p q s end =
    let entries : two ≡ fields_bytes header = q ∙ ap (λ (l : List ℕ). l ++ flat_map entry_bytes stripes) p ∙ ap (λ (l : List StripeInfo). counts_bytes header ++ flat_map entry_bytes l) same in
    let long : size ≡ length (fields_bytes header) = count ∙ ap (λ (l : List StripeInfo). 20 + 32 * length l) same ∙ sym (length-fields header) in
    end ∙ s ∙ ap (λ (l : List ℕ). l ++ replicate (fill_size size) 0) entries ∙ ap (λ (k : ℕ). fields_bytes header ++ replicate (fill_size k) 0) long
