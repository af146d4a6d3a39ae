-- A header, both ways.
use Rattle.std.proofs.Common.{◌≡◌, ℕ, zero, suc, ◌+◌, ◌*◌, ◌/◌, ◌%◌, ◌≤◌, min, eqb, List, [], ◌∷◌, ◌++◌, length, take, drop, replicate, Result, Ok, refl, sym, ap, subst, ◌∙◌, arith, append_assoc}
use Rattle.std.specs.List.{AllByRecursion, flat_map}
use Rattle.std.proofs.lemmas.List.{append-nil, drop_at, length-append, length-replicate, take_at}
use Rattle.byte_fields.specs.Reading.{Stand, AreBytes, IsWithin, left, ahead, ◌>>=◌}
use Rattle.byte_fields.proofs.FieldLaws.{left-ahead}
use Rattle.byte_fields.specs.Laws.{Took, read_to}
use Rattle.byte_fields.proofs.Again.{seq, within_ahead}
use Rattle.byte_fields.proofs.Meant.{bound, same_pair, step, took_none, took_then}
use Rattle.block_info.specs.declared.info.StripeInfo.{StripeInfo}
use Rattle.block_format.specs.declared.header.Header.{Header}
use Rattle.block_format.specs.declared.header_reading.Front.{Front}
use Rattle.block_stripes.specs.StripeEncodings.{fill_size, padded}
use Rattle.block_stripes.specs.StripeReadings.{unfilled, unless_some}
use Rattle.block_format.specs.Headers.{AreFromPage, HasMoments, HeaderHolds, IsAtPage, counts_bytes, entry_bytes, fields_bytes, header_pages}
use Rattle.block_format.specs.HeaderReadings.{counts_at, entries_at, entry_at, header_at}
use Rattle.block_format.proofs.HeaderFields.{IsFront, IsGoodEntry, again_counts, again_entry, front_bytes, meant_counts, meant_entry}
use Rattle.block_format.proofs.HeaderSteps.{length-fields}
use Rattle.block_stripes.proofs.StripeLaws.{fill_again, fill_found}

-- ---- entries

ahead_none : (s : Stand) → s ≡ ahead 0 s
ahead_none s = (let none : s.at ≡ s.at + 0 = omega arith in ap (λ (n : ℕ). record { whole = s.whole; at = n }) none)

entries_again : (page : ℕ) (more before : List StripeInfo) (s : Stand) (rest : List ℕ) → s.at ≤ length s.whole → AreFromPage page more → AllByRecursion HasMoments more → left s ≡ flat_map entry_bytes more ++ rest
    → entries_at (length more) page before s ≡ read_to (before ++ more) (ahead (length (flat_map entry_bytes more)) s)
unfolding entries_at
entries_again page [] before s rest is are moments e = ap (λ (l : List StripeInfo). read_to l s) (sym (append-nil before)) ∙ ap (λ (t : Stand). read_to (before ++ []) t) (ahead_none s)
entries_again page (stripe ∷ more) before s rest is are moments e =
    seq (entry_at (eqb (length more) 0) page) entry_bytes (IsGoodEntry (eqb (length more) 0) page) (λ stripe. entries_at (length more) (page + stripe.0.pages) (before ++ stripe.0 ∷ []) stripe.1)
    (again_entry (eqb (length more) 0) page) s is stripe (flat_map entry_bytes more) rest (before ++ stripe ∷ more) (record { place = are.0; moments = moments.0 }) e
    (λ t u f. subst (λ (l : List StripeInfo). entries_at (length more) (page + stripe.pages) (before ++ stripe ∷ []) t ≡ read_to l (ahead (length (flat_map entry_bytes more)) t)) (append_assoc before (stripe ∷ []) more)
    (entries_again (page + stripe.pages) more (before ++ stripe ∷ []) t rest u are.1 moments.1 f))

record EntriesMean (count page : ℕ) (before : List StripeInfo) (s : Stand) (all : List StripeInfo) (t : Stand) : Type 0 where
  more : List StripeInfo
  is : all ≡ before ++ more
  size : length more ≡ count
  bytes : Took (flat_map entry_bytes more) s t
  are : AreFromPage page more
  moments : AllByRecursion HasMoments more

entries_mean : (count page : ℕ) (before : List StripeInfo) (s : Stand) (all : List StripeInfo) (t : Stand) → IsWithin s.whole s.at → entries_at count page before s ≡ Ok (all, t) → EntriesMean count page before s all t
unfolding entries_at
entries_mean zero page before s all t is e =
    let same = same_pair before all s t e in
    subst (λ (v : Stand). EntriesMean zero page before s all v) same.1 (record { more = []; is = sym same.0 ∙ sym (append-nil before); size = refl; bytes = took_none s is; are = tt; moments = tt })
entries_mean (suc count) page before s all t is e =
    step (entry_at (eqb count 0) page) entry_bytes (IsGoodEntry (eqb count 0) page) (λ stripe. entries_at count (page + stripe.0.pages) (before ++ stripe.0 ∷ []) stripe.1) (meant_entry (eqb count 0) page) s is all t
    (EntriesMean (suc count) page before s all t) e (λ stripe u got k.
    let rest = entries_mean count (page + stripe.pages) (before ++ stripe ∷ []) u all t got.bytes.within k in
    record {
      more = stripe ∷ rest.more;
      is = rest.is ∙ append_assoc before (stripe ∷ []) rest.more;
      size = ap suc rest.size;
      bytes = took_then got.bytes rest.bytes;
      are = (subst (λ (n : ℕ). IsAtPage (eqb n 0) page stripe) (sym rest.size) got.fits.place, rest.are);
      moments = (got.fits.moments, rest.moments);
    })

-- ---- the whole

abbrev counts_of : Header → Front
counts_of header = record { form = header.form; pages = header.pages; stripes = length header.stripes; index_pages = header.index_pages; bloom_pages = header.bloom_pages }

front_is : (header : Header) → counts_bytes header ≡ front_bytes (counts_of header)
unfolding counts_bytes
front_is header = refl

filled : {A : Type 0} (t : Stand) (size : ℕ) (x : A) → t.at ≡ size → left t ≡ replicate (fill_size size) 0 → unless_some (unfilled t.at (left t)) x ≡ Ok x
filled t size x at rest =
    ap (λ (l : List ℕ). unless_some (unfilled t.at l) x) rest ∙ ap (λ (k : ℕ). unless_some (unfilled k (replicate (fill_size size) 0)) x) at ∙ fill_again size x

sound_counts : (bytes : List ℕ) (header : Header) → HeaderHolds bytes header → IsFront (counts_of header)
sound_counts bytes header holds = record { form = holds.rules.form; pages = holds.rules.pages; some = holds.rules.some; few = holds.rules.few; index_pages = holds.index_pages; bloom_pages = holds.bloom_pages }

pub again_header : (bytes : List ℕ) (header : Header) → HeaderHolds bytes header → header_at bytes ≡ Ok header
unfolding header_at
again_header bytes header holds =
    let start : Stand = record { whole = bytes; at = 0 } in
    let front = front_bytes (counts_of header) in
    let entries = flat_map entry_bytes header.stripes in
    let fields = fields_bytes header in
    let fill : List ℕ = replicate (fill_size (length fields)) 0 in
    let sound = sound_counts bytes header holds in
    let there : left start ≡ front ++ (entries ++ fill) = holds.bytes_are ∙ append_assoc (counts_bytes header) entries fill ∙ ap (λ (l : List ℕ). l ++ (entries ++ fill)) (front_is header) in
    let first = again_counts start (omega arith) (counts_of header) (entries ++ fill) sound there in
    let t = ahead (length front) start in
    let within : t.at ≤ length t.whole = within_ahead start front (entries ++ fill) (omega arith) there in
    let next : left t ≡ entries ++ fill = left-ahead start front (entries ++ fill) there in
    let second = entries_again header.pages header.stripes [] t fill within holds.rules.stripes holds.moments next in
    let u = ahead (length entries) t in
    let rest : left u ≡ fill = left-ahead t entries fill next in
    let size : length fields ≡ length front + length entries = length-append (counts_bytes header) entries ∙ ap (λ (l : List ℕ). length l + length entries) (front_is header) in
    let end : u.at ≡ length fields = omega (arith, size) in
    rw first (rw second (filled u (length fields) header end rest))

abbrev header_of : Front → List StripeInfo → Header
header_of counts stripes = record { form = counts.form; pages = counts.pages; index_pages = counts.index_pages; bloom_pages = counts.bloom_pages; stripes = stripes }

holds_of : (bytes : List ℕ) (counts : Front) (stripes : List StripeInfo) → IsFront counts → length stripes ≡ counts.stripes → AreFromPage counts.pages stripes → AllByRecursion HasMoments stripes
    → bytes ≡ (front_bytes counts ++ flat_map entry_bytes stripes) ++ replicate (fill_size (length (front_bytes counts ++ flat_map entry_bytes stripes))) 0 → HeaderHolds bytes (header_of counts stripes)
holds_of bytes counts stripes are size from moments is =
    let header = header_of counts stripes in
    let same : front_bytes counts ≡ counts_bytes header =
    ap (λ (n : ℕ). let c : Front = record { form = counts.form; pages = counts.pages; stripes = n; index_pages = counts.index_pages; bloom_pages = counts.bloom_pages } in front_bytes c) (sym size) ∙ sym (front_is header) in
    record {
      rules = record { form = are.form; some = omega (arith, are.some, size); few = omega (arith, are.few, size); pages = are.pages ∙ ap header_pages (sym size); stripes = from };
      index_pages = are.index_pages;
      bloom_pages = are.bloom_pages;
      moments = moments;
      bytes_are = is ∙ ap (λ (l : List ℕ). padded (l ++ flat_map entry_bytes stripes)) same;
    }

pub meant_header : (bytes : List ℕ) (header : Header) → AreBytes bytes → header_at bytes ≡ Ok header → HeaderHolds bytes header
unfolding header_at
meant_header bytes header fit e =
    let start : Stand = record { whole = bytes; at = 0 } in
    let a = bound (counts_at start) (λ counts. entries_at counts.0.stripes counts.0.pages [] counts.1 >>= λ stripes. unless_some (unfilled stripes.1.at (left stripes.1)) (header_of counts.0 stripes.0)) header e in
    let counts = a.value.0 in
    let first = meant_counts start (record { bytes_fit = fit; no_further = omega arith }) counts a.value.1 a.first in
    let b = bound (entries_at counts.stripes counts.pages [] a.value.1) (λ stripes. unless_some (unfilled stripes.1.at (left stripes.1)) (header_of counts stripes.0)) header a.last in
    let t = b.value.1 in
    let found = entries_mean counts.stripes counts.pages [] a.value.1 b.value.0 t first.bytes.within b.first in
    let fill = fill_found t.at (left t) (header_of counts b.value.0) header b.last in
    let text : List ℕ = front_bytes counts ++ flat_map entry_bytes found.more in
    let both = took_then first.bytes found.bytes in
    let place : t.at ≡ 0 + length text = ap (λ (s : Stand). s.at) both.passed.place in
    let end : t.at ≡ length text = omega (arith, place) in
    let whole : bytes ≡ text ++ replicate (fill_size (length text)) 0 =
    both.passed.spelled ∙ ap (λ (l : List ℕ). text ++ l) fill.0 ∙ ap (λ (k : ℕ). text ++ replicate (fill_size k) 0) end in
    subst (λ (h : Header). HeaderHolds bytes h) (ap (header_of counts) (sym found.is) ∙ fill.1) (holds_of bytes counts found.more first.fits found.size found.are found.moments whole)

-- ---- pages

filled_size : (size : ℕ) → size + fill_size size ≡ 4096 * (size / 4096 + min 1 (size % 4096))
filled_size size = omega arith

pub header_size : (bytes : List ℕ) (header : Header) → HeaderHolds bytes header → length bytes ≡ 4096 * header.pages
header_size bytes header holds =
    let fields = fields_bytes header in
    let size = length-fields header in
    ap length holds.bytes_are
    ∙ length-append fields (replicate (fill_size (length fields)) 0)
    ∙ ap (λ (k : ℕ). length fields + k) (length-replicate (fill_size (length fields)) 0)
    ∙ filled_size (length fields)
    ∙ ap (λ (k : ℕ). 4096 * (k / 4096 + min 1 (k % 4096))) size
    ∙ ap (λ (k : ℕ). 4096 * k) (sym holds.rules.pages)

same_ok : (a b : Header) → (let r : Result Header ℕ = Ok a in let q : Result Header ℕ = Ok b in r ≡ q) → a ≡ b
same_ok a b e = cc

pub same_header : (bytes : List ℕ) (header other : Header) → HeaderHolds bytes header → HeaderHolds bytes other → header ≡ other
same_header bytes header other holds other_holds = same_ok header other (sym (again_header bytes header holds) ∙ again_header bytes other other_holds)

-- ---- a header and what follows

pub cut : (a b x y : List ℕ) → length a ≡ length b → a ++ x ≡ b ++ y → (a ≡ b) × (x ≡ y)
cut a b x y same e = (
  sym (take_at a x (length a) refl) ∙ ap (take (length a)) e ∙ take_at b y (length a) (sym same),
  sym (drop_at a x (length a) refl) ∙ ap (drop (length a)) e ∙ drop_at b y (length a) (sym same),
)

-- the first fields are read whatever follows the header
front_read : (bytes front rest : List ℕ) (header : Header) → HeaderHolds front header → bytes ≡ front ++ rest
    → counts_at (record { whole = bytes; at = 0 }) ≡ read_to (counts_of header) (ahead (length (front_bytes (counts_of header))) (record { whole = bytes; at = 0 }))
front_read bytes front rest header holds is =
    let fields = counts_bytes header in
    let entries = flat_map entry_bytes header.stripes in
    let fill : List ℕ = replicate (fill_size (length (fields_bytes header))) 0 in
    let whole : bytes ≡ front_bytes (counts_of header) ++ ((entries ++ fill) ++ rest) =
    is
    ∙ ap (λ (l : List ℕ). l ++ rest) (holds.bytes_are ∙ append_assoc fields entries fill)
    ∙ append_assoc fields (entries ++ fill) rest
    ∙ ap (λ (l : List ℕ). l ++ ((entries ++ fill) ++ rest)) (front_is header) in
    again_counts (record { whole = bytes; at = 0 }) (omega arith) (counts_of header) ((entries ++ fill) ++ rest) (sound_counts front header holds) whole

-- One header begins the bytes, whatever follows it.
pub one_front : (bytes a b x y : List ℕ) (header other : Header) → HeaderHolds a header → HeaderHolds b other → bytes ≡ a ++ x → bytes ≡ b ++ y → (header ≡ other) × (x ≡ y)
one_front bytes a b x y header other holds other_holds is other_is =
    let start : Stand = record { whole = bytes; at = 0 } in
    let counts = same_pair (counts_of header) (counts_of other) (ahead (length (front_bytes (counts_of header))) start) (ahead (length (front_bytes (counts_of other))) start)
    (sym (front_read bytes a x header holds is) ∙ front_read bytes b y other other_holds other_is) in
    let pages : header.pages ≡ other.pages = ap (λ (c : Front). c.pages) counts.0 in
    let size : length a ≡ length b = header_size a header holds ∙ ap (λ (k : ℕ). 4096 * k) pages ∙ sym (header_size b other other_holds) in
    let parts = cut a b x y size (sym is ∙ other_is) in
    (same_header a header other holds (subst (λ (l : List ℕ). HeaderHolds l other) (sym parts.0) other_holds), parts.1)
