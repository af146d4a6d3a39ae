-- The stripes of a block, both ways.
use Rattle.std.proofs.Common.{◌≡◌, ℕ, ◌+◌, ◌-◌, ◌*◌, ◌≤◌, Bool, true, false, eqb, List, [], ◌∷◌, ◌++◌, length, take, drop, replicate, Option, Some, None, Result, Ok, Err, append_assoc, inl, inr, refl, sym, ap, subst, ◌∙◌, arith}
use Rattle.std.specs.Int.{div_ceil}
use Rattle.std.specs.Prelude.{sum_by}
use Rattle.std.proofs.lemmas.Bool.{cases_lt, eq-eqb, eqb-true}
use Rattle.std.proofs.lemmas.List.{drop-drop, drop-take, drop_at, get_or-drop, get_or-take, get_or_past, length-append, length-drop, length-replicate, length-take, take-append-drop, take-append-le, take-take, take_at}
use Rattle.std.proofs.lemmas.List.Sums.{sum_by-cons}
use Rattle.span_types.specs.declared.spans.Row.{Row}
use Rattle.byte_fields.specs.Spelling.{fixed64_bytes}
use Rattle.byte_fields.specs.Reading.{Stand, AreBytes, ahead, ◌>>=◌, fixed64_at}
use Rattle.byte_fields.specs.Breaks.{in_part}
use Rattle.byte_fields.proofs.Again.{again_fixed64}
use Rattle.byte_fields.proofs.Meant.{bound}
use Rattle.block_info.specs.declared.info.StripeInfo.{StripeInfo}
use Rattle.block_format.specs.Blocks.{StripeHasEntry, StripesHaveEntries}
use Rattle.block_format.specs.Headers.{AreFromPage}
use Rattle.block_stripes.specs.StripeEncodings.{after_length, content_bytes, fill_size, stripe_bytes}
use Rattle.block_stripes.specs.StripeReadings.{ascend, stripe_at}
use Rattle.block_stripes.specs.Stripes.{AreStripe, is_extended}
use Rattle.block_stripes.proofs.StripeLaws.{again_stripe, meant_stripe}
use Rattle.block_read.specs.BlockReadings.{agreeing, agrees, can_agree, follow, in_file, last_of, starts, stripe_of, stripes_of, unless_not, within}
use Rattle.block_read.specs.Files.{part_of}
use Rattle.block_read.proofs.StripesAgree.{Agree, agree_means, agree_passes, agreed_can, follow_front, follow_more, joined, later_ascend, parted}

-- ---- tests

pub passed : {A : Type 0} (b : Bool) (at : ℕ) (x : A) → b ≡ true → unless_not b at x ≡ Ok x
passed true at x e = refl
passed false at x e = cc

pub record Tested {A : Type 0} (b : Bool) (x y : A) : Type 0 where
  pub holds : b ≡ true
  pub same : x ≡ y

pub tested : {A : Type 0} (b : Bool) (at : ℕ) (x y : A) → unless_not b at x ≡ Ok y → Tested b x y
tested true at x y e = record { holds = refl; same = cc }
tested false at x y e = absurd (cc)

-- ---- one stripe

record Sized (part : List ℕ) : Type 0 where
  size : ℕ × Stand
  read : in_part false fixed64_at (record { whole = part; at = 0 }) ≡ Ok size
  pages : length part ≡ 4096 * div_ceil (8 + size.0) 4096

sized : (extended : Bool) (part : List ℕ) (rows : List Row) → AreStripe extended rows → part ≡ stripe_bytes extended rows → Sized part
unfolding stripe_bytes
sized extended part rows are is =
    let content = content_bytes extended rows in
    let n = length content in
    let text = after_length content in
    let fill : List ℕ = replicate (fill_size (length text)) 0 in
    let long : length text ≡ 8 + n = length-append (fixed64_bytes n) content in
    let start : Stand = record { whole = part; at = 0 } in
    let first = again_fixed64 false start (omega arith) n (content ++ fill) are.short (is ∙ append_assoc (fixed64_bytes n) content fill) in
    let whole : length part ≡ length text + fill_size (length text) = ap length is ∙ length-append text fill ∙ ap (λ (k : ℕ). length text + k) (length-replicate {A = ℕ} (fill_size (length text)) 0) in
    record { size = (n, ahead (length (fixed64_bytes n)) start); read = first; pages = omega (arith, whole, long) }

-- a stripe by itself is read as its rows
pub part_read : (form : ℕ) (entry : StripeInfo) (part : List ℕ) (rows : List Row) → StripeHasEntry form entry part rows → stripe_at (is_extended form) part ≡ Ok rows
part_read form entry part rows has = again_stripe (is_extended form) part rows has.holds.bytes_fit has.holds.rows_are has.holds.bytes_are

pub stripe_again : (form : ℕ) (entry : StripeInfo) (last : Option Row) (part : List ℕ) (rows : List Row) → StripeHasEntry form entry part rows → follow last rows ≡ true → stripe_of form entry last part ≡ Ok rows
unfolding stripe_of
stripe_again form entry last part rows has behind =
    let extended = is_extended form in
    let s = sized extended part rows has.holds.rows_are has.holds.bytes_are in
    let pages : div_ceil (8 + s.size.0) 4096 ≡ entry.pages = (let a = s.pages in let b = has.pages in omega (arith, a, b)) in
    let first = passed (eqb (div_ceil (8 + s.size.0) 4096) entry.pages) 0 s.size (eq-eqb (div_ceil (8 + s.size.0) 4096) entry.pages pages) in
    let read = part_read form entry part rows has in
    let are : Agree entry rows = record { count = has.count; earliest = has.earliest; latest = has.latest } in
    let agree = agree_passes entry rows are in
    let same : agreeing entry part (within part (stripe_at extended part)) ≡ Ok rows = ap (λ (r : Result (List Row) ℕ). agreeing entry part (within part r)) read ∙ passed (agrees entry (starts rows)) 0 rows agree in
    let whole = passed (follow last rows) 0 rows behind in
    let can = passed (can_agree entry) 0 entry (agreed_can entry rows are) in
    rw (can, s.read, first, same, whole) refl

within_ok : {A : Type 0} (part : List ℕ) (r : Result A ℕ) (x : A) → within part r ≡ Ok x → r ≡ Ok x
within_ok part (Ok y) x e = e
within_ok part (Err at) x e = absurd (cc)

-- the rows that were read agree with the entry
record Agreed (entry : StripeInfo) (read : Result (List Row) ℕ) (rows : List Row) : Type 0 where
  found : read ≡ Ok rows
  holds : agrees entry (starts rows) ≡ true

agreed : (entry : StripeInfo) (part : List ℕ) (read : Result (List Row) ℕ) (rows : List Row) → agreeing entry part read ≡ Ok rows → Agreed entry read rows
agreed entry part (Ok some) rows e =
    let t = tested (agrees entry (starts some)) 0 some rows e in
    subst (Agreed entry (Ok some)) t.same (record { found = refl; holds = t.holds })
agreed entry part (Err at) rows e = absurd (cc)

record StripeMeans (form : ℕ) (entry : StripeInfo) (last : Option Row) (part : List ℕ) (rows : List Row) : Type 0 where
  has : StripeHasEntry form entry part rows
  behind : follow last rows ≡ true

stripe_means : (form : ℕ) (entry : StripeInfo) (last : Option Row) (part : List ℕ) (rows : List Row) → AreBytes part → stripe_of form entry last part ≡ Ok rows → StripeMeans form entry last part rows
unfolding stripe_of
stripe_means form entry last part rows fit e =
    let extended = is_extended form in
    let start : Stand = record { whole = part; at = 0 } in
    let read = within part (stripe_at extended part) in
    let o = bound (unless_not (can_agree entry) 0 entry) (λ _. in_part false fixed64_at start >>= λ size. unless_not (eqb (div_ceil (8 + size.0) 4096) entry.pages) 0 size >>= λ _. agreeing entry part read >>= λ rows. unless_not (follow last rows) 0 rows) rows e in
    let a = bound (in_part false fixed64_at start) (λ size. unless_not (eqb (div_ceil (8 + size.0) 4096) entry.pages) 0 size >>= λ _. agreeing entry part read >>= λ rows. unless_not (follow last rows) 0 rows) rows o.last in
    let size = a.value in
    let b = bound (unless_not (eqb (div_ceil (8 + size.0) 4096) entry.pages) 0 size) (λ _. agreeing entry part read >>= λ rows. unless_not (follow last rows) 0 rows) rows a.last in
    let same_pages = tested (eqb (div_ceil (8 + size.0) 4096) entry.pages) 0 size b.value b.first in
    let c = bound (agreeing entry part read) (λ rows. unless_not (follow last rows) 0 rows) rows b.last in
    let found = c.value in
    let t = tested (follow last found) 0 found rows c.last in
    let own = agreed entry part read found c.first in
    let agree = agree_means entry found own.holds in
    let is = meant_stripe extended part found fit (within_ok part (stripe_at extended part) found own.found) in
    let s = sized extended part found is.0 is.1 in
    let one : s.size ≡ size = (let same : (let r : Result (ℕ × Stand) ℕ = Ok s.size in let q : Result (ℕ × Stand) ℕ = Ok size in r ≡ q) = sym s.read ∙ a.first in cc) in
    let count : length part ≡ 4096 * div_ceil (8 + size.0) 4096 = s.pages ∙ ap (λ (x : ℕ × Stand). 4096 * div_ceil (8 + x.0) 4096) one in
    let pages : length part ≡ 4096 * entry.pages = count ∙ ap (λ (k : ℕ). 4096 * k) (eqb-true (div_ceil (8 + size.0) 4096) entry.pages same_pages.holds) in
    subst (StripeMeans form entry last part) t.same (record {
      has = record {
        holds = record { rows_are = is.0; bytes_fit = fit; bytes_are = is.1 };
        pages = pages;
        count = agree.count;
        earliest = agree.earliest;
        latest = agree.latest;
      };
      behind = t.holds;
    })

-- ---- all stripes

in_file_ok : {A : Type 0} (base : ℕ) (part : List ℕ) (r : Result A ℕ) (x : A) → in_file base part r ≡ Ok x → r ≡ Ok x
in_file_ok base part (Ok y) x e = e
in_file_ok base part (Err at) x e = absurd (cc)

pub stripes_again : (form page : ℕ) (stripes : List StripeInfo) (last : Option Row) (bytes body tail : List ℕ) (rows : List Row) → AreFromPage page stripes → drop (4096 * page) bytes ≡ body ++ tail
    → StripesHaveEntries form stripes body rows → ascend rows ≡ true → follow last rows ≡ true → stripes_of form stripes last bytes ≡ Ok rows
unfolding stripes_of
stripes_again form page [] last bytes body tail rows from there have order behind = ap (λ (l : List Row). (let r : Result (List Row) ℕ = Ok l in r)) (sym have.1)
stripes_again form page (entry ∷ entries) last bytes body tail rows from there have order behind =
    let n = 4096 * entry.pages in
    let part = part_of entry.page entry.pages bytes in
    let front = take n body in
    let size : length front ≡ n = have.0.pages in
    let fits : n ≤ length body = omega (arith, size, length-take n body) in
    let at : 4096 * entry.page ≡ 4096 * page = ap (λ (k : ℕ). 4096 * k) from.0.begins in
    let behind_it : drop (4096 * entry.page) bytes ≡ body ++ tail = ap (λ (k : ℕ). drop k bytes) at ∙ there in
    let here : part ≡ front = ap (take n) behind_it ∙ take-append-le n body tail fits in
    let some = take entry.rows rows in
    let more = drop entry.rows rows in
    let first = stripe_again form entry last front some have.0 (follow_front last entry.rows rows behind) in
    let read : in_file (4096 * entry.page) part (stripe_of form entry last part) ≡ Ok some =
    ap (λ (l : List ℕ). in_file (4096 * entry.page) part (stripe_of form entry last l)) here ∙ ap (in_file (4096 * entry.page) part) first in
    let step : 4096 * (page + entry.pages) ≡ 4096 * page + n = omega arith in
    let next : drop (4096 * (page + entry.pages)) bytes ≡ drop n body ++ tail =
    ap (λ (k : ℕ). drop k bytes) step ∙ sym (drop-drop n (4096 * page) bytes) ∙ ap (drop n) there ∙ ap (λ (l : List ℕ). drop n (l ++ tail)) (sym (take-append-drop n body))
    ∙ ap (drop n) (append_assoc front (drop n body) tail) ∙ drop_at front (drop n body ++ tail) n size in
    let later = stripes_again form (page + entry.pages) entries (last_of some) bytes (drop n body) tail more from.1 next have.1 (later_ascend entry.rows rows order) (parted entry.rows rows order) in
    rw (read, later) (ap (λ (l : List Row). (let r : Result (List Row) ℕ = Ok l in r)) (take-append-drop entry.rows rows))

fit_take : (n : ℕ) (bytes : List ℕ) → AreBytes bytes → AreBytes (take n bytes)
fit_take n bytes fit i =
    elim (cases_lt i n) [
      | inl lt ↦ rw (get_or-take n bytes i 0 lt) (fit i)
      | inr le ↦ rw (get_or_past (take n bytes) i 0 (omega (arith, length-take n bytes))) (omega arith)
    ]

pub fit_part : (n m : ℕ) (bytes : List ℕ) → AreBytes bytes → AreBytes (take n (drop m bytes))
fit_part n m bytes fit = fit_take n (drop m bytes) (λ i. rw (get_or-drop m bytes i 0) (fit (m + i)))

follow_nothing : (last : Option Row) → follow last [] ≡ true
follow_nothing None = refl
follow_nothing (Some row) = refl

abbrev pub pages_in : List StripeInfo → ℕ
pages_in stripes = sum_by (λ (s : StripeInfo). s.pages) stripes

pub record StripesMean (form page : ℕ) (stripes : List StripeInfo) (last : Option Row) (bytes : List ℕ) (rows : List Row) : Type 0 where
  pub fits : 4096 * pages_in stripes ≤ length (drop (4096 * page) bytes)
  pub have : StripesHaveEntries form stripes (take (4096 * pages_in stripes) (drop (4096 * page) bytes)) rows
  pub order : ascend rows ≡ true
  pub behind : follow last rows ≡ true

no_order : ascend [] ≡ true
unfolding ascend
no_order = refl

same_rows : (xs ys : List Row) → (let r : Result (List Row) ℕ = Ok xs in let q : Result (List Row) ℕ = Ok ys in r ≡ q) → xs ≡ ys
same_rows xs ys e = cc

one_more : (form page : ℕ) (entry : StripeInfo) (entries : List StripeInfo) (last : Option Row) (bytes : List ℕ) (some later : List Row) → entry.page ≡ page → StripeMeans form entry last (part_of entry.page entry.pages bytes) some
    → StripesMean form (page + entry.pages) entries (last_of some) bytes later → StripesMean form page (entry ∷ entries) last bytes (some ++ later)
unfolding ascend
one_more form page entry entries last bytes some later begins means rest =
    let n = 4096 * entry.pages in
    let m = 4096 * pages_in entries in
    let left = drop (4096 * page) bytes in
    let part : part_of entry.page entry.pages bytes ≡ take n left = ap (λ (k : ℕ). take n (drop (4096 * k) bytes)) begins in
    let size : length (take n left) ≡ n = sym (ap length part) ∙ means.has.pages in
    let enough : n ≤ length left = omega (arith, size, length-take n left) in
    let step : 4096 * (page + entry.pages) ≡ 4096 * page + n = omega arith in
    let next : drop (4096 * (page + entry.pages)) bytes ≡ drop n left = ap (λ (k : ℕ). drop k bytes) step ∙ sym (drop-drop n (4096 * page) bytes) in
    let sum : 4096 * pages_in (entry ∷ entries) ≡ n + m = omega (arith, sum_by-cons (λ (s : StripeInfo). s.pages) entry entries) in
    let room : m ≤ length left - n = (let h = rest.fits in omega (arith, h, ap length next, length-drop n left)) in
    let body : take (4096 * pages_in (entry ∷ entries)) left ≡ take (n + m) left = ap (λ (k : ℕ). take k left) sum in
    let first : take n (take (4096 * pages_in (entry ∷ entries)) left) ≡ part_of entry.page entry.pages bytes = ap (take n) body ∙ take-take n (n + m) left (omega arith) ∙ sym part in
    let second : drop n (take (4096 * pages_in (entry ∷ entries)) left) ≡ take m (drop (4096 * (page + entry.pages)) bytes) = ap (drop n) body ∙ drop-take n m left ∙ ap (take m) (sym next) in
    let count = means.has.count in
    let front : take entry.rows (some ++ later) ≡ some = take_at some later entry.rows count in
    let back : drop entry.rows (some ++ later) ≡ later = drop_at some later entry.rows count in
    let filled = means.has.holds.rows_are.some in
    record {
      fits = omega (arith, sum, room, enough);
      have = (
        subst (λ (l : List ℕ). StripeHasEntry form entry l (take entry.rows (some ++ later))) (sym first) (subst (StripeHasEntry form entry (part_of entry.page entry.pages bytes)) (sym front) means.has),
        subst (λ (l : List ℕ). StripesHaveEntries form entries l (drop entry.rows (some ++ later))) (sym second)
            (subst (StripesHaveEntries form entries (take m (drop (4096 * (page + entry.pages)) bytes))) (sym back) rest.have),
      );
      order = joined some later means.has.holds.rows_are.order rest.order rest.behind;
      behind = follow_more last some later filled means.behind;
    }

pub stripes_mean : (form page : ℕ) (stripes : List StripeInfo) (last : Option Row) (bytes : List ℕ) (rows : List Row) → AreBytes bytes → AreFromPage page stripes → stripes_of form stripes last bytes ≡ Ok rows → StripesMean form page stripes last bytes rows
unfolding stripes_of
stripes_mean form page [] last bytes rows fit from e =
    subst (StripesMean form page [] last bytes) (same_rows [] rows e) (record { fits = omega arith; have = (refl, refl); order = no_order; behind = follow_nothing last })
stripes_mean form page (entry ∷ entries) last bytes rows fit from e =
    let part = part_of entry.page entry.pages bytes in
    let a = bound (in_file (4096 * entry.page) part (stripe_of form entry last part)) (λ some. stripes_of form entries (last_of some) bytes >>= λ later. Ok (some ++ later)) rows e in
    let some = a.value in
    let means = stripe_means form entry last part some (fit_part (4096 * entry.pages) (4096 * entry.page) bytes fit) (in_file_ok (4096 * entry.page) part (stripe_of form entry last part) some a.first) in
    let b = bound (stripes_of form entries (last_of some) bytes) (λ later. Ok (some ++ later)) rows a.last in
    let rest = stripes_mean form (page + entry.pages) entries (last_of some) bytes b.value fit from.1 b.first in
    subst (StripesMean form page (entry ∷ entries) last bytes) (same_rows (some ++ b.value) rows b.last) (one_more form page entry entries last bytes some b.value from.0.begins means rest)
