-- The stripes of a block that are read, and their rows.
use Rattle.std.proofs.Common.{◌≡◌, ℕ, ◌+◌, ◌-◌, ◌*◌, ◌<◌, ◌≤◌, Bool, true, false, ◌&&◌, List, [], ◌∷◌, ◌++◌, length, map, take, drop, filter, Option, None, Some, refl, sym, ◌∙◌, ap, subst, arith, if◌then◌else◌, nat_le, nat_lt, get_or, Result, Err}
use Rattle.std.specs.Prelude.{slice_get}
use Rattle.std.specs.List.{AllByRecursion}
use Rattle.std.proofs.lemmas.Bool.{leb-false, leb-true, ltb-false, ltb-true}
use Rattle.std.proofs.lemmas.List.{append_assoc, drop-drop, get_or-drop, length-drop, map-append, take_all}
use Rattle.std.proofs.Math.Seq.{take-add}
use Rattle.std.proofs.lemmas.List.Sums.{sum_by-cons, sum_by-take-le, sum_by_more}
use Rattle.std.proofs.lemmas.Option.{slice_get-get_or}
use Rattle.moment_range.specs.declared.range.Range.{Range}
use Rattle.moment_range.specs.Ranges.{is_before, is_within}
use Rattle.span_types.specs.declared.spans.Row.{Row}
use Rattle.span_types.specs.declared.spans.Span.{Span}
use Rattle.block_info.specs.declared.info.StripeInfo.{StripeInfo}
use Rattle.block_info.specs.InfoParts.{InfoParts}
use Rattle.block_format.specs.Blocks.{BlockHasInfo, StripeHasEntry}
use Rattle.block_read.specs.Files.{part_of}
use Rattle.block_read.specs.declared.error.ReadError.{ReadError}
use Rattle.block_read.specs.declared.error.ReadError.TheVariants.{Fault, NotBlock, Memory}
use Rattle.block_read.proofs.DescribedLaws.{few_rows, stripe_share, stripes_stand}
use Rattle.column_scan.specs.declared.hints.Hint.{Hint}
use Rattle.column_scan.specs.declared.picks.Pick.{Pick}
use Rattle.column_scan.specs.Candidates.{HaveLatest, hinted_by, is_hinted, pick_of, spans_of}
use Rattle.column_scan.specs.Scans.{FindsFit, may_scan, meets, rows_between, scanned_by, scanned_pages, stripes_between}
use Rattle.column_scan.specs.Sieves.{SieveParts, sifted_picks}
use Rattle.column_scan.proofs.Latest.{and_more, none_added, none_of_hint, sifted_append}

-- ---- a stripe that is left out

none_of : (first last moment : ℕ) (a b : Bool) → (nat_le first last && a) ≡ false → moment ≤ last → (b ≡ true → a ≡ true) → (nat_le first moment && b) ≡ false
none_of first last moment a false apart low both = (elim (nat_le first moment) as (λ t. (t && false) ≡ false) [ true ↦ refl | false ↦ refl ])
none_of first last moment a true apart low both =
    let gone : (nat_le first last && true) ≡ false = subst (λ t. (nat_le first last && t) ≡ false) (both refl) apart in
    (elim (nat_le first moment) as (λ t. nat_le first moment ≡ t → (nat_le first moment && true) ≡ false) [
      | true ↦ λ t. absurd (omega (arith, low, leb-true first moment t, leb-false first last (and_true (nat_le first last) gone)))
      | false ↦ λ t. rw t refl
    ]) refl
  where
    and_true : (t : Bool) → (t && true) ≡ false → t ≡ false
    and_true true e = cc
    and_true false e = refl

-- a moment in a stripe that doesn't meet the range isn't in the range
outside : (range : Range) (stripe : StripeInfo) (moment : ℕ) → meets range stripe ≡ false → stripe.earliest ≤ moment → moment ≤ stripe.latest → is_within range moment ≡ false
outside range stripe moment apart low high =
    none_of range.from stripe.latest moment (is_before range.until stripe.earliest) (is_before range.until moment) apart high (before range.until)
  where
    before : (until : Option ℕ) → is_before until moment ≡ true → is_before until stripe.earliest ≡ true
    before None is = refl
    before (Some until) is = (elim (nat_lt stripe.earliest until) as (λ b. nat_lt stripe.earliest until ≡ b → nat_lt stripe.earliest until ≡ true) [
      | true ↦ λ t. t
      | false ↦ λ t. absurd (omega (arith, low, ltb-true moment until is, ltb-false stripe.earliest until t))
    ]) refl

none_hinted : (hint : Hint) (stripe : StripeInfo) (rows : List Row) → may_scan hint stripe ≡ false → AllByRecursion (λ row. stripe.earliest ≤ row.span.start) rows → AllByRecursion (λ row. row.span.start ≤ stripe.latest) rows
    → filter (is_hinted hint) (spans_of rows) ≡ []
none_hinted hint stripe [] out early late = refl
none_hinted hint stripe (row ∷ rows) out early late =
    let rest = none_hinted hint stripe rows out early.1 late.1 in
    rw (not_hinted hint.text refl) rest
  where
    not_hinted : (text : Option (List ℕ)) → hint.text ≡ text → is_hinted hint row.span ≡ false
    not_hinted None is =
        ap (λ t. hinted_by t hint.range row.span) is ∙ outside hint.range stripe row.span.start (sym (ap (λ t. scanned_by t hint.range stripe) is) ∙ out) early.0 late.0
    not_hinted (Some text) is = let bad : true ≡ false = sym (ap (λ t. scanned_by t hint.range stripe) is) ∙ out in cc

pub left_out : (sieve : SieveParts) (form : ℕ) (stripe : StripeInfo) (bytes : List ℕ) (rows : List Row) (picks : List Pick) → may_scan sieve.hint stripe ≡ false → StripeHasEntry form stripe bytes rows
    → HaveLatest (picks ++ sifted_picks sieve (spans_of rows)) picks
left_out sieve form stripe bytes rows picks out has =
    none_added picks (sifted_picks sieve (spans_of rows))
    (none_of_hint sieve (spans_of rows) (ap (map pick_of) (none_hinted sieve.hint stripe rows out has.earliest.1 has.latest.1)))

-- ---- stripe by stripe

module _ (info : InfoParts) (bytes : List ℕ) (rows : List Row) (has : BlockHasInfo info bytes rows) (i : ℕ) (d : StripeInfo) (low : i < length info.stripes) where
  abbrev stripe : StripeInfo
  stripe = get_or info.stripes i d

  there : slice_get info.stripes i ≡ Some stripe
  there = slice_get-get_or info.stripes i d low

  pub has_entry : StripeHasEntry info.form stripe (part_of stripe.page stripe.pages bytes) (take 256 (drop (256 * i) rows))
  has_entry = subst (StripeHasEntry info.form stripe (part_of stripe.page stripe.pages bytes)) (stripe_share info bytes rows has i stripe there).here
      (stripes_stand info bytes rows has i stripe there)

one_more : (from i : ℕ) (rows : List Row) → from ≤ i → rows_between from (i + 1) rows ≡ rows_between from i rows ++ take 256 (drop (256 * i) rows)
one_more from i rows low =
    let next : 256 * (i + 1 - from) ≡ 256 * (i - from) + 256 = omega (arith, low) in
    let place : 256 * from + 256 * (i - from) ≡ 256 * i = omega (arith, low) in
    ap (λ (n : ℕ). take n (drop (256 * from) rows)) next ∙ take-add (256 * (i - from)) 256 (drop (256 * from) rows)
    ∙ ap (λ (l : List Row). rows_between from i rows ++ take 256 l) (drop-drop (256 * (i - from)) (256 * from) rows ∙ ap (λ (n : ℕ). drop n rows) place)

-- before the first stripe
pub none_between : (sieve : SieveParts) (from : ℕ) (rows : List Row) (picks : List Pick) → HaveLatest (picks ++ sifted_picks sieve (spans_of (rows_between from from rows))) picks
none_between sieve from rows picks =
    let none : 256 * (from - from) ≡ 0 = omega arith in
    none_added picks (sifted_picks sieve (spans_of (rows_between from from rows))) (ap (λ (n : ℕ). sifted_picks sieve (spans_of (take n (drop (256 * from) rows)))) none)

pub next_stripe : (sieve now : SieveParts) (rows : List Row) (old picks new : List Pick) (from i : ℕ) → from ≤ i → now ≡ sieve → HaveLatest (old ++ sifted_picks sieve (spans_of (rows_between from i rows))) picks
    → HaveLatest (picks ++ sifted_picks now (spans_of (take 256 (drop (256 * i) rows)))) new → HaveLatest (old ++ sifted_picks sieve (spans_of (rows_between from (i + 1) rows))) new
next_stripe sieve now rows old picks new from i low same have step =
    let part = spans_of (take 256 (drop (256 * i) rows)) in
    let before = spans_of (rows_between from i rows) in
    let parts : spans_of (rows_between from (i + 1) rows) ≡ before ++ part =
    ap spans_of (one_more from i rows low) ∙ map-append (λ (row : Row). row.span) (rows_between from i rows) (take 256 (drop (256 * i) rows)) in
    let whole : old ++ sifted_picks sieve (spans_of (rows_between from (i + 1) rows)) ≡ (old ++ sifted_picks sieve before) ++ sifted_picks sieve part =
    ap (λ (l : List Span). old ++ sifted_picks sieve l) parts ∙ ap (λ (l : List Pick). old ++ l) (sifted_append sieve before part) ∙ sym (append_assoc old (sifted_picks sieve before) (sifted_picks sieve part)) in
    subst (λ l. HaveLatest l new) (sym whole) (and_more (old ++ sifted_picks sieve before) (sifted_picks sieve part) picks new have
    (subst (λ (p : SieveParts). HaveLatest (picks ++ sifted_picks p part) new) same step))

-- no stripe is left
pub none_left : (n i : ℕ) → (i < n → false ≡ true) → n ≤ i
none_left n i none = (elim (nat_lt i n) as (λ b. nat_lt i n ≡ b → n ≤ i) [
  | true ↦ λ t. let bad : false ≡ true = none (omega (arith, ltb-true i n t)) in cc
  | false ↦ λ t. ltb-false i n t
]) refl

-- from the first stripe on, and up to the last one
pub all_stripes : (sieve : SieveParts) (info : InfoParts) (bytes : List ℕ) (rows : List Row) (picks : List Pick) (i : ℕ) → BlockHasInfo info bytes rows → length info.stripes ≤ i
    → HaveLatest (sifted_picks sieve (spans_of (rows_between 0 i rows))) picks → HaveLatest (sifted_picks sieve (spans_of rows)) picks
all_stripes sieve info bytes rows picks i has ended have =
    let few = few_rows info bytes rows has in
    subst (λ l. HaveLatest (sifted_picks sieve (spans_of l)) picks) (take_all (256 * (i - 0)) rows (omega (arith, few, ended))) have

-- the same of the bytes, the stripes and the form as the code has them
pub entry_there : (info : InfoParts) (bytes : List ℕ) (rows : List Row) → BlockHasInfo info bytes rows → (i : ℕ) (d : StripeInfo) → i < length info.stripes
    → (form : ℕ) (stripes : List StripeInfo) (now : List ℕ) → form ≡ info.form → stripes ≡ info.stripes → now ≡ bytes
    → StripeHasEntry form (get_or stripes i d) (part_of (get_or stripes i d).page (get_or stripes i d).pages now) (take 256 (drop (256 * i) rows))
entry_there info bytes rows has i d low form stripes now form_is same bytes_same =
    subst (λ f. StripeHasEntry f (get_or stripes i d) (part_of (get_or stripes i d).page (get_or stripes i d).pages now) (take 256 (drop (256 * i) rows))) (sym form_is)
    (subst (λ l. StripeHasEntry info.form (get_or l i d) (part_of (get_or l i d).page (get_or l i d).pages now) (take 256 (drop (256 * i) rows))) (sym same)
    (subst (λ b. StripeHasEntry info.form (get_or info.stripes i d) (part_of (get_or info.stripes i d).page (get_or info.stripes i d).pages b) (take 256 (drop (256 * i) rows))) (sym bytes_same)
    (has_entry info bytes rows has i d low)))

-- ---- pages

module _ (hint : Hint) (stripes : List StripeInfo) (from i : ℕ) (d : StripeInfo) (begun : from ≤ i) (low : i < length stripes) where
  abbrev pages : StripeInfo → ℕ
  pages = λ stripe. if may_scan hint stripe then stripe.pages else 0

  there_within : i - from < length (drop from stripes)
  there_within = omega (arith, begun, low, length-drop from stripes)

  same_stripe : get_or (drop from stripes) (i - from) d ≡ get_or stripes i d
  same_stripe =
      let place : from + (i - from) ≡ i = omega (arith, begun) in
      get_or-drop from stripes (i - from) d ∙ ap (λ (k : ℕ). get_or stripes k d) place

  pub pages_more : scanned_pages hint (stripes_between from (i + 1) stripes) ≡ scanned_pages hint (stripes_between from i stripes) + scanned_pages hint (get_or stripes i d ∷ [])
  pages_more =
      let next : i + 1 - from ≡ i - from + 1 = omega (arith, begun) in
      let one = sum_by-cons pages (get_or stripes i d) [] in
      let more = sum_by_more pages (drop from stripes) (i - from) d there_within in
      let here : scanned_pages hint (stripes_between from (i + 1) stripes) ≡ scanned_pages hint (take (i - from + 1) (drop from stripes)) = ap (λ (n : ℕ). scanned_pages hint (take n (drop from stripes))) next in
      let same : pages (get_or (drop from stripes) (i - from) d) ≡ pages (get_or stripes i d) = ap pages same_stripe in
      omega (arith, here, more, one, same)

  pub pages_within : scanned_pages hint (stripes_between from i stripes) + scanned_pages hint (get_or stripes i d ∷ []) ≤ scanned_pages hint (drop from stripes)
  pages_within =
      let most : scanned_pages hint (stripes_between from (i + 1) stripes) ≤ scanned_pages hint (drop from stripes) = sum_by-take-le pages (drop from stripes) (i + 1 - from) in
      omega (arith, most, pages_more)

-- ---- errors

fits_of_error : (A B : Type 0) (fits : A → Type 0) (other : B → Type 0) (e : ReadError) → (let one : Result A ReadError = Err e in let two : Result B ReadError = Err e in FindsFit fits one → FindsFit other two)
fits_of_error A B fits other Fault found = tt
fits_of_error A B fits other (NotBlock file at) found = found
fits_of_error A B fits other Memory found = tt

pub fits_passed : {A B : Type 0} (fits : A → Type 0) (other : B → Type 0) (one : Result A ReadError) (two : Result B ReadError) (e : ReadError) → one ≡ Err e → two ≡ Err e → FindsFit fits one → FindsFit other two
fits_passed {A} {B} fits other one two e one_is two_is found =
    subst (FindsFit other) (sym two_is) (fits_of_error A B fits other e (subst (FindsFit fits) one_is found))
