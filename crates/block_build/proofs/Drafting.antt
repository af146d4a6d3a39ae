-- A draft grows stripe by stripe.
use Rattle.std.proofs.Common.{◌≡◌, ℕ, zero, suc, ◌+◌, ◌-◌, ◌*◌, ◌/◌, ◌%◌, ◌^◌, ◌<◌, ◌≤◌, min, Bool, true, false, eqb, List, [], ◌∷◌, ◌++◌, length, take, drop, replicate, refl, sym, ap, subst, ◌∙◌, arith, append_assoc}
use Rattle.std.specs.Int.{div_ceil}
use Rattle.std.proofs.lemmas.Bool.{eqb-false}
use Rattle.std.proofs.lemmas.List.{append-nil, drop_all, drop_at, drop_min, drop-append-le, length-append, length-drop, length-replicate, length-take, length-take-le, take-append-drop, take_at, take_min}
use Rattle.span_types.specs.declared.spans.Row.{Row}
use Rattle.block_info.specs.declared.info.StripeInfo.{StripeInfo}
use Rattle.block_format.specs.Blocks.{IsEarliest, IsLatest, StripeHasEntry, StripesHaveEntries, form_of_rows}
use Rattle.block_format.specs.Headers.{HasMoments, HasRows, header_pages}
use Rattle.block_stripes.specs.StripeEncodings.{after_length, content_bytes, fill_size, padded, stripe_bytes}
use Rattle.block_stripes.specs.StripeReadings.{ascend}
use Rattle.block_stripes.specs.Stripes.{StripeHolds, can_be_stripe, has_form, is_extended}
use Rattle.block_build.specs.Drafts.{AddsStripe, AreStripes, DraftSoFar, IsDraft}
use Rattle.block_build.proofs.Parts.{all_rest, ascend_rest, first_stripe, have_form}

-- ---- one stripe before others

pub some_number : (n : ℕ) → (n ≡ 0 → ⊥) → 1 ≤ n
some_number zero other = absurd (other refl)
some_number (suc n) other = omega arith

has_rows_by : (last : Bool) (k n m : ℕ) → eqb k 0 ≡ last → k ≡ div_ceil (m - 256) 256 → n ≡ min 256 m → 1 ≤ m → HasRows last n
has_rows_by true k n m e count is some = (omega (arith, is, some), omega (arith, is))
has_rows_by false k n m e count is some = (let more = some_number k (eqb-false k 0 e) in omega (arith, more, count, is))

has_rows : (later : List StripeInfo) (n m : ℕ) → length later ≡ div_ceil (m - 256) 256 → n ≡ min 256 m → 1 ≤ m → HasRows (eqb (length later) 0) n
has_rows later n m count is some = has_rows_by (eqb (length later) 0) (length later) n m refl count is some

pub one_before : (form page : ℕ) (entry : StripeInfo) (stripe : List ℕ) (rest : List Row) → entry.page ≡ page → entry.page + entry.pages ≤ 2 ^ 51 → StripeHasEntry form entry stripe (take 256 rest) → HasMoments entry → 1 ≤ length rest
    → (later : List StripeInfo) (more : List ℕ) → AreStripes form (page + entry.pages) later more (drop 256 rest) → AreStripes form page (entry ∷ later) (stripe ++ more) rest
one_before form page entry stripe rest at ends has moments some later more are =
    let n = 4096 * entry.pages in
    let rows : entry.rows ≡ min 256 (length rest) = sym has.count ∙ length-take 256 rest in
    let taken : take entry.rows rest ≡ take 256 rest = ap (λ (k : ℕ). take k rest) rows ∙ take_min 256 rest in
    let left : drop entry.rows rest ≡ drop 256 rest = ap (λ (k : ℕ). drop k rest) rows ∙ drop_min 256 rest in
    let count : length later ≡ div_ceil (length rest - 256) 256 = are.count ∙ ap (λ (k : ℕ). div_ceil k 256) (length-drop 256 rest) in
    record {
      entries = (
        subst (λ (b : List ℕ). StripeHasEntry form entry b (take entry.rows rest)) (sym (take_at stripe more n has.pages)) (subst (λ (r : List Row). StripeHasEntry form entry stripe r) (sym taken) has),
        subst (λ (b : List ℕ). StripesHaveEntries form later b (drop entry.rows rest)) (sym (drop_at stripe more n has.pages)) (subst (λ (r : List Row). StripesHaveEntries form later more r) (sym left) are.entries),
      );
      pages = (record { begins = at; ends = omega (arith, at, ends); rows = has_rows later entry.rows (length rest) count rows some }, are.pages);
      moments = (moments, are.moments);
      count = omega (arith, count, some);
    }

-- ---- the loop

same_page : (old page other : ℕ) → old ≡ 4096 * page → old ≡ 4096 * other → other ≡ page
same_page old page other a b = omega (arith, a, b)

some_left : (form front count : ℕ) (rows rest : List Row) (i : ℕ) (bytes : List ℕ) (stripes : List StripeInfo) → DraftSoFar form front rows rest i bytes stripes → i < count → count ≡ div_ceil (length rows) 256 → 1 ≤ length rest
some_left form front count rows rest i bytes stripes so_far low count_is = omega (arith, so_far.left, low, count_is)

-- the next rows can be a stripe
pub draft_can : (form front count : ℕ) (rows rest taken : List Row) (i : ℕ) (bytes : List ℕ) (stripes : List StripeInfo) → DraftSoFar form front rows rest i bytes stripes → i < count → count ≡ div_ceil (length rows) 256 → taken ≡ take 256 rest → can_be_stripe (is_extended form) taken ≡ true
draft_can form front count rows rest taken i bytes stripes so_far low count_is taken_is =
    ap (can_be_stripe (is_extended form)) taken_is ∙ first_stripe form rest (some_left form front count rows rest i bytes stripes so_far low count_is) so_far.order so_far.fits

pub draft_step : (form front count : ℕ) (rows rest taken next : List Row) (i j : ℕ) (bytes new : List ℕ) (stripes all : List StripeInfo) (entry : StripeInfo)
    → DraftSoFar form front rows rest i bytes stripes → i < count → count ≡ div_ceil (length rows) 256 → AddsStripe form taken bytes new entry → taken ≡ take 256 rest → next ≡ drop 256 rest → all ≡ stripes ++ entry ∷ [] → j ≡ i + 1
    → DraftSoFar form front rows next j new all
draft_step form front count rows rest taken next i j bytes new stripes all entry so_far low count_is added taken_is next_is all_is j_is =
    let adds = subst (λ (l : List Row). AddsStripe form l bytes new entry) taken_is added in
    let some = some_left form front count rows rest i bytes stripes so_far low count_is in
    let n = 4096 * front in
    let stripe = adds.stripe in
    let page : entry.page ≡ so_far.page = same_page (length bytes) so_far.page entry.page so_far.whole adds.page in
    let size : length new ≡ length bytes + length stripe = ap length adds.added ∙ length-append bytes stripe in
    let body : drop n bytes ++ stripe ≡ drop n new = sym (drop-append-le n bytes stripe so_far.behind) ∙ ap (drop n) (sym adds.added) in
    let made : DraftSoFar form front rows (drop 256 rest) j new (stripes ++ entry ∷ []) = record {
      page = so_far.page + entry.pages;
      whole = omega (arith, size, so_far.whole, adds.has.pages);
      behind = omega (arith, size, so_far.behind);
      left = omega (arith, length-drop 256 rest, so_far.left, j_is);
      order = ascend_rest 256 rest so_far.order;
      fits = all_rest (has_form (is_extended form)) 256 rest so_far.fits;
      goes_on = λ later more are.
          let before = one_before form so_far.page entry stripe rest page adds.ends adds.has adds.moments some later more are in
          let whole = so_far.goes_on (entry ∷ later) (stripe ++ more) before in
          let list : stripes ++ entry ∷ later ≡ (stripes ++ entry ∷ []) ++ later = sym (append_assoc stripes (entry ∷ []) later) in
          let text : drop n bytes ++ (stripe ++ more) ≡ drop n new ++ more = sym (append_assoc (drop n bytes) stripe more) ∙ ap (λ (l : List ℕ). l ++ more) body in
          subst (λ (l : List StripeInfo). AreStripes form front l (drop n new ++ more) rows) list (subst (λ (l : List ℕ). AreStripes form front (stripes ++ entry ∷ later) l rows) text whole);
    } in
    subst (λ (l : List StripeInfo). DraftSoFar form front rows next j new l) (sym all_is) (subst (λ (r : List Row). DraftSoFar form front rows r j new (stripes ++ entry ∷ [])) (sym next_is) made)

pub draft_begins : (form front : ℕ) (rows rest : List Row) (bytes : List ℕ) (stripes : List StripeInfo) → length bytes ≡ front * 4096 → rest ≡ rows → stripes ≡ [] → ascend rows ≡ true → form ≡ form_of_rows rows → DraftSoFar form front rows rest 0 bytes stripes
draft_begins form front rows rest bytes stripes zeros same none order is =
    let n = 4096 * front in
    let size : length bytes ≡ 4096 * front = omega (arith, zeros) in
    let nothing : drop n bytes ≡ [] = drop_all n bytes (omega (arith, size)) in
    let made : DraftSoFar form front rows rows 0 bytes [] = record {
      page = front;
      whole = size;
      behind = omega (arith, size);
      left = omega arith;
      order = order;
      fits = have_form form rows is;
      goes_on = λ later more are. subst (λ (l : List ℕ). AreStripes form front later (l ++ more) rows) (sym nothing) are;
    } in
    subst (λ (l : List StripeInfo). DraftSoFar form front rows rest 0 bytes l) (sym none) (subst (λ (r : List Row). DraftSoFar form front rows r 0 bytes []) (sym same) made)

no_rows_left : (form page : ℕ) (rest : List Row) → length rest ≡ 0 → AreStripes form page [] [] rest
no_rows_left form page [] none = record { entries = (refl, refl); pages = tt; moments = tt; count = refl }
no_rows_left form page (row ∷ rest) none = absurd (omega (arith, none))

pub draft_ends : (form front count i : ℕ) (rows rest : List Row) (bytes : List ℕ) (stripes : List StripeInfo) → DraftSoFar form front rows rest i bytes stripes → count ≤ i → count ≡ div_ceil (length rows) 256 → front ≡ header_pages count → IsDraft form rows bytes stripes
draft_ends form front count i rows rest bytes stripes so_far high count_is front_is =
    let n = 4096 * front in
    let none : length rest ≡ 0 = omega (arith, so_far.left, high, count_is) in
    let whole = so_far.goes_on [] [] (no_rows_left form so_far.page rest none) in
    let are : AreStripes form front stripes (drop n bytes) rows =
    subst (λ (l : List StripeInfo). AreStripes form front l (drop n bytes) rows) (append-nil stripes)
    (subst (λ (l : List ℕ). AreStripes form front (stripes ++ []) l rows) (append-nil (drop n bytes)) whole) in
    let pages : front ≡ header_pages (length stripes) = front_is ∙ ap header_pages (count_is ∙ sym are.count) in
    record {
      front = take n bytes;
      body = drop n bytes;
      bytes_are = sym (take-append-drop n bytes);
      front_size = length-take-le n bytes so_far.behind ∙ ap (λ (k : ℕ). 4096 * k) pages;
      stripes_are = subst (λ (p : ℕ). AreStripes form p stripes (drop n bytes) rows) pages are;
    }

-- ---- whole pages

pub padded_pages : (bytes : List ℕ) → length (padded bytes) ≡ 4096 * (length (padded bytes) / 4096)
padded_pages bytes =
    let size : length (padded bytes) ≡ length bytes + fill_size (length bytes) = length-append bytes (replicate (fill_size (length bytes)) 0) ∙ ap (λ (k : ℕ). length bytes + k) (length-replicate {A = ℕ} (fill_size (length bytes)) 0) in
    omega (arith, size)

-- what was written of a stripe, and its entry
pub stripe_added : (form : ℕ) (rows : List Row) (old new stripe : List ℕ) (entry : StripeInfo) → StripeHolds form stripe rows → new ≡ old ++ stripe → length old % 4096 ≡ 0 → length new < 2 ^ 63 → entry.page ≡ length old / 4096 → entry.pages ≡ length stripe / 4096
    → entry.rows ≡ length rows → IsEarliest rows entry.earliest → IsLatest rows entry.latest → HasMoments entry → AddsStripe form rows old new entry
unfolding stripe_bytes
stripe_added form rows old new stripe entry holds added whole small page pages count earliest latest moments =
    let text = after_length (content_bytes (is_extended form) rows) in
    let parts : length stripe ≡ 4096 * (length stripe / 4096) = ap length holds.bytes_are ∙ padded_pages text ∙ ap (λ (l : List ℕ). 4096 * (length l / 4096)) (sym holds.bytes_are) in
    let size : length new ≡ length old + length stripe = ap length added ∙ length-append old stripe in
    record {
      stripe = stripe;
      added = added;
      page = omega (arith, whole, page);
      ends = omega (arith, small, size, parts, whole, page, pages);
      has = record { holds = holds; pages = omega (arith, parts, pages); count = sym count; earliest = earliest; latest = latest };
      moments = moments;
    }
