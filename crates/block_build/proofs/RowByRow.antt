-- A block is built row by row.
use Rattle.std.proofs.Common.{◌≡◌, ℕ, ◌+◌, ◌-◌, ◌*◌, ◌/◌, ◌<◌, ◌≤◌, max, Bool, true, false, ◌||◌, cond, eqb, List, [], ◌∷◌, ◌++◌, length, take, drop, IsTrue, OnOk, Result, Ok, Err, refl, sym, ap, subst, ◌∙◌, arith, append_assoc}
use Rattle.std.specs.List.{list_all, list_any}
use Rattle.std.proofs.lemmas.List.{append-nil, drop_at, length-append, take_all, take_at}
use Rattle.span_types.specs.declared.ids.TraceId.{TraceId}
use Rattle.span_types.specs.declared.spans.Row.{Row}
use Rattle.block_info.specs.declared.info.StripeInfo.{StripeInfo}
use Rattle.block_format.specs.Blocks.{StripeHasEntry, StripesHaveEntries, form_of_rows, ids_of, is_rich}
use Rattle.block_stripes.specs.StripeEncodings.{after_length, content_bytes, stripe_bytes}
use Rattle.block_format.specs.Headers.{HasRows}
use Rattle.block_stripes.specs.StripeReadings.{ascend}
use Rattle.block_stripes.specs.Stripes.{StripeHolds, can_be_stripe, has_form, is_extended}
use Rattle.block_build.specs.declared.builder.Builder.{Builder}
use Rattle.block_build.specs.Builders.{AreCounted, AreFit, AreFull, HasForm, HasStripes, Holds, IsWritten, Puts, Takes}
use Rattle.block_build.proofs.Drafting.{padded_pages}
use Rattle.block_build.proofs.Parts.{all_front, all_rest, ascend_front, ascend_rest, first_stripe, have_form}

-- ---- a stripe more

pub whole_pages : (form : ℕ) (rows : List Row) (stripe : List ℕ) → StripeHolds form stripe rows → length stripe ≡ 4096 * (length stripe / 4096)
unfolding stripe_bytes
whole_pages form rows stripe holds =
    let text = after_length (content_bytes (is_extended form) rows) in
    ap length holds.bytes_are ∙ padded_pages text ∙ ap (λ (l : List ℕ). 4096 * (length l / 4096)) (sym holds.bytes_are)

pub stripes_more : (form : ℕ) (stripes : List StripeInfo) (body : List ℕ) (rows : List Row) (entry : StripeInfo) (stripe : List ℕ) (more : List Row) → HasStripes form stripes body rows → StripeHasEntry form entry stripe more
    → HasStripes form (stripes ++ entry ∷ []) (body ++ stripe) (rows ++ more)
stripes_more form stripes body rows entry stripe more so_far has = λ later text rest have.
    let n = 4096 * entry.pages in
    let next : StripesHaveEntries form (entry ∷ later) (stripe ++ text) (more ++ rest) = (
      subst (λ (b : List ℕ). StripeHasEntry form entry b (take entry.rows (more ++ rest))) (sym (take_at stripe text n has.pages))
          (subst (λ (r : List Row). StripeHasEntry form entry stripe r) (sym (take_at more rest entry.rows has.count)) has),
      subst (λ (b : List ℕ). StripesHaveEntries form later b (drop entry.rows (more ++ rest))) (sym (drop_at stripe text n has.pages))
          (subst (λ (r : List Row). StripesHaveEntries form later text r) (sym (drop_at more rest entry.rows has.count)) have),
    ) in
    let whole = so_far (entry ∷ later) (stripe ++ text) (more ++ rest) next in
    subst (λ (l : List StripeInfo). StripesHaveEntries form l ((body ++ stripe) ++ text) ((rows ++ more) ++ rest)) (sym (append_assoc stripes (entry ∷ []) later))
    (subst (λ (l : List ℕ). StripesHaveEntries form (stripes ++ entry ∷ later) l ((rows ++ more) ++ rest)) (sym (append_assoc body stripe text))
    (subst (λ (l : List Row). StripesHaveEntries form (stripes ++ entry ∷ later) (body ++ (stripe ++ text)) l) (sym (append_assoc rows more rest)) whole))

-- ---- ids and form

map_both : (xs ys : List Row) → ids_of (xs ++ ys) ≡ ids_of xs ++ ids_of ys
map_both [] ys = refl
map_both (x ∷ xs) ys = ap (λ (l : List TraceId). x.span.trace ∷ l) (map_both xs ys)

or_both : (a b c : Bool) → (a || (b || c)) ≡ ((a || b) || c)
or_both true b c = refl
or_both false b c = refl

any_both : (xs ys : List Row) → list_any is_rich (xs ++ ys) ≡ (list_any is_rich xs || list_any is_rich ys)
any_both [] ys = refl
any_both (x ∷ xs) ys = ap (λ (t : Bool). is_rich x || t) (any_both xs ys) ∙ or_both (is_rich x) (list_any is_rich xs) (list_any is_rich ys)

form_both : (a b : Bool) → cond (a || b) 2 1 ≡ max (cond a 2 1) (cond b 2 1)
form_both true true = refl
form_both true false = refl
form_both false true = refl
form_both false false = refl

pub wanted_more : (xs ys : List Row) → form_of_rows (xs ++ ys) ≡ max (form_of_rows xs) (form_of_rows ys)
wanted_more xs ys = ap (λ (t : Bool). cond t 2 1) (any_both xs ys) ∙ form_both (list_any is_rich xs) (list_any is_rich ys)

-- ---- rows that fit

fit_front : (form : ℕ) (rows more : List Row) → AreFit form (rows ++ more) → AreFit form rows
fit_front form rows more fit =
    let front = take_at rows more (length rows) refl in
    record {
      order = subst (λ (l : List Row). ascend l ≡ true) front (ascend_front (length rows) (rows ++ more) fit.order);
      fits = subst (λ (l : List Row). list_all (has_form (is_extended form)) l ≡ true) front (all_front (has_form (is_extended form)) (length rows) (rows ++ more) fit.fits);
    }

fit_rest : (form : ℕ) (rows more : List Row) → AreFit form (rows ++ more) → AreFit form more
fit_rest form rows more fit =
    let rest = drop_at rows more (length rows) refl in
    record {
      order = subst (λ (l : List Row). ascend l ≡ true) rest (ascend_rest (length rows) (rows ++ more) fit.order);
      fits = subst (λ (l : List Row). list_all (has_form (is_extended form)) l ≡ true) rest (all_rest (has_form (is_extended form)) (length rows) (rows ++ more) fit.fits);
    }

can_stripe : (form : ℕ) (rows : List Row) → 1 ≤ length rows → length rows ≤ 256 → AreFit form rows → can_be_stripe (is_extended form) rows ≡ true
can_stripe form rows some few fit = sym (ap (can_be_stripe (is_extended form)) (take_all 256 rows few)) ∙ first_stripe form rows some fit.order fit.fits

pub they_fit : (form : ℕ) (rows : List Row) → ascend rows ≡ true → form ≡ form_of_rows rows → AreFit form rows
they_fit form rows order is = record { order = order; fits = have_form form rows is }

clash : (b : Bool) → b ≡ true → b ≡ false → ⊥
clash b one other = (let bad : true ≡ false = sym one ∙ other in cc)

-- ---- how many rows stripes have

full_more : (stripes : List StripeInfo) (entry : StripeInfo) → AreFull stripes → entry.rows ≡ 256 → AreFull (stripes ++ entry ∷ [])
full_more [] entry full rows = (rows, tt)
full_more (stripe ∷ stripes) entry full rows = (full.0, full_more stripes entry full.1 rows)

full_rows : (last : Bool) (rows : ℕ) → rows ≡ 256 → HasRows last rows
full_rows true rows e = (omega (arith, e), omega (arith, e))
full_rows false rows e = e

counted_last : (stripes : List StripeInfo) (entry : StripeInfo) → AreFull stripes → 1 ≤ entry.rows → entry.rows ≤ 256 → AreCounted (stripes ++ entry ∷ [])
counted_last [] entry full some few = ((some, few), tt)
counted_last (stripe ∷ stripes) entry full some few = (full_rows (eqb (length (stripes ++ entry ∷ [])) 0) stripe.rows full.0, counted_last stripes entry full.1 some few)

counted_full : (stripes : List StripeInfo) → AreFull stripes → AreCounted stripes
counted_full [] full = tt
counted_full (stripe ∷ stripes) full = (full_rows (eqb (length stripes) 0) stripe.rows full.0, counted_full stripes full.1)

-- ---- the builder

pub takes_none : (b : Builder) → b.rows.items ≡ [] → b.stripes.items ≡ [] → b.body.items ≡ [] → b.ids ≡ [] → b.wanted ≡ 1 → b.sure ≡ true → Takes b []
takes_none b rows stripes body ids wanted sure = record {
  holds = record {
    has = λ _. record {
      written = [];
      rows_are = sym rows;
      stripes = λ later more rest have.
          subst (λ (l : List StripeInfo). StripesHaveEntries b.form (l ++ later) (b.body.items ++ more) rest) (sym stripes)
          (subst (λ (l : List ℕ). StripesHaveEntries b.form later (l ++ more) rest) (sym body) have);
      ids = ids;
      wanted = wanted;
    };
    sure = λ _. sure;
  };
  even = λ _. record { full = subst AreFull (sym stripes) tt; few = (let size = ap length rows in omega (arith, size)) };
}

-- another row waits
pub record Waits (old new : Builder) (row : Row) : Type 0 where
  pub rows : new.rows.items ≡ old.rows.items ++ row ∷ []
  pub form : new.form ≡ old.form
  pub stripes : new.stripes.items ≡ old.stripes.items
  pub body : new.body.items ≡ old.body.items
  pub ids : new.ids ≡ old.ids
  pub wanted : new.wanted ≡ old.wanted
  pub sure : new.sure ≡ old.sure

holds_row : (old new : Builder) (row : Row) → Waits old new row → (rows : List Row) → Holds old rows → Holds new (rows ++ row ∷ [])
holds_row old new row waits rows held = record {
  has = λ sure.
      let h = held.has (subst IsTrue waits.sure sure) in
      record {
        written = h.written;
        rows_are = ap (λ (l : List Row). l ++ row ∷ []) h.rows_are ∙ append_assoc h.written old.rows.items (row ∷ []) ∙ ap (λ (l : List Row). h.written ++ l) (sym waits.rows);
        stripes = subst (λ (f : ℕ). HasStripes f new.stripes.items new.body.items h.written) (sym waits.form)
            (subst (λ (l : List StripeInfo). HasStripes old.form l new.body.items h.written) (sym waits.stripes)
            (subst (λ (l : List ℕ). HasStripes old.form old.stripes.items l h.written) (sym waits.body) h.stripes));
        ids = waits.ids ∙ h.ids;
        wanted = waits.wanted ∙ h.wanted;
      };
  sure = λ fit. subst IsTrue (sym waits.sure) (held.sure (fit_front old.form rows (row ∷ []) (subst (λ (f : ℕ). AreFit f (rows ++ row ∷ [])) waits.form fit)));
}

pub takes_row : (old new : Builder) (row : Row) → Waits old new row → length new.rows.items < 256 → (rows : List Row) → Takes old rows → Takes new (rows ++ row ∷ [])
takes_row old new row waits few rows took = record {
  holds = holds_row old new row waits rows took.holds;
  even = λ sure. record { full = subst AreFull (sym waits.stripes) (took.even (subst IsTrue waits.sure sure)).full; few = few };
}

-- a row waits with which a stripe is full, and this is written
takes_full : (old mid new : Builder) (row : Row) → Waits old mid row → 256 ≤ length mid.rows.items → IsWritten mid new → (rows : List Row) → Takes old rows → Takes new (rows ++ row ∷ [])
takes_full old mid new row waits many written rows took =
    let size : length mid.rows.items ≡ length old.rows.items + 1 = ap length waits.rows ∙ length-append old.rows.items (row ∷ []) in
    record {
      holds = written.holds (rows ++ row ∷ []) (λ sure. (let few = (took.even (subst IsTrue waits.sure sure)).few in omega (arith, few, size))) (holds_row old mid row waits rows took.holds);
      even = λ sure.
          let even = took.even (subst IsTrue waits.sure (written.sure sure)) in
          let few = even.few in
          record {
            full = written.full sure (omega (arith, few, size, many)) (subst AreFull (sym waits.stripes) even.full);
            few = (let none = ap length written.none in omega (arith, none));
          };
    }

pub takes_written : {A E : Type 0} (r : Result A E) (old mid new : Builder) (row : Row) → Waits old mid row → 256 ≤ length mid.rows.items → OnOk r (IsWritten mid new)
    → OnOk r ((rows : List Row) → Takes old rows → Takes new (rows ++ row ∷ []))
takes_written (Ok a) old mid new row waits many written = takes_full old mid new row waits many written
takes_written (Err e) old mid new row waits many written = tt

pub form_written : {A E : Type 0} (r : Result A E) (old mid new : Builder) (row : Row) → Waits old mid row → OnOk r (IsWritten mid new) → OnOk r ((form : ℕ) → HasForm old form → HasForm new form)
form_written (Ok a) old mid new row waits written = λ form is. written.form ∙ waits.form ∙ is
form_written (Err e) old mid new row waits written = tt

-- rows that waited can't be a stripe, so they don't fit
pub not_sure : (old new : Builder) → new.form ≡ old.form → new.rows.items ≡ [] → new.sure ≡ false → 1 ≤ length old.rows.items → can_be_stripe (is_extended old.form) old.rows.items ≡ false → IsWritten old new
not_sure old new form none unsure some cannot = record {
  form = form;
  none = none;
  sure = λ sure. absurd (clash new.sure sure unsure);
  holds = λ rows few held. record {
    has = λ sure. absurd (clash new.sure sure unsure);
    sure = λ fit.
        let here = subst (λ (f : ℕ). AreFit f rows) form fit in
        let sure = held.sure here in
        let h = held.has sure in
        let waiting = fit_rest old.form h.written old.rows.items (subst (AreFit old.form) h.rows_are here) in
        absurd (clash (can_be_stripe (is_extended old.form) old.rows.items) (can_stripe old.form old.rows.items some (few sure) waiting) cannot);
  };
  full = λ sure size full. absurd (clash new.sure sure unsure);
  counted = λ sure few full. absurd (clash new.sure sure unsure);
}

-- the rows that waited are written
pub written : (old new : Builder) (entry : StripeInfo) (stripe : List ℕ) → StripeHasEntry old.form entry stripe old.rows.items → new.form ≡ old.form → new.rows.items ≡ [] → new.stripes.items ≡ old.stripes.items ++ entry ∷ []
    → new.body.items ≡ old.body.items ++ stripe → new.ids ≡ old.ids ++ ids_of old.rows.items → new.wanted ≡ max old.wanted (form_of_rows old.rows.items) → new.sure ≡ old.sure → IsWritten old new
written old new entry stripe has form none stripes body ids wanted same =
    let some = has.holds.rows_are.some in
    let count = has.count in
    record {
      form = form;
      none = none;
      sure = λ sure. subst IsTrue same sure;
      holds = λ rows few held. record {
        has = λ sure.
            let h = held.has (subst IsTrue same sure) in
            let all : rows ≡ (h.written ++ old.rows.items) ++ new.rows.items = h.rows_are ∙ sym (append-nil (h.written ++ old.rows.items)) ∙ ap (λ (l : List Row). (h.written ++ old.rows.items) ++ l) (sym none) in
            record {
              written = h.written ++ old.rows.items;
              rows_are = all;
              stripes = subst (λ (f : ℕ). HasStripes f new.stripes.items new.body.items (h.written ++ old.rows.items)) (sym form)
                  (subst (λ (l : List StripeInfo). HasStripes old.form l new.body.items (h.written ++ old.rows.items)) (sym stripes)
                  (subst (λ (l : List ℕ). HasStripes old.form (old.stripes.items ++ entry ∷ []) l (h.written ++ old.rows.items)) (sym body)
                  (stripes_more old.form old.stripes.items old.body.items h.written entry stripe old.rows.items h.stripes has)));
              ids = ids ∙ ap (λ (l : List TraceId). l ++ ids_of old.rows.items) h.ids ∙ sym (map_both h.written old.rows.items);
              wanted = wanted ∙ ap (λ (k : ℕ). max k (form_of_rows old.rows.items)) h.wanted ∙ sym (wanted_more h.written old.rows.items);
            };
        sure = λ fit. subst IsTrue (sym same) (held.sure (subst (λ (f : ℕ). AreFit f rows) form fit));
      };
      full = λ sure size full. subst AreFull (sym stripes) (full_more old.stripes.items entry full (sym count ∙ size));
      counted = λ sure few full. subst AreCounted (sym stripes) (counted_last old.stripes.items entry full (omega (arith, some, count)) (omega (arith, few, count)));
    }

-- the rows that waited are put
pub put_written : {A E : Type 0} (r : Result A E) (old mid new : Builder) (rows : List Row) → mid.form ≡ old.form → mid.rows.items ≡ [] → mid.stripes.items ≡ old.stripes.items → mid.body.items ≡ old.body.items
    → mid.ids ≡ old.ids → mid.wanted ≡ old.wanted → mid.sure ≡ old.sure → rows ≡ old.rows.items → OnOk r (Puts mid rows new) → OnOk r (IsWritten old new)
put_written (Ok a) old mid new rows form none stripes body ids wanted sure same put =
    written old new put.entry put.stripe
    (subst (λ (l : List Row). StripeHasEntry old.form put.entry put.stripe l) same (subst (λ (f : ℕ). StripeHasEntry f put.entry put.stripe rows) form put.has))
    (put.form ∙ form) (put.waiting ∙ none)
    (put.stripes ∙ ap (λ (l : List StripeInfo). l ++ put.entry ∷ []) stripes)
    (put.body ∙ ap (λ (l : List ℕ). l ++ put.stripe) body)
    (put.ids ∙ ap (λ (l : List TraceId). l ++ ids_of rows) ids ∙ ap (λ (l : List Row). old.ids ++ ids_of l) same)
    (put.wanted ∙ ap (λ (k : ℕ). max k (form_of_rows rows)) wanted ∙ ap (λ (l : List Row). max old.wanted (form_of_rows l)) same)
    (put.sure ∙ sure)
put_written (Err e) old mid new rows form none stripes body ids wanted sure same put = tt

-- what a builder without waiting rows has taken is written
pub record AllWritten (b : Builder) (rows : List Row) : Type 0 where
  pub stripes : HasStripes b.form b.stripes.items b.body.items rows
  pub ids : b.ids ≡ ids_of rows
  pub wanted : b.wanted ≡ form_of_rows rows

pub all_written : (b : Builder) (rows : List Row) → Holds b rows → b.rows.items ≡ [] → b.sure ≡ true → AllWritten b rows
all_written b rows held none sure =
    let h = held.has sure in
    let same : h.written ≡ rows = sym (append-nil h.written) ∙ ap (λ (l : List Row). h.written ++ l) (sym none) ∙ sym h.rows_are in
    record {
      stripes = subst (HasStripes b.form b.stripes.items b.body.items) same h.stripes;
      ids = h.ids ∙ ap ids_of same;
      wanted = h.wanted ∙ ap form_of_rows same;
    }

no_items : (rows : List Row) → length rows ≡ 0 → rows ≡ []
no_items [] none = refl
no_items (row ∷ rows) none = absurd (omega (arith, none))

pub none_wait : (b : Builder) → length b.rows.items ≡ 0 → IsWritten b b
none_wait b none = record {
  form = refl;
  none = no_items b.rows.items none;
  sure = λ sure. sure;
  holds = λ rows few held. held;
  full = λ sure size full. full;
  counted = λ sure few full. counted_full b.stripes.items full;
}

-- ---- its end

pub few_wait : (b : Builder) (rows : List Row) → Takes b rows → IsTrue b.sure → length b.rows.items ≤ 256
few_wait b rows took sure = (let few = (took.even sure).few in omega (arith, few))

pub its_stripes : (old new : Builder) (rows : List Row) → Takes old rows → IsWritten old new → IsTrue new.sure → AreCounted new.stripes.items
its_stripes old new rows took written sure =
    let before = written.sure sure in
    written.counted sure (few_wait old rows took before) (took.even before).full

-- what fits has a block
pub surely : (old new : Builder) (rows : List Row) → Takes old rows → IsWritten old new → ascend rows ≡ true → old.form ≡ form_of_rows rows → IsTrue new.sure
surely old new rows took written order is = (written.holds rows (few_wait old rows took) took.holds).sure (they_fit new.form rows order (written.form ∙ is))
