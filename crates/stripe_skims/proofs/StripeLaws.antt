-- What is told of a whole stripe.
use Rattle.std.proofs.Common.{◌≡◌, ℕ, ◌+◌, ◌-◌, ◌≤◌, Bool, true, false, cond, List, [], length, take, drop, Option, None, Result, Ok, Err, refl, sym, ◌∙◌, ap, subst, arith}
use Rattle.std.specs.List.{list_any, position_or_len}
use Rattle.std.specs.Str.{bytes_eq}
use Rattle.std.proofs.lemmas.Bool.{eq-eqb, le-leb}
use Rattle.std.proofs.lemmas.List.{length-drop, take_all}
use Rattle.std.proofs.lemmas.Slice.Eq.{bytes_eq-Decides}
use Rattle.span_types.specs.declared.spans.Row.{Row}
use Rattle.byte_fields.specs.Reading.{◌>>=◌, Stand, fixed64_at}
use Rattle.byte_fields.specs.Breaks.{in_part}
use Rattle.byte_fields.proofs.Meant.{bound, kept_else}
use Rattle.block_columns.specs.Tables.{AllAfter, IsNew}
use Rattle.block_columns.specs.ColumnLaws.{read_to}
use Rattle.block_columns.specs.ColumnReadings.{Spot, Read, counted_at, items_at, new_at, number_at, table_at, unless_at}
use Rattle.block_columns.proofs.Basics.{same_read}
use Rattle.block_columns.proofs.Numbering.{new_is_table}
use Rattle.block_columns.proofs.ReadingSteps.{items_good}
use Rattle.block_stripes.specs.StripeReadings.{ascend, content_at, content_of, content_part, stripe_at, unfilled, unless_some}
use Rattle.stripe_skims.specs.Sketches.{IsSketch, SketchesAll}
use Rattle.stripe_skims.specs.Sure.{AreApart}
use Rattle.stripe_skims.specs.Walks.{TellsAll, TellsRows, unordered_at}
use Rattle.stripe_skims.specs.declared.sketches.Sketch.{Sketch}
use Rattle.stripe_skims.proofs.ItemLaws.{then_same}

-- ---- texts of a table are apart

new_found : {T : Type 0} (same : T → T → Bool) (read : Read T) (before : List T) (s : Spot) (x : T) (t : Spot) → new_at same read before s ≡ read_to x t → IsNew same before x
unfolding unless_at
new_found same read before s x t e =
    let a = bound (read s) (λ y. cond (list_any (same y.0) before) (Err s.stand.at) (Ok y)) (x, t) e in
    let new = kept_else (list_any (same a.value.0) before) s.stand.at (Ok a.value) (x, t) a.last in
    let one = same_read a.value.0 x a.value.1 t new.1 in
    subst (IsNew same before) one.0 new.0

pub texts_apart : (read : Read (List ℕ)) (s : Spot) (texts : List (List ℕ)) (t : Spot) → table_at bytes_eq read s ≡ read_to texts t → AreApart texts
unfolding counted_at
texts_apart read s texts t e i j x y one two other =
    let a = bound (number_at s) (λ n. items_at (new_at bytes_eq read) n.0 [] n.1) (texts, t) e in
    let good = items_good (new_at bytes_eq read) (IsNew bytes_eq) (new_found bytes_eq read) a.value.0 [] a.value.1 texts t a.last in
    let table = new_is_table bytes_eq bytes_eq-Decides texts (subst (AllAfter (IsNew bytes_eq) []) (sym good.is) good.good) in
    (elim (bytes_eq x y) as (λ b. bytes_eq x y ≡ b → bytes_eq x y ≡ false) [
      | true ↦ λ is. absurd (other (sym (table.number i x one) ∙ ap (λ z. position_or_len (bytes_eq z) texts) ((bytes_eq-Decides x y).0 is) ∙ table.number j y two))
      | false ↦ λ is. is
    ]) refl

-- ---- a content, and a stripe

pub whole_told : {X : Type 0} (tells : List Row → X → Type 0) (extended : Bool) (bytes : List ℕ) (size : ℕ) (s t : Spot) (k : X) → s ≡ content_part bytes size → size ≤ length bytes - 8 → t.stand.at ≡ 8 + size
    → TellsRows tells (content_at extended s) k t → TellsAll tells (content_of extended bytes size) k
unfolding content_of
whole_told tells extended bytes size s t k is few ends told =
    let here : content_at extended (content_part bytes size) ≡ read_to told.0 t = ap (content_at extended) (sym is) ∙ told.1 in
    (told.0, rw (here, le-leb size (length bytes - 8) few, eq-eqb t.stand.at (8 + size) ends) refl, told.2)

pub stripe_told : {X : Type 0} (tells : List Row → X → Type 0) (extended : Bool) (bytes : List ℕ) (size : ℕ) (s after : Stand) (k : X) → s ≡ record { whole = bytes; at = 0 } → in_part false fixed64_at s ≡ Ok (size, after)
    → TellsAll tells (content_of extended bytes size) k → unfilled (8 + size) (drop (8 + size) bytes) ≡ None → TellsAll tells (unordered_at extended bytes) k
unfolding unordered_at
stripe_told tells extended bytes size s after k is read told filled =
    let first : in_part false fixed64_at (record { whole = bytes; at = 0 }) ≡ Ok (size, after) = ap (in_part false fixed64_at) (sym is) ∙ read in
    (told.0, rw (first, told.1, filled) refl, told.2)

pub content_is : (bytes : List ℕ) (size : ℕ) (s : Spot) (stand : Stand) → s ≡ record { within = true; stand = stand; used = 0 } → stand ≡ record { whole = take (8 + size) bytes; at = 8 } → size ≤ length bytes - 8 → s ≡ content_part bytes size
content_is bytes size s stand is at few =
    is ∙ ap (λ (t : Stand). (let u : Spot = record { within = true; stand = t; used = 0 } in u)) at
    ∙ ap (λ (b : Bool). (let u : Spot = record { within = b; stand = record { whole = take (8 + size) bytes; at = 8 }; used = 0 } in u)) (sym (le-leb size (length bytes - 8) few))

pub filled : (end : ℕ) (bytes : List ℕ) (o : Option ℕ) → o ≡ unfilled end (take (length bytes - end) (drop end bytes)) → o ≡ None → unfilled end (drop end bytes) ≡ None
filled end bytes o is none =
    ap (unfilled end) (sym (take_all (length bytes - end) (drop end bytes) (omega (arith, length-drop end bytes)))) ∙ sym is ∙ none

-- ---- the order of rows

assoc : {A B C : Type 0} (r : Result A ℕ) (f : A → Result B ℕ) (g : B → Result C ℕ) → (r >>= λ x. f x >>= g) ≡ ((r >>= f) >>= g)
assoc (Ok x) f g = refl
assoc (Err at) f g = refl

abbrev if_ordered : List Row → Result (List Row) ℕ
if_ordered rows = cond (ascend rows) (Ok rows) (Err 0)

-- a stripe is read where its rows are in order
ordered_of : (extended : Bool) (bytes : List ℕ) → stripe_at extended bytes ≡ (unordered_at extended bytes >>= if_ordered)
unfolding stripe_at unordered_at
ordered_of extended bytes =
    then_same (in_part false fixed64_at (record { whole = bytes; at = 0 })) _ _ (λ size. assoc (content_of extended bytes size.0) (λ rows. unless_some (unfilled (8 + size.0) (drop (8 + size.0) bytes)) rows) if_ordered)
    ∙ assoc (in_part false fixed64_at (record { whole = bytes; at = 0 })) (λ size. content_of extended bytes size.0 >>= λ rows. unless_some (unfilled (8 + size.0) (drop (8 + size.0) bytes)) rows) if_ordered

pub ordered_told : (extended : Bool) (bytes : List ℕ) (k : Sketch) → TellsAll IsSketch (unordered_at extended bytes) k → ((rows : List Row) → IsSketch rows k → ascend rows ≡ true) → SketchesAll (stripe_at extended bytes) k
ordered_told extended bytes k told order =
    (told.0, ordered_of extended bytes ∙ ap (λ (r : Result (List Row) ℕ). r >>= if_ordered) told.1 ∙ ap (λ (b : Bool). cond b (Ok told.0) (Err 0)) (order told.0 told.2), told.2)

only_ok : {A : Type 0} (b : Bool) (x y : A) (r : Result A ℕ) → r ≡ cond b (Ok x) (Err 0) → r ≡ Ok y → x ≡ y
only_ok true x y r is ok = let same : Ok x ≡ Ok y = sym is ∙ ok in cc
only_ok false x y r is ok = let same : Err 0 ≡ Ok y = sym is ∙ ok in cc

-- what is told of the rows in whatever order is told of those that are read
pub read_unordered : (extended : Bool) (bytes : List ℕ) (rows : List Row) → stripe_at extended bytes ≡ Ok rows → unordered_at extended bytes ≡ Ok rows
read_unordered extended bytes rows is =
    let a = bound (unordered_at extended bytes) if_ordered rows (sym (ordered_of extended bytes) ∙ is) in
    a.first ∙ ap Ok (only_ok (ascend a.value) a.value rows (if_ordered a.value) refl a.last)
