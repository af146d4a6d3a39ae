-- Stripe by stripe, what is told of their rows.
use Rattle.std.proofs.Common.{◌≡◌, ℕ, zero, suc, ◌+◌, ◌-◌, ◌==◌, max, Bool, true, false, cond, List, [], ◌∷◌, length, map, Option, None, Some, Result, Ok, refl, sym, ap, ◌∙◌, arith}
use Rattle.std.specs.Int.{div_ceil}
use Rattle.std.specs.List.{All, AllByRecursion, slice_get}
use Rattle.std.proofs.lemmas.List.Elements.{All-cons, All-nil}
use Rattle.span_types.specs.declared.ids.TraceId.{TraceId}
use Rattle.span_types.specs.declared.spans.Row.{Row}
use Rattle.byte_fields.specs.Reading.{Stand, fixed64_at}
use Rattle.byte_fields.specs.Breaks.{in_part}
use Rattle.block_info.specs.declared.info.StripeInfo.{StripeInfo}
use Rattle.block_format.specs.Blocks.{form_of_rows, ids_of}
use Rattle.block_stripes.specs.StripeReadings.{stripe_at}
use Rattle.block_stripes.specs.Stripes.{IsKeptRow, StripeHolds, is_extended}
use Rattle.stripe_skims.specs.Sketches.{IsSketch, SketchesAll, is_before, key_of}
use Rattle.stripe_skims.specs.declared.order.RowKey.{RowKey}
use Rattle.stripe_skims.specs.declared.sketches.Sketch.{Sketch}
use Rattle.block_read.specs.declared.checking.Outline.{Outline}
use Rattle.block_read.specs.BlockReadings.{agrees, can_agree, follow, in_file, last_of, starts, stripe_of}
use Rattle.block_read.specs.Sketched.{IsStripe, keyed}
use Rattle.block_read.proofs.ChecksWalk.{KeptSoFar}

-- ---- keys

same_key : (a b : RowKey) → (let o : Option RowKey = Some a in let p : Option RowKey = Some b in o ≡ p) → a ≡ b
same_key a b e = cc

keyed_get : (rows : List Row) (i : ℕ) → keyed (slice_get rows i) ≡ slice_get (map key_of rows) i
keyed_get [] i = refl
keyed_get (row ∷ rows) zero = refl
keyed_get (row ∷ rows) (suc i) = keyed_get rows i

pub last_told : (rows : List Row) (most : ℕ) (key : RowKey) → length rows ≡ most + 1 → slice_get (map key_of rows) most ≡ Some key → keyed (last_of rows) ≡ Some key
last_told rows most key size is =
    let there : length rows - 1 ≡ most = omega (arith, size) in
    ap (λ i. keyed (slice_get rows i)) there ∙ keyed_get rows most ∙ is

pub follows_told : (row : Option Row) (rows : List Row) (last first : RowKey) → keyed row ≡ Some last → slice_get (map key_of rows) 0 ≡ Some first → is_before last first ≡ true → follow row rows ≡ true
follows_told None rows last first is there order = refl
follows_told (Some row) [] last first is there order = refl
follows_told (Some row) (next ∷ rows) last first is there order =
    ap (λ k. is_before k (key_of next)) (same_key (key_of row) last is) ∙ ap (is_before last) (same_key (key_of next) first there) ∙ order

pub none_before : (row : Option Row) (rows : List Row) → keyed row ≡ None → follow row rows ≡ true
none_before None rows is = refl
none_before (Some row) rows is = cc

-- ---- a stripe

long_ids : (extended : Bool) (rows : List Row) → AllByRecursion (IsKeptRow extended) rows → All (λ (id : TraceId). length id.0 ≡ 16) (ids_of rows)
long_ids extended [] all = All-nil (λ (id : TraceId). length id.0 ≡ 16)
long_ids extended (row ∷ rows) all = All-cons (λ (id : TraceId). length id.0 ≡ 16) row.span.trace (ids_of rows) all.0.trace.len (long_ids extended rows all.1)

pub stripe_told : (form : ℕ) (entry : StripeInfo) (row : Option Row) (part moments : List ℕ) (size : ℕ) (s after : Stand) (sketch : Sketch) → can_agree entry ≡ true → s ≡ record { whole = part; at = 0 } → in_part false fixed64_at s ≡ Ok (size, after)
    → (div_ceil (8 + size) 4096 == entry.pages) ≡ true → (told : SketchesAll (stripe_at (is_extended form) part) sketch) → moments ≡ sketch.starts.items → agrees entry moments ≡ true → follow row told.0 ≡ true → StripeHolds form part told.0
    → IsStripe form entry row part sketch
unfolding stripe_of
stripe_told form entry row part moments size s after sketch can is read pages told moments_are agree order holds =
    let first : in_part false fixed64_at (record { whole = part; at = 0 }) ≡ Ok (size, after) = ap (in_part false fixed64_at) (sym is) ∙ read in
    let same : agrees entry (starts told.0) ≡ true = ap (agrees entry) (sym told.2.starts ∙ sym moments_are) ∙ agree in
    record {
      rows = told.0;
      read = rw (can, first, pages, told.1, same, order) refl;
      told = told.2;
      few = holds.rows_are.few;
      long = long_ids (is_extended form) told.0 holds.rows_are.each;
    }

-- ---- the walk

pub placed_told : (base : ℕ) (part now : List ℕ) (form : ℕ) (entry : StripeInfo) (last : Option Row) (rows : List Row) → now ≡ part → stripe_of form entry last now ≡ Ok rows → in_file base part (stripe_of form entry last part) ≡ Ok rows
placed_told base part now form entry last rows is read = ap (λ (p : List ℕ). in_file base part (stripe_of form entry last p)) (sym is) ∙ ap (in_file base part) read

-- What is kept so far, and the row with the key that the next stripe comes after.
pub record SketchedSoFar (whole : Result (List Row) ℕ) (form : ℕ) (stripes : List StripeInfo) (i : ℕ) (key : Option RowKey) (bytes : List ℕ) (found : Outline) : Type 0 where
  pub last : Option Row
  pub keyed_is : keyed last ≡ key
  pub kept : KeptSoFar whole form stripes i last bytes found

pub form_told : (old new : ℕ) (rows : List Row) (sketch : Sketch) → IsSketch rows sketch → new ≡ max old (cond sketch.rich 2 1) → new ≡ max old (form_of_rows rows)
form_told old new rows sketch told is = is ∙ ap (λ b. max old (cond b 2 1)) told.rich
