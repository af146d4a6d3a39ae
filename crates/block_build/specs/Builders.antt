-- ---- what a builder has taken
use Rattle.std.specs.Prelude.{◌≡◌, ℕ, max, ◌<◌, ◌≤◌, ◌==◌, true, IsTrue, List, [], ◌∷◌, ◌++◌, length}
use Rattle.std.specs.List.{list_all}
use Rattle.span_types.specs.declared.spans.Row.{Row}
use Rattle.block_info.specs.declared.info.StripeInfo.{StripeInfo}
use Rattle.block_format.specs.Blocks.{StripeHasEntry, StripesHaveEntries, form_of_rows, ids_of}
use Rattle.block_format.specs.Headers.{HasRows}
use Rattle.block_stripes.specs.StripeReadings.{ascend}
use Rattle.block_stripes.specs.Stripes.{has_form, is_extended}
use Rattle.block_build.specs.declared.builder.Builder.{Builder}

-- Stripes of these rows: whatever stripes come after them, all together are stripes of all rows.
abbrev pub HasStripes : ℕ → List StripeInfo → List ℕ → List Row → Type 0
HasStripes form stripes body rows = (later : List StripeInfo) (more : List ℕ) (rest : List Row) → StripesHaveEntries form later more rest
    → StripesHaveEntries form (stripes ++ later) (body ++ more) (rows ++ rest)

-- Some of the rows are written, and the others wait for their stripe to be full.
pub record HasTaken (builder : Builder) (rows : List Row) : Type 0 where
  pub written : List Row
  pub rows_are : rows ≡ written ++ builder.rows.items
  pub stripes : HasStripes builder.form builder.stripes.items builder.body.items written
  pub ids : builder.ids ≡ ids_of written
  pub wanted : builder.wanted ≡ form_of_rows written

-- Rows in block order, for each of which the form has bytes.
pub record AreFit (form : ℕ) (rows : List Row) : Type 0 where
  pub order : ascend rows ≡ true
  pub fits : list_all (has_form (is_extended form)) rows ≡ true

-- These rows were added to the builder, if it is sure of its block, which it is where they fit its form.
pub record Holds (builder : Builder) (rows : List Row) : Type 0 where
  pub has : IsTrue builder.sure → HasTaken builder rows
  pub sure : AreFit builder.form rows → IsTrue builder.sure

-- each of these stripes has as many rows as a stripe has at most
abbrev pub AreFull : List StripeInfo → Type 0
AreFull [] = Unit {0}
AreFull (stripe ∷ stripes) = (stripe.rows ≡ 256) × AreFull stripes

-- each of these stripes but the last has 256 rows, and the last 1 to 256
abbrev pub AreCounted : List StripeInfo → Type 0
AreCounted [] = Unit {0}
AreCounted (stripe ∷ stripes) = HasRows (length stripes == 0) stripe.rows × AreCounted stripes

-- Full stripes are written, and fewer rows wait than another one has.
pub record IsEven (builder : Builder) : Type 0 where
  pub full : AreFull builder.stripes.items
  pub few : length builder.rows.items < 256

-- These rows were added to the builder one by one.
pub record Takes (builder : Builder) (rows : List Row) : Type 0 where
  pub holds : Holds builder rows
  pub even : IsTrue builder.sure → IsEven builder

-- The form that the builder's block is to have.
abbrev pub HasForm : Builder → ℕ → Type 0
HasForm builder form = builder.form ≡ form

-- All rows that were added are written, and none wait.
pub record IsWritten (old new : Builder) : Type 0 where
  pub form : new.form ≡ old.form
  pub none : new.rows.items ≡ []
  pub sure : IsTrue new.sure → IsTrue old.sure
  pub holds : (rows : List Row) → (IsTrue old.sure → length old.rows.items ≤ 256) → Holds old rows → Holds new rows
  pub full : IsTrue new.sure → length old.rows.items ≡ 256 → AreFull old.stripes.items → AreFull new.stripes.items
  pub counted : IsTrue new.sure → length old.rows.items ≤ 256 → AreFull old.stripes.items → AreCounted new.stripes.items

-- A stripe of these rows was put after the others. The rows that wait are as before.
pub record Puts (old : Builder) (rows : List Row) (new : Builder) : Type 0 where
  pub entry : StripeInfo
  pub stripe : List ℕ
  pub has : StripeHasEntry old.form entry stripe rows
  pub form : new.form ≡ old.form
  pub waiting : new.rows.items ≡ old.rows.items
  pub stripes : new.stripes.items ≡ old.stripes.items ++ entry ∷ []
  pub body : new.body.items ≡ old.body.items ++ stripe
  pub ids : new.ids ≡ old.ids ++ ids_of rows
  pub wanted : new.wanted ≡ max old.wanted (form_of_rows rows)
  pub sure : new.sure ≡ old.sure
