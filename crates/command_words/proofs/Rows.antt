-- Rows of matches that follow one another, one for each argument that was given.
use Rattle.std.proofs.Common.{◌≡◌, ◌∙◌, ◌||◌, Bool, true, false, List, [], ◌∷◌, ◌++◌, Option, Some, None, refl, ap}
use Rattle.std.specs.Prelude.{find, option_and_then, slice_get, if◌then◌else◌}
use Rattle.std.specs.Option.{option_map_or}
use Rattle.std.specs.Str.{bytes_eq}
use Rattle.std.proofs.lemmas.List.Folds.{list_any-append}
use Rattle.clap.specs.Facts.{explicit_source}
use Rattle.clap.specs.Takes.{is_given}
use Rattle.clap.specs.Values.{reading_of}
use Rattle.clap.specs.Walk.{Row, Text, first_of, has_row, more_values, with_values, without}
use Rattle.clap.specs.declared.builder.value_parser.Reading.{Reading}
use Rattle.clap.specs.declared.builder.value_parser.ValueParser.TheVariants as vp
use Rattle.clap.specs.declared.parser.matches.ValueSource.{ValueSource}
use Rattle.clap.specs.declared.parser.matches.ValueSource.TheVariants.{CommandLine}

-- The row of an argument that the words give once, with this value.
abbrev pub row : Text → Text → Row
row name value = record { id = name; values = value ∷ []; count = None; source = Some CommandLine; reading = reading_of vp.String }

-- The row of an argument that may be given.
abbrev pub rows_for : Text → Option Text → List Row
rows_for name None = []
rows_for name (Some value) = row name value ∷ []

-- ---- a use of an argument that has no row

without_none : (id : Text) (rows : List Row) → has_row id rows ≡ false → without id rows ≡ rows
without_none id [] fresh = refl
without_none id (r ∷ rs) fresh = go (bytes_eq r.id id) (without_none id rs) fresh
  where
    go : (b : Bool) → (has_row id rs ≡ false → without id rs ≡ rs) → (b || has_row id rs) ≡ false → (if b then [] ++ rs else r ∷ without id rs) ≡ r ∷ rs
    go true more fresh = cc
    go false more fresh = ap (λ (xs : List Row). r ∷ xs) (more fresh)

with_last : (id : Text) (how : Reading) (s : ValueSource) (values : List Text) (rows : List Row) → has_row id rows ≡ false
    → with_values id how s values rows ≡ rows ++ with_values id how s values []
with_last id how s values [] fresh = refl
with_last id how s values (r ∷ rs) fresh = go (bytes_eq r.id id) (with_last id how s values rs) fresh
  where
    go : (b : Bool) → (has_row id rs ≡ false → with_values id how s values rs ≡ rs ++ with_values id how s values [])
        → (b || has_row id rs) ≡ false → (if b then more_values s values r ++ rs else r ∷ with_values id how s values rs) ≡ r ∷ (rs ++ with_values id how s values [])
    go true more fresh = cc
    go false more fresh = ap (λ (xs : List Row). r ∷ xs) (more fresh)

-- The row is put after the others.
pub set_last : (name : Text) (how : Reading) (value : Text) (rows : List Row) → has_row name rows ≡ false
    → with_values name how CommandLine (value ∷ []) (without name rows) ≡ rows ++ with_values name how CommandLine (value ∷ []) []
set_last name how value rows fresh =
    ap (with_values name how CommandLine (value ∷ [])) (without_none name rows fresh) ∙ with_last name how CommandLine (value ∷ []) rows fresh

-- ---- what is found among rows

-- what is found first with the id
abbrev found : Text → List Row → Option Row
found id rows = find (λ r. bytes_eq r.id id) rows

-- Of rows without the id and more rows, what is found stands among the latter.
found_later : (id : Text) (rows more : List Row) → has_row id rows ≡ false → found id (rows ++ more) ≡ found id more
found_later id [] more fresh = refl
found_later id (r ∷ rs) more fresh = go (bytes_eq r.id id) (found_later id rs more) fresh
  where
    go : (b : Bool) → (has_row id rs ≡ false → found id (rs ++ more) ≡ found id more)
        → (b || has_row id rs) ≡ false → (if b then Some r else found id (rs ++ more)) ≡ found id more
    go true rest fresh = cc
    go false rest fresh = rest fresh

-- Rows without the id after others change nothing.
found_kept : (id : Text) (rows more : List Row) → has_row id more ≡ false → found id (rows ++ more) ≡ found id rows
found_kept id [] [] fresh = refl
found_kept id [] (r ∷ rs) fresh = go (bytes_eq r.id id) (found_kept id [] rs) fresh
  where
    go : (b : Bool) → (has_row id rs ≡ false → found id rs ≡ None) → (b || has_row id rs) ≡ false → (if b then Some r else found id rs) ≡ None
    go true rest fresh = cc
    go false rest fresh = rest fresh
found_kept id (r ∷ rs) more fresh = ap (λ (o : Option Row). if bytes_eq r.id id then Some r else o) (found_kept id rs more fresh)

pub first_later : (id : Text) (rows more : List Row) → has_row id rows ≡ false → first_of id (rows ++ more) ≡ first_of id more
first_later id rows more fresh = ap (option_and_then (λ (r : Row). slice_get r.values 0)) (found_later id rows more fresh)

pub given_later : (id : Text) (rows more : List Row) → has_row id rows ≡ false → is_given id (rows ++ more) ≡ is_given id more
given_later id rows more fresh = ap (λ (o : Option Row). option_map_or (λ (r : Row). explicit_source r.source) o false) (found_later id rows more fresh)

-- Another argument's row is not looked at.
other_row : (id name : Text) (given : Option Text) → bytes_eq name id ≡ false → has_row id (rows_for name given) ≡ false
other_row id name None other = refl
other_row id name (Some value) other = rw other refl

pub first_kept : (id name : Text) (given : Option Text) (rows : List Row) → bytes_eq name id ≡ false → first_of id (rows ++ rows_for name given) ≡ first_of id rows
first_kept id name given rows other =
    ap (option_and_then (λ (r : Row). slice_get r.values 0)) (found_kept id rows (rows_for name given) (other_row id name given other))

pub still_fresh : (id name : Text) (given : Option Text) (rows : List Row) → bytes_eq name id ≡ false → has_row id rows ≡ false
    → has_row id (rows ++ rows_for name given) ≡ false
still_fresh id name given rows other fresh =
    list_any-append (λ (r : Row). bytes_eq r.id id) rows (rows_for name given) ∙ rw (fresh, other_row id name given other) refl

-- What is found of the argument itself.
pub first_own : (name : Text) (given : Option Text) (rows : List Row) → bytes_eq name name ≡ true → has_row name rows ≡ false → first_of name (rows ++ rows_for name given) ≡ given
first_own name given rows same fresh = first_later name rows (rows_for name given) fresh ∙ go given
  where
    go : (given : Option Text) → first_of name (rows_for name given) ≡ given
    go None = refl
    go (Some value) = rw same refl
