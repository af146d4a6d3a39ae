-- Columns of rows, and columns of their cells.
use Rattle.std.proofs.Common.{◌≡◌, ℕ, suc, Bool, List, [], ◌∷◌, ◌++◌, length, map, Result, Ok, refl, sym, ap, subst, ◌∙◌}
use Rattle.std.specs.List.{AllByRecursion}
use Rattle.std.proofs.lemmas.List.{append-nil, length-map}
use Rattle.byte_fields.specs.Reading.{◌>>=◌}
use Rattle.byte_fields.proofs.Meant.{Bound, bound}
use Rattle.block_columns.specs.ColumnReadings.{Spot, Read, beside, both_at, column_at}
use Rattle.block_columns.specs.ColumnEncodings.{Encoded, Encoding, both, column, columns, first_uses, followed}
use Rattle.block_columns.specs.ColumnLaws.{read_to, IsBoth, IsColumn}
use Rattle.block_columns.proofs.Added.{each_of}
use Rattle.block_columns.proofs.Basics.{same_read}
use Rattle.block_columns.proofs.ReadingSteps.{GoodItems, items_good}
use Rattle.block_columns.proofs.References.{IsOwners}

pub column_of : {T R A : Type 0} (get : R → A) (encode : Encoding T A) (rows : List R) (t : List T) → column (λ r. encode (get r)) rows t ≡ column encode (map get rows) t
unfolding column
column_of get encode [] t = refl
column_of {T} get encode (r ∷ rows) t = ap (λ (b : Encoded T). ((encode (get r) t).0 ++ b.0, b.1)) (column_of get encode rows (encode (get r) t).1)

pub map_twice : {R A B : Type 0} (f : A → B) (g : R → A) (rows : List R) → map f (map g rows) ≡ map (λ r. f (g r)) rows
map_twice f g [] = refl
map_twice {R} {A} {B} f g (r ∷ rows) = ap (λ (l : List B). f (g r) ∷ l) (map_twice f g rows)

-- ---- bytes

-- the bytes of cells are those of their rows
pub record Seam {T R A : Type 0} (get : R → A) (cells : Encoding T (List A)) (by : Encoding T (List R)) : Type 0 where
  pub is : (rows : List R) (t : List T) → cells (map get rows) t ≡ by rows t

pub seam_column : {T R A : Type 0} (get : R → A) (encode : Encoding T A) → Seam get (column encode) (column (λ r. encode (get r)))
seam_column get encode = record { is = λ rows t. sym (column_of get encode rows t) }

pub seam_last : {T R A : Type 0} {get : R → A} {cells : Encoding T (List A)} {by : Encoding T (List R)} → Seam get cells by → Seam get cells (columns (by ∷ []))
unfolding columns
seam_last {T} {R} {A} {get} {cells} {by} seam = record { is = is }
  where
    is : (rows : List R) (t : List T) → cells (map get rows) t ≡ columns (by ∷ []) rows t
    is rows t = seam.is rows t ∙ ap (λ (l : List ℕ). (l, (by rows t).1)) (sym (append-nil (by rows t).0))

pub seam_first : {T R A B : Type 0} {f : R → A} {g : R → B} {left : Encoding T (List A)} {right : Encoding T (List B)} {first : Encoding T (List R)} (later : List (Encoding T (List R)))
    → Seam f left first → Seam g right (columns later) → Seam (λ r. (f r, g r)) (both left right) (columns (first ∷ later))
unfolding both columns
seam_first {T} {R} {A} {B} {f} {g} {left} {right} {first} later seam more = record { is = is }
  where
    is : (rows : List R) (t : List T) → both left right (map (λ r. (f r, g r)) rows) t ≡ columns (first ∷ later) rows t
    is rows t =
        let pair : R → A × B = λ r. (f r, g r) in
        rw (map_twice (λ (c : A × B). c.0) pair rows, map_twice (λ (c : A × B). c.1) pair rows, seam.is rows t, more.is rows (first rows t).1) refl

-- ---- what can be kept

-- the cells can be kept exactly where this is so of the rows
pub record Kept {R A : Type 0} (rows : List R) (get : R → A) (Fits : ℕ → List A → Type 0) (IsSo : Type 0) : Type 0 where
  pub to : IsSo → Fits (length rows) (map get rows)
  pub from : (n : ℕ) → Fits n (map get rows) → IsSo

pub all_cells : {R A : Type 0} (get : R → A) (P : A → Type 0) (rows : List R) → AllByRecursion (λ r. P (get r)) rows → AllByRecursion P (map get rows)
all_cells get P [] all = tt
all_cells get P (r ∷ rows) all = (all.0, all_cells get P rows all.1)

all_rows : {R A : Type 0} (get : R → A) (P : A → Type 0) (rows : List R) → AllByRecursion P (map get rows) → AllByRecursion (λ r. P (get r)) rows
all_rows get P [] all = tt
all_rows get P (r ∷ rows) all = (all.0, all_rows get P rows all.1)

module _ {R : Type 0} (rows : List R) where
  pub kept_column : {A : Type 0} (get : R → A) (P : A → Type 0) → Kept rows get (IsColumn P) (AllByRecursion (λ r. P (get r)) rows)
  kept_column get P = record { to = λ all. (length-map rows get, all_cells get P rows all); from = λ n is. all_rows get P rows is.1 }

  pub kept_owners : {A : Type 0} (get : R → A) (same : A → A → Bool) (P : A → Type 0) (table : List A) → Kept rows get (IsOwners same P table) (AllByRecursion (λ r. P (get r)) rows × (first_uses same (map get rows) ≡ table))
  kept_owners get same P table = record {
    to = λ so. record { all = (length-map rows get, all_cells get P rows so.0); table_is = so.1 };
    from = λ n is. (all_rows get P rows is.all.1, is.table_is);
  }

  pub kept_both : {A B : Type 0} {f : R → A} {g : R → B} {Left : ℕ → List A → Type 0} {Right : ℕ → List B → Type 0} {P Q : Type 0}
      → Kept rows f Left P → Kept rows g Right Q → Kept rows (λ r. (f r, g r)) (IsBoth Left Right) (P × Q)
  kept_both {A} {B} {f} {g} {Left} {Right} p q =
      let pair : R → A × B = λ r. (f r, g r) in
      let lefts = map_twice (λ (c : A × B). c.0) pair rows in
      let rights = map_twice (λ (c : A × B). c.1) pair rows in
      record {
        to = λ so. (subst (Left (length rows)) (sym lefts) (p.to so.0), subst (Right (length rows)) (sym rights) (q.to so.1));
        from = λ n is. (p.from n (subst (Left n) lefts is.0), q.from n (subst (Right n) rights is.1));
      }

-- ---- what is so of all rows

pub all_same : {R : Type 0} (P Q : R → Type 0) → ((r : R) → P r → Q r) → (rows : List R) → AllByRecursion P rows → AllByRecursion Q rows
all_same P Q more [] all = tt
all_same P Q more (r ∷ rows) all = (more r all.0, all_same P Q more rows all.1)

pub all_both : {R : Type 0} (P Q : R → Type 0) (rows : List R) → AllByRecursion P rows → AllByRecursion Q rows → AllByRecursion (λ r. P r × Q r) rows
all_both P Q [] ps qs = tt
all_both P Q (r ∷ rows) ps qs = ((ps.0, qs.0), all_both P Q rows ps.1 qs.1)

-- what is so of each row that columns give
pub record GoodColumn {A : Type 0} (read : ℕ → Read (List A)) (P : A → Type 0) : Type 0 where
  pub good : (n : ℕ) (s : Spot) (xs : List A) (t : Spot) → read n s ≡ read_to xs t → AllByRecursion P xs

pub good_values : {A : Type 0} {read : Read A} {P : A → Type 0} → ((s : Spot) (x : A) (t : Spot) → read s ≡ read_to x t → P x) → GoodColumn (column_at read) P
good_values {A} {read} {P} one = record {
  good = λ n s xs t e.
      let all = items_good (λ _. read) (λ _. P) (λ before. one) n [] s xs t e in
      subst (λ (l : List A). AllByRecursion P l) (sym all.is) (each_of P [] all.more all.good);
}

pub good_any : {A : Type 0} {read : ℕ → Read (List A)} → GoodColumn read (λ _. Unit {0})
good_any {A} {read} = record { good = λ n s xs t e. any xs }
  where
    any : (xs : List A) → AllByRecursion (λ _. Unit {0}) xs
    any [] = tt
    any (x ∷ xs) = (tt, any xs)

all_beside : {A B : Type 0} (P : A → Type 0) (Q : B → Type 0) (xs : List A) (ys : List B) → AllByRecursion P xs → AllByRecursion Q ys → AllByRecursion (λ r. P r.0 × Q r.1) (beside xs ys)
all_beside P Q [] ys ps qs = tt
all_beside P Q (x ∷ xs) [] ps qs = tt
all_beside P Q (x ∷ xs) (y ∷ ys) ps qs = ((ps.0, qs.0), all_beside P Q xs ys ps.1 qs.1)

pub good_both : {A B : Type 0} {left : ℕ → Read (List A)} {right : ℕ → Read (List B)} {P : A → Type 0} {Q : B → Type 0}
    → GoodColumn left P → GoodColumn right Q → GoodColumn (both_at left right) (λ r. P r.0 × Q r.1)
unfolding both_at
good_both {A} {B} {left} {right} {P} {Q} p q = record { good = good }
  where
    good : (n : ℕ) (s : Spot) (rows : List (A × B)) (t : Spot) → both_at left right n s ≡ read_to rows t → AllByRecursion (λ r. P r.0 × Q r.1) rows
    good n s rows t e =
        let a = bound (left n s) (λ xs. right n xs.1 >>= λ ys. Ok (beside xs.0 ys.0, ys.1)) (rows, t) e in
        let b = bound (right n a.value.1) (λ ys. Ok (beside a.value.0 ys.0, ys.1)) (rows, t) a.last in
        let same = same_read (beside a.value.0 b.value.0) rows b.value.1 t b.last in
        subst (AllByRecursion (λ r. P r.0 × Q r.1)) same.0 (all_beside P Q a.value.0 b.value.0 (p.good n s a.value.0 a.value.1 a.first) (q.good n a.value.1 b.value.0 b.value.1 b.first))
