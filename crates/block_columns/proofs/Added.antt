-- Encodings add new values to the table, and nothing else.
use Rattle.std.proofs.Common.{◌≡◌, ℕ, Bool, true, false, cond, List, [], ◌∷◌, ◌++◌, length, map, append_assoc, refl, sym, ap, subst, ◌∙◌}
use Rattle.std.specs.List.{list_any, AllByRecursion}
use Rattle.std.proofs.lemmas.List.{append-nil}
use Rattle.block_columns.specs.Tables.{AllAfter, IsNew}
use Rattle.block_columns.specs.ColumnEncodings.{Encoding, plain, reference, pair, column, counted, both}
use Rattle.block_columns.specs.ColumnLaws.{Begins, Adds, AddsNew, IsColumn, IsBoth, IsPair}

module _ {T : Type 0} (same : T → T → Bool) (P : T → Type 0) where
  pub adds_none : (t : List T) → Adds same P t t
  adds_none t = record { more = []; is = sym (append-nil t); fresh = tt; each = tt }

  new_append : (before xs ys : List T) → AllAfter (IsNew same) before xs → AllAfter (IsNew same) (before ++ xs) ys → AllAfter (IsNew same) before (xs ++ ys)
  new_append before [] ys p q = subst (λ (l : List T). AllAfter (IsNew same) l ys) (append-nil before) q
  new_append before (x ∷ xs) ys p q = (p.0, new_append (before ++ x ∷ []) xs ys p.1 (subst (λ (l : List T). AllAfter (IsNew same) l ys) (sym (append_assoc before (x ∷ []) xs)) q))

  all_append : (xs ys : List T) → AllByRecursion P xs → AllByRecursion P ys → AllByRecursion P (xs ++ ys)
  all_append [] ys p q = q
  all_append (x ∷ xs) ys p q = (p.0, all_append xs ys p.1 q)

  pub adds_then : (a b c : List T) → Adds same P a b → Adds same P b c → Adds same P a c
  adds_then a b c p q = record {
    more = p.more ++ q.more;
    is = q.is ∙ ap (λ (l : List T). l ++ q.more) p.is ∙ append_assoc a p.more q.more;
    fresh = new_append a p.more q.more p.fresh (subst (λ (l : List T). AllAfter (IsNew same) l q.more) p.is q.fresh);
    each = all_append p.more q.more p.each q.each;
  }

  pub adds_begins : (old new : List T) → Adds same P old new → Begins old new
  adds_begins old new a = record { rest = a.more; is = a.is }

  pub adds_reference : AddsNew same P (reference same) P
  adds_reference x t fits = by (list_any (same x) t) refl
    where
      by : (b : Bool) → list_any (same x) t ≡ b → Adds same P t (cond b t (t ++ x ∷ []))
      by true is = adds_none t
      by false is = record { more = x ∷ []; is = refl; fresh = (is, tt); each = (fits, tt) }

  pub adds_pair : {A B : Type 0} (first : Encoding T A) (second : Encoding T B) (Left : A → Type 0) (Right : B → Type 0)
      → AddsNew same P first Left → AddsNew same P second Right → AddsNew same P (pair first second) (IsPair Left Right)
  unfolding pair
  adds_pair first second Left Right on_first on_second x t fits =
      adds_then t (first x.0 t).1 _ (on_first x.0 t fits.0) (on_second x.1 (first x.0 t).1 fits.1)

  -- items that can be kept after those before them
  pub adds_items : {A : Type 0} (encode : Encoding T A) (Good : List A → A → Type 0) → ((before : List A) → AddsNew same P encode (Good before))
      → (before xs : List A) (t : List T) → AllAfter Good before xs → Adds same P t (column encode xs t).1
  unfolding column
  adds_items encode Good adds before [] t fits = adds_none t
  adds_items encode Good adds before (x ∷ xs) t fits = adds_then t (encode x t).1 _ (adds before x t fits.0) (adds_items encode Good adds (before ++ x ∷ []) xs (encode x t).1 fits.1)

  pub adds_both : {A B : Type 0} (left : Encoding T (List A)) (right : Encoding T (List B)) (Left : ℕ → List A → Type 0) (Right : ℕ → List B → Type 0) (n : ℕ)
      → AddsNew same P left (Left n) → AddsNew same P right (Right n) → AddsNew same P (both left right) (IsBoth Left Right n)
  unfolding both
  adds_both {A} {B} left right Left Right n on_left on_right rows t fits =
      let xs = map (λ (r : A × B). r.0) rows in
      adds_then t (left xs t).1 _ (on_left xs t fits.0) (on_right (map (λ (r : A × B). r.1) rows) (left xs t).1 fits.1)

pub all_after : {A : Type 0} (P : A → Type 0) (before xs : List A) → AllByRecursion P xs → AllAfter (λ _. P) before xs
all_after P before [] all = tt
all_after P before (x ∷ xs) all = (all.0, all_after P (before ++ x ∷ []) xs all.1)

pub each_of : {A : Type 0} (P : A → Type 0) (before xs : List A) → AllAfter (λ _. P) before xs → AllByRecursion P xs
each_of P before [] all = tt
each_of P before (x ∷ xs) all = (all.0, each_of P (before ++ x ∷ []) xs all.1)
