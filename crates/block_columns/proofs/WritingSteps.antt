-- What the calls of the writer come to.
use Rattle.std.proofs.Common.{◌≡◌, ◌^◌, ℕ, suc, ◌+◌, Bool, true, false, ◌||◌, cond, List, [], ◌∷◌, ◌++◌, map, take, get_or, length, ◌<◌, append_assoc, refl, sym, ap, ◌∙◌, arith}
use Rattle.std.specs.List.{position_or_len, list_any, AllByRecursion}
use Rattle.std.proofs.lemmas.List.{map-append, append-nil, length-map, take_more}
use Rattle.byte_fields.specs.Spelling.{var_bytes}
use Rattle.byte_fields.specs.Sound.{AreSound}
use Rattle.block_columns.specs.ColumnEncodings.{Encoded, Encoding, plain, reference, column, columns, counted, wrote}
use Rattle.block_columns.proofs.Numbering.{position_step}

module _ {A B : Type 0} (f : A → B) (p : A → Bool) (q : B → Bool) (same : (a : A) → q (f a) ≡ p a) where
  any_seen : (ks : List A) → list_any q (map f ks) ≡ list_any p ks
  any_seen [] = refl
  any_seen (k ∷ ks) = rw (same k, any_seen ks) refl

  position_seen : (ks : List A) → position_or_len q (map f ks) ≡ position_or_len p ks
  position_seen [] = refl
  position_seen (k ∷ ks) = rw (position_step q (f k) (map f ks), position_step p k ks, same k, position_seen ks) refl

  added_seen : (ks : List A) (x : A) → map f (cond (list_any p ks) ks (ks ++ x ∷ [])) ≡ cond (list_any q (map f ks)) (map f ks) (map f ks ++ f x ∷ [])
  added_seen ks x = rw (any_seen ks) (by (list_any p ks))
    where
      by : (b : Bool) → map f (cond b ks (ks ++ x ∷ [])) ≡ cond b (map f ks) (map f ks ++ f x ∷ [])
      by true = refl
      by false = map-append f ks (x ∷ [])

-- what is written of a value that is seen by a view
pub referenced : {A B : Type 0} (f : A → B) (same : B → B → Bool) (p : A → Bool) (x : A) → ((a : A) → same (f x) (f a) ≡ p a) → (ks new : List A) (out after : List ℕ) (n : ℕ)
    → n ≡ position_or_len p ks → new ≡ cond (list_any p ks) ks (ks ++ x ∷ []) → after ≡ out ++ var_bytes n → (let r : Encoded B = (after, map f new) in r ≡ wrote (reference same) (f x) (out, map f ks))
referenced {A} {B} f same p x is ks new out after n number keys written =
    let q = same (f x) in
    let number_too : n ≡ position_or_len q (map f ks) = number ∙ sym (position_seen f p q is ks) in
    let keys_too : map f new ≡ cond (list_any q (map f ks)) (map f ks) (map f ks ++ f x ∷ []) = ap (map f) keys ∙ added_seen f p q is ks x in
    ap (λ (l : List ℕ). (l, map f new)) (written ∙ ap (λ (k : ℕ). out ++ var_bytes k) number_too) ∙ ap (λ (t : List B). (out ++ var_bytes (position_or_len q (map f ks)), t)) keys_too

-- ---- columns, as a loop writes them

pub column_none : {T A : Type 0} (encode : Encoding T A) (p : Encoded T) → p ≡ wrote (column encode) [] p
unfolding column
column_none {T} encode p = ap (λ (l : List ℕ). (l, p.1)) (sym (append-nil p.0))

column_first : {T A : Type 0} (encode : Encoding T A) (x : A) (xs : List A) (p : Encoded T) → wrote (column encode) (x ∷ xs) p ≡ wrote (column encode) xs (wrote encode x p)
unfolding column
column_first {T} encode x xs p =
    let a = encode x p.1 in
    let b = column encode xs a.1 in
    ap (λ (l : List ℕ). (l, b.1)) (sym (append_assoc p.0 a.0 b.0))

column_append : {T A : Type 0} (encode : Encoding T A) (xs ys : List A) (p : Encoded T) → wrote (column encode) (xs ++ ys) p ≡ wrote (column encode) ys (wrote (column encode) xs p)
column_append {T} encode [] ys p = ap (λ (q : Encoded T). wrote (column encode) ys q) (column_none encode p)
column_append {T} encode (x ∷ xs) ys p = column_first encode x (xs ++ ys) p ∙ column_append encode xs ys (wrote encode x p) ∙ ap (λ (q : Encoded T). wrote (column encode) ys q) (sym (column_first encode x xs p))

column_one : {T A : Type 0} (encode : Encoding T A) (x : A) (p : Encoded T) → wrote (column encode) (x ∷ []) p ≡ wrote encode x p
column_one encode x p = column_first encode x [] p ∙ sym (column_none encode (wrote encode x p))

pub column_more : {T A : Type 0} (encode : Encoding T A) (xs : List A) (i : ℕ) (x : A) (p q r : Encoded T) → i < length xs → x ≡ get_or xs i x → q ≡ wrote (column encode) (take i xs) p → r ≡ wrote encode x q → r ≡ wrote (column encode) (take (i + 1) xs) p
column_more {T} {A} encode xs i x p q r lt is before now =
    let more : take (i + 1) xs ≡ take i xs ++ x ∷ [] = take_more xs i x lt ∙ ap (λ (y : A). take i xs ++ y ∷ []) (sym is) in
    now ∙ ap (λ (o : Encoded T). wrote encode x o) before ∙ sym (column_one encode x (wrote (column encode) (take i xs) p)) ∙ sym (column_append encode (take i xs) (x ∷ []) p) ∙ ap (λ (l : List A). wrote (column encode) l p) (sym more)

-- ---- columns of rows, in groups

pub columns_append : {T A : Type 0} (first later : List (Encoding T (List A))) (rows : List A) (p : Encoded T) → wrote (columns (first ++ later)) rows p ≡ wrote (columns later) rows (wrote (columns first) rows p)
unfolding columns
columns_append {T} [] later rows p = ap (λ (l : List ℕ). wrote (columns later) rows (l, p.1)) (sym (append-nil p.0))
columns_append {T} (c ∷ first) later rows p =
    let a = c rows p.1 in
    let b = columns (first ++ later) rows a.1 in
    let d = columns first rows a.1 in
    ap (λ (l : List ℕ). (l, b.1)) (sym (append_assoc p.0 a.0 b.0)) ∙ columns_append first later rows (p.0 ++ a.0, a.1)
    ∙ ap (λ (l : List ℕ). wrote (columns later) rows (l, d.1)) (append_assoc p.0 a.0 d.0)

-- ---- a table of borrowed values

column_seen : {T A B : Type 0} (view : B → A) (encode : Encoding T A) (keys : List B) (t : List T) → column (λ k. encode (view k)) keys t ≡ column encode (map view keys) t
unfolding column
column_seen view encode [] t = refl
column_seen {T} view encode (k ∷ keys) t = ap (λ (b : Encoded T). ((encode (view k) t).0 ++ b.0, b.1)) (column_seen view encode keys (encode (view k) t).1)

pub counted_seen : {T A B : Type 0} (view : B → A) (encode : Encoding T A) (keys : List B) (p q : Encoded T) → q ≡ wrote (counted (λ k. encode (view k))) keys p → q ≡ wrote (counted encode) (map view keys) p
unfolding counted
counted_seen {T} view encode keys p q e =
    e ∙ ap (λ (b : Encoded T). (p.0 ++ (var_bytes (length keys) ++ b.0), b.1)) (column_seen view encode keys p.1)
    ∙ ap (λ (n : ℕ). (p.0 ++ (var_bytes n ++ (column encode (map view keys) p.1).0), (column encode (map view keys) p.1).1)) (sym (length-map keys view))

all_seen : {A B : Type 0} (view : B → A) (P : A → Type 0) (keys : List B) → AllByRecursion (λ k. P (view k)) keys → AllByRecursion P (map view keys)
all_seen view P [] all = tt
all_seen view P (k ∷ keys) all = (all.0, all_seen view P keys all.1)

pub sound_seen : {A B : Type 0} (view : B → A) (P : A → Type 0) (keys : List B) → AreSound (λ k. P (view k)) keys → AreSound P (map view keys)
sound_seen view P keys are = record { each = all_seen view P keys are.each; few = omega (arith, are.few, length-map keys view) }
