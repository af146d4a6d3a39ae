-- How a text is looked for among those that a stripe begins with.
use Rattle.std.proofs.Common.{◌≡◌, ℕ, zero, suc, ◌+◌, ◌-◌, ◌<◌, Bool, true, false, cond, List, [], ◌∷◌, ◌++◌, take, Result, Ok, Err, refl, sym, ◌∙◌, ap, subst, arith}
use Rattle.std.specs.List.{list_any}
use Rattle.std.specs.Str.{is_utf8}
use Rattle.byte_fields.specs.declared.error.FieldError.{FieldError}
use Rattle.byte_fields.specs.Reading.{Stand, ◌>>=◌, fixed64_at, raw_at, text_at, var_at}
use Rattle.byte_fields.specs.Breaks.{in_part, or_place}
use Rattle.byte_fields.proofs.Meant.{bound}
use Rattle.block_columns.specs.ColumnLaws.{read_to}
use Rattle.block_columns.specs.ColumnReadings.{Spot, column_at, field, items_at, number_at}
use Rattle.block_columns.proofs.Basics.{same_read}
use Rattle.block_columns.proofs.MeantParts.{at_spot_ok}
use Rattle.block_stripes.specs.StripeReadings.{content_part, whole_text_at}
use Rattle.block_stripes.specs.StripeStarts.{content_spot}
use Rattle.column_scan.specs.StripeTexts.{IsNext, IsNextCount, IsNextText, texts_of}

-- ---- fields, wherever their part ends

same_ok : {A E : Type 0} (x y : A) → (let r : Result A E = Ok x in let q : Result A E = Ok y in r ≡ q) → x ≡ y
same_ok x y e = cc

out_of_part : {A : Type 0} (within : Bool) (read : Stand → Result (A × Stand) FieldError) (s : Stand) (x : A × Stand) → in_part within read s ≡ Ok x → read s ≡ Ok x
unfolding in_part
out_of_part {A} within read s x e = of_place (read s) e
  where
    of_place : (r : Result (A × Stand) FieldError) → or_place within s r ≡ Ok x → r ≡ Ok x
    of_place (Ok y) is = ap (λ (z : A × Stand). (let r : Result (A × Stand) FieldError = Ok z in r)) (same_ok y x is)
    of_place (Err e) is = cc

pub in_some_part : {A : Type 0} (within : Bool) (read : Stand → Result (A × Stand) FieldError) (s : Stand) (x : A × Stand) → read s ≡ Ok x → in_part within read s ≡ Ok x
unfolding in_part
in_some_part within read s x is = rw is refl

-- a field that is read there, whatever it says where it can't be
pub next_field : {A : Type 0} (read : Stand → Result (A × Stand) FieldError) (old : Stand) (x : A) (new : Stand) → read old ≡ Ok (x, new) → IsNext (field (λ within. in_part within read)) old x new
unfolding field
next_field {A} read old x new is s t y here e =
    let got = at_spot_ok s (in_part s.within read s.stand) y t e in
    let there : read old ≡ Ok (y, t.stand) = subst (λ (o : Stand). read o ≡ Ok (y, t.stand)) here (out_of_part s.within read s.stand (y, t.stand) got.read) in
    let same : (let a : A × Stand = (y, t.stand) in let b : A × Stand = (x, new) in a ≡ b) = same_ok {E = FieldError} (y, t.stand) (x, new) (sym there ∙ is) in
    (ap (λ (p : A × Stand). p.0) same, ap (λ (p : A × Stand). p.1) same)

-- the bytes of a text, after its length
pub next_text : (old : Stand) (size : ℕ) (middle : Stand) (text : List ℕ) (new : Stand) → var_at old ≡ Ok (size, middle) → raw_at size middle ≡ Ok (text, new) → IsNextText old text new
unfolding field text_at
next_text old size middle text new sized raw s t y here e =
    let got = at_spot_ok s (in_part s.within text_at s.stand) y t e in
    let there : text_at old ≡ Ok (y, t.stand) = subst (λ (o : Stand). text_at o ≡ Ok (y, t.stand)) here (out_of_part s.within text_at s.stand (y, t.stand) got.read) in
    let tested = rw (sized, raw) at there in
    let same = of_test (is_utf8 text) (text, new) (y, t.stand) _ tested in
    (ap (λ (p : List ℕ × Stand). p.0) (sym same), ap (λ (p : List ℕ × Stand). p.1) (sym same))
  where
    of_test : (b : Bool) (x y : List ℕ × Stand) (error : FieldError) → cond b (Ok x) (Err error) ≡ Ok y → x ≡ y
    of_test true x y error is = same_ok {E = FieldError} x y is
    of_test false x y error is = cc

-- ---- where the texts stand

-- a reader of the content, after its length
pub content_there : (bytes : List ℕ) (old new reader : Stand) (size : ℕ) → old ≡ record { whole = bytes; at = 0 } → fixed64_at old ≡ Ok (size, new) → reader ≡ record { whole = take (8 + size) bytes; at = 8 }
    → (s : Spot) → content_spot bytes ≡ Ok s → s.stand ≡ reader
unfolding content_spot in_part
content_there bytes old new reader size begins sized is s e =
    let there : fixed64_at (record { whole = bytes; at = 0 }) ≡ Ok (size, new) = subst (λ (o : Stand). fixed64_at o ≡ Ok (size, new)) begins sized in
    let found = rw there at e in
    let same : content_part bytes size ≡ s = same_ok {E = ℕ} (content_part bytes size) s found in
    ap (λ (u : Spot). u.stand) (sym same) ∙ sym is

-- ---- text after text

-- Where the texts can be read: so many are left to be read, and none of those before them is so.
pub record AreLeft (p : List ℕ → Bool) (texts : List (List ℕ)) (n : ℕ) (reader : Stand) : Type 0 where
  before : List (List ℕ)
  from : Spot
  to : Spot
  here : from.stand ≡ reader
  read : items_at (λ _. whole_text_at) n before from ≡ read_to texts to
  none : list_any p before ≡ false

any_more : {X : Type 0} (p : X → Bool) (xs ys : List X) → list_any p xs ≡ true → list_any p (xs ++ ys) ≡ true
any_more p [] ys is = cc
any_more {X} p (x ∷ xs) ys is = (elim (p x) as (λ b. p x ≡ b → list_any p ((x ∷ xs) ++ ys) ≡ true) [
  | true ↦ λ t. rw t refl
  | false ↦ λ t. rw t (any_more p xs ys (rw t at is))
]) refl

any_last : {X : Type 0} (p : X → Bool) (xs : List X) (x : X) (b : Bool) → list_any p xs ≡ false → p x ≡ b → list_any p (xs ++ x ∷ []) ≡ b
any_last p [] x true none is = rw is refl
any_last p [] x false none is = rw is refl
any_last {X} p (y ∷ xs) x b none is = (elim (p y) as (λ c. p y ≡ c → list_any p ((y ∷ xs) ++ x ∷ []) ≡ b) [
  | true ↦ λ t. let bad : true ≡ false = rw t at none in cc
  | false ↦ λ t. rw t (any_last p xs x b (rw t at none) is)
]) refl

any_kept : (p : List ℕ → Bool) (n : ℕ) (before texts : List (List ℕ)) (s t : Spot) → items_at (λ _. whole_text_at) n before s ≡ read_to texts t → list_any p before ≡ true → list_any p texts ≡ true
unfolding items_at
any_kept p zero before texts s t e is = subst (λ l. list_any p l ≡ true) (same_read before texts s t e).0 is
any_kept p (suc n) before texts s t e is =
    let a = bound (whole_text_at s) (λ x. items_at (λ _. whole_text_at) n (before ++ x.0 ∷ []) x.1) (texts, t) e in
    any_kept p n (before ++ a.value.0 ∷ []) texts a.value.1 t a.last (any_more p before (a.value.0 ∷ []) is)

-- the first of those that are left
record IsFirstLeft (p : List ℕ → Bool) (texts : List (List ℕ)) (n : ℕ) (text : List ℕ) (new : Stand) (before : List (List ℕ)) : Type 0 where
  from : Spot
  to : Spot
  here : from.stand ≡ new
  read : items_at (λ _. whole_text_at) n (before ++ text ∷ []) from ≡ read_to texts to

first_left : (p : List ℕ → Bool) (texts : List (List ℕ)) (n : ℕ) (old new : Stand) (text : List ℕ) (left : AreLeft p texts (suc n) old) → IsNextText old text new → IsFirstLeft p texts n text new left.before
unfolding items_at
first_left p texts n old new text left next =
    let a = bound (whole_text_at left.from) (λ x. items_at (λ _. whole_text_at) n (left.before ++ x.0 ∷ []) x.1) (texts, left.to) left.read in
    let is = next left.from a.value.1 a.value.0 left.here a.first in
    record {
      from = a.value.1;
      to = left.to;
      here = is.1;
      read = subst (λ (x : List ℕ). items_at (λ _. whole_text_at) n (left.before ++ x ∷ []) a.value.1 ≡ read_to texts left.to) is.0 a.last;
    }

one_more : (count i : ℕ) → i < count → count - i ≡ suc (count - (i + 1))
one_more count i low = omega (arith, low)

-- the texts are read after their number
pub all_left : (p : List ℕ → Bool) (bytes : List ℕ) (first reader : Stand) (count n : ℕ) → ((s : Spot) → content_spot bytes ≡ Ok s → s.stand ≡ first) → IsNextCount first count reader → n ≡ count
    → (texts : List (List ℕ)) → texts_of bytes ≡ Ok texts → AreLeft p texts n reader
unfolding texts_of
all_left p bytes first reader count n begins counted all texts e =
    let whole = λ (c : ℕ × Spot). column_at whole_text_at c.0 c.1 >>= λ texts. (let r : Result (List (List ℕ)) ℕ = Ok texts.0 in r) in
    let a = bound (content_spot bytes) (λ s. number_at s >>= whole) texts e in
    let b = bound (number_at a.value) whole texts a.last in
    let c = bound (column_at whole_text_at b.value.0 b.value.1) (λ texts. (let r : Result (List (List ℕ)) ℕ = Ok texts.0 in r)) texts b.last in
    let is = counted a.value b.value.1 b.value.0 (begins a.value a.first) b.first in
    let same : c.value.0 ≡ texts = same_ok {E = ℕ} c.value.0 texts c.last in
    record {
      before = [];
      from = b.value.1;
      to = c.value.1;
      here = is.1;
      read = subst (λ (k : ℕ). items_at (λ _. whole_text_at) k [] b.value.1 ≡ read_to texts c.value.1) (is.0 ∙ sym all) (c.first ∙ ap (λ (l : List (List ℕ)). read_to l c.value.1) same);
      none = refl;
    }

pub text_found : (p : List ℕ → Bool) (texts : List (List ℕ)) (count i : ℕ) (old new : Stand) (text : List ℕ) → i < count → AreLeft p texts (count - i) old → IsNextText old text new → p text ≡ true → list_any p texts ≡ true
text_found p texts count i old new text low left next is =
    let more : AreLeft p texts (suc (count - (i + 1))) old = subst (λ (k : ℕ). AreLeft p texts k old) (one_more count i low) left in
    let first = first_left p texts (count - (i + 1)) old new text more next in
    any_kept p (count - (i + 1)) (more.before ++ text ∷ []) texts first.from first.to first.read (any_last p more.before text true more.none is)

pub text_passed : (p : List ℕ → Bool) (texts : List (List ℕ)) (count i : ℕ) (old new : Stand) (text : List ℕ) → i < count → AreLeft p texts (count - i) old → IsNextText old text new → p text ≡ false → AreLeft p texts (count - (i + 1)) new
text_passed p texts count i old new text low left next is =
    let more : AreLeft p texts (suc (count - (i + 1))) old = subst (λ (k : ℕ). AreLeft p texts k old) (one_more count i low) left in
    let first = first_left p texts (count - (i + 1)) old new text more next in
    record { before = more.before ++ text ∷ []; from = first.from; to = first.to; here = first.here; read = first.read; none = any_last p more.before text false more.none is }

pub none_left : (p : List ℕ → Bool) (texts : List (List ℕ)) (n : ℕ) (reader : Stand) → n ≡ 0 → AreLeft p texts n reader → list_any p texts ≡ false
unfolding items_at
none_left p texts n reader ended left =
    let read : items_at (λ _. whole_text_at) 0 left.before left.from ≡ read_to texts left.to = subst (λ (k : ℕ). items_at (λ _. whole_text_at) k left.before left.from ≡ read_to texts left.to) ended left.read in
    subst (λ l. list_any p l ≡ false) (same_read left.before texts left.from left.to read).0 left.none
