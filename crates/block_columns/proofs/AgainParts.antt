-- What is encoded somewhere is read there.
use Rattle.std.proofs.Common.{◌≡◌, ℕ, zero, suc, ◌+◌, ◌^◌, ◌<◌, ◌≤◌, Bool, List, [], ◌∷◌, ◌++◌, length, map, take, Result, Ok, Err, append_assoc, refl, sym, ap, subst, ◌∙◌, arith}
use Rattle.std.specs.List.{AllByRecursion}
use Rattle.std.proofs.lemmas.List.{append-nil, length-append, length-take-le}
use Rattle.byte_fields.specs.Reading.{Stand, left, ahead, IsWithin, ◌>>=◌}
use Rattle.byte_fields.proofs.FieldLaws.{left-ahead}
use Rattle.byte_fields.specs.Laws.{EncodedIsRead}
use Rattle.byte_fields.proofs.Again.{within_ahead}
use Rattle.block_columns.specs.Tables.{AllAfter}
use Rattle.block_columns.specs.ColumnReadings.{Spot, Read, at_spot, field, pair_at, made_at, items_at, column_at, beside, both_at}
use Rattle.block_columns.specs.ColumnEncodings.{Encoded, Encoding, plain, followed, pair, column, both}
use Rattle.block_columns.specs.ColumnLaws.{read_to, known, IsAt, Begins, Stands, after, EncodedReads, IsColumn, IsBoth, IsPair}
use Rattle.block_columns.proofs.Basics.{begins_take, begins_few, begins_self, begins_trans, ahead_twice, beside_parts}

-- after the first of two parts
pub record Behind {T : Type 0} (table : List T) (first : Encoded T) (s : Spot) : Type 0 where
  pub is : IsAt table (after first s)
  pub knows : known table (after first s) ≡ first.1

pub behind : {T : Type 0} (table : List T) (first : Encoded T) (rest : List ℕ) (s : Spot) → IsAt table s → left s.stand ≡ first.0 ++ rest → Begins first.1 table → Behind table first s
behind table first rest s is bytes front = record {
  is = record {
    within = record { bytes_fit = is.within.bytes_fit; no_further = within_ahead s.stand first.0 rest is.within.no_further bytes };
    few = begins_few first.1 table front;
  };
  knows = begins_take first.1 table front;
}

after_twice : {T : Type 0} (first second : Encoded T) (s : Spot) → after second (after first s) ≡ after (first.0 ++ second.0, second.1) s
after_twice first second s = ap (λ (t : Stand). record { within = s.within; stand = t; used = length second.1 }) (ahead_twice s.stand first.0 second.0)

-- one part, and what is read after it
pub seq : {T A C : Type 0} (table : List T) (read : Read A) (encode : Encoding T A) (Fits : A → Type 0) (k : A × Spot → Result (C × Spot) ℕ) (second : List T → Encoded T)
    → EncodedReads table read encode Fits
    → (s : Spot) → IsAt table s → (x : A) (rest : List ℕ) (y : C) → Fits x → Begins (encode x (known table s)).1 (second (encode x (known table s)).1).1
    → Stands table ((encode x (known table s)).0 ++ (second (encode x (known table s)).1).0, (second (encode x (known table s)).1).1) rest s
    → ((t : Spot) → IsAt table t → Stands table (second (known table t)) rest t → k (x, t) ≡ read_to y (after (second (known table t)) t))
    → (read s >>= k) ≡ read_to y (after ((encode x (known table s)).0 ++ (second (encode x (known table s)).1).0, (second (encode x (known table s)).1).1) s)
seq {T} {A} {C} table read encode Fits k second again s is x rest y fits grows stands next =
    let a = encode x (known table s) in
    let b = second a.1 in
    let grouped : left s.stand ≡ a.0 ++ (b.0 ++ rest) = stands.bytes ∙ append_assoc a.0 b.0 rest in
    let front : Begins a.1 table = begins_trans a.1 b.1 table grows stands.table_is in
    let first = again s is x (b.0 ++ rest) fits (record { bytes = grouped; table_is = front }) in
    let there = behind table a (b.0 ++ rest) s is grouped front in
    let same : second (known table (after a s)) ≡ b = ap second there.knows in
    let last = next (after a s) there.is (subst (λ (q : Encoded T). Stands table q rest (after a s)) (sym same) (record { bytes = left-ahead s.stand a.0 (b.0 ++ rest) grouped; table_is = stands.table_is })) in
    rw first (last ∙ ap (λ (q : Encoded T). read_to y (after q (after a s))) same ∙ ap (λ (u : Spot). read_to y u) (after_twice a b s))

-- the last part, and what is made of it
pub last : {T A C : Type 0} (table : List T) (read : Read A) (encode : Encoding T A) (Fits : A → Type 0) (k : A × Spot → Result (C × Spot) ℕ)
    → EncodedReads table read encode Fits → (s : Spot) → IsAt table s → (x : A) (rest : List ℕ) (y : C) → Fits x → Stands table (encode x (known table s)) rest s
    → ((t : Spot) → k (x, t) ≡ read_to y t) → (read s >>= k) ≡ read_to y (after (encode x (known table s)) s)
last {T} {A} {C} table read encode Fits k again s is x rest y fits stands next = rw (again s is x rest fits stands) (next (after (encode x (known table s)) s))

-- nothing moves the reader by nothing
pub after_none : {T : Type 0} (table : List T) (s : Spot) → IsAt table s → s ≡ after ([], known table s) s
after_none table s is =
    let size : s.used ≡ length (known table s) = sym (length-take-le s.used table is.few) in
    let none : s.stand ≡ ahead 0 s.stand = ap (λ (k : ℕ). record { whole = s.stand.whole; at = k }) (omega arith) in
    ap (λ (t : Stand). record { within = s.within; stand = t; used = s.used }) none ∙ ap (λ (k : ℕ). record { within = s.within; stand = ahead 0 s.stand; used = k }) size

-- ---- a field that refers to nothing

pub again_field : {T A : Type 0} (table : List T) (read : Bool → Stand → Result (A × Stand) ℕ) (bytes : A → List ℕ) (Fits : A → Type 0)
    → ((within : Bool) → EncodedIsRead (read within) bytes Fits) → EncodedReads table (field read) (plain bytes) Fits
unfolding field
again_field {T} {A} table read bytes Fits again s is x rest fits stands =
    let size : s.used ≡ length (known table s) = sym (length-take-le s.used table is.few) in
    let e = again s.within s.stand is.within.no_further x rest fits stands.bytes in
    ap (at_spot s) e ∙ ap (λ (k : ℕ). read_to x (record { within = s.within; stand = ahead (length (bytes x)) s.stand; used = k })) size

-- ---- values in parts, and made values

pub again_pair : {T A B : Type 0} (table : List T) (first : Read A) (second : Read B) (encode_first : Encoding T A) (encode_second : Encoding T B) (Left : A → Type 0) (Right : B → Type 0)
    → EncodedReads table first encode_first Left → EncodedReads table second encode_second Right → ((y : B) (t : List T) → Right y → Begins t (encode_second y t).1)
    → EncodedReads table (pair_at first second) (pair encode_first encode_second) (IsPair Left Right)
unfolding pair_at pair
again_pair {T} {A} {B} table first second encode_first encode_second Left Right on_first on_second grows s is z rest fits stands =
    let both : A × B = (z.0, z.1) in
    seq table first encode_first Left (λ x. second x.1 >>= λ y. Ok ((x.0, y.0), y.1)) (encode_second z.1) on_first s is z.0 rest both fits.0 (grows z.1 _ fits.1) stands
    (λ t at there. last table second encode_second Right (λ y. Ok ((z.0, y.0), y.1)) on_second t at z.1 rest both fits.1 there (λ v. refl))

pub again_made : {T A B : Type 0} (table : List T) (make : A → B) (parts : B → A) → ((y : B) → make (parts y) ≡ y) → (read : Read A) (encode : Encoding T A) (Fits : A → Type 0)
    → EncodedReads table read encode Fits → EncodedReads table (made_at make read) (λ y. encode (parts y)) (λ y. Fits (parts y))
unfolding made_at
again_made {T} {A} {B} table make parts undo read encode Fits again s is y rest fits stands =
    last table read encode Fits (λ x. Ok (make x.0, x.1)) again s is (parts y) rest y fits stands (λ t. ap (λ (z : B). read_to z t) (undo y))

-- ---- items

pub items_again : {T A : Type 0} (table : List T) (read : List A → Read A) (encode : Encoding T A) (Good : List A → A → Type 0)
    → ((before : List A) → EncodedReads table (read before) encode (Good before)) → ((before xs : List A) (t : List T) → AllAfter Good before xs → Begins t (column encode xs t).1)
    → (xs before : List A) (s : Spot) → IsAt table s → (rest : List ℕ) → AllAfter Good before xs → Stands table (column encode xs (known table s)) rest s
    → items_at read (length xs) before s ≡ read_to (before ++ xs) (after (column encode xs (known table s)) s)
unfolding items_at column
items_again {T} {A} table read encode Good again grows [] before s is rest good stands =
    ap (λ (l : List A). read_to l s) (sym (append-nil before)) ∙ ap (λ (t : Spot). read_to (before ++ []) t) (after_none table s is)
items_again {T} {A} table read encode Good again grows (x ∷ xs) before s is rest good stands =
    seq table (read before) encode (Good before) (λ y. items_at read (length xs) (before ++ y.0 ∷ []) y.1) (column encode xs) (again before) s is x rest (before ++ x ∷ xs) good.0 (grows (before ++ x ∷ []) xs _ good.1) stands
    (λ t at there. items_again table read encode Good again grows xs (before ++ x ∷ []) t at rest good.1 there ∙ ap (λ (l : List A). read_to l (after (column encode xs (known table t)) t)) (append_assoc before (x ∷ []) xs))

-- ---- columns and further columns

pub again_both : {T A B : Type 0} (table : List T) (left_at : ℕ → Read (List A)) (right_at : ℕ → Read (List B))
    (encode_left : Encoding T (List A)) (encode_right : Encoding T (List B)) (Left : ℕ → List A → Type 0) (Right : ℕ → List B → Type 0) (n : ℕ)
    → EncodedReads table (left_at n) encode_left (Left n) → EncodedReads table (right_at n) encode_right (Right n) → ((ys : List B) (t : List T) → Right n ys → Begins t (encode_right ys t).1)
    → EncodedReads table (both_at left_at right_at n) (both encode_left encode_right) (IsBoth Left Right n)
unfolding both_at both
again_both {T} {A} {B} table left_at right_at encode_left encode_right Left Right n on_left on_right grows s is rows rest fits stands =
    let xs = map (λ (r : A × B). r.0) rows in
    let ys = map (λ (r : A × B). r.1) rows in
    seq table (left_at n) encode_left (Left n) (λ a. right_at n a.1 >>= λ b. Ok (beside a.0 b.0, b.1)) (encode_right ys) on_left s is xs rest rows fits.0 (grows ys _ fits.1) stands
    (λ t at there. last table (right_at n) encode_right (Right n) (λ b. Ok (beside xs b.0, b.1)) on_right t at ys rest rows fits.1 there (λ v. ap (λ (l : List (A × B)). read_to l v) (beside_parts rows)))
