-- What is read somewhere is encoded there.
use Rattle.std.proofs.Common.{◌≡◌, ℕ, zero, suc, ◌+◌, ◌^◌, ◌<◌, ◌≤◌, Bool, List, [], ◌∷◌, ◌++◌, length, map, take, Result, Ok, Err, append_assoc, refl, sym, ap, subst, ◌∙◌, arith}
use Rattle.std.specs.List.{AllByRecursion}
use Rattle.std.proofs.lemmas.List.{append-nil}
use Rattle.byte_fields.specs.Reading.{Stand, ◌>>=◌}
use Rattle.byte_fields.specs.Laws.{Took, Got, ReadIsEncoded}
use Rattle.byte_fields.proofs.Meant.{Bound, bound, took_none, took_then}
use Rattle.block_columns.specs.Tables.{AllAfter}
use Rattle.block_columns.specs.ColumnReadings.{Spot, Read, at_spot, field, pair_at, made_at, items_at, column_at, beside, both_at}
use Rattle.block_columns.specs.ColumnEncodings.{Encoded, Encoding, plain, followed, pair, column, both}
use Rattle.block_columns.specs.ColumnLaws.{read_to, known, IsAt, Wrote, Found, ReadsEncoded, IsColumn, IsBoth, IsPair}
use Rattle.block_columns.proofs.Basics.{same_read, beside_lefts, beside_rights}

pub wrote_at : {T : Type 0} (table : List T) (made : Encoded T) (s t : Spot) → Wrote table made s t → IsAt table t
wrote_at table made s t w = record { within = w.bytes.within; few = w.few }

pub wrote_none : {T : Type 0} (table : List T) (s : Spot) → IsAt table s → Wrote table ([], known table s) s s
wrote_none table s is = record { bytes = took_none s.stand is.within; table_is = refl; few = is.few; same = refl }

pub wrote_then : {T A B : Type 0} (table : List T) (first : Encoding T A) (second : Encoding T B) (x : A) (y : B) (s t u : Spot)
    → Wrote table (first x (known table s)) s t → Wrote table (second y (known table t)) t u → Wrote table (followed first second x y (known table s)) s u
wrote_then {T} table first second x y s t u p q =
    let a = first x (known table s) in
    record {
      bytes = subst (λ (k : List T). Took (a.0 ++ (second y k).0) s.stand u.stand) (sym p.table_is) (took_then p.bytes q.bytes);
      table_is = ap (λ (k : List T). (second y k).1) p.table_is ∙ q.table_is;
      few = q.few;
      same = p.same ∙ q.same;
    }

-- the same, where what was read is another name of the value
pub found_as : {T A : Type 0} (table : List T) (encode : Encoding T A) (Fits : A → Type 0) (s : Spot) (x y : A) (t u : Spot) → x ≡ y → t ≡ u → Found table encode Fits s x t → Found table encode Fits s y u
found_as {T} {A} table encode Fits s x y t u same there found = subst (λ (v : Spot). Found table encode Fits s y v) there (subst (λ (z : A). Found table encode Fits s z t) same found)

-- ---- a field that refers to nothing

pub record Passed {A : Type 0} (s : Spot) (r : Result (A × Stand) ℕ) (x : A) (t : Spot) : Type 0 where
  pub read : r ≡ read_to x t.stand
  pub used : s.used ≡ t.used
  pub within : s.within ≡ t.within

pub at_spot_ok : {A : Type 0} (s : Spot) (r : Result (A × Stand) ℕ) (x : A) (t : Spot) → at_spot s r ≡ read_to x t → Passed s r x t
at_spot_ok {A} s (Ok y) x t is =
    let new : Spot = record { within = s.within; stand = y.1; used = s.used } in
    let same = same_read y.0 x new t is in
    let stands : y.1 ≡ t.stand = ap (λ (u : Spot). u.stand) same.1 in
    let pair : y ≡ (x, t.stand) = ap (λ (a : A). (a, y.1)) same.0 ∙ ap (λ (u : Stand). (x, u)) stands in
    record { read = ap (λ (p : A × Stand). Ok p) pair; used = ap (λ (u : Spot). u.used) same.1; within = ap (λ (u : Spot). u.within) same.1 }
at_spot_ok s (Err e) x t is = absurd (cc)

pub meant_field : {T A : Type 0} (table : List T) (read : Bool → Stand → Result (A × Stand) ℕ) (bytes : A → List ℕ) (Fits : A → Type 0)
    → ((within : Bool) → ReadIsEncoded (read within) bytes Fits) → ReadsEncoded table (field read) (plain bytes) Fits
unfolding field
meant_field table read bytes Fits meant s is x t e =
    let got = at_spot_ok s (read s.within s.stand) x t e in
    let one = meant s.within s.stand is.within x t.stand got.read in
    record { wrote = record { bytes = one.bytes; table_is = ap (λ (k : ℕ). take k table) got.used; few = omega (arith, is.few, got.used); same = got.within }; fits = one.fits }

-- ---- values in parts, and made values

pub meant_pair : {T A B : Type 0} (table : List T) (first : Read A) (second : Read B) (encode_first : Encoding T A) (encode_second : Encoding T B) (Left : A → Type 0) (Right : B → Type 0)
    → ReadsEncoded table first encode_first Left → ReadsEncoded table second encode_second Right → ReadsEncoded table (pair_at first second) (pair encode_first encode_second) (IsPair Left Right)
unfolding pair_at pair
meant_pair {T} {A} {B} table first second encode_first encode_second Left Right on_first on_second s is z t e =
    let a = bound (first s) (λ x. second x.1 >>= λ y. Ok ((x.0, y.0), y.1)) (z, t) e in
    let x = a.value.0 in
    let u = a.value.1 in
    let one = on_first s is x u a.first in
    let b = bound (second u) (λ y. Ok ((x, y.0), y.1)) (z, t) a.last in
    let y = b.value.0 in
    let two = on_second u (wrote_at table _ s u one.wrote) y b.value.1 b.first in
    let both : A × B = (x, y) in
    let same = same_read both z b.value.1 t b.last in
    found_as table (pair encode_first encode_second) (IsPair Left Right) s both z b.value.1 t same.0 same.1
    (record { wrote = wrote_then table encode_first encode_second x y s u b.value.1 one.wrote two.wrote; fits = (one.fits, two.fits) })

pub meant_made : {T A B : Type 0} (table : List T) (make : A → B) (parts : B → A) → ((x : A) → parts (make x) ≡ x) → (read : Read A) (encode : Encoding T A) (Fits : A → Type 0)
    → ReadsEncoded table read encode Fits → ReadsEncoded table (made_at make read) (λ y. encode (parts y)) (λ y. Fits (parts y))
unfolding made_at
meant_made {T} {A} {B} table make parts undo read encode Fits meant s is y t e =
    let a = bound (read s) (λ x. Ok (make x.0, x.1)) (y, t) e in
    let one = meant s is a.value.0 a.value.1 a.first in
    let same = same_read (make a.value.0) y a.value.1 t a.last in
    found_as table (λ b. encode (parts b)) (λ b. Fits (parts b)) s (make a.value.0) y a.value.1 t same.0 same.1
    (let whole : Found table (λ b. encode b) (λ b. Fits b) s (parts (make a.value.0)) a.value.1 = subst (λ (x : A). Found table encode Fits s x a.value.1) (sym (undo a.value.0)) one in record { wrote = whole.wrote; fits = whole.fits })

-- ---- items

pub record Items {T A : Type 0} (table : List T) (encode : Encoding T A) (Good : List A → A → Type 0) (n : ℕ) (before : List A) (s : Spot) (all : List A) (t : Spot) : Type 0 where
  pub more : List A
  pub is : all ≡ before ++ more
  pub size : length more ≡ n
  pub wrote : Wrote table (column encode more (known table s)) s t
  pub good : AllAfter Good before more

pub items_mean : {T A : Type 0} (table : List T) (read : List A → Read A) (encode : Encoding T A) (Good : List A → A → Type 0) → ((before : List A) → ReadsEncoded table (read before) encode (Good before))
    → (n : ℕ) (before : List A) (s : Spot) → IsAt table s → (all : List A) (t : Spot) → items_at read n before s ≡ read_to all t → Items table encode Good n before s all t
unfolding items_at column
items_mean {T} {A} table read encode Good meant zero before s is all t e =
    let same = same_read before all s t e in
    subst (λ (u : Spot). Items table encode Good 0 before s all u) same.1
    (record { more = []; is = sym same.0 ∙ sym (append-nil before); size = refl; wrote = wrote_none table s is; good = tt })
items_mean {T} {A} table read encode Good meant (suc n) before s is all t e =
    let a = bound (read before s) (λ x. items_at read n (before ++ x.0 ∷ []) x.1) (all, t) e in
    let x = a.value.0 in
    let one = meant before s is x a.value.1 a.first in
    let rest = items_mean table read encode Good meant n (before ++ x ∷ []) a.value.1 (wrote_at table _ s a.value.1 one.wrote) all t a.last in
    record {
      more = x ∷ rest.more;
      is = rest.is ∙ append_assoc before (x ∷ []) rest.more;
      size = ap suc rest.size;
      wrote = wrote_then table encode (column encode) x rest.more s a.value.1 t one.wrote rest.wrote;
      good = (one.fits, rest.good);
    }

-- ---- columns and further columns

pub meant_both : {T A B : Type 0} (table : List T) (left : ℕ → Read (List A)) (right : ℕ → Read (List B))
    (encode_left : Encoding T (List A)) (encode_right : Encoding T (List B)) (Left : ℕ → List A → Type 0) (Right : ℕ → List B → Type 0) (n : ℕ)
    → ((xs : List A) → Left n xs → length xs ≡ n) → ((ys : List B) → Right n ys → length ys ≡ n)
    → ReadsEncoded table (left n) encode_left (Left n) → ReadsEncoded table (right n) encode_right (Right n)
    → ReadsEncoded table (both_at left right n) (both encode_left encode_right) (IsBoth Left Right n)
unfolding both_at both
meant_both {T} {A} {B} table left right encode_left encode_right Left Right n sized_left sized_right on_left on_right s is rows t e =
    let a = bound (left n s) (λ xs. right n xs.1 >>= λ ys. Ok (beside xs.0 ys.0, ys.1)) (rows, t) e in
    let xs = a.value.0 in
    let u = a.value.1 in
    let one = on_left s is xs u a.first in
    let b = bound (right n u) (λ ys. Ok (beside xs ys.0, ys.1)) (rows, t) a.last in
    let ys = b.value.0 in
    let two = on_right u (wrote_at table _ s u one.wrote) ys b.value.1 b.first in
    let same = same_read (beside xs ys) rows b.value.1 t b.last in
    let sizes : length xs ≡ length ys = sized_left xs one.fits ∙ sym (sized_right ys two.fits) in
    let lefts : xs ≡ map (λ (r : A × B). r.0) rows = sym (beside_lefts xs ys sizes) ∙ ap (λ (l : List (A × B)). map (λ (r : A × B). r.0) l) same.0 in
    let rights : ys ≡ map (λ (r : A × B). r.1) rows = sym (beside_rights xs ys sizes) ∙ ap (λ (l : List (A × B)). map (λ (r : A × B). r.1) l) same.0 in
    let wrote = wrote_then table encode_left encode_right xs ys s u b.value.1 one.wrote two.wrote in
    subst (λ (v : Spot). Found table (both encode_left encode_right) (IsBoth Left Right n) s rows v) same.1
    (record {
      wrote = subst (λ (l : List A). Wrote table (followed encode_left encode_right l (map (λ (r : A × B). r.1) rows) (known table s)) s b.value.1) lefts (subst (λ (l : List B). Wrote table (followed encode_left encode_right xs l (known table s)) s b.value.1) rights wrote);
      fits = (subst (Left n) lefts one.fits, subst (Right n) rights two.fits);
    })
