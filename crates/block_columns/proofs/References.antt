-- References into a table, both ways.
use Rattle.std.proofs.Common.{◌≡◌, ℕ, zero, suc, ◌+◌, ◌-◌, ◌^◌, ◌<◌, ◌≤◌, max, min, Bool, true, false, cond, eqb, ltb, leb, List, [], ◌∷◌, ◌++◌, length, take, drop, get_or, Option, Some, None, Result, Ok, Err, refl, sym, ap, subst, ◌∙◌, arith}
use Rattle.std.specs.Prelude.{Decides}
use Rattle.std.specs.List.{slice_get, position_or_len, list_any, AllByRecursion}
use Rattle.std.proofs.lemmas.List.{append-nil, take-append-drop, take_all, length-take-le, take_more}
use Rattle.std.proofs.lemmas.Option.{slice_get_within, get_or_from_slice_get}
use Rattle.std.proofs.lemmas.Bool.{le-leb, leb-true, ltb-true, ltb-false, eqb-true, eq-eqb}
use Rattle.byte_fields.specs.Spelling.{var_bytes}
use Rattle.byte_fields.specs.Reading.{Stand, left, ahead, ◌>>=◌, var_at}
use Rattle.byte_fields.specs.Laws.{Took}
use Rattle.byte_fields.specs.Sound.{IsBelow64}
use Rattle.byte_fields.proofs.Again.{again_var}
use Rattle.byte_fields.proofs.Meant.{Bound, bound, meant_var}
use Rattle.block_columns.specs.Tables.{number_in, with_value}
use Rattle.block_columns.specs.ColumnReadings.{Spot, Read, number_at, or_malformed, named, reference_at, column_at, item_at, malformed, all_used, owners_at}
use Rattle.block_columns.specs.ColumnEncodings.{Encoding, plain, reference, column, numbered, first_uses, owners}
use Rattle.block_columns.specs.ColumnLaws.{read_to, known, IsAt, Wrote, Found, Stands, after, ReadsEncoded, EncodedReads, IsColumn}
use Rattle.block_columns.proofs.Basics.{same_read}
use Rattle.block_columns.proofs.Numbering.{IsTable, position_take, any_position, value_stands, value_size, get_front, position_le}
use Rattle.block_columns.proofs.MeantParts.{meant_field}
use Rattle.block_columns.proofs.AgainParts.{again_field}

pub meant_number : {T : Type 0} (table : List T) → ReadsEncoded table number_at (plain var_bytes) IsBelow64
meant_number table = meant_field table _ var_bytes IsBelow64 meant_var

pub again_number : {T : Type 0} (table : List T) → EncodedReads table number_at (plain var_bytes) IsBelow64
again_number table = again_field table _ var_bytes IsBelow64 again_var

record IsNamed {T : Type 0} (table : List T) (used n : ℕ) (x : T) : Type 0 where
  known : n ≤ used
  there : slice_get table n ≡ Some x

named_ok : {T : Type 0} (at : ℕ) (table : List T) (used n : ℕ) (u : Spot) (x : T) (t : Spot) → or_malformed at (named table used n) u ≡ read_to x t → IsNamed table used n x × (u ≡ t)
named_ok {T} at table used n u x t e = by (leb n used) refl (slice_get table n) refl e
  where
    by : (b : Bool) → leb n used ≡ b → (o : Option T) → slice_get table n ≡ o → or_malformed at (cond b o None) u ≡ read_to x t → IsNamed table used n x × (u ≡ t)
    by true le (Some y) there e = (let same = same_read y x u t e in (record { known = leb-true n used le; there = there ∙ ap (λ (z : T). Some z) same.0 }, same.1))
    by true le None there e = absurd (cc)
    by false le o there e = absurd (cc)

-- the values in use after a reference
used_then : {T : Type 0} (same : T → T → Bool) (table : List T) (used n : ℕ) (x : T) → used ≤ length table → n ≤ used → slice_get table n ≡ Some x → position_or_len (same x) (take used table) ≡ n
    → with_value same (take used table) x ≡ take (max used (n + 1)) table
used_then {T} same table used n x few le there number = by (ltb n used) refl
  where
    any : list_any (same x) (take used table) ≡ ltb n used
    any = any_position (same x) (take used table) ∙ ap (λ (k : ℕ). ltb k (length (take used table))) number ∙ ap (λ (k : ℕ). ltb n k) (length-take-le used table few)

    by : (b : Bool) → ltb n used ≡ b → with_value same (take used table) x ≡ take (max used (n + 1)) table
    by true is = rw (any ∙ is) (ap (λ (k : ℕ). take k table) (let lt = ltb-true n used is in omega (arith, lt)))
    by false is =
        let equal : n ≡ used = (let ge = ltb-false n used is in omega (arith, le, ge)) in
        let inside : n < length table = slice_get_within table n x there in
        let more : take (used + 1) table ≡ take used table ++ x ∷ [] = take_more table used x (omega (arith, inside, equal)) ∙ ap (λ (y : T). take used table ++ y ∷ []) (ap (λ (k : ℕ). get_or table k x) (sym equal) ∙ get_or_from_slice_get table n x x there) in
        rw (any ∙ is) (sym more ∙ ap (λ (k : ℕ). take k table) (omega (arith, equal)))

pub meant_reference : {T : Type 0} (same : T → T → Bool) (table : List T) (P : T → Type 0) → IsTable same table → ((i : ℕ) (x : T) → slice_get table i ≡ Some x → P x) → ReadsEncoded table (reference_at table) (reference same) P
unfolding reference_at
meant_reference {T} same table P distinct each s is x t e =
    let a = bound (number_at s) (λ n. or_malformed s.stand.at (named table s.used n.0) (record { within = n.1.within; stand = n.1.stand; used = max s.used (n.0 + 1) })) (x, t) e in
    let n = a.value.0 in
    let number = meant_number table s is n a.value.1 a.first in
    let new : Spot = record { within = a.value.1.within; stand = a.value.1.stand; used = max s.used (n + 1) } in
    let found = named_ok s.stand.at table s.used n new x t a.last in
    let inside : n < length table = slice_get_within table n x found.0.there in
    let standing : position_or_len (same x) (take s.used table) ≡ n =
    position_take (same x) table s.used is.few ∙ ap (λ (k : ℕ). min s.used k) (distinct.number n x found.0.there) ∙ omega (arith, found.0.known) in
    let wrote : Wrote table (reference same x (known table s)) s new = record {
      bytes = subst (λ (k : ℕ). Took (var_bytes k) s.stand a.value.1.stand) (sym standing) number.wrote.bytes;
      table_is = used_then same table s.used n x is.few found.0.known found.0.there standing;
      few = omega (arith, is.few, inside);
      same = number.wrote.same;
    } in
    subst (λ (u : Spot). Found table (reference same) P s x u) found.1 (record { wrote = wrote; fits = each n x found.0.there })

pub again_reference : {T : Type 0} (same : T → T → Bool) → ((a b : T) → Decides (same a b) (a ≡ b)) → (table : List T) (P : T → Type 0) → length table < 2 ^ 64 → EncodedReads table (reference_at table) (reference same) P
unfolding reference_at
again_reference {T} same decides table P short s is x rest fits stands =
    let front = known table s in
    let n = number_in same front x in
    let size : length front ≡ s.used = length-take-le s.used table is.few in
    let new = with_value same front x in
    let below : n ≤ length front = position_le (same x) front in
    let number = again_number table s is n rest (omega (arith, below, size, short, is.few)) (record { bytes = stands.bytes; table_is = record { rest = drop s.used table; is = sym (take-append-drop s.used table) } }) in
    let there : slice_get table n ≡ Some x = ap (λ (l : List T). slice_get l n) stands.table_is.is ∙ get_front new stands.table_is.rest n x (value_stands same decides x front) in
    let le : leb n s.used ≡ true = le-leb n s.used (omega (arith, below, size)) in
    let used : max s.used (n + 1) ≡ length new = ap (λ (k : ℕ). max k (n + 1)) (sym size) ∙ sym (value_size same x front) in
    rw (number, le, there) (ap (λ (k : ℕ). read_to x (record { within = s.within; stand = ahead (length (var_bytes n)) s.stand; used = k })) used)

-- ---- each value of the table is used

malformed_never : {B : Type 0} (r : Result ℕ ℕ) (y : B) → malformed r ≡ Ok y → ⊥
malformed_never (Ok at) y e = absurd (cc)
malformed_never (Err at) y e = absurd (cc)

pub used_up : {T B A : Type 0} (read : Read B) (list : Spot) (table : List T) (used : ℕ) (found : A) (w : Spot) (x : A) (t : Spot) → all_used read list table used (found, w) ≡ read_to x t → (used ≡ length table) × (found ≡ x) × (w ≡ t)
used_up {T} {B} {A} read list table used found w x t e = by (eqb used (length table)) refl e
  where
    by : (b : Bool) → eqb used (length table) ≡ b → cond b (Ok (found, w)) (malformed (item_at read used list)) ≡ read_to x t → (used ≡ length table) × (found ≡ x) × (w ≡ t)
    by true is e = (let same = same_read found x w t e in (eqb-true used (length table) is, same.0, same.1))
    by false is e = absurd (malformed_never (item_at read used list) (x, t) e)

-- so many values, each of which can be kept, that stand in the table in order of first use
pub record IsOwners {T : Type 0} (same : T → T → Bool) (P : T → Type 0) (table : List T) (n : ℕ) (xs : List T) : Type 0 where
  pub all : IsColumn P n xs
  pub table_is : first_uses same xs ≡ table

pub meant_owners : {T B U : Type 0} (same : T → T → Bool) (P : T → Type 0) (read : Read B) (list : Spot) (table : List T) (outer : List U)
    → ((n : ℕ) → ReadsEncoded table (column_at (reference_at table) n) (column (reference same)) (IsColumn P n)) → (n : ℕ) → ReadsEncoded outer (owners_at read list table n) (owners same) (IsOwners same P table n)
unfolding owners_at numbered
meant_owners {T} {B} {U} same P read list table outer meant n s is xs t e =
    let start : Spot = record { within = s.within; stand = s.stand; used = 0 } in
    let a = bound (column_at (reference_at table) n start) (λ x. all_used read list table x.1.used (x.0, record { within = x.1.within; stand = x.1.stand; used = s.used })) (xs, t) e in
    let got = meant n start (record { within = is.within; few = omega arith }) a.value.0 a.value.1 a.first in
    let end : Spot = record { within = a.value.1.within; stand = a.value.1.stand; used = s.used } in
    let done = used_up read list table a.value.1.used a.value.0 end xs t a.last in
    let full : (column (reference same) a.value.0 []).1 ≡ table = got.wrote.table_is ∙ take_all a.value.1.used table (omega (arith, done.0)) in
    subst (λ (u : Spot). Found outer (owners same) (IsOwners same P table n) s xs u) done.2 (subst (λ (y : List T). Found outer (owners same) (IsOwners same P table n) s y end) done.1
    (record { wrote = record { bytes = got.wrote.bytes; table_is = refl; few = is.few; same = got.wrote.same }; fits = record { all = got.fits; table_is = full } }))

pub again_owners : {T B U : Type 0} (same : T → T → Bool) (P : T → Type 0) (read : Read B) (list : Spot) (table : List T) (outer : List U)
    → ((n : ℕ) → EncodedReads table (column_at (reference_at table) n) (column (reference same)) (IsColumn P n)) → (n : ℕ) → EncodedReads outer (owners_at read list table n) (owners same) (IsOwners same P table n)
unfolding owners_at numbered
again_owners {T} {B} {U} same P read list table outer again n s is xs rest fits stands =
    let start : Spot = record { within = s.within; stand = s.stand; used = 0 } in
    let made = column (reference same) xs [] in
    let whole : table ≡ made.1 ++ [] = sym fits.table_is ∙ sym (append-nil made.1) in
    let column_is = again n start (record { within = is.within; few = omega arith }) xs rest fits.all (record { bytes = stands.bytes; table_is = record { rest = []; is = whole } }) in
    let full : eqb (length made.1) (length table) ≡ true = eq-eqb (length made.1) (length table) (ap length fits.table_is) in
    let size : s.used ≡ length (known outer s) = sym (length-take-le s.used outer is.few) in
    rw (column_is, full) (ap (λ (k : ℕ). read_to xs (record { within = s.within; stand = ahead (length made.0) s.stand; used = k })) size)
