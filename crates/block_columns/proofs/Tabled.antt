-- A table of values of its own, and what refers to it.
use Rattle.std.proofs.Common.{◌≡◌, ℕ, zero, suc, ◌+◌, ◌^◌, ◌<◌, ◌≤◌, max, Bool, true, List, [], ◌∷◌, ◌++◌, length, map, Option, Some, refl, sym, ap, subst, ◌∙◌, arith}
use Rattle.std.specs.Prelude.{Decides}
use Rattle.std.specs.List.{slice_get, AllByRecursion}
use Rattle.std.proofs.lemmas.List.{length-map}
use Rattle.byte_fields.specs.Spelling.{var_bytes}
use Rattle.byte_fields.specs.Reading.{◌>>=◌}
use Rattle.byte_fields.proofs.Meant.{Bound, bound}
use Rattle.block_columns.specs.Tables.{AllAfter, IsNew, number_in, with_value}
use Rattle.block_columns.specs.ColumnReadings.{Spot, Read, reference_at, table_at}
use Rattle.block_columns.specs.ColumnEncodings.{Encoded, Encoding, column, counted, first_uses, followed, numbered, plain, reference}
use Rattle.block_columns.specs.ColumnLaws.{read_to, known, IsAt, Begins, Wrote, Found, Stands, after, Adds, ReadsEncoded, EncodedReads, AddsNew, Laws}
use Rattle.block_columns.proofs.Added.{adds_begins, adds_items, adds_reference, adds_then, all_after}
use Rattle.block_columns.proofs.AgainParts.{seq}
use Rattle.block_columns.proofs.Bundles.{IsCounted, IsNewOne, of_counted, of_new, of_reference}
use Rattle.block_columns.proofs.MeantParts.{wrote_at, wrote_then}
use Rattle.block_columns.proofs.Numbering.{get_front, new_is_table, position_le, value_size, value_stands}

-- distinct values, each of which can be kept
abbrev pub IsOwnerTable : {O : Type 0} → (O → O → Bool) → (O → Type 0) → List O → Type 0
IsOwnerTable same P os = IsCounted (IsNewOne same P) os

pub record Parted {O : Type 0} (same : O → O → Bool) (P : O → Type 0) (before os : List O) : Type 0 where
  pub distinct : AllAfter (IsNew same) before os
  pub each : AllByRecursion P os

pub parted : {O : Type 0} (same : O → O → Bool) (P : O → Type 0) (before os : List O) → AllAfter (IsNewOne same P) before os → Parted same P before os
parted same P before [] all = record { distinct = tt; each = tt }
parted same P before (o ∷ os) all = (let more = parted same P (before ++ o ∷ []) os all.1 in record { distinct = (all.0.1, more.distinct); each = (all.0.0, more.each) })

pub joined : {O : Type 0} (same : O → O → Bool) (P : O → Type 0) (before os : List O) → AllAfter (IsNew same) before os → AllByRecursion P os → AllAfter (IsNewOne same P) before os
joined same P before [] distinct each = tt
joined same P before (o ∷ os) distinct each = ((each.0, distinct.0), joined same P (before ++ o ∷ []) os distinct.1 each.1)

pub get_each : {O : Type 0} (P : O → Type 0) (os : List O) → AllByRecursion P os → (i : ℕ) (x : O) → slice_get os i ≡ Some x → P x
get_each P [] all i x e = absurd (cc)
get_each P (o ∷ os) all zero x e = (let equal : o ≡ x = cc in subst P equal all.0)
get_each P (o ∷ os) all (suc i) x e = get_each P os all.1 i x e

-- references to such a table
pub table_laws : {O : Type 0} {same : O → O → Bool} {P : O → Type 0} {os : List O} → ((a b : O) → Decides (same a b) (a ≡ b)) → IsOwnerTable same P os → Laws same P os (reference_at os) (reference same) P
table_laws {O} {same} {P} {os} decides is =
    let parts = parted same P [] os is.0 in
    of_reference decides (new_is_table same decides os parts.distinct) (get_each P os parts.each) is.1

-- ---- values in order of first use

adds_uses : {O : Type 0} (same : O → O → Bool) (P : O → Type 0) (xs t : List O) → AllByRecursion P xs → Adds same P t (column (reference same) xs t).1
adds_uses same P xs t all = adds_items same P (reference same) (λ _. P) (λ before. adds_reference same P) [] xs t (all_after P [] xs all)

few_uses : {O : Type 0} (same : O → O → Bool) (xs t : List O) → length (column (reference same) xs t).1 ≤ length t + length xs
unfolding column
few_uses same [] t = omega arith
few_uses same (x ∷ xs) t =
    let more = few_uses same xs (with_value same t x) in
    omega (arith, more, value_size same x t, position_le (same x) t)

pub uses_are_table : {O : Type 0} (same : O → O → Bool) (P : O → Type 0) (xs : List O) → AllByRecursion P xs → length xs < 2 ^ 64 → IsOwnerTable same P (first_uses same xs)
unfolding numbered
uses_are_table {O} same P xs all few =
    let adds = adds_uses same P xs [] all in
    let is : AllAfter (IsNewOne same P) [] (first_uses same xs) = subst (AllAfter (IsNewOne same P) []) (sym adds.is) (joined same P [] adds.more adds.fresh adds.each) in
    (is, omega (arith, few, few_uses same xs []))

-- what holds of each value in the table holds of each that refers to it
uses_each : {O : Type 0} (same : O → O → Bool) → ((a b : O) → Decides (same a b) (a ≡ b)) → (P : O → Type 0) (xs t : List O) → AllByRecursion P (column (reference same) xs t).1 → AllByRecursion P xs
unfolding column
uses_each same decides P [] t all = tt
uses_each {O} same decides P (x ∷ xs) t all =
    let next = with_value same t x in
    let adds = adds_items same (λ _. Unit {0}) (reference same) (λ _ _. Unit {0}) (λ before. adds_reference same (λ _. Unit {0})) [] xs next (any [] xs) in
    let there : slice_get (column (reference same) xs next).1 (number_in same t x) ≡ Some x = ap (λ (l : List O). slice_get l (number_in same t x)) adds.is ∙ get_front next adds.more (number_in same t x) x (value_stands same decides x t) in
    (get_each P (column (reference same) xs next).1 all (number_in same t x) x there, uses_each same decides P xs next all)
  where
    any : {O : Type 0} (before xs : List O) → AllAfter (λ _ _. Unit {0}) before xs
    any before [] = tt
    any before (x ∷ xs) = (tt, any (before ++ x ∷ []) xs)

pub each_used : {O : Type 0} (same : O → O → Bool) → ((a b : O) → Decides (same a b) (a ≡ b)) → (P : O → Type 0) (xs : List O) → AllByRecursion P (first_uses same xs) → AllByRecursion P xs
unfolding numbered
each_used same decides P xs all = uses_each same decides P xs [] all

-- ---- a table, and rows that refer to it

-- rows that refer to just this table, and what else is so of them
abbrev pub IsOver : {O R : Type 0} → (O → O → Bool) → (R → O) → (List R → Type 0) → List O → List R → Type 0
IsOver same get Fits os rows = Fits rows × (first_uses same (map get rows) ≡ os)

-- rows with what they refer to
abbrev pub IsWith : {O R : Type 0} → (O → O → Bool) → (O → Type 0) → (R → O) → (List R → Type 0) → List R → Type 0
IsWith same P get Fits rows = Fits rows × IsOwnerTable same P (first_uses same (map get rows))

module _ {T O R : Type 0} {outer : T → T → Bool} {Q : T → Type 0} {table : List T} (same : O → O → Bool) {P : O → Type 0} {read : Read O} {encode : Encoding T O} (laws : Laws outer Q table read encode P) (get : R → O)
    (inner_at : Spot → List O → Read (List R)) (inner_by : Encoding T (List R)) (Fits : List R → Type 0)
    (inner : (list : Spot) (os : List O) → IsOwnerTable same P os → Laws outer Q table (inner_at list os) inner_by (IsOver same get Fits os)) where
  abbrev uses : List R → List O
  uses rows = first_uses same (map get rows)

  abbrev all_by : Encoding T (List R)
  all_by rows = followed (counted encode) inner_by (uses rows) rows

  abbrev all_at : Read (List R)
  all_at s = table_at same read s >>= λ os. inner_at s os.0 os.1

  front : Laws outer Q table (table_at same read) (counted encode) (IsOwnerTable same P)
  front = of_counted (of_new same laws)

  meant_with : ReadsEncoded table all_at all_by (IsWith same P get Fits)
  meant_with s is rows t e =
      let a = bound (table_at same read s) (λ os. inner_at s os.0 os.1) (rows, t) e in
      let os = a.value.0 in
      let u = a.value.1 in
      let one = front.meant s is os u a.first in
      let two = (inner s os one.fits).meant u (wrote_at table _ s u one.wrote) rows t a.last in
      let both = wrote_then table (counted encode) inner_by os rows s u t one.wrote two.wrote in
      record {
        wrote = subst (λ (l : List O). Wrote table (followed (counted encode) inner_by l rows (known table s)) s t) (sym two.fits.1) both;
        fits = (two.fits.0, subst (IsOwnerTable same P) (sym two.fits.1) one.fits);
      }

  again_with : EncodedReads table all_at all_by (IsWith same P get Fits)
  again_with s is rows rest fits stands =
      let os = uses rows in
      seq table (table_at same read) (counted encode) (IsOwnerTable same P) (λ l. inner_at s l.0 l.1) (inner_by rows) front.again s is os rest rows fits.1
      (adds_begins outer Q _ _ ((inner s os fits.1).adds rows _ (fits.0, refl))) stands
      (λ t at there. (inner s os fits.1).again t at rows rest (fits.0, refl) there)

  adds_with : AddsNew outer Q all_by (IsWith same P get Fits)
  adds_with rows t fits =
      let os = uses rows in
      adds_then outer Q t (counted encode os t).1 _ (front.adds os t fits.1) ((inner (record { within = true; stand = record { whole = []; at = 0 }; used = 0 }) os fits.1).adds rows (counted encode os t).1 (fits.0, refl))

  pub of_table : Laws outer Q table all_at all_by (IsWith same P get Fits)
  of_table = record { meant = meant_with; again = again_with; adds = adds_with }
