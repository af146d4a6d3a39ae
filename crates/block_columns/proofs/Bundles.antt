-- All laws in one record, closed under the ways in which encodings are put together.
use Rattle.std.proofs.Common.{◌≡◌, ℕ, ◌+◌, ◌^◌, ◌<◌, ◌≤◌, Bool, List, [], ◌∷◌, ◌++◌, length, map, take, Some, Result, Ok, Err, cond, false, true, refl, sym, ap, subst, ◌∙◌, arith}
use Rattle.std.specs.Prelude.{Decides}
use Rattle.std.specs.List.{slice_get, list_any, AllByRecursion}
use Rattle.std.proofs.lemmas.List.{length-map}
use Rattle.byte_fields.specs.Spelling.{var_bytes}
use Rattle.byte_fields.specs.Reading.{Stand, left, ◌>>=◌}
use Rattle.byte_fields.specs.Laws.{EncodedIsRead, ReadIsEncoded}
use Rattle.byte_fields.specs.Sound.{IsBelow64}
use Rattle.byte_fields.proofs.Meant.{Bound, bound, kept_else}
use Rattle.block_columns.specs.Tables.{AllAfter, IsNew}
use Rattle.block_columns.specs.ColumnReadings.{Spot, Read, field, number_at, reference_at, pair_at, made_at, items_at, counted_at, column_at, both_at, unless_at, new_at, only_if_at, table_at, owners_at}
use Rattle.block_columns.specs.ColumnEncodings.{Encoded, Encoding, plain, reference, followed, pair, column, counted, both, only_if, owners}
use Rattle.block_columns.specs.ColumnLaws.{read_to, known, IsAt, Begins, Wrote, Found, Stands, after, Adds, ReadsEncoded, EncodedReads, AddsNew, Laws, ColumnLaws, IsColumn, IsBoth, IsOnlyIf, IsPair}
use Rattle.block_columns.proofs.Basics.{same_read}
use Rattle.block_columns.proofs.Numbering.{IsTable}
use Rattle.block_columns.proofs.Added.{adds_none, adds_begins, adds_reference, adds_pair, adds_items, adds_both, all_after, each_of}
use Rattle.block_columns.proofs.MeantParts.{wrote_at, wrote_none, wrote_then, found_as, meant_field, meant_pair, meant_made, items_mean, meant_both}
use Rattle.block_columns.proofs.AgainParts.{seq, after_none, again_field, again_pair, again_made, items_again, again_both}
use Rattle.block_columns.proofs.References.{meant_number, again_number, meant_reference, again_reference, IsOwners, meant_owners, again_owners}

-- a count, and so many items that can each be kept after those before it
abbrev pub IsCounted : {A : Type 0} → (List A → A → Type 0) → List A → Type 0
IsCounted Good xs = AllAfter Good [] xs × (length xs < 2 ^ 64)

-- a value that is none of those before it, and that can be kept
abbrev pub IsNewOne : {T : Type 0} → (T → T → Bool) → (T → Type 0) → List T → T → Type 0
IsNewOne same Fits before x = Fits x × IsNew same before x

module _ {T : Type 0} {same : T → T → Bool} {P : T → Type 0} {table : List T} where
  pub of_field : {A : Type 0} {read : Bool → Stand → Result (A × Stand) ℕ} {bytes : A → List ℕ} {Fits : A → Type 0}
      → ((within : Bool) → ReadIsEncoded (read within) bytes Fits) → ((within : Bool) → EncodedIsRead (read within) bytes Fits) → Laws same P table (field read) (plain bytes) Fits
  of_field {A} {read} {bytes} {Fits} meant again = record {
    meant = meant_field table read bytes Fits meant;
    again = again_field table read bytes Fits again;
    adds = λ x t fits. adds_none same P t;
  }

  pub of_reference : ((a b : T) → Decides (same a b) (a ≡ b)) → IsTable same table → ((i : ℕ) (x : T) → slice_get table i ≡ Some x → P x) → length table < 2 ^ 64 → Laws same P table (reference_at table) (reference same) P
  of_reference decides distinct each short = record {
    meant = meant_reference same table P distinct each;
    again = again_reference same decides table P short;
    adds = adds_reference same P;
  }

  pub of_pair : {A B : Type 0} {first : Read A} {second : Read B} {encode_first : Encoding T A} {encode_second : Encoding T B} {Left : A → Type 0} {Right : B → Type 0}
      → Laws same P table first encode_first Left → Laws same P table second encode_second Right → Laws same P table (pair_at first second) (pair encode_first encode_second) (IsPair Left Right)
  of_pair {A} {B} {first} {second} {encode_first} {encode_second} {Left} {Right} p q = record {
    meant = meant_pair table first second encode_first encode_second Left Right p.meant q.meant;
    again = again_pair table first second encode_first encode_second Left Right p.again q.again (λ y t fits. adds_begins same P t _ (q.adds y t fits));
    adds = adds_pair same P encode_first encode_second Left Right p.adds q.adds;
  }

  pub of_made : {A B : Type 0} (make : A → B) (parts : B → A) → ((x : A) → parts (make x) ≡ x) → ((y : B) → make (parts y) ≡ y) → {read : Read A} {encode : Encoding T A} {Fits : A → Type 0}
      → Laws same P table read encode Fits → Laws same P table (made_at make read) (λ y. encode (parts y)) (λ y. Fits (parts y))
  of_made make parts undo redo {read} {encode} {Fits} p = record {
    meant = meant_made table make parts undo read encode Fits p.meant;
    again = again_made table make parts redo read encode Fits p.again;
    adds = λ y t fits. p.adds (parts y) t fits;
  }

  module _ {A : Type 0} {read : List A → Read A} {encode : Encoding T A} {Good : List A → A → Type 0} (laws : (before : List A) → Laws same P table (read before) encode (Good before)) where
    adds_all : (before xs : List A) (t : List T) → AllAfter Good before xs → Adds same P t (column encode xs t).1
    adds_all = adds_items same P encode Good (λ before. (laws before).adds)

    meant_counted : ReadsEncoded table (counted_at read) (counted encode) (IsCounted Good)
    unfolding counted_at counted
    meant_counted s is xs t e =
        let a = bound (number_at s) (λ n. items_at read n.0 [] n.1) (xs, t) e in
        let u = a.value.1 in
        let number = meant_number table s is a.value.0 u a.first in
        let items = items_mean table read encode Good (λ before. (laws before).meant) a.value.0 [] u (wrote_at table _ s u number.wrote) xs t a.last in
        let one = subst (λ (k : ℕ). Wrote table (plain var_bytes k (known table s)) s u) (sym items.size) number.wrote in
        subst (λ (l : List A). Found table (λ ys. followed (plain var_bytes) (column encode) (length ys) ys) (IsCounted Good) s l t) (sym items.is)
        (record { wrote = wrote_then table (plain var_bytes) (column encode) (length items.more) items.more s u t one items.wrote; fits = (items.good, omega (arith, number.fits, items.size)) })

    again_counted : EncodedReads table (counted_at read) (counted encode) (IsCounted Good)
    unfolding counted_at counted
    again_counted s is xs rest fits stands =
        seq table number_at (plain var_bytes) IsBelow64 (λ n. items_at read n.0 [] n.1) (column encode xs) (again_number table) s is (length xs) rest xs fits.1 (adds_begins same P _ _ (adds_all [] xs (known table s) fits.0)) stands
        (λ t at there. items_again table read encode Good (λ before. (laws before).again) (λ before ys r good. adds_begins same P r _ (adds_all before ys r good)) xs [] t at rest fits.0 there)

    adds_counted : AddsNew same P (counted encode) (IsCounted Good)
    unfolding counted
    adds_counted xs t fits = adds_all [] xs t fits.0

    pub of_counted : Laws same P table (counted_at read) (counted encode) (IsCounted Good)
    of_counted = record { meant = meant_counted; again = again_counted; adds = adds_counted }

  -- a value that isn't bad
  module _ {A : Type 0} (bad : A → Bool) {read : Read A} {encode : Encoding T A} {Fits : A → Type 0} (laws : Laws same P table read encode Fits) where
    meant_unless : ReadsEncoded table (unless_at bad read) encode (λ x. Fits x × (bad x ≡ false))
    unfolding unless_at
    meant_unless s is x t e =
        let a = bound (read s) (λ y. cond (bad y.0) (Err s.stand.at) (Ok y)) (x, t) e in
        let k = kept_else (bad a.value.0) s.stand.at (Ok a.value) (x, t) a.last in
        let same_is = same_read a.value.0 x a.value.1 t k.1 in
        let one = laws.meant s is a.value.0 a.value.1 a.first in
        found_as table encode (λ y. Fits y × (bad y ≡ false)) s a.value.0 x a.value.1 t same_is.0 same_is.1 (record { wrote = one.wrote; fits = (one.fits, k.0) })

    again_unless : EncodedReads table (unless_at bad read) encode (λ x. Fits x × (bad x ≡ false))
    unfolding unless_at
    again_unless s is x rest fits stands = rw (laws.again s is x rest fits.0 stands, fits.1) refl

    pub of_unless : Laws same P table (unless_at bad read) encode (λ x. Fits x × (bad x ≡ false))
    of_unless = record { meant = meant_unless; again = again_unless; adds = λ x t fits. laws.adds x t fits.0 }

  -- the same laws, where what can be kept is said in other words
  pub of_fits : {A : Type 0} {read : Read A} {encode : Encoding T A} {Fits Other : A → Type 0} → ((x : A) → Fits x → Other x) → ((x : A) → Other x → Fits x)
      → Laws same P table read encode Fits → Laws same P table read encode Other
  of_fits {A} {read} {encode} {Fits} {Other} to from laws = record {
    meant = λ s is x t e. (let one = laws.meant s is x t e in record { wrote = one.wrote; fits = to x one.fits });
    again = λ s is x rest fits stands. laws.again s is x rest (from x fits) stands;
    adds = λ x t fits. laws.adds x t (from x fits);
  }

  -- a list whose bytes are there, or for which there are none
  pub of_only_if : {A : Type 0} (there : Bool) {read : Read (List A)} {encode : Encoding T (List A)} {Fits : List A → Type 0}
      → Laws same P table read encode Fits → Laws same P table (only_if_at there read) (only_if there encode) (IsOnlyIf there Fits)
  unfolding only_if_at only_if
  of_only_if true laws = record { meant = laws.meant; again = laws.again; adds = laws.adds }
  of_only_if {A} false {read} {encode} {Fits} laws = record {
    meant = λ s is x t e. (let equal = same_read [] x s t e in
        found_as table (λ xs t. ([], t)) (IsOnlyIf false Fits) s [] x s t equal.0 equal.1 (record { wrote = wrote_none table s is; fits = refl }));
    again = λ s is x rest fits stands. ap (λ (l : List A). read_to l s) (sym fits) ∙ ap (λ (u : Spot). read_to x u) (after_none table s is);
    adds = λ x t fits. adds_none same P t;
  }

  -- a value that is none of those before it
  pub of_new : {A : Type 0} (equal : A → A → Bool) {read : Read A} {encode : Encoding T A} {Fits : A → Type 0} → Laws same P table read encode Fits
      → (before : List A) → Laws same P table (new_at equal read before) encode (IsNewOne equal Fits before)
  of_new equal laws before = of_unless (λ x. list_any (equal x) before) laws

  -- ---- columns

  pub of_values : {A : Type 0} {read : Read A} {encode : Encoding T A} {Fits : A → Type 0} → Laws same P table read encode Fits → ColumnLaws same P table (column_at read) (column encode) (IsColumn Fits)
  of_values {A} {read} {encode} {Fits} laws = record { one = λ n. record { meant = meant_values n; again = again_values n; adds = adds_values n }; sized = λ n xs is. is.0 }
    where
      adds_values : (n : ℕ) → AddsNew same P (column encode) (IsColumn Fits n)
      adds_values n xs t fits = adds_items same P encode (λ _. Fits) (λ _. laws.adds) [] xs t (all_after Fits [] xs fits.1)

      meant_values : (n : ℕ) → ReadsEncoded table (column_at read n) (column encode) (IsColumn Fits n)
      meant_values n s is xs t e =
          let items = items_mean table (λ _. read) encode (λ _. Fits) (λ _. laws.meant) n [] s is xs t e in
          subst (λ (l : List A). Found table (column encode) (IsColumn Fits n) s l t) (sym items.is) (record { wrote = items.wrote; fits = (items.size, each_of Fits [] items.more items.good) })

      again_values : (n : ℕ) → EncodedReads table (column_at read n) (column encode) (IsColumn Fits n)
      again_values n s is xs rest fits stands =
          subst (λ (k : ℕ). column_at read k s ≡ read_to xs (after (column encode xs (known table s)) s)) fits.0
          (items_again table (λ _. read) encode (λ _. Fits) (λ _. laws.again) (λ before ys t good. adds_begins same P t _ (adds_items same P encode (λ _. Fits) (λ _. laws.adds) before ys t good)) xs [] s is rest (all_after Fits [] xs fits.1) stands)

  pub of_both : {A B : Type 0} {left_at : ℕ → Read (List A)} {right_at : ℕ → Read (List B)} {encode_left : Encoding T (List A)} {encode_right : Encoding T (List B)} {Left : ℕ → List A → Type 0} {Right : ℕ → List B → Type 0}
      → ColumnLaws same P table left_at encode_left Left → ColumnLaws same P table right_at encode_right Right → ColumnLaws same P table (both_at left_at right_at) (both encode_left encode_right) (IsBoth Left Right)
  of_both {A} {B} {left_at} {right_at} {encode_left} {encode_right} {Left} {Right} p q = record {
    one = λ n. record {
      meant = meant_both table left_at right_at encode_left encode_right Left Right n (p.sized n) (q.sized n) (p.one n).meant (q.one n).meant;
      again = again_both table left_at right_at encode_left encode_right Left Right n (p.one n).again (q.one n).again (λ ys t fits. adds_begins same P t _ ((q.one n).adds ys t fits));
      adds = adds_both same P encode_left encode_right Left Right n (p.one n).adds (q.one n).adds;
    };
    sized = λ n rows is. sym (length-map rows (λ (x : A × B). x.0)) ∙ p.sized n _ is.0;
  }

-- a column of values that stand in a table of their own
pub of_owners : {T B U : Type 0} {same : T → T → Bool} {P : T → Type 0} {table : List T} {outer_same : U → U → Bool} {Q : U → Type 0} {outer : List U} (read : Read B) (list : Spot)
    → Laws same P table (reference_at table) (reference same) P → ColumnLaws outer_same Q outer (owners_at read list table) (owners same) (IsOwners same P table)
of_owners {T} {B} {U} {same} {P} {table} {outer_same} {Q} {outer} read list laws = record {
  one = λ n. record {
    meant = meant_owners same P read list table outer (λ k. ((of_values laws).one k).meant) n;
    again = again_owners same P read list table outer (λ k. ((of_values laws).one k).again) n;
    adds = λ xs t fits. adds_none outer_same Q t;
  };
  sized = λ n xs is. is.all.0;
}
