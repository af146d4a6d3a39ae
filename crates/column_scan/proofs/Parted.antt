-- How the rows of a block are parted by the trace of one of them.
use Rattle.std.proofs.Common.{◌≡◌, ℕ, zero, suc, ◌+◌, ◌*◌, false, List, [], ◌∷◌, ◌++◌, take, drop, Option, None, Some, refl, ◌∙◌, ap, subst, arith, IfSome}
use Rattle.std.specs.List.{AllByRecursion}
use Rattle.std.specs.Ordering.{is_gt, ordering_reverse}
use Rattle.std.specs.declared.cmp.Ordering.{Ordering}
use Rattle.std.specs.declared.cmp.Ordering.TheVariants.{Less, Equal, Greater}
use Rattle.std.proofs.Math.Seq.{take-add}
use Rattle.std.proofs.lemmas.List.Elements.{recursion_from_All}
use Rattle.std.proofs.lemmas.Option.{same_Some}
use Rattle.span_types.specs.Orders.{trace_cmp}
use Rattle.span_types.specs.declared.ids.TraceId.{TraceId}
use Rattle.span_types.specs.declared.spans.Row.{Row}
use Rattle.block_info.specs.InfoParts.{InfoParts}
use Rattle.block_format.specs.Blocks.{BlockHasInfo, ids_of}
use Rattle.block_format.specs.Index.{AreAscending}
use Rattle.block_read.proofs.DescribedLaws.{index_stands}
use Rattle.block_read.proofs.TogetherLaws.{total}
use Rattle.stripe_skims.specs.Wanted.{last_or, last_trace}
use Rattle.column_scan.specs.Scans.{PartsRows}
use Rattle.column_scan.specs.Sifting.{TellsLast}

-- ---- rows in order

tail_up : (x : Row) (rows : List Row) → AreAscending (ids_of (x ∷ rows)) → AreAscending (ids_of rows)
tail_up x rows up = λ i j d low high. up (suc i) (suc j) d (omega (arith, low)) (omega (arith, high))

abbrev NoneBelow : TraceId → List Row → Type 0
NoneBelow id rows = AllByRecursion (λ (r : Row). is_gt (trace_cmp id r.span.trace) ≡ false) rows

of_ids : (P : TraceId → Type 0) (rows : List Row) → AllByRecursion P (ids_of rows) → AllByRecursion (λ (r : Row). P r.span.trace) rows
of_ids P [] all = tt
of_ids P (r ∷ rows) all = (all.0, of_ids P rows all.1)

-- the first row is of the lowest trace
first_lowest : (x : Row) (rows : List Row) → AreAscending (ids_of (x ∷ rows)) → NoneBelow x.span.trace rows
first_lowest x rows up =
    of_ids (λ (b : TraceId). is_gt (trace_cmp x.span.trace b) ≡ false) rows
    (recursion_from_All (λ (b : TraceId). is_gt (trace_cmp x.span.trace b) ≡ false) (ids_of rows) (λ j d within. up 0 (suc j) d (omega arith) (omega (arith, within))))

-- ---- the last of some rows

after_last : (id : TraceId) (other : Option TraceId) (n : ℕ) (rows : List Row) → AreAscending (ids_of rows) → (other ≡ Some id → NoneBelow id rows) → last_or other (take n rows) ≡ Some id → NoneBelow id (drop n rows)
after_last id other zero rows up below is = below is
after_last id other (suc n) [] up below is = tt
after_last id other (suc n) (x ∷ rows) up below is =
    after_last id (Some x.span.trace) n rows (tail_up x rows up) (λ same. subst (λ (t : TraceId). NoneBelow t rows) (same_Some x.span.trace id same) (first_lowest x rows up)) is

-- what is so of each of them is so of the last one
last_has : (P : TraceId → Type 0) (id x : TraceId) (rows : List Row) → P x → AllByRecursion (λ (r : Row). P r.span.trace) rows → last_or (Some x) rows ≡ Some id → P id
last_has P id x [] one all is = subst P (same_Some x id is) one
last_has P id x (r ∷ rows) one all is = last_has P id r.span.trace rows all.0 all.1 is

taken : (P : Row → Type 0) (n : ℕ) (rows : List Row) → AllByRecursion P rows → AllByRecursion P (take n rows)
taken P zero rows all = tt
taken P (suc n) [] all = tt
taken P (suc n) (r ∷ rows) all = (all.0, taken P n rows all.1)

not_above : (t : TraceId) → is_gt (trace_cmp t t) ≡ false
not_above t = of_reverse (trace_cmp t t) (total.antisymm t t)
  where
    of_reverse : (o : Ordering) → o ≡ ordering_reverse o → is_gt o ≡ false
    of_reverse Less is = refl
    of_reverse Equal is = refl
    of_reverse Greater is = cc

up_to_last : (id : TraceId) (other : Option TraceId) (n : ℕ) (rows : List Row) → AreAscending (ids_of rows) → last_or other (take n rows) ≡ Some id → AllByRecursion (λ (r : Row). is_gt (trace_cmp r.span.trace id) ≡ false) (take n rows)
up_to_last id other zero rows up is = tt
up_to_last id other (suc n) [] up is = tt
up_to_last id other (suc n) (x ∷ rows) up is = (
  last_has (λ (t : TraceId). is_gt (trace_cmp x.span.trace t) ≡ false) id x.span.trace (take n rows) (not_above x.span.trace)
      (taken (λ (r : Row). is_gt (trace_cmp x.span.trace r.span.trace) ≡ false) n rows (first_lowest x rows up)) is,
  up_to_last id (Some x.span.trace) n rows (tail_up x rows up) is,
)

-- the last of a part is the last of all up to its end
last_append : (other : Option TraceId) (xs ys : List Row) → last_or other (xs ++ ys) ≡ last_or (last_or other xs) ys
last_append other [] ys = refl
last_append other (x ∷ xs) ys = last_append (Some x.span.trace) xs ys

last_alike : (other : Option TraceId) (id : TraceId) (rows : List Row) → last_trace rows ≡ Some id → last_or other rows ≡ Some id
last_alike other id [] is = cc
last_alike other id (x ∷ rows) is = is

whole_last : (i : ℕ) (rows : List Row) (id : TraceId) → last_trace (take 256 (drop (256 * i) rows)) ≡ Some id → last_trace (take (256 * (i + 1)) rows) ≡ Some id
whole_last i rows id is =
    let next : 256 * (i + 1) ≡ 256 * i + 256 = omega arith in
    ap (λ (n : ℕ). last_trace (take n rows)) next ∙ ap last_trace (take-add (256 * i) 256 rows) ∙ last_append None (take (256 * i) rows) (take 256 (drop (256 * i) rows))
    ∙ last_alike (last_trace (take (256 * i) rows)) id (take 256 (drop (256 * i) rows)) is

-- ---- after a stripe

pub parted : (info : InfoParts) (bytes : List ℕ) (rows : List Row) → BlockHasInfo info bytes rows → (i : ℕ) (last : Option TraceId) → TellsLast (take 256 (drop (256 * i) rows)) last
    → IfSome last (λ id. PartsRows id (take (256 * (i + 1)) rows) (drop (256 * (i + 1)) rows))
parted info bytes rows has i None told = tt
parted info bytes rows has i (Some id) told =
    let up = (index_stands info bytes rows has).ascending in
    let is = whole_last i rows id told in
    record { none_above = up_to_last id None (256 * (i + 1)) rows up is; none_below = after_last id None (256 * (i + 1)) rows up (λ bad. cc) is }
