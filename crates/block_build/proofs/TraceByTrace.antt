-- First occurrences are found trace by trace.
use Rattle.std.proofs.Common.{◌≡◌, ◌⊎◌, inl, inr, ℕ, suc, ◌+◌, Bool, true, false, not, List, [], ◌∷◌, ◌++◌, length, get_or, Option, Some, None, All, if◌then◌else◌, refl, sym, ap, subst, ◌∙◌, arith, append_assoc}
use Rattle.std.specs.List.{AllByRecursion, AllPairs}
use Rattle.std.specs.Ordering.{is_eq, is_lt, ordering_reverse, ordering_then}
use Rattle.std.specs.declared.cmp.Ordering.{Ordering}
use Rattle.std.specs.declared.cmp.Ordering.TheVariants.{Less, Equal, Greater}
use Rattle.std.specs.Cmp.{IsTotalOrder}
use Rattle.std.proofs.lemmas.Cmp.{nat_list_cmp_total, on_total}
use Rattle.std.proofs.lemmas.List.{append-nil}
use Rattle.std.proofs.lemmas.List.Elements.{All-append, Contains-append_left, Contains-append_right, recursion_from_All}
use Rattle.std.proofs.lemmas.List.Kept.{AllPairs-cons}
use Rattle.std.proofs.lemmas.List.Sorted.{ranks_by, sorted_far}
use Rattle.std.proofs.lemmas.Map.Lookups.{exact_bytes}
use Rattle.span_types.specs.declared.ids.Key.{Key}
use Rattle.span_types.specs.declared.ids.TraceId.{TraceId}
use Rattle.span_types.specs.declared.spans.Row.{Row}
use Rattle.span_types.specs.First.{IsFirstOf, first_at, lesser, row_at}
use Rattle.span_types.specs.Keys.{row_key}
use Rattle.span_types.specs.Orders.{block_order, key_cmp, place_cmp, span_cmp, trace_cmp, trace_order}
use Rattle.span_types.proofs.FirstLaws.{first_at-append}
use Rattle.rows_by_trace.proofs.TraceLaws.{all_pairs}
use Rattle.block_build.specs.Merging.{AreByTrace, AreOfOne, GoneOver, Settled, begins_other}

pub trace_cmp_total : IsTotalOrder trace_cmp
trace_cmp_total = on_total (λ (t : TraceId). t.0) nat_list_cmp_total

-- ---- a row of another trace isn't that of a key

then_not : (o p : Ordering) → is_eq o ≡ false → is_eq (ordering_then o p) ≡ false
then_not Less p e = refl
then_not Equal p e = cc
then_not Greater p e = refl

pub of_other : (k : Key) (row : Row) → is_eq (trace_cmp row.span.trace k.trace) ≡ false → row_at k row ≡ None
of_other k row other = rw (then_not (trace_cmp row.span.trace k.trace) (span_cmp row.span.id k.span) other) refl

-- ---- rows whose traces come before those of others

-- each row's trace is below those of the others
abbrev pub Apart : List Row → List Row → Type 0
Apart a b = AllByRecursion (λ (x : Row). AllByRecursion (λ (y : Row). trace_cmp x.span.trace y.span.trace ≡ Less) b) a

either : (a b : Option Row) (r : Row) → lesser a b ≡ Some r → (a ≡ Some r) ⊎ (b ≡ Some r)
either None b r e = inr e
either (Some a) None r e = inl e
either (Some a) (Some b) r e =
    elim (is_lt (place_cmp b.place a.place)) as (λ t. (if t then Some b else Some a) ≡ Some r → (Some a ≡ Some r) ⊎ (Some b ≡ Some r)) [
      | true ↦ λ h. inr h
      | false ↦ λ h. inl h
    ] e

chosen : (t : Bool) (x r : Row) → (if t then Some x else None) ≡ Some r → x ≡ r
chosen true x r e = cc
chosen false x r e = cc

-- what holds of all rows holds of the first one of a key
of_first : (P : Row → Type 0) (k : Key) (rows : List Row) (r : Row) → AllByRecursion P rows → first_at k rows ≡ Some r → P r
of_first P k [] r all e = cc
of_first P k (x ∷ xs) r all e =
    elim (either (row_at k x) (first_at k xs) r e) [
      | inl here ↦ subst P (chosen (is_eq (key_cmp (row_key x) k)) x r here) all.0
      | inr later ↦ of_first P k xs r all.1 later
    ]

none_of : (k : Key) (rows : List Row) → AllByRecursion (λ (y : Row). is_eq (trace_cmp y.span.trace k.trace) ≡ false) rows → first_at k rows ≡ None
none_of k [] other = refl
none_of k (x ∷ xs) other = rw (of_other k x other.0, none_of k xs other.1) refl

pub map_all : (P Q : Row → Type 0) (rows : List Row) → ((r : Row) → P r → Q r) → AllByRecursion P rows → AllByRecursion Q rows
map_all P Q [] f all = tt
map_all P Q (x ∷ xs) f all = (f x all.0, map_all P Q xs f all.1)

less_not : (o : Ordering) → o ≡ Less → is_eq o ≡ false
less_not Less e = refl
less_not Equal e = cc
less_not Greater e = cc

greater_not : (o : Ordering) → o ≡ Less → is_eq (ordering_reverse o) ≡ false
greater_not Less e = refl
greater_not Equal e = cc
greater_not Greater e = cc

above_not : (s t : TraceId) → trace_cmp s t ≡ Less → is_eq (trace_cmp t s) ≡ false
above_not s t low = ap is_eq (trace_cmp_total.antisymm t s) ∙ greater_not (trace_cmp s t) low

-- a key of the former rows has no row among the latter, nor the other way round
not_later : (a b : List Row) (k : Key) (r : Row) → Apart a b → first_at k a ≡ Some r → first_at (row_key r) b ≡ None
not_later a b k r apart e =
    none_of (row_key r) b
    (map_all (λ (y : Row). trace_cmp r.span.trace y.span.trace ≡ Less) (λ (y : Row). is_eq (trace_cmp y.span.trace r.span.trace) ≡ false) b
    (λ y low. above_not r.span.trace y.span.trace low)
    (of_first (λ (x : Row). AllByRecursion (λ (y : Row). trace_cmp x.span.trace y.span.trace ≡ Less) b) k a r apart e))

not_before : (a b : List Row) (k : Key) (r : Row) → Apart a b → first_at k b ≡ Some r → first_at (row_key r) a ≡ None
not_before a b k r apart e =
    none_of (row_key r) a
    (map_all (λ (x : Row). AllByRecursion (λ (y : Row). trace_cmp x.span.trace y.span.trace ≡ Less) b) (λ (x : Row). is_eq (trace_cmp x.span.trace r.span.trace) ≡ false) a
    (λ x low. less_not (trace_cmp x.span.trace r.span.trace) (of_first (λ (y : Row). trace_cmp x.span.trace y.span.trace ≡ Less) k b r low e)) apart)

pairs_beside : (R : Row → Row → Type 0) (ones others : List Row) → AllPairs R ones → AllPairs R others → All (λ x. All (R x) others) ones → AllPairs R (ones ++ others)
pairs_beside R [] others pa pb ab = pb
pairs_beside R (x ∷ xs) others pa pb ab =
    AllPairs-cons R x (xs ++ others) (All-append (R x) xs others (λ k d low. pa 0 (suc k) d (omega arith) (omega (arith, low))) (ab 0 x (omega arith)))
    (pairs_beside R xs others (λ i j d less low. pa (suc i) (suc j) d (omega (arith, less)) (omega (arith, low))) pb (λ k d low. ab (suc k) d (omega (arith, low))))

below_first : (o p : Ordering) → o ≡ Less → ordering_then o p ≡ Less
below_first Less p e = refl
below_first Equal p e = cc
below_first Greater p e = cc

-- First occurrences stand beside each other where no trace is among both.
pub beside : (a b ones others : List Row) → Apart a b → IsFirstOf a ones → IsFirstOf b others → IsFirstOf (a ++ b) (ones ++ others)
beside a b ones others apart isa isb = record {
  only = All-append (λ r. first_at (row_key r) (a ++ b) ≡ Some r) ones others
      (λ i d low. left_only (get_or ones i d) (isa.only i d low)) (λ i d low. right_only (get_or others i d) (isb.only i d low));
  whole = λ k r e. elim (either (first_at k a) (first_at k b) r (sym (first_at-append k a b) ∙ e)) [
    | inl here ↦ Contains-append_left ones others r (isa.whole k r here)
    | inr later ↦ Contains-append_right ones others r (isb.whole k r later)
  ];
  ordered = λ i d low. pairs_beside (λ (x y : Row). block_order x y ≡ Less) ones others (all_pairs ones isa.ordered) (all_pairs others isb.ordered)
      (λ i d low j e high. cross (get_or ones i d) (get_or others j e) (isa.only i d low) (isb.only j e high)) i (i + 1) d (omega arith) low;
}
  where
    left_only : (r : Row) → first_at (row_key r) a ≡ Some r → first_at (row_key r) (a ++ b) ≡ Some r
    left_only r e = first_at-append (row_key r) a b ∙ rw (e, not_later a b (row_key r) r apart e) refl

    right_only : (r : Row) → first_at (row_key r) b ≡ Some r → first_at (row_key r) (a ++ b) ≡ Some r
    right_only r e = first_at-append (row_key r) a b ∙ rw (e, not_before a b (row_key r) r apart e) refl

    cross : (x y : Row) → first_at (row_key x) a ≡ Some x → first_at (row_key y) b ≡ Some y → block_order x y ≡ Less
    cross x y ex ey =
        below_first (trace_cmp x.span.trace y.span.trace) (trace_order x y)
        (of_first (λ (z : Row). trace_cmp x.span.trace z.span.trace ≡ Less) (row_key y) b y
        (of_first (λ (w : Row). AllByRecursion (λ (z : Row). trace_cmp w.span.trace z.span.trace ≡ Less) b) (row_key x) a x apart ex) ey)

-- ---- rows in order of trace

abbrev NoneBelow : Row → List Row → Type 0
NoneBelow x rows = AllByRecursion (λ (y : Row). is_lt (trace_cmp y.span.trace x.span.trace) ≡ false) rows

none_below : (x : Row) (rest : List Row) → AreByTrace (x ∷ rest) → NoneBelow x rest
none_below x rest up =
    recursion_from_All (λ (y : Row). is_lt (trace_cmp y.span.trace x.span.trace) ≡ false) rest
    (λ k d low. sorted_far (λ (a b : Row). is_lt (trace_cmp a.span.trace b.span.trace)) (ranks_by trace_cmp_total (λ (r : Row). r.span.trace)) (x ∷ rest) up 0 (suc k) d (omega arith) (omega (arith, low)))

all_behind : (P : Row → Type 0) (xs ys : List Row) → AllByRecursion P (xs ++ ys) → AllByRecursion P ys
all_behind P [] ys all = all
all_behind P (x ∷ xs) ys all = all_behind P xs ys all.1

rest_sorted : (xs ys : List Row) → AreByTrace (xs ++ ys) → AreByTrace ys
rest_sorted [] ys up = up
rest_sorted (x ∷ xs) ys up = rest_sorted xs ys (λ k d b low.
    subst (λ (n : ℕ). is_lt (trace_cmp (get_or (x ∷ (xs ++ ys)) n d).span.trace (get_or (xs ++ ys) k d).span.trace) ≡ false) (next k) (up (suc k) d (omega arith) (omega (arith, low))))
  where
    next : (k : ℕ) → suc k + 1 ≡ suc (k + 1)
    next k = omega arith

pub is_same : (s t : TraceId) → not (is_eq (trace_cmp s t)) ≡ false → s ≡ t
is_same s t h = ap (λ (b : List ℕ). record { 0 = b }) (exact_bytes s.0 t.0 (equal (trace_cmp s t) h))
  where
    equal : (o : Ordering) → not (is_eq o) ≡ false → o ≡ Equal
    equal Less h = cc
    equal Equal h = refl
    equal Greater h = cc

below_other : (o : Ordering) → is_lt (ordering_reverse o) ≡ false → not (is_eq o) ≡ true → o ≡ Less
below_other Less low other = refl
below_other Equal low other = cc
below_other Greater low other = cc

pub is_below : (s t : TraceId) → is_lt (trace_cmp t s) ≡ false → not (is_eq (trace_cmp s t)) ≡ true → trace_cmp s t ≡ Less
is_below s t low other = below_other (trace_cmp s t) (sym (ap is_lt (trace_cmp_total.antisymm t s)) ∙ low) other

-- what is below a trace is below what that trace isn't above
pub through : (s t u : TraceId) → trace_cmp s t ≡ Less → is_lt (trace_cmp u t) ≡ false → trace_cmp s u ≡ Less
through s t u less low =
    elim (is_eq (trace_cmp t u)) as (λ e. is_eq (trace_cmp t u) ≡ e → trace_cmp s u ≡ Less) [
      | true ↦ λ e. subst (λ (v : TraceId). trace_cmp s v ≡ Less) (is_same t u (ap not e)) less
      | false ↦ λ e. trace_cmp_total.trans s t u less (is_below t u low (ap not e))
    ] refl

apart_from : (x : Row) (xs rest : List Row) (row : Row) → AreByTrace ((x ∷ xs) ++ (row ∷ rest)) → AllByRecursion (λ (y : Row). y.span.trace ≡ x.span.trace) xs
    → not (is_eq (trace_cmp x.span.trace row.span.trace)) ≡ true → Apart (x ∷ xs) (row ∷ rest)
apart_from x xs rest row up same other =
    let low = all_behind (λ (y : Row). is_lt (trace_cmp y.span.trace x.span.trace) ≡ false) xs (row ∷ rest) (none_below x (xs ++ (row ∷ rest)) up) in
    let first : trace_cmp x.span.trace row.span.trace ≡ Less = is_below x.span.trace row.span.trace low.0 other in
    let later = map_all (λ (z : Row). is_lt (trace_cmp z.span.trace row.span.trace) ≡ false) (λ (z : Row). trace_cmp x.span.trace z.span.trace ≡ Less) rest
    (λ z h. through x.span.trace row.span.trace z.span.trace first h) (none_below row rest (rest_sorted (x ∷ xs) (row ∷ rest) up)) in (
      (first, later),
      map_all (λ (y : Row). y.span.trace ≡ x.span.trace) (λ (y : Row). AllByRecursion (λ (z : Row). trace_cmp y.span.trace z.span.trace ≡ Less) (row ∷ rest)) xs
          (λ y e. subst (λ (t : TraceId). AllByRecursion (λ (z : Row). trace_cmp t z.span.trace ≡ Less) (row ∷ rest)) (sym e) (first, later)) same,
    )

apart_group : (group rest : List Row) (row : Row) → AreByTrace (group ++ (row ∷ rest)) → AreOfOne group → begins_other group row ≡ true → Apart group (row ∷ rest)
apart_group [] rest row up same other = cc
apart_group (x ∷ xs) rest row up same other = apart_from x xs rest row up same other

all_push : (P : Row → Type 0) (xs : List Row) (row : Row) → AllByRecursion P xs → P row → AllByRecursion P (xs ++ row ∷ [])
all_push P [] row all one = (one, tt)
all_push P (x ∷ xs) row all one = (all.0, all_push P xs row all.1 one)

one_more : (group : List Row) (row : Row) → AreOfOne group → begins_other group row ≡ false → AreOfOne (group ++ row ∷ [])
one_more [] row same own = tt
one_more (x ∷ xs) row same own = all_push (λ (y : Row). y.span.trace ≡ x.span.trace) xs row same (sym (is_same x.span.trace row.span.trace own))

-- ---- going over the rows

pub at_start : (rows : List Row) → AreByTrace rows → GoneOver rows [] rows []
at_start rows up = record { sorted = up; of_one = tt; goes_on = λ firsts is. is }

-- a row of the same trace, or the first one of all
pub goes_same : (rows group rest found : List Row) (row : Row) → begins_other group row ≡ false → GoneOver rows group (row ∷ rest) found → GoneOver rows (group ++ row ∷ []) rest found
goes_same rows group rest found row own so_far =
    let same : (group ++ row ∷ []) ++ rest ≡ group ++ (row ∷ rest) = append_assoc group (row ∷ []) rest in
    record {
      sorted = subst AreByTrace (sym same) so_far.sorted;
      of_one = one_more group row so_far.of_one own;
      goes_on = λ firsts is. so_far.goes_on firsts (subst (λ (l : List Row). IsFirstOf l firsts) same is);
    }

-- a row of another trace
pub goes_other : (rows group rest found more : List Row) (row : Row) → begins_other group row ≡ true → GoneOver rows group (row ∷ rest) found → Settled group found more → GoneOver rows (row ∷ []) rest more
goes_other rows group rest found more row other so_far settled = record {
  sorted = rest_sorted group (row ∷ rest) so_far.sorted;
  of_one = tt;
  goes_on = λ firsts is.
      subst (IsFirstOf rows) (sym (append_assoc found settled.firsts firsts) ∙ ap (λ (l : List Row). l ++ firsts) (sym settled.added))
      (so_far.goes_on (settled.firsts ++ firsts)
      (beside group (row ∷ rest) settled.firsts firsts (apart_group group rest row so_far.sorted so_far.of_one other) settled.are_first is));
}

pub at_end : (rows group found all : List Row) → GoneOver rows group [] found → Settled group found all → IsFirstOf rows all
at_end rows group found all so_far settled =
    subst (IsFirstOf rows) (sym settled.added) (so_far.goes_on settled.firsts (subst (λ (l : List Row). IsFirstOf l settled.firsts) (sym (append-nil group)) settled.are_first))

pub starts : (rows group rest found : List Row) → group ≡ [] → rest ≡ rows → found ≡ [] → AreByTrace rows → GoneOver rows group rest found
starts rows group rest found none all empty up =
    subst (λ (l : List Row). GoneOver rows l rest found) (sym none)
    (subst (λ (l : List Row). GoneOver rows [] l found) (sym all) (subst (GoneOver rows [] rows) (sym empty) (at_start rows up)))

pub ends : (rows group rest found all : List Row) → length rest ≡ 0 → GoneOver rows group rest found → Settled group found all → IsFirstOf rows all
ends rows group [] found all none so_far settled = at_end rows group found all so_far settled
ends rows group (x ∷ xs) found all none so_far settled = absurd (omega (arith, none))

-- a row is taken
pub took_same : (group new found : List Row) (row : Row) (other : Bool) → other ≡ begins_other group row → other ≡ false → new ≡ group ++ row ∷ []
    → (rows rest : List Row) → GoneOver rows group (row ∷ rest) found → GoneOver rows new rest found
took_same group new found row other is own more = λ rows rest so_far.
    subst (λ (l : List Row). GoneOver rows l rest found) (sym more) (goes_same rows group rest found row (sym is ∙ own) so_far)

pub took_other : (group emptied new found all : List Row) (row : Row) (other : Bool) → other ≡ begins_other group row → other ≡ true → emptied ≡ [] → new ≡ emptied ++ row ∷ []
    → Settled group found all → (rows rest : List Row) → GoneOver rows group (row ∷ rest) found → GoneOver rows new rest all
took_other group emptied new found all row other is own none more settled = λ rows rest so_far.
    subst (λ (l : List Row). GoneOver rows l rest all) (sym (more ∙ ap (λ (l : List Row). l ++ row ∷ []) none)) (goes_other rows group rest found all row (sym is ∙ own) so_far settled)
