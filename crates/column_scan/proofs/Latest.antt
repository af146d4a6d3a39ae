-- Picks that are joined, and lists that are kept in part.
use Rattle.std.proofs.Common.{◌≡◌, ℕ, zero, suc, ◌+◌, ◌<◌, ◌≤◌, Bool, true, false, ◌&&◌, List, [], ◌∷◌, ◌++◌, length, map, take, filter, refl, sym, ◌∙◌, ap, subst, arith, All, Contains, slice_index_or, append_assoc, not, nat_lt, if◌then◌else◌}
use Rattle.std.proofs.lemmas.List.{take_more, map_more, get_or_default, get_or-take, get_or_append_left, length-take, get_or-append-add, length-append, append-nil, map-append}
use Rattle.std.proofs.lemmas.Bool.{ltb-false, ltb-true}
use Rattle.std.proofs.lemmas.List.Quantifiers.{all_pairs_push}
use Rattle.std.proofs.lemmas.List.Elements.{All-append, All-cons, All-nil, All-push, filter-append, All-contains, All-weaker, All-contains_itself, Contains-append_left, Contains-append_right, Contains-push}
use Rattle.std.specs.Cmp.{IsTotalOrder}
use Rattle.std.specs.List.{list_any}
use Rattle.std.specs.List.Sorted.{IsPermutation, IsSorted}
use Rattle.std.proofs.lemmas.List.Sorted.{All-permutation, Contains-permutation, IsPermutation-sym, ranks_by, sorted_far}
use Rattle.std.proofs.lemmas.Cmp.{on_total, nat_list_cmp_total}
use Rattle.column_scan.specs.declared.picks.Pick.{Pick}
use Rattle.column_scan.specs.Picking.{is_not_after, later_of, pick_cmp}
use Rattle.std.specs.Ordering.{is_eq, is_gt, is_lt, ordering_reverse}
use Rattle.std.specs.declared.cmp.Ordering.{Ordering}
use Rattle.std.specs.declared.cmp.Ordering.TheVariants.{Less, Equal, Greater}
use Rattle.span_types.specs.Orders.{trace_cmp}
use Rattle.span_types.specs.declared.spans.Span.{Span}
use Rattle.search_answer.proofs.Fronts.{same_trace}
use Rattle.column_scan.specs.declared.hints.Hint.{Hint}
use Rattle.column_scan.specs.Candidates.{ArePicks, Ascend, HaveLatest, IsCovered, hinted_picks, is_hinted, pick_of}
use Rattle.column_scan.specs.Sieves.{AreSifted, SieveParts, is_sifted, meets_members, only_hint, sifted_picks}

-- ---- lists

later : {X : Type 0} (y : X) (ys : List X) (x : X) → Contains ys x → Contains (y ∷ ys) x
later y ys x m = (suc m.0, omega (arith, m.1), m.2)

pub contains_map : {X Y : Type 0} (f : X → Y) (xs : List X) (x : X) → Contains xs x → Contains (map f xs) (f x)
contains_map f [] x m = let low = m.1 in absurd (omega (arith, low))
contains_map f (y ∷ ys) x (zero, low, is) = (0, omega arith, ap f is)
contains_map f (y ∷ ys) x (suc k, low, is) = later (f y) (map f ys) (f x) (contains_map f ys x (k, omega (arith, low), is))

pub contains_filter : {X : Type 0} (p : X → Bool) (xs : List X) (x : X) → Contains xs x → p x ≡ true → Contains (filter p xs) x
contains_filter p [] x m passes = let low = m.1 in absurd (omega (arith, low))
contains_filter {X} p (y ∷ ys) x (zero, low, is) passes = let e : p y ≡ true = ap p is ∙ passes in rw e (0, omega arith, is)
contains_filter {X} p (y ∷ ys) x (suc k, low, is) passes =
    let rest = contains_filter p ys x (k, omega (arith, low), is) passes in
    (elim (p y) as (λ b. p y ≡ b → Contains (filter p (y ∷ ys)) x) [
      | true ↦ λ t. rw t (later y (filter p ys) x rest)
      | false ↦ λ t. rw t rest
    ]) refl

-- ---- picks

pub itself : (picks : List Pick) → HaveLatest picks picks
itself picks = record {
  whole = All-weaker (Contains picks) (IsCovered picks) (λ p m. (p, m, refl, omega arith)) picks (All-contains_itself picks);
  only = All-contains_itself picks;
}

covered_by : (some few : List Pick) → HaveLatest some few → (p : Pick) → IsCovered some p → IsCovered few p
covered_by some few have p (q, m, same, above) =
    let r = All-contains (IsCovered few) some q have.whole m in
    let over = r.3 in
    (r.0, r.1, r.2 ∙ same, omega (arith, above, over))

-- the latest of the latest
pub of_latest : (all some few : List Pick) → HaveLatest all some → HaveLatest some few → HaveLatest all few
of_latest all some few a b = record {
  whole = All-weaker (IsCovered some) (IsCovered few) (covered_by some few b) all a.whole;
  only = All-weaker (Contains some) (Contains all) (λ p m. All-contains (Contains all) some p a.only m) few b.only;
}

pub with_more : (all some more : List Pick) → HaveLatest all some → HaveLatest (all ++ more) (some ++ more)
with_more all some more have = record {
  whole = All-append (IsCovered (some ++ more)) all more
      (All-weaker (IsCovered some) (IsCovered (some ++ more)) (λ p c. (c.0, Contains-append_left some more c.0 c.1, c.2, c.3)) all have.whole)
      (All-weaker (Contains more) (IsCovered (some ++ more)) (λ p m. (p, Contains-append_right some more p m, refl, omega arith)) more (All-contains_itself more));
  only = All-append (Contains (all ++ more)) some more
      (All-weaker (Contains all) (Contains (all ++ more)) (λ p m. Contains-append_left all more p m) some have.only)
      (All-weaker (Contains more) (Contains (all ++ more)) (λ p m. Contains-append_right all more p m) more (All-contains_itself more));
}

pub none_added : (picks more : List Pick) → more ≡ [] → HaveLatest (picks ++ more) picks
none_added picks more none = subst (λ l. HaveLatest l picks) (sym (ap (λ l. picks ++ l) none ∙ append-nil picks)) (itself picks)

-- one step of a walk
pub and_more : (all more some few : List Pick) → HaveLatest all some → HaveLatest (some ++ more) few → HaveLatest (all ++ more) few
and_more all more some few have step = of_latest (all ++ more) (some ++ more) few (with_more all some more have) step

-- ---- the order of picks

pub pick_total : IsTotalOrder pick_cmp
pick_total = on_total (λ (p : Pick). p.trace.0) nat_list_cmp_total

-- ---- one pick more

with_before : (front all some : List Pick) → HaveLatest all some → HaveLatest (front ++ all) (front ++ some)
with_before front all some have = record {
  whole = All-append (IsCovered (front ++ some)) front all
      (All-weaker (Contains front) (IsCovered (front ++ some)) (λ p m. (p, Contains-append_left front some p m, refl, omega arith)) front (All-contains_itself front))
      (All-weaker (IsCovered some) (IsCovered (front ++ some)) (λ p c. (c.0, Contains-append_right front some c.0 c.1, c.2, c.3)) all have.whole);
  only = All-append (Contains (front ++ all)) front some
      (All-weaker (Contains front) (Contains (front ++ all)) (λ p m. Contains-append_left front all p m) front (All-contains_itself front))
      (All-weaker (Contains all) (Contains (front ++ all)) (λ p m. Contains-append_right front all p m) some have.only);
}

latest_of_two : (p q : Pick) → p.trace ≡ q.trace → HaveLatest (p ∷ q ∷ []) (later_of p q ∷ [])
latest_of_two p q same = (elim (nat_lt p.latest q.latest) as (λ b. nat_lt p.latest q.latest ≡ b → HaveLatest (p ∷ q ∷ []) (later_of p q ∷ [])) [
  | true ↦ λ t. rw t (record {
    whole = two (IsCovered (q ∷ [])) p q (q, (0, omega arith, refl), sym same, below t) (q, (0, omega arith, refl), refl, omega arith);
    only = one (Contains (p ∷ q ∷ [])) q (1, omega arith, refl);
  })
  | false ↦ λ t. rw t (record {
    whole = two (IsCovered (p ∷ [])) p q (p, (0, omega arith, refl), refl, omega arith) (p, (0, omega arith, refl), same, above t);
    only = one (Contains (p ∷ q ∷ [])) p (0, omega arith, refl);
  })
]) refl
  where
    one : (P : Pick → Type 0) (x : Pick) → P x → All P (x ∷ [])
    one P x h = All-cons P x [] h (All-nil P)

    two : (P : Pick → Type 0) (x y : Pick) → P x → P y → All P (x ∷ y ∷ [])
    two P x y h k = All-cons P x (y ∷ []) h (one P y k)

    below : nat_lt p.latest q.latest ≡ true → p.latest ≤ q.latest
    below t = omega (arith, ltb-true p.latest q.latest t)

    above : nat_lt p.latest q.latest ≡ false → q.latest ≤ p.latest
    above t = ltb-false p.latest q.latest t

pub joined : (old ys new : List Pick) (p q x : Pick) → old ≡ ys ++ p ∷ [] → new ≡ ys ++ x ∷ [] → x ≡ later_of p q → is_eq (pick_cmp p q) ≡ true → HaveLatest (old ++ q ∷ []) new
joined old ys new p q x was is later same =
    let whole : old ++ q ∷ [] ≡ ys ++ p ∷ q ∷ [] = ap (λ l. l ++ q ∷ []) was ∙ append_assoc ys (p ∷ []) (q ∷ []) in
    let now : new ≡ ys ++ later_of p q ∷ [] = is ∙ ap (λ z. ys ++ z ∷ []) later in
    subst (λ l. HaveLatest l new) (sym whole) (subst (λ l. HaveLatest (ys ++ p ∷ q ∷ []) l) (sym now)
    (with_before ys (p ∷ q ∷ []) (later_of p q ∷ []) (latest_of_two p q (same_trace p.trace q.trace same))))

pub added : (old ys new : List Pick) (p q : Pick) → old ≡ ys ++ p ∷ [] → new ≡ (ys ++ p ∷ []) ++ q ∷ [] → HaveLatest (old ++ q ∷ []) new
added old ys new p q was is =
    let now : new ≡ old ++ q ∷ [] = is ∙ ap (λ l. l ++ q ∷ []) (sym was) in
    subst (λ l. HaveLatest (old ++ q ∷ []) l) (sym now) (itself (old ++ q ∷ []))

-- ---- ascending picks

module _ (ys : List Pick) (p : Pick) (ascend : Ascend (ys ++ p ∷ [])) where
  at : (k : ℕ) (d : Pick) → k < length ys → slice_index_or (ys ++ p ∷ []) k d ≡ slice_index_or ys k d
  at k d h = get_or_append_left ys (p ∷ []) d k h

  last : (d : Pick) → slice_index_or (ys ++ p ∷ []) (length ys + 0) d ≡ p
  last d = get_or-append-add ys (p ∷ []) 0 d

  front : Ascend ys
  front i j d l h =
      subst (λ z. trace_cmp (slice_index_or ys i d).trace z.trace ≡ Less) (at j d h)
      (subst (λ z. trace_cmp z.trace (slice_index_or (ys ++ p ∷ []) j d).trace ≡ Less) (at i d (omega arith))
      (ascend i j d l (omega (arith, length-append ys (p ∷ [])))))

  below_last : All (λ z. trace_cmp z.trace p.trace ≡ Less) ys
  below_last k d h =
      subst (λ z. trace_cmp (slice_index_or ys k d).trace z.trace ≡ Less) (last d)
      (subst (λ z. trace_cmp z.trace (slice_index_or (ys ++ p ∷ []) (length ys + 0) d).trace ≡ Less) (at k d h)
      (ascend k (length ys + 0) d (omega arith) (omega (arith, length-append ys (p ∷ [])))))

less : (o : Ordering) → not (is_gt o) ≡ true → is_eq o ≡ false → o ≡ Less
less Less up apart = refl
less Equal up apart = cc
less Greater up apart = cc

pub joined_ascend : (old ys new : List Pick) (p q x : Pick) → old ≡ ys ++ p ∷ [] → new ≡ ys ++ x ∷ [] → x ≡ later_of p q → is_eq (pick_cmp p q) ≡ true → Ascend old → Ascend new
joined_ascend old ys new p q x was is later same ascend =
    let up : Ascend (ys ++ p ∷ []) = subst (λ l. Ascend l) was ascend in
    let trace : x.trace ≡ p.trace = ap (λ z. z.trace) later ∙ of_later (nat_lt p.latest q.latest) in
    subst (λ l. Ascend l) (sym is) (all_pairs_push (λ a b. trace_cmp a.trace b.trace ≡ Less) ys x (front ys p up)
    (λ k d h. subst (λ t. trace_cmp (slice_index_or ys k d).trace t ≡ Less) (sym trace) (below_last ys p up k d h)))
  where
    of_later : (b : Bool) → (if b then q else p).trace ≡ p.trace
    of_later true = sym (same_trace p.trace q.trace same)
    of_later false = refl

pub added_ascend : (old ys new : List Pick) (p q : Pick) → old ≡ ys ++ p ∷ [] → new ≡ (ys ++ p ∷ []) ++ q ∷ [] → is_eq (pick_cmp p q) ≡ false → Ascend old → All (λ z. is_not_after z q ≡ true) old → Ascend new
added_ascend old ys new p q was is apart ascend none_after =
    let up : Ascend (ys ++ p ∷ []) = subst (λ l. Ascend l) was ascend in
    let none : All (λ z. is_not_after z q ≡ true) (ys ++ p ∷ []) = subst (λ l. All (λ z. is_not_after z q ≡ true) l) was none_after in
    let before : trace_cmp p.trace q.trace ≡ Less = less (trace_cmp p.trace q.trace) (All-contains (λ z. is_not_after z q ≡ true) (ys ++ p ∷ []) p none (Contains-push ys p)) apart in
    subst (λ l. Ascend l) (sym is) (all_pairs_push (λ a b. trace_cmp a.trace b.trace ≡ Less) (ys ++ p ∷ []) q up
    (All-push (λ z. trace_cmp z.trace q.trace ≡ Less) ys p
    (All-weaker (λ z. trace_cmp z.trace p.trace ≡ Less) (λ z. trace_cmp z.trace q.trace ≡ Less) (λ z b. pick_total.trans z p q b before) ys (below_last ys p up))
    before))

-- ---- picks that were sorted

pub of_permutation : (all same picks : List Pick) → IsPermutation all same → HaveLatest same picks → HaveLatest all picks
of_permutation all same picks moved have = record {
  whole = All-permutation (IsCovered picks) same all (IsPermutation-sym all same moved) have.whole;
  only = All-weaker (Contains same) (Contains all) (λ p m. Contains-permutation same all p (IsPermutation-sym all same moved) m) picks have.only;
}

not_after : (o : Ordering) → is_lt o ≡ false → not (is_gt (ordering_reverse o)) ≡ true
not_after Less up = cc
not_after Equal up = refl
not_after Greater up = refl

pub none_after : (sorted picks : List Pick) (i : ℕ) (d : Pick) → IsSorted pick_cmp sorted → i < length sorted → HaveLatest (take i sorted) picks → All (λ z. is_not_after z (slice_index_or sorted i d) ≡ true) picks
none_after sorted picks i d up h have = All-weaker (Contains (take i sorted)) (λ z. is_not_after z (slice_index_or sorted i d) ≡ true) (λ z m. before z m) picks have.only
  where
    before : (z : Pick) → Contains (take i sorted) z → is_not_after z (slice_index_or sorted i d) ≡ true
    before z (k, low, is) =
        let size = length-take i sorted in
        let at : slice_index_or sorted k d ≡ z = get_or_default sorted k d z (omega (arith, low, size, h)) ∙ sym (get_or-take i sorted k z (omega (arith, low, size))) ∙ is in
        let far : is_lt (pick_cmp (slice_index_or sorted i d) (slice_index_or sorted k d)) ≡ false =
        sorted_far (λ p q. is_lt (pick_cmp p q)) (ranks_by pick_total (λ p. p)) sorted up k i d (omega (arith, low, size)) h in
        let one : is_lt (pick_cmp (slice_index_or sorted i d) z) ≡ false = subst (λ x. is_lt (pick_cmp (slice_index_or sorted i d) x) ≡ false) at far in
        subst (λ o. not (is_gt o) ≡ true) (sym (pick_total.antisymm z (slice_index_or sorted i d))) (not_after (pick_cmp (slice_index_or sorted i d) z) one)

-- ---- hinted and sifted spans

pub hinted_append : (hint : Hint) (xs ys : List Span) → hinted_picks hint (xs ++ ys) ≡ hinted_picks hint xs ++ hinted_picks hint ys
hinted_append hint xs ys = ap (map pick_of) (filter-append (is_hinted hint) xs ys) ∙ map-append pick_of (filter (is_hinted hint) xs) (filter (is_hinted hint) ys)

pub sifted_append : (sieve : SieveParts) (a b : List Span) → sifted_picks sieve (a ++ b) ≡ sifted_picks sieve a ++ sifted_picks sieve b
sifted_append sieve a b = ap (map pick_of) (filter-append (is_sifted sieve) a b) ∙ map-append pick_of (filter (is_sifted sieve) a) (filter (is_sifted sieve) b)

pub none_sifted : (sieve : SieveParts) (s : Span) (picks : List Pick) → is_sifted sieve s ≡ false → HaveLatest (picks ++ sifted_picks sieve (s ∷ [])) picks
none_sifted sieve s picks not_so = none_added picks (sifted_picks sieve (s ∷ [])) (rw not_so refl)

-- of spans that aren't hinted none is sifted
pub none_of_hint : (sieve : SieveParts) (spans : List Span) → hinted_picks sieve.hint spans ≡ [] → sifted_picks sieve spans ≡ []
none_of_hint sieve [] none = refl
none_of_hint sieve (s ∷ spans) none = (elim (is_hinted sieve.hint s) as (λ b. is_hinted sieve.hint s ≡ b → sifted_picks sieve (s ∷ spans) ≡ []) [
  | true ↦ λ t. let bad : pick_of s ∷ hinted_picks sieve.hint spans ≡ [] = rw t at none in cc
  | false ↦ λ t. rw (and_false (meets_members sieve s) (is_hinted sieve.hint s) t) (none_of_hint sieve spans (rw t at none))
]) refl
  where
    and_false : (a b : Bool) → b ≡ false → (a && b) ≡ false
    and_false true b is = is
    and_false false b is = refl

-- and none of those of which no member is so
pub none_of_members : (sieve : SieveParts) (spans : List Span) → list_any (meets_members sieve) spans ≡ false → sifted_picks sieve spans ≡ []
none_of_members sieve [] none = refl
none_of_members sieve (s ∷ spans) none = (elim (meets_members sieve s) as (λ b. meets_members sieve s ≡ b → sifted_picks sieve (s ∷ spans) ≡ []) [
  | true ↦ λ t. let bad : true ≡ false = rw t at none in cc
  | false ↦ λ t. rw t (none_of_members sieve spans (rw t at none))
]) refl

-- ---- steps of loops

pub sorted_step : (sorted picks new : List Pick) (i : ℕ) (d : Pick) → i < length sorted → HaveLatest (take i sorted) picks
    → HaveLatest (picks ++ slice_index_or sorted i d ∷ []) new → HaveLatest (take (i + 1) sorted) new
sorted_step sorted picks new i d h have step =
    subst (λ l. HaveLatest l new) (sym (take_more sorted i d h)) (and_more (take i sorted) (slice_index_or sorted i d ∷ []) picks new have step)

pub sifted_step : {X : Type 0} (f : X → Span) (sieve now : SieveParts) (xs : List X) (old picks new : List Pick) (i : ℕ) (d : X) → now ≡ sieve → i < length xs
    → HaveLatest (old ++ sifted_picks sieve (map f (take i xs))) picks
    → HaveLatest (picks ++ sifted_picks now (f (slice_index_or xs i d) ∷ [])) new → HaveLatest (old ++ sifted_picks sieve (map f (take (i + 1) xs))) new
sifted_step f sieve now xs old picks new i d same h have step =
    let one = sifted_picks sieve (f (slice_index_or xs i d) ∷ []) in
    let more = ap (sifted_picks sieve) (map_more f xs i d h) ∙ sifted_append sieve (map f (take i xs)) (f (slice_index_or xs i d) ∷ []) in
    let whole = ap (λ l. old ++ l) more ∙ sym (append_assoc old (sifted_picks sieve (map f (take i xs))) one) in
    subst (λ l. HaveLatest l new) (sym whole) (and_more (old ++ sifted_picks sieve (map f (take i xs))) one picks new have
    (subst (λ (p : SieveParts). HaveLatest (picks ++ sifted_picks p (f (slice_index_or xs i d) ∷ [])) new) same step))

-- what was found of no spans more
pub none_more : (sieve : SieveParts) (picks : List Pick) → HaveLatest (picks ++ sifted_picks sieve []) picks
none_more sieve picks = none_added picks [] refl

-- what the sieve of a hint alone picks
pub by_hint_alone : (hint : Hint) (spans : List Span) (picks : List Pick) → AreSifted (only_hint hint) spans picks → ArePicks hint spans picks
by_hint_alone hint spans picks are = record { latest = are.latest; ascending = are.ascending }
