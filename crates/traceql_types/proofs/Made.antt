-- How the making of patterns goes on.
use Rattle.std.proofs.Common.{◌≡◌, ℕ, ◌<◌, ◌≤◌, ◌⊎◌, inl, inr, List, [], ◌∷◌, ◌++◌, length, take, map, Option, Some, None, Err, refl, sym, ap, ◌∙◌, rules, arith}
use Rattle.std.specs.Prelude.{All, Contains, IfSome, IsSomeAnd}
use Rattle.std.proofs.lemmas.List.{map-append, take_all}
use Rattle.std.proofs.lemmas.List.Elements.{All-weaker, All-cons, All-nil, All-push, All-contains, Contains-append_left, Contains-append_right}
use Rattle.traceql_syntax.specs.Trees.{QueryTree}
use Rattle.traceql_types.specs.declared.errors.TypeError.{TypeError}
use Rattle.traceql_types.specs.declared.errors.TypeError.TheVariants.{KindClash, NotTruth, DivisionInAggregate, NotNumber, BadPattern, PatternTooBig, Memory}
use Rattle.traceql_types.specs.declared.pattern.Pattern.{Pattern}
use Rattle.traceql_types.specs.declared.asked.Asked.{Asked}
use Rattle.traceql_types.specs.Shown.{shown}
use Rattle.traceql_types.specs.Asked.{PlacedText, asked_patterns}
use Rattle.traceql_types.specs.Checks.{AreMade, IsMade, HasCause, GoesFirst, ComesAfterMade}
use Rattle.traceql_types.specs.Steps.{IsFound, of_kinds, no_pattern, refused, Found, Stands, Step, passed, done as made_one, bad, too_big}
use Rattle.traceql_types.specs.declared.errors.MakeError.TheVariants as make
use Rattle.traceql_types.specs.Makers.{Call}
use Rattle.traceql_types.specs.Order.{place, number, Precedes, IsFirstOf}
use Rattle.traceql_types.specs.Patterns.{pattern_text}
use Rattle.traceql_types.specs.Refusals.{kind_refusals}
use Rattle.traceql_types.specs.Whole.{IsNoPattern}
use Rattle.traceql_types.proofs.Firsts.{precedes_trans, precedes_total, precedes_self}
use Rattle.traceql_types.proofs.OfKinds.{IsOfKinds, kinds_fine}

-- a list's last element is in it
last-contained : (done : List PlacedText) (m : PlacedText) → Contains (done ++ m ∷ []) m
last-contained done m = Contains-append_right done (m ∷ []) m (search rules)

-- a cause stays one
found-grows : (kinds : Option TypeError) (done : List PlacedText) (rose risen : List ℕ → Type 0) (m : PlacedText) (e : TypeError) →
    ((t : List ℕ) → rose t → risen t) → IsFound kinds done rose e → IsFound kinds (done ++ m ∷ []) risen e
found-grows kinds done rose risen m e up (of_kinds h) = of_kinds h
found-grows kinds done rose risen m e up (no_pattern n is at why) = no_pattern n (Contains-append_left done (m ∷ []) n is) at why
found-grows kinds done rose risen m e up (refused n is at why) = refused n (Contains-append_left done (m ∷ []) n is) at (up n.1 why)

-- nothing is asked for: a refusal goes before
pub stands-skip : (kinds : Option TypeError) (done : List PlacedText) (rose risen : List ℕ → Type 0) (m : PlacedText) (first : Option TypeError) (made : List Pattern) →
    ((t : List ℕ) → rose t → risen t) → IsSomeAnd first (λ e. Precedes e (BadPattern m.0)) →
    Stands kinds done rose first made → Stands kinds (done ++ m ∷ []) risen first made
stands-skip kinds done rose risen m None made up before stands = absurd before
stands-skip kinds done rose risen m (Some e) made up before stands = record {
  cause = found-grows kinds done rose risen m e up stands.cause;
  first = stands.first;
  after_made = All-push (λ n. n.0 < place e → IsMade n.1) done m stands.after_made (λ lower. absurd (behind (place e) (number e) m.0 before lower));
} where
  behind : (p k at : ℕ) → (p < at) ⊎ ((p ≡ at) × (k ≤ 5)) → at < p → ⊥
  behind p k at (inl h) lower = omega arith
  behind p k at (inr h) lower = omega arith

-- one pattern more is made
pub are_made-more : (done : List PlacedText) (m : PlacedText) (made : List Pattern) (p : Pattern) → pattern_text p ≡ m.1 → AreMade done made → AreMade (done ++ m ∷ []) (made ++ p ∷ [])
are_made-more done m made p shows are =
    map-append pattern_text made (p ∷ []) ∙ joined ∙ sym (map-append (λ (n : PlacedText). n.1) done (m ∷ []))
  where
    joined : map pattern_text made ++ pattern_text p ∷ [] ≡ map (λ (n : PlacedText). n.1) done ++ m.1 ∷ []
    joined = cc

-- the pattern was made
pub stands-made : (kinds : Option TypeError) (done : List PlacedText) (rose risen : List ℕ → Type 0) (m : PlacedText) (first : Option TypeError) (made : List Pattern) (p : Pattern) →
    ((t : List ℕ) → rose t → risen t) → pattern_text p ≡ m.1 →
    Stands kinds done rose first made → Stands kinds (done ++ m ∷ []) risen first (made ++ p ∷ [])
stands-made kinds done rose risen m None made p up shows stands = (stands.0, are_made-more done m made p shows stands.1)
stands-made kinds done rose risen m (Some e) made p up shows stands = record {
  cause = found-grows kinds done rose risen m e up stands.cause;
  first = stands.first;
  after_made = All-push (λ n. n.0 < place e → IsMade n.1) done m stands.after_made (λ lower. (p, shows));
}

-- a list of patterns made has one for each text
all-made : (done : List PlacedText) (made : List Pattern) → AreMade done made → All (λ m. IsMade m.1) done
all-made [] made h = All-nil (λ m. IsMade m.1)
all-made (m ∷ done) [] h = absurd (apart _ _ h)
  where
    apart : (x : List ℕ) (xs : List (List ℕ)) → [] ≡ x ∷ xs → ⊥
    apart x xs e = cc
all-made (m ∷ done) (p ∷ made) h =
    All-cons (λ n. IsMade n.1) m done (p, head _ _ _ _ h) (all-made done made (tail _ _ _ _ h))
  where
    head : (x y : List ℕ) (xs ys : List (List ℕ)) → x ∷ xs ≡ y ∷ ys → x ≡ y
    head x y xs ys e = cc

    tail : (x y : List ℕ) (xs ys : List (List ℕ)) → x ∷ xs ≡ y ∷ ys → xs ≡ ys
    tail x y xs ys e = cc

-- a refusal at the pattern's place that goes before the one found so far, if there is one
stands-worse : (kinds : Option TypeError) (done : List PlacedText) (rose risen : List ℕ → Type 0) (m : PlacedText) (x : TypeError) (first : Option TypeError) (made : List Pattern) →
    place x ≡ m.0 → IfSome first (Precedes x) → IsFound kinds (done ++ m ∷ []) risen x →
    Stands kinds done rose first made → Found kinds (done ++ m ∷ []) risen x
stands-worse kinds done rose risen m x None made here before cause stands = record {
  cause = cause;
  first = rw stands.0 tt;
  after_made = All-push (λ n. n.0 < place x → IsMade n.1) done m
      (All-weaker (λ n. IsMade n.1) (λ n. n.0 < place x → IsMade n.1) (λ n is lower. is) done (all-made done made stands.1))
      (λ lower. absurd (let lower' : m.0 < place x = lower in omega arith));
}
stands-worse kinds done rose risen m x (Some e) made here before cause stands = record {
  cause = cause;
  first = through kinds stands.first;
  after_made = All-push (λ n. n.0 < place x → IsMade n.1) done m
      (All-weaker (λ n. n.0 < place e → IsMade n.1) (λ n. n.0 < place x → IsMade n.1) (λ n is lower. is (under n.0 (place x) (place e) (number x) (number e) before lower)) done stands.after_made)
      (λ lower. absurd (let lower' : m.0 < place x = lower in omega arith));
} where
  through : (kinds : Option TypeError) → IfSome kinds (Precedes e) → IfSome kinds (Precedes x)
  through None h = tt
  through (Some k) h = precedes_trans x e k before h

  under : (n p q k l : ℕ) → (p < q) ⊎ ((p ≡ q) × (k ≤ l)) → n < p → n < q
  under n p q k l (inl h) lower = omega arith
  under n p q k l (inr h) lower = omega arith

-- what goes before what doesn't go before a bad pattern
bad-before : (first : Option TypeError) (at : ℕ) → (IsSomeAnd first (λ e. Precedes e (BadPattern at)) → ⊥) → IfSome first (Precedes (BadPattern at))
bad-before None at against = tt
bad-before (Some e) at against = precedes_total e (BadPattern at) against

big-order : (p k at : ℕ) → ((p < at) ⊎ ((p ≡ at) × (k ≤ 5)) → ⊥) → (at < p) ⊎ ((at ≡ p) × (6 ≤ k))
big-order p k at against = grind arith

big-before : (first : Option TypeError) (at : ℕ) → (IsSomeAnd first (λ e. Precedes e (BadPattern at)) → ⊥) → IfSome first (Precedes (PatternTooBig at))
big-before None at against = tt
big-before (Some e) at against = big-order (place e) (number e) at against

-- the text was no pattern
pub stands-bad : (kinds : Option TypeError) (done : List PlacedText) (rose risen : List ℕ → Type 0) (m : PlacedText) (first : Option TypeError) (made : List Pattern) →
    (IsSomeAnd first (λ e. Precedes e (BadPattern m.0)) → ⊥) → IsNoPattern m.1 →
    Stands kinds done rose first made → Found kinds (done ++ m ∷ []) risen (BadPattern m.0)
stands-bad kinds done rose risen m first made against why =
    stands-worse kinds done rose risen m (BadPattern m.0) first made refl (bad-before first m.0 against)
    (no_pattern m (last-contained done m) refl why)

-- the maker refused it
pub stands-refused : (kinds : Option TypeError) (done : List PlacedText) (rose risen : List ℕ → Type 0) (m : PlacedText) (first : Option TypeError) (made : List Pattern) →
    (IsSomeAnd first (λ e. Precedes e (BadPattern m.0)) → ⊥) → risen m.1 →
    Stands kinds done rose first made → Found kinds (done ++ m ∷ []) risen (PatternTooBig m.0)
stands-refused kinds done rose risen m first made against why =
    stands-worse kinds done rose risen m (PatternTooBig m.0) first made refl (big-before first m.0 against)
    (refused m (last-contained done m) refl why)

-- before the first pattern
pub stands-start : (kinds : Option TypeError) (rose : List ℕ → Type 0) (made : List Pattern) → made ≡ [] → Stands kinds [] rose kinds made
stands-start None rose made is = (refl, rw is refl)
stands-start (Some e) rose made is = record {
  cause = of_kinds refl;
  first = precedes_self e;
  after_made = All-nil (λ n. n.0 < place e → IsMade n.1);
}

-- after the last pattern, with no refusal
pub fits-at_end : (q : QueryTree) (kinds : Option TypeError) (done : List PlacedText) (rose : List ℕ → Type 0) (made : List Pattern) →
    IsFirstOf (kind_refusals q) kinds → Stands kinds done rose None made → kind_refusals q ≡ []
fits-at_end q kinds done rose made first stands = rw stands.0 at first

-- the cause of a refusal after the last pattern
cause_of_kinds : (q : QueryTree) (rose : List ℕ → Type 0) (e : TypeError) → IsOfKinds e → Contains (kind_refusals q) e → HasCause q rose e
cause_of_kinds q rose (KindClash at) of h = h
cause_of_kinds q rose (NotTruth at) of h = h
cause_of_kinds q rose (DivisionInAggregate at) of h = h
cause_of_kinds q rose (NotNumber at) of h = h
cause_of_kinds q rose (BadPattern at) of h = absurd of
cause_of_kinds q rose (PatternTooBig at) of h = absurd of
cause_of_kinds q rose Memory of h = tt

-- the refusal for kinds that goes first is one for kinds
pub first_is_of_kinds : (q : QueryTree) (kinds : Option TypeError) → IsFirstOf (kind_refusals q) kinds → IfSome kinds IsOfKinds
first_is_of_kinds q None first = tt
first_is_of_kinds q (Some e) first = All-contains IsOfKinds (kind_refusals q) e (kinds_fine q) first.among

pub cause-at_end : (q : QueryTree) (kinds : Option TypeError) (rose : List ℕ → Type 0) (e : TypeError) →
    IsFirstOf (kind_refusals q) kinds → IsFound kinds (asked_patterns q) rose e → HasCause q rose e
cause-at_end q kinds rose e first (of_kinds h) =
    let is = rw h at first in
    cause_of_kinds q rose e (All-contains IsOfKinds (kind_refusals q) e (kinds_fine q) is.among) is.among
cause-at_end q kinds rose e first (no_pattern m is at why) = rw at (m, is, refl, why)
cause-at_end q kinds rose e first (refused m is at why) = rw at (m, is, refl, why)

before-kinds : (refusals : List TypeError) (kinds : Option TypeError) (e : TypeError) → IsFirstOf refusals kinds → IfSome kinds (Precedes e) → All (Precedes e) refusals
before-kinds refusals None e first before = rw first (All-nil (Precedes e))
before-kinds refusals (Some k) e first before = All-weaker (Precedes k) (Precedes e) (λ f. precedes_trans e k f before) refusals first.before

pub first-at_end : (q : QueryTree) (kinds : Option TypeError) (e : TypeError) →
    IsFirstOf (kind_refusals q) kinds → IfSome kinds (Precedes e) → GoesFirst q e
first-at_end q kinds (KindClash at) first before = before-kinds (kind_refusals q) kinds (KindClash at) first before
first-at_end q kinds (NotTruth at) first before = before-kinds (kind_refusals q) kinds (NotTruth at) first before
first-at_end q kinds (DivisionInAggregate at) first before = before-kinds (kind_refusals q) kinds (DivisionInAggregate at) first before
first-at_end q kinds (NotNumber at) first before = before-kinds (kind_refusals q) kinds (NotNumber at) first before
first-at_end q kinds (BadPattern at) first before = before-kinds (kind_refusals q) kinds (BadPattern at) first before
first-at_end q kinds (PatternTooBig at) first before = before-kinds (kind_refusals q) kinds (PatternTooBig at) first before
first-at_end q kinds Memory first before = tt

pub after_made-at_end : (q : QueryTree) (e : TypeError) → All (λ m. m.0 < place e → IsMade m.1) (asked_patterns q) → ComesAfterMade q e
after_made-at_end q (KindClash at) h = h
after_made-at_end q (NotTruth at) h = h
after_made-at_end q (DivisionInAggregate at) h = h
after_made-at_end q (NotNumber at) h = h
after_made-at_end q (BadPattern at) h = h
after_made-at_end q (PatternTooBig at) h = h
after_made-at_end q Memory h = tt

-- what was found, once all were asked for
pub found-at_end : (kinds first : Option TypeError) (done asked : List PlacedText) (rose : List ℕ → Type 0) (e : TypeError) (made : List Pattern) →
    first ≡ Some e → done ≡ asked → Stands kinds done rose first made → Found kinds asked rose e
found-at_end kinds first done asked rose e made is all stands = rw (← all) (rw is at stands)

pub shown-taken : (xs : List Asked) (i : ℕ) → length xs ≤ i → map shown (take i xs) ≡ map shown xs
shown-taken xs i h = ap (map shown) (take_all i xs h)

-- one step more
pub stands-step : (kinds : Option TypeError) (done : List PlacedText) (rose risen : List ℕ → Type 0) (m : PlacedText) (first now : Option TypeError) (made more : List Pattern) (calls : List Call) →
    ((t : List ℕ) → rose t → risen t) → (calls ≡ (m.1, Err make.Refused) ∷ [] → risen m.1) → Step m first made now more calls →
    Stands kinds done rose first made → Stands kinds (done ++ m ∷ []) risen now more
stands-step kinds done rose risen m first now made more calls up last (passed before) stands = stands-skip kinds done rose risen m first made up before stands
stands-step kinds done rose risen m first now made more calls up last (made_one p none shows) stands = stands-made kinds done rose risen m first made p up shows stands
stands-step kinds done rose risen m first now made more calls up last (bad none why) stands = stands-bad kinds done rose risen m first made none why stands
stands-step kinds done rose risen m first now made more calls up last (too_big none) stands = stands-refused kinds done rose risen m first made none (last refl) stands

-- where no refusal was found, all so far were made
pub made-if-none : (kinds first : Option TypeError) (done : List PlacedText) (rose : List ℕ → Type 0) (made : List Pattern) → Stands kinds done rose first made → first ≡ None → AreMade done made
made-if-none kinds None done rose made stands none = stands.1
made-if-none kinds (Some e) done rose made stands none = absurd (cc)
