-- The numbers of searches by their places.
use Rattle.std.proofs.Common.{◌≡◌, ℕ, ◌<◌, Bool, true, false, cond, List, [], ◌∷◌, ◌++◌, length, get_or, All, Option, Some, None, sym, subst, ap, arith, ◌∙◌, ◌==◌, refl}
use Rattle.std.specs.BTreeMap.{BTreeMap}
use Rattle.std.specs.List.{AllByRecursion}
use Rattle.std.specs.Option.{option_and_then, option_map, option_or}
use Rattle.std.specs.Ordering.{is_eq, nat_cmp}
use Rattle.std.specs.Prelude.{is_some, slice_get}
use Rattle.std.proofs.lemmas.Bool.Decides.{nat_tests}
use Rattle.std.proofs.lemmas.List.{get_or-map, length-map}
use Rattle.std.proofs.lemmas.List.Elements.{All-cons, All-from_recursion, All-nil}
use Rattle.regex.specs.Patterns.{Re}
use Rattle.traceql_types.specs.Asked.{PlacedText}
use Rattle.traceql_types.specs.Checks.{AreMade, Ascends}
use Rattle.traceql_types.specs.declared.pattern.Pattern.{Pattern}
use Rattle.traceql_types.specs.Patterns.{pattern_text}
use Rattle.traceql_value.specs.Matchers.{AreSearches, Known, Numbers, first_re, last_number, number_at, number_of, string_at, with_string}
use Rattle.traceql_value.proofs.Searching.{first_re_there}

or_none : (o : Option ℕ) → option_or o None ≡ o
or_none None = refl
or_none (Some n) = refl

or_assoc : (a b c : Option ℕ) → option_or (option_or a b) c ≡ option_or a (option_or b c)
or_assoc None b c = refl
or_assoc (Some n) b c = refl

-- one place more
pub last_number-last : (numbers : List ℕ → Option ℕ) (ms : List PlacedText) (m : PlacedText) (at : ℕ) → last_number numbers (ms ++ m ∷ []) at ≡ option_or (cond (m.0 == at) (numbers m.1) None) (last_number numbers ms at)
last_number-last numbers [] m at = sym (or_none (cond (m.0 == at) (numbers m.1) None))
last_number-last numbers (n ∷ ms) m at =
    ap (λ o. option_or o (cond (n.0 == at) (numbers n.1) None)) (last_number-last numbers ms m at)
    ∙ or_assoc (cond (m.0 == at) (numbers m.1) None) (last_number numbers ms at) (cond (n.0 == at) (numbers n.1) None)

same_test : (a b : ℕ) → is_eq (nat_cmp a b) ≡ (a == b)
same_test a b = grind (arith, nat_tests)

put_step : (b : Bool) (n : ℕ) (o : Option ℕ) → cond b (Some n) o ≡ option_or (cond b (Some n) None) o
put_step true n o = refl
put_step false n o = refl

-- a place that was put
pub number_put : (own at n : ℕ) (f o : Option ℕ) → f ≡ Some n → cond (is_eq (nat_cmp own at)) (Some n) o ≡ option_or (cond (own == at) f None) o
number_put own at n f o e =
    ap (λ b. cond b (Some n) o) (same_test own at) ∙ put_step (own == at) n o ∙ ap (λ g. option_or (cond (own == at) g None) o) (sym e)

kept_step : (b : Bool) (o : Option ℕ) → o ≡ option_or (cond b None None) o
kept_step true o = refl
kept_step false o = refl

-- and one whose string has no search
pub number_kept : (own at : ℕ) (f o : Option ℕ) → f ≡ None → o ≡ option_or (cond (own == at) f None) o
number_kept own at f o e = kept_step (own == at) o ∙ ap (λ g. option_or (cond (own == at) g None) o) (sym e)

-- ---- places that ascend

apart : (a b : ℕ) → a < b → (b == a) ≡ false
apart a b lt = grind (arith, nat_tests)

before : (a b : ℕ) → a < b → (a == b) ≡ false
before a b lt = grind (arith, nat_tests)

itself : (a : ℕ) → (a == a) ≡ true
itself a = grind (arith, nat_tests)

behind : (numbers : List ℕ → Option ℕ) (ms : List PlacedText) (at : ℕ) → AllByRecursion (λ n. at < n.0) ms → last_number numbers ms at ≡ None
behind numbers [] at h = refl
behind numbers (n ∷ ms) at h =
    ap (λ o. option_or o (cond (n.0 == at) (numbers n.1) None)) (behind numbers ms at h.1)
    ∙ ap (λ b. cond b (numbers n.1) None) (apart at n.0 h.0)

-- each place leads to the number of its string
placed : (numbers : List ℕ → Option ℕ) (ms : List PlacedText) → Ascends ms → All (λ m. last_number numbers ms m.0 ≡ numbers m.1) ms
placed numbers [] h = All-nil (λ (m : PlacedText). last_number numbers [] m.0 ≡ numbers m.1)
placed numbers (m ∷ ms) h =
    All-cons (λ (n : PlacedText). last_number numbers (m ∷ ms) n.0 ≡ numbers n.1) m ms
    (ap (λ o. option_or o (cond (m.0 == m.0) (numbers m.1) None)) (behind numbers ms m.0 h.0) ∙ ap (λ b. cond b (numbers m.1) None) (itself m.0))
    (λ k d lt.
    let n : PlacedText = get_or ms k d in
    let later : m.0 < n.0 = All-from_recursion (λ (o : PlacedText). m.0 < o.0) ms h.0 k d lt in
    ap (λ o. option_or o (cond (m.0 == n.0) (numbers m.1) None)) (placed numbers ms h.1 k d lt)
    ∙ ap (λ b. option_or (numbers n.1) (cond b (numbers m.1) None)) (before m.0 n.0 later) ∙ or_none (numbers n.1))

shows : (string : List ℕ) (f : Option Re) → is_some f ≡ true → option_map (λ (k : Known). k.0) (with_string string f) ≡ Some string
shows string None e = absurd cc
shows string (Some re) e = refl

-- and its search is the string's
pub found_by_place : (asked : List PlacedText) (ps : List Pattern) (searches : List Known) (numbers : Numbers) (places : BTreeMap ℕ ℕ) → AreMade asked ps → AreSearches ps searches numbers
    → ((at : ℕ) → number_at places at ≡ last_number (number_of numbers) asked at) → Ascends asked → All (λ m. string_at searches places m.0 ≡ Some m.1) asked
found_by_place asked ps searches numbers places made h leads ascending = λ k d lt.
    let m : PlacedText = get_or asked k d in
    let number : number_at places m.0 ≡ number_of numbers m.1 = leads m.0 ∙ placed (number_of numbers) asked ascending k d lt in
    let within : k < length ps = subst (λ n. k < n) (sym (length-map asked (λ m. m.1)) ∙ ap length (sym made) ∙ length-map ps pattern_text) lt in
    let there : is_some (first_re ps m.1) ≡ true =
    subst (λ s. is_some (first_re ps s) ≡ true) (ap (λ l. get_or l k d.1) made ∙ get_or-map (λ m. m.1) asked k d d.1 lt) (first_re_there ps k d.1 within) in
    ap (λ o. option_map (λ (j : Known). j.0) (option_and_then (slice_get searches) o)) number
    ∙ ap (option_map (λ (j : Known). j.0)) (h.first m.1) ∙ shows m.1 (first_re ps m.1) there
