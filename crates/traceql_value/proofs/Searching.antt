-- What searches for patterns, and the patterns.
use Rattle.std.proofs.Common.{◌≡◌, ℕ, zero, suc, ◌+◌, ◌<◌, Bool, true, false, cond, List, [], ◌∷◌, ◌++◌, length, get_or, map, set, All, Option, Some, None, IfSome, bytes_eq, sym, subst, ap, arith, ◌∙◌, refl}
use Rattle.std.specs.BTreeMap.{is_at}
use Rattle.std.specs.Cmp.Lexicographic.{bytes_decides, nat_list_eq_equiv, slice_cmp}
use Rattle.std.specs.Map.{lookup, update}
use Rattle.std.specs.Ordering.{nat_cmp}
use Rattle.std.specs.Option.{option_and_then, option_map, option_map_or, option_or}
use Rattle.std.specs.Prelude.{is_some, slice_get}
use Rattle.std.proofs.lemmas.List.{get_or-map, length-append, map-set, set-get_or}
use Rattle.std.proofs.lemmas.List.Elements.{All-nil, All-push, All-weaker}
use Rattle.std.proofs.lemmas.Option.{IfSome_then, get_or_from_slice_get, slice_get-map, slice_get_within}
use Rattle.regex.specs.Patterns.{Re}
use Rattle.regex.specs.Strings.{matcher_pattern}
use Rattle.traceql_types.specs.declared.pattern.Pattern.{Pattern}
use Rattle.traceql_types.specs.Patterns.{pattern_text, pattern_re}
use Rattle.traceql_value.specs.Meaning.{matches}
use Rattle.traceql_value.specs.declared.matchers.Search.{Search}
use Rattle.traceql_value.specs.Matchers.{AreSearches, EachSearchesFor, Known, Numbers, SearchFor, all_known, finds, first_re, found_at, is_search_of, known, number_of, search_of, with_string}

-- ---- the first pattern of a string answers for it

-- whether there is a match of what is searched for, if anything is
abbrev pub answer : Option Re → List ℕ → Bool
answer o text = option_map_or (λ re. finds re text) o false

answer_step : (b rest : Bool) (re : Re) (text : List ℕ) (o : Option Re) → rest ≡ answer o text → cond b (finds re text) rest ≡ answer (cond b (Some re) o) text
answer_step true rest re text o e = refl
answer_step false rest re text o e = e

matches_first : (ps : List Pattern) (string text : List ℕ) → matches ps string text ≡ answer (first_re ps string) text
matches_first [] string text = refl
matches_first (p ∷ ps) string text =
    answer_step (bytes_eq (pattern_text p) string) (matches ps string text) (pattern_re p) text (first_re ps string) (matches_first ps string text)

found_known : (o : Option Known) (string : List ℕ) (f : Option Re) (text : List ℕ) → o ≡ with_string string f → option_map_or (λ k. finds k.1 text) o false ≡ answer f text
found_known o string None text e = ap (λ (q : Option Known). option_map_or (λ (k : Known). finds k.1 text) q false) e
found_known o string (Some re) text e = ap (λ (q : Option Known). option_map_or (λ (k : Known). finds k.1 text) q false) e

-- what searches for each string's first pattern searches for the patterns
pub SearchFor-first : (ps : List Pattern) (searches : List Known) (numbers : Numbers) → AreSearches ps searches numbers → SearchFor searches numbers ps
SearchFor-first ps searches numbers h = λ string text.
    found_known (search_of searches numbers string) string (first_re ps string) text (h.first string) ∙ sym (matches_first ps string text)

pub EachSearchesFor-first : (ps : List Pattern) (searches : List Known) (numbers : Numbers) → AreSearches ps searches numbers → EachSearchesFor searches ps
EachSearchesFor-first ps searches numbers h =
    All-weaker (λ (k : Known). first_re ps k.0 ≡ Some k.1) (λ (k : Known). (text : List ℕ) → finds k.1 text ≡ matches ps k.0 text)
    (λ k e text. sym (matches_first ps k.0 text ∙ ap (λ o. answer o text) e)) searches h.each

-- ---- a search that is found by its number

found_one : (ps : List Pattern) (searches : List Known) (number : ℕ) (string text : List ℕ) → EachSearchesFor searches ps → (o : Option Known) → slice_get searches number ≡ o → option_map_or (λ k. bytes_eq k.0 string) o false ≡ true → option_map_or (λ k. finds k.1 text) o false ≡ matches ps string text
found_one ps searches number string text h None e t = absurd cc
found_one ps searches number string text h (Some k) e t =
    let within = slice_get_within searches number k e in
    let same : get_or searches number k ≡ k = get_or_from_slice_get searches number k k e in
    let here : finds k.1 text ≡ matches ps k.0 text = subst (λ (q : Known). finds q.1 text ≡ matches ps q.0 text) same (h number k within text) in
    here ∙ ap (λ s. matches ps s text) ((bytes_decides k.0 string).0 t)

-- a search that is this string's finds what the string's pattern does
pub found_by_number : (ps : List Pattern) (searches : List Known) (number : ℕ) (string text : List ℕ) → EachSearchesFor searches ps → is_search_of searches number string ≡ true → found_at searches (Some number) text ≡ matches ps string text
found_by_number ps searches number string text h t = found_one ps searches number string text h (slice_get searches number) refl t

-- ---- one pattern more

last_step : (b : Bool) (re : Re) (whole rest last : Option Re) → whole ≡ option_or rest last → cond b (Some re) whole ≡ option_or (cond b (Some re) rest) last
last_step true re whole rest last e = refl
last_step false re whole rest last e = e

first_re-last : (ps : List Pattern) (p : Pattern) (s : List ℕ) → first_re (ps ++ p ∷ []) s ≡ option_or (first_re ps s) (cond (bytes_eq (pattern_text p) s) (Some (pattern_re p)) None)
first_re-last [] p s = refl
first_re-last (q ∷ ps) p s =
    last_step (bytes_eq (pattern_text q) s) (pattern_re q) (first_re (ps ++ p ∷ []) s) (first_re ps s)
    (cond (bytes_eq (pattern_text p) s) (Some (pattern_re p)) None) (first_re-last ps p s)

or_none : (o : Option Re) → option_or o None ≡ o
or_none None = refl
or_none (Some re) = refl

again_step : (b : Bool) (o : Option Re) (re : Re) → (b ≡ true → is_some o ≡ true) → option_or o (cond b (Some re) None) ≡ o
again_step true None re h = absurd (let e : false ≡ true = h refl in cc)
again_step true (Some x) re h = refl
again_step false o re h = or_none o

within_some : (searches : List Known) (n : ℕ) → n < length searches → is_some (slice_get searches n) ≡ true
within_some [] n lt = absurd (omega arith)
within_some (k ∷ searches) zero lt = refl
within_some (k ∷ searches) (suc n) lt = within_some searches n (omega arith)

numbered_some : (searches : List Known) (o : Option ℕ) → IfSome o (λ n. n < length searches) → is_some o ≡ true → is_some (option_and_then (slice_get searches) o) ≡ true
numbered_some searches None h e = absurd cc
numbered_some searches (Some n) h e = within_some searches n h

mapped_some : (f : Option Re) (string : List ℕ) → is_some (with_string string f) ≡ is_some f
mapped_some None string = refl
mapped_some (Some re) string = refl

-- the searches of before answer the same for the patterns so far
each_kept : (ps : List Pattern) (p : Pattern) (searches : List Known) → All (λ k. first_re ps k.0 ≡ Some k.1) searches → All (λ k. first_re (ps ++ p ∷ []) k.0 ≡ Some k.1) searches
each_kept ps p searches h =
    All-weaker (λ (k : Known). first_re ps k.0 ≡ Some k.1) (λ (k : Known). first_re (ps ++ p ∷ []) k.0 ≡ Some k.1)
    (λ k e. first_re-last ps p k.0 ∙ ap (λ o. option_or o (cond (bytes_eq (pattern_text p) k.0) (Some (pattern_re p)) None)) e) searches h

-- a pattern whose string has its search already
pub searched_again : (ps : List Pattern) (searches : List Known) (numbers : Numbers) (p : Pattern) (string : List ℕ) → string ≡ pattern_text p → is_some (number_of numbers string) ≡ true → AreSearches ps searches numbers → AreSearches (ps ++ p ∷ []) searches numbers
searched_again ps searches numbers p string e has h =
    let there : is_some (first_re ps string) ≡ true =
    sym (mapped_some (first_re ps string) string) ∙ ap is_some (sym (h.first string)) ∙ numbered_some searches (number_of numbers string) (h.numbered string) has in
    record {
      first = λ s. h.first s ∙ ap (with_string s) (sym (first_re-last ps p s ∙ again_step (bytes_eq (pattern_text p) s) (first_re ps s) (pattern_re p)
          (λ t. subst (λ q. is_some (first_re ps q) ≡ true) (e ∙ (bytes_decides (pattern_text p) s).0 t) there)));
      numbered = h.numbered;
      each = each_kept ps p searches h.each;
    }

no_number : (o : Option ℕ) → is_some o ≡ false → o ≡ None
no_number None e = refl
no_number (Some n) e = absurd cc

unmapped : (f : Option Re) (string : List ℕ) → None ≡ with_string string f → f ≡ None
unmapped None string e = refl
unmapped (Some re) string e = absurd cc

slice_get_last : (searches : List Known) (k : Known) → slice_get (searches ++ k ∷ []) (length searches) ≡ Some k
slice_get_last [] k = refl
slice_get_last (j ∷ searches) k = slice_get_last searches k

slice_get_older : (searches : List Known) (k : Known) (n : ℕ) → n < length searches → slice_get (searches ++ k ∷ []) n ≡ slice_get searches n
slice_get_older [] k n lt = absurd (omega arith)
slice_get_older (j ∷ searches) k zero lt = refl
slice_get_older (j ∷ searches) k (suc n) lt = slice_get_older searches k n (omega arith)

older : (searches : List Known) (k : Known) (o : Option ℕ) → IfSome o (λ n. n < length searches) → option_and_then (slice_get (searches ++ k ∷ [])) o ≡ option_and_then (slice_get searches) o
older searches k None h = refl
older searches k (Some n) h = slice_get_older searches k n h

longer : (searches : List Known) (k : Known) → length (searches ++ k ∷ []) ≡ length searches + 1
longer searches k = length-append searches (k ∷ [])

numbered_step : (searches : List Known) (k : Known) (b : Bool) (o : Option ℕ) → IfSome o (λ n. n < length searches) → IfSome (cond b (Some (length searches)) o) (λ n. n < length (searches ++ k ∷ []))
numbered_step searches k true o h = let more = longer searches k in omega (arith, more)
numbered_step searches k false o h = let more = longer searches k in IfSome_then o h (λ n lt. omega (arith, lt, more))

-- a pattern whose string has none yet
module _ (ps : List Pattern) (searches : List Known) (numbers new : Numbers) (p : Pattern) (string : List ℕ) (re : Re)
    (e : string ≡ pattern_text p) (lacks : is_some (number_of numbers string) ≡ false) (same : re ≡ pattern_re p)
    (put : (s : List ℕ) → number_of new s ≡ update bytes_eq (number_of numbers) string (Some (length searches)) s)
    (h : AreSearches ps searches numbers) where
  none_before : first_re ps string ≡ None
  none_before = unmapped (first_re ps string) string (sym (ap (option_and_then (slice_get searches)) (no_number (number_of numbers string) lacks)) ∙ h.first string)

  first_now : first_re (ps ++ p ∷ []) string ≡ Some (pattern_re p)
  first_now =
      first_re-last ps p string ∙ ap (λ o. option_or o (cond (bytes_eq (pattern_text p) string) (Some (pattern_re p)) None)) none_before
      ∙ ap (λ b. cond b (Some (pattern_re p)) None) (ap (λ q. bytes_eq q string) (sym e) ∙ nat_list_eq_equiv.refl string)

  first_step : (s : List ℕ) (b : Bool) → bytes_eq string s ≡ b → option_and_then (slice_get (searches ++ (string, re) ∷ [])) (cond b (Some (length searches)) (number_of numbers s)) ≡ with_string s (first_re (ps ++ p ∷ []) s)
  first_step s true t =
      slice_get_last searches (string, re) ∙ ap (λ r. with_string string (Some r)) same ∙ sym (ap (with_string string) first_now)
      ∙ ap (λ q. with_string q (first_re (ps ++ p ∷ []) q)) ((bytes_decides string s).0 t)
  first_step s false t =
      older searches (string, re) (number_of numbers s) (h.numbered s) ∙ h.first s
      ∙ ap (with_string s) (sym (first_re-last ps p s
      ∙ ap (λ b. option_or (first_re ps s) (cond b (Some (pattern_re p)) None)) (ap (λ q. bytes_eq q s) (sym e) ∙ t) ∙ or_none (first_re ps s)))

  pub searched_added : AreSearches (ps ++ p ∷ []) (searches ++ (string, re) ∷ []) new
  searched_added = record {
    first = λ s. ap (option_and_then (slice_get (searches ++ (string, re) ∷ []))) (put s) ∙ first_step s (bytes_eq string s) refl;
    numbered = λ s. subst (λ o. IfSome o (λ n. n < length (searches ++ (string, re) ∷ []))) (sym (put s)) (numbered_step searches (string, re) (bytes_eq string s) (number_of numbers s) (h.numbered s));
    each = All-push (λ (k : Known). first_re (ps ++ p ∷ []) k.0 ≡ Some k.1) searches (string, re) (each_kept ps p searches h.each) (first_now ∙ ap Some (sym same));
  }

-- no pattern yet
pub no_searches : (numbers : Numbers) → numbers.entries ≡ [] → AreSearches [] [] numbers
no_searches numbers e = record {
  first = λ s. ap (λ es. option_and_then (slice_get []) (lookup (is_at (λ k. slice_cmp nat_cmp s k.now)) es)) e;
  numbered = λ s. subst (λ es. IfSome (lookup (is_at (λ k. slice_cmp nat_cmp s k.now)) es) (λ n. n < length {A = Known} [])) (sym e) tt;
  each = All-nil (λ (k : Known). first_re [] k.0 ≡ Some k.1);
}

-- ---- the string of each pattern has a first one

there_step : (b : Bool) (re : Re) (f : Option Re) → is_some f ≡ true → is_some (cond b (Some re) f) ≡ true
there_step true re f e = refl
there_step false re f e = e

pub first_re_there : (ps : List Pattern) (k : ℕ) (d : List ℕ) → k < length ps → is_some (first_re ps (get_or (map pattern_text ps) k d)) ≡ true
first_re_there [] k d lt = absurd (omega arith)
first_re_there (p ∷ ps) zero d lt = ap (λ b. is_some (cond b (Some (pattern_re p)) (first_re ps (pattern_text p)))) (nat_list_eq_equiv.refl (pattern_text p))
first_re_there (p ∷ ps) (suc k) d lt =
    there_step (bytes_eq (pattern_text p) (get_or (map pattern_text ps) k d)) (pattern_re p) (first_re ps (get_or (map pattern_text ps) k d)) (first_re_there ps k d (omega arith))

-- ---- a search among others

-- what is known of the search of this number
known_there : (searches : List Search) (number : ℕ) (o : Option Search) → slice_get searches number ≡ o → slice_get (all_known searches) number ≡ option_map known o
known_there searches number o e = slice_get-map known searches number ∙ ap (option_map known) e

pub found_there : (searches : List Search) (number : ℕ) (s : Search) (text : List ℕ) → slice_get searches number ≡ Some s → found_at (all_known searches) (Some number) text ≡ finds (matcher_pattern s.matcher) text
found_there searches number s text e = ap (λ (o : Option Known). option_map_or (λ (k : Known). finds k.1 text) o false) (known_there searches number (Some s) e)

pub found_nowhere : (searches : List Search) (number : ℕ) (text : List ℕ) → slice_get searches number ≡ None → found_at (all_known searches) (Some number) text ≡ false
found_nowhere searches number text e = ap (λ (o : Option Known). option_map_or (λ (k : Known). finds k.1 text) o false) (known_there searches number None e)

pub is_search_of_there : (searches : List Search) (number : ℕ) (s : Search) (string : List ℕ) → slice_get searches number ≡ Some s → is_search_of (all_known searches) number string ≡ bytes_eq s.string.now string
is_search_of_there searches number s string e = ap (λ (o : Option Known). option_map_or (λ (k : Known). bytes_eq k.0 string) o false) (known_there searches number (Some s) e)

pub is_search_of_nowhere : (searches : List Search) (number : ℕ) (string : List ℕ) → slice_get searches number ≡ None → is_search_of (all_known searches) number string ≡ false
is_search_of_nowhere searches number string e = ap (λ (o : Option Known). option_map_or (λ (k : Known). bytes_eq k.0 string) o false) (known_there searches number None e)

pub same_known : (string : List ℕ) (new old : Re) → new ≡ old → (let k : Known = (string, new) in k ≡ (string, old))
same_known string new old e = ap (λ re. (let k : Known = (string, re) in k)) e

-- what searched once searches for the same
pub known_kept : (searches : List Search) (number : ℕ) (old new : Search) → slice_get searches number ≡ Some old → known new ≡ known old → all_known (set searches number new) ≡ all_known searches
known_kept searches number old new at same =
    let within = slice_get_within searches number old at in
    let here : get_or (all_known searches) number (known old) ≡ known old =
    get_or-map known searches number old (known old) within ∙ ap known (get_or_from_slice_get searches number old old at) in
    map-set known searches number new ∙ ap (set (all_known searches) number) (same ∙ sym here) ∙ set-get_or (all_known searches) number (known old)
