-- How marks and lists of positions grow along tables.
use Rattle.std.proofs.Common.{◌≡◌, ◌≢◌, ℕ, zero, suc, ◌+◌, ◌*◌, ◌<◌, ◌≤◌, List, [], ◌∷◌, ◌++◌, length, get_or, set, replicate, All, Contains, Option, None, Some, Bool, true, false, if◌then◌else◌, cond, refl, sym, ap, ◌∙◌, subst, ◌⊎◌, inl, inr, arith, length-append, length-set, get_or-set_same, get_or-set_other}
use Rattle.std.specs.Option.{option_to_list}
use Rattle.std.specs.List.{sum_by}
use Rattle.std.proofs.lemmas.List.{length_push, get_or_push, get_or_append_left, get_or_past}
use Rattle.std.proofs.lemmas.List.Elements.{Contains-append_left, Contains-append_right, Contains-append_cases, Contains-push, Contains-push_cases, All-contains}
use Rattle.std.proofs.lemmas.List.Sums.{sum_by-set, sum_by-le}
use Rattle.std.proofs.lemmas.Option.{same_Some, none-some}
use Rattle.span_tree.specs.Marking.{IsMarked, mark_of}
use Rattle.span_tree.specs.Tables.{at}
use Rattle.span_tree.specs.Reach.{LeadsWithin, AreEnds, Reaches}
use Rattle.span_tree.specs.Reach.Reaches.{start, along, aside}

pub below_or_at : (y k : ℕ) → y < k + 1 → (y < k) ⊎ (y ≡ k)
below_or_at y k l = grind arith

pub below_or_past : (a b : ℕ) → (a < b) ⊎ (b ≤ a)
below_or_past a b = grind arith

-- A position that leads on is one of the table.
pub in_table : (table : List (Option ℕ)) (y f : ℕ) → at table y ≡ Some f → y < length table
in_table table y f h = elim (below_or_past y (length table)) as (λ _. y < length table) [
  | inl l ↦ l
  | inr past ↦ absurd (none-some f (sym (get_or_past table y None past) ∙ h))
]

-- A mark stands at a position of the list.
pub in_marks : (marks : List Bool) (y : ℕ) → IsMarked marks y → y < length marks
in_marks marks y h = elim (below_or_past y (length marks)) as (λ _. y < length marks) [
  | inl l ↦ l
  | inr past ↦ let clash : false ≡ true = sym (get_or_past marks y false past) ∙ h in cc
]

Contains-nil : (d : ℕ) → Contains [] d → ⊥
Contains-nil d h = let l = h.1 in omega arith

-- A list made of an option has its value.
pub option_list_has : (o : Option ℕ) (d : ℕ) → o ≡ Some d → Contains (option_to_list o) d
option_list_has None d h = cc
option_list_has (Some x) d h = subst (λ y. Contains (x ∷ []) y) (same_Some x d h) (zero, omega arith, refl)

pub option_list_only : (o : Option ℕ) (d : ℕ) → Contains (option_to_list o) d → o ≡ Some d
option_list_only None d h = absurd (Contains-nil d h)
option_list_only (Some x) d h = elim (Contains-push_cases [] x d h) as (λ _. Some x ≡ Some d) [
  | inl none ↦ absurd (Contains-nil d none)
  | inr same ↦ ap Some same
]

-- So far the ends are those to which the table leads from marked positions below k.
pub record EndsBelow (marked : List Bool) (table : List (Option ℕ)) (ends : List ℕ) (k : ℕ) : Type 0 where
  pub only : (d : ℕ) → Contains ends d → (x : ℕ) × IsMarked marked x × (at table x ≡ Some d)
  pub whole : (x d : ℕ) → x < k → IsMarked marked x → at table x ≡ Some d → Contains ends d
  pub few : length ends ≤ k

pub ends_none : (marked : List Bool) (table : List (Option ℕ)) (ends : List ℕ) → ends ≡ [] → EndsBelow marked table ends 0
ends_none marked table ends nil = record {
  only = λ d h. absurd (Contains-nil d (subst (λ xs. Contains xs d) nil h));
  whole = λ x d l _ _. absurd (omega arith);
  few = let e = ap length nil in omega arith;
}

if_some : (b : Bool) (o : Option ℕ) (d : ℕ) → (if b then o else None) ≡ Some d → (b ≡ true) × (o ≡ Some d)
if_some true o d h = (refl, h)
if_some false o d h = cc

length_option : (o : Option ℕ) → length (option_to_list o) ≤ 1
length_option None = omega arith
length_option (Some x) = omega arith

pub ends_more : (marked : List Bool) (table : List (Option ℕ)) (ends : List ℕ) (k : ℕ) (more : Option ℕ) → EndsBelow marked table ends k →
    more ≡ (if get_or marked k false then at table k else None) → EndsBelow marked table (ends ++ option_to_list more) (k + 1)
ends_more marked table ends k more is here = record {
  only = λ d h. elim (Contains-append_cases ends (option_to_list more) d h) as (λ _. (x : ℕ) × IsMarked marked x × (at table x ≡ Some d)) [
    | inl old ↦ is.only d old
    | inr new ↦ let both = if_some (get_or marked k false) (at table k) d (sym here ∙ option_list_only more d new) in (k, both.0, both.1)
  ];
  whole = λ x d l m t. elim (below_or_at x k l) as (λ _. Contains (ends ++ option_to_list more) d) [
    | inl less ↦ Contains-append_left ends (option_to_list more) d (is.whole x d less m t)
    | inr same ↦
        let marked_here : get_or marked k false ≡ true = subst (λ i. IsMarked marked i) same m in
        let leads : at table k ≡ Some d = subst (λ i. at table i ≡ Some d) same t in
        Contains-append_right ends (option_to_list more) d (option_list_has more d (here ∙ ap (λ b. cond b (at table k) None) marked_here ∙ leads))
  ];
  few = let n = length-append ends (option_to_list more) in let one = length_option more in let f = is.few in omega arith;
}

pub ends_whole : (marked : List Bool) (table : List (Option ℕ)) (ends : List ℕ) (k : ℕ) → length table ≤ k → EndsBelow marked table ends k → AreEnds marked table ends
ends_whole marked table ends k all is = record {
  only = is.only;
  whole = λ x d m t. let l = in_table table x d t in is.whole x d (omega arith) m t;
}

-- What a walk has found and what is ahead of it: it found nothing but what is reached, and where the tables lead from what
-- it found is found or ahead.
pub record Walked (starts : List ℕ) (one other : List (Option ℕ)) (count : ℕ) (found : List Bool) (ahead : List ℕ) : Type 0 where
  pub one_each : length found ≡ count
  pub within : (d : ℕ) → Contains ahead d → d < count
  pub found_only : (d : ℕ) → IsMarked found d → Reaches starts one other d
  pub ahead_only : (d : ℕ) → Contains ahead d → Reaches starts one other d
  pub begun : (d : ℕ) → Contains starts d → IsMarked found d ⊎ Contains ahead d
  pub goes_on : (k d : ℕ) → IsMarked found k → at one k ≡ Some d → IsMarked found d ⊎ Contains ahead d
  pub goes_aside : (k d : ℕ) → IsMarked found k → at other k ≡ Some d → IsMarked found d ⊎ Contains ahead d

no_mark : (n y : ℕ) → IsMarked (replicate n false) y → ⊥
no_mark zero y h = cc
no_mark (suc n) zero h = cc
no_mark (suc n) (suc y) h = no_mark n y h

pub walk_begins : (starts : List ℕ) (one other : List (Option ℕ)) (count : ℕ) (found : List Bool) → found ≡ replicate count false → length found ≡ count → All (λ d. d < count) starts →
    Walked starts one other count found starts
walk_begins starts one other count found is each within = record {
  one_each = each;
  within = λ d h. All-contains (λ d. d < count) starts d within h;
  found_only = λ d h. absurd (none d h);
  ahead_only = λ d h. start h;
  begun = λ d h. inr h;
  goes_on = λ k d h _. absurd (none k h);
  goes_aside = λ k d h _. absurd (none k h);
}
  where
    none : (y : ℕ) → IsMarked found y → ⊥
    none y h = no_mark count y (subst (λ m. IsMarked m y) is h)

pub same_or_other : (a b : ℕ) → (a ≡ b) ⊎ (a ≢ b)
same_or_other a b = grind arith

-- What a visit of p puts ahead: nothing where p was marked before.
abbrev pub onward : List (Option ℕ) → List (Option ℕ) → List Bool → ℕ → List ℕ
onward one other found p = if get_or found p false then [] else (option_to_list (at one p) ++ option_to_list (at other p))

onward_only : (b : Bool) (o e : Option ℕ) (d : ℕ) → Contains (if b then [] else (option_to_list o ++ option_to_list e)) d → (o ≡ Some d) ⊎ (e ≡ Some d)
onward_only true o e d h = absurd (Contains-nil d h)
onward_only false o e d h = elim (Contains-append_cases (option_to_list o) (option_to_list e) d h) as (λ _. (o ≡ Some d) ⊎ (e ≡ Some d)) [
  | inl a ↦ inl (option_list_only o d a)
  | inr b ↦ inr (option_list_only e d b)
]

onward_one : (b : Bool) (o e : Option ℕ) (d : ℕ) → b ≡ false → o ≡ Some d → Contains (if b then [] else (option_to_list o ++ option_to_list e)) d
onward_one true o e d b h = cc
onward_one false o e d b h = Contains-append_left (option_to_list o) (option_to_list e) d (option_list_has o d h)

onward_other : (b : Bool) (o e : Option ℕ) (d : ℕ) → b ≡ false → e ≡ Some d → Contains (if b then [] else (option_to_list o ++ option_to_list e)) d
onward_other true o e d b h = cc
onward_other false o e d b h = Contains-append_right (option_to_list o) (option_to_list e) d (option_list_has e d h)

bool_cases : (b : Bool) → (b ≡ true) ⊎ (b ≡ false)
bool_cases true = inl refl
bool_cases false = inr refl

-- One visit of p, which was the last one ahead.
pub walk_visits : (starts : List ℕ) (one other : List (Option ℕ)) (count : ℕ) (found : List Bool) (ahead rest : List ℕ) (p : ℕ) →
    LeadsWithin one count → LeadsWithin other count → ahead ≡ rest ++ p ∷ [] → Walked starts one other count found ahead →
    Walked starts one other count (set found p true) (rest ++ onward one other found p)
walk_visits starts one other count found ahead rest p one_in other_in popped is = record {
  one_each = length-set found p true ∙ is.one_each;
  within = λ d h. elim (ahead_cases d h) as (λ _. d < count) [
    | inl old ↦ is.within d (was_ahead d old)
    | inr leads ↦ elim leads as (λ _. d < count) [ inl a ↦ one_in.within p d a | inr b ↦ other_in.within p d b ]
  ];
  found_only = λ d h. elim (found_cases d h) as (λ _. Reaches starts one other d) [
    | inl old ↦ is.found_only d old
    | inr same ↦ subst (λ i. Reaches starts one other i) same reached_p
  ];
  ahead_only = λ d h. elim (ahead_cases d h) as (λ _. Reaches starts one other d) [
    | inl old ↦ is.ahead_only d (was_ahead d old)
    | inr leads ↦ elim leads as (λ _. Reaches starts one other d) [ inl a ↦ along reached_p a | inr b ↦ aside reached_p b ]
  ];
  begun = λ d h. still d (is.begun d h);
  goes_on = λ k d h t. elim (found_cases k h) as (λ _. IsMarked (set found p true) d ⊎ Contains (rest ++ onward one other found p) d) [
    | inl old ↦ still d (is.goes_on k d old t)
    | inr same ↦ elim (bool_cases (get_or found p false)) as (λ _. IsMarked (set found p true) d ⊎ Contains (rest ++ onward one other found p) d) [
      | inl seen ↦ still d (is.goes_on p d seen (ap (λ i. at one i) same ∙ t))
      | inr fresh ↦ inr (Contains-append_right rest (onward one other found p) d (onward_one (get_or found p false) (at one p) (at other p) d fresh (ap (λ i. at one i) same ∙ t)))
    ]
  ];
  goes_aside = λ k d h t. elim (found_cases k h) as (λ _. IsMarked (set found p true) d ⊎ Contains (rest ++ onward one other found p) d) [
    | inl old ↦ still d (is.goes_aside k d old t)
    | inr same ↦ elim (bool_cases (get_or found p false)) as (λ _. IsMarked (set found p true) d ⊎ Contains (rest ++ onward one other found p) d) [
      | inl seen ↦ still d (is.goes_aside p d seen (ap (λ i. at other i) same ∙ t))
      | inr fresh ↦ inr (Contains-append_right rest (onward one other found p) d (onward_other (get_or found p false) (at one p) (at other p) d fresh (ap (λ i. at other i) same ∙ t)))
    ]
  ];
}
  where
    was_ahead : (d : ℕ) → Contains rest d → Contains ahead d
    was_ahead d h = subst (λ xs. Contains xs d) (sym popped) (Contains-append_left rest (p ∷ []) d h)

    p_ahead : Contains ahead p
    p_ahead = subst (λ xs. Contains xs p) (sym popped) (Contains-push rest p)

    p_in : p < length found
    p_in = let l = is.within p p_ahead in let e = is.one_each in omega arith

    reached_p : Reaches starts one other p
    reached_p = is.ahead_only p p_ahead

    found_cases : (d : ℕ) → IsMarked (set found p true) d → IsMarked found d ⊎ (p ≡ d)
    found_cases d h = elim (same_or_other d p) as (λ _. IsMarked found d ⊎ (p ≡ d)) [
      | inl same ↦ inr (sym same)
      | inr other ↦ inl (sym (get_or-set_other found p d true false other) ∙ h)
    ]

    keeps : (d : ℕ) → IsMarked found d → IsMarked (set found p true) d
    keeps d h = elim (same_or_other d p) as (λ _. IsMarked (set found p true) d) [
      | inl same ↦ ap (λ i. get_or (set found p true) i false) same ∙ get_or-set_same found p true false p_in
      | inr other ↦ get_or-set_other found p d true false other ∙ h
    ]

    ahead_cases : (d : ℕ) → Contains (rest ++ onward one other found p) d → Contains rest d ⊎ ((at one p ≡ Some d) ⊎ (at other p ≡ Some d))
    ahead_cases d h = elim (Contains-append_cases rest (onward one other found p) d h) as (λ _. Contains rest d ⊎ ((at one p ≡ Some d) ⊎ (at other p ≡ Some d))) [
      | inl old ↦ inl old
      | inr new ↦ inr (onward_only (get_or found p false) (at one p) (at other p) d new)
    ]

    still : (d : ℕ) → IsMarked found d ⊎ Contains ahead d → IsMarked (set found p true) d ⊎ Contains (rest ++ onward one other found p) d
    still d h = elim h as (λ _. IsMarked (set found p true) d ⊎ Contains (rest ++ onward one other found p) d) [
      | inl old ↦ inl (keeps d old)
      | inr waits ↦ elim (Contains-push_cases rest p d (subst (λ xs. Contains xs d) popped waits)) as (λ _. IsMarked (set found p true) d ⊎ Contains (rest ++ onward one other found p) d) [
        | inl old ↦ inr (Contains-append_left rest (onward one other found p) d old)
        | inr same ↦ inl (ap (λ i. get_or (set found p true) i false) (sym same) ∙ get_or-set_same found p true false p_in)
      ]
    ]

settled : (found : List Bool) (d : ℕ) → IsMarked found d ⊎ Contains [] d → IsMarked found d
settled found d h = elim h as (λ _. IsMarked found d) [ inl m ↦ m | inr c ↦ absurd (Contains-nil d c) ]

-- Once nothing is ahead all that is reached is found.
pub walk_ends : {starts : List ℕ} {one other : List (Option ℕ)} {d : ℕ} (count : ℕ) (found : List Bool) → Walked starts one other count found [] → Reaches starts one other d → IsMarked found d
walk_ends {d = d} count found is (start h) = settled found d (is.begun d h)
walk_ends {d = d} count found is (along {k = k} r t) = settled found d (is.goes_on k d (walk_ends count found is r) t)
walk_ends {d = d} count found is (aside {k = k} r t) = settled found d (is.goes_aside k d (walk_ends count found is r) t)

-- How much is left: two for each position that isn't marked, and one for each that is ahead.
abbrev pub unseen : Bool → ℕ
unseen true = 0
unseen false = 1

abbrev pub left : List Bool → List ℕ → ℕ
left found ahead = 2 * sum_by unseen found + length ahead

length_onward : (b : Bool) (o e : Option ℕ) → length (if b then [] else (option_to_list o ++ option_to_list e)) ≤ 2 * unseen b
length_onward true o e = omega arith
length_onward false o e = let n = length-append (option_to_list o) (option_to_list e) in let a = length_option o in let b = length_option e in omega arith

-- A visit leaves less.
pub visit_leaves : (one other : List (Option ℕ)) (found : List Bool) (ahead rest : List ℕ) (p : ℕ) → p < length found → ahead ≡ rest ++ p ∷ [] →
    left (set found p true) (rest ++ onward one other found p) + 1 ≤ left found ahead
visit_leaves one other found ahead rest p in_found popped =
    let sums = sum_by-set unseen found p true false in_found in
    let new = length-append rest (onward one other found p) in
    let few = length_onward (get_or found p false) (at one p) (at other p) in
    let old = ap length popped ∙ length_push rest p in
    omega arith

unseen-le : (b : Bool) → unseen b ≤ 1
unseen-le true = omega arith
unseen-le false = omega arith

pub left_at_first : (found : List Bool) (ahead : List ℕ) → left found ahead ≤ 2 * length found + length ahead
left_at_first found ahead = let h = sum_by-le unseen 1 found (λ k d l. unseen-le (get_or found k d)) in omega arith

-- So far the marks are those of the positions from which the table leads to marked ones.
pub led_more : (table : List (Option ℕ)) (marked found : List Bool) (k : ℕ) (mark : Bool) → length found ≡ k → ((y : ℕ) → y < k → get_or found y false ≡ mark_of marked (at table y)) →
    mark ≡ mark_of marked (at table k) → (y : ℕ) → y < k + 1 → get_or (found ++ mark ∷ []) y false ≡ mark_of marked (at table y)
led_more table marked found k mark each is here y l = elim (below_or_at y k l) as (λ _. get_or (found ++ mark ∷ []) y false ≡ mark_of marked (at table y)) [
  | inl less ↦ get_or_append_left found (mark ∷ []) false y (omega arith) ∙ is y less
  | inr same ↦ ap (λ i. get_or (found ++ mark ∷ []) i false) same ∙ get_or_push found mark false k each ∙ here ∙ ap (λ i. mark_of marked (at table i)) (sym same)
]

pub mark_somewhere : (marked : List Bool) (o : Option ℕ) → mark_of marked o ≡ true → (x : ℕ) × IsMarked marked x × (o ≡ Some x)
mark_somewhere marked None h = cc
mark_somewhere marked (Some x) h = (x, h, refl)

-- Both at once, where the new lists are given.
pub walk_step : (starts : List ℕ) (one other : List (Option ℕ)) (count : ℕ) (found : List Bool) (ahead rest : List ℕ) (p : ℕ) (found' : List Bool) (ahead' : List ℕ) →
    LeadsWithin one count → LeadsWithin other count → ahead ≡ rest ++ p ∷ [] → Walked starts one other count found ahead →
    found' ≡ set found p true → ahead' ≡ rest ++ onward one other found p →
    Walked starts one other count found' ahead' × (left found' ahead' + 1 ≤ left found ahead)
walk_step starts one other count found ahead rest p found' ahead' one_in other_in popped is found_is ahead_is =
    let walked = walk_visits starts one other count found ahead rest p one_in other_in popped is in
    let fewer = visit_leaves one other found ahead rest p (p_within popped is) popped in (
      subst (λ xs. Walked starts one other count xs ahead') (sym found_is) (subst (λ xs. Walked starts one other count (set found p true) xs) (sym ahead_is) walked),
      subst (λ xs. left xs ahead' + 1 ≤ left found ahead) (sym found_is) (subst (λ xs. left (set found p true) xs + 1 ≤ left found ahead) (sym ahead_is) fewer),
    )
  where
    p_within : ahead ≡ rest ++ p ∷ [] → Walked starts one other count found ahead → p < length found
    p_within popped is = let l = is.within p (subst (λ xs. Contains xs p) (sym popped) (Contains-push rest p)) in let e = is.one_each in omega arith

-- So far the table has the entries of marked positions.
pub kept_more : (table kept : List (Option ℕ)) (marked : List Bool) (k : ℕ) (entry : Option ℕ) → length kept ≡ k → ((y : ℕ) → y < k → at kept y ≡ (if get_or marked y false then at table y else None)) →
    entry ≡ (if get_or marked k false then at table k else None) → (y : ℕ) → y < k + 1 → at (kept ++ entry ∷ []) y ≡ (if get_or marked y false then at table y else None)
kept_more table kept marked k entry each is here y l = elim (below_or_at y k l) as (λ _. at (kept ++ entry ∷ []) y ≡ (if get_or marked y false then at table y else None)) [
  | inl less ↦ get_or_append_left kept (entry ∷ []) None y (omega arith) ∙ is y less
  | inr same ↦ ap (λ i. at (kept ++ entry ∷ []) i) same ∙ get_or_push kept entry None k each ∙ here ∙ ap (λ i. if get_or marked i false then at table i else None) (sym same)
]

-- The entry of a marked position is the table's.
pub kept_only : (b : Bool) (o : Option ℕ) (d : ℕ) → (if b then o else None) ≡ Some d → (b ≡ true) × (o ≡ Some d)
kept_only b o d h = if_some b o d h

pub kept_marked : (b : Bool) (o : Option ℕ) → b ≡ true → (if b then o else None) ≡ o
kept_marked true o h = refl
kept_marked false o h = cc
