-- How the tables of members grow, and what they tell.
use Rattle.std.proofs.Common.{◌≡◌, ◌≢◌, ℕ, zero, suc, ◌+◌, ◌<◌, ◌≤◌, List, [], ◌∷◌, ◌++◌, length, set, replicate, Option, None, Some, Bool, true, false, refl, sym, ap, nat_eq, is_some, if◌then◌else◌, ◌∙◌, subst, ◌⊎◌, inl, inr, arith, length-set, get_or-set_same, get_or-set_other}
use Rattle.std.specs.Option.{option_and_then, option_map_or}
use Rattle.std.proofs.lemmas.List.{get_or_push, get_or_append_left}
use Rattle.std.proofs.lemmas.Option.{same_Some, none-some}
use Rattle.span_tree.specs.Tables.{at}
use Rattle.std.proofs.lemmas.Bool.Decides.{nat_tests}
use Rattle.span_tree.specs.Members.{IsLastMember, HasMembers, shows_other, shows_than}
use Rattle.span_tree.proofs.ReachLaws.{below_or_at, same_or_other, in_table}

at_nowhere : (n y : ℕ) → at (replicate n None) y ≡ None
at_nowhere zero y = refl
at_nowhere (suc n) zero = refl
at_nowhere (suc n) (suc y) = at_nowhere n y

-- No group has a member before the first position.
pub members_none : (groups last before : List (Option ℕ)) (n : ℕ) → last ≡ replicate n None → HasMembers groups 0 last before
members_none groups last before n is = record {
  last_one = λ group. record {
    belongs = λ c h. absurd (none-some c (sym (ap (λ t. at t group) is ∙ at_nowhere n group) ∙ h));
    last = λ y l _. absurd (omega arith);
  };
  one_before = λ c group l _. absurd (omega arith);
  none_before = λ c l _. absurd (omega arith);
}

-- A group that a position doesn't join has the same last member after it.
not_joined : (groups : List (Option ℕ)) (group k : ℕ) (o : Option ℕ) → IsLastMember groups group k o → (at groups k ≡ Some group → ⊥) → IsLastMember groups group (k + 1) o
not_joined groups group k o is apart = record {
  belongs = λ c h. let was = is.belongs c h in (omega (arith, was.0), was.1);
  last = λ y l h. elim (below_or_at y k l) as (λ _. (c : ℕ) × (o ≡ Some c) × (y ≤ c)) [
    | inl less ↦ is.last y less h
    | inr same ↦ absurd (apart (ap (λ i. at groups i) (sym same) ∙ h))
  ];
}

-- One that it joins has it.
joined : (groups : List (Option ℕ)) (group k : ℕ) → at groups k ≡ Some group → IsLastMember groups group (k + 1) (Some k)
joined groups group k here = record {
  belongs = λ c h. let same = same_Some k c h in (omega arith, ap (λ i. at groups i) (sym same) ∙ here);
  last = λ y l h. (k, refl, omega arith);
}

pub members_more : (groups last last' before : List (Option ℕ)) (k : ℕ) (group earlier : Option ℕ) → HasMembers groups k last before → length before ≡ k →
    at groups k ≡ group → ((g : ℕ) → group ≡ Some g → g < length last) →
    earlier ≡ option_and_then (λ g. at last g) group → last' ≡ option_map_or (λ g. set last g (Some k)) group last →
    HasMembers groups (k + 1) last' (before ++ earlier ∷ [])
members_more groups last last' before k group earlier is each here within earlier_is last_is = record {
  last_one = λ g. new_last group g here within last_is;
  one_before = λ c g l h. elim (below_or_at c k l) as (λ _. IsLastMember groups g c (at (before ++ earlier ∷ []) c)) [
    | inl less ↦ subst (IsLastMember groups g c) (sym (get_or_append_left before (earlier ∷ []) None c (omega arith))) (is.one_before c g less h)
    | inr same ↦
        let named : group ≡ Some g = sym here ∙ ap (λ i. at groups i) (sym same) ∙ h in
        let value : at (before ++ earlier ∷ []) c ≡ at last g = ap (λ i. at (before ++ earlier ∷ []) i) same ∙ get_or_push before earlier None k each ∙ earlier_is ∙ ap (λ o. option_and_then (λ g. at last g) o) named in
        subst (λ i. IsLastMember groups g i (at (before ++ earlier ∷ []) c)) (sym same) (subst (IsLastMember groups g k) (sym value) (is.last_one g))
  ];
  none_before = λ c l h. elim (below_or_at c k l) as (λ _. at (before ++ earlier ∷ []) c ≡ None) [
    | inl less ↦ get_or_append_left before (earlier ∷ []) None c (omega arith) ∙ is.none_before c less h
    | inr same ↦
        let unnamed : group ≡ None = sym here ∙ ap (λ i. at groups i) (sym same) ∙ h in
        ap (λ i. at (before ++ earlier ∷ []) i) same ∙ get_or_push before earlier None k each ∙ earlier_is ∙ ap (λ o. option_and_then (λ g. at last g) o) unnamed
  ];
}
  where
    new_last : (group : Option ℕ) (g : ℕ) → at groups k ≡ group → ((q : ℕ) → group ≡ Some q → q < length last) → last' ≡ option_map_or (λ q. set last q (Some k)) group last → IsLastMember groups g (k + 1) (at last' g)
    new_last None g here within last_is =
        subst (λ t. IsLastMember groups g (k + 1) (at t g)) (sym last_is)
        (not_joined groups g k (at last g) (is.last_one g) (λ h. none-some g (sym here ∙ h)))
    new_last (Some q) g here within last_is =
        subst (λ t. IsLastMember groups g (k + 1) (at t g)) (sym last_is)
        (elim (same_or_other g q) as (λ _. IsLastMember groups g (k + 1) (at (set last q (Some k)) g)) [
          | inl same ↦
              let value : at (set last q (Some k)) g ≡ Some k = ap (λ i. at (set last q (Some k)) i) same ∙ get_or-set_same last q (Some k) None (within q refl) in
              subst (IsLastMember groups g (k + 1)) (sym value) (joined groups g k (here ∙ ap Some (sym same)))
          | inr other ↦
              subst (IsLastMember groups g (k + 1)) (sym (get_or-set_other last q g (Some k) None other))
              (not_joined groups g k (at last g) (is.last_one g) (λ h. other (sym (same_Some q g (sym here ∙ h)))))
        ])

-- The group has a member that isn't at y.
pub record HasOther (groups : List (Option ℕ)) (group : Option ℕ) (y : ℕ) : Type 0 where
  pub of : ℕ
  pub is : group ≡ Some of
  pub member : ℕ
  pub belongs : at groups member ≡ Some of
  pub different : member ≢ y

shown_by : (b : Bool) (earlier : Bool) → (if b then earlier else true) ≡ true → (b ≡ false) ⊎ ((b ≡ true) × (earlier ≡ true))
shown_by true e h = inr (refl, h)
shown_by false e h = inl refl

not_same : (c y : ℕ) → nat_eq c y ≡ false → c ≢ y
not_same c y h = grind (arith, nat_tests)

is_same : (c y : ℕ) → nat_eq c y ≡ true → c ≡ y
is_same c y h = grind (arith, nat_tests)

is_there : (o : Option ℕ) → is_some o ≡ true → (d : ℕ) × (o ≡ Some d)
is_there None h = cc
is_there (Some d) h = (d, refl)

-- What the tables of members tell, of a position that is in the group or in none.
pub shows_member : (groups last before : List (Option ℕ)) (group : Option ℕ) (y : ℕ) → HasMembers groups (length groups) last before →
    shows_other last before group y ≡ true → HasOther groups group y
shows_member groups last before None y is h = cc
shows_member groups last before (Some f) y is h = by_last (at last f) refl h
  where
    by_last : (o : Option ℕ) → at last f ≡ o → shows_than o (at before y) y ≡ true → HasOther groups (Some f) y
    by_last None e h = cc
    by_last (Some c) e h =
        let member = (is.last_one f).belongs c e in
        elim (shown_by (nat_eq c y) (is_some (at before y)) h) as (λ _. HasOther groups (Some f) y) [
          | inl apart ↦ record { of = f; is = refl; member = c; belongs = member.1; different = not_same c y apart }
          | inr both ↦
              let same = is_same c y both.0 in
              let there = is_there (at before y) both.1 in
              let earlier = (is.one_before y f (omega (arith, member.0)) (ap (λ i. at groups i) (sym same) ∙ member.1)).belongs there.0 there.1 in
              record { of = f; is = refl; member = there.0; belongs = earlier.1; different = λ e. omega (arith, earlier.0) }
        ]

same_test : (c y : ℕ) → (nat_eq c y ≡ true) ⊎ (nat_eq c y ≡ false)
same_test c y = elim (nat_eq c y) as (λ t. (t ≡ true) ⊎ (t ≡ false)) [ true ↦ inl refl | false ↦ inr refl ]

than_other : (b e : Bool) → b ≡ false → (if b then e else true) ≡ true
than_other true e h = cc
than_other false e h = refl

than_earlier : (b e : Bool) → e ≡ true → (if b then e else true) ≡ true
than_earlier true e h = h
than_earlier false e h = refl

pub member_shows : (groups last before : List (Option ℕ)) (group : Option ℕ) (y : ℕ) → HasMembers groups (length groups) last before →
    HasOther groups group y → shows_other last before group y ≡ true
member_shows groups last before group y is other =
    let l = in_table groups other.member other.of other.belongs in
    let found = (is.last_one other.of).last other.member l other.belongs in
    let reads : shows_other last before group y ≡ shows_than (Some found.0) (at before y) y =
    ap (λ o. shows_other last before o y) other.is ∙ ap (λ o. shows_than o (at before y) y) found.1 in
    reads ∙ elim (same_test found.0 y) as (λ _. shows_than (Some found.0) (at before y) y ≡ true) [
      | inr apart ↦ than_other (nat_eq found.0 y) (is_some (at before y)) apart
      | inl same_as ↦
          let same = is_same found.0 y same_as in
          let belongs = (is.last_one other.of).belongs found.0 found.1 in
          let differs = other.different in
          let at_most = found.2 in
          let earlier = (is.one_before y other.of (omega (arith, belongs.0)) (ap (λ i. at groups i) (sym same) ∙ belongs.1)).last other.member (before_y other.member y differs (omega arith)) other.belongs in
          than_earlier (nat_eq found.0 y) (is_some (at before y)) (ap is_some earlier.1)
    ]
  where
    before_y : (m y : ℕ) → m ≢ y → m ≤ y → m < y
    before_y m y ne le = grind arith

pub length_joined : (last : List (Option ℕ)) (group : Option ℕ) (k : ℕ) → length (option_map_or (λ g. set last g (Some k)) group last) ≡ length last
length_joined last None k = refl
length_joined last (Some g) k = length-set last g (Some k)
