-- What the tables of a tree lead to is what the relations say.
use Rattle.std.proofs.Common.{◌≡◌, ◌≢◌, ℕ, zero, suc, ◌+◌, ◌<◌, ◌≤◌, List, [], length, get_or, All, Contains, Option, None, Some, Bool, false, if◌then◌else◌, refl, sym, ◌∙◌, subst, ◌⊎◌, inl, inr, arith}
use Rattle.std.proofs.lemmas.Option.{same_Some, none-some}
use Rattle.std.proofs.lemmas.List.Elements.{Contains-get_or}
use Rattle.span_tree.specs.declared.node.Node.{Node}
use Rattle.span_tree.specs.Relations.{IsParent, IsAncestor, IsSibling}
use Rattle.span_tree.specs.Relations.IsAncestor.{one, more}
use Rattle.span_tree.specs.Marking.{IsMarked, MarksExactly}
use Rattle.span_tree.specs.Tables.{at, HasParents, HasFamilies}
use Rattle.span_tree.specs.Reach.{LeadsWithin, AreEnds, Reaches}
use Rattle.span_tree.specs.Reach.Reaches.{start, along, aside}
use Rattle.span_tree.specs.Members.{HasMembers, shows_other}
use Rattle.span_tree.proofs.BuildLaws.{id_within}
use Rattle.span_tree.proofs.ReachLaws.{in_table, in_marks, same_or_other, kept_only, kept_marked}
use Rattle.span_tree.proofs.MemberLaws.{shows_member, member_shows}

-- The parents' positions are those of spans.
pub parents_within : (nodes : List Node) (parents : List (Option ℕ)) → HasParents nodes parents → LeadsWithin parents (length nodes)
parents_within nodes parents is = record { within = λ k d h. let p = is.sound d k h in id_within nodes d p.id p.is }

pub families_within : (nodes : List Node) (families : List (Option ℕ)) → HasFamilies nodes families → LeadsWithin families (length nodes)
families_within nodes families is = record { within = is.within }

-- A table without entries leads nowhere.
pub nowhere : (count : ℕ) → LeadsWithin [] count
nowhere count = record { within = λ k d h. absurd (none-some d h) }

-- Ends are positions that the table leads to.
pub ends_within : (marked : List Bool) (table : List (Option ℕ)) (ends : List ℕ) (count : ℕ) → AreEnds marked table ends → LeadsWithin table count → All (λ d. d < count) ends
ends_within marked table ends count is within = λ k d l.
    let found = is.only (get_or ends k d) (Contains-get_or ends k d l) in
    within.within found.0 (get_or ends k d) found.2

-- Children are led to by their parents.
pub children_marked : (nodes : List Node) (parents : List (Option ℕ)) (marked found : List Bool) → HasParents nodes parents → length found ≡ length parents →
    ((y : ℕ) → IsMarked found y → (x : ℕ) × IsMarked marked x × (at parents y ≡ Some x)) →
    ((x y : ℕ) → IsMarked marked x → at parents y ≡ Some x → IsMarked found y) →
    MarksExactly (λ x y. IsParent nodes x y) (length nodes) marked found
children_marked nodes parents marked found is each only whole = record {
  one_each = each ∙ is.one_each;
  only = λ y h. let by = only y h in (by.0, by.1, is.sound by.0 y by.2);
  whole = λ x y m p. whole x y m (is.whole x y p);
}

no_steps : {starts : List ℕ} {d : ℕ} → Reaches starts [] [] d → Contains starts d
no_steps (start h) = h
no_steps {d = d} (along r h) = absurd (none-some d h)
no_steps {d = d} (aside r h) = absurd (none-some d h)

pub parents_marked : (nodes : List Node) (parents : List (Option ℕ)) (marked found : List Bool) (ends : List ℕ) → HasParents nodes parents → AreEnds marked parents ends → length found ≡ length nodes →
    ((d : ℕ) → IsMarked found d → Reaches ends [] [] d) → ((d : ℕ) → Reaches ends [] [] d → IsMarked found d) →
    MarksExactly (λ x y. IsParent nodes y x) (length nodes) marked found
parents_marked nodes parents marked found ends is are each only whole = record {
  one_each = each;
  only = λ y h. let by = are.only y (no_steps (only y h)) in (by.0, by.1, is.sound y by.0 by.2);
  whole = λ x y m p. whole y (start (are.whole x y m (is.whole y x p)));
}

-- A parent of an ancestor is an ancestor.
above : {nodes : List Node} {w x y : ℕ} → IsParent nodes w x → IsAncestor nodes x y → IsAncestor nodes w y
above p (one q) = more (one p) q
above p (more a q) = more (above p a) q

module _ (nodes : List Node) (parents : List (Option ℕ)) (marked : List Bool) (ends : List ℕ) (is : HasParents nodes parents) (are : AreEnds marked parents ends) where
  reached_up : {d : ℕ} → Reaches ends parents [] d → (x : ℕ) × IsMarked marked x × IsAncestor nodes d x
  reached_up {d = d} (start h) = let by = are.only d h in (by.0, by.1, one (is.sound d by.0 by.2))
  reached_up {d = d} (along {k = k} r h) = let by = reached_up r in (by.0, by.1, above (is.sound d k h) by.2)
  reached_up {d = d} (aside r h) = absurd (none-some d h)

  climb : {x y : ℕ} → IsAncestor nodes x y → IsMarked marked y ⊎ Reaches ends parents [] y → Reaches ends parents [] x
  climb {x = x} {y = y} (one p) h = elim h as (λ _. Reaches ends parents [] x) [
    | inl m ↦ start (are.whole y x m (is.whole x y p))
    | inr r ↦ along r (is.whole x y p)
  ]
  climb {x = x} {y = z} (more {y = y} a p) h = climb a (inr (elim h as (λ _. Reaches ends parents [] y) [
    | inl m ↦ start (are.whole z y m (is.whole y z p))
    | inr r ↦ along r (is.whole y z p)
  ]))

pub ancestors_marked : (nodes : List Node) (parents : List (Option ℕ)) (marked found : List Bool) (ends : List ℕ) → HasParents nodes parents → AreEnds marked parents ends → length found ≡ length nodes →
    ((d : ℕ) → IsMarked found d → Reaches ends parents [] d) → ((d : ℕ) → Reaches ends parents [] d → IsMarked found d) →
    MarksExactly (λ x y. IsAncestor nodes y x) (length nodes) marked found
ancestors_marked nodes parents marked found ends is are each only whole = record {
  one_each = each;
  only = λ y h. reached_up nodes parents marked ends is are (only y h);
  whole = λ x y m a. whole y (climb nodes parents marked ends is are a (inl m));
}

-- The tables of children lead to spans.
pub last_within : (nodes : List Node) (parents last before : List (Option ℕ)) → HasParents nodes parents → HasMembers parents (length parents) last before → LeadsWithin last (length nodes)
last_within nodes parents last before is members = record {
  within = λ k d h. let l = (members.last_one k).belongs d h in let e = is.one_each in omega (arith, l.0);
}

named_or_not : (o : Option ℕ) → (o ≡ None) ⊎ ((p : ℕ) × (o ≡ Some p))
named_or_not None = inl refl
named_or_not (Some p) = inr (p, refl)

-- A position with one before it has a group, and the one before it is of that group.
pub one_before : (groups last before : List (Option ℕ)) (c d : ℕ) → length before ≡ length groups → HasMembers groups (length groups) last before → at before c ≡ Some d →
    (g : ℕ) × (at groups c ≡ Some g) × (at groups d ≡ Some g) × (d < c) × (c < length groups)
one_before groups last before c d each is h =
    let l : c < length groups = let w = in_table before c d h in omega arith in
    elim (named_or_not (at groups c)) as (λ _. (g : ℕ) × (at groups c ≡ Some g) × (at groups d ≡ Some g) × (d < c) × (c < length groups)) [
      | inl none ↦ absurd (none-some d (sym (is.none_before c l none) ∙ h))
      | inr some ↦ let by = (is.one_before c some.0 l some.1).belongs d h in (some.0, some.1, by.1, by.0, l)
    ]

pub before_within : (nodes : List Node) (parents last before : List (Option ℕ)) → HasParents nodes parents → length before ≡ length parents → HasMembers parents (length parents) last before → LeadsWithin before (length nodes)
before_within nodes parents last before is each members = record {
  within = λ k d h. let by = one_before parents last before k d each members h in let e = is.one_each in omega (arith, by.3, by.4);
}

module _ (nodes : List Node) (parents last before : List (Option ℕ)) (marked : List Bool) (ends : List ℕ) (is : HasParents nodes parents) (each : length before ≡ length parents)
    (members : HasMembers parents (length parents) last before) (are : AreEnds marked last ends) where
  same_parent : (p q c : ℕ) → at parents c ≡ Some p → IsParent nodes q c → p ≡ q
  same_parent p q c h parent = same_Some p q (sym h ∙ is.whole q c parent)

  -- A child of the same parent as a descendant is one.
  beside : {x c : ℕ} (p d : ℕ) → at parents c ≡ Some p → at parents d ≡ Some p → IsAncestor nodes x c → IsAncestor nodes x d
  beside {x = x} {c = c} p d hc hd (one q) = one (subst (λ i. IsParent nodes i d) (same_parent p x c hc q) (is.sound p d hd))
  beside {x = x} {c = c} p d hc hd (more {y = y} a q) = more a (subst (λ i. IsParent nodes i d) (same_parent p y c hc q) (is.sound p d hd))

  reached_down : {d : ℕ} → Reaches ends last before d → (x : ℕ) × IsMarked marked x × IsAncestor nodes x d
  reached_down {d = d} (start h) = let by = are.only d h in (by.0, by.1, one (is.sound by.0 d (((members.last_one by.0).belongs d by.2).1)))
  reached_down {d = d} (along {k = k} r h) = let by = reached_down r in (by.0, by.1, more by.2 (is.sound k d (((members.last_one k).belongs d h).1)))
  reached_down {d = d} (aside {k = k} r h) =
      let by = reached_down r in
      let group = one_before parents last before k d each members h in
      (by.0, by.1, beside group.0 d group.1 group.2 by.2)

  -- From a child that is reached the earlier children of its parent are.
  back : (fuel c y x : ℕ) → c ≤ y + fuel → y ≤ c → at parents c ≡ Some x → at parents y ≡ Some x → Reaches ends last before c → Reaches ends last before y
  back zero c y x enough le hc hy r = subst (λ i. Reaches ends last before i) (at_end c y enough le) r
    where
      at_end : (c y : ℕ) → c ≤ y + 0 → y ≤ c → c ≡ y
      at_end c y enough le = omega arith
  back (suc fuel) c y x enough le hc hy r = elim (same_or_other c y) as (λ _. Reaches ends last before y) [
    | inl same ↦ subst (λ i. Reaches ends last before i) same r
    | inr other ↦
        let l = in_table parents c x hc in
        let earlier = members.one_before c x l hc in
        let found = earlier.last y (below c y le other) hy in
        let by = earlier.belongs found.0 found.1 in
        back fuel found.0 y x (nearer c y found.0 fuel enough by.0) found.2 by.1 hy (aside r found.1)
  ]
    where
      below : (c y : ℕ) → y ≤ c → c ≢ y → y < c
      below c y le ne = grind arith

      nearer : (c y d fuel : ℕ) → c ≤ y + suc fuel → d < c → d ≤ y + fuel
      nearer c y d fuel enough less = omega arith

  child_reached : (x y : ℕ) → IsMarked marked x ⊎ Reaches ends last before x → IsParent nodes x y → Reaches ends last before y
  child_reached x y h p =
      let named = is.whole x y p in
      let found = (members.last_one x).last y (in_table parents y x named) named in
      let by = (members.last_one x).belongs found.0 found.1 in
      let begun : Reaches ends last before found.0 = elim h as (λ _. Reaches ends last before found.0) [
        | inl m ↦ start (are.whole x found.0 m found.1)
        | inr r ↦ along r found.1
      ] in
      back found.0 found.0 y x (omega arith) found.2 by.1 named begun

  descend : {x y : ℕ} → IsAncestor nodes x y → IsMarked marked x → Reaches ends last before y
  descend {x = x} {y = y} (one p) m = child_reached x y (inl m) p
  descend {x = x} {y = z} (more {y = y} a p) m = child_reached y z (inr (descend a m)) p

pub descendants_marked : (nodes : List Node) (parents last before : List (Option ℕ)) (marked found : List Bool) (ends : List ℕ) → HasParents nodes parents → length before ≡ length parents →
    HasMembers parents (length parents) last before → AreEnds marked last ends → length found ≡ length nodes →
    ((d : ℕ) → IsMarked found d → Reaches ends last before d) → ((d : ℕ) → Reaches ends last before d → IsMarked found d) →
    MarksExactly (λ x y. IsAncestor nodes x y) (length nodes) marked found
descendants_marked nodes parents last before marked found ends is each_before members are each only whole = record {
  one_each = each;
  only = λ y h. reached_down nodes parents last before marked ends is each_before members are (only y h);
  whole = λ x y m a. whole y (descend nodes parents last before marked ends is each_before members are a m);
}

-- The families of marked spans have another member than a span just where it has a marked sibling.
pub kin_within : (families kin : List (Option ℕ)) (marked : List Bool) (count : ℕ) → length kin ≡ length families →
    ((y : ℕ) → y < length families → at kin y ≡ (if get_or marked y false then at families y else None)) → LeadsWithin families count → LeadsWithin kin count
kin_within families kin marked count each kept within = record {
  within = λ k d h.
      let l : k < length families = let w = in_table kin k d h in omega arith in
      within.within k d (kept_only (get_or marked k false) (at families k) d (sym (kept k l) ∙ h)).1;
}

pub siblings_marked : (nodes : List Node) (families kin last before : List (Option ℕ)) (marked found : List Bool) → HasFamilies nodes families → length kin ≡ length families →
    ((y : ℕ) → y < length families → at kin y ≡ (if get_or marked y false then at families y else None)) →
    HasMembers kin (length kin) last before → length found ≡ length families →
    ((y : ℕ) → y < length families → get_or found y false ≡ shows_other last before (at families y) y) →
    MarksExactly (λ x y. IsSibling nodes x y) (length nodes) marked found
siblings_marked nodes families kin last before marked found is each kept members each_found marks = record {
  one_each = each_found ∙ is.one_each;
  only = λ y h.
      let l : y < length families = let w = in_marks found y h in omega arith in
      let other = shows_member kin last before (at families y) y members (sym (marks y l) ∙ h) in
      let lm : other.member < length families = let w = in_table kin other.member other.of other.belongs in omega arith in
      let both = kept_only (get_or marked other.member false) (at families other.member) other.of (sym (kept other.member lm) ∙ other.belongs) in
      let names = is.sound other.member y other.of both.1 other.is in
      (other.member, both.0, record { parent = names.0; former = names.1; latter = names.2; different = other.different });
  whole = λ x y m s.
      let names = is.whole x y s.parent s.former s.latter in
      let lx = in_table families x names.0 names.1 in
      let ly = in_table families y names.0 names.2 in
      let here : at kin x ≡ Some names.0 = kept x lx ∙ kept_marked (get_or marked x false) (at families x) m ∙ names.1 in
      marks y ly ∙ member_shows kin last before (at families y) y members (record { of = names.0; is = names.2; member = x; belongs = here; different = s.different });
}

-- The same of equal lists.
pub parents_at : (nodes nodes' : List Node) (parents parents' : List (Option ℕ)) → nodes ≡ nodes' → parents' ≡ parents → HasParents nodes parents → HasParents nodes' parents'
parents_at nodes nodes' parents parents' n p is = subst (λ ns. HasParents ns parents') n (subst (λ ps. HasParents nodes ps) (sym p) is)

pub families_at : (nodes nodes' : List Node) (families families' : List (Option ℕ)) → nodes ≡ nodes' → families' ≡ families → HasFamilies nodes families → HasFamilies nodes' families'
families_at nodes nodes' families families' n f is = subst (λ ns. HasFamilies ns families') n (subst (λ fs. HasFamilies nodes fs) (sym f) is)

pub marks_at : (Relates : ℕ → ℕ → Type 0) (count : ℕ) (marked marked' found found' : List Bool) → marked ≡ marked' → found' ≡ found → MarksExactly Relates count marked found → MarksExactly Relates count marked' found'
marks_at Relates count marked marked' found found' m f is = subst (λ ms. MarksExactly Relates count ms found') m (subst (λ fs. MarksExactly Relates count marked fs) (sym f) is)

pub within_at : (table : List (Option ℕ)) (count count' : ℕ) → count' ≡ count → LeadsWithin table count → LeadsWithin table count'
within_at table count count' same is = subst (LeadsWithin table) (sym same) is
