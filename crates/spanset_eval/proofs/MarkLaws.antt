-- Marks, and the sets for which they stand.
use Rattle.std.proofs.Common.{◌≡◌, ℕ, ◌<◌, ◌≤◌, List, [], length, Bool, true, false, not, ◌&&◌, ◌||◌, refl, sym, ◌∙◌, subst, ◌⊎◌, inl, inr, arith}
use Rattle.std.proofs.lemmas.Bool.{and_parts, and_from, or_cases, or_left, or_right, not-true, not_from_false, false_from_ne_true}
use Rattle.std.proofs.lemmas.List.{get_or_past}
use Rattle.span_tree.specs.declared.node.Node.{Node}
use Rattle.span_tree.specs.Marking.{IsMarked, MarksExactly}
use Rattle.span_tree.specs.Relations.{IsSibling}
use Rattle.traceql_syntax.specs.declared.query.Relation.{Relation}
use Rattle.traceql_syntax.specs.declared.query.Relation.TheVariants as relation
use Rattle.traceql_syntax.specs.declared.query.Side.{Side}
use Rattle.traceql_syntax.specs.declared.query.Side.TheVariants as side
use Rattle.traceql_syntax.specs.declared.query.SpansetOp.{SpansetOp}
use Rattle.traceql_syntax.specs.declared.query.SpansetOp.TheVariants as set
use Rattle.spanset_eval.specs.Marked.{mark_at, MarksBy, MarksSet}
use Rattle.spanset_eval.specs.Relating.{opposite_of}
use Rattle.spanset_eval.specs.Sets.{Relates, IsReached, Structural, Joined, IsSome}

-- A mark stands at a position of the list.
pub in_marks : (marks : List Bool) (y : ℕ) → IsMarked marks y → y < length marks
in_marks marks y h = elim (below_or_past y (length marks)) as (λ _. y < length marks) [
  | inl l ↦ l
  | inr past ↦ let clash : false ≡ true = sym (get_or_past marks y false past) ∙ h in cc
]
  where
    below_or_past : (a b : ℕ) → (a < b) ⊎ (b ≤ a)
    below_or_past a b = grind arith

-- Marks by a test stand for a set where the test says what is in it.
pub set_by : (count : ℕ) (test : ℕ → Bool) (A : ℕ → Type 0) (marks : List Bool) → MarksBy count test marks →
    ((y : ℕ) → test y ≡ true → A y) → ((y : ℕ) → A y → test y ≡ true) → ((y : ℕ) → A y → y < count) → MarksSet count A marks
set_by count test A marks by only whole within = record {
  one_each = by.one_each;
  only = λ y h. only y (sym (by.each y (subst (λ n. y < n) by.one_each (in_marks marks y h))) ∙ h);
  whole = λ y a. by.each y (within y a) ∙ whole y a;
}

pub both_set : (count : ℕ) (left right : List Bool) (A B : ℕ → Type 0) (marks : List Bool) →
    MarksSet count A left → MarksSet count B right → MarksBy count (λ y. mark_at left y && mark_at right y) marks → MarksSet count (λ y. A y × B y) marks
both_set count left right A B marks a b by = set_by count (λ y. mark_at left y && mark_at right y) (λ y. A y × B y) marks by
    (λ y h. let p = and_parts (mark_at left y) (mark_at right y) h in (a.only y p.0, b.only y p.1))
    (λ y h. and_from (mark_at left y) (mark_at right y) (a.whole y h.0) (b.whole y h.1))
    (λ y h. subst (λ n. y < n) a.one_each (in_marks left y (a.whole y h.0)))

pub without_set : (count : ℕ) (left right : List Bool) (A B : ℕ → Type 0) (marks : List Bool) →
    MarksSet count A left → MarksSet count B right → MarksBy count (λ y. mark_at left y && not (mark_at right y)) marks → MarksSet count (λ y. A y × (B y → ⊥)) marks
without_set count left right A B marks a b by = set_by count (λ y. mark_at left y && not (mark_at right y)) (λ y. A y × (B y → ⊥)) marks by
    (λ y h. let p = and_parts (mark_at left y) (not (mark_at right y)) h in
    (a.only y p.0, λ is. let clash : false ≡ true = sym (not-true (mark_at right y) p.1) ∙ b.whole y is in cc))
    (λ y h. and_from (mark_at left y) (not (mark_at right y)) (a.whole y h.0)
    (not_from_false (mark_at right y) (false_from_ne_true (mark_at right y) (λ m. h.1 (b.only y m)))))
    (λ y h. subst (λ n. y < n) a.one_each (in_marks left y (a.whole y h.0)))

pub either_set : (count : ℕ) (left right : List Bool) (A B : ℕ → Type 0) (marks : List Bool) →
    MarksSet count A left → MarksSet count B right → MarksBy count (λ y. mark_at left y || mark_at right y) marks → MarksSet count (λ y. A y ⊎ B y) marks
either_set count left right A B marks a b by = set_by count (λ y. mark_at left y || mark_at right y) (λ y. A y ⊎ B y) marks by
    (λ y h. elim (or_cases (mark_at left y) (mark_at right y) h) as (λ _. A y ⊎ B y) [ inl l ↦ inl (a.only y l) | inr r ↦ inr (b.only y r) ])
    (λ y h. elim h as (λ _. (mark_at left y || mark_at right y) ≡ true) [
      | inl l ↦ or_left (mark_at left y) (mark_at right y) (a.whole y l)
      | inr r ↦ or_right (mark_at left y) (mark_at right y) (b.whole y r)
    ])
    (λ y h. elim h as (λ _. y < count) [
      | inl l ↦ subst (λ n. y < n) a.one_each (in_marks left y (a.whole y l))
      | inr r ↦ subst (λ n. y < n) b.one_each (in_marks right y (b.whole y r))
    ])

-- What is marked is a set of its own.
pub marked_set : (count : ℕ) (marks : List Bool) → length marks ≡ count → MarksSet count (IsMarked marks) marks
marked_set count marks each = record { one_each = each; only = λ y h. h; whole = λ y h. h }

-- What is related to marked spans is a set.
pub reached_set : (R : ℕ → ℕ → Type 0) (count : ℕ) (marked found : List Bool) → MarksExactly R count marked found →
    MarksSet count (IsReached (IsMarked marked) R) found
reached_set R count marked found is = record { one_each = is.one_each; only = is.only; whole = λ y h. is.whole h.0 y h.1 h.2 }

-- The same set in other words.
pub set_as : (count : ℕ) (A B : ℕ → Type 0) (marks : List Bool) → MarksSet count A marks →
    ((y : ℕ) → A y → B y) → ((y : ℕ) → B y → A y) → MarksSet count B marks
set_as count A B marks is there back = record { one_each = is.one_each; only = λ y h. there y (is.only y h); whole = λ y b. is.whole y (back y b) }

-- ---- structural operators

sibling_back : (nodes : List Node) (x y : ℕ) → IsSibling nodes x y → IsSibling nodes y x
sibling_back nodes x y h = record { parent = h.parent; former = h.latter; latter = h.former; different = λ e. h.different (sym e) }

-- The opposite relation holds the other way round.
pub opposite_is : (r : Relation) (nodes : List Node) (x y : ℕ) → Relates (opposite_of r) nodes x y → Relates r nodes y x
opposite_is relation.Child nodes x y h = h
opposite_is relation.Descendant nodes x y h = h
opposite_is relation.Parent nodes x y h = h
opposite_is relation.Ancestor nodes x y h = h
opposite_is relation.Sibling nodes x y h = sibling_back nodes x y h

pub opposite_back : (r : Relation) (nodes : List Node) (x y : ℕ) → Relates r nodes y x → Relates (opposite_of r) nodes x y
opposite_back relation.Child nodes x y h = h
opposite_back relation.Descendant nodes x y h = h
opposite_back relation.Parent nodes x y h = h
opposite_back relation.Ancestor nodes x y h = h
opposite_back relation.Sibling nodes x y h = sibling_back nodes y x h

pub reached_back : (r : Relation) (nodes : List Node) (count : ℕ) (marked found : List Bool) → MarksExactly (Relates (opposite_of r) nodes) count marked found →
    MarksSet count (IsReached (IsMarked marked) (λ z x. Relates r nodes x z)) found
reached_back r nodes count marked found is = record {
  one_each = is.one_each;
  only = λ y h. let w = is.only y h in (w.0, w.1, opposite_is r nodes w.0 y w.2);
  whole = λ y h. is.whole h.0 y h.1 (opposite_back r nodes h.0 y h.2);
}

-- ---- sets of sets

pub reached_as : (A B : ℕ → Type 0) (R : ℕ → ℕ → Type 0) → ((y : ℕ) → A y → B y) → (y : ℕ) → IsReached A R y → IsReached B R y
reached_as A B R there y h = (h.0, there h.0 h.1, h.2)

structural_as : (s : Side) (R : ℕ → ℕ → Type 0) (A B C D : ℕ → Type 0) → ((y : ℕ) → A y → C y) → ((y : ℕ) → C y → A y) → ((y : ℕ) → B y → D y) →
    (y : ℕ) → Structural s R A B y → Structural s R C D y
structural_as side.Right R A B C D ac ca bd y h = (bd y h.0, reached_as A C R ac y h.1)
structural_as side.Unrelated R A B C D ac ca bd y h = (bd y h.0, λ is. h.1 (reached_as C A R ca y is))
structural_as side.Both R A B C D ac ca bd y h = elim h as (λ _. Structural side.Both R C D y) [
  | inl p ↦ inl (bd y p.0, reached_as A C R ac y p.1)
  | inr p ↦ inr (ac y p.0, reached_as B D (λ z x. R x z) bd y p.1)
]

joined_as : (op : SpansetOp) (nodes : List Node) (A B C D : ℕ → Type 0) → ((y : ℕ) → A y → C y) → ((y : ℕ) → C y → A y) → ((y : ℕ) → B y → D y) →
    (y : ℕ) → Joined op nodes A B y → Joined op nodes C D y
joined_as set.And nodes A B C D ac ca bd y h =
    ((h.0.0, ac h.0.0 h.0.1), (h.1.0, bd h.1.0 h.1.1), elim h.2 as (λ _. C y ⊎ D y) [ inl a ↦ inl (ac y a) | inr b ↦ inr (bd y b) ])
joined_as set.Or nodes A B C D ac ca bd y h = elim h as (λ _. C y ⊎ D y) [ inl a ↦ inl (ac y a) | inr b ↦ inr (bd y b) ]
joined_as (set.Related r s) nodes A B C D ac ca bd y h = structural_as s (Relates r nodes) A B C D ac ca bd y h

-- What an operator makes of marks, it makes of the sets for which they stand.
pub joined_sets : (op : SpansetOp) (nodes : List Node) (count : ℕ) (A B : ℕ → Type 0) (left right marks : List Bool) → MarksSet count A left → MarksSet count B right →
    MarksSet count (Joined op nodes (IsMarked left) (IsMarked right)) marks → MarksSet count (Joined op nodes A B) marks
joined_sets op nodes count A B left right marks a b is = set_as count (Joined op nodes (IsMarked left) (IsMarked right)) (Joined op nodes A B) marks is
    (λ y h. joined_as op nodes (IsMarked left) (IsMarked right) A B a.only a.whole b.only y h)
    (λ y h. joined_as op nodes A B (IsMarked left) (IsMarked right) a.whole a.only b.whole y h)

-- ---- what the marks of the operators are

by_count : (count n : ℕ) (test : ℕ → Bool) (marks : List Bool) → n ≡ count → MarksBy n test marks → MarksBy count test marks
by_count count n test marks e by = subst (λ k. MarksBy k test marks) e by

pub right_marks : (count : ℕ) (R : ℕ → ℕ → Type 0) (left right reached marks : List Bool) → length right ≡ count → MarksExactly R count left reached →
    MarksBy (length right) (λ y. mark_at right y && mark_at reached y) marks → MarksSet count (Structural side.Right R (IsMarked left) (IsMarked right)) marks
right_marks count R left right reached marks each is by =
    both_set count right reached (IsMarked right) (IsReached (IsMarked left) R) marks (marked_set count right each) (reached_set R count left reached is)
    (by_count count (length right) (λ y. mark_at right y && mark_at reached y) marks each by)

pub unrelated_marks : (count : ℕ) (R : ℕ → ℕ → Type 0) (left right reached marks : List Bool) → length right ≡ count → MarksExactly R count left reached →
    MarksBy (length right) (λ y. mark_at right y && not (mark_at reached y)) marks → MarksSet count (Structural side.Unrelated R (IsMarked left) (IsMarked right)) marks
unrelated_marks count R left right reached marks each is by =
    without_set count right reached (IsMarked right) (IsReached (IsMarked left) R) marks (marked_set count right each) (reached_set R count left reached is)
    (by_count count (length right) (λ y. mark_at right y && not (mark_at reached y)) marks each by)

pub both_marks : (r : Relation) (nodes : List Node) (count : ℕ) (left right reached reaching on_right on_left marks : List Bool) → length left ≡ count → length right ≡ count →
    MarksExactly (Relates r nodes) count left reached → MarksExactly (Relates (opposite_of r) nodes) count right reaching →
    MarksBy (length right) (λ y. mark_at right y && mark_at reached y) on_right → MarksBy (length left) (λ y. mark_at left y && mark_at reaching y) on_left →
    MarksBy (length on_right) (λ y. mark_at on_right y || mark_at on_left y) marks → MarksSet count (Structural side.Both (Relates r nodes) (IsMarked left) (IsMarked right)) marks
both_marks r nodes count left right reached reaching on_right on_left marks le re is back by_right by_left by =
    let a = right_marks count (Relates r nodes) left right reached on_right re is by_right in
    let b : MarksSet count (λ y. IsMarked left y × IsReached (IsMarked right) (λ z x. Relates r nodes x z) y) on_left =
    both_set count left reaching (IsMarked left) (IsReached (IsMarked right) (λ z x. Relates r nodes x z)) on_left (marked_set count left le)
    (reached_back r nodes count right reaching back) (by_count count (length left) (λ y. mark_at left y && mark_at reaching y) on_left le by_left) in
    either_set count on_right on_left (λ y. IsMarked right y × IsReached (IsMarked left) (Relates r nodes) y)
    (λ y. IsMarked left y × IsReached (IsMarked right) (λ z x. Relates r nodes x z) y) marks a b
    (by_count count (length on_right) (λ y. mark_at on_right y || mark_at on_left y) marks (a.one_each) by)

pub either_marks : (nodes : List Node) (left right marks : List Bool) → length left ≡ length right →
    MarksBy (length left) (λ y. mark_at left y || mark_at right y) marks → MarksSet (length left) (Joined set.Or nodes (IsMarked left) (IsMarked right)) marks
either_marks nodes left right marks e by =
    either_set (length left) left right (IsMarked left) (IsMarked right) marks (marked_set (length left) left refl) (marked_set (length left) right (sym e)) by

pub and_marks : (left right marks : List Bool) → length left ≡ length right → IsSome (IsMarked left) → IsSome (IsMarked right) →
    MarksBy (length left) (λ y. mark_at left y || mark_at right y) marks → MarksSet (length left) (Joined set.And [] (IsMarked left) (IsMarked right)) marks
and_marks left right marks e a b by =
    set_as (length left) (λ y. IsMarked left y ⊎ IsMarked right y) (Joined set.And [] (IsMarked left) (IsMarked right)) marks (either_marks [] left right marks e by)
    (λ y h. (a, b, h)) (λ y h. h.2)

pub no_marks : (left right marks : List Bool) → (IsSome (IsMarked left) → IsSome (IsMarked right) → ⊥) →
    MarksBy (length left) (λ y. false) marks → MarksSet (length left) (Joined set.And [] (IsMarked left) (IsMarked right)) marks
no_marks left right marks none by = record {
  one_each = by.one_each;
  only = λ y h. let clash : true ≡ false = sym h ∙ by.each y (subst (λ n. y < n) by.one_each (in_marks marks y h)) in cc;
  whole = λ y h. absurd (none h.0 h.1);
}

-- `&&` doesn't look at the relations.
pub and_nodes : (nodes : List Node) (count : ℕ) (A B : ℕ → Type 0) (marks : List Bool) → MarksSet count (Joined set.And [] A B) marks → MarksSet count (Joined set.And nodes A B) marks
and_nodes nodes count A B marks is = record { one_each = is.one_each; only = is.only; whole = is.whole }

-- ---- where a side has no marks

-- No marks stand for a set of nothing.
nothing_marked : (count : ℕ) (A : ℕ → Type 0) (marks : List Bool) → ((y : ℕ) → A y → ⊥) → MarksBy count (λ y. false) marks → MarksSet count A marks
nothing_marked count A marks none by =
    set_by count (λ y. false) A marks by (λ y h. let clash : false ≡ true = h in cc) (λ y a. absurd (none y a)) (λ y a. absurd (none y a))

pub right_empty : (left right marks : List Bool) → (IsSome (IsMarked left) → IsSome (IsMarked right) → ⊥) → MarksBy (length right) (λ y. false) marks →
    (R : ℕ → ℕ → Type 0) → MarksSet (length right) (Structural side.Right R (IsMarked left) (IsMarked right)) marks
right_empty left right marks none by R =
    nothing_marked (length right) (Structural side.Right R (IsMarked left) (IsMarked right)) marks (λ y h. none (h.1.0, h.1.1) (y, h.0)) by

pub both_empty : (left right marks : List Bool) → (IsSome (IsMarked left) → IsSome (IsMarked right) → ⊥) → MarksBy (length right) (λ y. false) marks →
    (R : ℕ → ℕ → Type 0) → MarksSet (length right) (Structural side.Both R (IsMarked left) (IsMarked right)) marks
both_empty left right marks none by R =
    nothing_marked (length right) (Structural side.Both R (IsMarked left) (IsMarked right)) marks
    (λ y h. elim h as (λ _. ⊥) [ inl p ↦ none (p.1.0, p.1.1) (y, p.0) | inr p ↦ none (y, p.0) (p.1.0, p.1.1) ]) by

pub unrelated_empty : (left right : List Bool) → (IsSome (IsMarked left) → IsSome (IsMarked right) → ⊥) →
    (R : ℕ → ℕ → Type 0) → MarksSet (length right) (Structural side.Unrelated R (IsMarked left) (IsMarked right)) right
unrelated_empty left right none R =
    set_as (length right) (IsMarked right) (Structural side.Unrelated R (IsMarked left) (IsMarked right)) right (marked_set (length right) right refl)
    (λ y h. (h, λ is. none (is.0, is.1) (y, h))) (λ y h. h.0)

-- None is marked, and so not some one.
pub none_some : (marks : List Bool) → ((y : ℕ) → mark_at marks y ≡ false) → IsSome (IsMarked marks) → ⊥
none_some marks none h = let clash : true ≡ false = sym h.1 ∙ none h.0 in cc
