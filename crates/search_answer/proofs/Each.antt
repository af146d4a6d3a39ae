-- Of each trace a query answers something or nothing: which spans an expression selects is decided.
use Rattle.std.proofs.Common.{◌≡◌, ◌≢◌, ◌⊎◌, inl, inr, ℕ, zero, suc, ◌+◌, ◌<◌, ◌≤◌, List, [], ◌∷◌, ◌++◌, Bool, true, false, Option, Some, None, refl, sym, ◌∙◌, ap, subst, arith, Contains, length, map, set, replicate, slice_index_or}
use Rattle.std.specs.List.{AllByRecursion, range_with_len}
use Rattle.std.specs.Prelude.{slice_get}
use Rattle.std.specs.Option.{option_to_list}
use Rattle.std.proofs.lemmas.Bool.{cases_Bool, cases_eq, cases_lt, true≢false}
use Rattle.std.proofs.lemmas.List.{length-replicate}
use Rattle.std.proofs.lemmas.List.Elements.{Contains-get_or, Contains-push}
use Rattle.std.proofs.lemmas.List.FromFn.{get_or-map-range_with_len, length-map-range_with_len}
use Rattle.std.proofs.lemmas.Option.{none-some, same_Some, slice_get_within}
use Rattle.span_tree.specs.declared.node.Node.{Node}
use Rattle.span_tree.specs.Nodes.{IsOneTrace, id_at, nodes_of, parent_at}
use Rattle.span_tree.specs.Reach.{Reaches}
use Rattle.span_tree.specs.Reach.Reaches.{start, along, aside}
use Rattle.span_tree.specs.Relations.{IsAncestor, IsParent, IsSibling}
use Rattle.span_tree.specs.Relations.IsAncestor.{one, more}
use Rattle.span_tree.specs.Tables.{HasParents, IdsDiffer, at}
use Rattle.span_tree.proofs.BuildLaws.{id_within, ids_differ, parent_within}
use Rattle.span_tree.proofs.Ids.{same_or_not}
use Rattle.span_tree.proofs.ReachLaws.{Walked, in_table, left, onward, option_list_has, option_list_only, visit_leaves, walk_begins, walk_ends, walk_visits}
use Rattle.span_tree.proofs.RelationLaws.{nowhere, parents_within}
use Rattle.span_types.specs.declared.ids.SpanId.{SpanId}
use Rattle.span_types.specs.declared.spans.Row.{Row}
use Rattle.spanset_eval.specs.declared.results.TraceResult.{TraceResult}
use Rattle.spanset_eval.specs.Outcomes.{IsListOf, shown}
use Rattle.spanset_eval.specs.Sets.{IsReached, IsSome, Joined, PassesFilter, Relates, Selects, Structural, filter_span}
use Rattle.spanset_eval.specs.Stages.{remaining, selected_fields}
use Rattle.traceql_syntax.specs.declared.query.Relation.{Relation}
use Rattle.traceql_syntax.specs.declared.query.Relation.TheVariants as relation
use Rattle.traceql_syntax.specs.declared.query.Side.{Side}
use Rattle.traceql_syntax.specs.declared.query.Side.TheVariants as side
use Rattle.traceql_syntax.specs.declared.query.SpansetOp.{SpansetOp}
use Rattle.traceql_syntax.specs.declared.query.SpansetOp.TheVariants as operator
use Rattle.traceql_syntax.specs.Trees.{Filter, Join, Placed, QueryTree, SetTree}
use Rattle.traceql_types.specs.declared.pattern.Pattern.{Pattern}
use Rattle.search_answer.specs.Parts.{Answers, EachIsAnswered}
use Rattle.search_answer.proofs.Sorting.{Pairs, pairs_at}

-- It is so, or it isn't.
abbrev Decided : Type 0 → Type 0
Decided P = P ⊎ (P → ⊥)

both : {P Q : Type 0} → Decided P → Decided Q → Decided (P × Q)
both (inr never) q = inr (λ h. never h.0)
both (inl p) (inr never) = inr (λ h. never h.1)
both (inl p) (inl q) = inl (p, q)

-- of three
each_of : {P Q R : Type 0} → Decided P → Decided Q → Decided R → Decided (P × Q × R)
each_of (inr never) q r = inr (λ h. never h.0)
each_of (inl p) (inr never) r = inr (λ h. never h.1)
each_of (inl p) (inl q) (inr never) = inr (λ h. never h.2)
each_of (inl p) (inl q) (inl r) = inl (p, q, r)

either : {P Q : Type 0} → Decided P → Decided Q → Decided (P ⊎ Q)
either (inl p) q = inl (inl p)
either (inr never) (inl q) = inl (inr q)
either {P = P} {Q = Q} (inr never) (inr none) = inr neither
  where
    neither : P ⊎ Q → ⊥
    neither (inl p) = never p
    neither (inr q) = none q

negated : {P : Type 0} → Decided P → Decided (P → ⊥)
negated (inl p) = inr (λ never. never p)
negated (inr never) = inl never

-- ---- sets of positions

-- A decided set of positions below a number.
record Finite (n : ℕ) (A : ℕ → Type 0) : Type 0 where
  decided : (y : ℕ) → Decided (A y)
  below : (y : ℕ) → A y → y < n

before_other : (x n : ℕ) → x < suc n → (x ≡ n → ⊥) → x < n
before_other x n l other = picked (cases_lt x n)
  where
    picked : (x < n) ⊎ (n ≤ x) → x < n
    picked (inl h) = h
    picked (inr h) = absurd (other (omega arith))

past : (first y : ℕ) → first ≤ y → (y ≡ first → ⊥) → suc first ≤ y
past first y l other = let less : first < y = before_other first y (omega arith) (λ e. other (sym e)) in omega arith

nowhere_below : (n : ℕ) (A : ℕ → Type 0) → (A n → ⊥) → ((x : ℕ) → x < n → A x → ⊥) → (x : ℕ) → x < suc n → A x → (x ≡ n) ⊎ (x ≡ n → ⊥) → ⊥
nowhere_below n A never none x l a (inl e) = never (subst A e a)
nowhere_below n A never none x l a (inr other) = none x (before_other x n l other) a

search_below : (n : ℕ) (A : ℕ → Type 0) → ((y : ℕ) → Decided (A y)) → ((x : ℕ) × A x) ⊎ ((x : ℕ) → x < n → A x → ⊥)
search_below zero A decided = inr (λ x l a. absurd (omega arith))
search_below (suc n) A decided = here (decided n) (search_below n A decided)
  where
    here : Decided (A n) → ((x : ℕ) × A x) ⊎ ((x : ℕ) → x < n → A x → ⊥) → ((x : ℕ) × A x) ⊎ ((x : ℕ) → x < suc n → A x → ⊥)
    here (inl a) rest = inl (n, a)
    here (inr never) (inl found) = inl found
    here (inr never) (inr none) = inr (λ x l a. nowhere_below n A never none x l a (cases_eq x n))

some_or_none : (n : ℕ) (A : ℕ → Type 0) → Finite n A → Decided (IsSome A)
some_or_none n A is = found (search_below n A is.decided)
  where
    found : ((x : ℕ) × A x) ⊎ ((x : ℕ) → x < n → A x → ⊥) → Decided (IsSome A)
    found (inl some) = inl some
    found (inr none) = inr (λ some. none some.0 (is.below some.0 some.1) some.1)

-- The members from `first` on, in ascending order.
record Listing (A : ℕ → Type 0) (first n : ℕ) (members : List ℕ) : Type 0 where
  sorted : Pairs (λ (a b : ℕ). a < b) members
  from : AllByRecursion (λ y. first ≤ y) members
  only : (y : ℕ) → Contains members y → A y
  whole : (y : ℕ) → first ≤ y → y < first + n → A y → Contains members y

above : (x : ℕ) (ys : List ℕ) → AllByRecursion (λ y. suc x ≤ y) ys → AllByRecursion (λ y. x < y) ys
above x [] all = tt
above x (y ∷ ys) all = (omega (arith, all.0), above x ys all.1)

lower : (x : ℕ) (ys : List ℕ) → AllByRecursion (λ y. suc x ≤ y) ys → AllByRecursion (λ y. x ≤ y) ys
lower x [] all = tt
lower x (y ∷ ys) all = (omega (arith, all.0), lower x ys all.1)

no_member : (y : ℕ) → Contains [] y → ⊥
no_member y h = let l = h.1 in omega arith

listing : (A : ℕ → Type 0) → ((y : ℕ) → Decided (A y)) → (n first : ℕ) → (members : List ℕ) × Listing A first n members
listing A decided zero first = ([], record { sorted = tt; from = tt; only = λ y h. absurd (no_member y h); whole = λ y l h a. absurd (omega arith) })
listing A decided (suc n) first = here (decided first) (listing A decided n (suc first))
  where
    here : Decided (A first) → (members : List ℕ) × Listing A (suc first) n members → (members : List ℕ) × Listing A first (suc n) members
    here (inl a) (ys, are) = (
      first ∷ ys,
      record {
        sorted = (above first ys are.from, are.sorted);
        from = (omega arith, lower first ys are.from);
        only = λ y h. member y h.0 h.1 h.2;
        whole = λ y l h b. found y l h b (cases_eq y first);
      },
    )
      where
        member : (y k : ℕ) → k < length (first ∷ ys) → slice_index_or (first ∷ ys) k y ≡ y → A y
        member y zero l e = subst A e a
        member y (suc k) l e = are.only y (k, omega arith, e)

        found : (y : ℕ) → first ≤ y → y < first + suc n → A y → (y ≡ first) ⊎ (y ≡ first → ⊥) → Contains (first ∷ ys) y
        found y l h b (inl e) = (zero, omega arith, sym e)
        found y l h b (inr other) = let there = are.whole y (past first y l other) (omega arith) b in (suc there.0, omega (arith, there.1), there.2)
    here (inr never) (ys, are) = (
      ys,
      record {
        sorted = are.sorted;
        from = lower first ys are.from;
        only = are.only;
        whole = λ y l h b. found y l h b (cases_eq y first);
      },
    )
      where
        found : (y : ℕ) → first ≤ y → y < first + suc n → A y → (y ≡ first) ⊎ (y ≡ first → ⊥) → Contains ys y
        found y l h b (inl e) = absurd (never (subst A e b))
        found y l h b (inr other) = are.whole y (past first y l other) (omega arith) b

list_of : (n : ℕ) (A : ℕ → Type 0) → Finite n A → (members : List ℕ) × IsListOf A members
list_of n A is =
    let (ys, are) = listing A is.decided n 0 in (
      ys,
      record {
        ascending = λ k l. pairs_at (λ (a b : ℕ). a < b) ys are.sorted k (k + 1) 0 (omega arith) l;
        only = are.only;
        whole = λ y a. let l = is.below y a in are.whole y (omega arith) (omega arith) a;
      },
    )

-- ---- relations among spans

last_of : (p : ℕ) (ps : List ℕ) → (rest : List ℕ) × (q : ℕ) × (p ∷ ps ≡ rest ++ q ∷ [])
last_of p [] = ([], p, refl)
last_of p (r ∷ rs) = let later = last_of r rs in (p ∷ later.0, later.1, ap (λ l. p ∷ l) later.2)

-- What stands in the table of parents at y.
record Entry (nodes : List Node) (y : ℕ) (o : Option ℕ) : Type 0 where
  only : (x : ℕ) → o ≡ Some x → IsParent nodes x y
  whole : (x : ℕ) → IsParent nodes x y → o ≡ Some x

module _ (nodes : List Node) (differ : IdsDiffer nodes) where
  is_parent : (x y : ℕ) → Decided (IsParent nodes x y)
  is_parent x y = by (id_at nodes x) (parent_at nodes y) refl refl
    where
      by : (a b : Option SpanId) → id_at nodes x ≡ a → parent_at nodes y ≡ b → Decided (IsParent nodes x y)
      by None b e f = inr (λ is. none-some is.id (sym e ∙ is.is))
      by (Some p) None e f = inr (λ is. none-some is.id (sym f ∙ is.named))
      by (Some p) (Some q) e f = same (same_or_not p q)
        where
          same : (p ≡ q) ⊎ (p ≢ q) → Decided (IsParent nodes x y)
          same (inl is) = inl (record { id = p; is = e; named = f ∙ ap Some (sym is) })
          same (inr other) = inr (λ is. other (same_Some p is.id (sym e ∙ is.is) ∙ same_Some is.id q (sym is.named ∙ f)))

  is_sibling : (x y : ℕ) → Decided (IsSibling nodes x y)
  is_sibling x y = by (parent_at nodes x) (parent_at nodes y) refl refl
    where
      by : (a b : Option SpanId) → parent_at nodes x ≡ a → parent_at nodes y ≡ b → Decided (IsSibling nodes x y)
      by None b e f = inr (λ is. none-some is.parent (sym e ∙ is.former))
      by (Some p) None e f = inr (λ is. none-some is.parent (sym f ∙ is.latter))
      by (Some p) (Some q) e f = same (same_or_not p q) (cases_eq x y)
        where
          same : (p ≡ q) ⊎ (p ≢ q) → (x ≡ y) ⊎ (x ≡ y → ⊥) → Decided (IsSibling nodes x y)
          same (inr other) at_one = inr (λ is. other (same_Some p is.parent (sym e ∙ is.former) ∙ same_Some is.parent q (sym is.latter ∙ f)))
          same (inl is) (inl at_one) = inr (λ is. is.different at_one)
          same (inl is) (inr apart) = inl (record { parent = p; former = e; latter = f ∙ ap Some (sym is); different = apart })

  entry : (y : ℕ) → (o : Option ℕ) × Entry nodes y o
  entry y = found (search_below (length nodes) (λ x. IsParent nodes x y) (λ x. is_parent x y))
    where
      found : ((x : ℕ) × IsParent nodes x y) ⊎ ((x : ℕ) → x < length nodes → IsParent nodes x y → ⊥) → (o : Option ℕ) × Entry nodes y o
      found (inl (x, is)) = (
        Some x,
        record {
          only = λ z e. subst (λ w. IsParent nodes w y) (same_Some x z e) is;
          whole = λ z other. ap Some (differ.apart x z is.id is.is (other.is ∙ ap Some (same_Some other.id is.id (sym other.named ∙ is.named))));
        },
      )
      found (inr none) = (
        None,
        record {
          only = λ z e. absurd (none-some z e);
          whole = λ z is. absurd (none z (id_within nodes z is.id is.is) is);
        },
      )

  abbrev parents : List (Option ℕ)
  parents = map (λ y. (entry y).0) (range_with_len 0 (length nodes))

  at_entry : (y : ℕ) → y < length nodes → at parents y ≡ (entry y).0
  at_entry y l = get_or-map-range_with_len (λ y. (entry y).0) 0 (length nodes) y y None l (omega arith)

  table : HasParents nodes parents
  table = record {
    one_each = length-map-range_with_len (λ y. (entry y).0) 0 (length nodes);
    sound = λ x y e.
        let l = in_table parents y x e in
        let n = length-map-range_with_len (λ y. (entry y).0) 0 (length nodes) in
        (entry y).1.only x (sym (at_entry y (omega arith)) ∙ e);
    whole = λ x y is. at_entry y (parent_within nodes y is.id is.named) ∙ (entry y).1.whole x is;
  }

  -- A parent of an ancestor is an ancestor.
  higher : {w x y : ℕ} → IsParent nodes w x → IsAncestor nodes x y → IsAncestor nodes w y
  higher p (one q) = more (one p) q
  higher p (more a q) = more (higher p a) q

  climbed : (y : ℕ) (starts : List ℕ) {d : ℕ} → starts ≡ option_to_list (at parents y) → Reaches starts parents [] d → IsAncestor nodes d y
  climbed y starts {d = d} e (start h) = one (table.sound d y (option_list_only (at parents y) d (subst (λ l. Contains l d) e h)))
  climbed y starts {d = d} e (along {k = k} r h) = higher (table.sound d k h) (climbed y starts e r)
  climbed y starts {d = d} e (aside r h) = absurd (none-some d h)

  extend : (y : ℕ) {d w : ℕ} → IsAncestor nodes d w → ((x : ℕ) → IsParent nodes x w → Reaches (option_to_list (at parents y)) parents [] x) →
      Reaches (option_to_list (at parents y)) parents [] d
  extend y {d = d} (one p) near = near d p
  extend y (more {y = v} a p) near = extend y a (λ x q. along (near v p) (table.whole x v q))

  ancestor_reached : (x y : ℕ) → IsAncestor nodes x y → Reaches (option_to_list (at parents y)) parents [] x
  ancestor_reached x y a = extend y a (λ z p. start (option_list_has (at parents y) z (table.whole z y p)))

  -- The walk up from a span ends.
  walk : (starts : List ℕ) (fuel : ℕ) (found : List Bool) (ahead : List ℕ) → left found ahead ≤ fuel → Walked starts parents [] (length nodes) found ahead →
      (all : List Bool) × Walked starts parents [] (length nodes) all []
  walk starts fuel found [] few walked = (found, walked)
  walk starts zero found (p ∷ ahead) few walked = absurd (omega arith)
  walk starts (suc fuel) found (p ∷ ahead) few walked =
      let last = last_of p ahead in
      let rest = last.0 in
      let q = last.1 in
      let next = walk_visits starts parents [] (length nodes) found (p ∷ ahead) rest q (parents_within nodes parents table) (nowhere (length nodes)) last.2 walked in
      let member : Contains (p ∷ ahead) q = subst (λ l. Contains l q) (sym last.2) (Contains-push rest q) in
      let inside : q < length found = let l = walked.within q member in let n = walked.one_each in omega arith in
      let less = visit_leaves parents [] found (p ∷ ahead) rest q inside last.2 in
      walk starts fuel (set found q true) (rest ++ onward parents [] found q) (omega arith) next

  is_ancestor : (x y : ℕ) → Decided (IsAncestor nodes x y)
  is_ancestor x y =
      let starts = option_to_list (at parents y) in
      let none = replicate (length nodes) false in
      let begun = walk_begins starts parents [] (length nodes) none refl (length-replicate (length nodes) false) (λ k d l. within k d l) in
      let (all, walked) = walk starts (left none starts) none starts (omega arith) begun in
      told all walked (cases_Bool (slice_index_or all x false))
    where
      within : (k d : ℕ) → k < length (option_to_list (at parents y)) → slice_index_or (option_to_list (at parents y)) k d < length nodes
      within k d l =
          let here = Contains-get_or (option_to_list (at parents y)) k d l in
          (parents_within nodes parents table).within y _ (option_list_only (at parents y) (slice_index_or (option_to_list (at parents y)) k d) here)

      told : (all : List Bool) → Walked (option_to_list (at parents y)) parents [] (length nodes) all [] → (slice_index_or all x false ≡ true) ⊎ (slice_index_or all x false ≡ false) →
          Decided (IsAncestor nodes x y)
      told all walked (inl e) = inl (climbed y (option_to_list (at parents y)) refl (walked.found_only x e))
      told all walked (inr e) = inr (λ a. true≢false (sym (walk_ends (length nodes) all walked (ancestor_reached x y a)) ∙ e))

  relates : (r : Relation) (x y : ℕ) → Decided (Relates r nodes x y)
  relates relation.Child x y = is_parent x y
  relates relation.Descendant x y = is_ancestor x y
  relates relation.Parent x y = is_parent y x
  relates relation.Ancestor x y = is_ancestor y x
  relates relation.Sibling x y = is_sibling x y

  reached : (n : ℕ) (A : ℕ → Type 0) (R : ℕ → ℕ → Type 0) → Finite n A → ((x y : ℕ) → Decided (R x y)) → (y : ℕ) → Decided (IsReached A R y)
  reached n A R is r y =
      flat (some_or_none n (λ x. A x × R x y) (record { decided = λ x. both (is.decided x) (r x y); below = λ x h. is.below x h.0 }))
    where
      flat : Decided (IsSome (λ x. A x × R x y)) → Decided (IsReached A R y)
      flat (inl h) = inl (h.0, h.1.0, h.1.1)
      flat (inr none) = inr (λ h. none (h.0, (h.1, h.2)))

  structural : (s : Side) (n : ℕ) (R : ℕ → ℕ → Type 0) → ((x y : ℕ) → Decided (R x y)) → (A B : ℕ → Type 0) → Finite n A → Finite n B → Finite n (Structural s R A B)
  structural side.Right n R r A B a b = record { decided = λ y. both (b.decided y) (reached n A R a r y); below = λ y h. b.below y h.0 }
  structural side.Unrelated n R r A B a b = record { decided = λ y. both (b.decided y) (negated (reached n A R a r y)); below = λ y h. b.below y h.0 }
  structural side.Both n R r A B a b = record {
    decided = λ y. either (both (b.decided y) (reached n A R a r y)) (both (a.decided y) (reached n B (λ z x. R x z) b (λ z x. r x z) y));
    below = λ y h. in_either y h;
  }
    where
      in_either : (y : ℕ) → Structural side.Both R A B y → y < n
      in_either y (inl h) = b.below y h.0
      in_either y (inr h) = a.below y h.0

  joined : (op : SpansetOp) (n : ℕ) (A B : ℕ → Type 0) → Finite n A → Finite n B → Finite n (Joined op nodes A B)
  joined operator.And n A B a b = record {
    decided = λ y. each_of (some_or_none n A a) (some_or_none n B b) (either (a.decided y) (b.decided y));
    below = λ y h. in_either y h.2;
  }
    where
      in_either : (y : ℕ) → A y ⊎ B y → y < n
      in_either y (inl h) = a.below y h
      in_either y (inr h) = b.below y h
  joined operator.Or n A B a b = record { decided = λ y. either (a.decided y) (b.decided y); below = in_either }
    where
      in_either : (y : ℕ) → A y ⊎ B y → y < n
      in_either y (inl h) = a.below y h
      in_either y (inr h) = b.below y h
  joined (operator.Related r s) n A B a b = structural s n (Relates r nodes) (relates r) A B a b

-- ---- expressions

kept : (ps : List Pattern) (rows : List Row) (condition : Option Placed) → Finite (length rows) (PassesFilter ps rows condition)
kept ps rows condition = record {
  decided = λ y. by_row y (slice_get rows y) refl;
  below = λ y h. slice_get_within rows y h.row h.is;
}
  where
    by_row : (y : ℕ) (o : Option Row) → slice_get rows y ≡ o → Decided (PassesFilter ps rows condition y)
    by_row y None e = inr (λ h. none-some h.row (sym e ∙ h.is))
    by_row y (Some r) e = by (cases_Bool (filter_span ps rows condition r.span))
      where
        by : (filter_span ps rows condition r.span ≡ true) ⊎ (filter_span ps rows condition r.span ≡ false) → Decided (PassesFilter ps rows condition y)
        by (inl so) = inl (record { row = r; is = e; kept = so })
        by (inr never) = inr (λ h. true≢false (sym h.kept ∙ ap (λ (w : Row). filter_span ps rows condition w.span) (same_Some h.row r (sym h.is ∙ e)) ∙ never))

selects : (ps : List Pattern) (rows : List Row) → IdsDiffer (nodes_of rows) → (tree : SetTree) → Finite (length rows) (Selects ps rows tree)
selects ps rows differ (Filter place condition) = kept ps rows condition
selects ps rows differ (Join place op a b) =
    joined (nodes_of rows) differ op (length rows) (Selects ps rows a) (Selects ps rows b) (selects ps rows differ a) (selects ps rows differ b)

pub each_is_answered : EachIsAnswered
each_is_answered ps q rows is =
    let (selected, lists) = list_of (length rows) (Selects ps rows q.spansets) (selects ps rows (ids_differ rows is) q.spansets) in
    (shown (selected_fields q.stages) rows (remaining ps rows q.stages selected), record { selected = selected; lists = lists; is = refl })

-- Of each of several traces.
pub all_are_answered : (ps : List Pattern) (q : QueryTree) (traces : List (List Row)) → AllByRecursion IsOneTrace traces → (all : List TraceResult) × Answers ps q traces all
all_are_answered ps q [] each = ([], refl)
all_are_answered ps q (rows ∷ traces) each =
    let (outcome, is) = each_is_answered ps q rows each.0 in
    let (others, rest) = all_are_answered ps q traces each.1 in
    (option_to_list outcome ++ others, (outcome, others, is, rest, refl))
