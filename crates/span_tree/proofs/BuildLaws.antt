-- How the tables of a tree grow, a span at a time.
use Rattle.std.proofs.Common.{◌≡◌, ◌≢◌, ℕ, zero, suc, ◌+◌, ◌<◌, ◌≤◌, List, [], ◌∷◌, ◌++◌, length, map, get_or, Option, None, Some, refl, sym, ap, ◌∙◌, ◌⊎◌, inl, inr, arith, slice_get}
use Rattle.std.specs.Option.{option_map, option_and_then}
use Rattle.std.proofs.lemmas.List.{length-map, length_push, get_or_push, get_or_append_left, get_or_past}
use Rattle.std.proofs.lemmas.Option.{slice_get-map, slice_get-get_or, slice_get_within, same_Some, none-some}
use Rattle.std.specs.BTreeMap.{BTreeMap, get, is_at}
use Rattle.std.specs.Map.{lookup}
use Rattle.span_types.specs.declared.ids.SpanId.{SpanId}
use Rattle.span_types.specs.declared.spans.Row.{Row}
use Rattle.span_types.specs.Orders.{span_cmp}
use Rattle.span_tree.specs.declared.node.Node.{Node}
use Rattle.span_tree.specs.Nodes.{IsOneTrace, node_of, nodes_of, id_at, parent_at}
use Rattle.span_tree.specs.Tables.{IdsDiffer, IndexesNodes, HasParents, HasFamilies, JoinsFamily, at}
use Rattle.span_tree.proofs.Ids.{same_or_not}

-- What stands at a position of a list of spans.
pub id_at_place : (nodes : List Node) (k : ℕ) (d : Node) → k < length nodes → id_at nodes k ≡ Some ((get_or nodes k d).id)
id_at_place nodes k d h = ap (λ o. option_map (λ n. n.id) o) (slice_get-get_or nodes k d h)

pub parent_at_place : (nodes : List Node) (k : ℕ) (d : Node) → k < length nodes → parent_at nodes k ≡ (get_or nodes k d).parent
parent_at_place nodes k d h = ap (λ o. option_and_then (λ n. n.parent) o) (slice_get-get_or nodes k d h)

id_within_by : (o : Option Node) (q : SpanId) → option_map (λ n. n.id) o ≡ Some q → (n : Node) × (o ≡ Some n) × (n.id ≡ q)
id_within_by None q h = cc
id_within_by (Some n) q h = (n, refl, same_Some _ _ h)

parent_within_by : (o : Option Node) (q : SpanId) → option_and_then (λ n. n.parent) o ≡ Some q → (n : Node) × (o ≡ Some n)
parent_within_by None q h = cc
parent_within_by (Some n) q h = (n, refl)

-- A position that has an id, or a parent's, is one of the list.
pub id_within : (nodes : List Node) (k : ℕ) (q : SpanId) → id_at nodes k ≡ Some q → k < length nodes
id_within nodes k q h = let found = id_within_by (slice_get nodes k) q h in slice_get_within nodes k found.0 found.1

pub parent_within : (nodes : List Node) (k : ℕ) (q : SpanId) → parent_at nodes k ≡ Some q → k < length nodes
parent_within nodes k q h = let found = parent_within_by (slice_get nodes k) q h in slice_get_within nodes k found.0 found.1

row_of_by : (o : Option Row) (n : Node) → option_map node_of o ≡ Some n → (r : Row) × (o ≡ Some r) × (node_of r ≡ n)
row_of_by None n h = cc
row_of_by (Some r) n h = (r, refl, same_Some _ _ h)

row_with_id : (rows : List Row) (i : ℕ) (q : SpanId) → id_at (nodes_of rows) i ≡ Some q → (r : Row) × (slice_get rows i ≡ Some r) × (r.span.id ≡ q)
row_with_id rows i q h =
    let found = id_within_by (slice_get (nodes_of rows) i) q h in
    let row = row_of_by (slice_get rows i) found.0 (sym (slice_get-map node_of rows i) ∙ found.1) in
    (row.0, row.1, ap (λ n. n.id) row.2 ∙ found.2)

-- The rows of one trace with distinct keys have distinct ids.
pub ids_differ : (rows : List Row) → IsOneTrace rows → IdsDiffer (nodes_of rows)
ids_differ rows is = record {
  apart = λ i j q hi hj.
      let a = row_with_id rows i q hi in
      let b = row_with_id rows j q hj in
      let ids : a.0.span.id ≡ b.0.span.id = a.2 ∙ sym b.2 in
      let traces : a.0.span.trace ≡ b.0.span.trace = is.together i j a.0 b.0 a.1 b.1 in
      is.apart i j a.0 b.0 a.1 b.1 (ap (λ t. record { trace = t; span = a.0.span.id }) traces ∙ ap (λ s. record { trace = b.0.span.trace; span = s }) ids);
}

-- So far the map has the positions below k.
pub record StandsBelow (nodes : List Node) (has : SpanId → Option ℕ) (k : ℕ) : Type 0 where
  pub sound : (q : SpanId) (x : ℕ) → has q ≡ Some x → id_at nodes x ≡ Some q
  pub whole : (q : SpanId) (x : ℕ) → x < k → id_at nodes x ≡ Some q → has q ≡ Some x

pub stands_more : (nodes : List Node) (old new : SpanId → Option ℕ) (k : ℕ) (own : SpanId) → IdsDiffer nodes → StandsBelow nodes old k →
    id_at nodes k ≡ Some own → new own ≡ Some k → ((q : SpanId) → own ≢ q → new q ≡ old q) → StandsBelow nodes new (k + 1)
stands_more nodes old new k own apart is here put kept = record {
  sound = λ q x h. elim (same_or_not own q) as (λ _. id_at nodes x ≡ Some q) [
    | inl e ↦ let same : k ≡ x = same_Some k x (sym put ∙ ap new e ∙ h) in sym (ap (λ y. id_at nodes y) same) ∙ here ∙ ap Some e
    | inr ne ↦ is.sound q x (sym (kept q ne) ∙ h)
  ];
  whole = λ q x l h. elim (same_or_not own q) as (λ _. new q ≡ Some x) [
    | inl e ↦ sym (ap new e) ∙ put ∙ ap Some (apart.apart k x own here (h ∙ ap Some (sym e)))
    | inr ne ↦
        let other : x ≢ k = λ same. ne (same_Some own q (sym here ∙ sym (ap (λ y. id_at nodes y) same) ∙ h)) in
        kept q ne ∙ is.whole q x (omega arith) h
  ];
}

-- An empty map has nothing.
pub nothing_yet : (m : BTreeMap SpanId ℕ) → m.entries ≡ [] → (q : SpanId) → get span_cmp m q ≡ None
nothing_yet m h q = ap (λ es. lookup (is_at (span_cmp q)) es) h

-- A map that has nothing has the positions below 0.
pub stands_none : (nodes : List Node) (has : SpanId → Option ℕ) → ((q : SpanId) → has q ≡ None) → StandsBelow nodes has 0
stands_none nodes has none = record {
  sound = λ q x h. let clash : None ≡ Some x = sym (none q) ∙ h in cc;
  whole = λ q x l h. absurd (omega arith);
}

at_map : (f : Node → Option ℕ) (nodes : List Node) (y : ℕ) → at (map f nodes) y ≡ option_and_then f (slice_get nodes y)
at_map f [] y = refl
at_map f (n ∷ ns) zero = refl
at_map f (n ∷ ns) (suc y) = at_map f ns y

chained : (g : SpanId → Option ℕ) (o : Option Node) → option_and_then (λ n. option_and_then g n.parent) o ≡ option_and_then g (option_and_then (λ n. n.parent) o)
chained g None = refl
chained g (Some n) = refl

through : (g : SpanId → Option ℕ) (o : Option SpanId) (x : ℕ) → option_and_then g o ≡ Some x → (p : SpanId) × (o ≡ Some p) × (g p ≡ Some x)
through g None x h = cc
through g (Some p) x h = (p, refl, h)

-- What the map has for each span's parent is where the parent stands.
pub parents_found : (nodes : List Node) (positions : BTreeMap SpanId ℕ) (parents : List (Option ℕ)) → IndexesNodes nodes positions →
    parents ≡ map (λ n. option_and_then (get span_cmp positions) n.parent) nodes → HasParents nodes parents
parents_found nodes positions parents stands is = record {
  one_each = ap length is ∙ length-map nodes _;
  sound = λ x y h.
      let found = through (get span_cmp positions) (parent_at nodes y) x (sym (there y) ∙ h) in
      record { id = found.0; is = stands.sound found.0 x found.2; named = found.1 };
  whole = λ x y h. there y ∙ ap (λ o. option_and_then (get span_cmp positions) o) h.named ∙ stands.whole h.id x h.is;
}
  where
    there : (y : ℕ) → at parents y ≡ option_and_then (get span_cmp positions) (parent_at nodes y)
    there y = ap (λ t. at t y) is ∙ at_map _ nodes y ∙ chained (get span_cmp positions) (slice_get nodes y)

-- So far each of the k spans has its family, and each parent that was named has the first position at which it was.
pub record FamiliesBelow (nodes : List Node) (has : SpanId → Option ℕ) (families : List (Option ℕ)) (k : ℕ) : Type 0 where
  pub one_each : length families ≡ k
  pub nameless : (y : ℕ) → y < k → parent_at nodes y ≡ None → at families y ≡ None
  pub joined : (y : ℕ) (p : SpanId) → y < k → parent_at nodes y ≡ Some p → (f : ℕ) × (at families y ≡ Some f) × (has p ≡ Some f)
  pub own : (p : SpanId) (f : ℕ) → has p ≡ Some f → parent_at nodes f ≡ Some p

pub families_none : (nodes : List Node) (has : SpanId → Option ℕ) (families : List (Option ℕ)) → ((q : SpanId) → has q ≡ None) → families ≡ [] → FamiliesBelow nodes has families 0
families_none nodes has families none nil = record {
  one_each = ap length nil;
  nameless = λ y l h. absurd (omega arith);
  joined = λ y p l h. absurd (omega arith);
  own = λ p f h. let clash : None ≡ Some f = sym (none p) ∙ h in cc;
}

decide : (o : Option SpanId) → (o ≡ None) ⊎ ((p : SpanId) × (o ≡ Some p))
decide None = inl refl
decide (Some p) = inr (p, refl)

kept_at : (families : List (Option ℕ)) (f : Option ℕ) (y k : ℕ) → length families ≡ k → y < k → at (families ++ f ∷ []) y ≡ at families y
kept_at families f y k h l = get_or_append_left families (f ∷ []) None y (omega arith)

pub families_more : (nodes : List Node) (old new : SpanId → Option ℕ) (families : List (Option ℕ)) (k : ℕ) (parent : Option SpanId) (family : Option ℕ) →
    FamiliesBelow nodes old families k → parent_at nodes k ≡ parent → JoinsFamily old new parent k family → FamiliesBelow nodes new (families ++ family ∷ []) (k + 1)
families_more nodes old new families k parent family is here joins = record {
  one_each = length_push families family ∙ ap (λ n. n + 1) is.one_each;
  nameless = λ y l h. elim (below_or_at y l) as (λ _. at (families ++ family ∷ []) y ≡ None) [
    | inl less ↦ kept_at families family y k is.one_each less ∙ is.nameless y less h
    | inr same ↦ ap (λ i. at (families ++ family ∷ []) i) same ∙ last ∙ joins.nameless (sym here ∙ ap (λ i. parent_at nodes i) (sym same) ∙ h)
  ];
  joined = λ y p l h. elim (below_or_at y l) as (λ _. (f : ℕ) × (at (families ++ family ∷ []) y ≡ Some f) × (new p ≡ Some f)) [
    | inl less ↦
        let was = is.joined y p less h in
        (was.0, kept_at families family y k is.one_each less ∙ was.1, keeps p was.0 was.2)
    | inr same ↦
        let now = joins.joined p (sym here ∙ ap (λ i. parent_at nodes i) (sym same) ∙ h) in
        (now.0, ap (λ i. at (families ++ family ∷ []) i) same ∙ last ∙ now.1, now.2)
  ];
  own = λ p f h. elim (names p) as (λ _. parent_at nodes f ≡ Some p) [
    | inl named ↦
        let now = joins.joined p named in
        let same : now.0 ≡ f = same_Some now.0 f (sym now.2 ∙ h) in
        elim now.3 as (λ _. parent_at nodes f ≡ Some p) [
          | inl known ↦ is.own p f (known ∙ ap Some same)
          | inr fresh ↦ ap (λ i. parent_at nodes i) (sym same ∙ fresh.1) ∙ here ∙ named
        ]
    | inr not_named ↦ is.own p f (sym (joins.others p not_named) ∙ h)
  ];
}
  where
    last : at (families ++ family ∷ []) k ≡ family
    last = get_or_push families family None k is.one_each

    below_or_at : (y : ℕ) → y < k + 1 → (y < k) ⊎ (y ≡ k)
    below_or_at y l = grind arith

    names_by : (o : Option SpanId) (p : SpanId) → (o ≡ Some p) ⊎ (o ≡ Some p → ⊥)
    names_by None p = inr (λ h. cc)
    names_by (Some q) p = elim (same_or_not q p) as (λ _. (Some q ≡ Some p) ⊎ (Some q ≡ Some p → ⊥)) [
      | inl e ↦ inl (ap Some e)
      | inr ne ↦ inr (λ h. ne (same_Some q p h))
    ]

    names : (p : SpanId) → (parent ≡ Some p) ⊎ (parent ≡ Some p → ⊥)
    names p = names_by parent p

    keeps : (p : SpanId) (f : ℕ) → old p ≡ Some f → new p ≡ Some f
    keeps p f h = elim (names p) as (λ _. new p ≡ Some f) [
      | inl named ↦
          let now = joins.joined p named in
          elim now.3 as (λ _. new p ≡ Some f) [
            | inl known ↦ now.2 ∙ sym known ∙ h
            | inr fresh ↦ let clash : None ≡ Some f = sym fresh.0 ∙ h in absurd (none-some f clash)
          ]
      | inr not_named ↦ joins.others p not_named ∙ h
    ]

-- Once each span has its family, the families tell which spans name one parent.
pub families_whole : (nodes : List Node) (has : SpanId → Option ℕ) (families : List (Option ℕ)) → FamiliesBelow nodes has families (length nodes) → HasFamilies nodes families
families_whole nodes has families is = record {
  one_each = is.one_each;
  within = λ y f h.
      let found = named y f h in
      parent_within nodes f found.0 (is.own found.0 f found.2);
  sound = λ x y f hx hy.
      let a = named x f hx in
      let b = named y f hy in
      (a.0, a.1, b.1 ∙ sym (is.own b.0 f b.2) ∙ is.own a.0 f a.2);
  whole = λ x y p hx hy.
      let a = is.joined x p (parent_within nodes x p hx) hx in
      let b = is.joined y p (parent_within nodes y p hy) hy in
      (a.0, a.1, b.1 ∙ sym b.2 ∙ a.2);
}
  where
    within_table : (y f : ℕ) → at families y ≡ Some f → y < length families
    within_table y f h = elim (le_or_lt y (length families)) as (λ _. y < length families) [
      | inl l ↦ l
      | inr past ↦ let clash : None ≡ Some f = sym (get_or_past families y None past) ∙ h in absurd (none-some f clash)
    ]
      where
        le_or_lt : (a b : ℕ) → (a < b) ⊎ (b ≤ a)
        le_or_lt a b = grind arith

    named : (y f : ℕ) → at families y ≡ Some f → (p : SpanId) × (parent_at nodes y ≡ Some p) × (has p ≡ Some f)
    named y f h =
        let l : y < length nodes = let w = within_table y f h in let one = is.one_each in omega arith in
        elim (decide (parent_at nodes y)) as (λ _. (p : SpanId) × (parent_at nodes y ≡ Some p) × (has p ≡ Some f)) [
          | inl none ↦ let clash : None ≡ Some f = sym (is.nameless y l none) ∙ h in absurd (none-some f clash)
          | inr some ↦
              let found = is.joined y some.0 l some.1 in
              (some.0, some.1, found.2 ∙ sym found.1 ∙ h)
        ]

-- A parent that wasn't named before gets this position.
pub joins_fresh : (known after : SpanId → Option ℕ) (parent : Option SpanId) (p : SpanId) (k : ℕ) → parent ≡ Some p → known p ≡ None → after p ≡ Some k →
    ((q : SpanId) → p ≢ q → after q ≡ known q) → JoinsFamily known after parent k (Some k)
joins_fresh known after parent p k is none put kept = record {
  nameless = λ h. let clash : None ≡ Some p = sym h ∙ is in absurd (none-some p clash);
  joined = λ q h.
      let same : p ≡ q = same_Some p q (sym is ∙ h) in
      (k, refl, ap after (sym same) ∙ put, inr (ap known (sym same) ∙ none, refl));
  others = λ q h. kept q (λ e. h (is ∙ ap Some e));
}
