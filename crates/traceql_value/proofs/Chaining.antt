-- Chains of operators are no larger than the tree that they make, and one of them after another gives its value.
use Rattle.std.proofs.Common.{◌≡◌, ◌<◌, ◌≤◌, List, [], ◌∷◌, ◌++◌, length, reverse, ap, subst, ◌∙◌, arith, refl}
use Rattle.std.proofs.lemmas.List.{reverse-append}
use Rattle.span_types.specs.declared.spans.Row.{Row}
use Rattle.span_types.specs.declared.spans.Span.{Span}
use Rattle.traceql_types.specs.declared.pattern.Pattern.{Pattern}
use Rattle.traceql_value.specs.declared.value.Value.{Value}
use Rattle.traceql_value.specs.Meaning.{apply_binary, is_literal_nil, value_of}
use Rattle.traceql_syntax.specs.Trees.{Tree, Literally, Asks, Unary, Binary, Match, tree}
use Rattle.traceql_value.specs.declared.evaluate.Pending.{Pending}
use Rattle.traceql_value.specs.Chains.{Chains, tree_size}

pub size_some : (t : Tree) → 0 < tree_size t
size_some (Literally at l) = omega arith
size_some (Asks at f) = omega arith
size_some (Unary at op first e) = omega arith
size_some (Binary at op first a second b) = omega arith
size_some (Match at negated first e pattern_at pattern) = omega arith

pub chain_size : (a : Tree) (ps : List Pending) (t : Tree) → Chains a ps t → tree_size a ≤ tree_size t
chain_size a [] t e = let same = ap tree_size e in omega arith
chain_size a (p ∷ ps) t h =
    let w = h.1 in
    let l = chain_size (Binary w.0 p.op w.1 a w.2 (tree p.right.now)) ps t w.3 in
    omega arith

pub right_size : (a : Tree) (p : Pending) (ps : List Pending) (t : Tree) → Chains a (p ∷ ps) t → tree_size (tree p.right.now) < tree_size t
right_size a p ps t h =
    let w = h.1 in
    let l = chain_size (Binary w.0 p.op w.1 a w.2 (tree p.right.now)) ps t w.3 in
    let some = size_some a in
    omega arith

-- ---- the values of a chain

-- the value is that of an operand of which the operators, the innermost last, make the tree t
abbrev pub IsAlong : List Pattern → List Row → Span → Tree → List Pending → Value → Type 0
IsAlong ps rows s t pending v = (a : Tree) × (v ≡ value_of ps rows s a) × Chains a (reverse pending) t

-- the last of a list comes first in its reverse
turned : (before after : List Pending) (p : Pending) → before ≡ after ++ p ∷ [] → reverse before ≡ p ∷ reverse after
turned before after p e = ap reverse e ∙ reverse-append after (p ∷ [])

pub along_step : (ps : List Pattern) (rows : List Row) (s : Span) (t : Tree) (p : Pending) (before after : List Pending) (v w : Value) → before ≡ after ++ p ∷ [] →
    IsAlong ps rows s t before v → w ≡ apply_binary p.op p.nil_left (is_literal_nil (tree p.right.now)) v (value_of ps rows s (tree p.right.now)) → IsAlong ps rows s t after w
unfolding value_of
along_step ps rows s t p before after v w e h is =
    let c : Chains h.0 (p ∷ reverse after) t = subst (λ l. Chains h.0 l t) (turned before after p e) h.2 in
    let r = tree p.right.now in (
      Binary c.1.0 p.op c.1.1 h.0 c.1.2 r,
      is ∙ ap (λ n. apply_binary p.op n (is_literal_nil r) v (value_of ps rows s r)) c.0
          ∙ ap (λ x. apply_binary p.op (is_literal_nil h.0) (is_literal_nil r) x (value_of ps rows s r)) h.1,
      c.1.3,
    )

pub along_smaller : (ps : List Pattern) (rows : List Row) (s : Span) (t : Tree) (p : Pending) (before after : List Pending) (v : Value) → before ≡ after ++ p ∷ [] →
    IsAlong ps rows s t before v → tree_size (tree p.right.now) < tree_size t
along_smaller ps rows s t p before after v e h = right_size h.0 p (reverse after) t (subst (λ l. Chains h.0 l t) (turned before after p e) h.2)

nil_of : (xs : List Pending) → length xs ≡ 0 → xs ≡ []
nil_of [] e = refl
nil_of (x ∷ xs) e = absurd (omega arith)

pub along_end : (ps : List Pattern) (rows : List Row) (s : Span) (t : Tree) (pending : List Pending) (v : Value) → length pending ≡ 0 → IsAlong ps rows s t pending v → v ≡ value_of ps rows s t
along_end ps rows s t pending v e h =
    let c : h.0 ≡ t = subst (λ l. Chains h.0 l t) (ap reverse (nil_of pending e)) h.2 in
    h.1 ∙ ap (value_of ps rows s) c
