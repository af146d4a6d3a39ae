-- Chains of operators are no larger than the tree that they make, and one of them after another selects what it does.
use Rattle.std.proofs.Common.{◌≡◌, ℕ, suc, ◌+◌, ◌<◌, ◌≤◌, List, [], ◌∷◌, ◌++◌, length, reverse, Bool, ap, sym, subst, ◌∙◌, arith, refl}
use Rattle.std.proofs.lemmas.List.{reverse-append}
use Rattle.span_types.specs.declared.spans.Row.{Row}
use Rattle.span_tree.specs.Marking.{IsMarked}
use Rattle.span_tree.specs.Nodes.{nodes_of}
use Rattle.traceql_syntax.specs.declared.query.SpansetOp.{SpansetOp}
use Rattle.traceql_types.specs.declared.pattern.Pattern.{Pattern}
use Rattle.spanset_eval.specs.Marked.{MarksSet}
use Rattle.spanset_eval.specs.Sets.{Joined, Selects}
use Rattle.spanset_eval.proofs.MarkLaws.{joined_sets}
use Rattle.traceql_syntax.specs.Trees.{SetTree, Filter, Join, set_tree}
use Rattle.spanset_eval.specs.declared.select.Pending.{Pending}
use Rattle.spanset_eval.specs.Chains.{Chains, set_size}

pub size_some : (t : SetTree) → 0 < set_size t
size_some (Filter at condition) = omega arith
size_some (Join at op a b) = omega arith

pub chain_size : (a : SetTree) (ps : List Pending) (t : SetTree) → Chains a ps t → set_size a ≤ set_size t
chain_size a [] t e = let same = ap set_size e in omega arith
chain_size a (p ∷ ps) t h = let l = chain_size (Join h.0 p.op a (set_tree p.right.now)) ps t h.1 in omega arith

pub right_size : (a : SetTree) (p : Pending) (ps : List Pending) (t : SetTree) → Chains a (p ∷ ps) t → set_size (set_tree p.right.now) < set_size t
right_size a p ps t h =
    let l = chain_size (Join h.0 p.op a (set_tree p.right.now)) ps t h.1 in
    let some = size_some a in
    omega arith

-- ---- the marks of a chain

-- the marks are those of an operand of which the operators, the innermost last, make the tree t
abbrev pub IsAlong : List Pattern → List Row → SetTree → List Pending → List Bool → Type 0
IsAlong ps rows t pending marks = (a : SetTree) × MarksSet (length rows) (Selects ps rows a) marks × Chains a (reverse pending) t

-- the last of a list comes first in its reverse
turned : (before after : List Pending) (p : Pending) → before ≡ after ++ p ∷ [] → reverse before ≡ p ∷ reverse after
turned before after p e = ap reverse e ∙ reverse-append after (p ∷ [])

pub along_step : (ps : List Pattern) (rows : List Row) (t : SetTree) (p : Pending) (before after : List Pending) (left right marks : List Bool) → before ≡ after ++ p ∷ [] →
    IsAlong ps rows t before left → MarksSet (length rows) (Selects ps rows (set_tree p.right.now)) right →
    MarksSet (length rows) (Joined p.op (nodes_of rows) (IsMarked left) (IsMarked right)) marks → IsAlong ps rows t after marks
along_step ps rows t p before after left right marks e h r j =
    let c : Chains h.0 (p ∷ reverse after) t = subst (λ l. Chains h.0 l t) (turned before after p e) h.2 in
    let b = set_tree p.right.now in
    (Join c.0 p.op h.0 b, joined_sets p.op (nodes_of rows) (length rows) (Selects ps rows h.0) (Selects ps rows b) left right marks h.1 r j, c.1)

pub along_smaller : (ps : List Pattern) (rows : List Row) (t : SetTree) (p : Pending) (before after : List Pending) (marks : List Bool) → before ≡ after ++ p ∷ [] →
    IsAlong ps rows t before marks → set_size (set_tree p.right.now) < set_size t
along_smaller ps rows t p before after marks e h = right_size h.0 p (reverse after) t (subst (λ l. Chains h.0 l t) (turned before after p e) h.2)

nil_of : (xs : List Pending) → length xs ≡ 0 → xs ≡ []
nil_of [] e = refl
nil_of (x ∷ xs) e = absurd (omega arith)

pub along_end : (ps : List Pattern) (rows : List Row) (t : SetTree) (pending : List Pending) (marks : List Bool) → length pending ≡ 0 → IsAlong ps rows t pending marks →
    MarksSet (length rows) (Selects ps rows t) marks
along_end ps rows t pending marks e h =
    let c : h.0 ≡ t = subst (λ l. Chains h.0 l t) (ap reverse (nil_of pending e)) h.2 in
    subst (λ a. MarksSet (length rows) (Selects ps rows a) marks) c h.1

-- ---- the same patterns and rows

pub selects_along : (ps qs : List Pattern) (rows rs : List Row) (t : SetTree) (marks : List Bool) → qs ≡ ps → rs ≡ rows → MarksSet (length rs) (Selects qs rs t) marks →
    MarksSet (length rows) (Selects ps rows t) marks
selects_along ps qs rows rs t marks p r h =
    subst (λ xs. MarksSet (length xs) (Selects ps xs t) marks) r (subst (λ xs. MarksSet (length rs) (Selects xs rs t) marks) p h)

pub joined_along : (op : SpansetOp) (rows rs : List Row) (A B : ℕ → Type 0) (marks : List Bool) → rs ≡ rows → MarksSet (length rs) (Joined op (nodes_of rs) A B) marks →
    MarksSet (length rows) (Joined op (nodes_of rows) A B) marks
joined_along op rows rs A B marks r h = subst (λ xs. MarksSet (length xs) (Joined op (nodes_of xs) A B) marks) r h
