-- The members of a chain: they are found from the last one on, and ask for columns alone.
use Rattle.std.proofs.Common.{◌≡◌, Bool, true, false, List, [], ◌∷◌, ◌++◌, map, None, Some, refl, sym, ◌∙◌, ap, if◌then◌else◌}
use Rattle.std.specs.List.{list_all}
use Rattle.std.specs.Prelude.{reverse}
use Rattle.std.proofs.lemmas.List.{map-append, reverse-append}
use Rattle.traceql_syntax.specs.Trees.{Tree, Literally, Asks, Unary, Binary, Match, SetTree, Filter, Join}
use Rattle.column_scan.specs.Hints.{is_conjunction}
use Rattle.column_scan.specs.Sieves.{column_members, if_columns, reads_columns, set_members}
use Rattle.column_scan.proofs.ColumnLaws.{both_all}

alone : (e : Tree) → reverse (if_columns e) ≡ if_columns e
alone e = (elim (reads_columns e) as (λ b. reads_columns e ≡ b → reverse (if_columns e) ≡ if_columns e) [
  | true ↦ λ t. rw t refl
  | false ↦ λ t. rw t refl
]) refl

added : (old : List Tree) (e : Tree) → reverse (old ++ if_columns e) ≡ if_columns e ++ reverse old
added old e = reverse-append old (if_columns e) ∙ ap (λ l. l ++ reverse old) (alone e)

-- the first one is left
pub down_end : (whole chain : List Tree) (first : Tree) (old new : List Tree) → chain ≡ if_columns first → new ≡ old ++ if_columns first → chain ++ reverse old ≡ whole → reverse new ≡ whole
down_end whole chain first old new lone more have = ap reverse more ∙ added old first ∙ ap (λ l. l ++ reverse old) (sym lone) ∙ have

pub map_reverse : {X Y : Type 0} (f : X → Y) (xs : List X) → map f (reverse xs) ≡ reverse (map f xs)
map_reverse f [] = refl
map_reverse f (x ∷ xs) =
    ap (map f) (reverse-append (x ∷ []) xs) ∙ map-append f (reverse xs) (x ∷ []) ∙ ap (λ l. l ++ f x ∷ []) (map_reverse f xs) ∙ sym (reverse-append (f x ∷ []) (map f xs))

-- ---- what they ask for

if_read : (e : Tree) → list_all reads_columns (if_columns e) ≡ true
if_read e = (elim (reads_columns e) as (λ b. reads_columns e ≡ b → list_all reads_columns (if_columns e) ≡ true) [
  | true ↦ λ t. rw t (rw t refl)
  | false ↦ λ t. rw t refl
]) refl

chain_read : (e : Tree) → list_all reads_columns (column_members e) ≡ true
chain_read (Literally at l) = if_read (Literally at l)
chain_read (Asks at f) = if_read (Asks at f)
chain_read (Unary at op first e) = if_read (Unary at op first e)
chain_read (Match at negated first e pattern_at pattern) = if_read (Match at negated first e pattern_at pattern)
chain_read (Binary at op first a second b) = (elim (is_conjunction op) as (λ t. is_conjunction op ≡ t → list_all reads_columns (column_members (Binary at op first a second b)) ≡ true) [
  | true ↦ λ t. rw t (both_all reads_columns (column_members a) (if_columns b) (chain_read a) (if_read b))
  | false ↦ λ t. rw t (if_read (Binary at op first a second b))
]) refl

set_read : (set : SetTree) → list_all reads_columns (set_members set) ≡ true
set_read (Filter at None) = refl
set_read (Filter at (Some e)) = chain_read e.1
set_read (Join at op a b) = refl

pub kept_read : (kept : Bool) (set : SetTree) → list_all reads_columns (if kept then set_members set else []) ≡ true
kept_read true set = set_read set
kept_read false set = refl
