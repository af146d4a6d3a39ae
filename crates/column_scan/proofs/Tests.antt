-- How the members of a sieve are tested one after another.
use Rattle.std.proofs.Common.{◌≡◌, ℕ, zero, suc, ◌+◌, ◌<◌, ◌&&◌, Bool, true, false, List, [], ◌∷◌, length, take, Option, None, Some, Result, Ok, Err, IfOk, MatchOption, refl, sym, ◌∙◌, ap, subst, arith, get_or}
use Rattle.std.specs.List.{list_all}
use Rattle.std.proofs.lemmas.List.{take_more}
use Rattle.span_types.specs.declared.errors.Memory.{Memory}
use Rattle.span_types.specs.declared.spans.Row.{Row}
use Rattle.span_types.specs.declared.spans.Span.{Span}
use Rattle.traceql_syntax.specs.declared.field.FieldExpr.{FieldExpr}
use Rattle.traceql_syntax.specs.Trees.{Tree, tree}
use Rattle.traceql_types.specs.declared.pattern.Pattern.{Pattern}
use Rattle.traceql_value.specs.Meaning.{is_so}
use Rattle.column_scan.specs.Sieves.{SameColumns, SieveParts, meets_members, reads_columns}
use Rattle.column_scan.specs.declared.columns.Columns.{Columns}
use Rattle.column_scan.specs.declared.sifters.Tester.{Tester}
use Rattle.column_scan.specs.Sifters.{IsOfSieve}
use Rattle.column_scan.specs.Sifting.{HasColumns, trees_of}
use Rattle.column_scan.proofs.ColumnLaws.{both_all, told}
use Rattle.column_scan.proofs.HintLaws.{and_left, and_right}
use denote.Ref.{Bor}

-- ---- one after another

pub all_more : {X : Type 0} (p : X → Bool) (xs : List X) (i : ℕ) (d : X) → i < length xs → list_all p (take i xs) ≡ true → p (get_or xs i d) ≡ true → list_all p (take (i + 1) xs) ≡ true
all_more p xs i d low all one = subst (λ l. list_all p l ≡ true) (sym (take_more xs i d low)) (both_all p (take i xs) (get_or xs i d ∷ []) all (rw one refl))

pub one_fails : {X : Type 0} (p : X → Bool) (xs : List X) (i : ℕ) (d : X) → i < length xs → p (get_or xs i d) ≡ false → list_all p xs ≡ false
one_fails p [] i d low fails = absurd (omega (arith, low))
one_fails p (x ∷ xs) zero d low fails = rw fails refl
one_fails p (x ∷ xs) (suc i) d low fails = and_false (p x) (list_all p xs) (one_fails p xs i d (omega (arith, low)) fails)
  where
    and_false : (a b : Bool) → b ≡ false → (a && b) ≡ false
    and_false true b is = is
    and_false false b is = refl

-- what is so under patterns and in rows that are the same
pub so_under : (ps qs : List Pattern) (rows others : List Row) (s : Span) (e : Tree) (b : Bool) → ps ≡ qs → rows ≡ others → b ≡ is_so ps rows s e → b ≡ is_so qs others s e
so_under ps qs rows others s e b same alike is = is ∙ (λ i. is_so (same i) (alike i) s e)

-- ---- the members of a sieve

all_trees : (p : Tree → Bool) (exprs : List (Bor FieldExpr)) → list_all (λ e. p (tree e.now)) exprs ≡ list_all p (trees_of exprs)
all_trees p [] = refl
all_trees p (e ∷ exprs) = ap (λ (b : Bool). p (tree e.now) && b) (all_trees p exprs)

-- what was found of the expressions says whether a span meets the members
pub met : (sieve : SieveParts) (ps : List Pattern) (rows : List Row) (exprs : List (Bor FieldExpr)) (s : Span) (b : Bool) → ps ≡ sieve.patterns → rows ≡ [] → trees_of exprs ≡ sieve.members
    → b ≡ list_all (λ e. is_so ps rows s (tree e.now)) exprs → b ≡ meets_members sieve s
met sieve ps rows exprs s b patterns none trees is =
    is ∙ all_trees (λ e. is_so ps rows s e) exprs ∙ (λ i. list_all (λ e. is_so (patterns i) (none i) s e) (trees i))

pub none_met : (sieve : SieveParts) (s : Span) → sieve.members ≡ [] → true ≡ meets_members sieve s
none_met sieve s none = ap (λ (l : List Tree). list_all (λ e. is_so sieve.patterns [] s e) l) (sym none)

-- spans with the same columns meet the members together
alike : (ps : List Pattern) (s t : Span) (members : List Tree) → list_all reads_columns members ≡ true → SameColumns s t → list_all (λ e. is_so ps [] s e) members ≡ list_all (λ e. is_so ps [] t e) members
alike ps s t [] read same = refl
alike ps s t (e ∷ members) read same =
    let one = told ps s t e (and_left (reads_columns e) (list_all reads_columns members) read) same in
    let rest = alike ps s t members (and_right (reads_columns e) (list_all reads_columns members) read) same in
    λ i. one i && rest i

pub meet_alike : (sieve : SieveParts) (s t : Span) → list_all reads_columns sieve.members ≡ true → SameColumns s t → meets_members sieve s ≡ meets_members sieve t
meet_alike sieve s t read same = alike sieve.patterns s t sieve.members read same

pub same_columns : (s t : Span) (columns : Columns) → HasColumns s columns → HasColumns t columns → SameColumns s t
same_columns s t columns one two = record {
  kind = one.kind ∙ sym two.kind;
  status = one.status ∙ sym two.status;
  start = one.start ∙ sym two.start;
  ended = one.ended ∙ sym two.ended;
}

-- ---- what was answered

pub if_so : (r : Result Bool Memory) (P Q : Bool → Type 0) → ((b : Bool) → P b → Q b) → IfOk r P → IfOk r Q
if_so (Ok b) P Q more is = more b is
if_so (Err e) P Q more is = is

pub tester_there : (sieve : SieveParts) (o : Option Tester) (tester : Tester) → o ≡ Some tester → MatchOption o (sieve.members ≡ []) (IsOfSieve sieve) → IsOfSieve sieve tester
tester_there sieve o tester is tests = subst (λ (x : Option Tester). MatchOption x (sieve.members ≡ []) (IsOfSieve sieve)) is tests

pub tester_missing : (sieve : SieveParts) (o : Option Tester) → o ≡ None → MatchOption o (sieve.members ≡ []) (IsOfSieve sieve) → sieve.members ≡ []
tester_missing sieve o is tests = subst (λ (x : Option Tester). MatchOption x (sieve.members ≡ []) (IsOfSieve sieve)) is tests
