-- What a query sees of the store, and what it is told of that.
use Rattle.std.proofs.Common.{◌≡◌, ◌⊎◌, inl, inr, ℕ, Bool, true, false, if◌then◌else◌, List, [], ◌∷◌, ◌++◌, filter, Option, None, Some, refl, sym, ◌∙◌, ap, subst}
use Rattle.std.specs.List.{Contains}
use Rattle.std.specs.List.Sorted.{IsPermutation}
use Rattle.std.proofs.lemmas.List.Elements.{Contains-append_left}
use Rattle.std.proofs.lemmas.List.Sorted.{Contains-permutation}
use Rattle.span_types.specs.First.{IsFirstOf, first_at}
use Rattle.span_types.specs.Keys.{row_key}
use Rattle.span_types.specs.declared.ids.TraceId.{TraceId}
use Rattle.span_types.specs.declared.spans.Row.{Row}
use Rattle.span_types.proofs.FirstLaws.{firsts_alike, has_first, key_of_first}
use Rattle.rows_by_trace.specs.Traces.{is_of_trace, rows_of_trace}
use Rattle.query_fanout.specs.SearchAnswers.{IsSearchAnswer}
use Rattle.query_fanout.specs.TraceAnswers.{IsTraceAnswer}
use Rattle.query_fanout.specs.declared.searching.Asked.{Asked}
use Rattle.query_fanout.specs.declared.searching.SearchAnswer.{SearchAnswer}
use Rattle.query_fanout.specs.declared.trace.TraceAnswer.{TraceAnswer}
use Rattle.spanset_eval.specs.declared.results.TraceResult.{TraceResult}
use Rattle.store_model.specs.History.{history_rows}
use Rattle.store_model.specs.Laws.{Agrees}
use Rattle.store_model.specs.State.{Block, block_rows}
use Rattle.store_model.proofs.KeepsFirsts as firsts
use Rattle.store_images.specs.Stored.{SameFirsts}
use Rattle.store_images.proofs.Lists.{at_front, behind, in_cons, not_in_nil}
use Rattle.store_core.specs.Waiting.{rows_outside}
use Rattle.session_meaning.specs.At.{At, history_of}
use Rattle.session_meaning.specs.Session.{AreSeen, IsFound, IsFoundSeen, IsSure, IsTraceIn, IsTraceSeen}
use Rattle.session_meaning.proofs.Firsts.{trace_alike}

-- ---- rows that are seen

-- all rows of a store, with those of its blocks
abbrev pub all_rows : At → List Row → List Row
all_rows at outside = outside ++ block_rows at.machine.state.blocks

-- They have the first occurrences of its history.
pub all_firsts : (at : At) (outside : List Row) → Agrees at.machine → IsPermutation (rows_outside at.machine.state) outside
    → SameFirsts (all_rows at outside) (history_rows (history_of at))
all_firsts at outside agrees moved = firsts.look_is at.machine outside agrees moved

-- So have those outside of blocks, where no block is listed.
none_more : (at : At) (outside more : List Row) → more ≡ [] → at.machine.state.blocks ≡ [] → SameFirsts (all_rows at outside) (history_rows (history_of at))
    → SameFirsts (outside ++ more) (history_rows (history_of at))
none_more at outside more nothing none same k =
    ap (λ (others : List Row). first_at k (outside ++ others)) nothing ∙ ap (λ (blocks : List Block). first_at k (outside ++ block_rows blocks)) (sym none) ∙ same k

-- Whatever the blocks hold.
pub seen_untold : (at : At) (outside more : List Row) → Agrees at.machine → IsPermutation (rows_outside at.machine.state) outside → (at.machine.state.blocks ≡ [] → more ≡ [])
    → AreSeen false at (outside ++ more)
seen_untold at outside more agrees moved none = record {
  outside = outside;
  of_blocks = more;
  rows_are = refl;
  all_outside = moved;
  no_block = none;
  sure = λ is. by_cause is;
}
  where
    by_cause : IsSure false at → SameFirsts (outside ++ more) (history_rows (history_of at))
    by_cause (inl bad) = let no : ⊥ = cc in absurd no
    by_cause (inr empty) = none_more at outside more (none empty) empty (all_firsts at outside agrees moved)

-- Where what they hold is told.
pub seen_told : (told : Bool) (at : At) (outside : List Row) → Agrees at.machine → IsPermutation (rows_outside at.machine.state) outside → AreSeen told at (all_rows at outside)
seen_told told at outside agrees moved = record {
  outside = outside;
  of_blocks = block_rows at.machine.state.blocks;
  rows_are = refl;
  all_outside = moved;
  no_block = λ none. ap block_rows none;
  sure = λ is. all_firsts at outside agrees moved;
}

-- ---- answers over rows with the same first occurrences

pub trace_over : (id : TraceId) (n : ℕ) (a b : List Row) (answer : TraceAnswer) → SameFirsts a b → IsTraceAnswer id n a answer → IsTraceAnswer id n b answer
trace_over id n a b answer same is = record { count = is.count; firsts = trace_alike id a b answer.rows same is.firsts }

pub search_over : (asked : Asked) (n : ℕ) (a b : List Row) (answer : SearchAnswer) → SameFirsts a b → IsSearchAnswer asked n a answer → IsSearchAnswer asked n b answer
search_over asked n a b answer same is = record {
  count = is.count;
  firsts = is.firsts;
  are_first = firsts_alike a b is.firsts same is.are_first;
  found = is.found;
}

-- ---- what is told of the rows that are seen

pub trace_seen : (told : Bool) (id : TraceId) (n : ℕ) (at : At) (rows : List Row) (answer : TraceAnswer) → AreSeen told at rows → IsTraceAnswer id n rows answer
    → IsTraceSeen told id at answer.rows
trace_seen told id n at rows answer are tells = record { all = rows; are_seen = are; firsts = tells.firsts }

pub found_seen : (told : Bool) (asked : Asked) (n : ℕ) (at : At) (rows : List Row) (answer : SearchAnswer) → AreSeen told at rows → IsSearchAnswer asked n rows answer
    → IsFoundSeen told asked at answer.results
found_seen told asked n at rows answer are tells = record { all = rows; are_seen = are; rows = tells.firsts; firsts = tells.are_first; answer = tells.found }

-- ---- what is told of the history

-- Where it is sure what the blocks hold, a look-up is told what it finds at the history, and so is a search.
pub trace_in : (told : Bool) (id : TraceId) (at : At) (rows : List Row) → IsSure told at → IsTraceSeen told id at rows → IsTraceIn id (history_of at) rows
trace_in told id at rows sure seen = trace_alike id seen.all (history_rows (history_of at)) rows (seen.are_seen.sure sure) seen.firsts

pub found_in : (told : Bool) (asked : Asked) (at : At) (results : List TraceResult) → IsSure told at → IsFoundSeen told asked at results → IsFound asked (history_of at) results
found_in told asked at results sure seen = record {
  rows = seen.rows;
  firsts = firsts_alike seen.all (history_rows (history_of at)) seen.rows (seen.are_seen.sure sure) seen.firsts;
  answer = seen.answer;
}

-- ---- what waits

-- First occurrences have the key of each row.
key_found : (rows firsts : List Row) (row : Row) → IsFirstOf rows firsts → Contains rows row → (x : Row) × Contains firsts x × (row_key x ≡ row_key row)
key_found rows firsts row is there = by_first (first_at (row_key row) rows) refl
  where
    by_first : (o : Option Row) → first_at (row_key row) rows ≡ o → (x : Row) × Contains firsts x × (row_key x ≡ row_key row)
    by_first None e = absurd (has_first rows there.0 row there.1 (ap (λ (r : Row). first_at (row_key r) rows) there.2 ∙ e))
    by_first (Some x) e = (x, is.whole (row_key row) x e, key_of_first (row_key row) rows x e)

both_ways : (b : Bool) → b ≡ true → b ≡ false → ⊥
both_ways b holds fails = cc

kept : (p : Row → Bool) (xs : List Row) (x : Row) → Contains xs x → p x ≡ true → Contains (filter p xs) x
kept p [] x c holds = absurd (not_in_nil x c)
kept p (y ∷ ys) x c holds = by_test (p y) refl (in_cons x y ys c) (λ rest. kept p ys x rest holds)
  where
    by_test : (t : Bool) → p y ≡ t → (y ≡ x) ⊎ Contains ys x → (Contains ys x → Contains (filter p ys) x) → Contains (if t then y ∷ filter p ys else filter p ys) x
    by_test true e (inl is) later = subst (λ (z : Row). Contains (y ∷ filter p ys) z) is (at_front y (filter p ys))
    by_test true e (inr rest) later = behind x y (filter p ys) (later rest)
    by_test false e (inl is) later = absurd (both_ways (p x) holds (ap p (sym is) ∙ e))
    by_test false e (inr rest) later = later rest

-- A row that waits is seen.
waits_seen : (told : Bool) (at : At) (all : List Row) (row : Row) → AreSeen told at all → Contains (rows_outside at.machine.state) row → Contains all row
waits_seen told at all row are waits =
    subst (λ (xs : List Row). Contains xs row) (sym are.rows_are)
    (Contains-append_left are.outside are.of_blocks row (Contains-permutation (rows_outside at.machine.state) are.outside row are.all_outside waits))

-- So a look-up of its trace is told a row with its key, and a search is answered over one.
pub trace_waits : (told : Bool) (id : TraceId) (at : At) (rows : List Row) (row : Row) → IsTraceSeen told id at rows → Contains (rows_outside at.machine.state) row
    → is_of_trace id row ≡ true → (x : Row) × Contains rows x × (row_key x ≡ row_key row)
trace_waits told id at rows row seen waits mine =
    key_found (rows_of_trace id seen.all) rows row seen.firsts (kept (is_of_trace id) seen.all row (waits_seen told at seen.all row seen.are_seen waits) mine)

pub search_waits : (told : Bool) (asked : Asked) (at : At) (results : List TraceResult) (row : Row) (seen : IsFoundSeen told asked at results)
    → Contains (rows_outside at.machine.state) row → (x : Row) × Contains seen.rows x × (row_key x ≡ row_key row)
search_waits told asked at results row seen waits = key_found seen.all seen.rows row seen.firsts (waits_seen told at seen.all row seen.are_seen waits)
