-- The least number among rows.
use Rattle.std.proofs.Common.{◌≡◌, ℕ, ◌+◌, ◌<◌, ◌≤◌, List, [], ◌∷◌, ◌++◌, Option, None, Some, min, refl, sym, ◌∙◌, ap, arith, length, take, slice_index_or}
use Rattle.span_types.specs.declared.spans.Span.{Span}
use Rattle.span_types.specs.declared.spans.Row.{Row}
use Rattle.store_model.specs.History.{rows_at}
use Rattle.store_model.specs.State.{LiveRow, live_rows}
use Rattle.store_model.specs.After.{arrived}
use Rattle.live_traces.specs.Rows.{ChunkParts, chunk_rows, run_rows}
use Rattle.live_traces.specs.Parts.{least_with, least_number, lower, live_of, arrivals_of}
use Rattle.live_traces.specs.declared.live.Entry.{Entry}
use Rattle.live_traces.specs.declared.live.Arrival.{Arrival}
use Rattle.live_traces.proofs.LiveRows.{take_more_of, live_of-more, live_rows-append, arrivals-more, rows_arrived, run_rows-more}

pub least-append : (o : Option ℕ) (xs ys : List Row) → least_with o (xs ++ ys) ≡ least_with (least_with o xs) ys
least-append o [] ys = refl
least-append o (x ∷ xs) ys = least-append (lower o x.place.number) xs ys

again : (o : Option ℕ) (n : ℕ) → lower (lower o n) n ≡ lower o n
again None n = ap Some (same n)
  where
    same : (n : ℕ) → min n n ≡ n
    same n = omega arith
again (Some m) n = ap Some (same m n)
  where
    same : (m n : ℕ) → min (min m n) n ≡ min m n
    same m n = omega arith

same_number : (o : Option ℕ) (n p : ℕ) (spans : List Span) → least_with (lower o n) (rows_at n p spans) ≡ lower o n
same_number o n p [] = refl
same_number o n p (s ∷ ss) = ap (λ q. least_with q (rows_at n (p + 1) ss)) (again o n) ∙ same_number o n (p + 1) ss

pub least_none : (o : Option ℕ) (c : ChunkParts) → length c.spans ≡ 0 → least_with o (chunk_rows c) ≡ o
least_none o c h = of_none c.spans h
  where
    of_none : (spans : List Span) → length spans ≡ 0 → least_with o (rows_at c.number 0 spans) ≡ o
    of_none [] h = refl
    of_none (s ∷ ss) h = absurd (omega (arith, h))

pub least_some : (o : Option ℕ) (c : ChunkParts) → 1 ≤ length c.spans → least_with o (chunk_rows c) ≡ lower o c.number
least_some o c h = of_some c.spans h
  where
    of_some : (spans : List Span) → 1 ≤ length spans → least_with o (rows_at c.number 0 spans) ≡ lower o c.number
    of_some [] h = absurd (omega (arith, h))
    of_some (s ∷ ss) h = same_number o c.number (0 + 1) ss

pub least_row : (o : Option ℕ) (rows : List Row) (i : ℕ) (row : Row) → i < length rows → slice_index_or rows i row ≡ row →
    lower (least_with o (take i rows)) row.place.number ≡ least_with o (take (i + 1) rows)
least_row o rows i row l e = sym (least-append o (take i rows) (row ∷ [])) ∙ ap (least_with o) (sym (take_more_of rows i row l e))

pub least_run : (o : Option ℕ) (xs : List (List Row)) (i : ℕ) (x : List Row) → i < length xs → slice_index_or xs i x ≡ x →
    least_with (least_with o (run_rows (take i xs))) x ≡ least_with o (run_rows (take (i + 1) xs))
least_run o xs i x l e =
    sym (least-append o (run_rows (take i xs)) x)
    ∙ ap (least_with o) (sym (ap run_rows (take_more_of xs i x l e) ∙ run_rows-more (take i xs) x))

pub least_entry : (o : Option ℕ) (xs : List Entry) (i : ℕ) (x : Entry) → i < length xs → slice_index_or xs i x ≡ x →
    least_with (least_with o (live_rows (live_of (take i xs)))) x.run ≡ least_with o (live_rows (live_of (take (i + 1) xs)))
least_entry o xs i x l e =
    sym (least-append o (live_rows (live_of (take i xs))) x.run)
    ∙ ap (λ ys. least_with o (live_rows (live_of (take i xs)) ++ ys)) (sym (rows_arrived x.moment x.run))
    ∙ ap (least_with o) (sym (ap live_rows (live_of-more (take i xs) x) ∙ live_rows-append (live_of (take i xs)) (arrived x.moment x.run)))
    ∙ ap (λ ys. least_with o (live_rows (live_of ys))) (sym (take_more_of xs i x l e))

pub least_arrival : (o : Option ℕ) (xs : List Arrival) (i : ℕ) (x : Arrival) → i < length xs → slice_index_or xs i x ≡ x →
    least_with (least_with o (live_rows (arrivals_of (take i xs)))) (chunk_rows x.chunk) ≡ least_with o (live_rows (arrivals_of (take (i + 1) xs)))
least_arrival o xs i x l e =
    sym (least-append o (live_rows (arrivals_of (take i xs))) (chunk_rows x.chunk))
    ∙ ap (λ ys. least_with o (live_rows (arrivals_of (take i xs)) ++ ys)) (sym (rows_arrived x.moment (chunk_rows x.chunk)))
    ∙ ap (least_with o) (sym (ap live_rows (arrivals-more (take i xs) x) ∙ live_rows-append (arrivals_of (take i xs)) (arrived x.moment (chunk_rows x.chunk))))
    ∙ ap (λ ys. least_with o (live_rows (arrivals_of ys))) (sym (take_more_of xs i x l e))

pub least_parts : (head : List Row) (xs ys : List LiveRow) →
    least_with (least_with (least_with None head) (live_rows xs)) (live_rows ys) ≡ least_number (head ++ live_rows (xs ++ ys))
least_parts head xs ys =
    sym (least-append (least_with None head) (live_rows xs) (live_rows ys)) ∙ sym (least-append None head (live_rows xs ++ live_rows ys))
    ∙ ap (λ q. least_number (head ++ q)) (sym (live_rows-append xs ys))
