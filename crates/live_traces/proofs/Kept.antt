-- Runs that are kept, and what moves between the parts.
use Rattle.std.proofs.Common.{◌≡◌, ℕ, ◌+◌, ◌-◌, min, List, [], ◌++◌, append-nil, Bool, filter, not, Option, OnErr, Result, Ok, Err, subst, sym, ◌∙◌, ap, arith, length, take, drop, length-take, length-drop, take-append-drop}
use Rattle.std.specs.List.Sorted.{IsPermutation, IsSortedBy}
use Rattle.std.specs.Ordering.{is_lt}
use Rattle.span_types.specs.declared.spans.Row.{Row}
use Rattle.store_model.specs.State.{LiveRow, live_rows}
use Rattle.store_model.specs.Cut.{cut_order, AreMoved}
use Rattle.live_traces.specs.Rows.{run_rows}
use Rattle.live_traces.specs.Parts.{live_of, arrivals_of, goes}
use Rattle.live_traces.specs.declared.live.Entry.{Entry}
use Rattle.live_traces.specs.declared.live.Arrival.{Arrival}
use Rattle.live_traces.proofs.LiveRows.{both_runs, length_live_rows, run_rows-append}
use Rattle.live_traces.proofs.Ranges.{take_first, drop_first}
use Rattle.live_traces.proofs.TraceRows.{both_parts}

-- where the flush has no rows, the head has all
pub head_is : (n : ℕ) (kept : List (List Row)) → run_rows (take n kept) ≡ [] → run_rows (drop n kept) ≡ run_rows kept
head_is n kept h = ap (λ rows. rows ++ run_rows (drop n kept)) (sym h) ∙ both_runs n kept

-- runs that were parted after so many rows and joined again
pub kept_again : (most : ℕ) (kept front back all : List (List Row)) → run_rows front ≡ take most (run_rows kept) → run_rows back ≡ drop most (run_rows kept) →
    all ≡ front ++ back → run_rows all ≡ run_rows kept
kept_again most kept front back all f b is =
    ap run_rows is ∙ run_rows-append front back ∙ ap (λ rows. rows ++ run_rows back) f
    ∙ ap (λ rows. take most (run_rows kept) ++ rows) b ∙ take-append-drop most (run_rows kept)

pub first_again : (front back all : List (List Row)) (size : ℕ) → size ≡ length front → all ≡ front ++ back → run_rows (take size all) ≡ run_rows front
first_again front back all size s is = ap (λ runs. run_rows (take size runs)) is ∙ ap run_rows (take_first front back size s)

pub others_again : (front back all : List (List Row)) (size : ℕ) → size ≡ length front → all ≡ front ++ back → run_rows (drop size all) ≡ run_rows back
others_again front back all size s is = ap (λ runs. run_rows (drop size runs)) is ∙ ap run_rows (drop_first front back size s)

pub taken_length : (most rows : ℕ) (kept front : List (List Row)) → run_rows front ≡ take most (run_rows kept) → rows ≡ length (run_rows kept) →
    length (run_rows front) ≡ min rows most
taken_length most rows kept front f r = ap length f ∙ length-take most (run_rows kept) ∙ turned most rows (length (run_rows kept)) r
  where
    turned : (most rows size : ℕ) → rows ≡ size → min most size ≡ min rows most
    turned most rows size e = omega (arith, e)

-- the first runs, when they were moved to the end and cut off
pub rotated : (f n : ℕ) (kept : List (List Row)) → n ≡ length kept - f → take n (drop f kept ++ take f kept) ≡ drop f kept
rotated f n kept e = take_first (drop f kept) (take f kept) n (e ∙ sym (length-drop f kept))

-- what goes and what stays are all
pub parts_count : (p : LiveRow → Bool) (live stay : List LiveRow) (moved : List Row) → moved ≡ live_rows (filter p live) → stay ≡ filter (λ e. not (p e)) live →
    length moved + length stay ≡ length live
parts_count p live stay moved m s =
    let one : length moved ≡ length (filter p live) = ap length m ∙ length_live_rows (filter p live) in
    let two : length stay ≡ length (filter (λ e. not (p e)) live) = ap length s in
    omega (arith, one, two, both_parts p live)

pub cut_counts : (p : LiveRow → Bool) (es es' : List Entry) (xs xs' : List Arrival) (stay : List LiveRow) (moved : List Row) (count size : ℕ) → es' ≡ es → xs' ≡ xs →
    moved ≡ live_rows (filter p (live_of es' ++ arrivals_of xs')) → stay ≡ filter (λ e. not (p e)) (live_of es' ++ arrivals_of xs') →
    count ≡ length (live_of es ++ arrivals_of xs) → size ≡ length moved → size + length stay ≡ count
cut_counts p es es' xs xs' stay moved count size e x m s c n =
    let all = parts_count p (live_of es' ++ arrivals_of xs') stay moved m s in
    let same : length (live_of es' ++ arrivals_of xs') ≡ length (live_of es ++ arrivals_of xs) =
    ap (λ ys. length (live_of ys ++ arrivals_of xs')) e ∙ ap (λ ys. length (live_of es ++ arrivals_of ys)) x in
    omega (arith, all, same, c, n)

-- what a cut moves and what it leaves, said of the live rows as a caller sees them
live_again : (es es' : List Entry) (xs xs' : List Arrival) (live : List LiveRow) → es' ≡ es → xs' ≡ xs → live_of es ++ arrivals_of xs ≡ live → live_of es' ++ arrivals_of xs' ≡ live
live_again es es' xs xs' live e x l = ap (λ ys. live_of ys ++ arrivals_of xs') e ∙ ap (λ ys. live_of es ++ arrivals_of ys) x ∙ l

pub cut_moves : (idle : Option ℕ) (live : List LiveRow) (es es' : List Entry) (xs xs' : List Arrival) (rows moved : List Row) → es' ≡ es → xs' ≡ xs → live_of es ++ arrivals_of xs ≡ live →
    rows ≡ live_rows (filter (goes idle (live_of es' ++ arrivals_of xs')) (live_of es' ++ arrivals_of xs')) → IsPermutation rows moved → IsSortedBy (λ a b. is_lt (cut_order a b)) moved →
    AreMoved (goes idle live) live moved
cut_moves idle live es es' xs xs' rows moved e x l r p o = record {
  rows = subst (λ (q : List Row). IsPermutation q moved) (r ∙ ap (λ q. live_rows (filter (goes idle q) q)) (live_again es es' xs xs' live e x l)) p;
  order = o;
}

pub cut_stays : (idle : Option ℕ) (live stay : List LiveRow) (es es' : List Entry) (xs xs' ys : List Arrival) → es' ≡ es → xs' ≡ xs → live_of es ++ arrivals_of xs ≡ live →
    stay ≡ filter (λ e. not (goes idle (live_of es' ++ arrivals_of xs') e)) (live_of es' ++ arrivals_of xs') → ys ≡ [] → stay ++ arrivals_of ys ≡ filter (λ e. not (goes idle live e)) live
cut_stays idle live stay es es' xs xs' ys e x l s n =
    ap (λ q. stay ++ arrivals_of q) n ∙ append-nil stay ∙ s ∙ ap (λ q. filter (λ e. not (goes idle q e)) q) (live_again es es' xs xs' live e x l)

pub on_err : {T E : Type 0} (r : Result T E) (P : Type 0) → P → OnErr r P
on_err (Ok x) P p = tt
on_err (Err e) P p = p
