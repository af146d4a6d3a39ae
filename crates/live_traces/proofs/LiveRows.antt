-- Live rows as entries and arrivals, and kept rows as runs.
use Rattle.std.proofs.Common.{add-one, ◌≡◌, ℕ, ◌+◌, ◌≤◌, zero, suc, List, [], ◌∷◌, ◌++◌, Bool, true, false, Option, None, Some, refl, sym, ◌∙◌, ap, arith, length, map, filter, not, slice_index_or, ◌<◌, append_assoc, take, drop, if◌then◌else◌, cond, unwrap_or}
use Rattle.std.specs.Ordering.{is_eq}
use Rattle.std.proofs.lemmas.List.{append-nil, drop-append-le, take-append-le}
use Rattle.std.proofs.lemmas.Grind.{flat_map-append}
use Rattle.span_types.specs.declared.ids.TraceId.{TraceId}
use Rattle.span_types.specs.declared.spans.Row.{Row}
use Rattle.span_types.specs.Orders.{trace_cmp}
use Rattle.store_model.specs.State.{LiveRow, live_rows}
use Rattle.store_model.specs.After.{arrived}
use Rattle.store_model.specs.Cut.{last_moment}
use Rattle.live_traces.specs.Rows.{ChunkParts, chunk_rows, push_rows, run_rows}
use Rattle.live_traces.specs.Parts.{live_of, arrivals_of, goes, goes_by}
use Rattle.live_traces.specs.declared.live.Entry.{Entry}
use Rattle.live_traces.specs.declared.live.Arrival.{Arrival}
use Rattle.std.specs.BTreeMap.{BTreeMap, get}
use Rattle.live_traces.specs.Going.{goes_with}
use Rattle.live_traces.proofs.ChunkRows.{length_chunk_rows}
use Rattle.live_traces.proofs.TraceRows.{filter_append, filter_same}

length_append : {X : Type 0} (xs ys : List X) → length (xs ++ ys) ≡ length xs + length ys
length_append [] ys = omega arith
length_append (x ∷ xs) ys = omega (arith, length_append xs ys)

length_map : {X Y : Type 0} (f : X → Y) (xs : List X) → length (map f xs) ≡ length xs
length_map f [] = refl
length_map f (x ∷ xs) = ap suc (length_map f xs)

map_append : {X Y : Type 0} (f : X → Y) (xs ys : List X) → map f (xs ++ ys) ≡ map f xs ++ map f ys
map_append f [] ys = refl
map_append f (x ∷ xs) ys = ap (λ zs. f x ∷ zs) (map_append f xs ys)

pub live_of-append : (xs ys : List Entry) → live_of (xs ++ ys) ≡ live_of xs ++ live_of ys
live_of-append xs ys = flat_map-append (λ (e : Entry). arrived e.moment e.run) xs ys

pub live_of-more : (xs : List Entry) (e : Entry) → live_of (xs ++ e ∷ []) ≡ live_of xs ++ arrived e.moment e.run
live_of-more xs e = live_of-append xs (e ∷ []) ∙ ap (λ z. live_of xs ++ z) (append-nil (arrived e.moment e.run))

-- runs, and the first of them
pub run_rows-append : (xs ys : List (List Row)) → run_rows (xs ++ ys) ≡ run_rows xs ++ run_rows ys
run_rows-append xs ys = flat_map-append (λ (run : List Row). run) xs ys

pub run_rows-more : (xs : List (List Row)) (run : List Row) → run_rows (xs ++ run ∷ []) ≡ run_rows xs ++ run
run_rows-more xs run = run_rows-append xs (run ∷ []) ∙ ap (λ z. run_rows xs ++ z) (append-nil run)

pub both_runs : (n : ℕ) (xs : List (List Row)) → run_rows (take n xs) ++ run_rows (drop n xs) ≡ run_rows xs
both_runs zero xs = refl
both_runs (suc n) [] = refl
both_runs (suc n) (x ∷ xs) = append_assoc x (run_rows (take n xs)) (run_rows (drop n xs)) ∙ ap (λ z. x ++ z) (both_runs n xs)

pub both_lengths : (n : ℕ) (xs : List (List Row)) → length (run_rows (take n xs)) + length (run_rows (drop n xs)) ≡ length (run_rows xs)
both_lengths n xs = sym (length_append (run_rows (take n xs)) (run_rows (drop n xs))) ∙ ap length (both_runs n xs)

pub push_rows-more : (xs : List ChunkParts) (c : ChunkParts) → push_rows (xs ++ c ∷ []) ≡ push_rows xs ++ chunk_rows c
push_rows-more xs c = flat_map-append chunk_rows xs (c ∷ []) ∙ ap (λ z. push_rows xs ++ z) (append-nil (chunk_rows c))

pub arrivals-more : (xs : List Arrival) (a : Arrival) → arrivals_of (xs ++ a ∷ []) ≡ arrivals_of xs ++ arrived a.moment (chunk_rows a.chunk)
arrivals-more xs a =
    flat_map-append (λ (b : Arrival). arrived b.moment (chunk_rows b.chunk)) xs (a ∷ []) ∙ ap (λ z. arrivals_of xs ++ z) (append-nil (arrived a.moment (chunk_rows a.chunk)))

pub counted-more : (xs : List Arrival) (a : Arrival) → length (arrivals_of (xs ++ a ∷ [])) ≡ length (arrivals_of xs) + length a.chunk.spans
counted-more xs a =
    ap length (arrivals-more xs a) ∙ length_append (arrivals_of xs) (arrived a.moment (chunk_rows a.chunk))
    ∙ ap (λ n. length (arrivals_of xs) + n) (length_map _ (chunk_rows a.chunk) ∙ length_chunk_rows a.chunk)

pub arrived-more : (moment : ℕ) (rows : List Row) (row : Row) → arrived moment (rows ++ row ∷ []) ≡ arrived moment rows ++ record { row = row; moment = moment } ∷ []
arrived-more moment rows row = map_append _ rows (row ∷ [])

pub live_rows-append : (xs ys : List LiveRow) → live_rows (xs ++ ys) ≡ live_rows xs ++ live_rows ys
live_rows-append xs ys = map_append _ xs ys

pub length_live_rows : (xs : List LiveRow) → length (live_rows xs) ≡ length xs
length_live_rows xs = length_map _ xs

pub rows_arrived : (moment : ℕ) (rows : List Row) → live_rows (arrived moment rows) ≡ rows
rows_arrived moment [] = refl
rows_arrived moment (r ∷ rs) = ap (λ zs. r ∷ zs) (rows_arrived moment rs)

-- the last moment of a trace after more rows
pub last-append : (t : TraceId) (before : ℕ) (xs ys : List LiveRow) → last_moment t before (xs ++ ys) ≡ last_moment t (last_moment t before xs) ys
last-append t before [] ys = refl
last-append t before (x ∷ xs) ys = last-append t (if is_eq (trace_cmp x.row.span.trace t) then x.moment else before) xs ys

pub kept_last : (t : TraceId) (before moment : ℕ) (rows : List Row) (row : Row) (o : Option ℕ) → unwrap_or o 0 ≡ last_moment t before (arrived moment rows) →
    unwrap_or (cond (is_eq (trace_cmp row.span.trace t)) (Some moment) o) 0 ≡ last_moment t before (arrived moment (rows ++ row ∷ []))
kept_last t before moment rows row o h = elim (is_eq (trace_cmp row.span.trace t)) as (λ b. unwrap_or (cond b (Some moment) o) 0 ≡ (if b then moment else last_moment t before (arrived moment rows))) [
  | true ↦ refl
  | false ↦ h
] ∙ sym (ap (last_moment t before) (arrived-more moment rows row) ∙ last-append t before (arrived moment rows) (record { row = row; moment = moment } ∷ []))

pub goes_is : (idle : Option ℕ) (live : List LiveRow) (e : LiveRow) → goes idle live e ≡ goes_by idle (last_moment e.row.span.trace 0 live)
goes_is None live e = refl
goes_is (Some moment) live e = refl

-- one more of a list
suc_more : {X : Type 0} (xs : List X) (i : ℕ) (x : X) → i < length xs → slice_index_or xs i x ≡ x → take (suc i) xs ≡ take i xs ++ x ∷ []
suc_more [] i x l e = absurd (omega (arith, l))
suc_more (y ∷ ys) zero x l e = ap (λ z. z ∷ []) e
suc_more (y ∷ ys) (suc i) x l e = ap (λ zs. y ∷ zs) (suc_more ys i x (omega (arith, l)) e)

pub take_more_of : {X : Type 0} (xs : List X) (i : ℕ) (x : X) → i < length xs → slice_index_or xs i x ≡ x → take (i + 1) xs ≡ take i xs ++ x ∷ []
take_more_of xs i x l e = ap (λ n. take n xs) (add-one i) ∙ suc_more xs i x l e

-- what goes and what stays of the rows of one push
pub goes_arrived : (p : Row → Bool) (moment : ℕ) (rows : List Row) → live_rows (filter (λ (e : LiveRow). p e.row) (arrived moment rows)) ≡ filter p rows
goes_arrived p moment [] = refl
goes_arrived p moment (r ∷ rs) = by_test (p r) (goes_arrived p moment rs)
  where
    by_test : (b : Bool) → live_rows (filter (λ (e : LiveRow). p e.row) (arrived moment rs)) ≡ filter p rs →
        live_rows (if b then record { row = r; moment = moment } ∷ filter (λ (e : LiveRow). p e.row) (arrived moment rs) else filter (λ (e : LiveRow). p e.row) (arrived moment rs))
        ≡ (if b then r ∷ filter p rs else filter p rs)
    by_test true h = ap (λ q. r ∷ q) h
    by_test false h = h

pub stays_arrived : (p : Row → Bool) (moment : ℕ) (rows : List Row) → filter (λ (e : LiveRow). not (p e.row)) (arrived moment rows) ≡ arrived moment (filter (λ row. not (p row)) rows)
stays_arrived p moment [] = refl
stays_arrived p moment (r ∷ rs) = by_test (not (p r)) (stays_arrived p moment rs)
  where
    by_test : (b : Bool) → filter (λ (e : LiveRow). not (p e.row)) (arrived moment rs) ≡ arrived moment (filter (λ row. not (p row)) rs) →
        (if b then record { row = r; moment = moment } ∷ filter (λ (e : LiveRow). not (p e.row)) (arrived moment rs) else filter (λ (e : LiveRow). not (p e.row)) (arrived moment rs))
        ≡ arrived moment (if b then r ∷ filter (λ row. not (p row)) rs else filter (λ row. not (p row)) rs)
    by_test true h = ap (λ q. record { row = r; moment = moment } ∷ q) h
    by_test false h = h

pub moved_more : (p : Row → Bool) (old new : List Row) (xs : List Entry) (e : Entry) → new ≡ old ++ filter p e.run →
    old ≡ live_rows (filter (λ (x : LiveRow). p x.row) (live_of xs)) → new ≡ live_rows (filter (λ (x : LiveRow). p x.row) (live_of (xs ++ e ∷ [])))
moved_more p old new xs e h is =
    let test : LiveRow → Bool = λ x. p x.row in
    h ∙ ap (λ q. q ++ filter p e.run) is
    ∙ ap (λ q. live_rows (filter test (live_of xs)) ++ q) (sym (goes_arrived p e.moment e.run))
    ∙ sym (live_rows-append (filter test (live_of xs)) (filter test (arrived e.moment e.run)))
    ∙ ap live_rows (sym (filter_append test (live_of xs) (arrived e.moment e.run)) ∙ ap (filter test) (sym (live_of-more xs e)))

pub stay_more : (p : Row → Bool) (old new : List LiveRow) (xs : List Entry) (e : Entry) → new ≡ old ++ arrived e.moment (filter (λ row. not (p row)) e.run) →
    old ≡ filter (λ (x : LiveRow). not (p x.row)) (live_of xs) → new ≡ filter (λ (x : LiveRow). not (p x.row)) (live_of (xs ++ e ∷ []))
stay_more p old new xs e h is =
    let test : LiveRow → Bool = λ x. not (p x.row) in
    h ∙ ap (λ q. q ++ arrived e.moment (filter (λ row. not (p row)) e.run)) is
    ∙ ap (λ q. filter test (live_of xs) ++ q) (sym (stays_arrived p e.moment e.run))
    ∙ sym (filter_append test (live_of xs) (arrived e.moment e.run)) ∙ ap (filter test) (sym (live_of-more xs e))

-- one row more, which goes or stays
pub put_moved : (p : Row → Bool) (base old new xs : List Row) (row item : Row) (b : Bool) → new ≡ (if b then old ++ row ∷ [] else old) →
    row ≡ item → b ≡ p item → old ≡ base ++ filter p xs → new ≡ base ++ filter p (xs ++ item ∷ [])
put_moved p base old new xs row item b h r t is =
    h ∙ ap (λ q. if b then old ++ q ∷ [] else old) r ∙ by_test b t ∙ ap (λ q. base ++ q) (sym (filter_append p xs (item ∷ [])))
  where
    by_test : (b : Bool) → b ≡ p item → (if b then old ++ item ∷ [] else old) ≡ base ++ (filter p xs ++ (if p item then item ∷ [] else []))
    by_test true t =
        ap (λ q. q ++ item ∷ []) is ∙ append_assoc base (filter p xs) (item ∷ [])
        ∙ ap (λ q. base ++ (filter p xs ++ (if q then item ∷ [] else []))) t
    by_test false t =
        is ∙ ap (λ q. base ++ q) (sym (append-nil (filter p xs)))
        ∙ ap (λ q. base ++ (filter p xs ++ (if q then item ∷ [] else []))) t

pub put_stay : (p : Row → Bool) (old new xs : List Row) (row item : Row) (b : Bool) → new ≡ (if b then old else old ++ row ∷ []) →
    row ≡ item → b ≡ p item → old ≡ filter (λ x. not (p x)) xs → new ≡ filter (λ x. not (p x)) (xs ++ item ∷ [])
put_stay p old new xs row item b h r t is =
    h ∙ ap (λ q. if b then old else old ++ q ∷ []) r ∙ by_test b t ∙ sym (filter_append (λ x. not (p x)) xs (item ∷ []))
  where
    by_test : (b : Bool) → b ≡ p item → (if b then old else old ++ item ∷ []) ≡ filter (λ x. not (p x)) xs ++ (if not (p item) then item ∷ [] else [])
    by_test true t =
        is ∙ sym (append-nil (filter (λ x. not (p x)) xs))
        ∙ ap (λ q. filter (λ x. not (p x)) xs ++ (if not q then item ∷ [] else [])) t
    by_test false t = ap (λ q. q ++ item ∷ []) is ∙ ap (λ q. filter (λ x. not (p x)) xs ++ (if not q then item ∷ [] else [])) t

-- a run or a push more
pub runs_more : (base : List Row) (old : List (List Row)) (xs : List Entry) (e : Entry) (run : List Row) → run ≡ e.run →
    run_rows old ≡ base ++ live_rows (live_of xs) → run_rows (old ++ run ∷ []) ≡ base ++ live_rows (live_of (xs ++ e ∷ []))
runs_more base old xs e run r is =
    run_rows-more old run ∙ ap (λ q. q ++ run) is
    ∙ ap (λ q. (base ++ live_rows (live_of xs)) ++ q) (r ∙ sym (rows_arrived e.moment e.run))
    ∙ append_assoc base (live_rows (live_of xs)) (live_rows (arrived e.moment e.run))
    ∙ ap (λ q. base ++ q) (sym (live_rows-append (live_of xs) (arrived e.moment e.run)) ∙ ap live_rows (sym (live_of-more xs e)))

pub pushes_more : (old : List ChunkParts) (xs : List Arrival) (a : Arrival) (c : ChunkParts) → c ≡ a.chunk →
    push_rows old ≡ live_rows (arrivals_of xs) → push_rows (old ++ c ∷ []) ≡ live_rows (arrivals_of (xs ++ a ∷ []))
pushes_more old xs a c r is =
    push_rows-more old c ∙ ap (λ q. q ++ chunk_rows c) is
    ∙ ap (λ q. live_rows (arrivals_of xs) ++ q) (ap chunk_rows r ∙ sym (rows_arrived a.moment (chunk_rows a.chunk)))
    ∙ sym (live_rows-append (arrivals_of xs) (arrived a.moment (chunk_rows a.chunk))) ∙ ap live_rows (sym (arrivals-more xs a))

-- lists without elements, and one run more
pub none_more : {X : Type 0} (xs ys : List X) → length ys ≡ 0 → xs ≡ xs ++ ys
none_more xs [] h = sym (append-nil xs)
none_more xs (y ∷ ys) h = absurd (omega (arith, h))

pub none_arrived : (moment : ℕ) (xs : List LiveRow) (rows : List Row) → length rows ≡ 0 → xs ≡ xs ++ arrived moment rows
none_arrived moment xs rows h = none_more xs (arrived moment rows) (length_map _ rows ∙ h)

pub others_more : (n : ℕ) (xs : List (List Row)) (run : List Row) → n ≤ length xs → run_rows (drop n (xs ++ run ∷ [])) ≡ run_rows (drop n xs) ++ run
others_more n xs run l = ap run_rows (drop-append-le n xs (run ∷ []) l) ∙ run_rows-more (drop n xs) run

pub first_more : (n : ℕ) (xs : List (List Row)) (run : List Row) → n ≤ length xs → run_rows (take n (xs ++ run ∷ [])) ≡ run_rows (take n xs)
first_more n xs run l = ap run_rows (take-append-le n xs (run ∷ []) l)

pub counted_all : (es : List Entry) (xs : List Arrival) (a : Arrival) → length (live_of es ++ arrivals_of (xs ++ a ∷ [])) ≡ length (live_of es ++ arrivals_of xs) + length a.chunk.spans
counted_all es xs a =
    let one = length_append (live_of es) (arrivals_of (xs ++ a ∷ [])) in
    let two = length_append (live_of es) (arrivals_of xs) in
    let three = counted-more xs a in
    omega (arith, one, two, three)

-- the map of last moments tells what goes
abbrev Tells : BTreeMap TraceId ℕ → List LiveRow → Type 0
Tells last xs = (t : TraceId) → unwrap_or (get trace_cmp last t) 0 ≡ last_moment t 0 xs

told : (idle : Option ℕ) (last : BTreeMap TraceId ℕ) (live : List LiveRow) (e : LiveRow) → Tells last live → goes_with idle last e ≡ goes idle live e
told idle last live e h = ap (goes_by idle) (h e.row.span.trace) ∙ sym (goes_is idle live e)

pub going : (idle : Option ℕ) (last : BTreeMap TraceId ℕ) (xs live : List LiveRow) → xs ≡ live →
    ((t : TraceId) → unwrap_or (get trace_cmp last t) 0 ≡ last_moment t 0 xs) → filter (goes_with idle last) xs ≡ filter (goes idle live) live
going idle last xs live e h =
    filter_same (goes_with idle last) (goes idle xs) xs (λ x. told idle last xs x h) ∙ ap (λ ys. filter (goes idle ys) ys) e

pub staying : (idle : Option ℕ) (last : BTreeMap TraceId ℕ) (xs live : List LiveRow) → xs ≡ live →
    ((t : TraceId) → unwrap_or (get trace_cmp last t) 0 ≡ last_moment t 0 xs) →
    filter (λ x. not (goes_with idle last x)) xs ≡ filter (λ x. not (goes idle live x)) live
staying idle last xs live e h =
    filter_same (λ x. not (goes_with idle last x)) (λ x. not (goes idle xs x)) xs (λ x. ap not (told idle last xs x h))
    ∙ ap (λ ys. filter (λ x. not (goes idle ys x)) ys) e
