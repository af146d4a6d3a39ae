-- Each step keeps the first occurrences of the history.
use Rattle.std.proofs.Common.{◌≡◌, ℕ, ◌+◌, ◌<◌, zero, suc, List, [], ◌∷◌, ◌++◌, None, Some, Bool, true, false, not, refl, sym, ◌∙◌, ap, subst, arith, length, map, filter, take, drop, append_assoc, slice_index_or, ◌⊎◌, inl, inr, if◌then◌else◌}
use Rattle.std.specs.List.{Contains}
use Rattle.std.proofs.lemmas.List.{append-nil}
use Rattle.std.proofs.lemmas.Grind.{flat_map-append}
use Rattle.std.proofs.lemmas.List.Elements.{Contains-append_left, Contains-append_right, Contains-append_cases}
use Rattle.std.proofs.lemmas.List.Sorted.{Contains-permutation, IsPermutation-sym}
use Rattle.std.specs.List.Sorted.{IsPermutation}
use Rattle.span_types.specs.declared.ids.Key.{Key}
use Rattle.span_types.specs.declared.spans.Span.{Span}
use Rattle.span_types.specs.declared.spans.Row.{Row}
use Rattle.span_types.specs.First.{first_at, lesser, IsFirstOf}
use Rattle.span_types.proofs.FirstLaws.{first_at-append, first_at-firsts}
use Rattle.store_model.specs.History.{History, batch_rows, history_rows, count_of, pushed}
use Rattle.store_model.proofs.HistoryLaws.{grows, number_of, position_of, count_pushed}
use Rattle.store_model.specs.RowSets.{Within, SameRows}
use Rattle.store_model.proofs.RowSetLaws.{any_order, first_is_in, in_head, in_tail}
use Rattle.store_model.specs.State.{LiveRow, Block, Flush, Compaction, live_rows, block_rows, flush_rows, state_rows, is_among}
use Rattle.store_model.specs.Choice.{in_files, outside_files, most_rows}
use Rattle.store_model.specs.Cut.{AreMoved}
use Rattle.store_model.specs.After.{arrived, after_push, after_cut, after_begin_flush, after_commit_flush, after_drop_flush, after_commit_compact, job_files}
use Rattle.store_model.specs.Event.{Event, Reply}
use Rattle.store_model.specs.Event.Event.{Push, Cut, CutAll, Held, BeginFlush, BeginCompact, WritePiece, CommitFlush, CommitCompact, DropFlush, DropCompact, Look, ReadPage, Done, Reclaim}
use Rattle.store_model.specs.Step.{Machine, Step, Happens, early, with_state}
use Rattle.store_model.specs.Laws.{AgreesOn, Agrees}
use Rattle.store_model.proofs.Outcomes.{kept_by, idle_flush}

-- ---- lists

pub cons_cases : (x y : Row) (ys : List Row) → Contains (y ∷ ys) x → (y ≡ x) ⊎ Contains ys x
cons_cases x y ys (zero, l, e) = inl e
cons_cases x y ys (suc k, l, e) = inr (k, omega (arith, l), e)

pub map_append : {X Y : Type 0} (f : X → Y) (xs ys : List X) → map f (xs ++ ys) ≡ map f xs ++ map f ys
map_append f [] ys = refl
map_append f (x ∷ xs) ys = ap (λ zs. f x ∷ zs) (map_append f xs ys)

pub live_of_arrived : (moment : ℕ) (rows : List Row) → live_rows (arrived moment rows) ≡ rows
live_of_arrived moment [] = refl
live_of_arrived moment (r ∷ rs) = ap (λ zs. r ∷ zs) (live_of_arrived moment rs)

pub take_drop : {X : Type 0} (n : ℕ) (xs : List X) → take n xs ++ drop n xs ≡ xs
take_drop zero xs = refl
take_drop (suc n) [] = refl
take_drop (suc n) (x ∷ xs) = ap (λ z. x ∷ z) (take_drop n xs)

-- ---- rows that agree

reordered : (xs ys : List Row) (h : History) → SameRows xs ys → AgreesOn xs h → AgreesOn ys h
reordered xs ys h same is = record {
  firsts = λ k. sym (any_order xs ys is.one same k) ∙ is.firsts k;
  one = λ x y hx hy e. is.one x y (same.1 x hx) (same.1 y hy) e;
  below = λ x hx. is.below x (same.1 x hx);
}

in_append : (xs ys : List Row) (x : Row) (G : Type 0) → Contains (xs ++ ys) x → (Contains xs x → G) → (Contains ys x → G) → G
in_append xs ys x G h l r = elim (Contains-append_cases xs ys x h) as (λ _. G) [ inl a ↦ l a | inr b ↦ r b ]

-- one part of joined rows is within another one
within_both : (a a' b b' : List Row) → Within a a' → Within b b' → Within (a ++ b) (a' ++ b')
within_both a a' b b' wa wb x h = in_append a b x (Contains (a' ++ b') x) h (λ l. Contains-append_left a' b' x (wa x l)) (λ r. Contains-append_right a' b' x (wb x r))

itself : (a : List Row) → Within a a
itself a x h = h

firsts_within : (rows firsts : List Row) → IsFirstOf rows firsts → Within firsts rows
firsts_within rows firsts is x f = subst (λ y. Contains rows y) f.2 (first_is_in _ rows _ (is.only f.0 x f.1))

fewer_in : (a rows firsts b : List Row) → IsFirstOf rows firsts → Within ((a ++ firsts) ++ b) ((a ++ rows) ++ b)
fewer_in a rows firsts b is = within_both (a ++ firsts) (a ++ rows) b b (within_both a a firsts rows (itself a) (firsts_within rows firsts is)) (itself b)

first_inside : (k : Key) (a rows firsts b : List Row) → IsFirstOf rows firsts → first_at k ((a ++ firsts) ++ b) ≡ first_at k ((a ++ rows) ++ b)
first_inside k a rows firsts b is =
    first_at-append k (a ++ firsts) b
    ∙ ap (λ o. lesser o (first_at k b)) (first_at-append k a firsts ∙ ap (lesser (first_at k a)) (first_at-firsts rows firsts is k) ∙ sym (first_at-append k a rows))
    ∙ sym (first_at-append k (a ++ rows) b)

thinned : (a rows firsts b : List Row) (h : History) → IsFirstOf rows firsts → AgreesOn ((a ++ rows) ++ b) h → AgreesOn ((a ++ firsts) ++ b) h
thinned a rows firsts b h of is = record {
  firsts = λ k. first_inside k a rows firsts b of ∙ is.firsts k;
  one = λ x y hx hy e. is.one x y (fewer_in a rows firsts b of x hx) (fewer_in a rows firsts b of y hy) e;
  below = λ x hx. is.below x (fewer_in a rows firsts b of x hx);
}

pub number_in : (n : ℕ) (spans : List Span) (x : Row) → Contains (batch_rows n spans) x → x.place.number ≡ n
number_in n spans x h = ap (λ r. r.place.number) (sym h.2) ∙ number_of n 0 spans h.0 x h.1

position_in : (n : ℕ) (spans : List Span) (x : Row) (h : Contains (batch_rows n spans) x) → x.place.position ≡ 0 + h.0
position_in n spans x h = ap (λ r. r.place.position) (sym h.2) ∙ position_of n 0 spans h.0 x h.1

one_in_batch : (n : ℕ) (spans : List Span) (x y : Row) → Contains (batch_rows n spans) x → Contains (batch_rows n spans) y → x.place ≡ y.place → x ≡ y
one_in_batch n spans x y hx hy e =
    let i : hx.0 ≡ hy.0 = omega (arith, position_in n spans x hx, position_in n spans y hy, ap (λ p. p.position) e) in
    sym hx.2 ∙ ap (λ k. slice_index_or (batch_rows n spans) k x) i ∙ any_default (batch_rows n spans) hy.0 x y hy.1 ∙ hy.2
  where
    any_default : (xs : List Row) (i : ℕ) (d d' : Row) → i < length xs → slice_index_or xs i d ≡ slice_index_or xs i d'
    any_default [] i d d' l = absurd (omega arith)
    any_default (z ∷ zs) zero d d' l = refl
    any_default (z ∷ zs) (suc i) d d' l = any_default zs i d d' (omega arith)

grown : (rows : List Row) (h : History) (spans : List Span) → AgreesOn rows h → AgreesOn (rows ++ batch_rows (count_of h) spans) (pushed h spans)
grown rows h spans is = record {
  firsts = λ k. first_at-append k rows new ∙ ap (λ o. lesser o (first_at k new)) (is.firsts k) ∙ sym (first_at-append k (history_rows h) new) ∙ ap (first_at k) (sym (grows h spans));
  one = λ x y hx hy e. both x y e (Contains-append_cases rows new x hx) (Contains-append_cases rows new y hy);
  below = λ x hx. low x (Contains-append_cases rows new x hx);
}
  where
    new : List Row
    new = batch_rows (count_of h) spans

    low : (x : Row) → Contains rows x ⊎ Contains new x → x.place.number < count_of (pushed h spans)
    low x (inl l) = omega (arith, is.below x l, count_pushed h spans)
    low x (inr r) = omega (arith, number_in (count_of h) spans x r, count_pushed h spans)

    apart : (x y : Row) → Contains rows x → Contains new y → x.place ≡ y.place → ⊥
    apart x y hx hy e = omega (arith, is.below x hx, number_in (count_of h) spans y hy, ap (λ p. p.number) e)

    both : (x y : Row) → x.place ≡ y.place → Contains rows x ⊎ Contains new x → Contains rows y ⊎ Contains new y → x ≡ y
    both x y e (inl hx) (inl hy) = is.one x y hx hy e
    both x y e (inl hx) (inr hy) = absurd (apart x y hx hy e)
    both x y e (inr hx) (inl hy) = absurd (apart y x hy hx (sym e))
    both x y e (inr hx) (inr hy) = one_in_batch (count_of h) spans x y hx hy e

-- ---- each event

after_pushed : (spans : List Span) (moment : ℕ) (m : Machine) → Agrees m → AgreesOn (state_rows (after_push (count_of m.history) spans moment m.state)) (pushed m.history spans)
after_pushed spans moment m is =
    subst (λ rows. AgreesOn rows (pushed m.history spans)) (sym same) (grown (state_rows m.state) m.history spans is)
  where
    new : List Row
    new = batch_rows (count_of m.history) spans

    parts : List Row
    parts = block_rows m.state.blocks ++ flush_rows m.state.flush ++ m.state.head

    same : state_rows (after_push (count_of m.history) spans moment m.state) ≡ state_rows m.state ++ new
    same =
        ap (λ z. parts ++ z)
        (map_append (λ (e : LiveRow). e.row) m.state.live (arrived moment new) ∙ ap (λ z. live_rows m.state.live ++ z) (live_of_arrived moment new))
        ∙ sym (append_assoc parts (live_rows m.state.live) new)

-- a live row goes or stays
goes_or_stays : (goes : LiveRow → Bool) (live : List LiveRow) (x : Row) → Contains (live_rows live) x →
    Contains (live_rows (filter goes live)) x ⊎ Contains (live_rows (filter (λ e. not (goes e)) live)) x
goes_or_stays goes [] x h = inl h
goes_or_stays goes (e ∷ es) x h = at_head (cons_cases x e.row (live_rows es) h) (λ t. goes_or_stays goes es x t)
  where
    at_head : (e.row ≡ x) ⊎ Contains (live_rows es) x →
        (Contains (live_rows es) x → Contains (live_rows (filter goes es)) x ⊎ Contains (live_rows (filter (λ e. not (goes e)) es)) x) →
        Contains (live_rows (filter goes (e ∷ es))) x ⊎ Contains (live_rows (filter (λ e. not (goes e)) (e ∷ es))) x
    at_head (inl own) ih =
        elim (goes e) as (λ t. Contains (live_rows (if t then e ∷ filter goes es else filter goes es)) x ⊎ Contains (live_rows (if not t then e ∷ filter (λ e. not (goes e)) es else filter (λ e. not (goes e)) es)) x) [
          | true ↦ inl (subst (λ y. Contains (e.row ∷ live_rows (filter goes es)) y) own (in_head e.row _))
          | false ↦ inr (subst (λ y. Contains (e.row ∷ live_rows (filter (λ e. not (goes e)) es)) y) own (in_head e.row _))
        ]
    at_head (inr rest) ih =
        elim (goes e) as (λ t. Contains (live_rows (if t then e ∷ filter goes es else filter goes es)) x ⊎ Contains (live_rows (if not t then e ∷ filter (λ e. not (goes e)) es else filter (λ e. not (goes e)) es)) x) [
          | true ↦ elim (ih rest) as (λ _. Contains (e.row ∷ live_rows (filter goes es)) x ⊎ Contains (live_rows (filter (λ e. not (goes e)) es)) x) [ inl l ↦ inl (in_tail x e.row _ l) | inr r ↦ inr r ]
          | false ↦ elim (ih rest) as (λ _. Contains (live_rows (filter goes es)) x ⊎ Contains (e.row ∷ live_rows (filter (λ e. not (goes e)) es)) x) [ inl l ↦ inl l | inr r ↦ inr (in_tail x e.row _ r) ]
        ]

pub was_live : (p : LiveRow → Bool) (live : List LiveRow) (x : Row) → Contains (live_rows (filter p live)) x → Contains (live_rows live) x
was_live p [] x h = h
was_live p (e ∷ es) x h = at_head (p e) h (λ t. was_live p es x t)
  where
    at_head : (t : Bool) → Contains (live_rows (if t then e ∷ filter p es else filter p es)) x → (Contains (live_rows (filter p es)) x → Contains (live_rows es) x) → Contains (live_rows (e ∷ es)) x
    at_head true h ih = elim (cons_cases x e.row (live_rows (filter p es)) h) as (λ _. Contains (e.row ∷ live_rows es) x) [
      | inl own ↦ subst (λ y. Contains (e.row ∷ live_rows es) y) own (in_head e.row _)
      | inr rest ↦ in_tail x e.row _ (ih rest)
    ]
    at_head false h ih = in_tail x e.row _ (ih h)

after_cut_off : (goes : LiveRow → Bool) (moved : List Row) (m : Machine) → AreMoved goes m.state.live moved → Agrees m → Agrees (with_state (after_cut goes moved m.state) m)
after_cut_off goes moved m are is = reordered (state_rows m.state) (state_rows (after_cut goes moved m.state)) m.history (there, back) is
  where
    p : List Row
    p = block_rows m.state.blocks ++ flush_rows m.state.flush

    h : List Row
    h = m.state.head

    live : List Row
    live = live_rows m.state.live

    stays : List Row
    stays = live_rows (filter (λ e. not (goes e)) m.state.live)

    went : Within moved live
    went x w = was_live goes m.state.live x (Contains-permutation moved (live_rows (filter goes m.state.live)) x (IsPermutation-sym _ _ are.rows) w)

    there : Within ((p ++ h) ++ live) ((p ++ (h ++ moved)) ++ stays)
    there x w = in_append (p ++ h) live x (Contains ((p ++ (h ++ moved)) ++ stays) x) w
        (λ l. Contains-append_left (p ++ (h ++ moved)) stays x (within_both p p h (h ++ moved) (itself p) (λ y i. Contains-append_left h moved y i) x l))
        (λ r. elim (goes_or_stays goes m.state.live x r) as (λ _. Contains ((p ++ (h ++ moved)) ++ stays) x) [
          | inl go ↦ Contains-append_left (p ++ (h ++ moved)) stays x (Contains-append_right p (h ++ moved) x (Contains-append_right h moved x (Contains-permutation (live_rows (filter goes m.state.live)) moved x are.rows go)))
          | inr stay ↦ Contains-append_right (p ++ (h ++ moved)) stays x stay
        ])

    back : Within ((p ++ (h ++ moved)) ++ stays) ((p ++ h) ++ live)
    back x w = in_append (p ++ (h ++ moved)) stays x (Contains ((p ++ h) ++ live) x) w
        (λ l. in_append p (h ++ moved) x (Contains ((p ++ h) ++ live) x) l
        (λ a. Contains-append_left (p ++ h) live x (Contains-append_left p h x a))
        (λ b. in_append h moved x (Contains ((p ++ h) ++ live) x) b
        (λ i. Contains-append_left (p ++ h) live x (Contains-append_right p h x i))
        (λ go. Contains-append_right (p ++ h) live x (went x go))))
        (λ stay. Contains-append_right (p ++ h) live x (was_live (λ e. not (goes e)) m.state.live x stay))

after_begun_flush : (m : Machine) → m.state.flush ≡ None → Agrees m → Agrees (with_state (after_begin_flush m.state) m)
after_begun_flush m none is = subst (λ rows. AgreesOn rows m.history) (sym same) is
  where
    b : List Row
    b = block_rows m.state.blocks

    some : List Row
    some = take most_rows m.state.head

    rest : List Row
    rest = drop most_rows m.state.head

    live : List Row
    live = live_rows m.state.live

    same : ((b ++ some) ++ rest) ++ live ≡ state_rows m.state
    same =
        ap (λ z. z ++ live) (append_assoc b some rest ∙ ap (λ z. b ++ z) (take_drop most_rows m.state.head) ∙ ap (λ z. z ++ m.state.head) (sym (append-nil b)))
        ∙ ap (λ o. ((b ++ flush_rows o) ++ m.state.head) ++ live) (sym none)

block_rows-more : (blocks : List Block) (block : Block) → block_rows (blocks ++ block ∷ []) ≡ block_rows blocks ++ block.rows
block_rows-more blocks block = flat_map-append (λ (b : Block). b.rows) blocks (block ∷ []) ∙ ap (λ z. block_rows blocks ++ z) (append-nil block.rows)

after_committed_flush : (m : Machine) (job : Flush) (size : ℕ) (firsts : List Row) → m.state.flush ≡ Some job → IsFirstOf job.rows firsts → Agrees m →
    Agrees (with_state (after_commit_flush (count_of m.history) job size firsts m.state) m)
after_committed_flush m job size firsts here of is =
    subst (λ rows. AgreesOn rows m.history) (sym same)
    (thinned b job.rows firsts (m.state.head ++ live) m.history of
    (subst (λ rows. AgreesOn rows m.history) (ap (λ o. ((b ++ flush_rows o) ++ m.state.head) ++ live) here ∙ append_assoc (b ++ job.rows) m.state.head live) is))
  where
    b : List Row
    b = block_rows m.state.blocks

    live : List Row
    live = live_rows m.state.live

    same : state_rows (after_commit_flush (count_of m.history) job size firsts m.state) ≡ (b ++ firsts) ++ (m.state.head ++ live)
    same =
        ap (λ z. ((z ++ []) ++ m.state.head) ++ live) (block_rows-more m.state.blocks (record { file = job.file; level = 0; size = size; rows = firsts }))
        ∙ ap (λ z. (z ++ m.state.head) ++ live) (append-nil (b ++ firsts)) ∙ append_assoc (b ++ firsts) m.state.head live

after_dropped_flush : (m : Machine) (job : Flush) → m.state.flush ≡ Some job → Agrees m → Agrees (with_state (after_drop_flush job m.state) m)
after_dropped_flush m job here is = subst (λ rows. AgreesOn rows m.history) (sym same) is
  where
    b : List Row
    b = block_rows m.state.blocks

    live : List Row
    live = live_rows m.state.live

    same : ((b ++ []) ++ (job.rows ++ m.state.head)) ++ live ≡ state_rows m.state
    same =
        ap (λ z. (z ++ (job.rows ++ m.state.head)) ++ live) (append-nil b)
        ∙ ap (λ z. z ++ live) (sym (append_assoc b job.rows m.state.head))
        ∙ ap (λ o. ((b ++ flush_rows o) ++ m.state.head) ++ live) (sym here)

-- ---- a compaction's blocks

in_or_out : (files : List ℕ) (blocks : List Block) → Within (block_rows blocks) (block_rows (outside_files files blocks) ++ block_rows (in_files files blocks))
in_or_out files [] x h = h
in_or_out files (b ∷ bs) x h = by_file (is_among b.file files) (in_append b.rows (block_rows bs) x (Contains b.rows x ⊎ Contains (block_rows bs) x) h (λ l. inl l) (λ r. inr r)) (λ t. in_or_out files bs x t)
  where
    outs : List Block
    outs = outside_files files bs

    ins : List Block
    ins = in_files files bs

    by_file : (t : Bool) → Contains b.rows x ⊎ Contains (block_rows bs) x → (Contains (block_rows bs) x → Contains (block_rows outs ++ block_rows ins) x) →
        Contains (block_rows (if not t then b ∷ outs else outs) ++ block_rows (if t then b ∷ ins else ins)) x
    by_file true (inl l) ih = Contains-append_right (block_rows outs) (b.rows ++ block_rows ins) x (Contains-append_left b.rows (block_rows ins) x l)
    by_file true (inr r) ih = in_append (block_rows outs) (block_rows ins) x (Contains (block_rows outs ++ (b.rows ++ block_rows ins)) x) (ih r)
        (λ o. Contains-append_left (block_rows outs) (b.rows ++ block_rows ins) x o)
        (λ i. Contains-append_right (block_rows outs) (b.rows ++ block_rows ins) x (Contains-append_right b.rows (block_rows ins) x i))
    by_file false (inl l) ih = Contains-append_left (b.rows ++ block_rows outs) (block_rows ins) x (Contains-append_left b.rows (block_rows outs) x l)
    by_file false (inr r) ih = in_append (block_rows outs) (block_rows ins) x (Contains ((b.rows ++ block_rows outs) ++ block_rows ins) x) (ih r)
        (λ o. Contains-append_left (b.rows ++ block_rows outs) (block_rows ins) x (Contains-append_right b.rows (block_rows outs) x o))
        (λ i. Contains-append_right (b.rows ++ block_rows outs) (block_rows ins) x i)

filtered_within : (p : Block → Bool) (blocks : List Block) → Within (block_rows (filter p blocks)) (block_rows blocks)
filtered_within p [] x h = h
filtered_within p (b ∷ bs) x h = by_test (p b) h (λ t. filtered_within p bs x t)
  where
    by_test : (t : Bool) → Contains (block_rows (if t then b ∷ filter p bs else filter p bs)) x → (Contains (block_rows (filter p bs)) x → Contains (block_rows bs) x) → Contains (b.rows ++ block_rows bs) x
    by_test true h ih = in_append b.rows (block_rows (filter p bs)) x (Contains (b.rows ++ block_rows bs) x) h (λ l. Contains-append_left b.rows (block_rows bs) x l) (λ r. Contains-append_right b.rows (block_rows bs) x (ih r))
    by_test false h ih = Contains-append_right b.rows (block_rows bs) x (ih h)

after_committed_compact : (m : Machine) (job : Compaction) (size : ℕ) (firsts : List Row) → IsFirstOf (block_rows (in_files (job_files job m.state) m.state.blocks)) firsts → Agrees m →
    Agrees (with_state (after_commit_compact job size firsts m.state) m)
after_committed_compact m job size firsts of is =
    subst (λ rows. AgreesOn rows m.history) (sym same)
    (thinned outs ins firsts rest m.history of
    (reordered (state_rows m.state) ((outs ++ ins) ++ rest) m.history (there, back) is))
  where
    files : List ℕ
    files = job_files job m.state

    outs : List Row
    outs = block_rows (outside_files files m.state.blocks)

    ins : List Row
    ins = block_rows (in_files files m.state.blocks)

    f : List Row
    f = flush_rows m.state.flush

    live : List Row
    live = live_rows m.state.live

    rest : List Row
    rest = f ++ (m.state.head ++ live)

    moved : (b : List Row) → ((b ++ f) ++ m.state.head) ++ live ≡ b ++ rest
    moved b = append_assoc (b ++ f) m.state.head live ∙ append_assoc b f (m.state.head ++ live)

    back_in : Within (outs ++ ins) (block_rows m.state.blocks)
    back_in x h = in_append outs ins x (Contains (block_rows m.state.blocks) x) h
        (λ o. filtered_within (λ b. not (is_among b.file files)) m.state.blocks x o) (λ i. filtered_within (λ b. is_among b.file files) m.state.blocks x i)

    there : Within (state_rows m.state) ((outs ++ ins) ++ rest)
    there x h = within_both (block_rows m.state.blocks) (outs ++ ins) rest rest (in_or_out files m.state.blocks) (itself rest) x (subst (λ z. Contains z x) (moved (block_rows m.state.blocks)) h)

    back : Within ((outs ++ ins) ++ rest) (state_rows m.state)
    back x h = subst (λ z. Contains z x) (sym (moved (block_rows m.state.blocks))) (within_both (outs ++ ins) (block_rows m.state.blocks) rest rest back_in (itself rest) x h)

    same : state_rows (after_commit_compact job size firsts m.state) ≡ (outs ++ firsts) ++ rest
    same =
        ap (λ z. ((z ++ f) ++ m.state.head) ++ live) (block_rows-more (outside_files files m.state.blocks) (record { file = job.file; level = job.level; size = size; rows = firsts }))
        ∙ moved (outs ++ firsts)

-- ---- a step

happens_keeps : (m m' : Machine) (e : Event) (r : Reply) → Agrees m → early m e ≡ None → Happens m e r m' → Agrees m'
happens_keeps m m' (Push spans moment) r is _ d = subst Agrees (sym d.1) (after_pushed spans moment m is)
happens_keeps m m' (Cut moment) r is _ d = subst Agrees (sym d.3) (after_cut_off _ d.0 m d.1 is)
happens_keeps m m' CutAll r is _ d = subst Agrees (sym d.3) (after_cut_off _ d.0 m d.1 is)
happens_keeps m m' Held r is _ d = subst Agrees (sym d.1) is
happens_keeps m m' BeginFlush r is none d =
    subst Agrees (sym d.1) (after_begun_flush m (idle_flush m.read_only m.state.flush _ none) is)
happens_keeps m m' BeginCompact r is _ d = subst Agrees (sym d.3) is
happens_keeps m m' (WritePiece job file bytes) r is _ d = subst Agrees (sym d.1) is
happens_keeps m m' (CommitFlush number size) r is _ d =
    subst Agrees (sym d.6) (after_committed_flush m d.0 size d.1 d.2 d.4 is)
happens_keeps m m' (CommitCompact number size) r is _ d =
    subst Agrees (sym d.6) (after_committed_compact m d.0 size d.1 d.4 is)
happens_keeps m m' (DropFlush number) r is _ d = subst Agrees (sym d.4) (after_dropped_flush m d.0 d.1 is)
happens_keeps m m' (DropCompact number) r is _ d = subst Agrees (sym d.4) is
happens_keeps m m' Look r is _ d = subst Agrees (sym d.5) is
happens_keeps m m' (ReadPage pin block page) r is _ d = subst Agrees (sym d.2) is
happens_keeps m m' (Done pin) r is _ d = subst Agrees (sym d.2) is
happens_keeps m m' Reclaim r is _ d = subst Agrees (sym d.1) is

pub step_keeps : (before faults : ℕ) (m m' : Machine) (e : Event) (r : Reply) →
    Agrees m → Step before faults m e r m' → Agrees m'
step_keeps before faults m m' e r is step =
    kept_by Agrees before faults m m' e r is is (λ gone _. is) (λ none d. happens_keeps m m' e r is none d) step

-- What a look gives has the first rows of the history.
pub look_is : (m : Machine) (rows : List Row) → Agrees m → IsPermutation (flush_rows m.state.flush ++ m.state.head ++ live_rows m.state.live) rows →
    (k : Key) → first_at k (rows ++ block_rows m.state.blocks) ≡ first_at k (history_rows m.history)
look_is m rows is moved k = (reordered (state_rows m.state) (rows ++ b) m.history (there, back) is).firsts k
  where
    b : List Row
    b = block_rows m.state.blocks

    f : List Row
    f = flush_rows m.state.flush

    h : List Row
    h = m.state.head

    live : List Row
    live = live_rows m.state.live

    together : state_rows m.state ≡ b ++ ((f ++ h) ++ live)
    together = ap (λ z. z ++ live) (append_assoc b f h) ∙ append_assoc b (f ++ h) live

    there : Within (state_rows m.state) (rows ++ b)
    there x w = in_append b ((f ++ h) ++ live) x (Contains (rows ++ b) x) (subst (λ z. Contains z x) together w)
        (λ l. Contains-append_right rows b x l) (λ r. Contains-append_left rows b x (Contains-permutation ((f ++ h) ++ live) rows x moved r))

    back : Within (rows ++ b) (state_rows m.state)
    back x w = subst (λ z. Contains z x) (sym together) (in_append rows b x (Contains (b ++ ((f ++ h) ++ live)) x) w
        (λ l. Contains-append_right b ((f ++ h) ++ live) x (Contains-permutation rows ((f ++ h) ++ live) x (IsPermutation-sym _ _ moved) l)) (λ r. Contains-append_left b ((f ++ h) ++ live) x r))
