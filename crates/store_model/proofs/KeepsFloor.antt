-- Each step keeps the rows that wait above the floor.
use Rattle.std.proofs.Common.{◌≡◌, ℕ, ◌≤◌, zero, suc, List, [], ◌∷◌, ◌++◌, None, Some, Bool, not, sym, ◌∙◌, ap, subst, arith, filter, take, drop, inl, inr}
use Rattle.std.specs.List.{Contains}
use Rattle.std.proofs.lemmas.List.Elements.{Contains-append_left, Contains-append_right, Contains-append_cases}
use Rattle.std.proofs.lemmas.List.Sorted.{Contains-permutation, IsPermutation-sym}
use Rattle.span_types.specs.declared.spans.Span.{Span}
use Rattle.span_types.specs.declared.spans.Row.{Row}
use Rattle.store_model.specs.History.{History, batch_rows, count_of, pushed}
use Rattle.store_model.specs.State.{State, LiveRow, Flush, live_rows, flush_rows}
use Rattle.store_model.specs.Choice.{most_rows}
use Rattle.store_model.specs.Cut.{AreMoved}
use Rattle.store_model.specs.After.{arrived, after_push, after_cut, after_begin_flush, after_commit_flush, after_drop_flush, floor_after, least}
use Rattle.store_model.specs.Event.{Event, Reply}
use Rattle.store_model.specs.Event.Event.{Push, Cut, CutAll, Held, BeginFlush, BeginCompact, WritePiece, CommitFlush, CommitCompact, DropFlush, DropCompact, Look, ReadPage, Done, Reclaim}
use Rattle.store_model.specs.Step.{Machine, Step, Happens, early}
use Rattle.store_model.specs.Told.{IsAboveFloor}
use Rattle.store_model.proofs.HistoryLaws.{count_pushed}
use Rattle.store_model.proofs.KeepsFirsts.{number_in, take_drop, was_live, live_of_arrived, map_append}
use Rattle.store_model.proofs.Outcomes.{kept_by}

-- rows none of which has a number below the floor
abbrev Above : ℕ → List Row → Type 0
Above floor rows = (row : Row) → Contains rows row → floor ≤ row.place.number

both : (floor : ℕ) (xs ys : List Row) → Above floor xs → Above floor ys → Above floor (xs ++ ys)
both floor xs ys a b row h = elim (Contains-append_cases xs ys row h) as (λ _. floor ≤ row.place.number) [ inl l ↦ a row l | inr r ↦ b row r ]

left : (floor : ℕ) (xs ys : List Row) → Above floor (xs ++ ys) → Above floor xs
left floor xs ys a row h = a row (Contains-append_left xs ys row h)

right : (floor : ℕ) (xs ys : List Row) → Above floor (xs ++ ys) → Above floor ys
right floor xs ys a row h = a row (Contains-append_right xs ys row h)

-- the parts of what waits
record Parts (floor : ℕ) (u : State) : Type 0 where
  flush : Above floor (flush_rows u.flush)
  head : Above floor u.head
  live : Above floor (live_rows u.live)

parts : (floor : ℕ) (u : State) → Above floor (flush_rows u.flush ++ u.head ++ live_rows u.live) → Parts floor u
parts floor u a = record {
  flush = left floor (flush_rows u.flush) u.head (left floor (flush_rows u.flush ++ u.head) (live_rows u.live) a);
  head = right floor (flush_rows u.flush) u.head (left floor (flush_rows u.flush ++ u.head) (live_rows u.live) a);
  live = right floor (flush_rows u.flush ++ u.head) (live_rows u.live) a;
}

whole : (floor : ℕ) (u : State) → Parts floor u → Above floor (flush_rows u.flush ++ u.head ++ live_rows u.live)
whole floor u p = both floor (flush_rows u.flush ++ u.head) (live_rows u.live) (both floor (flush_rows u.flush) u.head p.flush p.head) p.live

none_waits : (floor : ℕ) → Above floor []
none_waits floor row h = absurd (omega (arith, h.1))

-- the least number of rows is below each of them, and at most the count
least_below : (count : ℕ) (rows : List Row) (row : Row) → Contains rows row → least count rows ≤ row.place.number
least_below count [] row h = absurd (omega (arith, h.1))
least_below count (r ∷ rs) row (zero, l, e) = omega (arith, ap (λ (x : Row). x.place.number) e)
least_below count (r ∷ rs) row (suc k, l, e) = omega (arith, least_below count rs row (k, omega (arith, l), e))

least_bounded : (count : ℕ) (rows : List Row) → least count rows ≤ count
least_bounded count [] = omega arith
least_bounded count (r ∷ rs) = omega (arith, least_bounded count rs)

count_grows : (h : History) (spans : List Span) → count_of h ≤ count_of (pushed h spans)
count_grows h spans = omega (arith, count_pushed h spans)

pushed_rows : (spans : List Span) (moment : ℕ) (m : Machine) → IsAboveFloor m → Parts m.state.floor (after_push (count_of m.history) spans moment m.state)
pushed_rows spans moment m is = record {
  flush = (parts m.state.floor m.state is.waiting).flush;
  head = (parts m.state.floor m.state is.waiting).head;
  live = subst (Above m.state.floor) (sym joined) (both m.state.floor (live_rows m.state.live) new (parts m.state.floor m.state is.waiting).live
      (λ row h. omega (arith, is.next, number_in (count_of m.history) spans row h)));
}
  where
    new : List Row
    new = batch_rows (count_of m.history) spans

    joined : live_rows (m.state.live ++ arrived moment new) ≡ live_rows m.state.live ++ new
    joined = map_append (λ (e : LiveRow). e.row) m.state.live (arrived moment new) ∙ ap (λ z. live_rows m.state.live ++ z) (live_of_arrived moment new)

cut_rows : (goes : LiveRow → Bool) (moved : List Row) (floor : ℕ) (u : State) → AreMoved goes u.live moved → Parts floor u → Parts floor (after_cut goes moved u)
cut_rows goes moved floor u are p = record {
  flush = p.flush;
  head = both floor u.head moved p.head (λ row h. p.live row (was_live goes u.live row (Contains-permutation moved (live_rows (filter goes u.live)) row (IsPermutation-sym _ _ are.rows) h)));
  live = λ row h. p.live row (was_live (λ e. not (goes e)) u.live row h);
}

begun_rows : (floor : ℕ) (u : State) → Parts floor u → Parts floor (after_begin_flush u)
begun_rows floor u p = record {
  flush = λ row h. p.head row (subst (λ rs. Contains rs row) (take_drop most_rows u.head) (Contains-append_left (take most_rows u.head) (drop most_rows u.head) row h));
  head = λ row h. p.head row (subst (λ rs. Contains rs row) (take_drop most_rows u.head) (Contains-append_right (take most_rows u.head) (drop most_rows u.head) row h));
  live = p.live;
}

committed_rows : (count : ℕ) (job : Flush) (size : ℕ) (firsts : List Row) (u : State) → Parts (floor_after count u) (after_commit_flush count job size firsts u)
committed_rows count job size firsts u = record {
  flush = none_waits (floor_after count u);
  head = λ row h. least_below count (u.head ++ live_rows u.live) row (Contains-append_left u.head (live_rows u.live) row h);
  live = λ row h. least_below count (u.head ++ live_rows u.live) row (Contains-append_right u.head (live_rows u.live) row h);
}

dropped_rows : (job : Flush) (floor : ℕ) (u : State) → u.flush ≡ Some job → Parts floor u → Parts floor (after_drop_flush job u)
dropped_rows job floor u here p = record {
  flush = none_waits floor;
  head = both floor job.rows u.head (subst (λ o. Above floor (flush_rows o)) here p.flush) p.head;
  live = p.live;
}

happens_keeps : (m m' : Machine) (e : Event) (r : Reply) → IsAboveFloor m → early m e ≡ None → Happens m e r m' → IsAboveFloor m'
happens_keeps m m' (Push spans moment) r is _ d = subst IsAboveFloor (sym d.1)
    (record { waiting = whole m.state.floor _ (pushed_rows spans moment m is); next = omega (arith, is.next, count_grows m.history spans) })
happens_keeps m m' (Cut moment) r is _ d = subst IsAboveFloor (sym d.3)
    (record { waiting = whole m.state.floor _ (cut_rows _ d.0 m.state.floor m.state d.1 (parts m.state.floor m.state is.waiting)); next = is.next })
happens_keeps m m' CutAll r is _ d = subst IsAboveFloor (sym d.3)
    (record { waiting = whole m.state.floor _ (cut_rows _ d.0 m.state.floor m.state d.1 (parts m.state.floor m.state is.waiting)); next = is.next })
happens_keeps m m' Held r is _ d = subst IsAboveFloor (sym d.1) is
happens_keeps m m' BeginFlush r is _ d = subst IsAboveFloor (sym d.1)
    (record { waiting = whole m.state.floor _ (begun_rows m.state.floor m.state (parts m.state.floor m.state is.waiting)); next = is.next })
happens_keeps m m' BeginCompact r is _ d = subst IsAboveFloor (sym d.3) (record { waiting = is.waiting; next = is.next })
happens_keeps m m' (WritePiece job file bytes) r is _ d = subst IsAboveFloor (sym d.1) is
happens_keeps m m' (CommitFlush number size) r is _ d = subst IsAboveFloor (sym d.6)
    (record {
      waiting = whole (floor_after (count_of m.history) m.state) _ (committed_rows (count_of m.history) d.0 size d.1 m.state);
      next = least_bounded (count_of m.history) (m.state.head ++ live_rows m.state.live);
    })
happens_keeps m m' (CommitCompact number size) r is _ d = subst IsAboveFloor (sym d.6) (record { waiting = is.waiting; next = is.next })
happens_keeps m m' (DropFlush number) r is _ d = subst IsAboveFloor (sym d.4)
    (record { waiting = whole m.state.floor _ (dropped_rows d.0 m.state.floor m.state d.1 (parts m.state.floor m.state is.waiting)); next = is.next })
happens_keeps m m' (DropCompact number) r is _ d = subst IsAboveFloor (sym d.4) (record { waiting = is.waiting; next = is.next })
happens_keeps m m' Look r is _ d = subst IsAboveFloor (sym d.5) (record { waiting = is.waiting; next = is.next })
happens_keeps m m' (ReadPage pin block page) r is _ d = subst IsAboveFloor (sym d.2) is
happens_keeps m m' (Done pin) r is _ d = subst IsAboveFloor (sym d.2) (record { waiting = is.waiting; next = is.next })
happens_keeps m m' Reclaim r is _ d = subst IsAboveFloor (sym d.1) (record { waiting = is.waiting; next = is.next })

pub step_keeps : (before faults : ℕ) (m m' : Machine) (e : Event) (r : Reply) → IsAboveFloor m → Step before faults m e r m' → IsAboveFloor m'
step_keeps before faults m m' e r is step = kept_by IsAboveFloor before faults m m' e r is
    (record { waiting = is.waiting; next = is.next }) (λ gone free. record { waiting = is.waiting; next = is.next })
    (λ none d. happens_keeps m m' e r is none d) step
