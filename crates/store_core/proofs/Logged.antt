-- The rows that wait outside of blocks stay in the log.
use Rattle.std.proofs.Common.{◌≡◌, inl, inr, ℕ, ◌+◌, List, [], ◌∷◌, ◌++◌, length, filter, take, drop, Some, Option, Bool, not, refl, sym, ◌∙◌, ap, subst, arith, append_assoc, length-append}
use Rattle.std.specs.List.{Contains}
use Rattle.std.proofs.lemmas.List.Elements.{Contains-append_left, Contains-append_right, Contains-append_cases}
use Rattle.std.proofs.lemmas.List.Sorted.{Contains-permutation, IsPermutation-sym}
use Rattle.span_types.specs.declared.spans.Span.{Span}
use Rattle.span_types.specs.declared.spans.Row.{Row}
use Rattle.disk_model.specs.Images.{Image, bytes_of, Besides}
use Rattle.head_log.specs.Stands.{SegmentHolds}
use Rattle.block_list.specs.Body.{MeetsRules}
use Rattle.block_list.specs.declared.body.SegmentRef.{SegmentRef}
use Rattle.block_list.specs.declared.body.ListBody.{ListBody}
use Rattle.store_model.specs.History.{History, batch_rows, record_rows, count_of, pushed}
use Rattle.store_model.specs.RowSets.{Within}
use Rattle.store_model.specs.State.{State, LiveRow, Block, Flush, live_rows, flush_rows}
use Rattle.store_model.specs.Choice.{most_rows}
use Rattle.store_model.specs.Cut.{AreMoved}
use Rattle.store_model.specs.After.{arrived, after_push, after_cut, after_begin_flush, after_commit_flush, after_drop_flush}
use Rattle.store_model.specs.Event.{Event, Reply}
use Rattle.store_model.specs.Event.Event.{Push, Cut, CutAll, Held, BeginFlush, BeginCompact, WritePiece, CommitFlush, CommitCompact, DropFlush, DropCompact, Look, ReadPage, Done, Reclaim}
use Rattle.store_model.specs.Step.{Machine, Step, Happens}
use Rattle.store_model.proofs.KeepsFirsts.{take_drop, was_live, live_of_arrived, map_append}
use Rattle.store_model.proofs.Outcomes.{kept_by}
use Rattle.store_images.specs.Log.{LogHolds}
use Rattle.store_images.specs.Stored.{first_number}
use Rattle.store_images.specs.Settled.{Tail, IsSettled}
use Rattle.store_images.proofs.Lists.{not_in_nil}
use Rattle.store_images.proofs.Growing.{count_of-pushed, stored_more}
use Rattle.store_images.proofs.Logs.{log_same, log_with}
use Rattle.store_images.proofs.Keeping.{segment_named, given_out}
use Rattle.store_images.proofs.Storing.{its_rules, front_apart}
use Rattle.store_files.specs.Files.{SameBelow}
use Rattle.store_core.specs.Waiting.{rows_outside, AreLogged}
use Rattle.store_files.proofs.LogLaws.{one_log}

-- ---- rows within others

pub both_within : (xs ys zs : List Row) → Within xs zs → Within ys zs → Within (xs ++ ys) zs
both_within xs ys zs a b x c = elim (Contains-append_cases xs ys x c) [ inl l ↦ a x l | inr r ↦ b x r ]

pub flush_outside : (u : State) → Within (flush_rows u.flush) (rows_outside u)
flush_outside u x c = Contains-append_left (flush_rows u.flush ++ u.head) (live_rows u.live) x (Contains-append_left (flush_rows u.flush) u.head x c)

pub head_outside : (u : State) → Within u.head (rows_outside u)
head_outside u x c = Contains-append_left (flush_rows u.flush ++ u.head) (live_rows u.live) x (Contains-append_right (flush_rows u.flush) u.head x c)

pub live_outside : (u : State) → Within (live_rows u.live) (rows_outside u)
live_outside u x c = Contains-append_right (flush_rows u.flush ++ u.head) (live_rows u.live) x c

whole : (u : State) (rows : List Row) → Within (flush_rows u.flush) rows → Within u.head rows → Within (live_rows u.live) rows → Within (rows_outside u) rows
whole u rows a b c = both_within (flush_rows u.flush ++ u.head) (live_rows u.live) rows (both_within (flush_rows u.flush) u.head rows a b) c

-- ---- a step that adds no entry brings no row

cut_fewer : (goes : LiveRow → Bool) (moved : List Row) (u : State) → AreMoved goes u.live moved → Within (rows_outside (after_cut goes moved u)) (rows_outside u)
cut_fewer goes moved u are =
    whole (after_cut goes moved u) (rows_outside u) (flush_outside u)
    (both_within u.head moved (rows_outside u) (head_outside u)
    (λ x c. live_outside u x (was_live goes u.live x (Contains-permutation moved (live_rows (filter goes u.live)) x (IsPermutation-sym _ _ are.rows) c))))
    (λ x c. live_outside u x (was_live (λ e. not (goes e)) u.live x c))

begun_fewer : (u : State) → Within (rows_outside (after_begin_flush u)) (rows_outside u)
begun_fewer u =
    whole (after_begin_flush u) (rows_outside u)
    (λ x c. head_outside u x (subst (λ rs. Contains rs x) (take_drop most_rows u.head) (Contains-append_left (take most_rows u.head) (drop most_rows u.head) x c)))
    (λ x c. head_outside u x (subst (λ rs. Contains rs x) (take_drop most_rows u.head) (Contains-append_right (take most_rows u.head) (drop most_rows u.head) x c)))
    (live_outside u)

dropped_fewer : (job : Flush) (u : State) → u.flush ≡ Some job → Within (rows_outside (after_drop_flush job u)) (rows_outside u)
dropped_fewer job u here =
    whole (after_drop_flush job u) (rows_outside u) (λ x c. absurd (not_in_nil x c))
    (both_within job.rows u.head (rows_outside u) (λ x c. flush_outside u x (subst (λ (o : Option Flush). Contains (flush_rows o) x) (sym here) c)) (head_outside u))
    (live_outside u)

pub committed_fewer : (count : ℕ) (job : Flush) (size : ℕ) (firsts : List Row) (u : State) → Within (rows_outside (after_commit_flush count job size firsts u)) (rows_outside u)
committed_fewer count job size firsts u =
    whole (after_commit_flush count job size firsts u) (rows_outside u) (λ x c. absurd (not_in_nil x c)) (head_outside u) (live_outside u)

abbrev Fewer : Machine → Machine → Type 0
Fewer m m' = Within (rows_outside m'.state) (rows_outside m.state)

from_state : (m after m' : Machine) → m' ≡ after → Fewer m after → Fewer m m'
from_state m after m' is fewer = subst (Fewer m) (sym is) fewer

grown_not : (h : History) (spans : List Span) → pushed h spans ≡ h → ⊥
grown_not h spans is = let more = count_of-pushed h spans in let same = ap (λ (k : History). count_of k) is in omega (arith, more, same)

happens_fewer : (m m' : Machine) (e : Event) (r : Reply) → m'.history ≡ m.history → Happens m e r m' → Fewer m m'
happens_fewer m m' (Push spans moment) r same d = absurd (grown_not m.history spans (sym (ap (λ (k : Machine). k.history) d.1) ∙ same))
happens_fewer m m' (Cut moment) r same d = from_state m _ m' d.3 (cut_fewer _ d.0 m.state d.1)
happens_fewer m m' CutAll r same d = from_state m _ m' d.3 (cut_fewer _ d.0 m.state d.1)
happens_fewer m m' Held r same d = from_state m _ m' d.1 (λ x c. c)
happens_fewer m m' BeginFlush r same d = from_state m _ m' d.1 (begun_fewer m.state)
happens_fewer m m' BeginCompact r same d = from_state m _ m' d.3 (λ x c. c)
happens_fewer m m' (WritePiece job file bytes) r same d = from_state m _ m' d.1 (λ x c. c)
happens_fewer m m' (CommitFlush number size) r same d = from_state m _ m' d.6 (committed_fewer (count_of m.history) d.0 size d.1 m.state)
happens_fewer m m' (CommitCompact number size) r same d = from_state m _ m' d.6 (λ x c. c)
happens_fewer m m' (DropFlush number) r same d = from_state m _ m' d.4 (dropped_fewer d.0 m.state d.1)
happens_fewer m m' (DropCompact number) r same d = from_state m _ m' d.4 (λ x c. c)
happens_fewer m m' Look r same d = from_state m _ m' d.5 (λ x c. c)
happens_fewer m m' (ReadPage pin block page) r same d = from_state m _ m' d.2 (λ x c. c)
happens_fewer m m' (Done pin) r same d = from_state m _ m' d.2 (λ x c. c)
happens_fewer m m' Reclaim r same d = from_state m _ m' d.1 (λ x c. c)

pub step_fewer : (before faults : ℕ) (m m' : Machine) (e : Event) (r : Reply) → Step before faults m e r m' → m'.history ≡ m.history → Within (rows_outside m'.state) (rows_outside m.state)
step_fewer before faults m m' e r step =
    kept_by (λ (k : Machine). k.history ≡ m.history → Fewer m k) before faults m m' e r (λ same x c. c) (λ same x c. c) (λ gone free same x c. c)
    (λ none d same. happens_fewer m m' e r same d) step

-- ---- the log has them still

pub logged_same : (held later : Image) (list : ListBody) (rows fewer : List Row) → ((x : SegmentRef) → Contains list.segments x → bytes_of later x.file ≡ bytes_of held x.file)
    → Within fewer rows → AreLogged held list rows → AreLogged later list fewer
logged_same held later list rows fewer same within was =
    λ batches holds x c. was batches (log_same later held list.segments (first_number list) batches (λ s inside. sym (same s inside)) holds) x (within x c)

pub logged_below : (held later : Image) (list : ListBody) (rows fewer : List Row) → MeetsRules list → SameBelow list.next_file held later → Within fewer rows → AreLogged held list rows → AreLogged later list fewer
logged_below held later list rows fewer rules same within =
    logged_same held later list rows fewer (λ x inside. same x.file (given_out list x.file rules (segment_named list x inside)).1) within

-- after a step that adds no entry, and changes no file that the list names
pub logged_kept : (held later : Image) (list : ListBody) (before faults : ℕ) (m m' : Machine) (e : Event) (r : Reply) → MeetsRules list → SameBelow list.next_file held later
    → Step before faults m e r m' → m'.history ≡ m.history → AreLogged held list (rows_outside m.state) → AreLogged later list (rows_outside m'.state)
logged_kept held later list before faults m m' e r rules same step history =
    logged_below held later list (rows_outside m.state) (rows_outside m'.state) rules same (step_fewer before faults m m' e r step history)

-- after one that changes memory alone
pub logged_still : (held : Image) (list : ListBody) (before faults : ℕ) (m m' : Machine) (e : Event) (r : Reply) → Step before faults m e r m' → m'.history ≡ m.history
    → AreLogged held list (rows_outside m.state) → AreLogged held list (rows_outside m'.state)
logged_still held list before faults m m' e r step history =
    logged_same held held list (rows_outside m.state) (rows_outside m'.state) (λ x inside. refl) (step_fewer before faults m m' e r step history)

-- ---- a push

pushed_rows : (number : ℕ) (spans : List Span) (moment : ℕ) (u : State) → Within (rows_outside (after_push number spans moment u)) (rows_outside u ++ batch_rows number spans)
pushed_rows number spans moment u =
    whole (after_push number spans moment u) (rows_outside u ++ new) (λ x c. old x (flush_outside u x c)) (λ x c. old x (head_outside u x c))
    (λ x c. elim (Contains-append_cases (live_rows u.live) new x (subst (λ (r : List Row). Contains r x) joined c)) [
      | inl here ↦ old x (live_outside u x here)
      | inr added ↦ Contains-append_right (rows_outside u) new x added
    ])
  where
    new : List Row
    new = batch_rows number spans

    old : Within (rows_outside u) (rows_outside u ++ new)
    old x c = Contains-append_left (rows_outside u) new x c

    joined : live_rows (u.live ++ arrived moment new) ≡ live_rows u.live ++ new
    joined = map_append (λ (e : LiveRow). e.row) u.live (arrived moment new) ∙ ap (λ (z : List Row). live_rows u.live ++ z) (live_of_arrived moment new)

module _ (held : Image) (may_leave : Image → Type 0) (body : ListBody) (blocks : List Block) (tail : Tail) (h : History) (s : IsSettled held may_leave body blocks tail h)
    (later : Image) (spans : List Span) (gate : ℕ) (besides : Besides tail.file held later) (current : SegmentHolds tail.first (s.mine ++ spans ∷ []) gate (bytes_of later tail.file)) where
  abbrev first : ℕ
  first = first_number body

  abbrev last : SegmentRef
  last = record { file = tail.file; first = tail.first }

  abbrev all : List (List Span)
  all = s.before ++ s.mine

  earlier : LogHolds later s.written.front first s.before
  earlier = log_same held later s.written.front first s.before
      (λ x inside. besides x.file (front_apart body s.written.front last (its_rules held may_leave body blocks tail h s) s.written.last x inside)) s.written.earlier

  new_log : LogHolds later body.segments first (all ++ spans ∷ [])
  new_log = subst (λ (b : List (List Span)). LogHolds later body.segments first b) (sym (append_assoc s.before s.mine (spans ∷ [])))
      (subst (λ (l : List SegmentRef). LogHolds later l first (s.before ++ (s.mine ++ spans ∷ []))) (sym s.written.last)
      (log_with later s.written.front first s.before tail.file tail.first (s.mine ++ spans ∷ []) earlier s.written.follows (gate, current)))

  next : count_of h ≡ first + length all
  next = let size = length-append s.before s.mine in omega (arith, size, s.written.follows, s.written.counted, s.counts)

  pub logged_push : (u : State) (moment : ℕ) → AreLogged held body (rows_outside u) → AreLogged later body (rows_outside (after_push (count_of h) spans moment u))
  logged_push u moment was = λ batches holds x c.
      let is : all ++ spans ∷ [] ≡ batches = one_log later body.segments first (all ++ spans ∷ []) batches new_log holds in
      let rows : record_rows first (all ++ spans ∷ []) ≡ record_rows first all ++ batch_rows (first + length all) spans = stored_more [] first all spans in
      subst (λ (b : List (List Span)). Contains (record_rows first b) x) is
      (subst (λ (r : List Row). Contains r x) (sym rows)
      (elim (Contains-append_cases (rows_outside u) (batch_rows (count_of h) spans) x (pushed_rows (count_of h) spans moment u x c)) [
        | inl old ↦ Contains-append_left (record_rows first all) (batch_rows (first + length all) spans) x (was all s.holds.logged x old)
        | inr added ↦ Contains-append_right (record_rows first all) (batch_rows (first + length all) spans) x (subst (λ (n : ℕ). Contains (batch_rows n spans) x) next added)
      ]))
