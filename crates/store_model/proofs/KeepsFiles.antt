-- Each step keeps the uses of files.
use Rattle.std.proofs.Common.{◌≡◌, ℕ, ◌+◌, ◌<◌, ◌≤◌, ◌==◌, List, [], ◌∷◌, ◌++◌, Some, None, Bool, true, false, not, refl, sym, ◌∙◌, ap, subst, arith, filter, if◌then◌else◌, ◌⊎◌, inl, inr, nat_le}
use Rattle.span_types.specs.declared.spans.Row.{Row}
use Rattle.store_model.specs.State.{State, Block, Segment, Flush, Compaction, Pinned, is_among, block_files, segment_files, flush_files, compaction_files, pinned_files, without_pin, free_files}
use Rattle.store_model.specs.Choice.{in_files, outside_files, choice}
use Rattle.store_model.specs.After.{after_begin_flush, after_commit_flush, after_drop_flush, after_begin_compact, after_commit_compact, after_drop_compact, job_files, staying, released, floor_after, with_segment}
use Rattle.store_model.specs.Event.{Event, Reply}
use Rattle.store_model.specs.Event.Event.{Push, Cut, CutAll, Held, BeginFlush, BeginCompact, WritePiece, CommitFlush, CommitCompact, DropFlush, DropCompact, Look, ReadPage, Done, Reclaim}
use Rattle.store_model.specs.Step.{Machine, Step, Happens, early}
use Rattle.store_model.specs.Sound.{times, uses, HasOwnFiles}
use Rattle.store_model.proofs.Numbers.{times-append, map_append, fewer_left, all_left, passes, among, times_one, times_not, times_two, times_pair, below_or_not, pinned_too}
use Rattle.store_model.proofs.Chosen.{split, choice_part, part_within}
use Rattle.store_model.proofs.Outcomes.{kept_by, idle_flush, idle_compaction}

pub block_files-more : (f : ℕ) (bs : List Block) (b : Block) → times f (block_files (bs ++ b ∷ [])) ≡ times f (block_files bs) + times f (b.file ∷ [])
block_files-more f bs b = ap (times f) (map_append (λ (b : Block). b.file) bs (b ∷ [])) ∙ times-append f (block_files bs) (b.file ∷ [])

segment_files-more : (f : ℕ) (bs : List Segment) (b : Segment) → times f (segment_files (bs ++ b ∷ [])) ≡ times f (segment_files bs) + times f (b.file ∷ [])
segment_files-more f bs b = ap (times f) (map_append (λ (b : Segment). b.file) bs (b ∷ [])) ∙ times-append f (segment_files bs) (b.file ∷ [])

-- segments that a floor keeps and releases
parted : (f floor : ℕ) (segments : List Segment) → times f (segment_files (staying floor segments)) + times f (released floor segments) ≡ times f (segment_files segments)
parted f floor [] = refl
parted f floor (a ∷ []) = omega arith
parted f floor (a ∷ b ∷ rest) = by_test (nat_le b.first floor) (parted f floor (b ∷ rest))
  where
    by_test : (t : Bool) → times f (segment_files (staying floor (b ∷ rest))) + times f (released floor (b ∷ rest)) ≡ times f (segment_files (b ∷ rest)) →
        times f (segment_files (if t then staying floor (b ∷ rest) else a ∷ staying floor (b ∷ rest))) + times f (if t then a.file ∷ released floor (b ∷ rest) else released floor (b ∷ rest)) ≡ times f (segment_files (a ∷ b ∷ rest))
    by_test true ih = omega (arith, ih)
    by_test false ih = omega (arith, ih)

-- pins
pub pinned-more : (f : ℕ) (pins : List Pinned) (pin : Pinned) → times f (pinned_files (pins ++ pin ∷ [])) ≡ times f (pinned_files pins) + times f (block_files pin.blocks)
pinned-more f [] pin = times-append f (block_files pin.blocks) [] ∙ swapped (times f (block_files pin.blocks))
  where
    swapped : (n : ℕ) → n + 0 ≡ 0 + n
    swapped n = omega arith
pinned-more f (p ∷ pins) pin = omega (arith, times-append f (block_files p.blocks) (pinned_files (pins ++ pin ∷ [])), times-append f (block_files p.blocks) (pinned_files pins), pinned-more f pins pin)

pub pinned_fewer : (f n : ℕ) (pins : List Pinned) → times f (pinned_files (without_pin n pins)) ≤ times f (pinned_files pins)
pinned_fewer f n [] = omega arith
pinned_fewer f n (p ∷ pins) = by_test (p.number == n) (pinned_fewer f n pins)
  where
    by_test : (t : Bool) → times f (pinned_files (without_pin n pins)) ≤ times f (pinned_files pins) →
        times f (pinned_files (if not t then p ∷ without_pin n pins else without_pin n pins)) ≤ times f (pinned_files (p ∷ pins))
    by_test true h = omega (arith, h, times-append f (block_files p.blocks) (pinned_files pins))
    by_test false h = omega (arith, h, times-append f (block_files p.blocks) (pinned_files pins), times-append f (block_files p.blocks) (pinned_files (without_pin n pins)))

-- ---- each event

-- no use is added, the next file is the same, and what is pinned was pinned or has a use
fewer : (u u' : State) → u'.next_file ≡ u.next_file → ((f : ℕ) → uses f u' ≤ uses f u) →
    ((f : ℕ) → 1 ≤ times f (pinned_files u'.pins) → 1 ≤ times f (block_files u'.blocks) + times f u'.loose) → HasOwnFiles u → HasOwnFiles u'
fewer u u' same less pinned is = record {
  slots = λ f h. omega (arith, is.slots f h, less f);
  first = omega (arith, is.first, same);
  new = λ f h. omega (arith, is.new f (omega (arith, h, same)), less f);
  once = λ f. omega (arith, is.once f, less f);
  pinned = pinned;
}

begun_flush : (u : State) → u.flush ≡ None → HasOwnFiles u → HasOwnFiles (after_begin_flush u)
begun_flush u none is = record {
  slots = λ f h. omega (arith, is.slots f h, is.first, times_not f u.next_file (inr (omega (arith, h, is.first))), times_not f (u.next_file + 1) (inr (omega (arith, h, is.first))));
  first = omega (arith, is.first);
  new = λ f h. omega (arith, is.new f (omega (arith, h)), times_not f u.next_file (inl (omega (arith, h))), times_not f (u.next_file + 1) (inl (omega (arith, h))));
  once = λ f. by_order f (below_or_not f u.next_file);
  pinned = is.pinned;
}
  where
    nothing : (f : ℕ) → times f (flush_files u.flush) ≡ 0
    nothing f = ap (λ o. times f (flush_files o)) none

    by_order : (f : ℕ) → (f < u.next_file) ⊎ (u.next_file ≤ f) → uses f (after_begin_flush u) ≤ 1
    by_order f (inl h) = omega (arith, is.once f, times_not f u.next_file (inr h), times_not f (u.next_file + 1) (inr (omega (arith, h))))
    by_order f (inr h) = omega (arith, is.new f h, times_two f u.next_file)

begun_compact : (u : State) (pin : ℕ) → u.compaction ≡ None → HasOwnFiles u → HasOwnFiles (after_begin_compact pin u)
begun_compact u pin none is = record {
  slots = λ f h. omega (arith, is.slots f h, is.first, times_not f u.next_file (inr (omega (arith, h, is.first))));
  first = omega (arith, is.first);
  new = λ f h. omega (arith, is.new f (omega (arith, h)), times_not f u.next_file (inl (omega (arith, h))));
  once = λ f. by_order f (below_or_not f u.next_file);
  pinned = λ f h. pinned_too (times f (pinned_files u.pins)) (times f (block_files u.blocks) + times f u.loose) (times f (block_files (choice u.blocks))) (is.pinned f)
      (omega (arith, part_within f (choice u.blocks) u.blocks (choice_part u.blocks))) (omega (arith, h, pinned-more f u.pins (record { number = pin; blocks = choice u.blocks })));
}
  where
    by_order : (f : ℕ) → (f < u.next_file) ⊎ (u.next_file ≤ f) → uses f (after_begin_compact pin u) ≤ 1
    by_order f (inl h) = omega (arith, is.once f, times_not f u.next_file (inr h))
    by_order f (inr h) = omega (arith, is.new f h, times_one f u.next_file)

committed_flush : (u : State) (count : ℕ) (job : Flush) (size : ℕ) (firsts : List Row) → u.flush ≡ Some job → HasOwnFiles u → HasOwnFiles (after_commit_flush count job size firsts u)
committed_flush u count job size firsts here is =
    fewer u u' refl less (λ f h. omega (arith, is.pinned f h, more f, block_files-more f u.blocks block, loose_more f)) is
  where
    u' : State
    u' = after_commit_flush count job size firsts u

    block : Block
    block = record { file = job.file; level = 0; size = size; rows = firsts }

    segments : List Segment
    segments = with_segment count job u

    floor : ℕ
    floor = floor_after count u

    loose_more : (f : ℕ) → times f u'.loose ≡ times f u.loose + times f (released floor segments)
    loose_more f = times-append f u.loose (released floor segments)

    more : (f : ℕ) → times f (flush_files u.flush) ≡ times f (job.file ∷ []) + times f (job.segment ∷ [])
    more f = ap (λ o. times f (flush_files o)) here ∙ times_pair f job.file job.segment

    less : (f : ℕ) → uses f u' ≤ uses f u
    less f = omega (arith, more f, block_files-more f u.blocks block, loose_more f, parted f floor segments, segment_files-more f u.segments (record { file = job.segment; first = count }))

dropped_flush : (u : State) (job : Flush) → u.flush ≡ Some job → HasOwnFiles u → HasOwnFiles (after_drop_flush job u)
dropped_flush u job here is =
    fewer u (after_drop_flush job u) refl (λ f. omega (arith, more f, loose_more f)) (λ f h. omega (arith, is.pinned f h, loose_more f)) is
  where
    loose_more : (f : ℕ) → times f (u.loose ++ job.file ∷ job.segment ∷ []) ≡ times f u.loose + times f (job.file ∷ job.segment ∷ [])
    loose_more f = times-append f u.loose (job.file ∷ job.segment ∷ [])

    more : (f : ℕ) → times f (flush_files u.flush) ≡ times f (job.file ∷ job.segment ∷ [])
    more f = ap (λ o. times f (flush_files o)) here

committed_compact : (u : State) (job : Compaction) (size : ℕ) (firsts : List Row) → u.compaction ≡ Some job → HasOwnFiles u → HasOwnFiles (after_commit_compact job size firsts u)
committed_compact u job size firsts here is =
    fewer u u' refl (λ f. omega (arith, more f, loose_more f, blocks_more f, split f files u.blocks))
    (λ f h. omega (arith, is.pinned f, h, pinned_fewer f job.pin u.pins, loose_more f, blocks_more f, split f files u.blocks)) is
  where
    u' : State
    u' = after_commit_compact job size firsts u

    files : List ℕ
    files = job_files job u

    blocks_more : (f : ℕ) → times f (block_files u'.blocks) ≡ times f (block_files (outside_files files u.blocks)) + times f (job.file ∷ [])
    blocks_more f = block_files-more f (outside_files files u.blocks) (record { file = job.file; level = job.level; size = size; rows = firsts })

    loose_more : (f : ℕ) → times f u'.loose ≡ times f u.loose + times f (block_files (in_files files u.blocks))
    loose_more f = times-append f u.loose (block_files (in_files files u.blocks))

    more : (f : ℕ) → times f (compaction_files u.compaction) ≡ times f (job.file ∷ [])
    more f = ap (λ o. times f (compaction_files o)) here

dropped_compact : (u : State) (job : Compaction) → u.compaction ≡ Some job → HasOwnFiles u → HasOwnFiles (after_drop_compact job u)
dropped_compact u job here is =
    fewer u (after_drop_compact job u) refl (λ f. omega (arith, more f, loose_more f))
    (λ f h. omega (arith, is.pinned f, h, pinned_fewer f job.pin u.pins, loose_more f)) is
  where
    loose_more : (f : ℕ) → times f (u.loose ++ job.file ∷ []) ≡ times f u.loose + times f (job.file ∷ [])
    loose_more f = times-append f u.loose (job.file ∷ [])

    more : (f : ℕ) → times f (compaction_files u.compaction) ≡ times f (job.file ∷ [])
    more f = ap (λ o. times f (compaction_files o)) here

looked : (u : State) (pin : ℕ) → HasOwnFiles u → HasOwnFiles (record u { pins = u.pins ++ record { number = pin; blocks = u.blocks } ∷ [] })
looked u pin is = record {
  slots = is.slots;
  first = is.first;
  new = is.new;
  once = is.once;
  pinned = λ f h. pinned_too (times f (pinned_files u.pins)) (times f (block_files u.blocks) + times f u.loose) (times f (block_files u.blocks)) (is.pinned f)
      (omega arith) (omega (arith, h, pinned-more f u.pins (record { number = pin; blocks = u.blocks })));
}

-- loose files go that no pin names
gone : (u : State) (stays : ℕ → Bool) → ((f : ℕ) → is_among f (pinned_files u.pins) ≡ true → stays f ≡ true) → HasOwnFiles u → HasOwnFiles (record u { loose = filter stays u.loose })
gone u stays kept is =
    fewer u (record u { loose = filter stays u.loose }) refl (λ f. omega (arith, fewer_left f stays u.loose))
    (λ f h. omega (arith, is.pinned f h, all_left f stays u.loose (kept f (among f (pinned_files u.pins) h)))) is

kept_apart : (f : ℕ) (gone : List ℕ) (u : State) → ((file : ℕ) → is_among file gone ≡ true → is_among file (free_files u) ≡ true) → is_among f (pinned_files u.pins) ≡ true → not (is_among f gone) ≡ true
kept_apart f gone u all pinned = elim (is_among f gone) as (λ t. is_among f gone ≡ t → not t ≡ true) [
  | true ↦ λ e. sym (ap not pinned) ∙ passes f (λ file. not (is_among file (pinned_files u.pins))) u.loose (all f e)
  | false ↦ λ e. refl
] refl

-- ---- a step

abbrev Files : Machine → Type 0
Files m = HasOwnFiles m.state

happens_keeps : (m m' : Machine) (e : Event) (r : Reply) → Files m → early m e ≡ None → Happens m e r m' → Files m'
happens_keeps m m' (Push spans moment) r is _ d = subst Files (sym d.1) (record { slots = is.slots; first = is.first; new = is.new; once = is.once; pinned = is.pinned })
happens_keeps m m' (Cut moment) r is _ d = subst Files (sym d.3) (record { slots = is.slots; first = is.first; new = is.new; once = is.once; pinned = is.pinned })
happens_keeps m m' CutAll r is _ d = subst Files (sym d.3) (record { slots = is.slots; first = is.first; new = is.new; once = is.once; pinned = is.pinned })
happens_keeps m m' Held r is _ d = subst Files (sym d.1) is
happens_keeps m m' BeginFlush r is none d =
    subst Files (sym d.1) (begun_flush m.state (idle_flush m.read_only m.state.flush _ none) is)
happens_keeps m m' BeginCompact r is none d =
    subst Files (sym d.3) (begun_compact m.state d.0 (idle_compaction m.read_only m.state.compaction _ none) is)
happens_keeps m m' (WritePiece job file bytes) r is _ d = subst Files (sym d.1) is
happens_keeps m m' (CommitFlush number size) r is _ d =
    subst Files (sym d.6) (committed_flush m.state _ d.0 size d.1 d.2 is)
happens_keeps m m' (CommitCompact number size) r is _ d =
    subst Files (sym d.6) (committed_compact m.state d.0 size d.1 d.2 is)
happens_keeps m m' (DropFlush number) r is _ d = subst Files (sym d.4) (dropped_flush m.state d.0 d.1 is)
happens_keeps m m' (DropCompact number) r is _ d = subst Files (sym d.4) (dropped_compact m.state d.0 d.1 is)
happens_keeps m m' Look r is _ d = subst Files (sym d.5) (looked m.state d.0 is)
happens_keeps m m' (ReadPage pin block page) r is _ d = subst Files (sym d.2) is
happens_keeps m m' (Done pin) r is _ d =
    subst Files (sym d.2) (record { slots = is.slots; first = is.first; new = is.new; once = is.once; pinned = λ f w. is.pinned f (omega (arith, w, pinned_fewer f pin m.state.pins)) })
happens_keeps m m' Reclaim r is _ d =
    subst Files (sym d.1) (gone m.state (λ file. is_among file (pinned_files m.state.pins)) (λ f p. p) is)

pub step_keeps : (before faults : ℕ) (m m' : Machine) (e : Event) (r : Reply) → Files m → Step before faults m e r m' → Files m'
step_keeps before faults m m' e r is step = kept_by Files before faults m m' e r is is
    (λ files free. gone m.state (λ file. not (is_among file files)) (λ file p. kept_apart file files m.state free p) is)
    (λ none d. happens_keeps m m' e r is none d) step
