-- Each step keeps a state sound, and what is emptied is out of use.
use Rattle.std.proofs.Common.{zero, suc, ◌≡◌, ℕ, ◌+◌, ◌≤◌, [], ◌∷◌, Bool, true, false, not, refl, arith}
use Rattle.store_model.specs.State.{State, is_among, segment_files, block_files, flush_files, compaction_files, open_files, pinned_files, free_files}
use Rattle.store_model.specs.Event.{Event, Reply}
use Rattle.store_model.specs.Event.Event.{BeginFlush, BeginCompact, Reclaim}
use Rattle.store_model.specs.Step.{Machine, Step}
use Rattle.store_model.specs.Sound.{times, HasOwnFiles, StateIsSound, IsOutOfUse, emptied}
use Rattle.store_model.proofs.Numbers.{times-append, named, not_among, passes, fewer_left, one_number, two_numbers}
use Rattle.store_model.proofs.KeepsFiles as files
use Rattle.store_model.proofs.KeepsNumbers as numbers
use Rattle.store_model.proofs.KeepsTypes as types
use Rattle.store_model.proofs.KeepsJoining as joining

pub step_keeps : (before faults : ℕ) (m m' : Machine) (e : Event) (r : Reply) → StateIsSound m.state → Step before faults m e r m' → StateIsSound m'.state
step_keeps before faults m m' e r is step = record {
  files = files.step_keeps before faults m m' e r is.files step;
  numbers = numbers.step_keeps before faults m m' e r is.numbers step;
  fits = types.step_keeps before faults m m' e r is.fits step;
  joining = joining.step_keeps before faults m m' e r is.files is.joining step;
}

-- a file without another use than a loose one, that no pin names, is out of use
no_use : (f : ℕ) (u : State) → times f (segment_files u.segments) + times f (block_files u.blocks) + times f (flush_files u.flush) + times f (compaction_files u.compaction) ≡ 0 →
    is_among f (pinned_files u.pins) ≡ false → IsOutOfUse f u
no_use f u none unpinned = record {
  pins = unpinned;
  segments = not_among f (segment_files u.segments) (omega (arith, none));
  blocks = not_among f (block_files u.blocks) (omega (arith, none));
  jobs = not_among f (open_files u) (omega (arith, none, times-append f (flush_files u.flush) (compaction_files u.compaction)));
}

-- a file from the next one on was never given out
never_used : (f : ℕ) (u : State) → HasOwnFiles u → u.next_file ≤ f → IsOutOfUse f u
never_used f u is l = no_use f u (omega (arith, is.new f l)) (not_among f (pinned_files u.pins) (none (times f (pinned_files u.pins)) refl))
  where
    none : (n : ℕ) → times f (pinned_files u.pins) ≡ n → times f (pinned_files u.pins) ≡ 0
    none zero e = e
    none (suc n) e = absurd (omega (arith, is.pinned f (omega (arith, e)), is.new f l))

-- a loose file has no other use
free_is : (f : ℕ) (u : State) → HasOwnFiles u → is_among f (free_files u) ≡ true → IsOutOfUse f u
free_is f u is h = no_use f u
    (omega (arith, is.once f, named f (free_files u) h, fewer_left f (λ file. not (is_among file (pinned_files u.pins))) u.loose))
    (unpinned (is_among f (pinned_files u.pins)) (passes f (λ file. not (is_among file (pinned_files u.pins))) u.loose h))
  where
    unpinned : (t : Bool) → not t ≡ true → t ≡ false
    unpinned true h = cc
    unpinned false h = refl

pub out_of_use : (u : State) (e : Event) (f : ℕ) → StateIsSound u → is_among f (emptied e u) ≡ true → IsOutOfUse f u
out_of_use u BeginFlush f is h = never_used f u is.files (two_numbers f u.next_file (named f (u.next_file ∷ (u.next_file + 1) ∷ []) h)).0
out_of_use u BeginCompact f is h = never_used f u is.files (let one = one_number f u.next_file (named f (u.next_file ∷ []) h) in omega (arith, one))
out_of_use u Reclaim f is h = free_is f u is.files h
out_of_use u _ f is h = cc
