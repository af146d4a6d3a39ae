-- A file that is listed or pinned has its use as a block's or as a loose one, and no other.
use Rattle.std.proofs.Common.{◌≡◌, inl, inr, ℕ, ◌+◌, ◌<◌, ◌≤◌, true, false, not, ap, sym, subst, arith}
use Rattle.std.proofs.lemmas.Bool.{cases_lt}
use Rattle.store_model.specs.State.{State, block_files, segment_files, flush_files, compaction_files, open_files, pinned_files, pinned_blocks, free_files, is_among}
use Rattle.store_model.specs.Sound.{times, StateIsSound}
use Rattle.store_model.specs.Step.{Machine}
use Rattle.store_model.proofs.Numbers.{times-append, named, among as is_named, not_among, fewer_left}
use Rattle.store_core.specs.Cores.{HasState}
use Rattle.store_core.specs.Frames.{IsKept}
use Rattle.store_core.specs.declared.state.CoreState.{CoreState}
use Rattle.store_core.proofs.HeldFiles.{none_left, pinned_within}

module _ (u : State) (sound : StateIsSound u) (file : ℕ) (kept : IsKept file u) where
  -- it is a block's or loose
  its_use : 1 ≤ times file (block_files u.blocks) + times file u.loose
  its_use = elim (cases_lt (times file (pinned_files u.pins)) 1) [
    | inl none ↦ omega (arith, kept, none)
    | inr pinned ↦ sound.files.pinned file pinned
  ]

  pub kept_low : file < u.next_file
  kept_low = elim (cases_lt file u.next_file) [
    | inl below ↦ below
    | inr above ↦ absurd (let none = sound.files.new file above in let used = its_use in omega (arith, used, none))
  ]

  pub kept_high : 2 ≤ file
  kept_high = elim (cases_lt file 2) [
    | inl low ↦ absurd (let none = sound.files.slots file low in let used = its_use in omega (arith, used, none))
    | inr high ↦ high
  ]

  -- it is no segment's
  pub kept_apart : times file (segment_files u.segments) ≡ 0
  kept_apart = let once = sound.files.once file in let used = its_use in omega (arith, used, once)

  -- nor an open job's
  pub kept_no_job : times file (flush_files u.flush) + times file (compaction_files u.compaction) ≡ 0
  kept_no_job = let once = sound.files.once file in let used = its_use in omega (arith, used, once)

  pub kept_closed : is_among file (open_files u) ≡ false
  kept_closed =
      let whole = times-append file (flush_files u.flush) (compaction_files u.compaction) in
      let none = kept_no_job in
      not_among file (open_files u) (omega (arith, whole, none))

  -- it isn't emptied
  pub kept_full : times file (free_files u) ≡ 0
  kept_full = elim (cases_lt (times file (pinned_files u.pins)) 1) [
    | inl none ↦ (
        let once = sound.files.once file in
        let fewer = fewer_left file (λ (f : ℕ). not (is_among f (pinned_files u.pins))) u.loose in
        omega (arith, kept, none, once, fewer))
    | inr pinned ↦ none_left file (λ (f : ℕ). not (is_among f (pinned_files u.pins))) u.loose (ap not (is_named file (pinned_files u.pins) pinned))
  ]

-- A file that a pin names in one machine is kept in each machine that the same memory shows.
pub named_kept : (core : CoreState) (m0 m : Machine) (pin file : ℕ) → HasState core m0 → HasState core m
    → is_among file (block_files (pinned_blocks pin m0.state.pins)) ≡ true → IsKept file m.state
named_kept core m0 m pin file has0 has among =
    let here : is_among file (block_files (pinned_blocks pin m.state.pins)) ≡ true =
    subst (λ fs. is_among file fs ≡ true) (sym (has.pinned pin)) (subst (λ fs. is_among file fs ≡ true) (has0.pinned pin) among) in
    let one = named file (block_files (pinned_blocks pin m.state.pins)) here in
    let within = pinned_within file pin m.state.pins in
    omega (arith, one, within)
