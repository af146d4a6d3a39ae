use Rattle.std.proofs.Common.{sym, subst}
use Rattle.std.specs.List.Sorted.{IsNonDecreasing}
use Rattle.std.proofs.lemmas.List.Sorted.{IsNonDecreasingBy-from_sort, IsPermutation-sym, Contains-permutation}
use Rattle.store_core.proofs.PinnedFiles.{parted_by}
use Rattle.store_core.proofs.state.CoreState.part_files.Goals as goal

pub files_inside-requires : goal.files_inside-requires
files_inside-requires c = subst IsNonDecreasing (sym c.as_slice-rising.ensures.value) (IsNonDecreasingBy-from_sort (λ x. x) _ c.sort_unstable.ensures.sorted)

pub files_outside-requires : goal.files_outside-requires
files_outside-requires c = subst IsNonDecreasing (sym c.as_slice-rising.ensures.value) (IsNonDecreasingBy-from_sort (λ x. x) _ c.sort_unstable.ensures.sorted)

pub returns : goal.returns
returns c =
    let core = c.args.self.now in
    let named = c.in_ok-pinned.ensures in
    let moved = c.sort_unstable.ensures.permutation in
    parted_by core.pins.items c.as_slice.result.now c.sort_unstable.new.self.items c.as_slice-rising.result.now core.jobs.loose.items c.as_slice-loose.result.now
    c.in_ok-kept.kept.items c.in_ok-free.free.items c.as_slice.ensures.value c.as_slice-rising.ensures.value c.as_slice-loose.ensures.value
    (λ number file there. Contains-permutation _ _ file moved (named.all number file there))
    (λ file there. named.only file (Contains-permutation _ _ file (IsPermutation-sym _ _ moved) there))
    c.in_ok-kept.ensures c.in_ok-free.ensures
