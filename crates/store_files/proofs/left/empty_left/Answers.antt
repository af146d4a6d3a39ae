use Rattle.std.proofs.Common.{◌≤◌, ◌-◌, ℕ, [], ◌∷◌, IsTrue, Some, refl, sym, ◌∙◌, subst, arith}
use Rattle.disk_model.specs.Images.{bytes_of}
use Rattle.disk_model.proofs.CallRuns.{counts_then}
use Rattle.disk_model.proofs.Runs.{run_untouched}
use Rattle.block_list.proofs.ReadyLemmas.{ready_quiet}
use Rattle.store_images.specs.Stored.{KeepsStored}
use Rattle.store_images.proofs.Keeping.{keeps_same}
use Rattle.store_images.proofs.Lists.{at_front}
use Rattle.store_files.proofs.Answered.{fine_calls, went_well}
use Rattle.store_files.proofs.LooseFiles.{empty_now, emptied_then, others_emptied, ready_rules}
use Rattle.store_files.proofs.LeftFiles.{beyond_unused, freed_more, freed_up_to, others_untouched}
use Rattle.store_files.proofs.left.empty_left.Goals as goal

pub returns-in_err-end-clause-kept : goal.returns-in_err-end-clause-kept
returns-in_err-end-clause-kept g c = λ told body ready low.
    let d = g.D.Device in
    run_untouched d.tells d.held d.may_leave d.moment d.left_since KeepsStored c.args.disk.now c.end_of_left.new.disk keeps_same c.end_of_left.ensures.untouched

pub returns-in_err-end-clause-ready : goal.returns-in_err-end-clause-ready
returns-in_err-end-clause-ready g c = λ told body ready low.
    let d = g.D.Device in
    let disk = c.args.disk.now in
    let mid = c.end_of_left.new.disk in
    let untouched = c.end_of_left.ensures.untouched in
    ready_quiet (d.held disk) (d.held mid) (d.may_leave disk) (d.may_leave mid) (Some body) (untouched.same_bytes told) untouched.crash ready

pub returns-in_err-end-clause-others : goal.returns-in_err-end-clause-others
returns-in_err-end-clause-others g c = λ told.
    let d = g.D.Device in
    let disk = c.args.disk.now in
    let mid = c.end_of_left.new.disk in
    let untouched = c.end_of_left.ensures.untouched in
    others_untouched (λ (file : ℕ). c.args.first ≤ file) (d.held disk) (d.held mid) (d.may_leave disk) (d.may_leave mid) (untouched.same_bytes told) untouched.crash

pub loop-file-init : goal.loop-file-init
loop-file-init g c =
    let d = g.D.Device in
    let disk = c.args.disk.now in
    let mid = c.end_of_left.new.disk in
    let untouched = c.end_of_left.ensures.untouched in
    record {
      so_far = λ told body ready low. (
        run_untouched d.tells d.held d.may_leave d.moment d.left_since KeepsStored disk mid keeps_same untouched,
        ready_quiet (d.held disk) (d.held mid) (d.may_leave disk) (d.may_leave mid) (Some body) (untouched.same_bytes told) untouched.crash ready,
      );
      empty = λ told. c.in_ok-end.ensures.empty told;
      others = λ told. others_untouched (λ (file : ℕ). c.args.first ≤ file) (d.held disk) (d.held mid) (d.may_leave disk) (d.may_leave mid) (untouched.same_bytes told) untouched.crash;
      counts = went_well d disk mid c.in_ok-end.ensures.counted refl (λ bad. absurd cc);
    }

pub loop-file-preserved : goal.loop-file-preserved
loop-file-preserved g c =
    let d = g.D.Device in
    let mid = c.loop-file.disk in
    let new = c.cut_through.new.disk in
    let file = c.loop-file.file - 1 in
    let was = c.loop-file.invariant in
    let inside : c.args.first ≤ file = omega arith in
    record {
      so_far = λ told body ready low.
          let told_mid : IsTrue (d.tells mid) = subst IsTrue (sym was.counts.telling) told in
          let so_far = was.so_far told body ready low in
          let unused = beyond_unused body (ready_rules (d.held mid) (d.may_leave mid) body so_far.1) file (let least = c.requires.given in omega (arith, least, inside)) (omega (arith, low, inside)) in
          emptied_then d.moment d.left_since d.may_leave c.args.disk.now mid new (d.held mid) (d.held new) body (file ∷ []) unused file so_far.0 so_far.1 (at_front file [])
          c.cut_through.ensures.any_moment c.cut_through.ensures.crash (c.cut_through.ensures.besides told_mid);
      empty = λ told other above below given.
          let told_mid : IsTrue (d.tells mid) = subst IsTrue (sym was.counts.telling) told in
          freed_more file _ (d.may_leave mid) (d.may_leave new) other (λ after. was.empty told other (omega (arith, after, inside)) below given) c.cut_through.ensures.crash
          (empty_now file (d.held new) (bytes_of (d.held mid) file) (d.may_leave new) (c.in_ok-cut_through.ensures.shortened told_mid) (c.in_ok-cut_through.ensures.lasting told_mid)) above;
      others = λ told.
          let told_mid : IsTrue (d.tells mid) = subst IsTrue (sym was.counts.telling) told in
          others_emptied (λ (n : ℕ). c.args.first ≤ n) (d.held c.args.disk.now) (d.held mid) (d.held new) (d.may_leave c.args.disk.now) (d.may_leave mid) (d.may_leave new) (was.others told)
          file _ inside (c.cut_through.ensures.besides told_mid) c.cut_through.ensures.crash;
      counts = counts_then d 0 (Unit {0}) ⊥ (Unit {0}) ⊥ c.args.disk.now mid new was.counts tt (fine_calls d 2 0 mid new _ c.in_ok-cut_through.ensures.counted);
    }

pub returns-in_err-cut_through-clause-kept : goal.returns-in_err-cut_through-clause-kept
returns-in_err-cut_through-clause-kept g c = λ told body ready low.
    let d = g.D.Device in
    let mid = c.loop-file.disk in
    let new = c.cut_through.new.disk in
    let file = c.loop-file.file - 1 in
    let inside : c.args.first ≤ file = omega arith in
    let told_mid : IsTrue (d.tells mid) = subst IsTrue (sym c.loop-file.invariant.counts.telling) told in
    let so_far = c.loop-file.invariant.so_far told body ready low in
    let unused = beyond_unused body (ready_rules (d.held mid) (d.may_leave mid) body so_far.1) file (let least = c.requires.given in omega (arith, least, inside)) (omega (arith, low, inside)) in
    (emptied_then d.moment d.left_since d.may_leave c.args.disk.now mid new (d.held mid) (d.held new) body (file ∷ []) unused file so_far.0 so_far.1 (at_front file [])
    c.cut_through.ensures.any_moment c.cut_through.ensures.crash (c.cut_through.ensures.besides told_mid)).0

pub returns-in_err-cut_through-clause-ready : goal.returns-in_err-cut_through-clause-ready
returns-in_err-cut_through-clause-ready g c = λ told body ready low.
    let d = g.D.Device in
    let mid = c.loop-file.disk in
    let new = c.cut_through.new.disk in
    let file = c.loop-file.file - 1 in
    let inside : c.args.first ≤ file = omega arith in
    let told_mid : IsTrue (d.tells mid) = subst IsTrue (sym c.loop-file.invariant.counts.telling) told in
    let so_far = c.loop-file.invariant.so_far told body ready low in
    let unused = beyond_unused body (ready_rules (d.held mid) (d.may_leave mid) body so_far.1) file (let least = c.requires.given in omega (arith, least, inside)) (omega (arith, low, inside)) in
    (emptied_then d.moment d.left_since d.may_leave c.args.disk.now mid new (d.held mid) (d.held new) body (file ∷ []) unused file so_far.0 so_far.1 (at_front file [])
    c.cut_through.ensures.any_moment c.cut_through.ensures.crash (c.cut_through.ensures.besides told_mid)).1

pub returns-in_err-cut_through-clause-others : goal.returns-in_err-cut_through-clause-others
returns-in_err-cut_through-clause-others g c = λ told.
    let d = g.D.Device in
    let mid = c.loop-file.disk in
    let new = c.cut_through.new.disk in
    let file = c.loop-file.file - 1 in
    let inside : c.args.first ≤ file = omega arith in
    let told_mid : IsTrue (d.tells mid) = subst IsTrue (sym c.loop-file.invariant.counts.telling) told in
    others_emptied (λ (n : ℕ). c.args.first ≤ n) (d.held c.args.disk.now) (d.held mid) (d.held new) (d.may_leave c.args.disk.now) (d.may_leave mid) (d.may_leave new) (c.loop-file.invariant.others told)
    file _ inside (c.cut_through.ensures.besides told_mid) c.cut_through.ensures.crash

pub returns-clause-kept : goal.returns-clause-kept
returns-clause-kept g c = λ told body ready low. (c.loop-file.invariant.so_far told body ready low).0

pub returns-clause-ready : goal.returns-clause-ready
returns-clause-ready g c = λ told body ready low. (c.loop-file.invariant.so_far told body ready low).1

pub returns-clause-freed : goal.returns-clause-freed
returns-clause-freed g c = λ told.
    let d = g.D.Device in
    let mid = c.end_of_left.new.disk in
    let untouched = c.end_of_left.ensures.untouched in
    let told_mid : IsTrue (d.tells mid) = subst IsTrue (sym untouched.telling) told in
    freed_up_to (d.held c.args.disk.now) c.args.first c.in_ok-end.end (d.may_leave c.loop-file.disk) c.in_ok-end.ensures.from
    (λ file above below given. sym (untouched.same_bytes told file) ∙ c.in_ok-end.ensures.empty told file above below given (d.held mid) (g.met.D.Device.held_may_stay mid told_mid))
    (λ file above below given. c.loop-file.invariant.empty told file (omega (arith, above)) below given)
