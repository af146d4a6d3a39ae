use Rattle.std.proofs.Common.{◌≡◌, ◌≤◌, List, [], ◌∷◌, ◌++◌, append-nil, ap, length, subst, sym, ◌∙◌, arith}
use Rattle.std.proofs.lemmas.List.Elements.{All-push}
use Rattle.column_scan.specs.Candidates.{Ascend}
use Rattle.column_scan.specs.declared.picks.Pick.{Pick}
use Rattle.query_fanout.specs.Rounds.{AreInBatches, AreParted, all_waiting, waiting}
use Rattle.query_fanout.specs.declared.waits.Batch.{Batch}
use Rattle.query_fanout.proofs.WaitLaws.{none_left, one_more_waits, parted_more}
use Rattle.query_fanout.proofs.waits.part.Goals as goal

pub loop-batch-preserved-in-Continue-branch-2 : goal.loop-batch-preserved-in-Continue-branch-2
loop-batch-preserved-in-Continue-branch-2 c =
    let so = c.loop-batch.invariant.0 in
    let yielded = c.loop-batch.yielded in
    let left = c.loop-batch.left.items in
    let batch = c.in-Some.batch in
    let rest = c.in_ok-rest.rest in
    let taken = c.take_below.new.few.items in
    let more = parted_more c.args.bound (all_waiting yielded) c.loop-batch.few.items (all_waiting left) (waiting batch) taken (waiting rest) so c.in_ok-rest.ensures.same
    (c.in_ok-rest.ensures.below so.few_are) c.in_ok-rest.ensures.above in
    subst (λ (l : List Batch). AreParted c.args.bound (all_waiting (yielded ++ batch ∷ [])) taken (all_waiting l) × AreInBatches l) (sym c.in_ok-push.ensures.items) (
      subst (λ (l : List Pick). AreParted c.args.bound l taken (all_waiting (left ++ rest ∷ []))) (sym (one_more_waits yielded batch))
          (subst (λ (l : List Pick). AreParted c.args.bound (all_waiting yielded ++ waiting batch) taken l) (sym (one_more_waits left rest)) more),
      All-push (λ b. Ascend b.picks.items) left rest c.loop-batch.invariant.1 c.in_ok-rest.ensures.ascend,
    )

pub loop-batch-preserved : goal.loop-batch-preserved
loop-batch-preserved c =
    let so = c.loop-batch.invariant.0 in
    let yielded = c.loop-batch.yielded in
    let left = c.loop-batch.left.items in
    let batch = c.in-Some.batch in
    let rest = c.in_ok-rest.rest in
    let taken = c.take_below.new.few.items in
    let low : length rest.picks.items ≤ rest.next = omega arith in
    let none : waiting rest ≡ [] = none_left rest.picks.items rest.next low in
    let more = parted_more c.args.bound (all_waiting yielded) c.loop-batch.few.items (all_waiting left) (waiting batch) taken (waiting rest) so c.in_ok-rest.ensures.same
    (c.in_ok-rest.ensures.below so.few_are) c.in_ok-rest.ensures.above in (
      subst (λ (l : List Pick). AreParted c.args.bound l taken (all_waiting left)) (sym (one_more_waits yielded batch))
          (subst (λ (l : List Pick). AreParted c.args.bound (all_waiting yielded ++ waiting batch) taken l) (ap (λ l. all_waiting left ++ l) none ∙ append-nil (all_waiting left)) more),
      c.loop-batch.invariant.1,
    )
