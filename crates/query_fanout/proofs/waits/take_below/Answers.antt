use Rattle.std.proofs.Common.{◌<◌, arith, length, rules}
use Rattle.query_fanout.proofs.WaitLaws.{IsAboveAt, rest_above}
use Rattle.query_fanout.proofs.waits.take_below.Goals.{then-loop-next-test+else-is_below, else-loop-next-test}
use Rattle.query_fanout.proofs.waits.take_below.Goals as goal

pub returns-clause-above : goal.returns-clause-above
returns-clause-above c =
    let picks = c.args.batch.picks.items in
    let next = c.loop-next.next in
    rest_above c.args.bound picks next c.requires
    (elim c.loop-next-test.branch as (λ b. next < length picks → IsAboveAt c.args.bound picks next) [
      | then-loop-next-test+else-is_below w ↦ λ low. record { pick = w.index.result.now; is = search (rules); above = search (rules) }
      | else-loop-next-test w ↦ λ low. absurd (omega (arith, low))
    ])
