use Rattle.std.proofs.Common.{arith, rules, ◌+◌}
use Rattle.query_fanout.proofs.LeastLaws.{LeastSoFar, all_ended, as_far, is_least, nearer}
use Rattle.query_fanout.proofs.scans.least.Goals.{then-not-goes_to, else-not-goes_to}
use Rattle.query_fanout.proofs.scans.least.Goals as goal

pub loop-i-preserved : goal.loop-i-preserved
loop-i-preserved c =
    let scans = c.args.scans.now in
    let i = c.loop-i.i in
    let scan = c.index-scans-i.result in
    elim c.if-not-goes_to.branch as (λ b. LeastSoFar scans (i + 1) c.if-not-goes_to.at c.if-not-goes_to.upto) [
      | then-not-goes_to w ↦ rw (w.at-is, w.upto-is) (nearer scans i scan c.loop-i.at c.loop-i.upto (omega arith) (search (rules)) c.loop-i.invariant (search (rules)))
      | else-not-goes_to w ↦ rw (w.at-is, w.upto-is) (as_far scans i scan c.loop-i.at c.loop-i.upto (omega arith) (search (rules)) c.loop-i.invariant (search (rules)))
    ]

pub returns-clause-some : goal.returns-clause-some
returns-clause-some c = is_least c.args.scans.now c.loop-i.at c.loop-i.upto (search (rules))

pub returns-clause-none : goal.returns-clause-none
returns-clause-none c = all_ended c.args.scans.now c.loop-i.at c.loop-i.upto (search (rules))
