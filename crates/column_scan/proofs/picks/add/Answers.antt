use Rattle.column_scan.proofs.Latest.{added, added_ascend, joined, joined_ascend}
use Rattle.column_scan.proofs.picks.add.Goals as goal

pub returns-then-is_eq-clause-latest : goal.returns-then-is_eq-clause-latest
returns-then-is_eq-clause-latest c =
    joined c.args.picks.now.items c.pop.new.self.items c.push-then-is_eq.new.self.items c.in-Some.last c.args.pick c.later.result
    c.in-Some.ensures.items c.in_ok-push-2.ensures.items c.later.ensures (cc)

pub returns-then-is_eq-clause-order : goal.returns-then-is_eq-clause-order
returns-then-is_eq-clause-order c = λ ascend none.
    joined_ascend c.args.picks.now.items c.pop.new.self.items c.push-then-is_eq.new.self.items c.in-Some.last c.args.pick c.later.result
    c.in-Some.ensures.items c.in_ok-push-2.ensures.items c.later.ensures (cc) ascend

pub returns-clause-latest : goal.returns-clause-latest
returns-clause-latest c =
    added c.args.picks.now.items c.pop.new.self.items c.push-3.new.self.items c.in-Some.last c.args.pick c.in-Some.ensures.items (cc (c.in_ok-push-3.ensures.items, c.in_ok-push-4.ensures.items))

pub returns-clause-order : goal.returns-clause-order
returns-clause-order c = λ ascend none.
    added_ascend c.args.picks.now.items c.pop.new.self.items c.push-3.new.self.items c.in-Some.last c.args.pick c.in-Some.ensures.items (cc (c.in_ok-push-3.ensures.items, c.in_ok-push-4.ensures.items)) (cc) ascend none
