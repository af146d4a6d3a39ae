use Rattle.std.proofs.Common.{◌∙◌, sym, arith}
use Rattle.spanset_eval.proofs.PartLaws.{less_arm, greater_arm, equal_arm, first_arm, at_none}
use Rattle.spanset_eval.proofs.parts.take_next.Goals as goal

pub returns-in_default-None-clause-takes : goal.returns-in_default-None-clause-takes
returns-in_default-None-clause-takes c =
    let none = at_none c.pop-latter.result _ _ c.in_default-None.is-1 c.pop-latter.ensures.cases in
    first_arm c.args.left.now.items c.args.right.now.items c.pop.new.self.items c.pop-latter.new.self.items c.pop.result _ c.pop.ensures.items
    (omega (arith, c.args.right.now.ok.0, none.0)) (omega (arith, c.pop-latter.new.self.ok.0, none.1)) (cc) c.requires.left_up

pub returns-in_ok-push-in-Less-clause-takes : goal.returns-in_ok-push-in-Less-clause-takes
returns-in_ok-push-in-Less-clause-takes c =
    less_arm c.args.left.now.items c.args.right.now.items c.pop.new.self.items c.pop-latter.new.self.items c.push.new.self.items c.in-Some-Some.former c.in-Some-Some.latter
    c.in-Some-Some.ensures.items c.in-Some-Some.ensures'.items c.in_ok-push-in-Less.ensures.items c.requires.left_up c.requires.right_up (sym c.order.ensures ∙ c.in-Less.is)

pub returns-in_ok-push-in-Greater-clause-takes : goal.returns-in_ok-push-in-Greater-clause-takes
returns-in_ok-push-in-Greater-clause-takes c =
    greater_arm c.args.left.now.items c.args.right.now.items c.pop.new.self.items c.pop-latter.new.self.items c.push-in-Greater.new.self.items c.in-Some-Some.former c.in-Some-Some.latter
    c.in-Some-Some.ensures.items c.in-Some-Some.ensures'.items c.in_ok-push-in-Greater.ensures.items c.requires.left_up c.requires.right_up (sym c.order.ensures ∙ c.in-Greater.is)

pub returns-in_ok-join-in-Equal-clause-takes : goal.returns-in_ok-join-in-Equal-clause-takes
returns-in_ok-join-in-Equal-clause-takes c =
    equal_arm c.args.left.now.items c.args.right.now.items c.pop.new.self.items c.pop-latter.new.self.items c.in-Some-Some.former c.in-Some-Some.latter c.in_ok-join-in-Equal.field-0
    c.in-Some-Some.ensures.items c.in-Some-Some.ensures'.items c.in_ok-join-in-Equal.ensures c.requires.left_up c.requires.right_up (sym c.order.ensures ∙ c.in-Equal.is)
