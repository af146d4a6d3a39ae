use Rattle.std.proofs.Common.{◌≡◌, [], length, replicate, false, subst, sym, ap, ◌∙◌, arith, rules, Contains}
use Rattle.std.proofs.lemmas.List.{nil_from_length, length-replicate}
use Rattle.std.proofs.lemmas.List.Elements.{Contains-push}
use Rattle.span_tree.proofs.ReachLaws.{Walked, walk_begins, walk_step, walk_ends, left_at_first}
use Rattle.span_tree.proofs.reach.reached.Goals as goal

pub loop-position-init : goal.loop-position-init
loop-position-init g c =
    let none : c.in_ok-found.found ≡ replicate c.args.count false = search rules in
    let each : length c.in_ok-found.found ≡ c.args.count = ap length none ∙ length-replicate c.args.count false in
    record {
      walked = walk_begins c.args.starts.items c.args.one.now c.args.other.now c.args.count c.in_ok-found.found none each c.requires.starts_within;
      steps = let first = left_at_first c.in_ok-found.found c.args.starts.items in omega arith;
      forward = omega arith;
    }

pub visit-requires : goal.visit-requires
visit-requires g c =
    let waits : Contains c.loop-position.ahead.items c.in-Some.position =
    subst (λ xs. Contains xs c.in-Some.position) (sym c.in-Some.ensures.items) (Contains-push c.pop.new.self.items c.in-Some.position) in
    let within = c.loop-position.invariant.walked.within c.in-Some.position waits in
    let each = c.loop-position.invariant.walked.one_each in
    omega arith

pub loop-position-smaller : goal.loop-position-smaller
loop-position-smaller g c =
    let step = walk_step c.args.starts.items c.args.one.now c.args.other.now c.args.count c.loop-position.found c.loop-position.ahead.items c.pop.new.self.items c.in-Some.position
    c.visit.new.found c.visit.new.ahead.items c.requires.one_within c.requires.other_within c.in-Some.ensures.items c.loop-position.invariant.walked
    c.in_ok-visit.ensures.found c.in_ok-visit.ensures.ahead in
    let less = step.1 in
    omega arith

pub loop-position-preserved : goal.loop-position-preserved
loop-position-preserved g c =
    let step = walk_step c.args.starts.items c.args.one.now c.args.other.now c.args.count c.loop-position.found c.loop-position.ahead.items c.pop.new.self.items c.in-Some.position
    c.visit.new.found c.visit.new.ahead.items c.requires.one_within c.requires.other_within c.in-Some.ensures.items c.loop-position.invariant.walked
    c.in_ok-visit.ensures.found c.in_ok-visit.ensures.ahead in
    record {
      walked = step.0;
      steps = let less = step.1 in let was = c.loop-position.invariant.steps in let visited = c.in_ok-visit.ensures.step in omega arith;
      forward = let was = c.loop-position.invariant.forward in let visited = c.in_ok-visit.ensures.step in omega arith;
    }

pub returns-clause-whole : goal.returns-clause-whole
returns-clause-whole g c =
    let nothing : c.loop-position.ahead.items ≡ [] = nil_from_length c.loop-position.ahead.items (let none = c.in_default.ensures.cases.0 in let ok = c.loop-position.ahead.ok.0 in omega arith) in
    λ d r. walk_ends c.args.count c.loop-position.found (subst (λ xs. Walked c.args.starts.items c.args.one.now c.args.other.now c.args.count c.loop-position.found xs) nothing c.loop-position.invariant.walked) r
