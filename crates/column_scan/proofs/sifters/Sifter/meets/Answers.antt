use Rattle.std.proofs.Common.{◌∙◌, ap}
use Rattle.column_scan.specs.Sieves.{SieveParts}
use Rattle.column_scan.proofs.Tests.{if_so, met, tester_there}
use Rattle.column_scan.proofs.sifters.Sifter.meets.Goals as goal

pub returns-clause-value : goal.returns-clause-value
returns-clause-value c =
    let test = tester_there c.self.inside.sieve.now c.self.inside.tester c.in-Some.tester c.in-Some.is c.self.invariant.tests in
    if_so c.are_so.result _ _ (λ b is.
    met c.args.self.now _ _ c.members-members.result.now c.args.span.now b (test.patterns ∙ ap (λ (s : SieveParts). s.patterns) c.self.view_is) test.rows
    (c.members-members.ensures.trees ∙ ap (λ (s : SieveParts). s.members) c.self.view_is) is) c.are_so.ensures.value
