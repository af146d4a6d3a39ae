use Rattle.std.proofs.Common.{◌≡◌, ◌∙◌, ap, subst, true}
use Rattle.std.specs.List.{list_all}
use Rattle.column_scan.specs.Sieves.{SieveParts, reads_columns}
use Rattle.column_scan.proofs.Tests.{if_so, meet_alike, met, same_columns, tester_there}
use Rattle.column_scan.proofs.sifters.Sifter.meets_columns.Goals as goal

pub returns-clause-value : goal.returns-clause-value
returns-clause-value c =
    let test = tester_there c.self.inside.sieve.now c.self.inside.tester c.in-Some.tester c.in-Some.is c.self.invariant.tests in
    let read = subst (λ (s : SieveParts). list_all reads_columns s.members ≡ true) c.self.view_is c.members-members.ensures.columns in
    if_so c.are_so_of.result _ _ (λ b is. λ s has.
    met c.args.self.now _ _ c.members-members.result.now is.0 b (test.patterns ∙ ap (λ (s : SieveParts). s.patterns) c.self.view_is) test.rows
    (c.members-members.ensures.trees ∙ ap (λ (s : SieveParts). s.members) c.self.view_is) is.2
    ∙ meet_alike c.args.self.now is.0 s read (same_columns is.0 s c.args.columns is.1 has)) c.are_so_of.ensures.value
