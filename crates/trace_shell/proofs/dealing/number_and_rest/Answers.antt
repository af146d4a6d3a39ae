use Rattle.trace_shell.proofs.NumberLemmas.{no_digit, no_second, no_space_behind, none_holds, not_one, one_leads, two_lead}
use Rattle.trace_shell.proofs.dealing.number_and_rest.Goals as goal

pub returns-in_err-one-clause-none : goal.returns-in_err-one-clause-none
returns-in_err-one-clause-none c = none_holds c.from_residual.result _ (no_digit c.args.line.now c.in_err-one.ensures.none)

pub returns-in-Some-clause-is : goal.returns-in-Some-clause-is
returns-in-Some-clause-is c =
    one_leads c.args.line.now c.in_ok-one.later.now c.in-Some.rest.now c.in_ok-one.one c.in_ok-one.ensures.few c.in_ok-one.ensures.is c.in-Some.ensures.is

pub returns-then-one-ne1-clause-none : goal.returns-then-one-ne1-clause-none
returns-then-one-ne1-clause-none c = not_one c.args.line.now c.in_ok-one.later.now c.in_ok-one.one c.in_ok-one.ensures.is c.in_default.ensures.none c.if-one-ne1.true

pub returns-in_err-two-clause-none : goal.returns-in_err-two-clause-none
returns-in_err-two-clause-none c =
    none_holds c.from_residual-in_err-two.result _
    (no_second c.args.line.now c.in_ok-one.later.now c.in_ok-one.one c.in_ok-one.ensures.is c.in_default.ensures.none c.in_err-two.ensures.none)

pub returns-in_err-rest-clause-none : goal.returns-in_err-rest-clause-none
returns-in_err-rest-clause-none c =
    none_holds c.from_residual-in_err-rest.result _
    (no_space_behind c.args.line.now c.in_ok-one.later.now c.in_ok-one.one c.in_ok-one.ensures.is c.in_default.ensures.none c.in_ok-two.two c.in_ok-two.later.now c.in_ok-two.ensures.is
    c.in_err-rest.ensures.none)

pub returns-clause-is : goal.returns-clause-is
returns-clause-is c =
    two_lead c.args.line.now c.in_ok-one.later.now c.in_ok-two.later.now c.in_ok-rest.rest.now c.in_ok-one.one c.in_ok-two.two c.if-one-ne1.false
    c.in_ok-two.ensures.few c.in_ok-one.ensures.is c.in_ok-two.ensures.is c.in_ok-rest.ensures.is
