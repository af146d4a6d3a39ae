use Rattle.std.proofs.Common.{rules, arith, sym, ◌∙◌}
use Rattle.client_run.proofs.LookLemmas.{taken_out}
use Rattle.client_run.proofs.taken.end_look.Goals as goal

pub returns-clause-ended : goal.returns-clause-ended
returns-clause-ended c =
    taken_out c.args.looks.now.items c.end_pin.new.looks.items c.args.number c.index_mut.result.now c.take.new.self c.in-Some.look
    (first_of (search rules, omega (arith, c.if-number-len.false, c.len.ensures, c.args.looks.now.ok.0))) c.index_mut.ensures.value
    (sym c.take.ensures.value ∙ c.in-Some.is) c.take.ensures.after c.end_pin.ensures
