use Rattle.drill_input.proofs.DrillLemmas.{few_spans, one_trace, some_spans}
use Rattle.drill_input.proofs.laws.spans_of_a_line.Goals as goal

pub returns-clause-some : goal.returns-clause-some
returns-clause-some c = some_spans

pub returns-clause-few : goal.returns-clause-few
returns-clause-few c = few_spans

pub returns-clause-one_trace : goal.returns-clause-one_trace
returns-clause-one_trace c = one_trace
