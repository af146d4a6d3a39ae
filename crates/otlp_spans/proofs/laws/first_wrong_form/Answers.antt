use Rattle.otlp_spans.proofs.FormLaws.{first_found, none_found}
use Rattle.otlp_spans.proofs.laws.first_wrong_form.Goals as goal

pub returns-clause-found : goal.returns-clause-found
returns-clause-found c = first_found

pub returns-clause-none : goal.returns-clause-none
returns-clause-none c = none_found
