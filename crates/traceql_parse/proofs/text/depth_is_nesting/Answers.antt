use Rattle.traceql_parse.proofs.Nesting.{reads_within, reads_enough}
use Rattle.traceql_parse.proofs.text.depth_is_nesting.Goals as goal

pub returns-clause-within : goal.returns-clause-within
returns-clause-within c = reads_within

pub returns-clause-enough : goal.returns-clause-enough
returns-clause-enough c = reads_enough
