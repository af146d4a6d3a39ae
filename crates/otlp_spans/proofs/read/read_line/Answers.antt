use Rattle.otlp_spans.proofs.ReadableLaws.{few_of, few_read, readable_read}
use Rattle.otlp_spans.proofs.read.read_line.Goals as goal

pub counted-requires : goal.counted-requires
counted-requires c = λ small. few_of _ _ c.in-Ok.gathered.objects c.in-Ok.ensures.spans c.in-Ok.ensures.objects small

pub returns-in-Ok-clause-most : goal.returns-in-Ok-clause-most
returns-in-Ok-clause-most c = few_read _ _ _ c.counted.result c.counted.ensures.spans c.in-Ok.ensures.spans c.in-Ok.ensures.objects

pub returns-in-Ok-clause-readable : goal.returns-in-Ok-clause-readable
returns-in-Ok-clause-readable c = readable_read _ _ c.in-Ok.gathered.objects c.counted.result c.counted.ensures.spans c.in-Ok.ensures.spans
