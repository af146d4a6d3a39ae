use Rattle.traceql_value.proofs.Orders.{value_cmp_total}
use Rattle.spanset_eval.specs.Stages.{split_by, value_at}
use Rattle.spanset_eval.proofs.PartitionLaws.{partition_of}
use Rattle.spanset_eval.proofs.laws.split_is_a_partition.Goals as goal

pub returns : goal.returns
unfolding split_by
returns c = λ ps rows e set. partition_of value_cmp_total (value_at ps rows e) set
