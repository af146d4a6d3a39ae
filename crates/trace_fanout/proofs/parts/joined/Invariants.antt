-- So far the results are those of the parts that were taken.
use Rattle.std.proofs.Common.{◌≡◌, Vec, Global}
use Rattle.std.specs.List.{flat_map}
use Rattle.spanset_eval.specs.declared.results.TraceResult.{TraceResult}
use Rattle.trace_fanout.proofs.parts.joined.Given as goal

abbrev pub invariant-loop-part : goal.invariant-loop-part
invariant-loop-part l = l.all.items ≡ flat_map (λ (part : Vec TraceResult Global). part.items) l.yielded
