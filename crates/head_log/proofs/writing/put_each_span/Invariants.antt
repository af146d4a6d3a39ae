use Rattle.std.proofs.Common.{◌≡◌, ◌++◌, All, take}
use Rattle.std.specs.List.{flat_map}
use Rattle.head_log.specs.Bodies.{span_bytes}
use Rattle.head_log.specs.Written.{IsSoundAlone}
use Rattle.head_log.proofs.writing.put_each_span.Given as goal

abbrev pub invariant-loop-span : goal.invariant-loop-span
invariant-loop-span l = (l.out ≡ l.fn.out ++ flat_map (span_bytes l.extended) (take l.span-index l.spans)) × All (IsSoundAlone l.extended) (take l.span-index l.spans)
