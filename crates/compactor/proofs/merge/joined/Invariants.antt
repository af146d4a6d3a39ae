-- So far the rows are those of the parts that were taken.
use Rattle.std.proofs.Common.{◌≡◌}
use Rattle.std.specs.List.{flat_map}
use Rattle.compactor.proofs.merge.joined.Given as goal

abbrev pub invariant-loop-part : goal.invariant-loop-part
invariant-loop-part l = l.rows.items ≡ flat_map (λ rows. rows) l.yielded
