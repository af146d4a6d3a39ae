use Rattle.std.proofs.Common.{◌≡◌, All, take}
use Rattle.block_columns.specs.ColumnEncodings.{column, wrote}
use Rattle.block_columns.proofs.pages.put_column.Given as goal

abbrev pub invariant-loop-value : goal.invariant-loop-value
invariant-loop-value g l = (l.page ≡ wrote (column (g.P.Put.encoding l.kind)) (take l.value-index l.values) l.fn.page) × All (g.P.Put.promise l.kind) (take l.value-index l.values)
