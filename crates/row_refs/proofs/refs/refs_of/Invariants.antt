-- The rows so far.
use Rattle.std.proofs.Common.{◌≡◌, take}
use Rattle.row_refs.proofs.refs.refs_of.Given as goal

abbrev pub invariant-loop-row : goal.invariant-loop-row
invariant-loop-row l = l.refs.items ≡ take l.row-index l.rows
