use Rattle.std.proofs.Common.{◌*◌, drop}
use Rattle.block_build.specs.Drafts.{DraftSoFar}
use Rattle.block_build.proofs.draft.draft_of.Given as goal

abbrev pub invariant-loop-number : goal.invariant-loop-number
invariant-loop-number l = DraftSoFar l.form l.front l.rows (drop (256 * l.number) l.rows) l.number l.bytes.items l.stripes.items
