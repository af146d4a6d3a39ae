use Rattle.std.proofs.Common.{refl}
use Rattle.block_build.proofs.RowByRow.{whole_pages}
use Rattle.block_build.proofs.builder.entry_of.Goals as goal

pub returns : goal.returns
returns c = λ form holds. record {
  holds = holds;
  pages = whole_pages form c.args.rows.now c.args.stripe.now holds;
  count = refl;
  earliest = c.earliest.ensures;
  latest = c.latest.ensures;
}
