use Rattle.std.proofs.Common.{[]}
use Rattle.span_fields.proofs.Distinct.{read_distinct}
use Rattle.span_fields.proofs.reading.attrs.Goals as goal

pub of-requires : goal.of-requires
of-requires c = read_distinct c.args.within c.in_ok-count.count [] _ c.in_ok-attrs.attrs.items _ c.in_ok-attrs.ensures tt
