use Rattle.std.proofs.Common.{◌∙◌, ap}
use Rattle.traceql_syntax.specs.Trees.{tree}
use Rattle.column_scan.specs.Sieves.{column_members}
use Rattle.column_scan.specs.Sifting.{trees_of}
use Rattle.column_scan.proofs.MemberLists.{down_end, map_reverse}
use Rattle.column_scan.proofs.members.column_members.Goals as goal

pub returns : goal.returns
returns c =
    ap trees_of c.reverse.ensures.items ∙ map_reverse (λ e. tree e.now) c.add_columns-2.new.members.items
    ∙ down_end (column_members (tree c.args.expr.now)) (column_members (tree c.down.first.now)) (tree c.down.first.now) (trees_of c.down.members.items) (trees_of c.add_columns-2.new.members.items)
    c.in_default.ensures.members c.in_ok-add_columns-2.ensures c.down.invariant
