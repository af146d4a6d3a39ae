use Rattle.std.proofs.Common.{◌≡◌, true, subst, sym}
use Rattle.std.specs.List.{list_all}
use Rattle.traceql_syntax.specs.Trees.{set_tree}
use Rattle.column_scan.specs.Sieves.{hints_the_kept, reads_columns}
use Rattle.column_scan.proofs.MemberLists.{kept_read}
use Rattle.column_scan.proofs.members.sieve.Goals as goal

pub invariant_of-result : goal.invariant_of-result
invariant_of-result c = record {
  columns = subst (λ l. list_all reads_columns l ≡ true) (sym c.in_ok-members.ensures) (kept_read (hints_the_kept c.in_ok-hint.hint) (set_tree c.args.checked.now.query.spansets));
  none = λ is. cc;
}
