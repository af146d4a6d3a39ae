use Rattle.std.proofs.Common.{rules}
use Rattle.std.specs.Ordering.{is_lt}
use Rattle.std.proofs.lemmas.List.Sorted.{answers_always, ranks_by}
use Rattle.column_scan.specs.Picking.{pick_cmp}
use Rattle.column_scan.proofs.Latest.{pick_total}
use Rattle.column_scan.proofs.picks.sorted.Goals as goal

pub returns-clause-sorted : goal.returns-clause-sorted
returns-clause-sorted c = c.sort_unstable_by.ensures.sorted (λ p q. is_lt (pick_cmp p q)) (ranks_by pick_total (λ p. p)) (answers_always _ _ _ (λ f a r g h. search rules))
