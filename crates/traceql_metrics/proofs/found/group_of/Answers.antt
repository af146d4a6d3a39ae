use Rattle.std.proofs.Common.{rules, ◌∙◌, ap, arith, drop}
use Rattle.std.specs.Ordering.{is_le, is_lt}
use Rattle.std.proofs.lemmas.Fn.{always_returns_same}
use Rattle.traceql_metrics.specs.Grouping.{by_of}
use Rattle.traceql_metrics.specs.Series.{values_cmp}
use Rattle.traceql_metrics.proofs.Groups.{begins_first, group_is, parted_le, parted_lt}
use Rattle.traceql_metrics.proofs.Orders.{values_total}
use Rattle.traceql_metrics.proofs.found.group_of.Goals as goal

pub split_at-requires-2 : goal.split_at-requires-2
split_at-requires-2 c =
    let by = c.args.head.now.by in
    let begins = c.partition_point-from.ensures.partitioned (λ y. is_lt (values_cmp (by_of y) by)) (always_returns_same _ _ _ (λ a r f k. search rules)) (parted_lt values_total by_of c.args.found.now by c.requires) in
    let ends = c.partition_point-to.ensures.partitioned (λ y. is_le (values_cmp (by_of y) by)) (always_returns_same _ _ _ (λ a r f k. search rules)) (parted_le values_total by_of c.args.found.now by c.requires) in
    let less = begins_first (λ y. values_cmp (by_of y) by) c.args.found.now c.partition_point-from.result c.partition_point-to.result begins ends c.partition_point-from.ensures.bound in
    omega (arith, less, c.split_at.ensures.front_len)

pub returns : goal.returns
returns c =
    let by = c.args.head.now.by in
    let begins = c.partition_point-from.ensures.partitioned (λ y. is_lt (values_cmp (by_of y) by)) (always_returns_same _ _ _ (λ a r f k. search rules)) (parted_lt values_total by_of c.args.found.now by c.requires) in
    let ends = c.partition_point-to.ensures.partitioned (λ y. is_le (values_cmp (by_of y) by)) (always_returns_same _ _ _ (λ a r f k. search rules)) (parted_le values_total by_of c.args.found.now by c.requires) in
    let less = begins_first (λ y. values_cmp (by_of y) by) c.args.found.now c.partition_point-from.result c.partition_point-to.result begins ends c.partition_point-from.ensures.bound in
    c.split_at-2.ensures.back ∙ ap (drop c.partition_point-from.result) c.split_at.ensures.front
    ∙ group_is (λ y. values_cmp (by_of y) by) c.args.found.now c.partition_point-from.result c.partition_point-to.result begins ends less c.partition_point-to.ensures.bound
