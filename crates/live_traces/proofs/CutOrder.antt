-- The order of rows in a cut is total.
use Rattle.std.specs.Cmp.{IsTotalOrder}
use Rattle.std.proofs.lemmas.Cmp.{then_total, on_total, nat_list_cmp_total}
use Rattle.span_types.proofs.FirstLaws.{place_cmp_total}
use Rattle.store_model.specs.Cut.{cut_order}

pub cut_order_total : IsTotalOrder cut_order
cut_order_total = then_total (on_total (λ r. r.span.trace.0) nat_list_cmp_total) (on_total (λ r. r.place) place_cmp_total)
