-- Private mechanism. How picks are put in order.
use Rattle.std.specs.Prelude.{Bool, not, nat_lt, if◌then◌else◌}
use Rattle.std.specs.Ordering.{is_gt}
use Rattle.std.specs.declared.cmp.Ordering.{Ordering}
use Rattle.span_types.specs.Orders.{trace_cmp}
use Rattle.column_scan.specs.declared.picks.Pick.{Pick}

abbrev pub pick_cmp : Pick → Pick → Ordering
pick_cmp p q = trace_cmp p.trace q.trace

-- its trace isn't after the other's
abbrev pub is_not_after : Pick → Pick → Bool
is_not_after p q = not (is_gt (pick_cmp p q))

abbrev pub later_of : Pick → Pick → Pick
later_of p q = if nat_lt p.latest q.latest then q else p
