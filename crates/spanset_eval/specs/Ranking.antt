-- Which of several results come first.
use Rattle.std.specs.Prelude.{◌≡◌, ℕ, List, take}
use Rattle.std.specs.declared.cmp.Ordering.{Ordering}
use Rattle.std.specs.Ordering.{nat_cmp, ordering_then}
use Rattle.std.specs.List.Sorted.{IsPermutation, IsSorted}
use Rattle.span_types.specs.Orders.{trace_cmp}
use Rattle.spanset_eval.specs.declared.results.TraceResult.{TraceResult}

-- the latest start first; of one start by trace id
abbrev pub rank_cmp : TraceResult → TraceResult → Ordering
rank_cmp a b = ordering_then (nat_cmp b.start a.start) (trace_cmp a.trace b.trace)

-- the first ones, at most so many, of all results in their order
pub record AreFirst (results : List TraceResult) (limit : ℕ) (first : List TraceResult) : Type 0 where
  pub all : List TraceResult
  pub same : IsPermutation results all
  pub sorted : IsSorted rank_cmp all
  pub first_are : first ≡ take limit all
