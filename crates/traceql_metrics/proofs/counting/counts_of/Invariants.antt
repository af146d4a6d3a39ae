-- So far the moments below the index are counted.
use Rattle.std.proofs.Common.{◌≡◌, ℕ, ◌<◌, length, take}
use Rattle.std.specs.Prelude.{count_by, slice_index}
use Rattle.traceql_metrics.specs.Series.{bucket_count, is_in_bucket}
use Rattle.traceql_metrics.proofs.counting.counts_of.Given as goal

abbrev pub invariant-loop-moment : goal.invariant-loop-moment
invariant-loop-moment l = record {
  one_each : length l.counts.items ≡ bucket_count l.steps.start l.steps.end l.steps.step;
  each : (i : ℕ) → i < length l.counts.items → slice_index l.counts.items i ≡ count_by (is_in_bucket l.steps.start l.steps.end l.steps.step i) (take l.moment-index l.moments);
}
