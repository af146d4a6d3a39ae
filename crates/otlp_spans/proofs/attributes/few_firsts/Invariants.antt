use Rattle.std.proofs.Common.{◌≡◌, ◌-◌, ◌≤◌, [], length}
use Rattle.otlp_spans.specs.Attributes.{firsts_behind}
use Rattle.otlp_spans.proofs.KeyLemmas.{settled}
use Rattle.otlp_spans.proofs.attributes.few_firsts.Given as goal

-- what is kept, and what stays of the rest
abbrev pub invariant-loop-kept : goal.invariant-loop-kept
invariant-loop-kept l = (firsts_behind [] l.fn.attrs.items ≡ settled l.kept l.firsts.items) × (l.kept ≤ length l.firsts.items)

abbrev pub decreases-loop-kept : goal.decreases-loop-kept
decreases-loop-kept l = length l.firsts.items - l.kept
