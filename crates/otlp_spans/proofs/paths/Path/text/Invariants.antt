use Rattle.std.proofs.Common.{◌≡◌, ◌++◌, reverse, string_bytes, length}
use Rattle.otlp_spans.specs.Forms.{path_text, steps_text}
use Rattle.otlp_spans.proofs.paths.Path.text.Given as goal

-- what is written, and the steps that are left
abbrev pub invariant-loop-step : goal.invariant-loop-step
invariant-loop-step l = string_bytes l.text ++ steps_text (reverse l.steps.items) ≡ path_text l.fn.self

abbrev pub decreases-loop-step : goal.decreases-loop-step
decreases-loop-step l = length l.steps.items
