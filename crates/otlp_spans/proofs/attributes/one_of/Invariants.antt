use Rattle.std.proofs.Common.{◌≡◌, drop}
use Rattle.std.specs.List.{cons_option, filter}
use Rattle.std.specs.Option.{is_some}
use Rattle.serde_json.specs.View.{view}
use Rattle.otlp_spans.specs.Forms.{found}
use Rattle.otlp_spans.proofs.attributes.one_of.Given as goal

-- the one that was found, and those that are found of the rest
abbrev pub invariant-loop-member : goal.invariant-loop-member
invariant-loop-member l = filter (λ k. is_some (found k (view l.value))) l.members ≡ cons_option l.one (filter (λ k. is_some (found k (view l.value))) (drop l.member-index l.members))
