use Rattle.std.proofs.Common.{◌≤◌, ℕ, List, length, sym, subst, ap}
use Rattle.std.specs.List.{flat_map}
use Rattle.span_types.specs.declared.spans.Row.{Row}
use Rattle.compactor.specs.Rounds.{IsJoined}
use Rattle.compactor.proofs.BuildLaws.{joined_block}
use Rattle.compactor.proofs.building.build_block.Goals as goal

pub join-requires-clause-some : goal.join-requires-clause-some
join-requires-clause-some c = subst (λ (parts : List (List Row)). 1 ≤ length (flat_map (λ (rows : List Row). rows) parts)) (sym c.as_slice.ensures.value) c.requires.some

pub join-requires-clause-few : goal.join-requires-clause-few
join-requires-clause-few c = subst (λ (parts : List (List Row)). length (flat_map (λ (rows : List Row). rows) parts) ≤ 1048576) (sym c.as_slice.ensures.value) c.requires.few

pub returns : goal.returns
returns c =
    subst (λ (bytes : List ℕ). IsJoined c.args.file c.args.level c.args.parts.items bytes c.in_ok-block.block.info) (sym c.in_ok-block.ensures.bytes)
    (joined_block c.args.file c.args.level c.args.parts.items (flat_map (λ (rows : List Row). rows) c.as_slice.result.now) c.in_ok-built.built c.in_ok-block.block.info
    (ap (λ (parts : List (List Row)). flat_map (λ (rows : List Row). rows) parts) c.as_slice.ensures.value) c.in_ok-built.ensures c.in_ok-block.ensures.info)
