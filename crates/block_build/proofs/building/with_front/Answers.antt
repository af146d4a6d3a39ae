use Rattle.std.proofs.Common.{◌≡◌, ◌++◌, ℕ, List, length, drop, ap, ◌∙◌, arith}
use Rattle.std.proofs.lemmas.List.{take_at}
use Rattle.block_build.proofs.building.with_front.Goals as goal

pub returns : goal.returns
returns c =
    let v = c.args.bytes.now in
    let front = c.args.front.now in
    let whole : length c.replace_front.new.bytes ≡ v.len = omega (arith, c.replace_front.auto.bytes, c.deref_mut.ensures.len) in
    take_at c.replace_front.new.bytes (drop (length c.replace_front.new.bytes) v.items) v.len whole ∙ c.replace_front.ensures ∙ ap (λ (l : List ℕ). front ++ drop (length front) l) c.deref_mut.ensures.value
