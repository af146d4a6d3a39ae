use Rattle.std.proofs.Common.{◌≡◌, ◌++◌, ℕ, List, replicate, subst, ◌∙◌, ap}
use Rattle.std.specs.Prelude.{OnOk}
use Rattle.std.proofs.lemmas.List.{take-replicate}
use Rattle.block_stripes.proofs.fill.put_fill.Goals as goal

pub returns : goal.returns
returns c =
    subst (λ (l : List ℕ). OnOk c.raw.result (c.raw.new.self ≡ c.args.out.now ++ l))
    (take-replicate {X = ℕ} c.fill_size.result 4096 0 c.fill_size.ensures.few ∙ ap (λ (k : ℕ). replicate {A = ℕ} k 0) c.fill_size.ensures.size) c.raw.ensures.ok
