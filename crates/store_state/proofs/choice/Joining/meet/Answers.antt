use Rattle.std.proofs.Common.{rules, ◌≡◌, ◌+◌, ◌-◌, ◌==◌, ◌&&◌, nat_le, true, ◌∙◌, ◌++◌, ◌∷◌, [], ap, arith, append_assoc}
use Rattle.store_state.specs.Pairing.{joined_at}
use Rattle.store_state.proofs.Choosing.{taken_on}
use Rattle.store_state.proofs.choice.Joining.meet.Goals as goal

pub returns : goal.returns
returns c = λ rest.
    let old = c.args.self.now in
    let block = c.args.block.now in
    let left : old.left ≡ (old.left - 1) + 1 = omega arith in
    let fits : ((block.level == old.level) && nat_le block.rows old.room) ≡ true = first_of (cc, search rules) in
    ap (λ xs. xs ++ joined_at old.level (old.room - block.rows) (old.left - 1) (c.args.at + 1) rest) c.in_ok-push.ensures.items
    ∙ append_assoc old.chosen.items (c.args.at ∷ []) (joined_at old.level (old.room - block.rows) (old.left - 1) (c.args.at + 1) rest)
    ∙ ap (λ xs. old.chosen.items ++ xs) (taken_on old.level old.room old.left (old.left - 1) c.args.at block rest left fits)
