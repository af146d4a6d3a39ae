use Rattle.std.proofs.Common.{rules, ◌≡◌, [], ◌∷◌, Some, sym, ap, subst, ◌∙◌}
use Rattle.atomic_table.specs.Table.{opening}
use Rattle.shared_store.specs.Rule.{IsKept, first_view}
use Rattle.shared_store.proofs.Splits.{begins}
use Rattle.shared_store.proofs.shared.SharedPort.new.Goals as goal

pub new-requires : goal.new-requires
new-requires g c =
    let key = c.of-about.result.value in
    let is : key ≡ c.args.port = search rules in
    let there : c.push.new.self.items ≡ Some c.args.port ∷ [] = search rules in
    subst (λ xs. IsKept g.Q.LookPort.meaning key (opening (0 ∷ 0 ∷ []) xs (first_view key))) (ap (λ x. Some x ∷ []) is ∙ sym there)
    (begins g.Q.LookPort.meaning key c.requires.unshared (subst (λ x. g.Q.LookPort.meaning.holds x []) (sym is) c.requires.untouched))
