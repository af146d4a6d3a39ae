use Rattle.std.proofs.Common.{sym, ◌∙◌}
use Rattle.std.specs.BTreeMap.{get}
use Rattle.span_types.specs.Orders.{key_cmp}
use Rattle.span_types.proofs.FirstLaws.{kept, let_go}
use Rattle.span_types.proofs.first.keep_first.Goals as goal

pub returns-in_ok-insert : goal.returns-in_ok-insert
returns-in_ok-insert c = λ k.
    c.in_ok-insert.ensures.updates.0 k
    ∙ kept (get key_cmp c.args.firsts.now) c.args.row c.key-key.result k c.key-key.ensures (sym c.comes_first.ensures ∙ c.if-comes_first.true)

pub returns-else-comes_first : goal.returns-else-comes_first
returns-else-comes_first c = λ k.
    let_go (get key_cmp c.args.firsts.now) c.args.row c.key-key.result k c.key-key.ensures (sym c.comes_first.ensures ∙ c.if-comes_first.false)
