use Rattle.std.proofs.Common.{◌≡◌, ◌∙◌, ap, sym, subst}
use Rattle.std.specs.Prelude.{nat_eq}
use Rattle.std.specs.List.{list_any}
use Rattle.page_cache.proofs.FrameLaws.{not_marked}
use Rattle.page_cache.proofs.cache.key_of.Goals as goal

pub returns-then-not-contains : goal.returns-then-not-contains
returns-then-not-contains c =
    let seen : c.contains.result ≡ list_any (λ y. nat_eq y c.mark_of.result) c.args.marks.now.items =
    c.contains.ensures.value ∙ ap (λ marks. list_any (λ y. nat_eq y c.mark_of.result) marks) c.as_slice.ensures.value in
    sym (not_marked c.args.file c.args.page c.args.marks.now.items c.args.frames.now.entries c.requires
    (sym (subst (λ m. c.contains.result ≡ list_any (λ y. nat_eq y m) c.args.marks.now.items) c.mark_of.ensures seen) ∙ c.if-not-contains.true))
