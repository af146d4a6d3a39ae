use Rattle.std.proofs.Common.{◌≡◌, ℕ, List, ◌/◌, ◌++◌, ◌∙◌, ap, sym, subst, map, take, drop, length}
use Rattle.std.proofs.lemmas.List.{map-append, take-append-drop}
use Rattle.spanset_eval.specs.Parts.{Ascend, arranged, part_of, insert_parts}
use Rattle.traceql_value.proofs.Orders.{value_cmp_total}
use Rattle.spanset_eval.proofs.PartLaws.{ascend_arranged, arranged-append}
use Rattle.spanset_eval.proofs.SelectLaws.{if_ok}
use Rattle.spanset_eval.proofs.parts.+arrange.Goals as goal

halves : {X : Type 0} (xs fs bs : List X) (n : ℕ) → fs ≡ take n xs → bs ≡ drop n xs → fs ++ bs ≡ xs
halves xs fs bs n f b = ap (λ ys. ys ++ bs) f ∙ ap (λ ys. take n xs ++ ys) b ∙ take-append-drop n xs

pub merge-requires-clause-left_up : goal.merge-requires-clause-left_up
merge-requires-clause-left_up t c = subst Ascend (sym c.in_ok-left-in_default.ensures) (ascend_arranged value_cmp_total (map part_of c.split_at.result.0.now))

pub merge-requires-clause-right_up : goal.merge-requires-clause-right_up
merge-requires-clause-right_up t c = subst Ascend (sym c.in_ok-right-in_default.ensures) (ascend_arranged value_cmp_total (map part_of c.split_at.result.1.now))

pub returns-in_ok-right-in_default : goal.returns-in_ok-right-in_default
returns-in_ok-right-in_default t c =
    let fs = c.split_at.result.0.now in
    let bs = c.split_at.result.1.now in
    let whole : map part_of fs ++ map part_of bs ≡ map part_of c.args.valued.now =
    sym (map-append part_of fs bs) ∙ ap (map part_of) (halves c.args.valued.now fs bs (length c.args.valued.now / 2) c.split_at.ensures.front c.split_at.ensures.back) in
    if_ok c.merge.result (λ parts. parts.items ≡ insert_parts c.in_ok-left-in_default.left.items c.in_ok-right-in_default.right.items) (λ parts. parts.items ≡ arranged (map part_of c.args.valued.now))
    (λ parts e.
    e ∙ ap (λ xs. insert_parts xs c.in_ok-right-in_default.right.items) c.in_ok-left-in_default.ensures ∙ ap (insert_parts (arranged (map part_of fs))) c.in_ok-right-in_default.ensures
    ∙ arranged-append value_cmp_total (map part_of fs) (map part_of bs) ∙ ap arranged whole)
    c.merge.ensures
