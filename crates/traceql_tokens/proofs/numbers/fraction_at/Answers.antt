use Rattle.std.proofs.Common.{◌≡◌, length, drop, ap, sym, ◌∙◌, arith}
use Rattle.std.proofs.lemmas.List.{take_rest, nil_from_length}
use Rattle.traceql_tokens.specs.NumberWalk.{whole_at, after_whole}
use Rattle.traceql_tokens.proofs.NumberSteps.{fraction_dot, after_dot}
use Rattle.traceql_tokens.proofs.numbers.fraction_at.Goals as goal

pub returns-then-is_empty-2-clause-digits : goal.returns-then-is_empty-2-clause-digits
returns-then-is_empty-2-clause-digits c =
    let bs = c.args.bytes.now in
    let found : c.digits_at.result.0.now ≡ whole_at (drop 1 bs) = c.digits_at.ensures.digits ∙ ap whole_at (take_rest bs 1) in
    let none : length c.digits_at.result.0.now ≡ 0 = grind arith in
    sym (nil_from_length c.digits_at.result.0.now none) ∙ found ∙ sym (fraction_dot bs c.if-bytes-ne46.false)

pub returns-clause-digits : goal.returns-clause-digits
returns-clause-digits c =
    let bs = c.args.bytes.now in
    c.digits_at.ensures.digits ∙ ap whole_at (take_rest bs 1) ∙ sym (fraction_dot bs c.if-bytes-ne46.false)

pub returns-clause-rest : goal.returns-clause-rest
returns-clause-rest c =
    let bs = c.args.bytes.now in
    let found : c.digits_at.result.0.now ≡ whole_at (drop 1 bs) = c.digits_at.ensures.digits ∙ ap whole_at (take_rest bs 1) in
    let some : length c.digits_at.result.0.now ≡ 0 → ⊥ = grind arith in
    c.digits_at.ensures.rest ∙ ap after_whole (take_rest bs 1) ∙ sym (after_dot bs c.if-bytes-ne46.false (λ z. some (ap length found ∙ z)))
