use Rattle.std.proofs.Common.{◌≡◌, ◌+◌, ◌++◌, ◌∷◌, [], Some, None, cond, take, rules, sym, ap, ◌∙◌, ◌==◌}
use Rattle.std.specs.Option.{option_or}
use Rattle.std.proofs.lemmas.List.{map-append, take_more}
use Rattle.traceql_types.specs.Shown.{shown, shown_all}
use Rattle.traceql_value.specs.Matchers.{last_number, number_at, number_of}
use Rattle.traceql_value.proofs.Placing.{last_number-last, number_kept, number_put}
use Rattle.traceql_value.proofs.matchers.places_of.Goals as goal
use Rattle.traceql_value.proofs.matchers.places_of.Goals.{in-Some+in_ok-insert, in_default}

pub loop-pattern-preserved : goal.loop-pattern-preserved
loop-pattern-preserved c = λ at.
    let asked = c.as_slice-pattern-items.result.now in
    let i = c.loop-pattern.pattern-index in
    let m = c.pattern-item.result in
    let before = c.loop-pattern.places in
    let numbers = number_of c.args.numbers.now in
    let string = m.text.now in
    let more : shown_all (take (i + 1) asked) ≡ shown_all (take i asked) ++ shown m ∷ [] =
    ap shown_all (take_more asked i m c.loop-pattern-test.true ∙ ap (λ q. take i asked ++ q ∷ []) (sym c.pattern-item.is)) ∙ map-append shown (take i asked) (m ∷ []) in
    let next : option_or (cond (m.at == at) (numbers string) None) (number_at before at) ≡ last_number numbers (shown_all (take (i + 1) asked)) at =
    ap (option_or (cond (m.at == at) (numbers string) None)) (c.loop-pattern.invariant at)
    ∙ sym (last_number-last numbers (shown_all (take i asked)) (shown m) at) ∙ ap (λ ms. last_number numbers ms at) (sym more) in
    elim c.match-get.branch [
      | in-Some+in_ok-insert w ↦
          let found : numbers c.as_str.result.now ≡ Some w.in-Some.number.now = search rules in
          ap (λ ps. number_at ps at) w.places-is ∙ w.in_ok-insert.ensures.updates.0 at
          ∙ number_put m.at at w.in-Some.number.now (numbers string) (number_at before at) (ap numbers (sym c.as_str.ensures) ∙ found) ∙ next
      | in_default w ↦
          let none : numbers c.as_str.result.now ≡ None = search rules in
          ap (λ ps. number_at ps at) w.places-is ∙ number_kept m.at at (numbers string) (number_at before at) (ap numbers (sym c.as_str.ensures) ∙ none) ∙ next
    ]
