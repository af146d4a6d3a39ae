use Rattle.std.proofs.Common.{◌∙◌, ap, map, subst}
use Rattle.column_scan.specs.Candidates.{spans_of}
use Rattle.column_scan.specs.Sieves.{AreSifted, SieveParts, only_hint}
use Rattle.column_scan.proofs.Latest.{by_hint_alone}
use Rattle.column_scan.proofs.blocks.candidates.Goals as goal

pub returns-in-Ok-traces_of-clause-answers : goal.returns-in-Ok-traces_of-clause-answers
returns-in-Ok-traces_of-clause-answers g c = λ told rows has.
    let picks = c.in-Ok-picks_of_block.picks.items in
    let sifted = subst (λ (s : SieveParts). AreSifted s (spans_of rows) picks) (c.by_hint.ensures ∙ ap only_hint c.in-Ok.ensures) (c.in-Ok-picks_of_block.ensures.answers told rows has) in
    (picks, by_hint_alone c.args.hint.now (spans_of rows) picks sifted, c.of.ensures ∙ c.in-Ok-traces_of.ensures ∙ ap (map (λ p. p.trace)) c.as_slice.ensures.value)
