use Rattle.column_scan.proofs.HintLaws.{answer_holds}
use Rattle.column_scan.proofs.laws.answers_hold_the_text.Goals as goal

pub returns : goal.returns
returns c = λ ps rows q text result asks outcome. answer_holds ps rows q text result asks outcome
