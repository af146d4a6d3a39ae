use Rattle.std.proofs.Common.{◌≡◌, ◌≤◌, false, [], Err, codes, length, refl, sym, subst, inl, arith}
use Rattle.std.specs.Str.{bytes_eq}
use Rattle.std.proofs.lemmas.Grind.{common_steps}
use Rattle.traceql_types.proofs.Calls.{refuses-none}
use Rattle.io_edges.specs.Lines.{line_limit}
use Rattle.session_text.specs.declared.refusal.Refusal.TheVariants.{BadRequest}
use Rattle.session_text.specs.Lines.{first_part}
use Rattle.session_text.specs.Requests.{Answers, Line}
use Rattle.session_text.proofs.TextLemmas.{of_bytes, of_text}
use Rattle.session_text.proofs.reading.read_request.Goals as goal

pub returns-in-Ok-clause-asked : goal.returns-in-Ok-clause-asked
returns-in-Ok-clause-asked g c =
    let short : length c.args.line.now ≤ line_limit = omega arith in
    let no : bytes_eq (first_part c.args.line.now) (codes "push") ≡ false = grind (arith, common_steps) in
    let asked = c.asked_by.ensures.asked in
    (asked.0, asked.1, subst (λ (l : Line). Answers l asked.0 c.asked_by.result) (sym (of_text c.args.moment c.args.line.now c.in-Ok.text.now short no c.in-Ok.ensures.cases)) asked.2)

pub returns-in-Err-clause-asked : goal.returns-in-Err-clause-asked
returns-in-Err-clause-asked g c =
    let short : length c.args.line.now ≤ line_limit = omega arith in
    let no : bytes_eq (first_part c.args.line.now) (codes "push") ≡ false = grind (arith, common_steps) in (
      [],
      refuses-none g.P.PatternMaker.makes c.args.maker.now c.args.maker.now c.args.maker.now,
      subst (λ (l : Line). Answers l [] (Err (BadRequest 0))) (sym (of_bytes c.args.moment c.args.line.now short no c.in-Err.ensures.cases.0)) (inl refl, refl),
    )
