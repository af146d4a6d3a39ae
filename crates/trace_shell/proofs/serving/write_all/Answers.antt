use Rattle.std.proofs.Common.{◌∙◌, Option, subst, sym}
use Rattle.session_meaning.specs.declared.ending.Ending.{Ending}
use Rattle.session_meaning.specs.ServedRuns.{all_replies}
use Rattle.session_meaning.specs.Serving.{served_texts}
use Rattle.trace_shell.specs.Serving.{HaveBeenGiven}
use Rattle.trace_shell.proofs.WritingLemmas.{cut_by_sink, cut_ends, not_by_sink, served_ends, starved_ends, told_by_tally}
use Rattle.trace_shell.proofs.serving.write_all.Goals as goal

pub returns-then-is_any_starved-clause-ends : goal.returns-then-is_any_starved-clause-ends
returns-then-is_any_starved-clause-ends g c =
    starved_ends (g.K.Sink.taken c.args.sink.now) c.args.answers.now (sym c.is_any_starved.ensures ∙ c.if-is_any_starved.true)

pub returns-in-Some-clause-ends : goal.returns-in-Some-clause-ends
returns-in-Some-clause-ends g c =
    let given = subst (λ (o : Option Ending). HaveBeenGiven (g.K.Sink.taken c.args.sink.now) (g.K.Sink.taken c.write_answers.new.sink) c.new-tally.result c.write_answers.new.tally
    (all_replies c.args.answers.now) (served_texts 0 c.args.answers.now) o) c.in-Some.is c.write_answers.ensures.given in
    cut_ends _ _ c.args.answers.now c.new-tally.result c.write_answers.new.tally c.in-Some.ending (sym c.is_any_starved.ensures ∙ c.if-is_any_starved.false) given

pub returns-in-Some-clause-endings : goal.returns-in-Some-clause-endings
returns-in-Some-clause-endings g c =
    let given = subst (λ (o : Option Ending). HaveBeenGiven (g.K.Sink.taken c.args.sink.now) (g.K.Sink.taken c.write_answers.new.sink) c.new-tally.result c.write_answers.new.tally
    (all_replies c.args.answers.now) (served_texts 0 c.args.answers.now) o) c.in-Some.is c.write_answers.ensures.given in
    cut_by_sink _ _ c.new-tally.result c.write_answers.new.tally (all_replies c.args.answers.now) (served_texts 0 c.args.answers.now) c.in-Some.ending given

pub returns-in-None-clause-ends : goal.returns-in-None-clause-ends
returns-in-None-clause-ends g c =
    let given = subst (λ (o : Option Ending). HaveBeenGiven (g.K.Sink.taken c.args.sink.now) (g.K.Sink.taken c.write_answers.new.sink) c.new-tally.result c.write_answers.new.tally
    (all_replies c.args.answers.now) (served_texts 0 c.args.answers.now) o) c.in-None.is c.write_answers.ensures.given in
    served_ends _ _ c.args.answers.now c.new-tally.result c.write_answers.new.tally c.ending.result (sym c.is_any_starved.ensures ∙ c.if-is_any_starved.false) c.new-tally.ensures given c.ending.ensures

pub returns-in-None-clause-write_fault : goal.returns-in-None-clause-write_fault
returns-in-None-clause-write_fault g c = λ is. absurd (not_by_sink c.write_answers.new.tally (sym c.ending.ensures ∙ is))

pub returns-in-None-clause-endings : goal.returns-in-None-clause-endings
returns-in-None-clause-endings g c =
    let told = told_by_tally c.write_answers.new.tally in
    (λ is. told.0 (sym c.ending.ensures ∙ is), λ is. told.1 (sym c.ending.ensures ∙ is))
