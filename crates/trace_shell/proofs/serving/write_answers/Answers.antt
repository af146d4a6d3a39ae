use Rattle.std.proofs.Common.{◌<◌, List, None, Option, arith, length, subst}
use Rattle.std.specs.Prelude.{◌≡◌, IfSome}
use Rattle.std.proofs.lemmas.List.{take_all}
use Rattle.span_types.specs.Faults.{Rose}
use Rattle.client_scripts.specs.declared.script.Answered.{Answered}
use Rattle.session_text.specs.declared.reply.Reply.{Reply}
use Rattle.session_meaning.specs.declared.ending.Ending.{Ending}
use Rattle.session_meaning.specs.declared.ending.Ending.TheVariants.{WriteFault}
use Rattle.session_meaning.specs.ServedRuns.{all_replies}
use Rattle.session_meaning.specs.Serving.{served_texts, texts_to}
use Rattle.trace_shell.specs.Serving.{HaveBeenGiven}
use Rattle.trace_shell.proofs.AloneLemmas.{rose_from}
use Rattle.trace_shell.proofs.WritingLemmas.{client_cut, client_more, given_none}
use Rattle.trace_shell.proofs.serving.write_answers.Goals as goal

pub loop-client-init : goal.loop-client-init
loop-client-init g c = record { given = given_none (g.K.Sink.taken c.args.sink.now) c.args.tally.now; sink_counted = omega arith }

pub loop-client-preserved : goal.loop-client-preserved
loop-client-preserved g c =
    let within : c.loop-client.client < length c.args.answers.now = omega arith in
    let those =
    subst (λ (rs : List Reply). HaveBeenGiven (g.K.Sink.taken c.loop-client.sink) (g.K.Sink.taken c.write_replies.new.sink) c.loop-client.tally c.write_replies.new.tally rs
    (texts_to c.loop-client.client rs) c.write_replies.result) c.as_slice-replies.ensures.value c.write_replies.ensures.given in
    let given =
    subst (λ (o : Option Ending). HaveBeenGiven (g.K.Sink.taken c.loop-client.sink) (g.K.Sink.taken c.write_replies.new.sink) c.loop-client.tally c.write_replies.new.tally c.index-answers-client.result.replies.items
    (texts_to c.loop-client.client c.index-answers-client.result.replies.items) o) c.in_default.is those in record {
      given = client_more _ _ _ c.args.tally.now c.loop-client.tally c.write_replies.new.tally c.args.answers.now c.loop-client.client c.index-answers-client.result within c.index-answers-client.is None c.loop-client.invariant.given given;
      sink_counted = omega (arith, c.loop-client.invariant.sink_counted, c.write_replies.ensures.sink_counted);
    }

pub returns-in-Some-clause-given : goal.returns-in-Some-clause-given
returns-in-Some-clause-given g c =
    let within : c.loop-client.client < length c.args.answers.now = omega arith in
    let those =
    subst (λ (rs : List Reply). HaveBeenGiven (g.K.Sink.taken c.loop-client.sink) (g.K.Sink.taken c.write_replies.new.sink) c.loop-client.tally c.write_replies.new.tally rs
    (texts_to c.loop-client.client rs) c.write_replies.result) c.as_slice-replies.ensures.value c.write_replies.ensures.given in
    let given =
    subst (λ (o : Option Ending). HaveBeenGiven (g.K.Sink.taken c.loop-client.sink) (g.K.Sink.taken c.write_replies.new.sink) c.loop-client.tally c.write_replies.new.tally c.index-answers-client.result.replies.items
    (texts_to c.loop-client.client c.index-answers-client.result.replies.items) o) c.in-Some.is those in
    client_cut _ _ _ c.args.tally.now c.loop-client.tally c.write_replies.new.tally c.args.answers.now c.loop-client.client c.index-answers-client.result within c.index-answers-client.is c.in-Some.ending c.loop-client.invariant.given given

pub returns-clause-given : goal.returns-clause-given
returns-clause-given g c =
    subst (λ (given : List Answered). HaveBeenGiven (g.K.Sink.taken c.args.sink.now) (g.K.Sink.taken c.loop-client.sink) c.args.tally.now c.loop-client.tally (all_replies given) (served_texts 0 given) None)
    (take_all c.loop-client.client c.args.answers.now (omega arith)) c.loop-client.invariant.given

pub returns-in-Some-clause-write_fault : goal.returns-in-Some-clause-write_fault
returns-in-Some-clause-write_fault g c = λ is.
    let rose = subst (λ (o : Option Ending). IfSome o (λ e. e ≡ WriteFault → Rose (g.K.Sink.faults c.loop-client.sink) (g.K.Sink.faults c.write_replies.new.sink))) c.in-Some.is c.write_replies.ensures.write_fault in
    rose_from (g.K.Sink.faults c.args.sink.now) (g.K.Sink.faults c.loop-client.sink) (g.K.Sink.faults c.write_replies.new.sink) c.loop-client.invariant.sink_counted (rose is)
