use Rattle.std.proofs.Common.{[], ◌∷◌, ◌<◌, List, None, Option, arith, length, subst}
use Rattle.std.specs.Prelude.{◌≡◌, IfSome}
use Rattle.std.proofs.lemmas.List.{take_all}
use Rattle.span_types.specs.Faults.{Rose}
use Rattle.session_text.specs.declared.reply.Reply.{Reply}
use Rattle.session_meaning.specs.declared.ending.Ending.{Ending}
use Rattle.session_meaning.specs.declared.ending.Ending.TheVariants.{WriteFault}
use Rattle.session_meaning.specs.Serving.{reply_to, texts_to}
use Rattle.trace_shell.specs.Serving.{HaveBeenGiven}
use Rattle.trace_shell.proofs.AloneLemmas.{rose_from}
use Rattle.trace_shell.proofs.WritingLemmas.{given_none, reply_cut, reply_more}
use Rattle.trace_shell.proofs.serving.write_replies.Goals as goal

pub loop-reply-init : goal.loop-reply-init
loop-reply-init g c = record { given = given_none (g.K.Sink.taken c.args.sink.now) c.args.tally.now; sink_counted = omega arith }

pub loop-reply-preserved : goal.loop-reply-preserved
loop-reply-preserved g c =
    let within : c.loop-reply.reply-index < length c.args.replies.now = omega arith in
    let one =
    subst (λ (o : Option Ending). HaveBeenGiven (g.K.Sink.taken c.loop-reply.sink) (g.K.Sink.taken c.write_to.new.sink) c.loop-reply.tally c.write_to.new.tally (c.reply-item.result ∷ [])
    (reply_to c.args.client c.reply-item.result ∷ []) o) c.in_default.is c.write_to.ensures.given in record {
      given = reply_more _ _ _ c.args.tally.now c.loop-reply.tally c.write_to.new.tally c.args.client c.args.replies.now c.loop-reply.reply-index c.reply-item.result within c.reply-item.is None c.loop-reply.invariant.given one;
      sink_counted = omega (arith, c.loop-reply.invariant.sink_counted, c.write_to.ensures.sink_counted);
    }

pub returns-in-Some-clause-given : goal.returns-in-Some-clause-given
returns-in-Some-clause-given g c =
    let within : c.loop-reply.reply-index < length c.args.replies.now = omega arith in
    let one =
    subst (λ (o : Option Ending). HaveBeenGiven (g.K.Sink.taken c.loop-reply.sink) (g.K.Sink.taken c.write_to.new.sink) c.loop-reply.tally c.write_to.new.tally (c.reply-item.result ∷ [])
    (reply_to c.args.client c.reply-item.result ∷ []) o) c.in-Some.is c.write_to.ensures.given in
    reply_cut _ _ _ c.args.tally.now c.loop-reply.tally c.write_to.new.tally c.args.client c.args.replies.now c.loop-reply.reply-index c.reply-item.result within c.reply-item.is c.in-Some.ending c.loop-reply.invariant.given one

pub returns-clause-given : goal.returns-clause-given
returns-clause-given g c =
    subst (λ (rs : List Reply). HaveBeenGiven (g.K.Sink.taken c.args.sink.now) (g.K.Sink.taken c.loop-reply.sink) c.args.tally.now c.loop-reply.tally rs (texts_to c.args.client rs) None)
    (take_all c.loop-reply.reply-index c.args.replies.now (omega arith)) c.loop-reply.invariant.given

pub returns-in-Some-clause-write_fault : goal.returns-in-Some-clause-write_fault
returns-in-Some-clause-write_fault g c = λ is.
    let rose = subst (λ (o : Option Ending). IfSome o (λ e. e ≡ WriteFault → Rose (g.K.Sink.faults c.loop-reply.sink) (g.K.Sink.faults c.write_to.new.sink))) c.in-Some.is c.write_to.ensures.write_fault in
    rose_from (g.K.Sink.faults c.args.sink.now) (g.K.Sink.faults c.loop-reply.sink) (g.K.Sink.faults c.write_to.new.sink) c.loop-reply.invariant.sink_counted (rose is)
