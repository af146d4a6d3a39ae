use Rattle.std.proofs.Common.{[], refl, sym, ◌∙◌, subst}
use Rattle.client_run.proofs.CallLemmas.{holds_kept}
use Rattle.session_text.specs.declared.refusal.Refusal.TheVariants as refusal
use Rattle.session_text.specs.declared.reply.Reply.TheVariants.{Refused}
use Rattle.session_meaning.specs.Act.Act.{Ask, Reopen, Unread}
use Rattle.session_meaning.specs.Over.{IsDoneOver}
use Rattle.store_core.specs.Port.{port_of}
use Rattle.store_reopen.specs.declared.store.Store.TheVariants.{Closed, Open}
use Rattle.traceql_types.proofs.Calls.{refuses-none}
use Rattle.trace_shell.specs.Turn.{IsHeld}
use Rattle.trace_shell.proofs.session.act_on.Goals as goal

pub answer-reply-requires-after_bounds : goal.answer-reply-requires-after_bounds
answer-reply-requires-after_bounds g c = λ κs outlives. subst (IsHeld g.D.Device) c.in-Open.is c.requires

pub returns-then-is_reopen-clause-done : goal.returns-then-is_reopen-clause-done
returns-then-is_reopen-clause-done g c = (
  [],
  refuses-none g.P.PatternMaker.makes _ c.args.patterns.now c.args.patterns.now,
  Reopen c.args.moment,
  (sym c.is_reopen.ensures ∙ c.if-is_reopen.true, refl, refl),
  c.reopen.ensures.done,
)

pub returns-in-Open-clause-done : goal.returns-in-Open-clause-done
returns-in-Open-clause-done g c =
    let answered = c.answer-reply.ensures in
    let later = c.answer-reply.new.port in (
      answered.0,
      answered.1,
      Ask answered.2,
      (sym c.is_reopen.ensures ∙ c.if-is_reopen.false, answered.3),
      subst (λ x. IsDoneOver g.D.Device (Ask answered.2) x c.answer-reply.result (Open later)) (sym c.in-Open.is) (later, refl, answered.4),
    )

pub returns-in-Open-clause-held : goal.returns-in-Open-clause-held
returns-in-Open-clause-held g c =
    let one = c.answer-reply.ensures.4 in
    holds_kept (port_of g.D.Device) c.in-Open.core c.answer-reply.new.port one.calls one.made (subst (IsHeld g.D.Device) c.in-Open.is c.requires)

pub returns-in-Closed-clause-done : goal.returns-in-Closed-clause-done
returns-in-Closed-clause-done g c = (
  [],
  refuses-none g.P.PatternMaker.makes _ c.args.patterns.now c.args.patterns.now,
  Unread,
  (sym c.is_reopen.ensures ∙ c.if-is_reopen.false, refl),
  subst (λ x. IsDoneOver g.D.Device Unread x (Refused refusal.Closed) (Closed c.in-Closed.disk)) (sym c.in-Closed.is) (refl, refl),
)
