use Rattle.std.proofs.Common.{◌++◌, ℕ, List, refl, ◌∙◌, ap, arith}
use Rattle.span_types.specs.declared.spans.Span.{Span}
use Rattle.store_model.specs.History.{batch_rows}
use Rattle.store_model.specs.State.{LiveRow}
use Rattle.store_model.specs.After.{arrived}
use Rattle.store_core.proofs.Revived.{none_revived, revived_more, revived_past}
use Rattle.store_core.proofs.reviving.revive.Goals as goal

pub loop-entry-init : goal.loop-entry-init
loop-entry-init c = record { live = none_revived c.args.live.now.live c.args.moment c.args.floor; head = refl; flushing = refl }

pub loop-entry-preserved-then-entry-floor : goal.loop-entry-preserved-then-entry-floor
loop-entry-preserved-then-entry-floor c =
    let now = c.loop-entry.live.live in
    let moment = c.args.moment in
    let e = c.in-Some.entry in
    let ready = c.in-Ok.ensures.ready in
    let same = c.reserve.ensures.same in
    record {
      live = revived_more c.args.live.now.live now c.add.new.self.live moment c.args.floor c.loop-entry.yielded e (omega (arith, c.if-entry-floor.true)) c.loop-entry.invariant.live
          (c.add.ensures.added
          ∙ ap (λ (l : List LiveRow). l ++ arrived moment (batch_rows c.in-Ok.ready.number c.in-Ok.ready.spans)) same.0
          ∙ ap (λ (n : ℕ). now ++ arrived moment (batch_rows n c.in-Ok.ready.spans)) ready.0
          ∙ ap (λ (s : List Span). now ++ arrived moment (batch_rows e.number s)) ready.1);
      head = c.add.ensures.same.0 ∙ same.1 ∙ c.loop-entry.invariant.head;
      flushing = c.add.ensures.same.1 ∙ same.2 ∙ c.loop-entry.invariant.flushing;
    }

pub loop-entry-preserved : goal.loop-entry-preserved
loop-entry-preserved c = record {
  live = revived_past c.args.live.now.live c.loop-entry.live.live c.args.moment c.args.floor c.loop-entry.yielded c.in-Some.entry (omega (arith, c.if-entry-floor.false)) c.loop-entry.invariant.live;
  head = c.loop-entry.invariant.head;
  flushing = c.loop-entry.invariant.flushing;
}

pub returns-in_default-clause-same : goal.returns-in_default-clause-same
returns-in_default-clause-same c = (c.reserve.ensures.same.1 ∙ c.loop-entry.invariant.head, c.reserve.ensures.same.2 ∙ c.loop-entry.invariant.flushing)

pub returns-clause-same : goal.returns-clause-same
returns-clause-same c = (c.loop-entry.invariant.head, c.loop-entry.invariant.flushing)
