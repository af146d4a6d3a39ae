use Rattle.std.proofs.Common.{◌≡◌, ◌++◌, append_assoc, subst, sym}
use Rattle.std.specs.Prelude.{OnOk}
use Rattle.span_types.specs.declared.spans.Span.{Span}
use Rattle.byte_fields.proofs.Results.{on_ok_more}
use Rattle.byte_fields.proofs.Promised.{id_sound, parent_sound}
use Rattle.head_log.specs.Bodies.{extras_bytes, span_bytes}
use Rattle.head_log.specs.Written.{AreSoundExtras, IsSoundAlone}
use Rattle.head_log.proofs.writing.put_span.Goals as goal

pub returns-clause-written : goal.returns-clause-written
unfolding span_bytes
returns-clause-written c =
    subst (λ (s : Span). OnOk c.put_extras.result (c.put_extras.new.out ≡ c.args.out.now ++ span_bytes c.args.extended s)) c.span.view_is
    (on_ok_more c.put_extras.result _ _ c.put_extras.ensures.written (λ last.
    let more = subst (λ (s : Span). c.put_extras.new.out ≡ c.put_attrs.new.out ++ extras_bytes c.args.extended s.events s.links) (sym c.span.view_is) last in
    rw (more, c.in_ok-put_attrs.ensures.written, c.in_ok-put_text-2.ensures.written, c.in_ok-put_status.ensures, c.in_ok-put_moment-2.ensures.written, c.in_ok-put_moment.ensures.written, c.in_ok-put_kind.ensures, c.in_ok-put_text.ensures.written, c.in_ok-put_parent.ensures.written, c.in_ok-put_id.ensures.written, c.in_ok-put_trace.ensures.written)
    (simp append_assoc)))

pub returns-clause-sound : goal.returns-clause-sound
returns-clause-sound c =
    subst (λ (s : Span). OnOk c.put_extras.result (IsSoundAlone c.args.extended s)) c.span.view_is
    (on_ok_more c.put_extras.result _ _ c.put_extras.ensures.sound (λ extras. record {
      trace = id_sound c.in_ok-put_trace.ensures.sound c.span.invariant.of_trace;
      id = id_sound c.in_ok-put_id.ensures.sound c.span.invariant.of_span;
      parent = parent_sound c.span.inside.parent c.in_ok-put_parent.ensures.sound c.span.invariant.of_parent;
      name = c.in_ok-put_text.ensures.sound;
      start = c.in_ok-put_moment.ensures.sound;
      ended = c.in_ok-put_moment-2.ensures.sound;
      message = c.in_ok-put_text-2.ensures.sound;
      attrs = c.in_ok-put_attrs.ensures.sound;
      extras = subst (AreSoundExtras c.args.extended) (sym c.span.view_is) extras;
    }))
