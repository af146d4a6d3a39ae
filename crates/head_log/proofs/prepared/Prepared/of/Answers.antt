use Rattle.std.proofs.Common.{◌≡◌, ◌-◌, ◌∷◌, [], ◌++◌, ℕ, List, length, drop, ap, ◌∙◌, arith, subst}
use Rattle.span_types.specs.declared.spans.Batch.{Batch}
use Rattle.span_types.specs.declared.spans.Span.{Span}
use Rattle.byte_fields.specs.Spelling.{fixed64_bytes}
use Rattle.head_log.specs.Bodies.{are_extended, body_bytes}
use Rattle.head_log.specs.Framing.{body_of}
use Rattle.head_log.specs.Records.{framed}
use Rattle.head_log.specs.Stands.{IsBatchBody}
use Rattle.head_log.specs.Written.{AreSoundResources}
use Rattle.head_log.proofs.FramingLemmas.{is_framed, body_is, IsFramed-of}
use Rattle.head_log.proofs.Promised.{spans_sound}
use Rattle.head_log.proofs.prepared.Prepared.of.Goals as goal
use Rattle.head_log.proofs.prepared.Prepared.of.Goals.{After-set_length}

-- the text is the framed body
made : (c : After-set_length) → c.set_length.new.text.items ≡ framed (body_bytes c.args.number c.batch.inside.spans)
made c =
    let body = body_bytes c.args.number c.batch.inside.spans in
    let start = c.in_ok-fixed64.ensures.ok ∙ ap (λ (o : List ℕ). o ++ fixed64_bytes 0) c.new-out.ensures in
    let middle = c.in_ok-put_body.ensures.written ∙ ap (λ (o : List ℕ). o ++ body_bytes c.args.number c.as_slice.result.now) start ∙ ap (λ (s : List Span). ([] ++ fixed64_bytes 0) ++ body_bytes c.args.number s) c.as_slice.ensures in
    let was = c.into_vec-text.ensures ∙ c.finish.ensures ∙ c.in_ok-byte.ensures.ok ∙ ap (λ (o : List ℕ). o ++ 0 ∷ []) middle in
    let size : c.len.result ≡ length c.into_vec-text.result.items = omega (arith, c.len.ensures, c.into_vec-text.result.ok.0) in
    is_framed body c.into_vec-text.result.items c.set_length.new.text.items was (c.set_length.ensures ∙ ap (λ (k : ℕ). fixed64_bytes (k - 9) ++ drop 8 c.into_vec-text.result.items) size)

pub invariant_of-result : goal.invariant_of-result
invariant_of-result c = IsFramed-of _ c.set_length.new.text.items (made c) (let n = c.set_length.new.text.small in omega (arith, c.set_length.new.text.ok.0))

pub returns-clause-spelled : goal.returns-clause-spelled
returns-clause-spelled c =
    subst (λ (b : Batch). body_of c.set_length.new.text.items ≡ body_bytes c.args.number b.spans) c.batch.view_is (body_is _ c.set_length.new.text.items (made c))

-- The batch's type promises how many spans it has, and what was written what the types of the spans promise.
pub returns-clause-body : goal.returns-clause-body
returns-clause-body c = λ below.
    let runs_are = subst (λ (l : List Span). AreSoundResources (are_extended l) l) c.as_slice.ensures c.in_ok-put_body.ensures.sound in
    subst (λ (b : Batch). IsBatchBody c.args.number b.spans (body_of c.set_length.new.text.items)) c.batch.view_is
    (record {
      spelled = body_is _ c.set_length.new.text.items (made c);
      sound = record { below = below; few = c.batch.invariant; each = spans_sound c.batch.inside.spans runs_are };
    })
