use Rattle.std.proofs.Common.{◌≡◌, ℕ, ◌<◌, true, List, length, take, sym, ap, ◌∙◌, arith}
use Rattle.span_types.specs.declared.attrs.Attr.{Attr}
use Rattle.span_types.specs.Promises.{has_key}
use Rattle.otlp_spans.proofs.KeyLemmas.{settled-removed}
use Rattle.otlp_spans.proofs.attributes.few_firsts.Goals as goal

pub loop-kept-preserved-then-has_key : goal.loop-kept-preserved-then-has_key
loop-kept-preserved-then-has_key c =
    let items = c.loop-kept.firsts.items in
    let kept = c.loop-kept.kept in
    let low : kept < length items = omega (arith, c.loop-kept-test.true, c.len.ensures) in
    let there : has_key c.index.result.now.key (take kept items) ≡ true =
    sym (ap (λ (k : List ℕ). has_key k (take kept items)) c.as_str.ensures)
    ∙ sym (ap (λ (l : List Attr). has_key c.as_str.result.now (take kept l)) c.deref.ensures.value)
    ∙ sym c.has_key.ensures
    ∙ c.if-has_key.true in (
      c.loop-kept.invariant.0 ∙ settled-removed items c.remove.new.self.items kept c.index.result.now low c.index.ensures there c.remove.ensures.by_index.2,
      omega (arith, low, c.remove.ensures.len),
    )
