use Rattle.otlp_spans.proofs.KeyLemmas.{key_added}
use Rattle.otlp_spans.proofs.attributes.is_new.Goals as goal

pub returns-in-Ok-clause-kept : goal.returns-in-Ok-clause-kept
returns-in-Ok-clause-kept c = λ before attr has same q. key_added c.args.key.now q.now before attr _ _ (c.in-Ok.ensures.updates.0 q) (has q) same
