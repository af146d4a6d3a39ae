use Rattle.std.proofs.Common.{sym, ◌∙◌}
use Rattle.std.proofs.lemmas.Bool.{false≢true}
use Rattle.otlp_spans.proofs.JsonLemmas.{json_of-none, json_of-some}
use Rattle.otlp_spans.proofs.read.read_json.Goals as goal

pub returns-in-Ok-clause-ok : goal.returns-in-Ok-clause-ok
returns-in-Ok-clause-ok c = json_of-some c.args.line.now _ c.in-Ok.ensures.ok

-- Where the error isn't one of memory, there is no reading of bytes in UTF-8.
pub returns-else-is_memory-clause-not_json : goal.returns-else-is_memory-clause-not_json
returns-else-is_memory-clause-not_json c =
    λ _. json_of-none c.args.line.now (c.in-Err.ensures.err (λ m. false≢true (sym c.if-is_memory.false ∙ c.is_memory.ensures.1 m)))
