use Rattle.std.proofs.Common.{get_or, ap, sym, ◌∙◌, arith}
use Rattle.traceql_tokens.proofs.Decoding.{first_boundary}
use Rattle.traceql_tokens.proofs.strings.string_at.Goals as goal

pub range_from-requires : goal.range_from-requires
range_from-requires c =
    λ _. first_boundary c.args.text.now 34 c.utf8.text (ap (λ t. get_or t 0 0) (sym c.as_bytes-bytes.ensures.value) ∙ c.if-bytes-eq34.true) (omega arith) (omega arith)

pub range_from-requires-then-bytes-eq96 : goal.range_from-requires-then-bytes-eq96
range_from-requires-then-bytes-eq96 c =
    λ _. first_boundary c.args.text.now 96 c.utf8.text (ap (λ t. get_or t 0 0) (sym c.as_bytes-bytes.ensures.value) ∙ c.if-bytes-eq96.true) (omega arith) (omega arith)
