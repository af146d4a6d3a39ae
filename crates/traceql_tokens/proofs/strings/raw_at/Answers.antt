use Rattle.std.proofs.Common.{◌≡◌, ◌+◌, length, get_or, not, eqb, sym, ap, ◌∙◌, arith, Err}
use Rattle.std.proofs.lemmas.Str.{IsCharBoundary-before_ascii}
use Rattle.std.specs.List.{prefix_len}
use Rattle.traceql_tokens.specs.declared.kinds.Fault.TheVariants as fault
use Rattle.traceql_tokens.proofs.StringCases.{raw_open, raw_stops}
use Rattle.traceql_tokens.proofs.strings.raw_at.Goals as goal

pub returns-then-len-bytes : goal.returns-then-len-bytes
returns-then-len-bytes c =
    let body = c.args.body.now in
    let same_len : length c.as_bytes-bytes.result.now ≡ length body = ap length c.as_bytes-bytes.ensures.value in
    let found : c.raw_len-len.result ≡ prefix_len (λ b. not (eqb b 96)) body = c.raw_len-len.ensures ∙ ap (prefix_len (λ b. not (eqb b 96))) c.as_bytes-bytes.ensures.value in
    ap (λ n. (Err (fault.Unended c.args.at), n + 1)) same_len ∙ sym (raw_open c.args.at body (omega arith))

pub range-requires-clause-end_boundary : goal.range-requires-clause-end_boundary
range-requires-clause-end_boundary c =
    let body = c.args.body.now in
    let same_len : length c.as_bytes-bytes.result.now ≡ length body = ap length c.as_bytes-bytes.ensures.value in
    let found : c.raw_len-len.result ≡ prefix_len (λ b. not (eqb b 96)) body = c.raw_len-len.ensures ∙ ap (prefix_len (λ b. not (eqb b 96))) c.as_bytes-bytes.ensures.value in
    let byte : get_or body c.raw_len-len.result 0 ≡ 96 = ap (λ n. get_or body n 0) found ∙ raw_stops body (omega arith) in
    IsCharBoundary-before_ascii body c.raw_len-len.result (omega arith) (omega arith)
