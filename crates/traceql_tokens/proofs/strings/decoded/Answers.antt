use Rattle.std.proofs.Common.{◌≡◌, ◌+◌, ◌<◌, ◌≤◌, ◌⊎◌, inl, inr, length, get_or, drop, take, ap, sym, ◌∙◌, ◌∷◌, [], ◌++◌, arith, filter_map, string_bytes, encode_utf8, ◌-◌, None, Some}
use Rattle.std.specs.List.{prefix_len}
use Rattle.traceql_tokens.specs.Strings.{is_plain, meaning, escaped}
use Rattle.traceql_tokens.specs.StringWalk.{pieces, first_unknown}
use Rattle.traceql_tokens.proofs.Decoding.{decoded_stops, decoded_next, unknown_next, escaped_ascii, stop_boundary, next_boundary, joined}
use Rattle.traceql_tokens.proofs.strings.decoded.Goals as goal
use Rattle.traceql_tokens.proofs.strings.decoded.Goals.{then-plain-bytes-via-then-plain-bytes, then-plain-bytes-via-else-plain-bytes+then-bytes-plain-eq34}

pub range-requires-clause-end_boundary : goal.range-requires-clause-end_boundary
range-requires-clause-end_boundary c =
    stop_boundary c.loop-value.rest.now c.plain_len-plain.result (c.plain_len-plain.ensures ∙ ap (prefix_len is_plain) c.as_bytes-bytes.ensures.value)

pub returns-then-plain-bytes : goal.returns-then-plain-bytes
returns-then-plain-bytes c =
    let rest = c.loop-value.rest.now in
    let n = c.plain_len-plain.result in
    let same_len : length c.as_bytes-bytes.result.now ≡ length rest = ap length c.as_bytes-bytes.ensures.value in
    let found : n ≡ prefix_len is_plain rest = c.plain_len-plain.ensures ∙ ap (prefix_len is_plain) c.as_bytes-bytes.ensures.value in
    let stops : (length rest ≤ n + 1) ⊎ (get_or rest n 0 ≡ 34) =
    elim c.then-plain-bytes.branch [ then-plain-bytes-via-then-plain-bytes w ↦ inl (omega arith) | then-plain-bytes-via-else-plain-bytes+then-bytes-plain-eq34 w ↦ inr (ap (λ t. get_or t n 0) (sym c.as_bytes-bytes.ensures.value) ∙ w.if-bytes-plain-eq34.true) ] in
    let means : filter_map meaning (pieces rest) ≡ take n rest = decoded_stops rest n found stops in
    let whole : n - 0 ≡ n = omega arith in
    let run : c.range.result.now ≡ take n rest = c.range.ensures.value ∙ ap (λ m. take m rest) whole in
    c.in_ok-push_str.ensures.bytes ∙ ap (λ t. string_bytes c.loop-value.value ++ t) (run ∙ sym means) ∙ c.loop-value.invariant.2

pub returns-in_default : goal.returns-in_default
returns-in_default c =
    let rest = c.loop-value.rest.now in
    let n = c.plain_len-plain.result in
    let same_len : length c.as_bytes-bytes.result.now ≡ length rest = ap length c.as_bytes-bytes.ensures.value in
    let found : n ≡ prefix_len is_plain rest = c.plain_len-plain.ensures ∙ ap (prefix_len is_plain) c.as_bytes-bytes.ensures.value in
    let next = unknown_next rest n found (omega arith) (λ q. c.if-bytes-plain-eq34.false (ap (λ t. get_or t n 0) c.as_bytes-bytes.ensures.value ∙ q)) c.loop-value.invariant.1 in
    absurd (next.1 (ap (λ t. escaped (get_or t (n + 1) 0)) (sym c.as_bytes-bytes.ensures.value) ∙ sym c.escaped.ensures ∙ c.in_default.is))

pub range_from-rest-requires : goal.range_from-rest-requires
range_from-rest-requires c =
    let rest = c.loop-value.rest.now in
    let n = c.plain_len-plain.result in
    let same_len : length c.as_bytes-bytes.result.now ≡ length rest = ap length c.as_bytes-bytes.ensures.value in
    let byte : escaped (get_or rest (n + 1) 0) ≡ Some c.in-Some.character = ap (λ t. escaped (get_or t (n + 1) 0)) (sym c.as_bytes-bytes.ensures.value) ∙ sym c.escaped.ensures ∙ c.in-Some.is in
    λ _. next_boundary rest n c.loop-value.invariant.0 (omega arith) (escaped_ascii (get_or rest (n + 1) 0) c.in-Some.character byte).0

pub loop-value-preserved : goal.loop-value-preserved
loop-value-preserved c =
    let rest = c.loop-value.rest.now in
    let n = c.plain_len-plain.result in
    let same_len : length c.as_bytes-bytes.result.now ≡ length rest = ap length c.as_bytes-bytes.ensures.value in
    let found : n ≡ prefix_len is_plain rest = c.plain_len-plain.ensures ∙ ap (prefix_len is_plain) c.as_bytes-bytes.ensures.value in
    let byte : escaped (get_or rest (n + 1) 0) ≡ Some c.in-Some.character = ap (λ t. escaped (get_or t (n + 1) 0)) (sym c.as_bytes-bytes.ensures.value) ∙ sym c.escaped.ensures ∙ c.in-Some.is in
    let quote = λ (q : get_or rest n 0 ≡ 34). c.if-bytes-plain-eq34.false (ap (λ t. get_or t n 0) c.as_bytes-bytes.ensures.value ∙ q) in
    let more : n + 1 < length rest = omega arith in
    let next = unknown_next rest n found more quote c.loop-value.invariant.1 in
    let means = decoded_next rest n c.in-Some.character found more quote byte in
    let left : c.range_from-rest.result.now ≡ drop (n + 2) rest = c.range_from-rest.ensures.value in
    let unknown : first_unknown (pieces c.range_from-rest.result.now) ≡ None = ap (λ t. first_unknown (pieces t)) left ∙ next.0 in
    let whole : n - 0 ≡ n = omega arith in
    let run : c.range.result.now ≡ take n rest = c.range.ensures.value ∙ ap (λ m. take m rest) whole in
    let before = string_bytes c.loop-value.value in
    let between = string_bytes c.push_str.new.self in
    let after = string_bytes c.push.new.self in
    let first : between ≡ before ++ take n rest = c.in_ok-push_str.ensures.bytes ∙ ap (λ t. before ++ t) run in
    let second : after ≡ between ++ encode_utf8 c.in-Some.character = c.in_ok-push.ensures.bytes in
    let one : encode_utf8 c.in-Some.character ≡ c.in-Some.character ∷ [] = c.in_ok-push.ensures.ascii (escaped_ascii (get_or rest (n + 1) 0) c.in-Some.character byte).1 in (
      c.range_from-rest.utf8,
      unknown,
      ap (λ t. after ++ filter_map meaning (pieces t)) left
          ∙ joined before between after (take n rest) (encode_utf8 c.in-Some.character) (filter_map meaning (pieces (drop (n + 2) rest))) (filter_map meaning (pieces rest)) c.in-Some.character first second one means
          ∙ c.loop-value.invariant.2,
    )
