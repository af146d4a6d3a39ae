use Rattle.std.proofs.Common.{◌≡◌, ◌++◌, ◌∷◌, [], ◌+◌, ◌-◌, length, get_or, take, drop, Some, ap, sym, ◌∙◌, arith, string_bytes, encode_utf8}
use Rattle.std.specs.List.{prefix_len}
use Rattle.std.proofs.lemmas.Str.{IsCharBoundary-after_ascii}
use Rattle.traceql_print.specs.Text.{escape_letter, escaped_text}
use Rattle.traceql_print.proofs.Escapes.{is_plain, letter_ascii, at_letter, stop_boundary, escaped_stops, escaped_next, joined}
use Rattle.traceql_print.proofs.string.push_escaped.Goals as goal

pub range-requires-clause-end_boundary : goal.range-requires-clause-end_boundary
range-requires-clause-end_boundary c =
    stop_boundary c.loop-letter.rest.now c.plain_len-plain.result (c.plain_len-plain.ensures ∙ ap (prefix_len is_plain) c.as_bytes-bytes.ensures.value)

pub returns-then-plain-bytes : goal.returns-then-plain-bytes
returns-then-plain-bytes c =
    let rest = c.loop-letter.rest.now in
    let n = c.plain_len-plain.result in
    let same_len : length c.as_bytes-bytes.result.now ≡ length rest = ap length c.as_bytes-bytes.ensures.value in
    let found : n ≡ prefix_len is_plain rest = c.plain_len-plain.ensures ∙ ap (prefix_len is_plain) c.as_bytes-bytes.ensures.value in
    let stops : escaped_text rest ≡ take n rest = escaped_stops rest n found (omega arith) in
    let whole : n - 0 ≡ n = omega arith in
    let run : c.range.result.now ≡ take n rest = c.range.ensures.value ∙ ap (λ m. take m rest) whole in
    c.in_ok-push_str.ensures.bytes ∙ ap (λ t. string_bytes c.loop-letter.out ++ t) (run ∙ sym stops) ∙ c.loop-letter.invariant.1

pub returns-in_default : goal.returns-in_default
returns-in_default c =
    let rest = c.loop-letter.rest.now in
    let n = c.plain_len-plain.result in
    let same_len : length c.as_bytes-bytes.result.now ≡ length rest = ap length c.as_bytes-bytes.ensures.value in
    let found : n ≡ prefix_len is_plain rest = c.plain_len-plain.ensures ∙ ap (prefix_len is_plain) c.as_bytes-bytes.ensures.value in
    let letter = at_letter rest n found (omega arith) in
    absurd (c.in_default.not-Some letter.0 (c.escape_letter.ensures ∙ ap (λ t. escape_letter (get_or t n 0)) c.as_bytes-bytes.ensures.value ∙ letter.1))

pub range_from-rest-requires : goal.range_from-rest-requires
range_from-rest-requires c =
    let rest = c.loop-letter.rest.now in
    let n = c.plain_len-plain.result in
    let same_len : length c.as_bytes-bytes.result.now ≡ length rest = ap length c.as_bytes-bytes.ensures.value in
    let byte : escape_letter (get_or rest n 0) ≡ Some c.in-Some.letter = ap (λ t. escape_letter (get_or t n 0)) (sym c.as_bytes-bytes.ensures.value) ∙ sym c.escape_letter.ensures ∙ c.in-Some.is in
    λ _. IsCharBoundary-after_ascii rest n c.loop-letter.invariant.0 (omega arith) (letter_ascii (get_or rest n 0) c.in-Some.letter byte).0

pub loop-letter-preserved : goal.loop-letter-preserved
loop-letter-preserved c =
    let rest = c.loop-letter.rest.now in
    let n = c.plain_len-plain.result in
    let same_len : length c.as_bytes-bytes.result.now ≡ length rest = ap length c.as_bytes-bytes.ensures.value in
    let found : n ≡ prefix_len is_plain rest = c.plain_len-plain.ensures ∙ ap (prefix_len is_plain) c.as_bytes-bytes.ensures.value in
    let byte : escape_letter (get_or rest n 0) ≡ Some c.in-Some.letter = ap (λ t. escape_letter (get_or t n 0)) (sym c.as_bytes-bytes.ensures.value) ∙ sym c.escape_letter.ensures ∙ c.in-Some.is in
    let next = escaped_next rest n c.in-Some.letter found (omega arith) byte in
    let left : c.range_from-rest.result.now ≡ drop (n + 1) rest = c.range_from-rest.ensures.value in
    let whole : n - 0 ≡ n = omega arith in
    let run : c.range.result.now ≡ take n rest = c.range.ensures.value ∙ ap (λ m. take m rest) whole in
    let out = string_bytes c.loop-letter.out in
    let first : string_bytes c.push_str.new.self ≡ out ++ take n rest = c.in_ok-push_str.ensures.bytes ∙ ap (λ t. out ++ t) run in
    let second : string_bytes c.push.new.self ≡ string_bytes c.push_str.new.self ++ encode_utf8 92 = c.in_ok-push.ensures.bytes in
    let slash : encode_utf8 92 ≡ 92 ∷ [] = c.in_ok-push.ensures.ascii (omega arith) in
    let third : string_bytes c.push-in-loop-letter.new.self ≡ string_bytes c.push.new.self ++ encode_utf8 c.in-Some.letter = c.in_ok-push-2.ensures.bytes in
    let one : encode_utf8 c.in-Some.letter ≡ c.in-Some.letter ∷ [] = c.in_ok-push-2.ensures.ascii (letter_ascii (get_or rest n 0) c.in-Some.letter byte).1 in (
      c.range_from-rest.utf8,
      ap (λ t. string_bytes c.push-in-loop-letter.new.self ++ escaped_text t) left
          ∙ joined out (string_bytes c.push_str.new.self) (string_bytes c.push.new.self) (string_bytes c.push-in-loop-letter.new.self) (take n rest) (encode_utf8 c.in-Some.letter) (escaped_text (drop (n + 1) rest)) (escaped_text rest) (encode_utf8 92) c.in-Some.letter first second slash third one next
          ∙ c.loop-letter.invariant.1,
    )
