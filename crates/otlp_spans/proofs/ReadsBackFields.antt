-- What is written for ids, moments, whole numbers, kinds and status codes reads back.
use Rattle.std.proofs.Common.{◌≡◌, ℕ, suc, ◌*◌, ◌^◌, ◌<◌, ◌≤◌, true, false, ltb, leb, ℤ, pos, negsuc, List, [], ◌∷◌, length, Option, Some, None, decimal, refl, arith, rules, lt-ltb, le-leb}
use Rattle.std.specs.Prelude.{FitsSigned, IfSome}
use Rattle.std.specs.Fmt.{signed_decimal}
use Rattle.std.specs.Int.{w64}
use Rattle.std.specs.Str.Parse.{digits_value}
use Rattle.std.proofs.lemmas.Bool.Decides.{nat_tests}
use Rattle.std.proofs.lemmas.Fmt.{decimal_nonempty, digits_decimal, digits_value-decimal}
use Rattle.hex.specs.Hex.{encode_lower, lower_digits}
use Rattle.hex.proofs.HexLemmas.{decode_of-encode_lower, decode_sized-twice, length-encode_with}
use Rattle.serde_json.specs.Data.{number, string, unsigned}
use Rattle.span_types.specs.declared.ids.SpanId.{SpanId}
use Rattle.span_types.specs.declared.ids.TraceId.{TraceId}
use Rattle.span_types.specs.declared.spans.SpanKind.{SpanKind}
use Rattle.span_types.specs.declared.spans.StatusCode.{StatusCode}
use Rattle.span_types.specs.Numbers.{code_number, code_numbered, kind_number, kind_numbered}
use Rattle.span_types.specs.Promises.{all_zero}
use Rattle.otlp_spans.specs.Fields.{after_minus, bytes_of, code_of, int_of, kind_of, moment_of, parent_of, signed_of, span_id_of, trace_id_of, whole_of}
use Rattle.otlp_spans.specs.Fits.{AreBytes}
use Rattle.otlp_spans.specs.Writing.{parent_text}
use Rattle.otlp_spans.proofs.FieldLemmas.{IsDigits, own}

-- ---- ids

bytes_back : (n : ℕ) (bytes : List ℕ) → AreBytes n bytes → bytes_of n (encode_lower bytes) ≡ Some bytes
bytes_back n bytes are =
    let twice : length (encode_lower bytes) ≡ 2 * n = omega (arith, length-encode_with lower_digits bytes, are.len) in
    rw (decode_sized-twice (encode_lower bytes) n twice, decode_of-encode_lower bytes are.fit) refl

pub trace_id_back : (id : TraceId) → AreBytes 16 id.0 → all_zero id.0 ≡ false → trace_id_of (encode_lower id.0) ≡ Some id
trace_id_back id are some = rw (bytes_back 16 id.0 are, some) refl

pub span_id_back : (id : SpanId) → AreBytes 8 id.0 → all_zero id.0 ≡ false → span_id_of (encode_lower id.0) ≡ Some id
span_id_back id are some = rw (bytes_back 8 id.0 are, some) refl

some_parent : (id : SpanId) (text : List ℕ) → 0 < length text → bytes_of 8 text ≡ Some id.0 → all_zero id.0 ≡ false → parent_of text ≡ Some (Some id)
some_parent id [] long is some = absurd (omega arith)
some_parent id (c ∷ cs) long is some = rw (is, some) refl

pub parent_back : (parent : Option SpanId) → IfSome parent (λ p. AreBytes 8 p.0) → IfSome parent (λ p. all_zero p.0 ≡ false) → parent_of (parent_text parent) ≡ Some parent
parent_back None are some = refl
parent_back (Some id) are some =
    some_parent id (encode_lower id.0) (omega (arith, length-encode_with lower_digits id.0, are.len)) (bytes_back 8 id.0 are) some

-- ---- numbers

pub moment_back : (n : ℕ) → n < 2 ^ 64 → moment_of (decimal n) ≡ Some n
moment_back n below =
    let some : ltb 0 (length (decimal n)) ≡ true = lt-ltb 0 (length (decimal n)) (decimal_nonempty n below) in
    let digits : IsDigits (decimal n) = digits_decimal own n below in
    let value : digits_value 10 (decimal n) ≡ n = digits_value-decimal own n below in
    let fits : ltb n (2 ^ 64) ≡ true = lt-ltb n (2 ^ 64) below in
    rw (some, digits, value, fits) refl

no_minus : (text : List ℕ) → IsDigits text → after_minus text ≡ None
no_minus [] digits = refl
no_minus (c ∷ cs) digits = grind (arith, nat_tests)

pub signed_back : (z : ℤ) → FitsSigned w64 z → signed_of (signed_decimal z) ≡ Some z
signed_back (pos n) fits =
    let below : n < 2 ^ 63 = omega arith in
    let plain = no_minus (decimal n) (digits_decimal own n (omega arith)) in
    let moment = moment_back n (omega arith) in
    let test : ltb n (2 ^ 63) ≡ true = lt-ltb n (2 ^ 63) below in
    rw (plain, moment, test) refl
signed_back (negsuc n) fits =
    let below : suc n ≤ 2 ^ 63 = omega arith in
    let moment = moment_back (suc n) (omega arith) in
    let test : leb (suc n) (2 ^ 63) ≡ true = le-leb (suc n) (2 ^ 63) below in
    rw (moment, test) refl

pub whole_back : (n : ℕ) → n < 2 ^ 64 → whole_of (string (decimal n)) ≡ Some n
unfolding whole_of
whole_back n below = moment_back n below

pub int_back : (z : ℤ) → FitsSigned w64 z → int_of (string (signed_decimal z)) ≡ Some z
unfolding int_of
int_back z fits = signed_back z fits

-- ---- kinds and codes

numbered_kind : (kind : SpanKind) → kind_numbered (kind_number kind) ≡ Some kind
numbered_kind kind = search rules

numbered_code : (code : StatusCode) → code_numbered (code_number code) ≡ Some code
numbered_code code = search rules

pub kind_back : (kind : SpanKind) → kind_of (number (unsigned (kind_number kind))) ≡ kind
unfolding whole_of
kind_back kind = rw (numbered_kind kind) refl

pub code_back : (code : StatusCode) → code_of (number (unsigned (code_number code))) ≡ code
unfolding whole_of
code_back code = rw (numbered_code code) refl
