-- The texts and numbers that are a span's ids, times, kind and status code.
use Rattle.std.specs.Prelude.{ℕ, ◌^◌, ◌==◌, ◌&&◌, List, [], ◌∷◌, length, codes, nat_lt, nat_le, if◌then◌else◌, Option, Some, None, unwrap_or, ℤ, pos, neg_ℤ}
use Rattle.std.specs.Char.{is_ascii_digit}
use Rattle.std.specs.List.{list_all}
use Rattle.std.specs.Option.{option_or}
use Rattle.std.specs.Result.{result_ok}
use Rattle.std.specs.Str.{bytes_eq}
use Rattle.std.specs.Str.Parse.{digits_value}
use Rattle.hex.specs.Hex.{decode_sized}
use Rattle.serde_json.specs.Data.{Data}
use Rattle.serde_json.specs.Find.{as_i64, as_number, as_str, as_u64}
use Rattle.span_types.specs.declared.ids.SpanId.{SpanId}
use Rattle.span_types.specs.declared.ids.TraceId.{TraceId}
use Rattle.span_types.specs.declared.spans.SpanKind.{SpanKind}
use Rattle.span_types.specs.declared.spans.SpanKind.TheVariants.{Unspecified, Internal, Server, Client, Producer, Consumer}
use Rattle.span_types.specs.declared.spans.StatusCode.{StatusCode}
use Rattle.span_types.specs.declared.spans.StatusCode.TheVariants.{Unset, Fine, Error}
use Rattle.span_types.specs.Numbers.{code_numbered, kind_numbered}
use Rattle.span_types.specs.Promises.{all_zero}
use Rattle.otlp_spans.specs.Json.{◌>>=◌}

-- ---- ids

-- The n bytes that 2n hexadecimal digits of either case write.
abbrev pub bytes_of : ℕ → List ℕ → Option (List ℕ)
bytes_of n text = result_ok (decode_sized text n)

-- A trace's id is 32 digits and not all zeros.
abbrev pub trace_id_of : List ℕ → Option TraceId
trace_id_of text = do
  bytes ← bytes_of 16 text
  if all_zero bytes then None else Some (record { 0 = bytes })

-- A span's id is 16 digits and not all zeros.
abbrev pub span_id_of : List ℕ → Option SpanId
span_id_of text = do
  bytes ← bytes_of 8 text
  if all_zero bytes then None else Some (record { 0 = bytes })

-- A parent is 16 digits. The empty text and sixteen zeros are no parent.
abbrev pub parent_of : List ℕ → Option (Option SpanId)
parent_of [] = Some None
parent_of (c ∷ cs) = do
  bytes ← bytes_of 8 (c ∷ cs)
  Some (if all_zero bytes then None else Some (record { 0 = bytes }))

-- ---- whole numbers

-- One or more decimal digits whose number is below 2 ^ 64. A sign is no digit, and leading zeros are.
abbrev pub moment_of : List ℕ → Option ℕ
moment_of text =
    if nat_lt 0 (length text) && list_all is_ascii_digit text && nat_lt (digits_value 10 text) (2 ^ 64) then Some (digits_value 10 text)
    else None

-- A number with a minus before it, where 64 signed bits hold it; a number without.
abbrev pub minus_of : ℕ → Option ℤ
minus_of n = if nat_le n (2 ^ 63) then Some (neg_ℤ (pos n)) else None

abbrev pub plus_of : ℕ → Option ℤ
plus_of n = if nat_lt n (2 ^ 63) then Some (pos n) else None

-- What follows a minus at the beginning of a text.
abbrev pub after_minus : List ℕ → Option (List ℕ)
after_minus [] = None
after_minus (c ∷ cs) = if c == 45 then Some cs else None

-- Such digits with or without a minus before them.
abbrev pub signed_by : Option (List ℕ) → List ℕ → Option ℤ
signed_by (Some digits) text = moment_of digits >>= minus_of
signed_by None text = moment_of text >>= plus_of

abbrev pub signed_of : List ℕ → Option ℤ
signed_of text = signed_by (after_minus text) text

-- A JSON number that serde_json keeps as a whole number from 0 to 2 ^ 64 - 1, or a text of its digits.
unfoldable pub whole_of : Data → Option ℕ
whole_of d = option_or (as_number d >>= as_u64) (as_str d >>= moment_of)

-- The same of 64 signed bits.
unfoldable pub int_of : Data → Option ℤ
int_of d = option_or (as_number d >>= as_i64) (as_str d >>= signed_of)

-- ---- kinds and codes

abbrev pub kind_named : List ℕ → Option SpanKind
kind_named name =
    if bytes_eq name (codes "SPAN_KIND_UNSPECIFIED") then Some Unspecified
    else if bytes_eq name (codes "SPAN_KIND_INTERNAL") then Some Internal
    else if bytes_eq name (codes "SPAN_KIND_SERVER") then Some Server
    else if bytes_eq name (codes "SPAN_KIND_CLIENT") then Some Client
    else if bytes_eq name (codes "SPAN_KIND_PRODUCER") then Some Producer
    else if bytes_eq name (codes "SPAN_KIND_CONSUMER") then Some Consumer
    else None

abbrev pub code_named : List ℕ → Option StatusCode
code_named name =
    if bytes_eq name (codes "STATUS_CODE_UNSET") then Some Unset
    else if bytes_eq name (codes "STATUS_CODE_OK") then Some Fine
    else if bytes_eq name (codes "STATUS_CODE_ERROR") then Some Error
    else None

-- A kind is its number, or its name in OTLP. Everything else counts as unspecified.
abbrev pub kind_of : Data → SpanKind
kind_of d = unwrap_or (option_or (whole_of d >>= kind_numbered) (as_str d >>= kind_named)) Unspecified

-- A status code likewise, with unset for everything else.
abbrev pub code_of : Data → StatusCode
code_of d = unwrap_or (option_or (whole_of d >>= code_numbered) (as_str d >>= code_named)) Unset
