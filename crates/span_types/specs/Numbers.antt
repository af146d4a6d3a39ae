-- OTLP's numbers of span kinds and of status codes.
use Rattle.std.specs.Prelude.{ℕ, ◌==◌, if◌then◌else◌, Option, Some, None}
use Rattle.span_types.specs.declared.spans.SpanKind.{SpanKind}
use Rattle.span_types.specs.declared.spans.SpanKind.TheVariants.{Unspecified, Internal, Server, Client, Producer, Consumer}
use Rattle.span_types.specs.declared.spans.StatusCode.{StatusCode}
use Rattle.span_types.specs.declared.spans.StatusCode.TheVariants.{Unset, Fine, Error}

abbrev pub kind_number : SpanKind → ℕ
kind_number Unspecified = 0
kind_number Internal = 1
kind_number Server = 2
kind_number Client = 3
kind_number Producer = 4
kind_number Consumer = 5

abbrev pub kind_numbered : ℕ → Option SpanKind
kind_numbered n =
    if n == 0 then Some Unspecified
    else if n == 1 then Some Internal
    else if n == 2 then Some Server
    else if n == 3 then Some Client
    else if n == 4 then Some Producer
    else if n == 5 then Some Consumer
    else None

abbrev pub code_number : StatusCode → ℕ
code_number Unset = 0
code_number Fine = 1
code_number Error = 2

abbrev pub code_numbered : ℕ → Option StatusCode
code_numbered n = if n == 0 then Some Unset else if n == 1 then Some Fine else if n == 2 then Some Error else None
