-- The tokens whose text is fixed, and how each is written.
use Rattle.std.specs.Prelude.{ℕ, List, codes}
use Rattle.traceql_tokens.specs.declared.fixed.Sign.{Sign}
use Rattle.traceql_tokens.specs.declared.fixed.Sign.TheVariants as sign
use Rattle.traceql_tokens.specs.declared.fixed.Word.{Word}
use Rattle.traceql_tokens.specs.declared.fixed.Word.TheVariants as word
use Rattle.traceql_tokens.specs.declared.fixed.Intrinsic.{Intrinsic}
use Rattle.traceql_tokens.specs.declared.fixed.Intrinsic.TheVariants as intrinsic
use Rattle.traceql_tokens.specs.declared.fixed.AttributeScope.{AttributeScope}
use Rattle.traceql_tokens.specs.declared.fixed.AttributeScope.TheVariants as attributescope
use Rattle.traceql_tokens.specs.declared.units.TimeUnit.{TimeUnit}
use Rattle.traceql_tokens.specs.declared.units.TimeUnit.TheVariants as unit

-- how a sign is written
abbrev pub sign_text : Sign → List ℕ
sign_text sign.OpenBrace = codes "{"
sign_text sign.CloseBrace = codes "}"
sign_text sign.OpenParen = codes "("
sign_text sign.CloseParen = codes ")"
sign_text sign.Comma = codes ","
sign_text sign.Bar = codes "|"
sign_text sign.BarBar = codes "||"
sign_text sign.Amp = codes "&"
sign_text sign.AmpAmp = codes "&&"
sign_text sign.Greater = codes ">"
sign_text sign.GreaterGreater = codes ">>"
sign_text sign.Less = codes "<"
sign_text sign.LessLess = codes "<<"
sign_text sign.Tilde = codes "~"
sign_text sign.Bang = codes "!"
sign_text sign.BangEqual = codes "!="
sign_text sign.BangTilde = codes "!~"
sign_text sign.BangGreater = codes "!>"
sign_text sign.BangGreaterGreater = codes "!>>"
sign_text sign.BangLess = codes "!<"
sign_text sign.BangLessLess = codes "!<<"
sign_text sign.AmpGreater = codes "&>"
sign_text sign.AmpGreaterGreater = codes "&>>"
sign_text sign.AmpLess = codes "&<"
sign_text sign.AmpLessLess = codes "&<<"
sign_text sign.AmpTilde = codes "&~"
sign_text sign.Equal = codes "="
sign_text sign.EqualTilde = codes "=~"
sign_text sign.GreaterEqual = codes ">="
sign_text sign.LessEqual = codes "<="
sign_text sign.Plus = codes "+"
sign_text sign.Minus = codes "-"
sign_text sign.Star = codes "*"
sign_text sign.Slash = codes "/"
sign_text sign.Percent = codes "%"
sign_text sign.Caret = codes "^"

-- how a word is written
abbrev pub word_text : Word → List ℕ
word_text word.True = codes "true"
word_text word.False = codes "false"
word_text word.Nil = codes "nil"
word_text word.Error = codes "error"
word_text word.Fine = codes "ok"
word_text word.Unset = codes "unset"
word_text word.Server = codes "server"
word_text word.Client = codes "client"
word_text word.Producer = codes "producer"
word_text word.Consumer = codes "consumer"
word_text word.Internal = codes "internal"
word_text word.Unspecified = codes "unspecified"
word_text word.By = codes "by"
word_text word.Coalesce = codes "coalesce"
word_text word.Select = codes "select"
word_text word.Count = codes "count"
word_text word.Avg = codes "avg"
word_text word.Min = codes "min"
word_text word.Max = codes "max"
word_text word.Sum = codes "sum"
word_text word.Rate = codes "rate"
word_text word.CountOverTime = codes "count_over_time"

-- how an intrinsic is written
abbrev pub intrinsic_text : Intrinsic → List ℕ
intrinsic_text intrinsic.Name = codes "name"
intrinsic_text intrinsic.SpanName = codes "span:name"
intrinsic_text intrinsic.Status = codes "status"
intrinsic_text intrinsic.SpanStatus = codes "span:status"
intrinsic_text intrinsic.StatusMessage = codes "statusMessage"
intrinsic_text intrinsic.SpanStatusMessage = codes "span:statusMessage"
intrinsic_text intrinsic.Kind = codes "kind"
intrinsic_text intrinsic.SpanKind = codes "span:kind"
intrinsic_text intrinsic.Duration = codes "duration"
intrinsic_text intrinsic.SpanDuration = codes "span:duration"
intrinsic_text intrinsic.SpanId = codes "span:id"
intrinsic_text intrinsic.TraceId = codes "trace:id"
intrinsic_text intrinsic.SpanParentId = codes "span:parentID"
intrinsic_text intrinsic.TraceDuration = codes "traceDuration"
intrinsic_text intrinsic.TraceColonDuration = codes "trace:duration"
intrinsic_text intrinsic.RootName = codes "rootName"
intrinsic_text intrinsic.TraceRootName = codes "trace:rootName"
intrinsic_text intrinsic.RootServiceName = codes "rootServiceName"
intrinsic_text intrinsic.TraceRootService = codes "trace:rootService"
intrinsic_text intrinsic.InstrumentationName = codes "instrumentation:name"
intrinsic_text intrinsic.InstrumentationVersion = codes "instrumentation:version"

-- how an attribute begins, the dot included
abbrev pub scope_text : AttributeScope → List ℕ
scope_text attributescope.Any = codes "."
scope_text attributescope.Span = codes "span."
scope_text attributescope.Resource = codes "resource."
scope_text attributescope.Instrumentation = codes "instrumentation."

-- how a unit is written
abbrev pub unit_text : TimeUnit → List ℕ
unit_text unit.Nanos = codes "ns"
unit_text unit.Micros = codes "us"
unit_text unit.Millis = codes "ms"
unit_text unit.Seconds = codes "s"
unit_text unit.Minutes = codes "m"
unit_text unit.Hours = codes "h"

-- its nanoseconds
abbrev pub unit_nanos : TimeUnit → ℕ
unit_nanos unit.Nanos = 1
unit_nanos unit.Micros = 1_000
unit_nanos unit.Millis = 1_000_000
unit_nanos unit.Seconds = 1_000_000_000
unit_nanos unit.Minutes = 60_000_000_000
unit_nanos unit.Hours = 3_600_000_000_000
