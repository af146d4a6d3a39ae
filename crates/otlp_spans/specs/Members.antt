-- The names of members, as OTLP/JSON has them.
use Rattle.std.specs.Prelude.{ℕ, List, codes}
use Rattle.otlp_spans.specs.declared.paths.Member.{Member}
use Rattle.otlp_spans.specs.declared.paths.Member.TheVariants as m

abbrev pub member_name : Member → List ℕ
member_name m.ResourceSpans = codes "resourceSpans"
member_name m.Resource = codes "resource"
member_name m.ScopeSpans = codes "scopeSpans"
member_name m.Scope = codes "scope"
member_name m.Spans = codes "spans"
member_name m.TraceId = codes "traceId"
member_name m.SpanId = codes "spanId"
member_name m.ParentSpanId = codes "parentSpanId"
member_name m.StartTime = codes "startTimeUnixNano"
member_name m.EndTime = codes "endTimeUnixNano"
member_name m.TimeUnixNano = codes "timeUnixNano"
member_name m.Name = codes "name"
member_name m.Version = codes "version"
member_name m.Kind = codes "kind"
member_name m.Status = codes "status"
member_name m.Message = codes "message"
member_name m.Code = codes "code"
member_name m.Attributes = codes "attributes"
member_name m.Events = codes "events"
member_name m.Links = codes "links"
member_name m.Key = codes "key"
member_name m.Value = codes "value"
member_name m.StringValue = codes "stringValue"
member_name m.BoolValue = codes "boolValue"
member_name m.IntValue = codes "intValue"
member_name m.DoubleValue = codes "doubleValue"
member_name m.ArrayValue = codes "arrayValue"
member_name m.KvlistValue = codes "kvlistValue"
member_name m.BytesValue = codes "bytesValue"

-- The order in which members of one object are tested.
abbrev pub member_rank : Member → ℕ
member_rank m.ResourceSpans = 0
member_rank m.Resource = 1
member_rank m.ScopeSpans = 2
member_rank m.Scope = 3
member_rank m.Spans = 4
member_rank m.TraceId = 5
member_rank m.SpanId = 6
member_rank m.ParentSpanId = 7
member_rank m.StartTime = 8
member_rank m.EndTime = 9
member_rank m.TimeUnixNano = 10
member_rank m.Name = 11
member_rank m.Version = 12
member_rank m.Kind = 13
member_rank m.Status = 14
member_rank m.Message = 15
member_rank m.Code = 16
member_rank m.Attributes = 17
member_rank m.Events = 18
member_rank m.Links = 19
member_rank m.Key = 20
member_rank m.Value = 21
member_rank m.StringValue = 22
member_rank m.BoolValue = 23
member_rank m.IntValue = 24
member_rank m.DoubleValue = 25
member_rank m.ArrayValue = 26
member_rank m.KvlistValue = 27
member_rank m.BytesValue = 28
