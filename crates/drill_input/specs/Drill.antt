-- The lines of the drill: which words of a generator give which spans.
use Rattle.std.specs.Prelude.{◌≡◌, ℕ, zero, suc, ◌+◌, ◌*◌, ◌%◌, ◌^◌, ◌<◌, List, [], ◌∷◌, ◌++◌, codes, decimal, pos}
use Rattle.std.specs.Prelude.{false, if◌then◌else◌, slice_set, Option, Some, None, IfSome, unwrap_or}
use Rattle.std.specs.Int.{w64, to_be_bytes}
use Rattle.rand_xoshiro.specs.SplitMix64.{splitmix_seed}
use Rattle.rand_xoshiro.specs.Xoshiro256.{of_seed, plus_plus}
use Rattle.span_types.specs.declared.attrs.Attr.{Attr}
use Rattle.span_types.specs.declared.attrs.AttrValue.{AttrValue}
use Rattle.span_types.specs.declared.attrs.AttrValue.TheVariants.{Text, Whole}
use Rattle.span_types.specs.declared.ids.SpanId.{SpanId}
use Rattle.span_types.specs.declared.ids.TraceId.{TraceId}
use Rattle.span_types.specs.declared.spans.Span.{Span}
use Rattle.span_types.specs.declared.spans.SpanKind.TheVariants.{Unspecified}
use Rattle.span_types.specs.declared.spans.StatusCode.TheVariants.{Unset}
use Rattle.span_types.specs.Numbers.{code_numbered, kind_numbered}
use Rattle.span_types.specs.Promises.{all_zero}
use Rattle.otlp_spans.specs.Writing.{trace_text}
use Rattle.drill_input.specs.declared.span.Drawn.{Drawn}
use Rattle.drill_input.specs.declared.span.Origin.{Origin}

-- ---- drawing

-- A drawing is a function of a generator's state: what it gives there, and the state after it.
abbrev pub Drawing : Type 0 → Type 0
Drawing A = List ℕ → A × List ℕ

-- A value for which nothing is drawn.
abbrev pub given : {A : Type 0} → A → Drawing A
given x = λ s. (x, s)

-- A drawing, and then the one that what it gave asks for.
infixl 10 ◌>>=◌
abbrev pub ◌>>=◌ : {A B : Type 0} → Drawing A → (A → Drawing B) → Drawing B
d >>= f = λ s. f (d s).0 (d s).1

-- The state of xoshiro256++ for a line: seeded by the sum modulo 2^64.
unfoldable pub seeded : ℕ → ℕ → List ℕ
seeded seed index = of_seed (splitmix_seed 32 ((seed + index) % 2 ^ 64))

-- The next word of xoshiro256++.
unfoldable pub word : Drawing ℕ
word s = plus_plus s

-- The next word modulo n.
unfoldable pub below : ℕ → Drawing ℕ
below n = do
  w ← word
  given (w % n)

-- ---- ids

-- Two words, high bytes first. Where all bytes are zeros, the last one is 1.
abbrev pub sixteen : ℕ → ℕ → List ℕ
sixteen a b = to_be_bytes w64 a ++ to_be_bytes w64 b

unfoldable pub trace_of : ℕ → ℕ → TraceId
trace_of a b = record { 0 = if all_zero (sixteen a b) then slice_set (sixteen a b) 15 1 else sixteen a b }

unfoldable pub drawn_trace : Drawing TraceId
drawn_trace = do
  a ← word
  b ← word
  given (trace_of a b)

-- A number's eight bytes, the high one first.
unfoldable pub span_number : ℕ → SpanId
span_number n = record { 0 = to_be_bytes w64 n }

-- ---- spans

-- The parent of span j is one of the spans before it. Span 0 has none, and no word is drawn for it.
unfoldable pub drawn_parent : ℕ → Drawing (Option SpanId)
drawn_parent zero = given None
drawn_parent (suc i) = do
  p ← below (suc i)
  given (Some (span_number (1 + p)))

-- What is drawn for span j, in this order.
unfoldable pub drawn_numbers : ℕ → Drawing Drawn
drawn_numbers j = do
  parent ← drawn_parent j
  name ← below 5
  kind ← below 6
  status ← below 3
  duration ← below 1000000
  code ← below 4
  given (record {
    parent = parent;
    name = name;
    kind = unwrap_or (kind_numbered kind) Unspecified;
    status = unwrap_or (code_numbered status) Unset;
    duration = duration;
    code = code;
  })

-- A list of one attribute.
abbrev pub attr_of : List ℕ → AttrValue → List Attr
attr_of key value = record { key = key; value = value } ∷ []

-- Span j, from 0: its id is j + 1, and it begins j microseconds after the first.
unfoldable pub span_of : Origin → ℕ → Drawn → Span
span_of origin j drawn = record {
  trace = origin.trace;
  id = span_number (j + 1);
  parent = drawn.parent;
  name = codes "op-" ++ decimal drawn.name;
  kind = drawn.kind;
  start = origin.start + 1000 * j;
  end = origin.start + 1000 * j + drawn.duration;
  status = drawn.status;
  message = [];
  attrs = attr_of (codes "http.status_code") (Whole (pos (200 + 100 * drawn.code)));
  resource = origin.resource;
  scope = origin.scope;
  events = [];
  links = [];
}

unfoldable pub drawn_span : Origin → ℕ → Drawing Span
drawn_span origin j = do
  drawn ← drawn_numbers j
  given (span_of origin j drawn)

-- So many spans from span j on, in order.
unfoldable pub drawn_spans : Origin → ℕ → ℕ → Drawing (List Span)
drawn_spans origin j zero = given []
drawn_spans origin j (suc count) = do
  span ← drawn_span origin j
  later ← drawn_spans origin (j + 1) count
  given (span ∷ later)

-- ---- lines

-- What the spans of a line share: a service as resource, an empty scope, and a start that the index tells.
unfoldable pub origin_of : TraceId → ℕ → ℕ → Origin
origin_of trace service index = record {
  trace = trace;
  resource = record { attrs = attr_of (codes "service.name") (Text (codes "svc-" ++ decimal service)) };
  scope = record { name = []; version = []; attrs = [] };
  start = 1700000000000000000 + 1000000 * index;
}

-- The spans of a line: the trace's id, the service and the number of spans are drawn before them.
unfoldable pub drawn_line : ℕ → Drawing (List Span)
drawn_line index = do
  trace ← drawn_trace
  service ← below 3
  more ← below 8
  drawn_spans (origin_of trace service index) 0 (1 + more)

-- The trace that all of them are of.
abbrev pub drill_trace : ℕ → ℕ → TraceId
drill_trace seed index = (drawn_trace (seeded seed index)).0

unfoldable pub drill_spans : ℕ → ℕ → List Span
drill_spans seed index = (drawn_line index (seeded seed index)).0

-- A line: the text of its spans as a trace.
unfoldable pub drill_line : ℕ → ℕ → List ℕ
drill_line seed index = trace_text (drill_spans seed index)

-- ---- for private clauses

-- a parent that has a name, a duration below a millisecond, and one of four codes
pub record IsInRange (drawn : Drawn) : Type 0 where
  pub parent : IfSome drawn.parent (λ p. all_zero p.0 ≡ false)
  pub duration : drawn.duration < 1000000
  pub code : drawn.code < 4
