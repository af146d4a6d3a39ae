-- What every span of a line has, and how many there are.
use Rattle.std.proofs.Common.{◌≡◌, ℕ, ◌+◌, ◌≤◌, Bool, true, false, cond, List, [], ◌∷◌, ◌++◌, All, length, Option, Some, None, Result, Ok, Err, refl, sym, ap, ◌∙◌, subst, arith}
use Rattle.std.specs.Prelude.{IfOk, IfSome}
use Rattle.std.specs.List.{cons_option, filter_map, flat_map}
use Rattle.std.proofs.lemmas.List.{length-append}
use Rattle.std.proofs.lemmas.List.Elements.{All-append, All-cons, All-nil}
use Rattle.std.proofs.lemmas.Option.{same_Some}
use Rattle.serde_json.specs.Data.{Data}
use Rattle.serde_json.specs.Find.{as_str}
use Rattle.span_types.specs.declared.attrs.Attr.{Attr}
use Rattle.span_types.specs.declared.attrs.Resource.{Resource}
use Rattle.span_types.specs.declared.attrs.Scope.{Scope}
use Rattle.span_types.specs.declared.ids.SpanId.{SpanId}
use Rattle.span_types.specs.declared.ids.TraceId.{TraceId}
use Rattle.span_types.specs.declared.limits.TheConstants.{MOST_SPANS}
use Rattle.span_types.specs.declared.spans.Span.{Span}
use Rattle.span_types.specs.declared.spans.SpanEvent.{SpanEvent}
use Rattle.span_types.specs.declared.spans.SpanLink.{SpanLink}
use Rattle.span_types.specs.Promises.{AreDistinctAfter, AreNames, all_zero, has_key}
use Rattle.otlp_spans.specs.Attributes.{attrs_in, firsts_behind, list_in}
use Rattle.otlp_spans.specs.Fields.{bytes_of, parent_of, span_id_of, trace_id_of, whole_of}
use Rattle.otlp_spans.specs.Forms.{found}
use Rattle.otlp_spans.specs.Json.{◌>>=◌, total}
use Rattle.otlp_spans.specs.Reading.{IsReadable, IsReadableLink, attrs_from, event_of, event_time, ids_of, link_of, objects_of, objects_of_resource, parent_from, resource_from, resource_spans, scope_from, scope_spans, span_in, span_of, span_with, spans_of, trace_in}
use Rattle.otlp_spans.specs.Walk.{Adds}
use Rattle.otlp_spans.specs.declared.ids.SpanIds.{SpanIds}
use Rattle.otlp_spans.specs.declared.read.Reading.{Reading}
use Rattle.otlp_spans.proofs.KeyLemmas.{HasSameKeys, new_key, no_new_key}
use Rattle.otlp_spans.specs.declared.paths.Member.TheVariants as m

-- ---- steps and lists

-- both steps gave a value
both : {A B : Type 0} (o : Option A) (f : A → Option B) (y : B) → (o >>= f) ≡ Some y → (x : A) × (o ≡ Some x) × (f x ≡ Some y)
both None f y h = cc h
both (Some x) f y h = (x, refl, h)

one_more : {B : Type 0} (P : B → Type 0) (o : Option B) (ys : List B) → ((y : B) → o ≡ Some y → P y) → All P ys → All P (cons_option o ys)
one_more P None ys holds all = all
one_more P (Some y) ys holds all = All-cons P y ys (holds y refl) all

filter_map-all : {A B : Type 0} (f : A → Option B) (P : B → Type 0) → ((x : A) (y : B) → f x ≡ Some y → P y) → (xs : List A) → All P (filter_map f xs)
filter_map-all f P holds [] = All-nil P
filter_map-all f P holds (x ∷ xs) = one_more P (f x) _ (holds x) (filter_map-all f P holds xs)

flat_map-all : {A B : Type 0} (f : A → List B) (P : B → Type 0) → ((x : A) → All P (f x)) → (xs : List A) → All P (flat_map f xs)
flat_map-all f P holds [] = All-nil P
flat_map-all f P holds (x ∷ xs) = All-append P (f x) _ (holds x) (flat_map-all f P holds xs)

one_longer : {B : Type 0} (o : Option B) (ys : List B) → length (cons_option o ys) ≤ 1 + length ys
one_longer None ys = omega arith
one_longer (Some y) ys = omega arith

filter_map-short : {A B : Type 0} (f : A → Option B) (xs : List A) → length (filter_map f xs) ≤ length xs
filter_map-short f [] = omega arith
filter_map-short f (x ∷ xs) = let rest = filter_map-short f xs in let one = one_longer (f x) (filter_map f xs) in omega arith

flat_map-short : {A B : Type 0} (f : A → List B) (n : A → ℕ) → ((x : A) → length (f x) ≤ n x) → (xs : List A) → length (flat_map f xs) ≤ total n xs
flat_map-short f n short [] = omega arith
flat_map-short f n short (x ∷ xs) =
    let rest = flat_map-short f n short xs in let one = short x in let both_parts = length-append (f x) (flat_map f xs) in omega arith

-- ---- how many there are

scope_few : (resource : Resource) (d : Data) → length (scope_spans resource d) ≤ length (list_in m.Spans d)
unfolding scope_spans
scope_few resource d = filter_map-short _ (list_in m.Spans d)

resource_few : (d : Data) → length (resource_spans d) ≤ objects_of_resource d
unfolding resource_spans objects_of_resource
resource_few d = flat_map-short _ _ (scope_few (resource_from (found m.Resource d))) (list_in m.ScopeSpans d)

pub spans_few : (d : Data) → length (spans_of d) ≤ objects_of d
unfolding spans_of objects_of
spans_few d = flat_map-short _ _ resource_few (list_in m.ResourceSpans d)

-- ---- keys

by_key : (a : Attr) (before kept later : List Attr) (b : Bool) → has_key a.key before ≡ b → HasSameKeys before kept
    → ((k : List Attr) → HasSameKeys (before ++ a ∷ []) k → AreDistinctAfter k (firsts_behind (before ++ a ∷ []) later))
    → AreDistinctAfter kept (cond b (firsts_behind (before ++ a ∷ []) later) (a ∷ firsts_behind (before ++ a ∷ []) later))
by_key a before kept later true is same rest = rest kept (no_new_key a before kept is same)
by_key a before kept later false is same rest = (sym (same a.key) ∙ is, rest (kept ++ a ∷ []) (new_key a before kept same))

pub firsts_distinct : (before kept attrs : List Attr) → HasSameKeys before kept → AreDistinctAfter kept (firsts_behind before attrs)
firsts_distinct before kept [] same = tt
firsts_distinct before kept (a ∷ later) same =
    by_key a before kept later (has_key a.key before) refl same (λ k s. firsts_distinct (before ++ a ∷ []) k later s)

attrs_distinct : (d : Data) → AreDistinctAfter [] (attrs_in d)
unfolding attrs_in
attrs_distinct d = firsts_distinct [] [] _ (λ key. refl)

from_distinct : (o : Option Data) → AreDistinctAfter [] (attrs_from o)
from_distinct None = tt
from_distinct (Some d) = attrs_distinct d

-- ---- ids

named_trace : (bytes : List ℕ) (b : Bool) (t : TraceId) → all_zero bytes ≡ b → cond b None (Some (record { 0 = bytes })) ≡ Some t → all_zero t.0 ≡ false
named_trace bytes true t is h = cc h
named_trace bytes false t is h = ap (λ (x : TraceId). all_zero x.0) (sym (same_Some _ _ h)) ∙ is

trace_named : (text : List ℕ) (t : TraceId) → trace_id_of text ≡ Some t → all_zero t.0 ≡ false
trace_named text t h = let bytes = both (bytes_of 16 text) _ t h in named_trace bytes.0 (all_zero bytes.0) t refl bytes.2

named_span : (bytes : List ℕ) (b : Bool) (i : SpanId) → all_zero bytes ≡ b → cond b None (Some (record { 0 = bytes })) ≡ Some i → all_zero i.0 ≡ false
named_span bytes true i is h = cc h
named_span bytes false i is h = ap (λ (x : SpanId). all_zero x.0) (sym (same_Some _ _ h)) ∙ is

span_named : (text : List ℕ) (i : SpanId) → span_id_of text ≡ Some i → all_zero i.0 ≡ false
span_named text i h = let bytes = both (bytes_of 8 text) _ i h in named_span bytes.0 (all_zero bytes.0) i refl bytes.2

abbrev IsNamed : Option SpanId → Type 0
IsNamed p = IfSome p (λ i. all_zero i.0 ≡ false)

named_parent : (bytes : List ℕ) (b : Bool) → all_zero bytes ≡ b → IsNamed (cond b None (Some (record { 0 = bytes })))
named_parent bytes true is = tt
named_parent bytes false is = is

parent_named : (text : List ℕ) (p : Option SpanId) → parent_of text ≡ Some p → IsNamed p
parent_named [] p h = subst IsNamed (same_Some _ _ h) tt
parent_named (c ∷ cs) p h =
    let bytes = both (bytes_of 8 (c ∷ cs)) _ p h in
    subst IsNamed (same_Some _ _ bytes.2) (named_parent bytes.0 (all_zero bytes.0) refl)

from_named : (o : Option Data) (p : Option SpanId) → parent_from o ≡ Some p → IsNamed p
from_named None p h = subst IsNamed (same_Some _ _ h) tt
from_named (Some d) p h = let text = both (as_str d) parent_of p h in parent_named text.0 p text.2

ids_of_link : (d : Data) (t : TraceId) (i : SpanId) → trace_in d ≡ Some t → span_in d ≡ Some i → AreNames t i None
ids_of_link d t i trace span =
    let t_text = both (found m.TraceId d >>= as_str) trace_id_of t trace in
    let i_text = both (found m.SpanId d >>= as_str) span_id_of i span in
    record { of_trace = trace_named t_text.0 t t_text.2; of_span = span_named i_text.0 i i_text.2; of_parent = tt }

pub ids_named : (d : Data) (ids : SpanIds) → ids_of d ≡ Some ids → AreNames ids.trace ids.id ids.parent
unfolding ids_of
ids_named d ids h =
    let trace = both (trace_in d) _ ids h in
    let id = both (span_in d) _ ids trace.2 in
    let parent = both (parent_from (found m.ParentSpanId d)) _ ids id.2 in
    let start = both (found m.StartTime d >>= whole_of) _ ids parent.2 in
    let end = both (found m.EndTime d >>= whole_of) _ ids start.2 in
    let names = ids_of_link d trace.0 id.0 trace.1 id.1 in
    subst (λ (x : SpanIds). AreNames x.trace x.id x.parent) (same_Some _ _ end.2)
    (record { of_trace = names.of_trace; of_span = names.of_span; of_parent = from_named (found m.ParentSpanId d) parent.0 parent.1 })

-- ---- events and links

pub link_named : (d : Data) (t : TraceId) (i : SpanId) → Some t ≡ trace_in d → Some i ≡ span_in d → AreNames t i None
link_named d t i trace span = ids_of_link d t i (sym trace) (sym span)

event_distinct : (d : Data) (e : SpanEvent) → event_of d ≡ Some e → AreDistinctAfter [] e.attrs
unfolding event_of
event_distinct d e h =
    let time = both (event_time d) _ e h in
    subst (λ (x : SpanEvent). AreDistinctAfter [] x.attrs) (same_Some _ _ time.2) (attrs_distinct d)

link_readable : (d : Data) (l : SpanLink) → link_of d ≡ Some l → IsReadableLink l
unfolding link_of
link_readable d l h =
    let trace = both (trace_in d) _ l h in
    let span = both (span_in d) _ l trace.2 in
    subst IsReadableLink (same_Some _ _ span.2) (record { names = ids_of_link d trace.0 span.0 trace.1 span.1; attrs = attrs_distinct d })

-- ---- spans

with_readable : (resource : Resource) (scope : Scope) (d : Data) (ids : SpanIds) → AreDistinctAfter [] resource.attrs → AreDistinctAfter [] scope.attrs
    → AreNames ids.trace ids.id ids.parent → IsReadable (span_with resource scope d ids)
unfolding span_with
with_readable resource scope d ids of_resource of_scope names = record {
  names = names;
  attrs = attrs_distinct d;
  events = filter_map-all event_of (λ e. AreDistinctAfter [] e.attrs) event_distinct (list_in m.Events d);
  links = filter_map-all link_of IsReadableLink link_readable (list_in m.Links d);
  of_resource = of_resource;
  of_scope = of_scope;
}

span_readable : (resource : Resource) (scope : Scope) → AreDistinctAfter [] resource.attrs → AreDistinctAfter [] scope.attrs
    → (d : Data) (s : Span) → span_of resource scope d ≡ Some s → IsReadable s
span_readable resource scope of_resource of_scope d s h =
    let ids = both (ids_of d) _ s h in
    subst IsReadable (same_Some _ _ ids.2) (with_readable resource scope d ids.0 of_resource of_scope (ids_named d ids.0 ids.1))

scope_readable : (resource : Resource) → AreDistinctAfter [] resource.attrs → (d : Data) → All IsReadable (scope_spans resource d)
unfolding scope_spans
scope_readable resource of_resource d =
    filter_map-all _ IsReadable (span_readable resource (scope_from (found m.Scope d)) of_resource (from_distinct (found m.Scope d))) (list_in m.Spans d)

resource_readable : (d : Data) → All IsReadable (resource_spans d)
unfolding resource_spans
resource_readable d =
    flat_map-all _ IsReadable (scope_readable (resource_from (found m.Resource d)) (from_distinct (found m.Resource d))) (list_in m.ScopeSpans d)

pub spans_readable : (d : Data) → All IsReadable (spans_of d)
unfolding spans_of
spans_readable d = flat_map-all _ IsReadable resource_readable (list_in m.ResourceSpans d)

-- ---- a line

-- there are few, where their count that stands still is small
pub few_of : (d : Data) (spans : List Span) (objects : ℕ) → spans ≡ spans_of d → Adds 0 objects (objects_of d) → objects ≤ MOST_SPANS → length spans ≤ MOST_SPANS
few_of d spans objects is adds small = let few = spans_few d in let len = ap length is in omega arith

-- what is read of a line has few spans, and each is readable
pub few_read : {E : Type 0} (d : Data) (spans : List Span) (objects : ℕ) (result : Result Reading E)
    → IfOk result (λ r. (r.batch.spans ≡ spans) × (objects ≤ MOST_SPANS)) → spans ≡ spans_of d → Adds 0 objects (objects_of d)
    → IfOk result (λ r. length r.batch.spans ≤ MOST_SPANS)
few_read d spans objects (Ok r) h is adds = few_of d r.batch.spans objects (h.0 ∙ is) adds h.1
few_read d spans objects (Err e) h is adds = tt

pub readable_read : {E : Type 0} (d : Data) (spans : List Span) (objects : ℕ) (result : Result Reading E)
    → IfOk result (λ r. (r.batch.spans ≡ spans) × (objects ≤ MOST_SPANS)) → spans ≡ spans_of d → IfOk result (λ r. All IsReadable r.batch.spans)
readable_read d spans objects (Ok r) h is = subst (All IsReadable) (sym (h.0 ∙ is)) (spans_readable d)
readable_read d spans objects (Err e) h is = tt
