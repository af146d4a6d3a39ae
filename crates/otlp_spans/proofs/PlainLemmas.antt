-- What is written for a trace has no float and nests few levels deep, so its text reads back.
use Rattle.std.proofs.Common.{◌≡◌, ℕ, suc, ◌≤◌, false, List, [], ◌∷◌, map, Some, refl, ap, ◌∙◌, arith}
use Rattle.std.specs.Str.{IsUtf8}
use Rattle.serde_json.specs.Data.{Data, Members, depth, items_depth, member, members_depth, no_members, number, object, string, unsigned}
use Rattle.serde_json.specs.Read.{max_depth, read}
use Rattle.serde_json.specs.View.{items_of}
use Rattle.serde_json.specs.Written.{compact_text, has_float, items_have_float, members_have_float}
use Rattle.span_types.specs.declared.attrs.Attr.{Attr}
use Rattle.span_types.specs.declared.attrs.AttrValue.{AttrValue}
use Rattle.span_types.specs.declared.attrs.AttrValue.TheVariants.{Text, Whole, Truth}
use Rattle.span_types.specs.declared.attrs.Resource.{Resource}
use Rattle.span_types.specs.declared.attrs.Scope.{Scope}
use Rattle.span_types.specs.declared.spans.Span.{Span}
use Rattle.span_types.specs.declared.spans.SpanEvent.{SpanEvent}
use Rattle.span_types.specs.declared.spans.SpanLink.{SpanLink}
use Rattle.span_types.specs.declared.spans.StatusCode.{StatusCode}
use Rattle.span_runs.specs.Runs.{of_one_resource, of_one_scope, runs}
use Rattle.otlp_spans.specs.Json.{json_of}
use Rattle.otlp_spans.specs.Writing.{attr_json, event_json, link_json, list_json, resource_json, resource_spans_json, scope_json, scope_spans_json, some_member, span_json, status_json, trace_json, trace_text, value_json}
use Rattle.otlp_spans.proofs.JsonLemmas.{json_of-some}

-- no float, and at most so many levels
pub record IsPlain (n : ℕ) (d : Data) : Type 0 where
  pub shallow : depth d ≤ n
  pub plain : has_float d ≡ false

record ArePlain (n : ℕ) (ms : Members) : Type 0 where
  shallow : members_depth ms ≤ n
  plain : members_have_float ms ≡ false

text : (n : ℕ) (s : List ℕ) → IsPlain n (string s)
text n s = record { shallow = omega arith; plain = refl }

whole : (n k : ℕ) → IsPlain n (number (unsigned k))
whole n k = record { shallow = omega arith; plain = refl }

deeper : (n : ℕ) {d : Data} → IsPlain n d → IsPlain (suc n) d
deeper n h = let s = h.shallow in record { shallow = omega arith; plain = h.plain }

none : (n : ℕ) → ArePlain n no_members
none n = record { shallow = omega arith; plain = refl }

more : (n : ℕ) (k : List ℕ) {d : Data} {ms : Members} → IsPlain n d → ArePlain n ms → ArePlain n (member k d ms)
more n k h t = let s = h.shallow in let u = t.shallow in record { shallow = omega arith; plain = rw h.plain t.plain }

whole_of : (n : ℕ) {ms : Members} → ArePlain n ms → IsPlain (suc n) (object ms)
whole_of n t = let u = t.shallow in record { shallow = omega arith; plain = t.plain }

items_within : {A : Type 0} (f : A → Data) (n : ℕ) → ((x : A) → IsPlain n (f x)) → (xs : List A) → items_depth (items_of (map f xs)) ≤ n
items_within f n each [] = omega arith
items_within f n each (x ∷ xs) = let first = (each x).shallow in let rest = items_within f n each xs in omega arith

items_plain : {A : Type 0} (f : A → Data) (n : ℕ) → ((x : A) → IsPlain n (f x)) → (xs : List A) → items_have_float (items_of (map f xs)) ≡ false
items_plain f n each [] = refl
items_plain f n each (x ∷ xs) = rw ((each x).plain) (items_plain f n each xs)

list : {A : Type 0} (f : A → Data) (n : ℕ) → ((x : A) → IsPlain n (f x)) → (xs : List A) → IsPlain (suc n) (list_json f xs)
list f n each xs = let items = items_within f n each xs in record { shallow = omega arith; plain = items_plain f n each xs }

some : {A : Type 0} (f : A → Data) (n : ℕ) (k : List ℕ) {ms : Members} → ((x : A) → IsPlain n (f x)) → (xs : List A) → ArePlain (suc n) ms
    → ArePlain (suc n) (some_member k f xs ms)
some f n k each [] t = t
some f n k each (x ∷ xs) t = more (suc n) k (list f n each (x ∷ xs)) t

value : (v : AttrValue) → IsPlain 1 (value_json v)
unfolding value_json
value (Text s) = whole_of 0 (more 0 _ (text 0 s) (none 0))
value (Whole n) = whole_of 0 (more 0 _ (text 0 _) (none 0))
value (Truth b) = record { shallow = omega arith; plain = refl }

attr : (a : Attr) → IsPlain 2 (attr_json a)
unfolding attr_json
attr a = whole_of 1 (more 1 _ (text 1 _) (more 1 _ (value a.value) (none 1)))

attrs : (l : List Attr) → IsPlain 3 (list_json attr_json l)
attrs l = list attr_json 2 attr l

event : (e : SpanEvent) → IsPlain 4 (event_json e)
unfolding event_json
event e = whole_of 3 (more 3 _ (attrs e.attrs) (more 3 _ (text 3 _) (more 3 _ (text 3 _) (none 3))))

link : (l : SpanLink) → IsPlain 4 (link_json l)
unfolding link_json
link l = whole_of 3 (more 3 _ (attrs l.attrs) (more 3 _ (text 3 _) (more 3 _ (text 3 _) (none 3))))

resource : (r : Resource) → IsPlain 4 (resource_json r)
unfolding resource_json
resource r = whole_of 3 (more 3 _ (attrs r.attrs) (none 3))

scope : (s : Scope) → IsPlain 4 (scope_json s)
unfolding scope_json
scope s = whole_of 3 (more 3 _ (attrs s.attrs) (more 3 _ (text 3 _) (more 3 _ (text 3 _) (none 3))))

status : (code : StatusCode) (message : List ℕ) → IsPlain 5 (status_json code message)
unfolding status_json
status code message = whole_of 4 (more 4 _ (whole 4 _) (more 4 _ (text 4 _) (none 4)))

span : (s : Span) → IsPlain 6 (span_json s)
unfolding span_json
span s =
    whole_of 5
    (more 5 _ (deeper 4 (deeper 3 (attrs s.attrs)))
    (more 5 _ (text 5 _)
    (some event_json 4 _ event s.events
    (more 5 _ (whole 5 _)
    (some link_json 4 _ link s.links
    (more 5 _ (text 5 _)
    (more 5 _ (text 5 _)
    (more 5 _ (text 5 _)
    (more 5 _ (text 5 _)
    (more 5 _ (status s.status s.message)
    (more 5 _ (text 5 _) (none 5))))))))))))

scope_run : (run : Span × List Span) → IsPlain 8 (scope_spans_json run)
unfolding scope_spans_json
scope_run (first, rest) =
    whole_of 7 (more 7 _ (deeper 6 (deeper 5 (deeper 4 (scope first.scope)))) (more 7 _ (list span_json 6 span (first ∷ rest)) (none 7)))

resource_run : (run : Span × List Span) → IsPlain 10 (resource_spans_json run)
unfolding resource_spans_json
resource_run (first, rest) =
    let scopes = list scope_spans_json 8 scope_run (runs of_one_scope (first ∷ rest)) in
    let own = resource first.resource in
    whole_of 9 (more 9 _ (deeper 8 (deeper 7 (deeper 6 (deeper 5 (deeper 4 own))))) (more 9 _ scopes (none 9)))

pub trace : (spans : List Span) → IsPlain 12 (trace_json spans)
unfolding trace_json
trace spans = whole_of 11 (more 11 _ (list resource_spans_json 10 resource_run (runs of_one_resource spans)) (none 11))

-- What is written for a value that is a trace's is the trace's text.
pub written : (spans : List Span) (d : Data) (text : List ℕ) → d ≡ trace_json spans → (has_float d ≡ false → text ≡ compact_text d) → text ≡ trace_text spans
unfolding trace_text
written spans d text is printed = printed (ap has_float is ∙ (trace spans).plain) ∙ ap compact_text is

-- It reads back as the trace's value.
pub trace_reads_back : (spans : List Span) (d : Data) (text : List ℕ) → d ≡ trace_json spans → IsUtf8 text → (depth d ≤ max_depth → read text ≡ Some d)
    → json_of text ≡ Some (trace_json spans)
trace_reads_back spans d text is utf8 reads =
    let shallow : depth d ≤ max_depth = let within = (trace spans).shallow in let same = ap depth is in omega arith in
    json_of-some text d (utf8, reads shallow) ∙ ap Some is
