-- What drawing spans one by one gives, and how many spans a line has.
use Rattle.std.proofs.Common.{◌≡◌, ℕ, All, zero, suc, ◌+◌, ◌-◌, ◌<◌, ◌≤◌, List, [], ◌∷◌, ◌++◌, length, map}
use Rattle.std.proofs.Common.{refl, ap, sym, ◌∙◌, append_assoc, append-nil, arith}
use Rattle.std.proofs.lemmas.List.{length-map, map-append}
use Rattle.std.proofs.lemmas.List.Elements.{All-cons, All-nil}
use Rattle.span_types.specs.declared.limits.TheConstants.{MOST_SPANS}
use Rattle.span_types.specs.declared.spans.Row.{Row}
use Rattle.span_types.specs.declared.spans.Span.{Span}
use Rattle.drill_input.specs.declared.span.Origin.{Origin}
use Rattle.drill_input.specs.Drill.{below, drawn_line, drawn_span, drawn_spans, drawn_trace, drill_spans, drill_trace, origin_of, seeded, span_of}

-- these spans, and then those that are drawn
abbrev pub behind : List Span → List Span × List ℕ → List Span × List ℕ
behind before drawn = (before ++ drawn.0, drawn.1)

-- one span, and those that are drawn after it
abbrev first_of_all : Span × List ℕ → (List ℕ → List Span × List ℕ) → List Span × List ℕ
first_of_all p later = (p.0 ∷ (later p.1).0, (later p.1).1)

spans_step : (o : Origin) (j count : ℕ) (s : List ℕ) → drawn_spans o j (suc count) s ≡ first_of_all (drawn_span o j s) (drawn_spans o (j + 1) count)
unfolding drawn_spans
spans_step o j count s = refl

spans_none : (o : Origin) (j : ℕ) (s : List ℕ) → drawn_spans o j zero s ≡ ([], s)
unfolding drawn_spans
spans_none o j s = refl

-- the spans before span j, that span, and those after it
pub one_more : (o : Origin) (j count : ℕ) (s later : List ℕ) (before : List Span) (span : Span) → j < count → (span, later) ≡ drawn_span o j s
    → behind before (drawn_spans o j (count - j) s) ≡ behind (before ++ span ∷ []) (drawn_spans o (j + 1) (count - (j + 1)) later)
one_more o j count s later before span more is =
    let left : count - j ≡ suc (count - (j + 1)) = omega arith in
    rw (left, spans_step, ← is) (rw append_assoc refl)

-- the end of the spans
no_more : (o : Origin) (j count : ℕ) (s : List ℕ) (before : List Span) → j ≡ count → behind before (drawn_spans o j (count - j) s) ≡ (before, s)
no_more o j count s before end =
    let none : count - j ≡ zero = omega arith in
    rw (none, spans_none, append-nil) refl

abbrev pub spans_of_rows : List Row → List Span
spans_of_rows rows = map (λ row. row.span) rows

-- a row more, of the span that is drawn next
pub goes_on : (o : Origin) (j count : ℕ) (s later : List ℕ) (before after : List Row) (row : Row) (all : List Span × List ℕ)
    → j < count → (row.span, later) ≡ drawn_span o j s → after ≡ before ++ row ∷ []
    → behind (spans_of_rows before) (drawn_spans o j (count - j) s) ≡ all
    → behind (spans_of_rows after) (drawn_spans o (j + 1) (count - (j + 1)) later) ≡ all
goes_on o j count s later before after row all more is pushed stands =
    let spans : spans_of_rows after ≡ spans_of_rows before ++ row.span ∷ [] =
    ap spans_of_rows pushed ∙ map-append (λ (r : Row). r.span) before (row ∷ []) in
    ap (λ (l : List Span). behind l (drawn_spans o (j + 1) (count - (j + 1)) later)) spans
    ∙ sym (one_more o j count s later (spans_of_rows before) row.span more is) ∙ stands

-- the rows at the end
pub ends : (o : Origin) (j count : ℕ) (s : List ℕ) (rows result : List Row) (all : List Span × List ℕ) → j ≡ count → result ≡ rows
    → behind (spans_of_rows rows) (drawn_spans o j (count - j) s) ≡ all → ◌≡◌ {A = List Span × List ℕ} (spans_of_rows result, s) all
ends o j count s rows result all end is stands =
    let with : List Row → List Span × List ℕ = λ l. (spans_of_rows l, s) in
    ap with is ∙ sym (no_more o j count s (spans_of_rows rows) end) ∙ stands

as_many : (o : Origin) (j count : ℕ) (s : List ℕ) → length (drawn_spans o j count s).0 ≡ count
unfolding drawn_spans
as_many o j zero s = refl
as_many o j (suc count) s = ap suc (as_many o (j + 1) count (drawn_span o j s).1)

below-lt : (s : List ℕ) → (below 8 s).0 < 8
unfolding below
below-lt s = omega arith

-- a line has one to eight spans
pub some_spans : (seed index : ℕ) → 1 ≤ length (drill_spans seed index)
unfolding drill_spans drawn_line
some_spans seed index = rw as_many (omega arith)

pub few_spans : (seed index : ℕ) → length (drill_spans seed index) ≤ 8
unfolding drill_spans drawn_line
few_spans seed index = rw as_many (omega (arith, below-lt))

-- and all are of the trace that was drawn first
of_trace : (o : Origin) (j count : ℕ) (s : List ℕ) → All (λ span. span.trace ≡ o.trace) (drawn_spans o j count s).0
unfolding drawn_spans drawn_span span_of
of_trace o j zero s = All-nil (λ (span : Span). span.trace ≡ o.trace)
of_trace o j (suc count) s =
    All-cons (λ (span : Span). span.trace ≡ o.trace) (drawn_span o j s).0 (drawn_spans o (j + 1) count (drawn_span o j s).1).0 refl
    (of_trace o (j + 1) count (drawn_span o j s).1)

pub one_trace : (seed index : ℕ) → All (λ span. span.trace ≡ drill_trace seed index) (drill_spans seed index)
unfolding drill_spans drawn_line origin_of
one_trace seed index =
    let trace = drawn_trace (seeded seed index) in
    let service = below 3 trace.1 in
    let more = below 8 service.1 in
    of_trace (origin_of trace.0 service.0 index) 0 (1 + more.0) more.1

-- so few rows are read back
pub rows_few : (rows : List Row) (seed index : ℕ) → spans_of_rows rows ≡ drill_spans seed index → length rows ≤ MOST_SPANS
rows_few rows seed index is =
    let few : length (spans_of_rows rows) ≤ 8 = rw is (few_spans seed index) in
    let same : length (spans_of_rows rows) ≡ length rows = length-map rows (λ (r : Row). r.span) in
    omega arith
