-- Runs of a list: neighbours that go together. A run is its first item and those that follow it.
use Rattle.std.specs.Prelude.{Bool, List, [], ◌∷◌, if◌then◌else◌}
use Rattle.span_types.specs.declared.spans.Span.{Span}
use Rattle.span_types.specs.Equal.{same_resource, same_scope}

-- One item more before the runs: it begins a run of its own, or the first run where it goes with that run's first item.
abbrev pub in_front : {A : Type 0} → (A → A → Bool) → A → List (A × List A) → List (A × List A)
in_front same x [] = (x, []) ∷ []
in_front same x ((y, ys) ∷ later) = if same x y then (x, y ∷ ys) ∷ later else (x, []) ∷ (y, ys) ∷ later

-- The runs of a list, in order.
abbrev pub runs : {A : Type 0} → (A → A → Bool) → List A → List (A × List A)
runs same [] = []
runs same (x ∷ xs) = in_front same x (runs same xs)

-- A list as one run, where it has an item.
abbrev pub as_run : {A : Type 0} → List A → List (A × List A)
as_run [] = []
as_run (x ∷ xs) = (x, xs) ∷ []

-- Two spans come from one origin, where `of` gives a span's and `same` tells whether two are equal.
abbrev pub of_one : {O : Type 0} → (O → O → Bool) → (Span → O) → Span → Span → Bool
of_one same of a b = same (of a) (of b)

abbrev pub of_one_resource : Span → Span → Bool
of_one_resource = of_one same_resource (λ s. s.resource)

abbrev pub of_one_scope : Span → Span → Bool
of_one_scope = of_one same_scope (λ s. s.scope)
