-- What the first columns of a stripe tell of its rows.
use Rattle.std.specs.Prelude.{◌≡◌, ℕ, List, map, Result, Ok}
use Rattle.span_types.specs.declared.spans.Row.{Row}
use Rattle.stripe_glances.specs.declared.glances.Glance.{Glance}

-- what is told of these rows
pub record IsGlance (rows : List Row) (glance : Glance) : Type 0 where
  pub traces : glance.traces.items ≡ map (λ row. row.span.trace) rows
  pub kinds : glance.kinds.items ≡ map (λ row. row.span.kind) rows
  pub starts : glance.starts.items ≡ map (λ row. row.span.start) rows
  pub ends : glance.ends.items ≡ map (λ row. row.span.«end») rows
  pub statuses : glance.statuses.items ≡ map (λ row. row.span.status) rows

-- If reading gives rows, this is told of them.
abbrev pub TellsIfRead : {X : Type 0} → (List Row → X → Type 0) → Result (List Row) ℕ → X → Type 0
TellsIfRead tells read seen = (rows : List Row) → read ≡ Ok rows → tells rows seen
