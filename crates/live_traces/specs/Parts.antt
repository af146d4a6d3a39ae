-- The parts of what waits in memory.
use Rattle.std.specs.Prelude.{ℕ, ◌+◌, ◌≤◌, List, [], ◌∷◌, min, nat_le, true, Bool, Option, None, Some}
use Rattle.std.specs.List.{flat_map}
use Rattle.span_types.specs.declared.spans.Row.{Row}
use Rattle.store_model.specs.State.{LiveRow}
use Rattle.store_model.specs.After.{arrived}
use Rattle.store_model.specs.Cut.{is_idle}
use Rattle.live_traces.specs.Rows.{chunk_rows}
use Rattle.live_traces.specs.declared.live.Entry.{Entry}
use Rattle.live_traces.specs.declared.live.Arrival.{Arrival}

pub record LiveParts : Type 0 where
  -- in the order in which they came
  pub live : List LiveRow
  pub head : List Row
  pub flushing : List Row
  -- how many more pushes fit without memory, and how many more rows may be held
  pub spare : ℕ
  pub room : ℕ

-- room for one push of so many rows
pub record HasRoom (parts : LiveParts) (rows : ℕ) : Type 0 where
  pub spare : 1 ≤ parts.spare
  pub room : rows ≤ parts.room

-- rows that remained live after a cut
abbrev pub live_of : List Entry → List LiveRow
live_of entries = flat_map (λ e. arrived e.moment e.run) entries

-- pushes since the last cut
abbrev pub arrivals_of : List Arrival → List LiveRow
arrivals_of arrivals = flat_map (λ a. arrived a.moment (chunk_rows a.chunk)) arrivals

-- which live rows a cut takes: all of them, or those that are idle at a moment
abbrev pub goes : Option ℕ → List LiveRow → LiveRow → Bool
goes None live entry = true
goes (Some moment) live entry = is_idle moment live entry

-- the same by the last moment of the row's trace
abbrev pub goes_by : Option ℕ → ℕ → Bool
goes_by None last = true
goes_by (Some moment) last = nat_le (last + 10000000000) moment

-- the least number among rows, and one that was found before
abbrev pub lower : Option ℕ → ℕ → Option ℕ
lower None number = Some number
lower (Some found) number = Some (min found number)

abbrev pub least_with : Option ℕ → List Row → Option ℕ
least_with found [] = found
least_with found (row ∷ rows) = least_with (lower found row.place.number) rows

abbrev pub least_number : List Row → Option ℕ
least_number rows = least_with None rows
