-- What holds of the fields of live traces. (Private: no contract cites it.)
use Rattle.std.specs.Prelude.{◌≡◌, ℕ, ◌+◌, ◌<◌, ◌≤◌, ◌^◌, ◌++◌, List, length, take}
use Rattle.span_types.specs.declared.spans.Row.{Row}
use Rattle.live_traces.specs.declared.live.Entry.{Entry}
use Rattle.live_traces.specs.declared.live.Arrival.{Arrival}
use Rattle.live_traces.specs.Rows.{run_rows}
use Rattle.live_traces.specs.Parts.{live_of, arrivals_of}

pub record AreWhole (entries : List Entry) (arrivals : List Arrival) (count : ℕ) (kept : List (List Row)) (kept_rows flushing flush_rows : ℕ) : Type 0 where
  pub within : flushing ≤ length kept
  pub counted : count ≡ length (live_of entries ++ arrivals_of arrivals)
  pub every : kept_rows ≡ length (run_rows kept)
  pub taken : flush_rows ≡ length (run_rows (take flushing kept))
  pub fits : count + kept_rows < 2 ^ 64
