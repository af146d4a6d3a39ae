-- So far the rows of the entries that were gone over stand where they belong.
use Rattle.std.proofs.Common.{◌≡◌, filter, not, take}
use Rattle.store_model.specs.State.{live_rows}
use Rattle.live_traces.specs.Parts.{live_of}
use Rattle.live_traces.specs.Going.{goes_with}
use Rattle.live_traces.proofs.cut.parted.Given as goal

abbrev pub invariant-loop-entry : goal.invariant-loop-entry
invariant-loop-entry l = record {
  moved : l.moved.items ≡ live_rows (filter (goes_with l.idle l.last) (live_of (take l.entry-index l.all)));
  stay : live_of l.stay.items ≡ filter (λ e. not (goes_with l.idle l.last e)) (live_of (take l.entry-index l.all));
}
