-- The lines so far follow one another, and there is room for the most lines of a window.
use Rattle.std.proofs.Common.{◌≡◌, ◌-◌, ◌≤◌, ℕ, List, Option, vec_len}
use Rattle.std.specs.Prelude.{vec_capacity}
use Rattle.io_edges.specs.Reader.{IsToRead, to_come}
use Rattle.line_windows.specs.Windows.{IsWindow}
use Rattle.line_windows.proofs.window.add_at_hand.Given as goal

abbrev pub invariant-lines : goal.invariant-lines
invariant-lines l = record {
  lines : (line : List ℕ) (left : Option (List ℕ)) (text : List ℕ) → IsWindow line text l.fn.window.items (IsToRead l.fn.reader left) → IsWindow line text l.window.items (IsToRead l.reader left);
  taken : l.reader.taken ≡ l.fn.reader.taken;
  nearer : to_come l.reader ≤ to_come l.fn.reader;
  room : 64 ≤ vec_capacity l.window;
}

abbrev pub decreases-lines : goal.decreases-lines
decreases-lines l = 64 - vec_len l.window
