-- The scripts so far were moved, and there is room for the others and two more.
use Rattle.std.proofs.Common.{◌≡◌, ◌≤◌, ◌+◌, ◌++◌, length, vec_len}
use Rattle.std.specs.Prelude.{vec_capacity}
use Rattle.trace_shell.specs.Dealing.{scripts_in}
use Rattle.trace_shell.proofs.dealing.with_upkeep.Given as goal

abbrev pub invariant-loop-script : goal.invariant-loop-script
invariant-loop-script g l = record {
  moved : scripts_in l.fn.scripts.items ≡ l.all.items ++ scripts_in l.script-iterator.rest.items;
  room : vec_len l.all + length l.script-iterator.rest.items + 2 ≤ vec_capacity l.all;
}
