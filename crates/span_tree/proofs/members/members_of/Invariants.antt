-- So far the tables have the members that were passed, and each took two steps or three.
use Rattle.std.proofs.Common.{◌≡◌, ◌+◌, ◌*◌, ◌≤◌, length}
use Rattle.span_tree.specs.Members.{HasMembers}
use Rattle.span_tree.proofs.members.members_of.Given as goal

abbrev pub invariant-loop-position : goal.invariant-loop-position
invariant-loop-position g l = record { members : HasMembers l.groups l.position l.last l.before; last_each : length l.last ≡ length l.groups; before_each : length l.before ≡ l.position; most : l.steps ≤ l.initial.steps + 3 * l.position; least : l.initial.steps + 2 * l.position ≤ l.steps }
