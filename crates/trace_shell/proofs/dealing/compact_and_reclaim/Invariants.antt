-- So many rounds are written down, and there is room for the others.
use Rattle.std.proofs.Common.{◌≡◌, ◌≤◌, ◌*◌, vec_len}
use Rattle.std.specs.Prelude.{vec_capacity}
use Rattle.session_meaning.specs.Serving.{after_moments, compactions}
use Rattle.trace_shell.proofs.dealing.compact_and_reclaim.Given as goal

abbrev pub invariant-loop-round : goal.invariant-loop-round
invariant-loop-round g l = record {
  compactions : l.items.items ≡ compactions l._round;
  clock : g.C.Clock.moments l.clock ≡ after_moments (2 * l._round) (g.C.Clock.moments l.fn.clock);
  many : vec_len l.items ≡ 2 * l._round;
  room : 2 * l.rounds ≤ vec_capacity l.items;
}
