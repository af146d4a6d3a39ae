-- So far it was searched, whatever rows the picks are of.
use Rattle.std.proofs.Common.{◌≡◌, List}
use Rattle.span_types.specs.declared.spans.Row.{Row}
use Rattle.query_fanout.specs.Rounds.{PicksOf, Reached, all_steps}
use Rattle.query_fanout.specs.Taking.{asked_sieve}
use Rattle.query_fanout.proofs.rounds.take_rounds.Given as goal

abbrev pub invariant-loop-at : goal.invariant-loop-at
invariant-loop-at g l = (l.sifter ≡ asked_sieve l.asked)
    × ((seen : List Row) → PicksOf (asked_sieve l.asked) seen l.own l.fn.picks.items → Reached g.P.LookPort.meaning l.look seen l.own l.asked l.fn.port l.rounds l.port)

abbrev pub decreases-loop-at : goal.decreases-loop-at
decreases-loop-at g l = all_steps l.rounds.scans.items
