-- Those before the turn are taken.
use Rattle.std.proofs.Common.{Ok, map, take}
use Rattle.query_fanout.proofs.TakeLaws.{Taken}
use Rattle.query_fanout.proofs.taking.take_each.Given as goal

abbrev pub invariant-loop-few : goal.invariant-loop-few
invariant-loop-few g l = Taken g.P.LookPort.meaning l.look l.own l.asked (map (λ few. few.now) (take l.few-index l.turns)) l.fn.best l.fn.port (Ok l.best) l.port
