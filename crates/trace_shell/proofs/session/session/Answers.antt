use Rattle.std.proofs.Common.{◌≡◌, [], ◌++◌, Option, ap, refl, subst, arith}
use Rattle.std.specs.Prelude.{IfSome}
use Rattle.io_edges.specs.Lines.{taken_limit}
use Rattle.io_edges.specs.Reader.{TakesBytes}
use Rattle.session_meaning.specs.declared.ending.Ending.{Ending}
use Rattle.session_meaning.specs.declared.ending.Ending.TheVariants.{Spent}
use Rattle.session_meaning.proofs.StoreSessions.{done_over_then}
use Rattle.traceql_types.proofs.Calls.{refuses-none, refuses-on}
use Rattle.trace_shell.specs.Turn.{Turned}
use Rattle.trace_shell.specs.declared.session.Tally.{Tally}
use Rattle.trace_shell.proofs.TurnLemmas.{begins_at, took_none, took_on}
use Rattle.trace_shell.proofs.session.session.Goals as goal

pub lines-init : goal.lines-init
lines-init g c = record {
  at = (
    [],
    [],
    [],
    refuses-none g.P.PatternMaker.makes _ c.args.patterns.now c.args.patterns.now,
    (refl, refl),
    λ text before told gave. begins_at (g.C.Clock.moments c.args.clock.now) text before _ _ _ _ told gave (c.new-reader.ensures.to_read text) c.new-reader.ensures.taken
        (ap (λ (t : Tally). t.refused) c.new-tally.ensures) (ap (λ (t : Tally). t.starved) c.new-tally.ensures),
  );
  held = c.requires;
  source_counted = omega arith;
  sink_counted = omega arith;
  took = took_none _ _ c.new-reader.ensures.taken;
}

pub lines-preserved : goal.lines-preserved
lines-preserved g c =
    let at = c.lines.invariant.at in
    let turned = c.next_line-ended.ensures.turned in record {
      at = (
        at.0 ++ turned.2,
        at.1 ++ turned.3,
        at.2 ++ turned.0,
        refuses-on g.P.PatternMaker.makes _ _ _ at.2 turned.0 at.3 turned.1,
        done_over_then g.D.Device at.0 turned.2 at.1 turned.3 c.args.store c.lines.store c.next_line-ended.result.1 at.4 turned.4,
        λ text before told gave.
            subst (λ o. Turned (g.C.Clock.moments c.args.clock.now) text before (g.S.Source.left c.next_line-ended.new.source) (g.K.Sink.taken c.next_line-ended.new.sink)
            (g.C.Clock.moments c.next_line-ended.new.clock) c.next_line-ended.new.reader c.next_line-ended.new.tally (at.0 ++ turned.2) (at.1 ++ turned.3) (at.2 ++ turned.0) o)
            c.in_default.is (turned.5 (g.C.Clock.moments c.args.clock.now) text before at.0 at.1 at.2 (at.5 text before told gave)),
      );
      held = c.next_line-ended.ensures.held;
      source_counted = omega (arith, c.lines.invariant.source_counted, c.next_line-ended.ensures.source_counted);
      sink_counted = omega (arith, c.lines.invariant.sink_counted, c.next_line-ended.ensures.sink_counted);
      took = took_on _ _ _ 0 c.lines.reader.taken c.next_line-ended.new.reader.taken c.lines.invariant.took c.next_line-ended.ensures.took;
    }

pub returns-in-Some-clause-spent : goal.returns-in-Some-clause-spent
returns-in-Some-clause-spent g c = λ is.
    subst (λ n. TakesBytes (g.S.Source.left c.args.source.now) (g.S.Source.left c.next_line-ended.new.source) 0 n)
    (subst (λ (o : Option Ending). IfSome o (λ ending. ending ≡ Spent → c.next_line-ended.new.reader.taken ≡ taken_limit)) c.in-Some.is c.next_line-ended.ensures.spent is)
    (took_on _ _ _ 0 c.lines.reader.taken c.next_line-ended.new.reader.taken c.lines.invariant.took c.next_line-ended.ensures.took)

pub returns-in-Some-clause-ran : goal.returns-in-Some-clause-ran
returns-in-Some-clause-ran g c =
    let at = c.lines.invariant.at in
    let turned = c.next_line-ended.ensures.turned in (
      at.0 ++ turned.2,
      at.1 ++ turned.3,
      at.2 ++ turned.0,
      refuses-on g.P.PatternMaker.makes _ _ _ at.2 turned.0 at.3 turned.1,
      done_over_then g.D.Device at.0 turned.2 at.1 turned.3 c.args.store c.lines.store c.next_line-ended.result.1 at.4 turned.4,
      λ text before told gave.
          subst (λ o. Turned (g.C.Clock.moments c.args.clock.now) text before (g.S.Source.left c.next_line-ended.new.source) (g.K.Sink.taken c.next_line-ended.new.sink)
          (g.C.Clock.moments c.next_line-ended.new.clock) c.next_line-ended.new.reader c.next_line-ended.new.tally (at.0 ++ turned.2) (at.1 ++ turned.3) (at.2 ++ turned.0) o)
          c.in-Some.is (turned.5 (g.C.Clock.moments c.args.clock.now) text before at.0 at.1 at.2 (at.5 text before told gave)),
    )
