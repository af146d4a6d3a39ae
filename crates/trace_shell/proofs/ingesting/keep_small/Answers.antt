use Rattle.std.proofs.Common.{[], ◌<◌, ◌≤◌, arith}
use Rattle.session_meaning.specs.Duties.{from_lines}
use Rattle.session_meaning.specs.Ingest.{many_rows}
use Rattle.store_core.specs.Cores.{held_in}
use Rattle.trace_shell.proofs.IngestLemmas.{asked_none, leaves_few, leaves_many}
use Rattle.trace_shell.proofs.ingesting.keep_small.Goals as goal

pub returns-then-held_now-lt-MANY_ROWS-clause-kept : goal.returns-then-held_now-lt-MANY_ROWS-clause-kept
returns-then-held_now-lt-MANY_ROWS-clause-kept g c =
    let few : held_in c.args.core.now < many_rows = omega (arith, c.held_now.ensures, c.if-held_now-lt-MANY_ROWS.true) in
    ([], [], asked_none g.D.Device c.args.core.now _ c.args.tally.now, λ later told. leaves_few g.D.Device c.args.core.now later told few)

pub returns-clause-kept : goal.returns-clause-kept
returns-clause-kept g c =
    let made = c.cut_and_flush.ensures.made in
    let many : many_rows ≤ held_in c.args.core.now = omega (arith, c.held_now.ensures, c.if-held_now-lt-MANY_ROWS.false) in (
      made.0,
      made.1,
      made.2,
      λ later told. leaves_many g.D.Device c.args.core.now c.cut_and_flush.new.core (from_lines later) told made.0 made.1 c.cut_and_flush.result many (made.3 (from_lines later) told),
    )
