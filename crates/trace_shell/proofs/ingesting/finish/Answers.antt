use Rattle.std.proofs.Common.{[], None, Some, refl}
use Rattle.session_meaning.specs.Duties.{at_the_end}
use Rattle.trace_shell.proofs.IngestLemmas.{asked_so, leaves_so}
use Rattle.trace_shell.proofs.ingesting.finish.Goals as goal

pub returns-in-Some-clause-finished : goal.returns-in-Some-clause-finished
returns-in-Some-clause-finished g c =
    let made = c.keep_up.ensures.made in (
      made.0,
      made.1,
      Some c.in-Some.ending,
      asked_so g.D.Device _ _ _ _ _ _ made.0 made.1 c.keep_up.result (Some c.in-Some.ending) c.in-Some.is made.2,
      refl,
      λ told. leaves_so g.D.Device _ _ at_the_end [] told told made.0 made.1 c.keep_up.result (Some c.in-Some.ending) c.in-Some.is (made.3 told),
    )

pub returns-in-None-clause-finished : goal.returns-in-None-clause-finished
returns-in-None-clause-finished g c =
    let made = c.keep_up.ensures.made in (
      made.0,
      made.1,
      None,
      asked_so g.D.Device _ _ _ _ _ _ made.0 made.1 c.keep_up.result None c.in-None.is made.2,
      c.ending.ensures,
      λ told. leaves_so g.D.Device _ _ at_the_end [] told told made.0 made.1 c.keep_up.result None c.in-None.is (made.3 told),
    )
