use Rattle.std.proofs.Common.{[], refl}
use Rattle.session_meaning.specs.Serving.{asks, of_nobody}
use Rattle.traceql_types.proofs.Calls.{refuses-none}
use Rattle.trace_shell.proofs.dealing.item_of.Goals as goal

pub returns-in-Some-clause-dealt : goal.returns-in-Some-clause-dealt
returns-in-Some-clause-dealt g c =
    let read = c.read_request-item.ensures.asked in (read.0, read.1, asks c.in-Some.request.now c.requires.short c.in-Some.ensures.one read.2)

pub returns-in-None-clause-dealt : goal.returns-in-None-clause-dealt
returns-in-None-clause-dealt g c = (
  [],
  refuses-none g.P.PatternMaker.makes _ c.args.patterns.now c.args.patterns.now,
  of_nobody c.requires.short c.in-None.ensures.none refl refl,
)
