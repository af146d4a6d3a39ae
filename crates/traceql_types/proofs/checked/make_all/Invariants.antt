use Rattle.std.proofs.Common.{List, take, map}
use Rattle.traceql_types.specs.Makers.{Call, CallsLead, WasRefused}
use Rattle.traceql_types.specs.Shown.{shown}
use Rattle.traceql_types.specs.Steps.{Stands, Called}
use Rattle.traceql_types.proofs.checked.make_all.Given as goal

abbrev pub invariant-loop-pattern : goal.invariant-loop-pattern
invariant-loop-pattern g l =
    let maker = g.P.PatternMaker in
    record {
      stands : Stands l.initial.first (map shown (take l.pattern-index l.pattern-items)) (WasRefused maker.makes l.fn.maker l.maker) l.first l.made.items;
      called : (calls : List Call) × CallsLead maker.makes l.fn.maker calls l.maker × Called (map shown (take l.pattern-index l.pattern-items)) l.first l.made.items calls;
    }
