-- What clauses see of the patterns that were found in a query.
use Rattle.std.specs.Prelude.{List, map}
use Rattle.traceql_types.specs.declared.asked.Asked.{Asked}
use Rattle.traceql_types.specs.Asked.{PlacedText}

abbrev pub shown : Asked → PlacedText
shown a = (a.at, a.text.now)

abbrev pub shown_all : List Asked → List PlacedText
shown_all = map shown
