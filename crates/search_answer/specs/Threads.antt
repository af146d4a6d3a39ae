-- What threads may do with rows and with results.
use Rattle.std.specs.Thread.{IsSend, IsSync}
use Rattle.span_types.specs.contracts.spans.Row as row
use Rattle.spanset_eval.specs.contracts.results.TraceResult as result

-- a row may be handed to another thread
abbrev pub RowIsSend : Type 0
RowIsSend = IsSend row.the_row

-- and be shared among threads
abbrev pub RowIsSync : Type 0
RowIsSync = IsSync row.the_row

-- a result may be handed to another thread
abbrev pub ResultIsSend : Type 0
ResultIsSend = IsSend result.the_row

-- and be shared among threads
abbrev pub ResultIsSync : Type 0
ResultIsSync = IsSync result.the_row
