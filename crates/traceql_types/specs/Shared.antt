-- What threads may do with a checked query.
use Rattle.std.specs.Thread.{IsSend, IsSync}
use Rattle.traceql_types.specs.contracts.checked.Checked as checked

-- it may be handed to another thread
abbrev pub CheckedIsSend : Type 0
CheckedIsSend = IsSend checked.the_row

-- it may be shared among threads
abbrev pub CheckedIsSync : Type 0
CheckedIsSync = IsSync checked.the_row
