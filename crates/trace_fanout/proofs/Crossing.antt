-- Rows may be shared among threads, one by one and in lists.
use denote.Param.Send.{IsSync, sendable}
use Rattle.std.proofs.Crossing.{crosses}
use Rattle.span_types.proofs.spans.Row.TheSendSync as row
use Rattle.span_types.specs.contracts.list.Seq as Seq
use Rattle.span_types.specs.contracts.spans.Row as Row

pub row-sync : IsSync Row.the_row
row-sync = row.the_sync

pub rows-sync : IsSync (Seq.the_row Row.the_row)
rows-sync = search (row-sync, sendable, crosses) depth 40
