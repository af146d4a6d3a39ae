use Rattle.std.proofs.Common.{Some}
use Rattle.shared_store.specs.Told.{event_of, reply_of}
use Rattle.shared_store.proofs.turn.finish.Given as goal

abbrev pub ghosts-append : goal.ghosts-append
ghosts-append g a = record { event = event_of a._asked.now; reply = reply_of a._told.now; after = Some a._port.now }
