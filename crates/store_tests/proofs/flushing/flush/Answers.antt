use Rattle.store_model.specs.Event.Event.{CutAll}
use Rattle.store_state.specs.Replies.{count_reply}
use Rattle.store_tests.proofs.Flushes.{goes_on}
use Rattle.store_tests.proofs.flushing.flush.Goals as goal

pub flush_round-round-requires : goal.flush_round-round-requires
flush_round-round-requires g c = goes_on g.P.LookPort.meaning c.args.port.now c.cut_all-cut.new.self CutAll (count_reply c.cut_all-cut.result) c.cut_all-cut.ensures c.requires
