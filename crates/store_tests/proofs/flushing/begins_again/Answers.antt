use Rattle.std.proofs.Common.{refl}
use Rattle.store_model.specs.Event.Event.{BeginFlush}
use Rattle.store_state.specs.Given.{flush_of}
use Rattle.store_state.specs.Replies.{begin_flush_reply}
use Rattle.store_state.proofs.HoldLaws.{stays_open}
use Rattle.store_tests.proofs.flushing.begins_again.Goals as goal

pub drop_flush-requires : goal.drop_flush-requires
drop_flush-requires g c = stays_open g.P.LookPort.meaning c.args.port.now c.begin_flush.new.self BeginFlush (begin_flush_reply c.begin_flush.result) (flush_of c.args.job)
    c.begin_flush.ensures.called c.requires refl
