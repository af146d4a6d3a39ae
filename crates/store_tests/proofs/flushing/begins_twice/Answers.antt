use Rattle.store_model.specs.Event.Event.{CutAll}
use Rattle.store_state.specs.Replies.{count_reply}
use Rattle.store_tests.proofs.Flushes.{begun_is_open, goes_on}
use Rattle.store_tests.proofs.flushing.begins_twice.Goals as goal

pub begins_again-requires : goal.begins_again-requires
begins_again-requires g c = begun_is_open g.P.LookPort.meaning c.cut_all-cut.new.self c.begin_flush.new.self c.in-Ok-Some.field-0 c.in-Ok-Some.job c.in-Ok-Some.field-0-is
    c.in-Ok-Some.ensures.called
    (goes_on g.P.LookPort.meaning c.args.port.now c.cut_all-cut.new.self CutAll (count_reply c.cut_all-cut.result) c.cut_all-cut.ensures c.requires)
