use Rattle.std.proofs.Common.{IsTrue, Some, sym, subst}
use Rattle.block_list.specs.Loading.{IsReady}
use Rattle.block_list.specs.declared.body.ListBody.{ListBody}
use Rattle.store_core.proofs.NewCores.{new_stands, no_history, no_history_is_empty}
use Rattle.store_core.specs.NewCore.{new_machine}
use Rattle.store_files.specs.declared.error.OpenError.TheVariants.{Fault}
use Rattle.store_files.proofs.Answered.{fine_answer, refused_answer}
use Rattle.store_core.proofs.Now.{stands_now}
use Rattle.store_core.proofs.new_store.open_new.Goals as goal

pub returns-in-Ok-clause-stands : goal.returns-in-Ok-clause-stands
returns-in-Ok-clause-stands g c = λ h empty.
    let d = g.D.Device in
    stands_now d g.met.D.Device.only_now _ (new_machine h) c.now-since.ensures
    (new_stands (IsTrue (d.tells c.make_store.new.disk)) (d.held c.make_store.new.disk) (d.may_leave c.make_store.new.disk) c.new_state.result h c.new_state.ensures
    (λ told. c.in-Ok.ensures.made (subst IsTrue c.make_store.ensures.counted.telling told)) empty)

pub returns-in-Ok-clause-list : goal.returns-in-Ok-clause-list
returns-in-Ok-clause-list g c = c.new_state.ensures.list

pub returns-in-Ok-clause-ready : goal.returns-in-Ok-clause-ready
returns-in-Ok-clause-ready g c = λ told.
    let d = g.D.Device in
    let new = c.make_store.new.disk in
    subst (λ (l : ListBody). IsReady (d.held new) (d.may_leave new) (Some l)) (sym c.new_state.ensures.list) (c.in-Ok.ensures.made told no_history no_history_is_empty).lies.ready

pub returns-in-Ok-clause-counted : goal.returns-in-Ok-clause-counted
returns-in-Ok-clause-counted g c = fine_answer g.D.Device 0 Fault c.args.disk c.make_store.new.disk _ c.in-Ok.ensures.counted

pub returns-in-Err-clause-counted_refused : goal.returns-in-Err-clause-counted_refused
returns-in-Err-clause-counted_refused g c = refused_answer g.D.Device 0 Fault c.args.disk c.make_store.new.disk c.in-Err.error c.in-Err.ensures.counted
