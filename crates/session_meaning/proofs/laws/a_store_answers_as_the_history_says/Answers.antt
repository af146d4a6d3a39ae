use Rattle.std.proofs.Common.{arith}
use Rattle.store_reopen.specs.Reopened.{disk_of}
use Rattle.session_meaning.proofs.StoreSessions.{acts_kept, acts_left, acts_shown, are_done}
use Rattle.session_meaning.proofs.laws.a_store_answers_as_the_history_says.Goals as goal

pub returns-clause-shown : goal.returns-clause-shown
returns-clause-shown g c = λ acts replies first done shown. acts_shown g.D.Device acts replies c.args.old.now c.args.new.now first done shown

pub returns-clause-kept : goal.returns-clause-kept
returns-clause-kept g c = λ acts replies first start least done kept tells.
    acts_kept g.D.Device g.met.D.Device.held_may_stay start least acts replies c.args.old.now c.args.new.now first done kept tells

pub returns-clause-found : goal.returns-clause-found
returns-clause-found g c = λ acts replies first start least done kept tells.
    acts_left g.D.Device g.met.D.Device.held_may_stay g.met.D.Device.counts_now g.met.D.Device.only_now start least (g.D.Device.moment start) (omega arith) acts replies c.args.old.now c.args.new.now first done kept tells

pub returns-clause-done : goal.returns-clause-done
returns-clause-done g c = λ acts replies first last since among. are_done (g.D.Device.left_since (disk_of c.args.new.now) since) acts replies first last among
