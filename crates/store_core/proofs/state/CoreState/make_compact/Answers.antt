use Rattle.std.proofs.lemmas.Result.{err_from_is_err_and}
use Rattle.store_core.proofs.MadeRooms.{not_made}
use Rattle.store_core.proofs.state.CoreState.make_compact.Goals as goal

pub returns-in_err-pinned-clause-lacking : goal.returns-in_err-pinned-clause-lacking
returns-in_err-pinned-clause-lacking c =
    let p = err_from_is_err_and c.from_residual.result c.from_residual.ensures.1 in
    rw p.1 (not_made c.args.self.now)

pub returns-in_err-files-clause-lacking : goal.returns-in_err-files-clause-lacking
returns-in_err-files-clause-lacking c =
    let p = err_from_is_err_and c.from_residual-in_err-files.result c.from_residual-in_err-files.ensures.1 in
    rw p.1 (not_made c.args.self.now)
