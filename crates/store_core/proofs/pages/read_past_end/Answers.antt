use Rattle.std.proofs.Common.{◌*◌, ℕ, List, refl}
use Rattle.disk_model.specs.Images.{bytes_of}
use Rattle.store_core.proofs.PageEvents.{past_is, past_end}
use Rattle.store_core.proofs.pages.read_past_end.Goals as goal

pub returns : goal.returns
returns g c = λ told.
    let bytes : List ℕ = bytes_of (g.D.Device.held c.args.disk.now) c.args.file in
    past_is bytes (c.args.page * 4096) _ refl (past_end bytes (c.args.page * 4096) (c.is_short.ensures told) c.requires)
