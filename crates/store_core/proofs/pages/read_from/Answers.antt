use Rattle.std.proofs.Common.{refl, ◌∙◌}
use Rattle.disk_model.specs.Images.{bytes_of}
use Rattle.store_files.proofs.Apart.{ok_then}
use Rattle.store_core.proofs.PageEvents.{page_is}
use Rattle.store_core.proofs.pages.read_from.Goals as goal

pub returns-clause-bytes : goal.returns-clause-bytes
returns-clause-bytes g c = λ told.
    ok_then c.read_at.result _ _ (λ is. is ∙ page_is (bytes_of (g.D.Device.held c.args.disk.now) c.args.file) c.args.at _ refl) (c.read_at.ensures.bytes told)
