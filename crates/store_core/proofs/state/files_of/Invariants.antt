-- So far the list has the files of the information that was passed.
use Rattle.std.proofs.Common.{◌≡◌, take}
use Rattle.store_state.specs.Given.{info_files}
use Rattle.store_core.proofs.state.files_of.Given as goal

abbrev pub invariant-loop-info : goal.invariant-loop-info
invariant-loop-info l = l.files.items ≡ info_files (take l.info-index l.infos)
