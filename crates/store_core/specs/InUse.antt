-- Which files are in use.
use Rattle.std.specs.Prelude.{ℕ, ◌⊎◌, ◌<◌, ◌≤◌}
use Rattle.std.specs.List.{Contains}
use Rattle.block_list.specs.Body.{files_of}
use Rattle.block_list.specs.declared.body.ListBody.{ListBody}
use Rattle.store_model.specs.State.{State}
use Rattle.store_model.specs.Sound.{uses}

-- Each file that the list names, and each one that was given out since, has a use.
abbrev pub AreInUse : ListBody → State → Type 0
AreInUse list u = (file : ℕ) → Contains (files_of list) file ⊎ ((list.next_file ≤ file) × (file < u.next_file)) → 1 ≤ uses file u
