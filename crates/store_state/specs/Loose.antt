-- The files of jobs that stay open.
use Rattle.std.specs.Prelude.{◌≡◌, ℕ, List, [], ◌∷◌, Option, None, Some}
use Rattle.store_model.specs.State.{Flush}
use Rattle.store_state.specs.declared.listing.FlushFiles.{FlushFiles}

abbrev pub flush_part : Option FlushFiles → List ℕ
flush_part None = []
flush_part (Some files) = files.block ∷ files.segment ∷ []

-- the files of an open flush
pub record AreFilesOf (files : FlushFiles) (job : Flush) : Type 0 where
  pub block : files.block ≡ job.file
  pub segment : files.segment ≡ job.segment
