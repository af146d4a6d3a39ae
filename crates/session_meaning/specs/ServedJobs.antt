-- What the last call of a flush and of a compaction of one of several clients lists, by the store at the round's begin.
use Rattle.std.specs.Prelude.{◌≡◌, ℕ, ◌+◌, Bool, true, List, [], ◌∷◌, ◌++◌, Some, length, take}
use Rattle.span_types.specs.First.{IsFirstOf}
use Rattle.span_types.specs.declared.spans.Row.{Row}
use Rattle.store_model.specs.After.{after_commit_compact, after_commit_flush, chosen_job, job_files, taken}
use Rattle.store_model.specs.Choice.{choice, in_files, level_of, most_rows, outside_files}
use Rattle.store_model.specs.History.{count_of}
use Rattle.store_model.specs.Sound.{StateIsSound}
use Rattle.store_model.specs.State.{IsFreeNumber, block_files, block_rows}
use Rattle.store_model.specs.Step.{Machine, with_state}

-- The commit, from `m` to `m'`, of a flush that began in `begun`. Whatever calls of others came in between, the job that is open is the one
-- that was taken at the begin. The block holds the first occurrences of its rows, which were counted, and is listed after all others.
pub record ListsRows (begun m : Machine) (count : ℕ) (m' : Machine) : Type 0 where
  pub is_open : m.state.flush ≡ Some (taken begun.state)
  pub rows : List Row
  pub of_head : IsFirstOf (take most_rows begun.state.head) rows
  pub counted : count ≡ length rows
  pub leaves : m' ≡ with_state (after_commit_flush (count_of m.history) (taken begun.state) count rows m.state) m
  pub listed : m'.state.blocks ≡ m.state.blocks
      ++ record { file = begun.state.next_file; level = 0; size = count; rows = rows } ∷ []

-- The commit, from `m` to `m'`, of a compaction that began in `begun`. Whatever calls of others came in between, the job that is open is
-- the one that was given at the begin, and it names the files of the blocks that were chosen there. The block holds the first occurrences
-- of the rows that the listed blocks in these files have, which were counted where what the blocks hold is told. It is listed after all
-- others, and they aren't listed any more. Where files were apart at the begin, they are just the blocks that were chosen.
pub record ListsInPlace (told : Bool) (begun m : Machine) (blocks count : ℕ) (m' : Machine) : Type 0 where
  pub all : blocks ≡ length (choice begun.state.blocks)
  pub pin : ℕ
  pub is_free : IsFreeNumber pin begun.state.pins
  pub is_open : m.state.compaction ≡ Some (chosen_job pin begun.state)
  pub files : job_files (chosen_job pin begun.state) m.state ≡ block_files (choice begun.state.blocks)
  pub still : StateIsSound begun.state → in_files (block_files (choice begun.state.blocks)) m.state.blocks ≡ choice begun.state.blocks
  pub rows : List Row
  pub of_blocks : IsFirstOf (block_rows (in_files (block_files (choice begun.state.blocks)) m.state.blocks)) rows
  pub counted : told ≡ true → count ≡ length rows
  pub leaves : m' ≡ with_state (after_commit_compact (chosen_job pin begun.state) count rows m.state) m
  pub listed : m'.state.blocks ≡ outside_files (block_files (choice begun.state.blocks)) m.state.blocks
      ++ record { file = begun.state.next_file; level = level_of (choice begun.state.blocks) + 1; size = count; rows = rows } ∷ []
