-- What a look shows of the history, and which blocks a compaction joins.
use Rattle.std.specs.Prelude.{◌≡◌, ℕ, ◌+◌, ◌≤◌, List, [], ◌∷◌, ◌++◌, length, map}
use Rattle.std.specs.List.{flat_map, AllByRecursion, Contains}
use Rattle.span_types.specs.declared.ids.Key.{Key}
use Rattle.span_types.specs.declared.spans.Row.{Row}
use Rattle.span_types.specs.First.{first_at}
use Rattle.block_info.specs.InfoParts.{InfoParts}
use Rattle.store_model.specs.History.{History, first_in, up_to}
use Rattle.store_model.specs.State.{Block}
use Rattle.store_model.specs.Choice.{choice, level_of, most_rows}
use Rattle.store_state.specs.declared.jobs.Look.{Look}
use Rattle.store_model.specs.Event.{Reply}
use Rattle.store_model.specs.Event.Reply.{Looked}
use Rattle.store_state.specs.Written.{AreBlocksOf, HoldRows}

-- The look's rows, and the rows of its blocks, have the first occurrences of the history as it was at the look's length. Where
-- bytes are told, the files of the blocks hold these rows, as the blocks' information describes them.
pub record ShowsHistory (told : Type 0) (bytes : ℕ → List ℕ) (look : Look) (h : History) : Type 0 where
  pub parts : List (List Row)
  pub one_each : length parts ≡ length look.pin.blocks
  pub their_rows : told → AreBlocksOf bytes look.pin.blocks parts
  pub firsts : (k : Key) → first_at k (look.rows ++ flat_map (λ rows. rows) parts)
      ≡ first_in k (up_to look.as_of h)

-- The rows of a look that is taken, and the rows that the files of its blocks hold, have the first occurrences of the history as it
-- was at the look's length.
abbrev pub IsLookTaken : Reply → (ℕ → List ℕ) → History → Type 0
IsLookTaken (Looked look) shows h =
    (parts : List (List Row)) × HoldRows shows look.files parts
    × ((k : Key) → first_at k (look.rows ++ flat_map (λ rows. rows) parts) ≡ first_in k (up_to look.as_of h))
IsLookTaken _ shows h = Unit {0}

-- Each of the blocks is one, of some rows, as its information describes it.
abbrev pub AreBlocks : (ℕ → List ℕ) → List InfoParts → Type 0
AreBlocks bytes infos = (parts : List (List Row)) × AreBlocksOf bytes infos parts

-- a block as its information tells of it: its rows are left out
abbrev pub told_block : InfoParts → Block
told_block info = record { file = info.file; level = info.level; size = info.rows; rows = [] }

-- Of the listed blocks a compaction to the level joins these.
pub record IsChoiceOf (listed : List InfoParts) (level : ℕ) (pinned : List InfoParts) : Type 0 where
  pub chosen : map told_block pinned ≡ choice (map told_block listed)
  pub theirs : (info : InfoParts) → Contains pinned info → Contains listed info
  pub its_level : level ≡ level_of (map told_block pinned) + 1

-- how many rows the blocks have together, by their information
abbrev pub rows_of : List InfoParts → ℕ
rows_of [] = 0
rows_of (info ∷ infos) = info.rows + rows_of infos

-- Two to four blocks of the level below this one, with at most 1,048,576 rows together.
pub record AreFew (level : ℕ) (infos : List InfoParts) : Type 0 where
  pub two : 2 ≤ length infos
  pub four : length infos ≤ 4
  pub high : level ≤ 63
  pub levels : AllByRecursion (λ (info : InfoParts). info.level + 1 ≡ level) infos
  pub rows : rows_of infos ≤ most_rows

-- They are the choice, with at least one block, among those that are listed, or among some where a port doesn't tell them.
abbrev pub JoinsChoice : (List InfoParts → Type 0) → ℕ → List InfoParts → Type 0
JoinsChoice lists level pinned =
    (listed : List InfoParts) × IsChoiceOf listed level pinned × (1 ≤ length pinned)
    × ((told : List InfoParts) → lists told → told ≡ listed)
