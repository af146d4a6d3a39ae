-- Pages, and the information of a block that is to be listed.
use Rattle.std.specs.Prelude.{◌≡◌, ℕ, ◌*◌, List, [], ◌∷◌, ◌++◌, length, map, take, drop, replicate}
use Rattle.std.specs.List.{flat_map}
use Rattle.span_types.specs.First.{IsFirstOf}
use Rattle.span_types.specs.declared.spans.Row.{Row}
use Rattle.block_info.specs.InfoParts.{InfoParts}
use Rattle.block_format.specs.Blocks.{BlockHasInfo, BlockHolds}
use Rattle.store_model.specs.Event.{Event, Reply}
use Rattle.store_model.specs.Event.Event.{ReadPage}
use Rattle.store_model.specs.Event.Reply.{Page}
use Rattle.store_state.specs.declared.jobs.JobFile.{JobFile}

-- a page of a file; past the file's end it has zeros
abbrev pub page_of : List ℕ → ℕ → List ℕ
page_of bytes page = take 4096 (drop (page * 4096) bytes ++ replicate 4096 0)

-- A page that is read is the one that the block's file has there.
abbrev pub IsPageRead : Event → Reply → (ℕ → List ℕ) → Type 0
IsPageRead (ReadPage pin block page) (Page bytes) shows = bytes ≡ page_of (shows block) page
IsPageRead _ _ shows = Unit {0}

-- The information names the job's file and level.
pub record NamesJob (file level : ℕ) (info : InfoParts) : Type 0 where
  pub its_file : info.file ≡ file
  pub its_level : info.level ≡ level

-- The bytes are a block of the rows' first occurrences, as the information describes it.
pub record IsBlockOf (bytes : List ℕ) (info : InfoParts) (rows : List Row) : Type 0 where
  pub firsts : List Row
  pub are_first : IsFirstOf rows firsts
  pub block : BlockHasInfo info bytes firsts

-- Blocks, each of which holds the rows of one part.
abbrev pub AreBlocksOf : (ℕ → List ℕ) → List InfoParts → List (List Row) → Type 0
AreBlocksOf bytes [] [] = Unit {0}
AreBlocksOf bytes (info ∷ infos) (rows ∷ parts) =
    BlockHasInfo info (bytes info.file) rows × AreBlocksOf bytes infos parts
AreBlocksOf bytes _ _ = ⊥

-- Blocks in these files, each of which holds the rows of one part.
abbrev pub HoldRows : (ℕ → List ℕ) → List ℕ → List (List Row) → Type 0
HoldRows bytes [] [] = Unit {0}
HoldRows bytes (file ∷ files) (rows ∷ parts) = BlockHolds (bytes file) rows × HoldRows bytes files parts
HoldRows bytes _ _ = ⊥

-- The bytes are a block of the first occurrences of the rows that the files of these blocks hold.
abbrev pub IsJoinedBlock : (ℕ → List ℕ) → List ℕ → InfoParts → List InfoParts → Type 0
IsJoinedBlock shows bytes info infos = (parts : List (List Row)) → HoldRows shows (map (λ i. i.file) infos) parts
    → IsBlockOf bytes info (flat_map (λ rows. rows) parts)

-- What the file of a job holds is just as long as what was written to it.
abbrev pub HasWritten : (ℕ → List ℕ) → JobFile → Type 0
HasWritten bytes out = out.written ≡ length (bytes out.file)
