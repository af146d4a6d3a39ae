-- Where a compaction's commit may be made: what the core stands for, once the block was synced, and the rows of the new block.
use Rattle.std.proofs.Common.{◌≡◌, ◌⊎◌, inl, inr, ℕ, ◌<◌, ◌≤◌, Bool, true, false, List, [], ◌∷◌, ◌++◌, length, Some, None, Option, if◌then◌else◌, refl, sym, ◌∙◌, ap, subst, arith}
use Rattle.std.specs.List.{Contains, flat_map}
use Rattle.span_types.specs.declared.spans.Row.{Row}
use Rattle.span_types.specs.First.{IsFirstOf}
use Rattle.disk_model.specs.Images.{Image, bytes_of, SameBytes}
use Rattle.disk_model.specs.Crash.{OnlyBytes, Within}
use Rattle.block_info.specs.InfoParts.{InfoParts}
use Rattle.block_format.specs.Blocks.{BlockHolds, BlockHasInfo}
use Rattle.block_list.specs.Body.{files_of}
use Rattle.block_list.specs.declared.body.ListBody.{ListBody}
use Rattle.store_model.specs.State.{State, Block, Compaction, block_files, block_rows, compaction_files, is_among, pinned_blocks}
use Rattle.store_model.specs.Choice.{in_files, outside_files}
use Rattle.store_model.specs.After.{after_commit_compact, job_files}
use Rattle.store_model.specs.Sound.{times, uses}
use Rattle.store_model.specs.Step.{Machine}
use Rattle.store_model.proofs.Chosen.{split}
use Rattle.store_model.proofs.FirstsExist.{firsts_exist}
use Rattle.store_model.proofs.Numbers.{times-append, map_append}
use Rattle.store_state.specs.Given.{info_files}
use Rattle.store_state.specs.Shown.{AreBlocks}
use Rattle.store_state.specs.Written.{HoldRows, IsBlockOf, IsJoinedBlock}
use Rattle.store_images.specs.Committed.{MayCompact}
use Rattle.store_core.specs.Cores.{StandsFor}
use Rattle.store_files.specs.Described.{rows_by_block}
use Rattle.store_files.specs.LogReading.{tail_of}
use Rattle.store_core.specs.InUse.{AreInUse}
use Rattle.store_core.specs.NextList.{IsJoinedList}
use Rattle.store_core.specs.declared.state.CoreState.{CoreState}
use Rattle.store_files.proofs.Apart.{below_same, settled_below}
use Rattle.store_core.proofs.Described.{described_holds}
use Rattle.store_core.proofs.CompactStates.{joined_block, joined_state}
use Rattle.store_core.proofs.InUse.{once_contained}
use Rattle.store_core.proofs.ListedBlocks.{hold_inside}
use Rattle.store_core.proofs.NextLists.{NamesState, uses_are}
use Rattle.store_core.proofs.OpenCompactions.{IsCompactionHere, model_of, spare_compaction}
use Rattle.store_core.proofs.Spare.{spare_low}

-- ---- the rows of the blocks that are joined

holds_inside : (bytes : ℕ → List ℕ) (files : List ℕ) (blocks : List Block) → HoldRows bytes (block_files blocks) (rows_by_block blocks)
    → HoldRows bytes (block_files (in_files files blocks)) (rows_by_block (in_files files blocks))
holds_inside bytes files [] was = tt
holds_inside bytes files (b ∷ bs) was = by_test (is_among b.file files) (holds_inside bytes files bs was.1)
  where
    by_test : (t : Bool) → HoldRows bytes (block_files (in_files files bs)) (rows_by_block (in_files files bs))
        → HoldRows bytes (block_files (if t then b ∷ in_files files bs else in_files files bs)) (rows_by_block (if t then b ∷ in_files files bs else in_files files bs))
    by_test true rest = (was.0, rest)
    by_test false rest = rest

rows_joined : (blocks : List Block) → flat_map (λ (rows : List Row). rows) (rows_by_block blocks) ≡ block_rows blocks
rows_joined [] = refl
rows_joined (b ∷ bs) = ap (λ (rows : List Row). b.rows ++ rows) (rows_joined bs)

-- The first occurrences of the rows of the blocks in these files, of which the new block is one wherever bytes are told.
pub record HasFirsts (told : Type 0) (own : List ℕ) (info : InfoParts) (files : List ℕ) (blocks : List Block) : Type 0 where
  pub firsts : List Row
  pub are_first : IsFirstOf (block_rows (in_files files blocks)) firsts
  pub block : told → BlockHasInfo info own firsts
  pub counted : told → info.rows ≡ length firsts

module _ (told : Type 0) (held : Image) (may_leave : Image → Type 0) (core : CoreState) (m : Machine) (s : StandsFor told held may_leave core m) (number file level pin : ℕ) (infos : List InfoParts)
    (here : IsCompactionHere core m number file level pin (info_files infos)) where
  abbrev pub its_job : Compaction
  its_job = model_of here.mine

  -- its pin's files are those of the blocks that it joins
  pub files_here : info_files infos ≡ job_files its_job m.state
  files_here = sym here.its_files ∙ ap (λ (p : ℕ). block_files (pinned_blocks p m.state.pins)) (sym here.its_pin)

  inside_files : block_files (in_files (job_files its_job m.state) m.state.blocks) ≡ job_files its_job m.state
  inside_files = ap block_files (s.sound.joining its_job here.is_open).listed

  -- the new block is one of the first occurrences of their rows
  joined_told : told → (info : InfoParts) → IsJoinedBlock (λ f. bytes_of held f) (bytes_of held file) info infos
      → IsBlockOf (bytes_of held file) info (block_rows (in_files (job_files its_job m.state) m.state.blocks))
  joined_told known info joined =
      let inside : List Block = in_files (job_files its_job m.state) m.state.blocks in
      let holds : HoldRows (λ f. bytes_of held f) (block_files inside) (rows_by_block inside) =
      holds_inside (λ f. bytes_of held f) (job_files its_job m.state) m.state.blocks (described_holds (λ f. bytes_of held f) core.infos.items m.state.blocks s.has.infos (s.built known)) in
      subst (λ (rows : List Row). IsBlockOf (bytes_of held file) info rows) (rows_joined inside)
      (joined (rows_by_block inside) (subst (λ (fs : List ℕ). HoldRows (λ f. bytes_of held f) fs (rows_by_block inside)) (inside_files ∙ sym files_here) holds))

  -- and one of some rows, where the listed blocks are blocks
  pub joined_listed : AreBlocks (λ f. bytes_of held f) core.infos.items → (info : InfoParts) → IsJoinedBlock (λ f. bytes_of held f) (bytes_of held file) info infos
      → (rows : List Row) × BlockHasInfo info (bytes_of held file) rows
  joined_listed are info joined =
      let inside = hold_inside (λ f. bytes_of held f) (job_files its_job m.state) core.infos.items m.state.blocks are.0 s.has.infos are.1 in
      let its = joined inside.0 (subst (λ (fs : List ℕ). HoldRows (λ f. bytes_of held f) fs inside.0) (inside_files ∙ sym files_here) inside.1) in
      (its.firsts, its.block)

  pub firsts_for : told ⊎ (told → ⊥) → (info : InfoParts) → (told → IsJoinedBlock (λ f. bytes_of held f) (bytes_of held file) info infos)
      → HasFirsts told (bytes_of held file) info (job_files its_job m.state) m.state.blocks
  firsts_for (inl known) info joined =
      let its = joined_told known info (joined known) in
      record { firsts = its.firsts; are_first = its.are_first; block = λ t. its.block; counted = λ t. ap (λ (i : InfoParts). i.rows) its.block.info_is }
  firsts_for (inr never) info joined =
      let found = firsts_exist (block_rows (in_files (job_files its_job m.state) m.state.blocks)) in
      record { firsts = found.0; are_first = found.1; block = λ t. absurd (never t); counted = λ t. absurd (never t) }

-- ---- files

uses_joined : (u : State) (job : Compaction) (size : ℕ) (firsts : List Row) → u.compaction ≡ Some job → (f : ℕ) → uses f u ≤ uses f (after_commit_compact job size firsts u)
uses_joined u job size firsts here f =
    let files : List ℕ = job_files job u in
    let block : Block = record { file = job.file; level = job.level; size = size; rows = firsts } in
    let blocks = ap (times f) (map_append (λ (b : Block). b.file) (outside_files files u.blocks) (block ∷ [])) ∙ times-append f (block_files (outside_files files u.blocks)) (job.file ∷ []) in
    let parts = split f files u.blocks in
    let loose = times-append f u.loose (block_files (in_files files u.blocks)) in
    let own : times f (compaction_files u.compaction) ≡ times f (job.file ∷ []) = ap (λ (o : Option Compaction). times f (compaction_files o)) here in
    omega (arith, blocks, parts, loose, own)

-- the list that is committed names each file that the old one named, and each one that was given out since
pub all_joined : (body new : ListBody) (u : State) (job : Compaction) (size : ℕ) (firsts : List Row) → u.compaction ≡ Some job → AreInUse body u → NamesState new (after_commit_compact job size firsts u)
    → (file : ℕ) → Contains (files_of body) file ⊎ ((body.next_file ≤ file) × (file < new.next_file)) → Contains (files_of new) file
all_joined body new u job size firsts here was names file given =
    let next = names.next_file in
    let old = was file (elim given [ inl c ↦ inl c | inr r ↦ inr (r.0, (let under = r.1 in omega (arith, under, next))) ]) in
    let rises = uses_joined u job size firsts here file in
    let same = uses_are new (after_commit_compact job size firsts u) names file in
    once_contained file (files_of new) (omega (arith, old, rises, same))

-- ---- the disk, once the block was synced

pub may_compact : (told : Type 0) (known : told) (held mid : Image) (may_leave may_mid : Image → Type 0) (core : CoreState) (m : Machine) (s : StandsFor told held may_leave core m) → core.read_only ≡ None
    → (number file level pin size : ℕ) (files : List ℕ) (here : IsCompactionHere core m number file level pin files) (firsts : List Row) (list : ListBody) → (joined : List ℕ) → IsJoinedList core here.mine joined size list
    → NamesState list (joined_state m (model_of here.mine) size firsts)
    → SameBytes held mid → Within may_leave may_mid → OnlyBytes file (bytes_of mid file) may_mid
    → IsFirstOf (block_rows (in_files (job_files (model_of here.mine) m.state) m.state.blocks)) firsts → BlockHolds (bytes_of held file) firsts → size ≡ length firsts
    → MayCompact mid may_mid core.list list (job_files (model_of here.mine) m.state) m.state.blocks (joined_block (model_of here.mine) size firsts) (tail_of core.segment) m.history
may_compact told known held mid may_leave may_mid core m s writes number file level pin size files here firsts list joined next names same crash lasting are_first block counted = record {
  settled = settled_below held may_leave core.list (s.settled known writes).lies.ready mid may_mid (λ f below. same f) (λ image left. (image, crash image left, below_same core.list.next_file image))
      m.state.blocks (tail_of core.segment) m.history (s.settled known writes);
  segments = next.segments;
  floor = next.its_floor;
  blocks_are = sym names.blocks;
  low = spare_low core.list s.has.rules here.mine.file (spare_compaction core m here.mine s.has here.known);
  own = record {
    holds = subst (λ (n : ℕ). BlockHolds (bytes_of mid n) firsts) (sym here.its_file) (subst (λ (b : List ℕ). BlockHolds b firsts) (sym (same file)) block);
    counted = counted;
  };
  own_only = subst (λ (n : ℕ). OnlyBytes n (bytes_of mid n) may_mid) (sym here.its_file) lasting;
  firsts = are_first;
}
