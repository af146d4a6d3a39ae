-- What an image stands for whose list is that of a compaction's commit.
use Rattle.std.proofs.Common.{◌≡◌, inl, inr, ℕ, ◌+◌, ◌-◌, ◌≤◌, List, [], ◌∷◌, ◌++◌, map, drop, None, Some, refl, sym, ◌∙◌, ap, subst, arith}
use Rattle.std.specs.List.{Contains}
use Rattle.std.proofs.lemmas.List.{append-nil}
use Rattle.std.proofs.lemmas.List.Elements.{Contains-append_cases, Contains-append_left, Contains-append_right, Contains-push_cases}
use Rattle.span_types.specs.declared.spans.Span.{Span}
use Rattle.span_types.specs.declared.spans.Row.{Row}
use Rattle.span_types.specs.First.{IsFirstOf}
use Rattle.disk_model.specs.Images.{Image}
use Rattle.block_list.specs.Body.{MeetsRules}
use Rattle.block_list.specs.declared.body.SegmentRef.{SegmentRef}
use Rattle.block_list.specs.declared.body.ListBody.{ListBody}
use Rattle.store_images.proofs.Kept.{stands_with}
use Rattle.store_model.specs.History.{History, record_rows}
use Rattle.store_model.specs.Laws.{AgreesOn}
use Rattle.store_model.specs.RowSets.{Within}
use Rattle.store_model.specs.State.{State, Block, Compaction, block_rows, block_files}
use Rattle.store_model.specs.Choice.{in_files, outside_files}
use Rattle.store_model.specs.After.{after_commit_compact}
use Rattle.store_model.specs.Event.Event.{CommitCompact}
use Rattle.store_model.specs.Event.Reply.{Fine}
use Rattle.store_model.specs.Step.{Machine, Step, with_state}
use Rattle.store_model.specs.Step.Step.{Succeeds}
use Rattle.store_model.proofs.KeepsFirsts.{step_keeps}
use Rattle.store_images.specs.Committed.{CommitsCompaction, with_joined}
use Rattle.store_images.specs.Log.{LogHolds}
use Rattle.store_images.specs.Stored.{ImageStandsFor, BlockStands, StoreHolds, SameFirsts, first_number, stored_rows}
use Rattle.store_images.proofs.Between.{later_in}
use Rattle.store_images.proofs.Keeping.{rules_in}

-- ---- a machine with these blocks and rows, in which a compaction of the blocks in these files is open

abbrev bare : ℕ → Block
bare file = record { file = file; level = 0; size = 0; rows = [] }

files_of_bare : (files : List ℕ) → block_files (map bare files) ≡ files
files_of_bare [] = refl
files_of_bare (file ∷ files) = ap (λ (l : List ℕ). file ∷ l) (files_of_bare files)

abbrev job_of : Block → Compaction
job_of block = record { number = 0; file = block.file; level = block.level; pin = 0 }

abbrev open_in : List ℕ → List Block → Block → List Row → State
open_in files blocks block rows = record {
  live = [];
  head = rows;
  flush = None;
  compaction = Some (job_of block);
  blocks = blocks;
  segments = [];
  floor = 0;
  loose = [];
  pins = record { number = 0; blocks = map bare files } ∷ [];
  next_file = 0;
  begun = 0;
}

-- ---- rows

-- its commit keeps the first occurrences, whatever other rows there are
pub rejoined : (files : List ℕ) (blocks : List Block) (block : Block) (rows : List Row) (h : History) → IsFirstOf (block_rows (in_files files blocks)) block.rows
    → AgreesOn (block_rows blocks ++ rows) h → AgreesOn (block_rows (with_joined files blocks block) ++ rows) h
rejoined files blocks block rows h firsts agrees =
    subst (λ (l : List ℕ). AgreesOn (block_rows (with_joined l blocks block) ++ rows) h) (files_of_bare files)
    (subst (λ (l : List Row). AgreesOn l h) (shown (with_joined (block_files (map bare files)) blocks block))
    (step_keeps 0 0 before after (CommitCompact 0 block.size) Fine (subst (λ (l : List Row). AgreesOn l h) (sym (shown blocks)) agrees) step))
  where
    shown : (l : List Block) → ((block_rows l ++ []) ++ rows) ++ [] ≡ block_rows l ++ rows
    shown l = append-nil ((block_rows l ++ []) ++ rows) ∙ ap (λ (r : List Row). r ++ rows) (append-nil (block_rows l))

    before : Machine
    before = record { state = open_in files blocks block rows; history = h; read_only = None }

    after : Machine
    after = with_state (after_commit_compact (job_of block) block.size block.rows (open_in files blocks block rows)) before

    step : Step 0 0 before (CommitCompact 0 block.size) Fine after
    step = Succeeds refl (job_of block, block.rows, refl, refl, subst (λ (l : List ℕ). IsFirstOf (block_rows (in_files l blocks)) block.rows) (sym (files_of_bare files)) firsts, refl, refl)

-- the records below a number bring no first occurrence still
pub still_floored : (files : List ℕ) (blocks : List Block) (block : Block) (first gone : ℕ) (batches : List (List Span)) (h : History) → IsFirstOf (block_rows (in_files files blocks)) block.rows
    → AgreesOn (stored_rows blocks first batches) h → SameFirsts (stored_rows blocks first batches) (stored_rows blocks (first + gone) (drop gone batches))
    → SameFirsts (stored_rows (with_joined files blocks block) first batches) (stored_rows (with_joined files blocks block) (first + gone) (drop gone batches))
still_floored files blocks block first gone batches h firsts agrees same =
    λ k. (rejoined files blocks block (record_rows first batches) h firsts agrees).firsts k ∙ sym ((rejoined files blocks block (record_rows (first + gone) (drop gone batches)) h firsts above).firsts k)
  where
    fewer : Within (stored_rows blocks (first + gone) (drop gone batches)) (stored_rows blocks first batches)
    fewer x inside = elim (Contains-append_cases (block_rows blocks) (record_rows (first + gone) (drop gone batches)) x inside) [
      | inl built ↦ Contains-append_left (block_rows blocks) (record_rows first batches) x built
      | inr logged ↦ Contains-append_right (block_rows blocks) (record_rows first batches) x (later_in first gone batches x logged)
    ]

    above : AgreesOn (stored_rows blocks (first + gone) (drop gone batches)) h
    above = record {
      firsts = λ k. sym (same k) ∙ agrees.firsts k;
      one = λ x y hx hy e. agrees.one x y (fewer x hx) (fewer y hy) e;
      below = λ x hx. agrees.below x (fewer x hx);
    }

-- ---- the image

module _ (image : Image) (body new : ListBody) (files : List ℕ) (blocks : List Block) (block : Block) (batches : List (List Span)) (h : History)
    (c : CommitsCompaction image body new files blocks block batches h) where
  abbrev listed_blocks : List Block
  listed_blocks = with_joined files blocks block

  built_with : (b : Block) → Contains listed_blocks b → BlockStands image b
  built_with b inside = elim (Contains-push_cases (outside_files files blocks) block b inside) [ inl old ↦ c.built b old | inr is ↦ subst (λ (x : Block). BlockStands image x) is c.own ]

  pub first_stays : first_number new ≡ first_number body
  first_stays = ap (λ (l : List SegmentRef). first_number (record body { segments = l })) c.segments

  from_floor : first_number body + (body.floor - first_number body) ≡ body.floor
  from_floor =
      let rules : MeetsRules new = rules_in image new c.listed in
      let low : first_number new ≤ new.floor = rules.from_floor in
      let floor = c.floor in
      omega (arith, low, floor, first_stays)

  floored_with : SameFirsts (stored_rows listed_blocks (first_number new) batches) (stored_rows listed_blocks new.floor (drop (new.floor - first_number new) batches))
  floored_with =
      subst (λ (n : ℕ). SameFirsts (stored_rows listed_blocks n batches) (stored_rows listed_blocks new.floor (drop (new.floor - n) batches))) (sym first_stays)
      (subst (λ (f : ℕ). SameFirsts (stored_rows listed_blocks (first_number body) batches) (stored_rows listed_blocks f (drop (f - first_number body) batches))) (sym c.floor)
      (subst (λ (f : ℕ). SameFirsts (stored_rows listed_blocks (first_number body) batches) (stored_rows listed_blocks f (drop (body.floor - first_number body) batches))) from_floor
      (still_floored files blocks block (first_number body) (body.floor - first_number body) batches h c.firsts c.agrees
      (subst (λ (f : ℕ). SameFirsts (stored_rows blocks (first_number body) batches) (stored_rows blocks f (drop (body.floor - first_number body) batches))) (sym from_floor) c.floored))))

  pub store_compacted : StoreHolds image new listed_blocks batches
  store_compacted = record {
    listed = c.listed;
    its_blocks = c.blocks_are;
    built = built_with;
    logged = subst (λ (l : List SegmentRef). LogHolds image l (first_number new) batches) (sym c.segments) (subst (λ (n : ℕ). LogHolds image body.segments n batches) (sym first_stays) c.logged);
    floored = floored_with;
  }

  pub agrees_compacted : AgreesOn (stored_rows listed_blocks (first_number new) batches) h
  agrees_compacted =
      subst (λ (n : ℕ). AgreesOn (stored_rows listed_blocks n batches) h) (sym first_stays) (rejoined files blocks block (record_rows (first_number body) batches) h c.firsts c.agrees)

  pub compacted : ImageStandsFor image h
  compacted = stands_with image new listed_blocks batches h store_compacted agrees_compacted (let counts = c.counts in omega (arith, counts, first_stays))
