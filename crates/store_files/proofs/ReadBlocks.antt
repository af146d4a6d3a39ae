-- Blocks that are read one further, which blocks they are, and where one breaks.
use Rattle.std.proofs.Common.{◌≡◌, inl, inr, ℕ, ◌+◌, ◌<◌, List, [], ◌∷◌, ◌++◌, map, length, take, drop, get_or, Result, Ok, Err, refl, sym, ◌∙◌, ap, subst}
use Rattle.std.specs.List.{Contains}
use Rattle.std.proofs.lemmas.List.{take_more, map-append}
use Rattle.std.proofs.lemmas.List.Elements.{Contains-append_left, Contains-append_right}
use Rattle.span_types.specs.declared.spans.Row.{Row}
use Rattle.disk_model.specs.Images.{Image, bytes_of}
use Rattle.block_info.specs.InfoParts.{InfoParts}
use Rattle.block_format.specs.Blocks.{BlockHasInfo}
use Rattle.block_list.specs.declared.body.BlockRef.{BlockRef}
use Rattle.block_read.specs.BlockReadings.{block_at, listed_at}
use Rattle.block_read.specs.declared.block.Block.{Block as ReadBlock}
use Rattle.block_read.proofs.BlockBoth.{block_again}
use Rattle.block_read.proofs.BlockFiles.{listed}
use Rattle.store_model.specs.State.{Block, block_rows, block_files}
use Rattle.store_state.specs.Given.{info_files}
use Rattle.store_state.specs.Shown.{told_block}
use Rattle.store_state.specs.Written.{AreBlocksOf}
use Rattle.store_images.specs.Stored.{BlockStands, BlocksStand, ref_of}
use Rattle.store_images.proofs.Lists.{at_front, behind, in_cons, in_map, not_in_nil}
use Rattle.store_files.specs.BlockReading.{AreWhole, BlocksBreak, BlocksRead, block_in, listed_as}
use Rattle.store_files.specs.Described.{AreDescribed}
use Rattle.store_files.proofs.LogSteps.{parted}

-- ---- one block more

blocks_with : (bytes : ℕ → List ℕ) (infos : List InfoParts) (parts : List (List Row)) (info : InfoParts) (rows : List Row) → AreBlocksOf bytes infos parts → BlockHasInfo info (bytes info.file) rows
    → AreBlocksOf bytes (infos ++ info ∷ []) (parts ++ rows ∷ [])
blocks_with bytes [] [] info rows all one = (one, tt)
blocks_with bytes [] (p ∷ ps) info rows all one = absurd all
blocks_with bytes (i ∷ is) [] info rows all one = absurd all
blocks_with bytes (i ∷ is) (p ∷ ps) info rows all one = (all.0, blocks_with bytes is ps info rows all.1 one)

pub none_first : {X : Type 0} (xs : List X) → take 0 xs ≡ []
none_first [] = refl
none_first (x ∷ xs) = refl

pub none_read : (told : Type 0) (image : Image) (refs : List BlockRef) (infos : List InfoParts) → infos ≡ [] → BlocksRead told image (take 0 refs) infos
none_read told image refs infos none =
    subst (λ (l : List BlockRef). BlocksRead told image l infos) (sym (none_first refs))
    (subst (λ (l : List InfoParts). BlocksRead told image [] l) (sym none) (record { listed = refl; built = λ t. ([], tt) }))

-- what is told of the bytes of a later disk that holds the same
pub built_before : (told later : Type 0) (held new : Image) (file : ℕ) (info : InfoParts) → (told → later) → (told → bytes_of new file ≡ bytes_of held file)
    → (later → (rows : List Row) × BlockHasInfo info (bytes_of new file) rows) → told → (rows : List Row) × BlockHasInfo info (bytes_of held file) rows
built_before told later held new file info known same built t =
    let b = built (known t) in (b.0, subst (λ (l : List ℕ). BlockHasInfo info l b.0) (same t) b.1)

pub malformed_before : (held new : Image) (ref : BlockRef) (at : ℕ) → bytes_of new ref.file ≡ bytes_of held ref.file → block_in new ref ≡ Err at → block_in held ref ≡ Err at
malformed_before held new ref at same breaks = ap (listed_at ref.rows) (sym same) ∙ breaks

pub read_further : (told : Type 0) (image : Image) (refs : List BlockRef) (n : ℕ) (d : BlockRef) (infos new : List InfoParts) (info : InfoParts) → n < length refs
    → BlocksRead told image (take n refs) infos → listed_as info ≡ get_or refs n d
    → (told → (rows : List Row) × BlockHasInfo info (bytes_of image (get_or refs n d).file) rows) → new ≡ infos ++ info ∷ []
    → BlocksRead told image (take (n + 1) refs) new
read_further told image refs n d infos new info inside read named built is =
    let its : info.file ≡ (get_or refs n d).file = ap (λ (x : BlockRef). x.file) named in
    subst (λ (l : List InfoParts). BlocksRead told image (take (n + 1) refs) l) (sym is) (record {
      listed = map-append listed_as infos (info ∷ []) ∙ ap (λ (l : List BlockRef). l ++ listed_as info ∷ []) read.listed ∙ ap (λ (x : BlockRef). take n refs ++ x ∷ []) named
          ∙ sym (take_more refs n d inside);
      built = λ t.
          let all = read.built t in
          let one = built t in
          (all.0 ++ one.0 ∷ [], blocks_with (λ file. bytes_of image file) infos all.0 info one.0 all.1 (subst (λ (f : ℕ). BlockHasInfo info (bytes_of image f) one.0) (sym its) one.1));
    })

-- ---- blocks that stand are whole

stands_whole : (image : Image) (block : Block) → BlockStands image block → (found : ReadBlock) × (block_in image (ref_of block) ≡ Ok found)
stands_whole image block s =
    let found : ReadBlock = record { header = s.holds.header; rows = block.rows } in
    (found, listed (bytes_of image block.file) found block.size (sym s.counted) (block_again (bytes_of image block.file) s.holds.header block.rows s.holds.parts))

pub stand_whole : (image : Image) (blocks : List Block) → BlocksStand image blocks → AreWhole image (map ref_of blocks)
stand_whole image [] stand = λ ref c. absurd (not_in_nil ref c)
stand_whole image (b ∷ bs) stand = λ ref c. elim (in_cons ref (ref_of b) (map ref_of bs) c) [
  | inl is ↦ subst (λ (r : BlockRef). (found : ReadBlock) × (block_in image r ≡ Ok found)) is (stands_whole image b (stand b (at_front b bs)))
  | inr rest ↦ stand_whole image bs (λ x inside. stand x (behind x b bs inside)) ref rest
]

-- ---- what was read

-- the blocks that a list names, with the rows that their files hold
pub record BlocksFound (image : Image) (refs : List BlockRef) (infos : List InfoParts) : Type 0 where
  pub blocks : List Block
  pub its : refs ≡ map ref_of blocks
  pub described : AreDescribed image infos blocks
  pub stand : BlocksStand image blocks

found_in : (image : Image) (infos : List InfoParts) (parts : List (List Row)) → AreBlocksOf (λ file. bytes_of image file) infos parts → BlocksFound image (map listed_as infos) infos
found_in image [] [] all = record { blocks = []; its = refl; described = tt; stand = λ b c. absurd (not_in_nil b c) }
found_in image [] (p ∷ ps) all = absurd all
found_in image (i ∷ is) [] all = absurd all
found_in image (i ∷ is) (p ∷ ps) all =
    let rest = found_in image is ps all.1 in
    let here : Block = record { file = i.file; level = i.level; size = i.rows; rows = p } in
    let stands : BlockStands image here = record {
      holds = record { header = all.0.header; parts = all.0.parts };
      counted = ap (λ (x : InfoParts). x.rows) all.0.info_is;
    } in
    record {
      blocks = here ∷ rest.blocks;
      its = ap (λ (l : List BlockRef). listed_as i ∷ l) rest.its;
      described = (all.0, rest.described);
      stand = λ b c. elim (in_cons b here rest.blocks c) [
        | inl is ↦ subst (λ (x : Block). BlockStands image x) is stands
        | inr later ↦ rest.stand b later
      ];
    }

pub blocks_found : (told : Type 0) (image : Image) (refs : List BlockRef) (infos : List InfoParts) → BlocksRead told image refs infos → told → BlocksFound image refs infos
blocks_found told image refs infos read t =
    let all = read.built t in
    subst (λ (l : List BlockRef). BlocksFound image l infos) read.listed (found_in image infos all.0 all.1)

pub read_blocks_whole : (told : Type 0) (image : Image) (refs : List BlockRef) (infos : List InfoParts) → BlocksRead told image refs infos → told → AreWhole image refs
read_blocks_whole told image refs infos read t =
    let found = blocks_found told image refs infos read t in
    subst (λ (l : List BlockRef). AreWhole image l) (sym found.its) (stand_whole image found.blocks found.stand)

-- ---- where a block breaks

pub breaks_at : (told : Type 0) (image : Image) (refs : List BlockRef) (n : ℕ) (d : BlockRef) (infos : List InfoParts) (file at : ℕ) → n < length refs → told
    → BlocksRead told image (take n refs) infos → file ≡ (get_or refs n d).file → block_in image (get_or refs n d) ≡ Err at → BlocksBreak image refs file at
breaks_at told image refs n d infos file at inside t read its breaks = record {
  front = take n refs;
  here = get_or refs n d;
  behind = drop (n + 1) refs;
  split = parted refs n d inside;
  whole = read_blocks_whole told image (take n refs) infos read t;
  its_file = its;
  breaks = breaks;
}

pub whole_same : (a b : Image) (refs : List BlockRef) → ((x : BlockRef) → Contains refs x → bytes_of b x.file ≡ bytes_of a x.file) → AreWhole b refs → AreWhole a refs
whole_same a b refs same whole = λ ref c. let w = whole ref c in (w.0, ap (listed_at ref.rows) (sym (same ref c)) ∙ w.1)

broken_here : (image : Image) (refs : List BlockRef) (file at : ℕ) (broken : BlocksBreak image refs file at) → Contains refs broken.here
broken_here image refs file at broken =
    subst (λ (l : List BlockRef). Contains l broken.here) (sym broken.split) (Contains-append_right broken.front (broken.here ∷ broken.behind) broken.here (at_front broken.here broken.behind))

pub blocks_break_same : (a b : Image) (refs : List BlockRef) (file at : ℕ) → ((x : BlockRef) → Contains refs x → bytes_of b x.file ≡ bytes_of a x.file) → BlocksBreak b refs file at
    → BlocksBreak a refs file at
blocks_break_same a b refs file at same broken = record {
  front = broken.front;
  here = broken.here;
  behind = broken.behind;
  split = broken.split;
  whole = whole_same a b broken.front (λ x c. same x (subst (λ (l : List BlockRef). Contains l x) (sym broken.split) (Contains-append_left broken.front (broken.here ∷ broken.behind) x c))) broken.whole;
  its_file = broken.its_file;
  breaks = ap (listed_at broken.here.rows) (sym (same broken.here (broken_here b refs file at broken))) ∙ broken.breaks;
}

pub blocks_unbroken : (image : Image) (refs : List BlockRef) (file at : ℕ) → AreWhole image refs → BlocksBreak image refs file at → ⊥
blocks_unbroken image refs file at whole broken =
    let w = whole broken.here (broken_here image refs file at broken) in
    let bad : Ok w.0 ≡ Err at = sym w.1 ∙ broken.breaks in
    absurd cc

-- ---- an image has one list of blocks

same_read : (read : Result ReadBlock ℕ) (a b : ReadBlock) → read ≡ Ok a → read ≡ Ok b → a ≡ b
same_read read a b one other = let both : Ok a ≡ Ok b = sym one ∙ other in cc

one_block : (image : Image) (a b : Block) → ref_of a ≡ ref_of b → BlockStands image a → BlockStands image b → a ≡ b
one_block image a b same one other =
    let file : a.file ≡ b.file = ap (λ (r : BlockRef). r.file) same in
    let level : a.level ≡ b.level = ap (λ (r : BlockRef). r.level) same in
    let size : a.size ≡ b.size = ap (λ (r : BlockRef). r.rows) same in
    let mine : ReadBlock = record { header = one.holds.header; rows = a.rows } in
    let its : ReadBlock = record { header = other.holds.header; rows = b.rows } in
    let found : mine ≡ its =
    same_read (block_at (bytes_of image a.file)) mine its (block_again (bytes_of image a.file) one.holds.header a.rows one.holds.parts)
    (subst (λ (f : ℕ). block_at (bytes_of image f) ≡ Ok its) (sym file) (block_again (bytes_of image b.file) other.holds.header b.rows other.holds.parts)) in
    let rows : a.rows ≡ b.rows = ap (λ (x : ReadBlock). x.rows) found in
    ap (λ (f : ℕ). record { file = f; level = a.level; size = a.size; rows = a.rows }) file
    ∙ ap (λ (l : ℕ). record { file = b.file; level = l; size = a.size; rows = a.rows }) level
    ∙ ap (λ (n : ℕ). record { file = b.file; level = b.level; size = n; rows = a.rows }) size
    ∙ ap (λ (r : List Row). record { file = b.file; level = b.level; size = b.size; rows = r }) rows

pub one_blocks : (image : Image) (some others : List Block) → map ref_of some ≡ map ref_of others → BlocksStand image some → BlocksStand image others → some ≡ others
one_blocks image [] [] same one other = refl
one_blocks image [] (b ∷ bs) same one other = absurd (let bad : [] ≡ ref_of b ∷ map ref_of bs = same in cc)
one_blocks image (a ∷ more) [] same one other = absurd (let bad : ref_of a ∷ map ref_of more ≡ [] = same in cc)
one_blocks image (a ∷ more) (b ∷ bs) same one other =
    let both : ref_of a ∷ map ref_of more ≡ ref_of b ∷ map ref_of bs = same in
    let first : ref_of a ≡ ref_of b = cc in
    let later : map ref_of more ≡ map ref_of bs = ap (drop 1) both in
    ap (λ (x : Block). x ∷ more) (one_block image a b first (one a (at_front a more)) (other b (at_front b bs)))
    ∙ ap (λ (l : List Block). b ∷ l) (one_blocks image more bs later (λ x c. one x (behind x a more c)) (λ x c. other x (behind x b bs c)))

-- ---- blocks of which the rows aren't known

pub told_refs : (infos : List InfoParts) → map listed_as infos ≡ map ref_of (map told_block infos)
told_refs [] = refl
told_refs (i ∷ is) = ap (λ (l : List BlockRef). listed_as i ∷ l) (told_refs is)

pub told_rows : (infos : List InfoParts) → block_rows (map told_block infos) ≡ []
told_rows [] = refl
told_rows (i ∷ is) = told_rows is

-- ---- files

files_listed : (infos : List InfoParts) → map (λ (ref : BlockRef). ref.file) (map listed_as infos) ≡ info_files infos
files_listed [] = refl
files_listed (i ∷ is) = ap (λ (l : List ℕ). i.file ∷ l) (files_listed is)

pub files_of_refs : (blocks : List Block) → map (λ (ref : BlockRef). ref.file) (map ref_of blocks) ≡ block_files blocks
files_of_refs [] = refl
files_of_refs (b ∷ bs) = ap (λ (l : List ℕ). b.file ∷ l) (files_of_refs bs)

pub same_block_files : (infos : List InfoParts) (refs : List BlockRef) (blocks : List Block) → map listed_as infos ≡ refs → refs ≡ map ref_of blocks → info_files infos ≡ block_files blocks
same_block_files infos refs blocks listed its = sym (files_listed infos) ∙ ap (map (λ (ref : BlockRef). ref.file)) (listed ∙ its) ∙ files_of_refs blocks

pub block_in_list : (refs : List BlockRef) (blocks : List Block) (b : Block) → refs ≡ map ref_of blocks → Contains blocks b → Contains refs (ref_of b)
block_in_list refs blocks b its c = subst (λ (l : List BlockRef). Contains l (ref_of b)) (sym its) (in_map ref_of blocks b c)
