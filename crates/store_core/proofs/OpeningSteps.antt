-- What an opening keeps of its disk, and that it ends settled.
use Rattle.std.proofs.Common.{◌≡◌, inl, inr, ℕ, ◌+◌, ◌-◌, ◌≤◌, List, [], ◌∷◌, ◌++◌, map, length, drop, Some, None, Ok, Err, refl, sym, ◌∙◌, ap, subst, arith}
use Rattle.std.specs.List.{Contains}
use Rattle.std.proofs.lemmas.List.Elements.{Contains-append_cases, Contains-append_left, Contains-append_right}
use Rattle.span_types.specs.declared.spans.Span.{Span}
use Rattle.span_types.specs.declared.spans.Row.{Row}
use Rattle.disk_model.specs.Images.{Image, bytes_of}
use Rattle.disk_model.specs.Crash.{OnlyBytes}
use Rattle.head_log.specs.Stands.{SegmentHolds}
use Rattle.block_list.specs.Body.{MeetsRules}
use Rattle.block_list.specs.Slots.{ImageHoldsList}
use Rattle.block_list.specs.Reading.{slots_at}
use Rattle.block_list.specs.Loading.{IsReady}
use Rattle.block_list.proofs.SlotLemmas.{same_some}
use Rattle.block_list.proofs.AgainSlots.{slots_again}
use Rattle.block_list.specs.declared.body.BlockRef.{BlockRef}
use Rattle.block_list.specs.declared.body.SegmentRef.{SegmentRef}
use Rattle.block_list.specs.declared.body.ListBody.{ListBody}
use Rattle.block_list.specs.declared.error.ListError.{ListError}
use Rattle.block_list.specs.declared.error.ListError.TheVariants as list_errors
use Rattle.store_images.proofs.Kept.{agrees_whole}
use Rattle.store_model.specs.History.{History, count_of}
use Rattle.store_model.specs.State.{Block}
use Rattle.store_model.specs.Laws.{AgreesOn}
use Rattle.store_images.specs.Log.{LogHolds}
use Rattle.store_images.specs.Stored.{BlocksStand, StoreHolds, ImageStores, ImageStandsFor, SameFirsts, stored_rows, first_number, ref_of}
use Rattle.store_images.specs.Stored.ImageStores.{vacant, filled}
use Rattle.store_images.specs.Settled.{Tail, IsSettled}
use Rattle.store_images.proofs.Lists.{at_front, behind, in_cons, in_map, not_in_nil}
use Rattle.store_images.proofs.Logs.{log_same}
use Rattle.store_images.proofs.Keeping.{blocks_same, one_list, given_out, segment_named}
use Rattle.store_files.specs.Loose.{without_loose, used_files}
use Rattle.store_files.specs.LogReading.{LogRead, SegmentBreaks, LogBreaks}
use Rattle.store_files.specs.declared.error.OpenError.TheVariants.{NotStore, Fault}
use Rattle.store_files.specs.BlockReading.{AreWhole}
use Rattle.store_core.specs.Opening.{ListBreaks, StoreBreaks, refusal_of}
use Rattle.store_core.specs.Opening.ListBreaks.{block, log}
use Rattle.store_core.specs.Opening.StoreBreaks.{slot, listed}
use Rattle.store_files.proofs.LogLaws.{one_log, unbroken}
use Rattle.store_files.proofs.LogSteps.{read_whole, read_size}
use Rattle.store_files.proofs.LooseFiles.{block_used, loose_apart, segment_used, used_low}
use Rattle.store_core.proofs.OpenedStates.{without_by}
use Rattle.store_files.proofs.ReadBlocks.{blocks_break_same, blocks_unbroken, one_blocks, stand_whole, whole_same}

-- ---- what a list stands for

-- the history is that of these blocks and these batches
pub record IsFound (image : Image) (list : ListBody) (blocks : List Block) (batches : List (List Span)) (h : History) : Type 0 where
  pub store : StoreHolds image list blocks batches
  pub agrees : AgreesOn (stored_rows blocks (first_number list) batches) h
  pub counts : count_of h ≡ first_number list + length batches

module _ (image : Image) (list : ListBody) (blocks : List Block) (batches : List (List Span)) (h : History) (its : list.blocks ≡ map ref_of blocks) (there : ImageHoldsList image (Some list))
    (stand : BlocksStand image blocks) (logged : LogHolds image list.segments (first_number list) batches) where
  found_by : (rows : List Row) (count : ℕ) → ImageStores image rows count → AgreesOn rows h → count_of h ≡ count → IsFound image list blocks batches h
  found_by rows count (vacant holds no_rows no_count) agrees is = absurd (let bad : None ≡ Some list = one_list image None (Some list) holds there in cc)
  found_by rows count (filled body others all st one rows_are counts) agrees is =
      let e : body ≡ list = same_some body list (one_list image (Some body) (Some list) st.listed there) in
      let st_list : StoreHolds image list others all = subst (λ (o : ListBody). StoreHolds image o others all) e st in
      let b : others ≡ blocks = one_blocks image others blocks (sym st_list.its_blocks ∙ its) st_list.built stand in
      let st_blocks : StoreHolds image list blocks all = subst (λ (l : List Block). StoreHolds image list l all) b st_list in
      let same : all ≡ batches = one_log image list.segments (first_number list) all batches st_blocks.logged logged in
      let whole : AgreesOn (stored_rows others (first_number body) all) h =
      agrees_whole body others all h (subst (λ (r : List Row). AgreesOn r h) rows_are agrees) st.floored one (is ∙ counts) in
      let rows_here : stored_rows others (first_number body) all ≡ stored_rows blocks (first_number list) batches =
      ap (λ (o : ListBody). stored_rows others (first_number o) all) e ∙ ap (λ (l : List Block). stored_rows l (first_number list) all) b ∙ ap (stored_rows blocks (first_number list)) same in
      record {
        store = subst (λ (l : List (List Span)). StoreHolds image list blocks l) same st_blocks;
        agrees = subst (λ (r : List Row). AgreesOn r h) rows_here whole;
        counts = is ∙ counts ∙ ap (λ (o : ListBody). first_number o + length all) e ∙ ap (λ (l : List (List Span)). first_number list + length l) same;
      }

  pub found : ImageStandsFor image h → IsFound image list blocks batches h
  found s = found_by s.rows (count_of h) s.stores s.agrees refl

-- ---- the end of an opening

module _ (told : Type 0) (t : told) (held later : Image) (may_later : Image → Type 0) (list : ListBody) (batches : List (List Span)) (tail : Tail)
    (there : ImageHoldsList held (Some list)) (read : LogRead told held list.segments (first_number list) batches tail)
    (same : (file : ℕ) → Contains (used_files list) file → bytes_of later file ≡ bytes_of held file)
    (lie : (file : ℕ) → Contains (used_files list) file → OnlyBytes file (bytes_of held file) may_later) where
  in_front : (x : SegmentRef) → Contains read.front x → Contains list.segments x
  in_front x c = subst (λ (l : List SegmentRef). Contains l x) (sym read.last) (Contains-append_left read.front _ x c)

  at_tail : Contains list.segments (record { file = tail.file; first = tail.first })
  at_tail = subst (λ (l : List SegmentRef). Contains l (record { file = tail.file; first = tail.first })) (sym read.last) (Contains-append_right read.front (record { file = tail.file; first = tail.first } ∷ []) (record { file = tail.file; first = tail.first }) (at_front (record { file = tail.file; first = tail.first }) []))

  same_segment : (x : SegmentRef) → Contains list.segments x → bytes_of later x.file ≡ bytes_of held x.file
  same_segment x c = same x.file (segment_used list x c)

  lies_now : (file : ℕ) → Contains (used_files list) file → OnlyBytes file (bytes_of later file) may_later
  lies_now file c = subst (λ (b : List ℕ). OnlyBytes file b may_later) (sym (same file c)) (lie file c)

  module _ (blocks : List Block) (its : list.blocks ≡ map ref_of blocks) (stand : BlocksStand held blocks) (h : History) (s : ImageStandsFor held h) where
    settled : (generation : ℕ) (loose : List ℕ) → IsReady later may_later (Some (record list { generation = generation; loose = loose }))
        → IsSettled later may_later (record list { generation = generation; loose = loose }) blocks tail h
    settled generation loose ready =
        let f : IsFound held list blocks batches h = found held list blocks batches h its there stand (read_whole told held list.segments (first_number list) batches tail read t) s in
        let size = read_size told held list.segments (first_number list) batches tail read in
        let counts = f.counts in
        record {
          before = read.before;
          mine = read.mine;
          holds = record {
            listed = ready.stands;
            its_blocks = its;
            built = blocks_same held later blocks (λ x c. same x.file (block_used list blocks x its c)) stand;
            logged = log_same held later list.segments (first_number list) (read.before ++ read.mine) same_segment (subst (λ (l : List (List Span)). LogHolds held list.segments (first_number list) l) read.all f.store.logged);
            floored = subst (λ (l : List (List Span)). SameFirsts (stored_rows blocks (first_number list) l) (stored_rows blocks list.floor (drop (list.floor - first_number list) l))) read.all f.store.floored;
          };
          written = record {
            front = read.front;
            last = read.last;
            earlier = log_same held later read.front (first_number list) read.before (λ x c. same_segment x (in_front x c)) (read.earlier t);
            current = subst (λ (b : List ℕ). SegmentHolds tail.first read.mine tail.gate b) (sym (same_segment (record { file = tail.file; first = tail.first }) at_tail)) (read.current t);
            counted = read.counted;
            follows = read.follows;
          };
          lies = record {
            ready = ready;
            segments = λ x c. lies_now x.file (segment_used list x c);
            built = λ b c. lies_now b.file (block_used list blocks b its c);
          };
          agrees = subst (λ (l : List (List Span)). AgreesOn (stored_rows blocks (first_number list) l) h) read.all f.agrees;
          counts = omega (arith, size, counts);
        }

    pub settled_again : IsReady later may_later (Some (without_loose list)) → IsSettled later may_later (without_loose list) blocks tail h
    settled_again ready = without_by list (λ (l : ListBody). IsReady later may_later (Some l) → IsSettled later may_later l blocks tail h) settled ready

of_map : {X : Type 0} (file_of : X → ℕ) (xs : List X) (P : ℕ → Type 0) → ((x : X) → Contains xs x → P (file_of x)) → (file : ℕ) → Contains (map file_of xs) file → P file
of_map file_of [] P each file c = absurd (not_in_nil file c)
of_map file_of (x ∷ xs) P each file c = elim (in_cons file (file_of x) (map file_of xs) c) [
  | inl is ↦ subst P is (each x (at_front x xs))
  | inr rest ↦ of_map file_of xs P (λ y inside. each y (behind y x xs inside)) file rest
]

-- the file of a segment or of a block is no slot, and not loose
pub segment_low : (list : ListBody) → MeetsRules list → (x : SegmentRef) → Contains list.segments x → 2 ≤ x.file
segment_low list rules x c = (given_out list x.file rules (segment_named list x c)).0

pub listed_used : (list : ListBody) (x : BlockRef) → Contains list.blocks x → Contains (used_files list) x.file
listed_used list x c = Contains-append_right (map (λ (y : SegmentRef). y.file) list.segments) (map (λ (y : BlockRef). y.file) list.blocks) x.file (in_map (λ (y : BlockRef). y.file) list.blocks x c)

pub block_low : (list : ListBody) → MeetsRules list → (x : BlockRef) → Contains list.blocks x → 2 ≤ x.file
block_low list rules x c = used_low list rules x.file (listed_used list x c)

pub used_stays : (list : ListBody) → MeetsRules list → (file : ℕ) → Contains (used_files list) file → Contains list.loose file → ⊥
used_stays list rules file used loose = loose_apart list rules file file loose used refl

-- each used file is a segment's or a block's
pub used_by : (list : ListBody) (P : ℕ → Type 0) → ((x : SegmentRef) → Contains list.segments x → P x.file) → ((x : BlockRef) → Contains list.blocks x → P x.file)
    → (file : ℕ) → Contains (used_files list) file → P file
used_by list P one other file c = elim (Contains-append_cases (map (λ (y : SegmentRef). y.file) list.segments) (map (λ (y : BlockRef). y.file) list.blocks) file c) [
  | inl logs ↦ of_map (λ (y : SegmentRef). y.file) list.segments P one file logs
  | inr built ↦ of_map (λ (y : BlockRef). y.file) list.blocks P other file built
]

-- ---- where bytes break

pub breaks_same : (a b : Image) (segments : List SegmentRef) (first file at : ℕ) → ((x : SegmentRef) → Contains segments x → bytes_of b x.file ≡ bytes_of a x.file) → LogBreaks b segments first file at → LogBreaks a segments first file at
breaks_same a b segments first file at same broken = record {
  front = broken.front;
  here = broken.here;
  behind = broken.behind;
  before = broken.before;
  split = broken.split;
  whole = log_same b a broken.front first broken.before (λ x c. sym (same x (in_segments x (Contains-append_left broken.front _ x c)))) broken.whole;
  leads = broken.leads;
  its_file = broken.its_file;
  breaks = subst (λ (bytes : List ℕ). SegmentBreaks broken.here broken.behind bytes at)
      (same broken.here (in_segments broken.here (Contains-append_right broken.front (broken.here ∷ broken.behind) broken.here (at_front broken.here broken.behind)))) broken.breaks;
}
  where
    in_segments : (x : SegmentRef) → Contains (broken.front ++ broken.here ∷ broken.behind) x → Contains segments x
    in_segments x c = subst (λ (l : List SegmentRef). Contains l x) (sym broken.split) c

pub list_breaks_same : (a b : Image) (list : ListBody) (file at : ℕ) → ((x : SegmentRef) → Contains list.segments x → bytes_of b x.file ≡ bytes_of a x.file)
    → ((x : BlockRef) → Contains list.blocks x → bytes_of b x.file ≡ bytes_of a x.file) → ListBreaks b list file at → ListBreaks a list file at
list_breaks_same a b list file at same alike (block broken) = block (blocks_break_same a b list.blocks file at alike broken)
list_breaks_same a b list file at same alike (log whole broken) = log (whole_same a b list.blocks alike whole) (breaks_same a b list.segments (first_number list) file at same broken)

-- a list whose blocks are whole and whose log stands for batches doesn't break
pub list_unbroken : (image : Image) (list : ListBody) (batches : List (List Span)) (file at : ℕ) → AreWhole image list.blocks → LogHolds image list.segments (first_number list) batches
    → ListBreaks image list file at → ⊥
list_unbroken image list batches file at whole logged (block broken) = blocks_unbroken image list.blocks file at whole broken
list_unbroken image list batches file at whole logged (log also broken) = unbroken image list.segments (first_number list) batches file at logged broken

pub store_unbroken : (image : Image) (list : ListBody) (batches : List (List Span)) (file at : ℕ) → slots_at (bytes_of image 0) (bytes_of image 1) ≡ Ok (Some list) → AreWhole image list.blocks
    → LogHolds image list.segments (first_number list) batches → StoreBreaks image file at → ⊥
store_unbroken image list batches file at reads whole logged (slot broken) = absurd (let bad : Ok (Some list) ≡ Err (file, at) = sym reads ∙ broken in cc)
store_unbroken image list batches file at reads whole logged (listed other its broken) =
    let e : Some other ≡ Some list = (let both : Ok (Some other) ≡ Ok (Some list) = sym its ∙ reads in cc) in
    list_unbroken image list batches file at whole logged (subst (λ (l : ListBody). ListBreaks image l file at) (same_some other list e) broken)

pub vacant_unbroken : (image : Image) (file at : ℕ) → slots_at (bytes_of image 0) (bytes_of image 1) ≡ Ok None → StoreBreaks image file at → ⊥
vacant_unbroken image file at reads (slot broken) = absurd (let bad : Ok None ≡ Err (file, at) = sym reads ∙ broken in cc)
vacant_unbroken image file at reads (listed other its broken) = absurd (let bad : Ok None ≡ Ok (Some other) = sym reads ∙ its in cc)

-- nor does a sound image
pub sound_unbroken : (image : Image) (h : History) (file at : ℕ) → ImageStandsFor image h → StoreBreaks image file at → ⊥
sound_unbroken image h file at s broken = by_stores s.rows (count_of h) s.stores
  where
    by_stores : (rows : List Row) (count : ℕ) → ImageStores image rows count → ⊥
    by_stores rows count (vacant holds no_rows no_count) = vacant_unbroken image file at (slots_again (bytes_of image 0) (bytes_of image 1) None holds) broken
    by_stores rows count (filled body blocks all st one rows_are counts) =
        store_unbroken image body all file at (slots_again (bytes_of image 0) (bytes_of image 1) (Some body) st.listed)
        (subst (λ (l : List BlockRef). AreWhole image l) (sym st.its_blocks) (stand_whole image blocks st.built)) st.logged broken

pub refused_slot : (error : ListError) (file at : ℕ) → refusal_of error ≡ NotStore file at → error ≡ list_errors.NotList file at
refused_slot list_errors.Fault file at is = absurd cc
refused_slot (list_errors.NotList s a) file at is = let one : s ≡ file = cc in let two : a ≡ at = cc in ap (λ (n : ℕ). list_errors.NotList n a) one ∙ ap (λ (n : ℕ). list_errors.NotList file n) two
refused_slot list_errors.Memory file at is = absurd cc

pub refused_fault : (error : ListError) → refusal_of error ≡ Fault → error ≡ list_errors.Fault
refused_fault list_errors.Fault is = refl
refused_fault (list_errors.NotList s a) is = absurd cc
refused_fault list_errors.Memory is = absurd cc
