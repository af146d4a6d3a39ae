-- The next list of a compaction, and the memory of a core whose compaction was committed.
use Rattle.std.proofs.Common.{◌≡◌, inl, inr, ℕ, ◌+◌, ◌-◌, ◌*◌, ◌%◌, ◌<◌, ◌≤◌, Bool, true, false, not, List, [], ◌∷◌, ◌++◌, map, filter, length, length-append, take, get_or, None, Option, IfSome, if◌then◌else◌, refl, sym, ◌∙◌, ap, subst, arith}
use Rattle.std.specs.List.{All}
use Rattle.std.specs.List.Sorted.{IsNonDecreasing}
use Rattle.std.specs.Vec.{vec_len, vec_capacity}
use Rattle.std.proofs.lemmas.List.{append-nil, map-append}
use Rattle.std.proofs.lemmas.List.Elements.{All-filter, All-push}
use Rattle.span_types.specs.declared.spans.Row.{Row}
use Rattle.head_log.specs.declared.segment.Segment.{Segment}
use Rattle.disk_model.specs.Images.{Image}
use Rattle.block_info.specs.InfoParts.{InfoParts}
use Rattle.block_list.specs.Body.{MeetsRules}
use Rattle.block_list.specs.declared.body.BlockRef.{BlockRef}
use Rattle.block_list.specs.declared.body.SegmentRef.{SegmentRef}
use Rattle.block_list.specs.declared.body.ListBody.{ListBody}
use Rattle.live_traces.specs.Parts.{LiveParts}
use Rattle.store_model.specs.Choice.{outside_files}
use Rattle.store_model.specs.State.{State, Block, Compaction, block_files, flush_files, is_among}
use Rattle.store_model.specs.After.{after_commit_compact, job_files}
use Rattle.store_model.specs.Step.{Machine, with_state}
use Rattle.store_model.specs.Sound.{StateIsSound}
use Rattle.store_state.specs.Given.{info_files}
use Rattle.store_state.specs.Parted.{inside, outside}
use Rattle.store_state.proofs.Listings.{blocks_outside, files_inside}
use Rattle.store_images.specs.Stored.{ref_of}
use Rattle.store_core.specs.Cores.{HasState, segment_of}
use Rattle.store_files.specs.Described.{AreDescribed}
use Rattle.store_files.specs.BlockReading.{listed_as}
use Rattle.store_core.specs.InUse.{AreInUse}
use Rattle.store_core.specs.Jobs.{ShowsFlush, ShowsCompaction, open_jobs, one_if, files_of_flush}
use Rattle.store_files.specs.Loose.{IsSpare}
use Rattle.store_core.specs.NextList.{IsJoinedList, compact_edit, infos_outside}
use Rattle.store_core.specs.declared.jobs.OpenCompaction.{OpenCompaction}
use Rattle.store_core.specs.declared.jobs.OpenFlush.{OpenFlush}
use Rattle.store_core.specs.declared.state.CoreState.{CoreState}
use Rattle.store_core.proofs.InUse.{used_listed}
use Rattle.store_core.proofs.NextLists.{NamesState, files_fit, files_once}
use Rattle.store_core.proofs.NextTaken.{joined_loose}
use Rattle.store_core.proofs.OpenCompactions.{model_of}
use Rattle.store_core.proofs.RoomLeft.{GrewByOne, grew_by, flush_shown, two_of_flush, front_left, spare_flush, commit_room_left, jobs_left}
use Rattle.store_core.proofs.Looking.{ShowsPins}

-- the block that is listed
abbrev pub joined_block : Compaction → ℕ → List Row → Block
joined_block job size firsts = record { file = job.file; level = job.level; size = size; rows = firsts }

-- what its commit leaves of the state
abbrev pub joined_state : Machine → Compaction → ℕ → List Row → State
joined_state m job size firsts = after_commit_compact job size firsts m.state

-- ---- what is known of the blocks outside of files

abbrev outside_numbers : List ℕ → List ℕ → List ℕ
outside_numbers files numbers = filter (λ n. not (is_among n files)) numbers

infos_left : (files : List ℕ) (infos : List InfoParts) → info_files (infos_outside files infos) ≡ outside_numbers files (info_files infos)
infos_left files [] = refl
infos_left files (i ∷ is) = by_test (is_among i.file files) (infos_left files is)
  where
    by_test : (t : Bool) → info_files (infos_outside files is) ≡ outside_numbers files (info_files is) →
        info_files (if not t then i ∷ infos_outside files is else infos_outside files is) ≡ (if not t then i.file ∷ outside_numbers files (info_files is) else outside_numbers files (info_files is))
    by_test true ih = ih
    by_test false ih = ap (λ (l : List ℕ). i.file ∷ l) ih

blocks_left : (files : List ℕ) (blocks : List Block) → block_files (outside_files files blocks) ≡ outside_numbers files (block_files blocks)
blocks_left files [] = refl
blocks_left files (b ∷ bs) = by_test (is_among b.file files) (blocks_left files bs)
  where
    by_test : (t : Bool) → block_files (outside_files files bs) ≡ outside_numbers files (block_files bs) →
        block_files (if not t then b ∷ outside_files files bs else outside_files files bs) ≡ (if not t then b.file ∷ outside_numbers files (block_files bs) else outside_numbers files (block_files bs))
    by_test true ih = ih
    by_test false ih = ap (λ (l : List ℕ). b.file ∷ l) ih

refs_left : (files : List ℕ) (infos : List InfoParts) → map listed_as (infos_outside files infos) ≡ outside files (map listed_as infos)
refs_left files [] = refl
refs_left files (i ∷ is) = by_test (is_among i.file files) (refs_left files is)
  where
    by_test : (t : Bool) → map listed_as (infos_outside files is) ≡ outside files (map listed_as is) →
        map listed_as (if not t then i ∷ infos_outside files is else infos_outside files is) ≡ (if not t then listed_as i ∷ outside files (map listed_as is) else outside files (map listed_as is))
    by_test true ih = ih
    by_test false ih = ap (λ (l : List BlockRef). listed_as i ∷ l) ih

head_same : (a b : ℕ) (xs ys : List ℕ) → a ∷ xs ≡ b ∷ ys → (a ≡ b) × (xs ≡ ys)
head_same a b xs ys is = (let h : a ≡ b = cc in h, let t : xs ≡ ys = cc in t)

-- they stay described
pub described_left : (held : Image) (files : List ℕ) (infos : List InfoParts) (blocks : List Block) → info_files infos ≡ block_files blocks → AreDescribed held infos blocks
    → AreDescribed held (infos_outside files infos) (outside_files files blocks)
described_left held files [] [] same was = tt
described_left held files [] (b ∷ bs) same was = absurd was
described_left held files (i ∷ is) [] same was = absurd was
described_left held files (i ∷ is) (b ∷ bs) same was =
    let eq = head_same i.file b.file (info_files is) (block_files bs) same in
    subst (λ (n : ℕ). AreDescribed held (infos_outside files (i ∷ is)) (if not (is_among n files) then b ∷ outside_files files bs else outside_files files bs)) eq.0
    (by_test (is_among i.file files) (described_left held files is bs eq.1 was.1))
  where
    by_test : (t : Bool) → AreDescribed held (infos_outside files is) (outside_files files bs) →
        AreDescribed held (if not t then i ∷ infos_outside files is else infos_outside files is) (if not t then b ∷ outside_files files bs else outside_files files bs)
    by_test true ih = ih
    by_test false ih = (was.0, ih)

-- ---- the next list

module _ (core : CoreState) (m : Machine) (has : HasState core m) (mine : OpenCompaction) (joined : List ℕ) (same : joined ≡ job_files (model_of mine) m.state) (size : ℕ) (firsts : List Row) (list : ListBody)
    (next : IsJoinedList core mine joined size list) where
  abbrev files : List ℕ
  files = job_files (model_of mine) m.state

  abbrev block : Block
  block = joined_block (model_of mine) size firsts

  abbrev after : State
  after = joined_state m (model_of mine) size firsts

  -- what was put into the next list is what the machine has after the step
  pub names_joined : NamesState list after
  names_joined = record {
    blocks = map-append ref_of (outside_files files m.state.blocks) (block ∷ []) ∙ ap (λ (l : List BlockRef). l ++ ref_of block ∷ []) (blocks_outside files m.state.blocks)
        ∙ ap (λ (l : List BlockRef). outside files l ++ ref_of block ∷ []) (sym has.blocks) ∙ ap (λ (l : List ℕ). outside l core.list.blocks ++ ref_of block ∷ []) (sym same) ∙ sym next.blocks;
    segments = has.segments ∙ ap (map segment_of) (sym next.segments);
    floor = has.floor ∙ sym next.its_floor;
    loose = append-nil (after.loose ++ flush_files m.state.flush)
        ∙ ap (λ (l : List ℕ). after.loose ++ l) (flush_shown core.jobs.flush m.state.flush has.flush)
        ∙ ap (λ (l : List ℕ). (m.state.loose ++ l) ++ files_of_flush core.jobs.flush) (files_inside files m.state.blocks)
        ∙ ap (λ (l : List BlockRef). (m.state.loose ++ inside files l) ++ files_of_flush core.jobs.flush) (sym has.blocks)
        ∙ ap (λ (l : List ℕ). (m.state.loose ++ inside l core.list.blocks) ++ files_of_flush core.jobs.flush) (sym same)
        ∙ ap (λ (l : List ℕ). (l ++ inside joined core.list.blocks) ++ files_of_flush core.jobs.flush) has.loose
        ∙ sym (joined_loose core mine joined size list next);
    next_file = has.next_file ∙ sym next.its_next_file;
  }

  -- and it meets the rules
  pub joined_meets : StateIsSound after → mine.level ≤ 63 → 1 ≤ size → size ≤ 1048576 → MeetsRules list
  joined_meets sound low some most = record {
    generation = (let is = next.generation in omega (arith, is, few core.list.generation));
    next_file = (let is = names_joined.next_file in let fits = sound.fits.files in omega (arith, is, fits));
    some_segment = subst (λ (l : List SegmentRef). 0 < length l) (sym next.segments) has.rules.some_segment;
    files = files_fit list after names_joined sound;
    once = files_once list after names_joined sound;
    order = subst (λ (l : List SegmentRef). IsNonDecreasing (map (λ (x : SegmentRef). x.first) l)) (sym next.segments) has.rules.order;
    firsts = subst (λ (l : List SegmentRef). All (λ (first : ℕ). first ≤ 4294967295) (map (λ (x : SegmentRef). x.first) l)) (sym next.segments) has.rules.firsts;
    from_floor = subst (λ (l : List SegmentRef). get_or (map (λ (x : SegmentRef). x.first) l) 0 0 ≤ list.floor) (sym next.segments) (let was = has.rules.from_floor in let is = next.its_floor in omega (arith, was, is));
    to_floor = subst (λ (l : List SegmentRef). list.floor ≤ get_or (map (λ (x : SegmentRef). x.first) l) (length l - 1) 0) (sym next.segments) (let was = has.rules.to_floor in let is = next.its_floor in omega (arith, was, is));
    levels = subst (λ (l : List BlockRef). All (λ (b : BlockRef). b.level ≤ 63) l) (sym next.blocks)
        (All-push (λ (b : BlockRef). b.level ≤ 63) (outside joined core.list.blocks) (ref_of block) (All-filter (λ (b : BlockRef). not (is_among b.file joined)) (λ (b : BlockRef). b.level ≤ 63) core.list.blocks has.rules.levels) low);
    rows = subst (λ (l : List BlockRef). All (λ (b : BlockRef). (1 ≤ b.rows) × (b.rows ≤ 1048576)) l) (sym next.blocks)
        (All-push (λ (b : BlockRef). (1 ≤ b.rows) × (b.rows ≤ 1048576)) (outside joined core.list.blocks) (ref_of block)
        (All-filter (λ (b : BlockRef). not (is_among b.file joined)) (λ (b : BlockRef). (1 ≤ b.rows) × (b.rows ≤ 1048576)) core.list.blocks has.rules.rows) (some, most));
  }
    where
      few : (n : ℕ) → (n + 1) % 256 < 256
      few n = omega arith

-- ---- the memory

-- The memory took over the next list, and the information of its new block in the place of that of the joined ones.
pub record TookJoined (core later : CoreState) (list : ListBody) (info : InfoParts) (joined : List ℕ) : Type 0 where
  pub listing : later.list ≡ list
  pub infos : later.infos.items ≡ infos_outside joined core.infos.items ++ info ∷ []
  pub begun : later.jobs.begun ≡ core.jobs.begun
  pub next_file : later.jobs.next_file ≡ core.jobs.next_file
  -- without the files of the other job, which the list names last
  pub loose : later.jobs.loose.items ≡ take (length list.loose - 2 * one_if core.jobs.flush) list.loose
  pub was_open : one_if core.jobs.compaction ≡ 1
  pub none : later.jobs.compaction ≡ None
  pub flush : later.jobs.flush ≡ core.jobs.flush
  pub room : vec_capacity core.jobs.loose ≤ vec_capacity later.jobs.loose
  pub info_room : vec_capacity core.infos ≤ vec_capacity later.infos
  pub live : later.live ≡ core.live
  pub segment : later.segment ≡ core.segment
  pub read_only : later.read_only ≡ core.read_only

-- the information is that of the job's block
pub record IsJoinedInfo (info : InfoParts) (mine : OpenCompaction) (size : ℕ) : Type 0 where
  pub file_is : info.file ≡ mine.file
  pub level : info.level ≡ mine.level
  pub rows : info.rows ≡ size

module _ (core later : CoreState) (m : Machine) (has : HasState core m) (mine : OpenCompaction) (joined : List ℕ) (same : joined ≡ job_files (model_of mine) m.state) (size : ℕ) (firsts : List Row) (list : ListBody) (info : InfoParts)
    (next : IsJoinedList core mine joined size list) (took : TookJoined core later list info joined) (its : IsJoinedInfo info mine size) (rules : MeetsRules list)
    (shown : ShowsPins (joined_state m (model_of mine) size firsts).pins later.pins.items) where
  abbrev its_files : List ℕ
  its_files = job_files (model_of mine) m.state

  abbrev its_block : Block
  its_block = joined_block (model_of mine) size firsts

  abbrev u : State
  u = joined_state m (model_of mine) size firsts

  names : NamesState list u
  names = names_joined core m has mine joined same size firsts list next

  others : flush_files m.state.flush ≡ files_of_flush core.jobs.flush
  others = flush_shown core.jobs.flush m.state.flush has.flush

  named : list.loose ≡ u.loose ++ files_of_flush core.jobs.flush
  named = sym names.loose ∙ append-nil (u.loose ++ flush_files m.state.flush) ∙ ap (λ (l : List ℕ). u.loose ++ l) others

  loose_is : u.loose ≡ later.jobs.loose.items
  loose_is = sym (took.loose ∙ front_left list.loose u.loose (files_of_flush core.jobs.flush) (2 * one_if core.jobs.flush) named (sym (two_of_flush core.jobs.flush)))

  one_less : open_jobs core.jobs ≡ 1 + open_jobs later.jobs
  one_less =
      let a = took.was_open in
      let b : one_if later.jobs.compaction ≡ 0 = ap one_if took.none in
      let c : one_if later.jobs.flush ≡ one_if core.jobs.flush = ap one_if took.flush in
      omega (arith, a, b, c)

  grew_list : GrewByOne core.list (vec_len core.jobs.loose) list (vec_len later.jobs.loose)
  grew_list =
      let all = ap (λ (l : List ℕ). length l) named ∙ length-append u.loose (files_of_flush core.jobs.flush) in
      let left = ap (λ (l : List ℕ). length l) loose_is in
      let new : vec_len later.jobs.loose ≡ length later.jobs.loose.items = later.jobs.loose.ok.0 in
      grew_by core.list (compact_edit core mine joined size) list (vec_len core.jobs.loose) (vec_len later.jobs.loose) next (sym core.jobs.loose.ok.0) (omega (arith, all, left, new))

  grew : GrewByOne core.list (vec_len core.jobs.loose) later.list (vec_len later.jobs.loose)
  grew = subst (λ (l : ListBody). GrewByOne core.list (vec_len core.jobs.loose) l (vec_len later.jobs.loose)) (sym took.listing) grew_list

  fewer : (infos : List InfoParts) → length (infos_outside joined infos) ≤ length infos
  fewer [] = omega arith
  fewer (i ∷ is) = by_test (is_among i.file joined) (fewer is)
    where
      by_test : (t : Bool) → length (infos_outside joined is) ≤ length is → length (if not t then i ∷ infos_outside joined is else infos_outside joined is) ≤ length (i ∷ is)
      by_test true ih = omega (arith, ih)
      by_test false ih = omega (arith, ih)

  info_len : vec_len later.infos ≤ vec_len core.infos + 1
  info_len =
      let a : vec_len later.infos ≡ length later.infos.items = later.infos.ok.0 in
      let b : vec_len core.infos ≡ length core.infos.items = core.infos.ok.0 in
      let c = ap (λ (l : List InfoParts). length l) took.infos ∙ length-append (infos_outside joined core.infos.items) (info ∷ []) in
      let d = fewer core.infos.items in
      omega (arith, a, b, c, d)

  its_ref : listed_as info ≡ ref_of its_block
  its_ref =
      ap (λ (n : ℕ). record { file = n; level = info.level; rows = info.rows }) its.file_is
      ∙ ap (λ (n : ℕ). record { file = mine.file; level = n; rows = info.rows }) its.level
      ∙ ap (λ (n : ℕ). record { file = mine.file; level = mine.level; rows = n }) its.rows

  pub has_joined : HasState later (with_state u m)
  has_joined = record {
    count = has.count ∙ ap (λ (s : Segment). s.first + s.count) (sym took.segment);
    few = subst (λ (s : Segment). s.first + s.count ≤ 4294967295) (sym took.segment) has.few;
    live = has.live ∙ ap (λ (l : LiveParts). l.live) (sym took.live);
    head = has.head ∙ ap (λ (l : LiveParts). l.head) (sym took.live);
    flushing = ap (λ (l : LiveParts). l.flushing) took.live ∙ has.flushing;
    flush = subst (λ (k : Option OpenFlush). ShowsFlush k m.state.flush) (sym took.flush) has.flush;
    compaction = subst (λ (k : Option OpenCompaction). ShowsCompaction k None) (sym took.none) refl;
    blocks = ap (λ (l : ListBody). l.blocks) took.listing ∙ sym names.blocks;
    infos = ap info_files took.infos ∙ map-append (λ (i : InfoParts). i.file) (infos_outside joined core.infos.items) (info ∷ []) ∙ ap (λ (l : List ℕ). l ++ info.file ∷ []) left_files
        ∙ ap (λ (n : ℕ). block_files (outside_files its_files m.state.blocks) ++ n ∷ []) its.file_is ∙ sym (map-append (λ (b : Block). b.file) (outside_files its_files m.state.blocks) (its_block ∷ []));
    listed = ap (map listed_as) took.infos ∙ map-append listed_as (infos_outside joined core.infos.items) (info ∷ []) ∙ ap (λ (l : List BlockRef). l ++ listed_as info ∷ []) (refs_left joined core.infos.items ∙ ap (outside joined) has.listed)
        ∙ ap (λ (r : BlockRef). outside joined core.list.blocks ++ r ∷ []) its_ref ∙ sym next.blocks ∙ sym (ap (λ (l : ListBody). l.blocks) took.listing);
    commit = λ free. commit_room_left core.jobs later.jobs core.list later.list core.infos later.infos one_less (inr took.flush) (inl took.none) grew info_len took.info_room (has.commit (sym took.read_only ∙ free));
    rules = subst MeetsRules (sym took.listing) rules;
    segments = names.segments ∙ sym (ap (λ (l : ListBody). map segment_of l.segments) took.listing);
    last = (
      has.last.0,
      ap (λ (l : ListBody). l.segments) took.listing ∙ next.segments ∙ has.last.1 ∙ ap (λ (s : Segment). has.last.0 ++ record { file = s.file; first = s.first } ∷ []) (sym took.segment),
    );
    floor = names.floor ∙ sym (ap (λ (l : ListBody). l.floor) took.listing);
    loose = loose_is;
    next_file = has.next_file ∙ sym took.next_file;
    begun = has.begun ∙ sym took.begun;
    jobs = jobs_left core.jobs later.jobs core.list later.list one_less grew took.room
        (let a = names.next_file in let b = has.next_file in let c = took.next_file in let d = ap (λ (l : ListBody). l.next_file) took.listing in omega (arith, a, b, c, d))
        (spare_flush later.jobs.flush later.list u.loose (ap (λ (l : ListBody). l.loose) took.listing ∙ named ∙ ap (λ (k : Option OpenFlush). u.loose ++ files_of_flush k) (sym took.flush)))
        (subst (λ (k : Option OpenCompaction). IfSome k (λ known. IsSpare later.list known.file)) (sym took.none) tt)
        (inl took.none) has.jobs;
    used = subst (λ (l : ListBody). AreInUse l u) (sym took.listing) (used_listed list u names);
    pins = shown.numbers;
    pinned = shown.files;
    read_only = has.read_only ∙ sym took.read_only;
  }
    where
      left_files : info_files (infos_outside joined core.infos.items) ≡ block_files (outside_files its_files m.state.blocks)
      left_files = infos_left joined core.infos.items ∙ ap (outside_numbers joined) has.infos ∙ ap (λ (l : List ℕ). outside_numbers l (block_files m.state.blocks)) same ∙ sym (blocks_left its_files m.state.blocks)
