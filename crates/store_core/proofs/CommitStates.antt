-- The memory of a core whose flush was committed.
use Rattle.std.proofs.Common.{◌≡◌, inl, inr, ℕ, ◌+◌, ◌-◌, ◌<◌, ◌≤◌, List, [], ◌∷◌, ◌++◌, map, length, length-append, take, get_or, None, Option, IfSome, refl, sym, ◌∙◌, ap, subst, arith}
use Rattle.std.specs.List.{Contains}
use Rattle.std.specs.Vec.{vec_len, vec_capacity}
use Rattle.std.proofs.lemmas.List.{append-nil, map-append}
use Rattle.std.proofs.lemmas.List.Elements.{Contains-append_cases}
use Rattle.span_types.specs.declared.spans.Row.{Row}
use Rattle.block_info.specs.InfoParts.{InfoParts}
use Rattle.block_list.specs.Body.{MeetsRules}
use Rattle.block_list.specs.declared.body.BlockRef.{BlockRef}
use Rattle.block_list.specs.declared.body.SegmentRef.{SegmentRef}
use Rattle.block_list.specs.declared.body.ListBody.{ListBody}
use Rattle.store_model.specs.History.{count_of}
use Rattle.store_model.specs.State.{State, Block, Segment as ModelSegment, Flush, block_files, compaction_files, live_rows}
use Rattle.store_model.specs.After.{after_commit_flush, floor_after, least, released, staying, with_segment}
use Rattle.store_model.specs.Step.{Machine, with_state}
use Rattle.store_model.specs.Sound.{StateIsSound}
use Rattle.store_model.specs.Told.{IsAboveFloor}
use Rattle.store_model.proofs.RowSetLaws.{in_head, in_tail}
use Rattle.store_state.specs.Given.{info_files}
use Rattle.store_state.specs.Loose.{AreFilesOf}
use Rattle.store_state.specs.declared.listing.FlushFiles.{FlushFiles}
use Rattle.store_images.specs.Stored.{ref_of}
use Rattle.store_core.specs.Jobs.{ShowsFlush, ShowsCompaction, open_jobs, one_if, files_of_compaction}
use Rattle.store_files.specs.Loose.{IsSpare}
use Rattle.store_core.specs.Cores.{HasState, segment_of}
use Rattle.store_files.specs.BlockReading.{listed_as}
use Rattle.store_core.specs.InUse.{AreInUse}
use Rattle.store_core.specs.NextList.{IsNextList, flush_edit}
use Rattle.store_files.specs.Pins.{is_taken, files_at}
use Rattle.store_core.specs.declared.jobs.OpenFlush.{OpenFlush}
use Rattle.store_core.specs.declared.jobs.OpenCompaction.{OpenCompaction}
use Rattle.store_core.specs.declared.state.CoreState.{CoreState}
use Rattle.store_core.proofs.InUse.{used_listed}
use Rattle.store_core.proofs.Logged.{head_outside, live_outside}
use Rattle.store_core.proofs.NextLists.{Parting, NamesState, first_in, parting, order_with, next_rules, same_segments}
use Rattle.store_core.proofs.RoomLeft.{GrewByOne, grew_by, compaction_shown, one_of_compaction, front_left, spare_compaction, commit_room_left, jobs_left}
use Rattle.store_core.proofs.States.{ref_to}

-- the block that is listed
abbrev pub new_block : Flush → ℕ → List Row → Block
new_block job size firsts = record { file = job.file; level = 0; size = size; rows = firsts }

-- what its commit leaves of the state
abbrev pub committed_state : Machine → Flush → ℕ → List Row → State
committed_state m job size firsts = after_commit_flush (count_of m.history) job size firsts m.state

-- ---- the next list

least_bounded : (count : ℕ) (rows : List Row) → least count rows ≤ count
least_bounded count [] = omega arith
least_bounded count (r ∷ rs) = omega (arith, least_bounded count rs)

least_above : (floor count : ℕ) (rows : List Row) → ((x : Row) → Contains rows x → floor ≤ x.place.number) → floor ≤ count → floor ≤ least count rows
least_above floor count [] each low = low
least_above floor count (r ∷ rs) each low =
    let here = each r (in_head r rs) in
    let there = least_above floor count rs (λ x c. each x (in_tail x r rs c)) low in
    omega (arith, here, there)

-- the segment that comes last
abbrev pub next_last : FlushFiles → Machine → SegmentRef
next_last files m = ref_to files.segment (count_of m.history)

module _ (core : CoreState) (m : Machine) (has : HasState core m) where
  -- the floor never falls, and stands at the history's length at most
  pub floor_rises : IsAboveFloor m → core.list.floor ≤ floor_after (count_of m.history) m.state
  floor_rises above =
      let is = has.floor in
      let rises = least_above m.state.floor (count_of m.history) (m.state.head ++ live_rows m.state.live) waits above.next in
      omega (arith, is, rises)
    where
      waits : (x : Row) → Contains (m.state.head ++ live_rows m.state.live) x → m.state.floor ≤ x.place.number
      waits x c = elim (Contains-append_cases m.state.head (live_rows m.state.live) x c) [
        | inl here ↦ above.waiting x (head_outside m.state x here)
        | inr there ↦ above.waiting x (live_outside m.state x there)
      ]

  pub floor_low : floor_after (count_of m.history) m.state ≤ count_of m.history
  floor_low = least_bounded (count_of m.history) (m.state.head ++ live_rows m.state.live)

  -- which segments stay
  pub next_parting : (files : FlushFiles) → IsAboveFloor m → Parting (floor_after (count_of m.history) m.state) core.list.segments (next_last files m)
  next_parting files above =
      let tail : SegmentRef = ref_to core.segment.file core.segment.first in
      let rises = floor_rises above in
      let from = has.rules.from_floor in
      parting (floor_after (count_of m.history) m.state) core.list.segments (next_last files m)
      (order_with core.list has.last.0 tail (next_last files m) has.rules has.last.1 (let count = has.count in omega (arith, count)))
      (let first = first_of core.list.segments has.rules.some_segment in omega (arith, rises, from, first))
    where
      first_of : (segments : List SegmentRef) → 0 < length segments → first_in segments (next_last files m) ≡ get_or (map (λ (x : SegmentRef). x.first) segments) 0 0
      first_of [] some = absurd (omega (arith, some))
      first_of (x ∷ xs) some = refl

  with_is : (files : FlushFiles) (job : Flush) → AreFilesOf files job → with_segment (count_of m.history) job m.state ≡ map segment_of (core.list.segments ++ next_last files m ∷ [])
  with_is files job own =
      ap (λ (l : List ModelSegment). l ++ record { file = job.segment; first = count_of m.history } ∷ []) has.segments
      ∙ ap (λ (f : ℕ). map segment_of core.list.segments ++ record { file = f; first = count_of m.history } ∷ []) (sym own.segment)
      ∙ sym (map-append segment_of core.list.segments (next_last files m ∷ []))

  -- what was put into the next list is what the machine has after the step
  pub names_next : (files : FlushFiles) (job : Flush) (size : ℕ) (firsts : List Row) (list : ListBody) → AreFilesOf files job
      → list.blocks ≡ core.list.blocks ++ record { file = files.block; level = 0; rows = size } ∷ []
      → map segment_of list.segments ≡ staying (floor_after (count_of m.history) m.state) (map segment_of (core.list.segments ++ next_last files m ∷ []))
      → list.loose ≡ (core.jobs.loose.items ++ released (floor_after (count_of m.history) m.state) (map segment_of (core.list.segments ++ next_last files m ∷ []))) ++ files_of_compaction core.jobs.compaction
      → list.floor ≡ floor_after (count_of m.history) m.state → list.next_file ≡ core.jobs.next_file → NamesState list (committed_state m job size firsts)
  names_next files job size firsts list own blocks segments loose floor next_file = record {
    blocks = map-append ref_of m.state.blocks (new_block job size firsts ∷ []) ∙ ap (λ (l : List BlockRef). l ++ record { file = job.file; level = 0; rows = size } ∷ []) (sym has.blocks)
        ∙ ap (λ (f : ℕ). core.list.blocks ++ record { file = f; level = 0; rows = size } ∷ []) (sym own.block) ∙ sym blocks;
    segments = ap (staying (floor_after (count_of m.history) m.state)) (with_is files job own) ∙ sym segments;
    floor = sym floor;
    loose = ap (λ (l : List ℕ). l ++ compaction_files m.state.compaction) (append-nil (committed_state m job size firsts).loose)
        ∙ ap (λ (l : List ℕ). (committed_state m job size firsts).loose ++ l) (compaction_shown core.jobs.compaction m.state.compaction has.compaction)
        ∙ ap (λ (l : List ℕ). (l ++ released (floor_after (count_of m.history) m.state) (with_segment (count_of m.history) job m.state)) ++ files_of_compaction core.jobs.compaction) has.loose
        ∙ ap (λ (l : List ModelSegment). (core.jobs.loose.items ++ released (floor_after (count_of m.history) m.state) l) ++ files_of_compaction core.jobs.compaction) (with_is files job own) ∙ sym loose;
    next_file = has.next_file ∙ sym next_file;
  }

  -- and it meets the rules
  pub next_meets : (files : FlushFiles) (job : Flush) (size : ℕ) (firsts : List Row) (list : ListBody) (above : IsAboveFloor m) → NamesState list (committed_state m job size firsts)
      → StateIsSound (committed_state m job size firsts) → list.segments ≡ (next_parting files above).kept ++ next_last files m ∷ []
      → list.blocks ≡ core.list.blocks ++ record { file = files.block; level = 0; rows = size } ∷ [] → list.generation < 256 → 1 ≤ size → size ≤ 1048576 → MeetsRules list
  next_meets files job size firsts list above names sound segments blocks generation some most =
      let tail : SegmentRef = ref_to core.segment.file core.segment.first in
      next_rules core.list list (committed_state m job size firsts) (floor_after (count_of m.history) m.state) (next_last files m) (record { file = files.block; level = 0; rows = size }) has.last.0 tail
      has.rules sound names (next_parting files above) segments blocks (sym names.floor) generation has.last.1 (let count = has.count in omega (arith, count))
      (let count = has.count in let few = has.few in omega (arith, count, few)) floor_low (omega arith) some most

  -- the segments of a list that has what `staying` leaves
  pub next_segments : (files : FlushFiles) (list : ListBody) (above : IsAboveFloor m)
      → map segment_of list.segments ≡ staying (floor_after (count_of m.history) m.state) (map segment_of (core.list.segments ++ next_last files m ∷ []))
      → list.segments ≡ (next_parting files above).kept ++ next_last files m ∷ []
  next_segments files list above is = same_segments list.segments ((next_parting files above).kept ++ next_last files m ∷ []) (is ∙ (next_parting files above).stay)

-- ---- the memory

-- The memory took over the next list, whose last segment has no record, and the information of its new block.
pub record TookOver (core later : CoreState) (list : ListBody) (info : InfoParts) (file first : ℕ) : Type 0 where
  pub listing : later.list ≡ list
  pub infos : later.infos.items ≡ core.infos.items ++ info ∷ []
  pub file_is : later.segment.file ≡ file
  pub first_is : later.segment.first ≡ first
  pub count : later.segment.count ≡ 0
  pub gate : later.segment.gate ≡ 1
  pub begun : later.jobs.begun ≡ core.jobs.begun
  pub next_file : later.jobs.next_file ≡ core.jobs.next_file
  -- without the file of the other job, which the list names last
  pub loose : later.jobs.loose.items ≡ take (length list.loose - one_if core.jobs.compaction) list.loose
  pub was_open : one_if core.jobs.flush ≡ 1
  pub none : later.jobs.flush ≡ None
  pub compaction : later.jobs.compaction ≡ core.jobs.compaction
  pub room : vec_capacity core.jobs.loose ≤ vec_capacity later.jobs.loose
  pub info_room : vec_capacity core.infos ≤ vec_capacity later.infos
  pub gone : later.live.flushing ≡ []
  pub head : later.live.head ≡ core.live.head
  pub rows : later.live.live ≡ core.live.live
  pub pins : later.pins.items ≡ core.pins.items
  pub read_only : later.read_only ≡ core.read_only

-- the information is that of the job's block
pub record IsItsInfo (info : InfoParts) (file size : ℕ) : Type 0 where
  pub file_is : info.file ≡ file
  pub level : info.level ≡ 0
  pub rows : info.rows ≡ size

pub has_committed : (core later : CoreState) (list : ListBody) (m : Machine) (job : Flush) (size : ℕ) (firsts : List Row) (info : InfoParts)
    (kept : List SegmentRef) (file : ℕ) → HasState core m → TookOver core later list info file (count_of m.history) → IsItsInfo info job.file size → NamesState list (committed_state m job size firsts) → MeetsRules list
    → list.segments ≡ kept ++ ref_to file (count_of m.history) ∷ [] → (files : FlushFiles) → IsNextList core files size list
    → HasState later (with_state (committed_state m job size firsts) m)
has_committed core later list m job size firsts info kept file has took its names rules segments files next = record {
  count = (let none = took.count in let first = took.first_is in omega (arith, first, none));
  few = (let none = took.count in let first = took.first_is in let was = has.count in let few = has.few in omega (arith, first, none, was, few));
  live = has.live ∙ sym took.rows;
  head = has.head ∙ sym took.head;
  flushing = took.gone;
  flush = subst (λ (k : Option OpenFlush). ShowsFlush k None) (sym took.none) refl;
  compaction = subst (λ (k : Option OpenCompaction). ShowsCompaction k m.state.compaction) (sym took.compaction) has.compaction;
  blocks = ap (λ (l : ListBody). l.blocks) took.listing ∙ sym names.blocks;
  infos = ap info_files took.infos ∙ map-append (λ (i : InfoParts). i.file) core.infos.items (info ∷ []) ∙ ap (λ (l : List ℕ). l ++ info.file ∷ []) has.infos
      ∙ ap (λ (n : ℕ). block_files m.state.blocks ++ n ∷ []) its.file_is ∙ sym (map-append (λ (b : Block). b.file) m.state.blocks (block ∷ []));
  listed = ap (map listed_as) took.infos ∙ map-append listed_as core.infos.items (info ∷ []) ∙ ap (λ (l : List BlockRef). l ++ listed_as info ∷ []) (has.listed ∙ has.blocks)
      ∙ ap (λ (r : BlockRef). map ref_of m.state.blocks ++ r ∷ []) its_ref ∙ sym (map-append ref_of m.state.blocks (block ∷ [])) ∙ names.blocks ∙ sym (ap (λ (l : ListBody). l.blocks) took.listing);
  commit = λ free. commit_room_left core.jobs later.jobs core.list later.list core.infos later.infos one_less (inl took.none) (inr took.compaction) grew info_len took.info_room (has.commit (sym took.read_only ∙ free));
  rules = subst MeetsRules (sym took.listing) rules;
  segments = names.segments ∙ sym (ap (λ (l : ListBody). map segment_of l.segments) took.listing);
  last = (
    kept,
    ap (λ (l : ListBody). l.segments) took.listing ∙ segments ∙ ap (λ (n : ℕ). kept ++ ref_to n (count_of m.history) ∷ []) (sym took.file_is) ∙ ap (λ (n : ℕ). kept ++ ref_to later.segment.file n ∷ []) (sym took.first_is),
  );
  floor = names.floor ∙ sym (ap (λ (l : ListBody). l.floor) took.listing);
  loose = loose_is;
  next_file = has.next_file ∙ sym took.next_file;
  begun = has.begun ∙ sym took.begun;
  jobs = jobs_left core.jobs later.jobs core.list later.list one_less grew took.room
      (let a = names.next_file in let b = has.next_file in let c = took.next_file in let d = ap (λ (l : ListBody). l.next_file) took.listing in omega (arith, a, b, c, d))
      (subst (λ (k : Option OpenFlush). IfSome k (λ mine. IsSpare later.list mine.files.block × IsSpare later.list mine.files.segment)) (sym took.none) tt)
      (spare_compaction later.jobs.compaction later.list u.loose (ap (λ (l : ListBody). l.loose) took.listing ∙ named ∙ ap (λ (k : Option OpenCompaction). u.loose ++ files_of_compaction k) (sym took.compaction)))
      (inr took.compaction) has.jobs;
  used = subst (λ (l : ListBody). AreInUse l (committed_state m job size firsts)) (sym took.listing) (used_listed list (committed_state m job size firsts) names);
  pins = λ n. has.pins n ∙ ap (is_taken n) (sym took.pins);
  pinned = λ n. has.pinned n ∙ ap (files_at n) (sym took.pins);
  read_only = has.read_only ∙ sym took.read_only;
}
  where
    block : Block
    block = new_block job size firsts

    u : State
    u = committed_state m job size firsts

    others : compaction_files m.state.compaction ≡ files_of_compaction core.jobs.compaction
    others = compaction_shown core.jobs.compaction m.state.compaction has.compaction

    named : list.loose ≡ u.loose ++ files_of_compaction core.jobs.compaction
    named = sym names.loose ∙ ap (λ (l : List ℕ). l ++ compaction_files m.state.compaction) (append-nil u.loose) ∙ ap (λ (l : List ℕ). u.loose ++ l) others

    loose_is : u.loose ≡ later.jobs.loose.items
    loose_is = sym (took.loose ∙ front_left list.loose u.loose (files_of_compaction core.jobs.compaction) (one_if core.jobs.compaction) named (sym (one_of_compaction core.jobs.compaction)))

    one_less : open_jobs core.jobs ≡ 1 + open_jobs later.jobs
    one_less =
        let a = took.was_open in
        let b : one_if later.jobs.flush ≡ 0 = ap (λ (o : Option OpenFlush). one_if o) took.none in
        let c : one_if later.jobs.compaction ≡ one_if core.jobs.compaction = ap (λ (o : Option OpenCompaction). one_if o) took.compaction in
        omega (arith, a, b, c)

    grew_list : GrewByOne core.list (vec_len core.jobs.loose) list (vec_len later.jobs.loose)
    grew_list =
        let all = ap (λ (l : List ℕ). length l) named ∙ length-append u.loose (files_of_compaction core.jobs.compaction) in
        let mine = ap (λ (l : List ℕ). length l) loose_is in
        let new : vec_len later.jobs.loose ≡ length later.jobs.loose.items = later.jobs.loose.ok.0 in
        grew_by core.list (flush_edit core files size) list (vec_len core.jobs.loose) (vec_len later.jobs.loose) next (sym core.jobs.loose.ok.0) (omega (arith, all, mine, new))

    grew : GrewByOne core.list (vec_len core.jobs.loose) later.list (vec_len later.jobs.loose)
    grew = subst (λ (l : ListBody). GrewByOne core.list (vec_len core.jobs.loose) l (vec_len later.jobs.loose)) (sym took.listing) grew_list

    info_len : vec_len later.infos ≤ vec_len core.infos + 1
    info_len =
        let a : vec_len later.infos ≡ length later.infos.items = later.infos.ok.0 in
        let b : vec_len core.infos ≡ length core.infos.items = core.infos.ok.0 in
        let c = ap (λ (l : List InfoParts). length l) took.infos ∙ length-append core.infos.items (info ∷ []) in
        omega (arith, a, b, c)

    its_ref : listed_as info ≡ ref_of block
    its_ref =
        ap (λ (n : ℕ). record { file = n; level = info.level; rows = info.rows }) its.file_is
        ∙ ap (λ (n : ℕ). record { file = job.file; level = n; rows = info.rows }) its.level
        ∙ ap (λ (n : ℕ). record { file = job.file; level = 0; rows = n }) its.rows
