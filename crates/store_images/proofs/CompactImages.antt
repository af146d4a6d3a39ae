-- What a crash within a compaction's commit leaves, and the disk once it was made.
use Rattle.std.proofs.Common.{◌≡◌, ◌⊎◌, inl, inr, ℕ, ◌+◌, ◌<◌, ◌≤◌, not, List, [], ◌++◌, length, Some, Option, sym, ◌∙◌, ap, subst, arith, length-append}
use Rattle.std.specs.List.{Contains}
use Rattle.std.proofs.lemmas.Bool.{cases_eq, cases_lt}
use Rattle.std.proofs.lemmas.List.Elements.{Contains-push_cases}
use Rattle.span_types.specs.declared.spans.Span.{Span}
use Rattle.span_types.specs.declared.spans.Row.{Row}
use Rattle.disk_model.specs.Images.{Image, bytes_of, Besides}
use Rattle.disk_model.specs.Crash.{OnlyBytes, Within, Reached}
use Rattle.head_log.specs.Stands.{SegmentHolds}
use Rattle.block_list.specs.Body.{MeetsRules, files_of}
use Rattle.block_list.specs.Slots.{ImageHoldsList}
use Rattle.block_list.specs.Commit.{ImageHoldsEither, WritesSlot}
use Rattle.block_list.specs.Loading.{IsReady}
use Rattle.block_list.specs.declared.body.SegmentRef.{SegmentRef}
use Rattle.block_list.specs.declared.body.ListBody.{ListBody}
use Rattle.block_format.specs.Blocks.{BlockHolds}
use Rattle.store_images.proofs.Kept.{stands_with}
use Rattle.store_model.specs.History.{History, record_rows, count_of}
use Rattle.store_model.specs.RowSets.{Within as AreAmong}
use Rattle.store_model.specs.State.{Block, is_among}
use Rattle.store_model.specs.Choice.{outside_files}
use Rattle.store_images.specs.Log.{LogHolds}
use Rattle.store_images.specs.Committed.{CommitsCompaction, MayCompact, with_joined}
use Rattle.store_images.specs.Stored.{ImageStandsFor, IsTidy, first_number, next_file_of, named_files}
use Rattle.store_images.specs.Settled.{Tail, IsTail, IsSettled}
use Rattle.store_images.proofs.Compacted.{compacted, store_compacted, agrees_compacted}
use Rattle.store_images.proofs.Keeping.{segment_named, block_named, rules_in, given_out, blocks_same, slots_same, one_list}
use Rattle.store_images.proofs.Lists.{was_in}
use Rattle.store_images.proofs.Logs.{log_same}
use Rattle.store_images.proofs.Storing.{in_front, listed}

-- ---- tidiness, whatever list is written

module _ (held : Image) (may_leave : Image → Type 0) (body new : ListBody) (ready : IsReady held may_leave (Some body)) where
  origin_holds : (origin : Image) → may_leave origin → ImageHoldsList origin (Some body)
  origin_holds origin possible = slots_same held origin (Some body) in_slot ready.stands
    where
      in_slot : (slot : ℕ) → slot < 2 → bytes_of origin slot ≡ bytes_of held slot
      in_slot slot below = elim (cases_eq slot 0) [
        | inl is ↦ subst (λ (n : ℕ). bytes_of origin n ≡ bytes_of held n) (sym is) (ready.slot_0 origin possible)
        | inr other ↦ subst (λ (n : ℕ). bytes_of origin n ≡ bytes_of held n) (omega (arith, below, other)) (ready.slot_1 origin possible)
      ]

  -- where the new list names each file that the old one named, and each one that was given out since
  pub tidy_written : ((file : ℕ) → Contains (files_of body) file ⊎ ((body.next_file ≤ file) × (file < new.next_file)) → Contains (files_of new) file)
      → (slot : ℕ) → slot < 2 → (origin image : Image) → may_leave origin → WritesSlot slot (ImageHoldsEither (Some body) new) origin image → IsTidy origin → IsTidy image
  tidy_written named slot below origin image possible writes t =
      let its : t.list ≡ Some body = one_list origin t.list (Some body) t.counts (origin_holds origin possible) in
      let files : (file : ℕ) → 2 ≤ file → file < body.next_file → (bytes_of origin file ≡ []) ⊎ Contains (files_of body) file =
      subst (λ (l : Option ListBody). (file : ℕ) → 2 ≤ file → file < next_file_of l → (bytes_of origin file ≡ []) ⊎ Contains (named_files l) file) its t.files in
      let same : (file : ℕ) → 2 ≤ file → bytes_of image file ≡ bytes_of origin file = λ file least. writes.besides file (λ is. omega (arith, least, is, below)) in
      elim writes.list [
        | inl old ↦ record {
          list = Some body;
          counts = old;
          files = λ file least given. elim (files file least given) [ inl empty ↦ inl (same file least ∙ empty) | inr is ↦ inr is ];
        }
        | inr next ↦ record {
          list = Some new;
          counts = next;
          files = λ file least given. elim (cases_lt file body.next_file) [
            | inl under ↦ elim (files file least under) [ inl empty ↦ inl (same file least ∙ empty) | inr is ↦ inr (named file (inl is)) ]
            | inr over ↦ inr (named file (inr (over, given)))
          ];
        }
      ]

-- ---- a compaction's commit

module _ (held : Image) (may_leave : Image → Type 0) (body new : ListBody) (files : List ℕ) (blocks : List Block) (block : Block) (tail : Tail) (h : History)
    (c : MayCompact held may_leave body new files blocks block tail h) where
  abbrev s : IsSettled held may_leave body blocks tail h
  s = c.settled

  rules : MeetsRules body
  rules = rules_in held body s.holds.listed

  abbrev all : List (List Span)
  all = s.before ++ s.mine

  counted : count_of h ≡ first_number body + length all
  counted = let size = length-append s.before s.mine in omega (arith, size, s.written.follows, s.written.counted, s.counts)

  was_listed : (b : Block) → Contains (outside_files files blocks) b → Contains blocks b
  was_listed b inside = was_in (λ (x : Block). not (is_among x.file files)) blocks b inside

  low_segment : (x : SegmentRef) → Contains body.segments x → 2 ≤ x.file
  low_segment x inside = (given_out body x.file rules (segment_named body x inside)).0

  low_block : (b : Block) → Contains blocks b → 2 ≤ b.file
  low_block b inside = (given_out body b.file rules (block_named body blocks b s.holds.its_blocks inside)).0

  -- an image that differs from one that might be left in a slot alone
  module _ (slot : ℕ) (below : slot < 2) (origin image : Image) (possible : may_leave origin) (besides : Besides slot origin image) where
    same : (file : ℕ) → 2 ≤ file → OnlyBytes file (bytes_of held file) may_leave → bytes_of image file ≡ bytes_of held file
    same file least only = besides file (λ is. omega (arith, least, is, below)) ∙ only origin possible

    segment_same : (x : SegmentRef) → Contains body.segments x → bytes_of image x.file ≡ bytes_of held x.file
    segment_same x inside = same x.file (low_segment x inside) (s.lies.segments x inside)

    block_same : (b : Block) → Contains blocks b → bytes_of image b.file ≡ bytes_of held b.file
    block_same b inside = same b.file (low_block b inside) (s.lies.built b inside)

    logs : LogHolds image body.segments (first_number body) all
    logs = log_same held image body.segments (first_number body) all segment_same s.holds.logged

    abbrev new_list : ImageHoldsList image (Some new) → CommitsCompaction image body new files blocks block all h
    new_list holds = record {
      segments = c.segments;
      floor = c.floor;
      blocks_are = c.blocks_are;
      listed = holds;
      logged = logs;
      built = λ b inside. blocks_same held image blocks block_same s.holds.built b (was_listed b inside);
      own = record { holds = subst (λ (b : List ℕ). BlockHolds b block.rows) (sym (same block.file c.low c.own_only)) c.own.holds; counted = c.own.counted };
      firsts = c.firsts;
      counts = counted;
      agrees = s.agrees;
      floored = s.holds.floored;
    }

    old_list : ImageHoldsList image (Some body) → ImageStandsFor image h
    old_list holds = stands_with image body blocks all h (record {
      listed = holds;
      its_blocks = s.holds.its_blocks;
      built = blocks_same held image blocks block_same s.holds.built;
      logged = logs;
      floored = s.holds.floored;
    }) s.agrees counted

    either : ImageHoldsEither (Some body) new image → ImageStandsFor image h
    either holds = elim holds [ inl old ↦ old_list old | inr next ↦ compacted image body new files blocks block all h (new_list next) ]

  -- whenever a crash comes within the commit
  pub image_stands : (slot : ℕ) → slot < 2 → (origin image : Image) → may_leave origin → WritesSlot slot (ImageHoldsEither (Some body) new) origin image → ImageStandsFor image h
  image_stands slot below origin image possible writes = either slot below origin image possible writes.besides writes.list

  pub tidy_stands : ((file : ℕ) → Contains (files_of body) file ⊎ ((body.next_file ≤ file) × (file < new.next_file)) → Contains (files_of new) file)
      → (slot : ℕ) → slot < 2 → (origin image : Image) → may_leave origin → WritesSlot slot (ImageHoldsEither (Some body) new) origin image → IsTidy origin → IsTidy image
  tidy_stands = tidy_written held may_leave body new s.lies.ready

  -- once it was made
  module _ (slot : ℕ) (below : slot < 2) (later : Image) (may_later : Image → Type 0) (stays : may_leave held) (besides : Besides slot held later) (ready : IsReady later may_later (Some new))
      (now : Within (Reached (WritesSlot slot (ImageHoldsEither (Some body) new)) may_leave) may_later) where
    still : (file : ℕ) → 2 ≤ file → OnlyBytes file (bytes_of held file) may_leave → OnlyBytes file (bytes_of later file) may_later
    still file least only = λ image left.
        let r = now image left in
        r.2.besides file (λ is. omega (arith, least, is, below)) ∙ only r.0 r.1 ∙ sym (besides file (λ is. omega (arith, least, is, below)))

    segments_lie : (x : SegmentRef) → Contains new.segments x → OnlyBytes x.file (bytes_of later x.file) may_later
    segments_lie x inside =
        let old : Contains body.segments x = subst (λ (l : List SegmentRef). Contains l x) c.segments inside in
        still x.file (low_segment x old) (s.lies.segments x old)

    blocks_lie : (b : Block) → Contains (with_joined files blocks block) b → OnlyBytes b.file (bytes_of later b.file) may_later
    blocks_lie b inside = elim (Contains-push_cases (outside_files files blocks) block b inside) [
      | inl old ↦ still b.file (low_block b (was_listed b old)) (s.lies.built b (was_listed b old))
      | inr is ↦ subst (λ (y : Block). OnlyBytes y.file (bytes_of later y.file) may_later) is (still block.file c.low c.own_only)
    ]

    abbrev made : CommitsCompaction later body new files blocks block all h
    made = new_list slot below held later stays besides ready.stands

    first_same : first_number new ≡ first_number body
    first_same = ap (λ (l : List SegmentRef). first_number (record body { segments = l })) c.segments

    abbrev last_segment : SegmentRef
    last_segment = record { file = tail.file; first = tail.first }

    kept_segment : (x : SegmentRef) → Contains body.segments x → bytes_of later x.file ≡ bytes_of held x.file
    kept_segment x inside = segment_same slot below held later stays besides x inside

    tail_stays : IsTail later new tail s.before s.mine
    tail_stays =
        let w = s.written in
        let follows = w.follows in
        record {
          front = w.front;
          last = c.segments ∙ w.last;
          earlier = subst (λ (n : ℕ). LogHolds later w.front n s.before) (sym first_same)
              (log_same held later w.front (first_number body) s.before (λ x inside. kept_segment x (in_front body w.front last_segment rules w.last x inside)) w.earlier);
          current = subst (λ (b : List ℕ). SegmentHolds tail.first s.mine tail.gate b) (sym (kept_segment last_segment (listed body w.front last_segment rules w.last))) w.current;
          counted = w.counted;
          follows = omega (arith, follows, first_same);
        }

    pub settled_compacted : IsSettled later may_later new (with_joined files blocks block) tail h
    settled_compacted = record {
      before = s.before;
      mine = s.mine;
      holds = store_compacted later body new files blocks block all h made;
      written = tail_stays;
      lies = record { ready = ready; segments = segments_lie; built = blocks_lie };
      agrees = agrees_compacted later body new files blocks block all h made;
      counts = s.counts;
    }

    -- what stood in the log stands in it still
    pub logged_compacted : (rows : List Row) → ((batches : List (List Span)) → LogHolds held body.segments (first_number body) batches → AreAmong rows (record_rows (first_number body) batches))
        → (batches : List (List Span)) → LogHolds later new.segments (first_number new) batches → AreAmong rows (record_rows (first_number new) batches)
    logged_compacted rows was batches holds x inside =
        let log : LogHolds later body.segments (first_number body) batches =
        subst (λ (n : ℕ). LogHolds later body.segments n batches) first_same (subst (λ (l : List SegmentRef). LogHolds later l (first_number new) batches) c.segments holds) in
        subst (λ (n : ℕ). Contains (record_rows n batches) x) (sym first_same)
        (was batches (log_same later held body.segments (first_number body) batches (λ y d. sym (kept_segment y d)) log) x inside)
