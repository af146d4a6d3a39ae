-- What a crash within a flush's commit leaves, and the disk once it was made.
use Rattle.std.proofs.Common.{◌≡◌, ◌⊎◌, inl, inr, ℕ, ◌+◌, ◌<◌, ◌≤◌, List, [], ◌∷◌, ◌++◌, length, Some, Option, refl, sym, ◌∙◌, subst, arith, length-append}
use Rattle.std.specs.List.{Contains}
use Rattle.std.proofs.lemmas.Bool.{cases_eq, cases_lt}
use Rattle.std.proofs.lemmas.List.{append-nil}
use Rattle.std.proofs.lemmas.List.Elements.{All-contains, Contains-append_right, Contains-push_cases}
use Rattle.span_types.specs.declared.spans.Span.{Span}
use Rattle.span_types.specs.declared.spans.Row.{Row}
use Rattle.span_types.specs.First.{IsFirstOf, first_at}
use Rattle.span_types.specs.Keys.{row_key}
use Rattle.disk_model.specs.Images.{Image, bytes_of, Besides}
use Rattle.disk_model.specs.Crash.{OnlyBytes, Within, Reached}
use Rattle.head_log.specs.Stands.{SegmentHolds}
use Rattle.block_list.specs.Body.{MeetsRules, files_of}
use Rattle.block_list.specs.Slots.{ImageHoldsList}
use Rattle.block_list.specs.Commit.{ImageHoldsEither, WritesSlot}
use Rattle.block_list.specs.Loading.{IsReady}
use Rattle.block_list.specs.declared.body.SegmentRef.{SegmentRef}
use Rattle.block_list.specs.declared.body.ListBody.{ListBody}
use Rattle.block_info.specs.InfoParts.{InfoParts}
use Rattle.block_format.specs.Blocks.{BlockHolds, BlockHasInfo}
use Rattle.store_images.proofs.Kept.{stands_with}
use Rattle.store_model.specs.History.{History, record_rows, count_of}
use Rattle.store_model.specs.Laws.{AgreesOn}
use Rattle.store_model.specs.State.{Block, block_rows}
use Rattle.store_model.proofs.RowSetLaws.{first_is_in}
use Rattle.store_images.specs.Log.{LogHolds}
use Rattle.store_images.specs.Committed.{CommitsFlush}
use Rattle.store_images.specs.Stored.{BlockStands, StoreHolds, ImageStandsFor, IsTidy, first_number, stored_rows, ref_of, next_file_of, named_files}
use Rattle.store_images.specs.Settled.{Tail, IsSettled}
use Rattle.store_images.proofs.Committed.{committed, left_logged}
use Rattle.store_images.proofs.Keeping.{segment_named, block_named, rules_in, given_out, blocks_same, slots_same, one_list}
use Rattle.store_images.proofs.Logs.{log_same}
use Rattle.store_files.specs.Described.{AreDescribed}
use Rattle.store_core.specs.Waiting.{AreLogged}
use Rattle.store_files.proofs.LogLaws.{one_log}
use Rattle.store_core.proofs.NextLists.{Parting}

-- first occurrences are among the rows
pub firsts_in : (rows firsts : List Row) → IsFirstOf rows firsts → (x : Row) → Contains firsts x → Contains rows x
firsts_in rows firsts is x c = first_is_in (row_key x) rows x (All-contains (λ (r : Row). first_at (row_key r) rows ≡ Some r) firsts x is.only c)

-- one block more, with its information
pub described_more : (held : Image) (infos : List InfoParts) (info : InfoParts) (blocks : List Block) (block : Block) → AreDescribed held infos blocks → BlockHasInfo info (bytes_of held info.file) block.rows
    → AreDescribed held (infos ++ info ∷ []) (blocks ++ block ∷ [])
described_more held [] info [] block was has = (has, tt)
described_more held [] info (x ∷ xs) block was has = absurd was
described_more held (i ∷ is) info [] block was has = absurd was
described_more held (i ∷ is) info (x ∷ xs) block was has = (was.0, described_more held is info xs block was.1 has)

abbrev pub empty_tail : SegmentRef → Tail
empty_tail last = record { file = last.file; first = last.first; count = 0; gate = 1 }

-- The disk once the block was synced: it is settled by the old list, and the block's file and the new segment's have one image each.
-- The rows of the block and those that wait stand in the log, and those that wait are at the new floor or above it.
pub record MayCommit (held : Image) (may_leave : Image → Type 0) (body new : ListBody) (blocks : List Block) (block : Block) (tail : Tail) (h : History) (last : SegmentRef) (waiting : List Row) : Type 0 where
  pub settled : IsSettled held may_leave body blocks tail h
  pub floor : ℕ
  pub parting : Parting floor body.segments last
  pub segments : new.segments ≡ parting.kept ++ last ∷ []
  pub blocks_are : new.blocks ≡ body.blocks ++ ref_of block ∷ []
  pub low : 2 ≤ block.file
  pub low_segment : 2 ≤ last.file
  pub first : last.first ≡ count_of h
  pub fresh : SegmentHolds last.first [] 1 (bytes_of held last.file)
  pub fresh_only : OnlyBytes last.file (bytes_of held last.file) may_leave
  pub own : BlockStands held block
  pub own_only : OnlyBytes block.file (bytes_of held block.file) may_leave
  pub rest : AgreesOn (block_rows (blocks ++ block ∷ []) ++ waiting) h
  pub logged : AreLogged held body (block.rows ++ waiting)
  pub above : (row : Row) → Contains waiting row → new.floor ≤ row.place.number

module _ (held : Image) (may_leave : Image → Type 0) (body new : ListBody) (blocks : List Block) (block : Block) (tail : Tail) (h : History) (last : SegmentRef) (waiting : List Row)
    (c : MayCommit held may_leave body new blocks block tail h last waiting) where
  abbrev s : IsSettled held may_leave body blocks tail h
  s = c.settled

  abbrev p : Parting c.floor body.segments last
  p = c.parting

  rules : MeetsRules body
  rules = rules_in held body s.holds.listed

  abbrev all : List (List Span)
  all = s.before ++ s.mine

  counted : count_of h ≡ first_number body + length all
  counted = let size = length-append s.before s.mine in omega (arith, size, s.written.follows, s.written.counted, s.counts)

  -- an image that differs from one that might be left in a slot alone
  module _ (slot : ℕ) (below : slot < 2) (origin image : Image) (possible : may_leave origin) (besides : Besides slot origin image) where
    same : (file : ℕ) → 2 ≤ file → OnlyBytes file (bytes_of held file) may_leave → bytes_of image file ≡ bytes_of held file
    same file least only = besides file (λ is. omega (arith, least, is, below)) ∙ only origin possible

    segment_same : (x : SegmentRef) → Contains body.segments x → bytes_of image x.file ≡ bytes_of held x.file
    segment_same x inside = same x.file (given_out body x.file rules (segment_named body x inside)).0 (s.lies.segments x inside)

    block_same : (b : Block) → Contains blocks b → bytes_of image b.file ≡ bytes_of held b.file
    block_same b inside = same b.file (given_out body b.file rules (block_named body blocks b s.holds.its_blocks inside)).0 (s.lies.built b inside)

    logs : LogHolds image body.segments (first_number body) all
    logs = log_same held image body.segments (first_number body) all segment_same s.holds.logged

    abbrev new_list : ImageHoldsList image (Some new) → CommitsFlush image body new blocks block all waiting h
    new_list holds = record {
      gone = p.gone;
      kept = p.kept;
      segment = last;
      split = p.split;
      segments = c.segments;
      old_blocks = s.holds.its_blocks;
      blocks_are = c.blocks_are;
      listed = holds;
      logged = logs;
      built = blocks_same held image blocks block_same s.holds.built;
      own = record { holds = subst (λ (b : List ℕ). BlockHolds b block.rows) (sym (same block.file c.low c.own_only)) c.own.holds; counted = c.own.counted };
      empty = (1, subst (λ (b : List ℕ). SegmentHolds last.first [] 1 b) (sym (same last.file c.low_segment c.fresh_only)) c.fresh);
      next = c.first ∙ counted;
      counts = counted;
      agrees = s.agrees;
      rest = c.rest;
      within = λ x inside. Contains-append_right (block_rows blocks) (record_rows (first_number body) all) x (c.logged all s.holds.logged x inside);
      above = c.above;
    }

    old_list : ImageHoldsList image (Some body) → ImageStandsFor image h
    old_list holds = stands_with image body blocks all h (record {
      listed = holds;
      its_blocks = s.holds.its_blocks;
      built = blocks_same held image blocks block_same s.holds.built;
      logged = logs;
      floored = s.holds.floored;
    }) s.agrees counted

    either : ImageHoldsEither (Some body) new image → ImageStandsFor image h
    either holds = elim holds [ inl old ↦ old_list old | inr next ↦ committed image body new blocks block all waiting h (new_list next) ]

  -- whenever a crash comes within the commit
  pub image_stands : (slot : ℕ) → slot < 2 → (origin image : Image) → may_leave origin → WritesSlot slot (ImageHoldsEither (Some body) new) origin image → ImageStandsFor image h
  image_stands slot below origin image possible writes = either slot below origin image possible writes.besides writes.list

  -- once it was made
  module _ (slot : ℕ) (below : slot < 2) (later : Image) (may_later : Image → Type 0) (stays : may_leave held) (besides : Besides slot held later) (ready : IsReady later may_later (Some new))
      (now : Within (Reached (WritesSlot slot (ImageHoldsEither (Some body) new)) may_leave) may_later) where
    still : (file : ℕ) → 2 ≤ file → OnlyBytes file (bytes_of held file) may_leave → OnlyBytes file (bytes_of later file) may_later
    still file least only = λ image left.
        let r = now image left in
        r.2.besides file (λ is. omega (arith, least, is, below)) ∙ only r.0 r.1 ∙ sym (besides file (λ is. omega (arith, least, is, below)))

    in_old : (x : SegmentRef) → Contains p.kept x → Contains body.segments x
    in_old x inside = subst (λ (l : List SegmentRef). Contains l x) (sym p.split) (Contains-append_right p.gone p.kept x inside)

    segments_lie : (x : SegmentRef) → Contains new.segments x → OnlyBytes x.file (bytes_of later x.file) may_later
    segments_lie x inside = elim (Contains-push_cases p.kept last x (subst (λ (l : List SegmentRef). Contains l x) c.segments inside)) [
      | inl old ↦ still x.file (given_out body x.file rules (segment_named body x (in_old x old))).0 (s.lies.segments x (in_old x old))
      | inr is ↦ subst (λ (y : SegmentRef). OnlyBytes y.file (bytes_of later y.file) may_later) is (still last.file c.low_segment c.fresh_only)
    ]

    blocks_lie : (b : Block) → Contains (blocks ++ block ∷ []) b → OnlyBytes b.file (bytes_of later b.file) may_later
    blocks_lie b inside = elim (Contains-push_cases blocks block b inside) [
      | inl old ↦ still b.file (given_out body b.file rules (block_named body blocks b s.holds.its_blocks old)).0 (s.lies.built b old)
      | inr is ↦ subst (λ (y : Block). OnlyBytes y.file (bytes_of later y.file) may_later) is (still block.file c.low c.own_only)
    ]

    pub settled_committed : IsSettled later may_later new (blocks ++ block ∷ []) (empty_tail last) h
    settled_committed =
        let l = left_logged later body new blocks block all waiting h (new_list slot below held later stays besides ready.stands) in
        let none : l.before ++ [] ≡ l.before = append-nil l.before in
        record {
          before = l.before;
          mine = [];
          holds = subst (λ (b : List (List Span)). StoreHolds later new (blocks ++ block ∷ []) b) (sym none) l.store;
          written = record {
            front = p.kept;
            last = c.segments;
            earlier = l.earlier;
            current = subst (λ (b : List ℕ). SegmentHolds last.first [] 1 b) (sym (same slot below held later stays besides last.file c.low_segment c.fresh_only)) c.fresh;
            counted = refl;
            follows = l.follows;
          };
          lies = record { ready = ready; segments = segments_lie; built = blocks_lie };
          agrees = subst (λ (b : List (List Span)). AgreesOn (stored_rows (blocks ++ block ∷ []) (first_number new) b) h) (sym none) l.agrees;
          counts = (let is = c.first in omega (arith, is));
        }

    -- what still waits stands in the log that is left
    pub logged_committed : AreLogged later new waiting
    logged_committed = λ batches holds x inside.
        let l = left_logged later body new blocks block all waiting h (new_list slot below held later stays besides ready.stands) in
        let is : l.before ≡ batches = one_log later new.segments (first_number new) l.before batches l.store.logged holds in
        let low = (rules_in later new ready.stands).from_floor in
        let high = c.above x inside in
        subst (λ (b : List (List Span)). Contains (record_rows (first_number new) b) x) is
        (l.later x (c.logged all s.holds.logged x (Contains-append_right block.rows waiting x inside)) (omega (arith, low, high)))

  -- ---- tidiness

  origin_holds : (origin : Image) → may_leave origin → ImageHoldsList origin (Some body)
  origin_holds origin possible = slots_same held origin (Some body) in_slot s.lies.ready.stands
    where
      in_slot : (slot : ℕ) → slot < 2 → bytes_of origin slot ≡ bytes_of held slot
      in_slot slot below = elim (cases_eq slot 0) [
        | inl is ↦ subst (λ (n : ℕ). bytes_of origin n ≡ bytes_of held n) (sym is) (s.lies.ready.slot_0 origin possible)
        | inr other ↦ subst (λ (n : ℕ). bytes_of origin n ≡ bytes_of held n) (omega (arith, below, other)) (s.lies.ready.slot_1 origin possible)
      ]

  -- where the new list names each file that the old one named, and each one that was given out since
  pub tidy_stands : ((file : ℕ) → Contains (files_of body) file ⊎ ((body.next_file ≤ file) × (file < new.next_file)) → Contains (files_of new) file)
      → (slot : ℕ) → slot < 2 → (origin image : Image) → may_leave origin → WritesSlot slot (ImageHoldsEither (Some body) new) origin image → IsTidy origin → IsTidy image
  tidy_stands named slot below origin image possible writes t =
      let its : t.list ≡ Some body = one_list origin t.list (Some body) t.counts (origin_holds origin possible) in
      let files : (file : ℕ) → 2 ≤ file → file < body.next_file → (bytes_of origin file ≡ []) ⊎ Contains (files_of body) file =
      subst (λ (l : Option ListBody). (file : ℕ) → 2 ≤ file → file < next_file_of l → (bytes_of origin file ≡ []) ⊎ Contains (named_files l) file) its t.files in
      let same : (file : ℕ) → 2 ≤ file → bytes_of image file ≡ bytes_of origin file = λ file least. writes.besides file (λ is. omega (arith, least, is, below)) in
      elim writes.list [
        | inl old ↦ record {
          list = Some body;
          counts = old;
          files = λ file least given. elim (files file least given) [ inl empty ↦ inl (same file least ∙ empty) | inr is ↦ inr is ];
        }
        | inr next ↦ record {
          list = Some new;
          counts = next;
          files = λ file least given. elim (cases_lt file body.next_file) [
            | inl under ↦ elim (files file least under) [ inl empty ↦ inl (same file least ∙ empty) | inr is ↦ inr (named file (inl is)) ]
            | inr over ↦ inr (named file (inr (over, given)))
          ];
        }
      ]
