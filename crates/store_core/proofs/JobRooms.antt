-- Room for what open jobs end with, as memory is taken and jobs begin and are given up.
use Rattle.std.proofs.Common.{◌≡◌, ◌⊎◌, inl, inr, ℕ, ◌+◌, ◌*◌, ◌≤◌, List, [], ◌++◌, length, length-append, Some, None, Option, IfSome, refl, sym, ap, subst, arith}
use Rattle.std.specs.Prelude.{Vec}
use Rattle.std.specs.Vec.{vec_len, vec_capacity}
use Rattle.std.specs.declared.alloc.Global.{Global}
use Rattle.disk_model.specs.Images.{Image, bytes_of}
use Rattle.disk_model.specs.Crash.{OnlyBytes}
use Rattle.head_log.specs.Stands.{SegmentHolds}
use Rattle.block_info.specs.InfoParts.{InfoParts}
use Rattle.block_list.specs.declared.body.ListBody.{ListBody}
use Rattle.store_model.specs.State.{Flush, Compaction}
use Rattle.store_core.specs.Jobs.{ShowsFlush, ShowsCompaction, JobsFit, CommitFits, HaveRoomFor, HasCommitRoom, HasFreshSegment, SameFlush, SameCompaction, SameJobs, one_if, open_jobs}
use Rattle.store_files.specs.Loose.{IsSpare}
use Rattle.store_core.specs.Beginning.{KeepsRooms}
use Rattle.store_core.specs.declared.jobs.Jobs.{Jobs}
use Rattle.store_core.specs.declared.jobs.OpenFlush.{OpenFlush}
use Rattle.store_core.specs.declared.jobs.OpenCompaction.{OpenCompaction}
use Rattle.store_core.specs.declared.room.CommitRoom.{CommitRoom}

-- as many items
pub same_len : (old new : Vec ℕ Global) → new.items ≡ old.items → vec_len new ≡ vec_len old
same_len old new same = let one = old.ok.0 in let other = new.ok.0 in let len = ap (λ (l : List ℕ). length l) same in omega (arith, one, other, len)

pub same_infos_len : (old new : Vec InfoParts Global) → new.items ≡ old.items → vec_len new ≡ vec_len old
same_infos_len old new same = let one = old.ok.0 in let other = new.ok.0 in let len = ap (λ (l : List InfoParts). length l) same in omega (arith, one, other, len)

-- ---- room for a commit

-- where more jobs fit, fewer do, also while some more files are loose
pub fits_less : (room : CommitRoom) (list : ListBody) (loose later jobs fewer : ℕ) → fewer ≤ jobs → later + 2 * fewer ≤ loose + 2 * jobs → CommitFits room list loose jobs → CommitFits room list later fewer
fits_less room list loose later jobs fewer few files fits = record {
  blocks = (let was = fits.blocks in omega (arith, was, few));
  segments = (let was = fits.segments in omega (arith, was, few));
  files = (let was = fits.files in omega (arith, was, few, files));
  text = (let was = fits.text in omega (arith, was, few, files));
}

abbrev pub RoomOfFlush : ListBody → ℕ → ℕ → Option OpenFlush → Type 0
RoomOfFlush list loose count o = IfSome o (λ known. (room : CommitRoom) × (known.room ≡ Some room) × CommitFits room list loose count)

abbrev pub RoomOfCompaction : ListBody → ℕ → ℕ → Option OpenCompaction → Type 0
RoomOfCompaction list loose count o = IfSome o (λ known. (room : CommitRoom) × (known.room ≡ Some room) × CommitFits room list loose count)

pub flush_less : (o : Option OpenFlush) (list : ListBody) (loose later jobs fewer : ℕ) → fewer ≤ jobs → later + 2 * fewer ≤ loose + 2 * jobs → RoomOfFlush list loose jobs o → RoomOfFlush list later fewer o
flush_less None list loose later jobs fewer few files was = tt
flush_less (Some known) list loose later jobs fewer few files was = (was.0, was.1, fits_less was.0 list loose later jobs fewer few files was.2)

pub compaction_less : (o : Option OpenCompaction) (list : ListBody) (loose later jobs fewer : ℕ) → fewer ≤ jobs → later + 2 * fewer ≤ loose + 2 * jobs → RoomOfCompaction list loose jobs o → RoomOfCompaction list later fewer o
compaction_less None list loose later jobs fewer few files was = tt
compaction_less (Some known) list loose later jobs fewer few files was = (was.0, was.1, fits_less was.0 list loose later jobs fewer few files was.2)

-- the same jobs, while so many files are loose
pub rooms_fewer : (jobs : Jobs) (list : ListBody) (count fewer : ℕ) → fewer ≤ count → HaveRoomFor count jobs list → HaveRoomFor fewer jobs list
rooms_fewer jobs list count fewer few was = record {
  flush = flush_less jobs.flush list (vec_len jobs.loose) (vec_len jobs.loose) count fewer few (omega (arith, few)) was.flush;
  compaction = compaction_less jobs.compaction list (vec_len jobs.loose) (vec_len jobs.loose) count fewer few (omega (arith, few)) was.compaction;
}

pub one_at_most : {J : Type 0} (o : Option J) → one_if o ≤ 1
one_at_most None = omega arith
one_at_most (Some job) = omega arith

pub two_at_most : (jobs : Jobs) → open_jobs jobs ≤ 2
two_at_most jobs = let one = one_at_most jobs.flush in let other = one_at_most jobs.compaction in omega (arith, one, other)

pub one_none : {J : Type 0} (o : Option J) → o ≡ None → one_if o ≡ 0
one_none o none = ap one_if none

pub one_some : {J : Type 0} (o : Option J) (job : J) → o ≡ Some job → one_if o ≡ 1
one_some o job is = ap one_if is

-- the one open job gets a room
pub renewed_flush : (jobs : Jobs) (known : OpenFlush) (room : CommitRoom) (list : ListBody) (count : ℕ) → jobs.flush ≡ Some known → open_jobs jobs ≤ 1 → CommitFits room list (vec_len jobs.loose) count
    → HaveRoomFor count (record jobs { flush = Some (record known { room = Some room }) }) list
renewed_flush jobs known room list count is one fits = record {
  flush = (room, refl, fits);
  compaction = by jobs.compaction (let count = one_some jobs.flush known is in omega (arith, count, one));
}
  where
    by : (o : Option OpenCompaction) → one_if o ≤ 0 → RoomOfCompaction list (vec_len jobs.loose) count o
    by None few = tt
    by (Some other) few = absurd (omega (arith, few))

pub renewed_compaction : (jobs : Jobs) (known : OpenCompaction) (room : CommitRoom) (list : ListBody) (count : ℕ) → jobs.compaction ≡ Some known → open_jobs jobs ≤ 1 → CommitFits room list (vec_len jobs.loose) count
    → HaveRoomFor count (record jobs { compaction = Some (record known { room = Some room }) }) list
renewed_compaction jobs known room list count is one fits = record {
  flush = by jobs.flush (let count = one_some jobs.compaction known is in omega (arith, count, one));
  compaction = (room, refl, fits);
}
  where
    by : (o : Option OpenFlush) → one_if o ≤ 0 → RoomOfFlush list (vec_len jobs.loose) count o
    by None few = tt
    by (Some other) few = absurd (omega (arith, few))

-- ---- the same jobs, whatever room they have

pub same_flush : (o : Option OpenFlush) → SameFlush o o
same_flush None = refl
same_flush (Some known) = (known.room, refl)

pub same_compaction : (o : Option OpenCompaction) → SameCompaction o o
same_compaction None = refl
same_compaction (Some known) = (known.room, refl)

pub same_jobs : (jobs : Jobs) → SameJobs jobs jobs
same_jobs jobs = record { begun = refl; next_file = refl; loose = refl; flush = same_flush jobs.flush; compaction = same_compaction jobs.compaction }

pub same_loose : (jobs : Jobs) (loose : Vec ℕ Global) → loose.items ≡ jobs.loose.items → SameJobs jobs (record jobs { loose = loose })
same_loose jobs loose same = record { begun = refl; next_file = refl; loose = same; flush = same_flush jobs.flush; compaction = same_compaction jobs.compaction }

pub flush_open : (old later : Option OpenFlush) → SameFlush old later → one_if later ≡ one_if old
flush_open None later same = ap one_if same
flush_open (Some known) later same = ap one_if same.1

pub compaction_open : (old later : Option OpenCompaction) → SameCompaction old later → one_if later ≡ one_if old
compaction_open None later same = ap one_if same
compaction_open (Some known) later same = ap one_if same.1

pub jobs_open : (old new : Jobs) → SameJobs old new → open_jobs new ≡ open_jobs old
jobs_open old new same = let one = flush_open old.flush new.flush same.flush in let other = compaction_open old.compaction new.compaction same.compaction in omega (arith, one, other)

pub flush_shown : (old later : Option OpenFlush) (flush : Option Flush) → SameFlush old later → ShowsFlush old flush → ShowsFlush later flush
flush_shown None later flush same shown = subst (λ (k : Option OpenFlush). ShowsFlush k flush) (sym same) shown
flush_shown (Some known) later flush same shown = subst (λ (k : Option OpenFlush). ShowsFlush k flush) (sym same.1) shown

pub compaction_shown : (old later : Option OpenCompaction) (compaction : Option Compaction) → SameCompaction old later → ShowsCompaction old compaction → ShowsCompaction later compaction
compaction_shown None later compaction same shown = subst (λ (k : Option OpenCompaction). ShowsCompaction k compaction) (sym same) shown
compaction_shown (Some known) later compaction same shown = subst (λ (k : Option OpenCompaction). ShowsCompaction k compaction) (sym same.1) shown

pub flush_none : (old later : Option OpenFlush) → SameFlush old later → old ≡ None → later ≡ None
flush_none None later same none = same
flush_none (Some known) later same none = absurd (let bad : Some known ≡ None = none in cc)

-- the files of open jobs are spare ones
abbrev pub SpareFlush : ListBody → Option OpenFlush → Type 0
SpareFlush list o = IfSome o (λ known. IsSpare list known.files.block × IsSpare list known.files.segment)

abbrev pub SpareCompaction : ListBody → Option OpenCompaction → Type 0
SpareCompaction list o = IfSome o (λ known. IsSpare list known.file)

pub spare_flush : (list : ListBody) (old later : Option OpenFlush) → SameFlush old later → SpareFlush list old → SpareFlush list later
spare_flush list None later same was = subst (λ (k : Option OpenFlush). SpareFlush list k) (sym same) tt
spare_flush list (Some known) later same was = subst (λ (k : Option OpenFlush). SpareFlush list k) (sym same.1) was

pub spare_compaction_file : (list : ListBody) (old later : Option OpenCompaction) → SameCompaction old later → SpareCompaction list old → SpareCompaction list later
spare_compaction_file list None later same was = subst (λ (k : Option OpenCompaction). SpareCompaction list k) (sym same) tt
spare_compaction_file list (Some known) later same was = subst (λ (k : Option OpenCompaction). SpareCompaction list k) (sym same.1) was

-- the level of a compaction is one that a list may name
abbrev pub LowLevel : Option OpenCompaction → Type 0
LowLevel o = IfSome o (λ known. known.level ≤ 63)

pub low_level : (old later : Option OpenCompaction) → SameCompaction old later → LowLevel old → LowLevel later
low_level None later same was = subst LowLevel (sym same) tt
low_level (Some known) later same was = subst LowLevel (sym same.1) was

-- ---- memory was taken

-- the same jobs, with room in the loose files
pub fit_still : (old new : Jobs) (list : ListBody) → SameJobs old new
    → (1 ≤ open_jobs old → vec_len old.loose + length list.segments + length list.blocks + 2 * open_jobs old ≤ vec_capacity new.loose) → JobsFit old list → JobsFit new list
fit_still old new list same room was =
    let len = same_len old.loose new.loose same.loose in
    let count = jobs_open old new same in
    record {
      given = subst (λ (n : ℕ). list.next_file ≤ n) (sym same.next_file) was.given;
      flush = spare_flush list old.flush new.flush same.flush was.flush;
      compaction = spare_compaction_file list old.compaction new.compaction same.compaction was.compaction;
      level = low_level old.compaction new.compaction same.compaction was.level;
      room = λ some. let has = room (omega (arith, some, count)) in omega (arith, has, len, count);
    }

-- where room for two was made in them
pub fit_made : (old new : Jobs) (list : ListBody) → SameJobs old new → vec_len new.loose + length list.segments + length list.blocks + 4 ≤ vec_capacity new.loose → JobsFit old list → JobsFit new list
fit_made old new list same room was = fit_still old new list same
    (λ some. let few = two_at_most old in let len = same_len old.loose new.loose same.loose in omega (arith, room, few, len)) was

-- where no room was lost
pub fit_kept : (old new : Jobs) (list : ListBody) → SameJobs old new → vec_capacity old.loose ≤ vec_capacity new.loose → JobsFit old list → JobsFit new list
fit_kept old new list same more was = fit_still old new list same (λ some. let has = was.room some in omega (arith, has, more)) was

pub rooms_made : (old new : Jobs) (list : ListBody) (was now : Vec InfoParts Global) → SameJobs old new → HaveRoomFor 2 new list → vec_len now + 2 ≤ vec_capacity now → HasCommitRoom old list was → HasCommitRoom new list now
rooms_made old new list was now same rooms infos had = record {
  rooms = rooms_fewer new list 2 (open_jobs new) (two_at_most new) rooms;
  infos = λ some. let few = two_at_most new in omega (arith, infos, few);
}

pub infos_kept : (old new : Jobs) (list : ListBody) (was now : Vec InfoParts Global) → open_jobs new ≡ open_jobs old → now.items ≡ was.items → vec_capacity was ≤ vec_capacity now → HasCommitRoom old list was
    → 1 ≤ open_jobs new → vec_len now + open_jobs new ≤ vec_capacity now
infos_kept old new list was now count items more had some =
    let len = same_infos_len was now items in
    let room = had.infos (omega (arith, some, count)) in
    omega (arith, room, len, count, more)

pub rooms_kept : (old new : Jobs) (list : ListBody) (was now : Vec InfoParts Global) → SameJobs old new → new.flush ≡ old.flush → new.compaction ≡ old.compaction → now.items ≡ was.items → vec_capacity was ≤ vec_capacity now
    → HasCommitRoom old list was → HasCommitRoom new list now
rooms_kept old new list was now same flush compaction items more had =
    let len = same_len old.loose new.loose same.loose in
    let count = jobs_open old new same in
    record {
      rooms = record {
        flush = subst (λ (k : Option OpenFlush). RoomOfFlush list (vec_len new.loose) (open_jobs new) k) (sym flush)
            (flush_less old.flush list (vec_len old.loose) (vec_len new.loose) (open_jobs old) (open_jobs new) (omega (arith, count)) (omega (arith, count, len)) had.rooms.flush);
        compaction = subst (λ (k : Option OpenCompaction). RoomOfCompaction list (vec_len new.loose) (open_jobs new) k) (sym compaction)
            (compaction_less old.compaction list (vec_len old.loose) (vec_len new.loose) (open_jobs old) (open_jobs new) (omega (arith, count)) (omega (arith, count, len)) had.rooms.compaction);
      };
      infos = infos_kept old new list was now count items more had;
    }

-- the memory for one job more could not be taken, or not all of it
pub kept_jobs : (list : ListBody) (was now : Vec InfoParts Global) (old new : Jobs) → SameJobs old new → (new.flush ≡ old.flush) × (new.compaction ≡ old.compaction) × (vec_capacity old.loose ≤ vec_capacity new.loose)
    → now.items ≡ was.items → vec_capacity was ≤ vec_capacity now → KeepsRooms list was now old new
kept_jobs list was now old new same jobs items more = record {
  infos = items;
  same = same;
  fit = fit_kept old new list same jobs.2;
  rooms = rooms_kept old new list was now same jobs.0 jobs.1 items more;
}

pub kept_infos : (list : ListBody) (was now : Vec InfoParts Global) (jobs : Jobs) → now.items ≡ was.items → vec_capacity was ≤ vec_capacity now → KeepsRooms list was now jobs jobs
kept_infos list was now jobs items more = kept_jobs list was now jobs jobs (same_jobs jobs) (refl, refl, omega arith) items more

-- it was taken
pub made_jobs : (list : ListBody) (was now : Vec InfoParts Global) (old new : Jobs) → SameJobs old new → HaveRoomFor 2 new list
    → vec_len new.loose + length list.segments + length list.blocks + 4 ≤ vec_capacity new.loose → now.items ≡ was.items → vec_len now + 2 ≤ vec_capacity now → KeepsRooms list was now old new
made_jobs list was now old new same rooms loose items infos = record {
  infos = items;
  same = same;
  fit = fit_made old new list same loose;
  rooms = rooms_made old new list was now same rooms infos;
}

-- ---- a job ends

-- One job is open no more, and so many files more are loose. The other one stays as it was.
pub record EndsOne (old new : Jobs) : Type 0 where
  pub fewer : open_jobs new + 1 ≡ open_jobs old
  pub few : vec_len new.loose ≤ vec_len old.loose + 2
  pub capacity : vec_capacity old.loose ≤ vec_capacity new.loose
  pub next_file : new.next_file ≡ old.next_file
  pub flush : (new.flush ≡ None) ⊎ (new.flush ≡ old.flush)
  pub compaction : (new.compaction ≡ None) ⊎ (new.compaction ≡ old.compaction)

-- what is so of no job, or of one as it was
still_or_none : {J : Type 0} (P : Option J → Type 0) (old new : Option J) → (new ≡ None) ⊎ (new ≡ old) → P None → P old → P new
still_or_none P old new (inl none) nothing was = subst P (sym none) nothing
still_or_none P old new (inr same) nothing was = subst P (sym same) was

pub fit_ended : (old new : Jobs) (list : ListBody) → EndsOne old new → JobsFit old list → JobsFit new list
fit_ended old new list ends was = record {
  given = subst (λ (n : ℕ). list.next_file ≤ n) (sym ends.next_file) was.given;
  flush = still_or_none (SpareFlush list) old.flush new.flush ends.flush tt was.flush;
  compaction = still_or_none (SpareCompaction list) old.compaction new.compaction ends.compaction tt was.compaction;
  level = still_or_none LowLevel old.compaction new.compaction ends.compaction tt was.level;
  room = λ some.
      let count = ends.fewer in
      let few = ends.few in
      let capacity = ends.capacity in
      let room = was.room (omega (arith, count)) in
      omega (arith, room, count, few, capacity);
}

pub rooms_ended : (old new : Jobs) (list : ListBody) (infos : Vec InfoParts Global) → EndsOne old new → HasCommitRoom old list infos → HasCommitRoom new list infos
rooms_ended old new list infos ends had =
    let count = ends.fewer in
    let few = ends.few in
    record {
      rooms = record {
        flush = still_or_none (RoomOfFlush list (vec_len new.loose) (open_jobs new)) old.flush new.flush ends.flush tt
            (flush_less old.flush list (vec_len old.loose) (vec_len new.loose) (open_jobs old) (open_jobs new) (omega (arith, count)) (omega (arith, count, few)) had.rooms.flush);
        compaction = still_or_none (RoomOfCompaction list (vec_len new.loose) (open_jobs new)) old.compaction new.compaction ends.compaction tt
            (compaction_less old.compaction list (vec_len old.loose) (vec_len new.loose) (open_jobs old) (open_jobs new) (omega (arith, count)) (omega (arith, count, few)) had.rooms.compaction);
      };
      infos = λ some. let room = had.infos (omega (arith, count)) in omega (arith, room, count);
    }

-- so many files more are loose
pub loose_more : (old new : Vec ℕ Global) (files : List ℕ) → new.items ≡ old.items ++ files → vec_len new ≡ vec_len old + length files
loose_more old new files is =
    let one = old.ok.0 in
    let other = new.ok.0 in
    let len = ap (λ (l : List ℕ). length l) is in
    let joined = length-append old.items files in
    omega (arith, one, other, len, joined)

-- there is room for the files of a job that is given up
pub flush_room : (jobs : Jobs) (list : ListBody) → JobsFit jobs list → IfSome jobs.flush (λ known. vec_len jobs.loose + 2 ≤ vec_capacity jobs.loose)
flush_room jobs list fit = by jobs.flush refl
  where
    by : (o : Option OpenFlush) → jobs.flush ≡ o → IfSome o (λ known. vec_len jobs.loose + 2 ≤ vec_capacity jobs.loose)
    by None is = tt
    by (Some known) is = let one = one_some jobs.flush known is in let room = fit.room (omega (arith, one)) in omega (arith, room, one)

pub compaction_room : (jobs : Jobs) (list : ListBody) → JobsFit jobs list → IfSome jobs.compaction (λ known. vec_len jobs.loose + 1 ≤ vec_capacity jobs.loose)
compaction_room jobs list fit = by jobs.compaction refl
  where
    by : (o : Option OpenCompaction) → jobs.compaction ≡ o → IfSome o (λ known. vec_len jobs.loose + 1 ≤ vec_capacity jobs.loose)
    by None is = tt
    by (Some known) is = let one = one_some jobs.compaction known is in let room = fit.room (omega (arith, one)) in omega (arith, room, one)

-- ---- the new segment of an open flush, whatever room it has

abbrev pub FreshOf : Image → (Image → Type 0) → Option OpenFlush → Type 0
FreshOf held may_leave o = IfSome o (λ known. ((first : ℕ) → SegmentHolds first [] 1 (bytes_of held known.files.segment))
    × OnlyBytes known.files.segment (bytes_of held known.files.segment) may_leave)

pub fresh_as : (held : Image) (may_leave : Image → Type 0) (old new : Jobs) → new.flush ≡ old.flush → HasFreshSegment held may_leave old → HasFreshSegment held may_leave new
fresh_as held may_leave old new same was = subst (λ (k : Option OpenFlush). FreshOf held may_leave k) (sym same) was

pub fresh_same : (held : Image) (may_leave : Image → Type 0) (old later : Option OpenFlush) → SameFlush old later → FreshOf held may_leave old → FreshOf held may_leave later
fresh_same held may_leave None later same was = subst (λ (k : Option OpenFlush). FreshOf held may_leave k) (sym same) tt
fresh_same held may_leave (Some known) later same was = subst (λ (k : Option OpenFlush). FreshOf held may_leave k) (sym same.1) was
