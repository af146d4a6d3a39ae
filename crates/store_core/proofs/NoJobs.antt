-- Where no flush is open, and where no job is.
use Rattle.std.proofs.Common.{◌≡◌, ℕ, ◌≤◌, [], None, Option, IfSome, sym, subst, arith}
use Rattle.std.specs.Prelude.{Vec}
use Rattle.std.specs.Vec.{vec_len}
use Rattle.std.specs.declared.alloc.Global.{Global}
use Rattle.disk_model.specs.Images.{Image, bytes_of}
use Rattle.disk_model.specs.Crash.{OnlyBytes}
use Rattle.head_log.specs.Stands.{SegmentHolds}
use Rattle.block_info.specs.InfoParts.{InfoParts}
use Rattle.block_list.specs.declared.body.ListBody.{ListBody}
use Rattle.store_core.specs.Jobs.{JobsFit, HasCommitRoom, HasFreshSegment, open_jobs}
use Rattle.store_core.specs.declared.jobs.Jobs.{Jobs}
use Rattle.store_core.specs.declared.jobs.OpenFlush.{OpenFlush}
use Rattle.store_core.specs.declared.jobs.OpenCompaction.{OpenCompaction}
use Rattle.store_core.proofs.JobRooms.{RoomOfFlush, RoomOfCompaction, SpareFlush, SpareCompaction, LowLevel, one_none}

pub no_segment : (held : Image) (may_leave : Image → Type 0) (jobs : Jobs) → jobs.flush ≡ None → HasFreshSegment held may_leave jobs
no_segment held may_leave jobs none = subst (λ (k : Option OpenFlush). IfSome k (λ mine. ((first : ℕ) → SegmentHolds first [] 1 (bytes_of held mine.files.segment))
    × OnlyBytes mine.files.segment (bytes_of held mine.files.segment) may_leave)) (sym none) tt

none_open : (jobs : Jobs) → jobs.flush ≡ None → jobs.compaction ≡ None → open_jobs jobs ≡ 0
none_open jobs flush compaction = let one = one_none jobs.flush flush in let other = one_none jobs.compaction compaction in omega (arith, one, other)

pub none_fit : (jobs : Jobs) (list : ListBody) → list.next_file ≤ jobs.next_file → jobs.flush ≡ None → jobs.compaction ≡ None → JobsFit jobs list
none_fit jobs list given flush compaction = record {
  given = given;
  flush = subst (λ (k : Option OpenFlush). SpareFlush list k) (sym flush) tt;
  compaction = subst (λ (k : Option OpenCompaction). SpareCompaction list k) (sym compaction) tt;
  level = subst LowLevel (sym compaction) tt;
  room = λ some. absurd (let none = none_open jobs flush compaction in omega (arith, some, none));
}

pub no_commit_room : (jobs : Jobs) (list : ListBody) (infos : Vec InfoParts Global) → jobs.flush ≡ None → jobs.compaction ≡ None → HasCommitRoom jobs list infos
no_commit_room jobs list infos flush compaction = record {
  rooms = record {
    flush = subst (λ (k : Option OpenFlush). RoomOfFlush list (vec_len jobs.loose) (open_jobs jobs) k) (sym flush) tt;
    compaction = subst (λ (k : Option OpenCompaction). RoomOfCompaction list (vec_len jobs.loose) (open_jobs jobs) k) (sym compaction) tt;
  };
  infos = λ some. absurd (let none = none_open jobs flush compaction in omega (arith, some, none));
}
