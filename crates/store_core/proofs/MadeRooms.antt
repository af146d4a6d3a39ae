-- Memory that the begin of a compaction takes.
use Rattle.std.proofs.Common.{◌≡◌, ◌+◌, ◌≤◌, length, Result, Ok, Err, OnOk, OnErr, None, refl, arith}
use Rattle.std.specs.Prelude.{Vec}
use Rattle.std.specs.Vec.{vec_len, vec_capacity}
use Rattle.std.specs.declared.alloc.Global.{Global}
use Rattle.block_info.specs.InfoParts.{InfoParts}
use Rattle.store_core.specs.Beginning.{HasRoomStill, IsNotMade}
use Rattle.store_core.specs.Jobs.{HaveRoomFor, SameJobs, open_jobs}
use Rattle.store_core.specs.declared.jobs.Jobs.{Jobs}
use Rattle.store_core.specs.declared.room.CommitRoom.{CommitRoom}
use Rattle.store_core.specs.declared.state.CoreState.{CoreState}
use Rattle.store_core.proofs.JobRooms.{kept_infos, kept_jobs, made_jobs, one_none, one_at_most}

pub one_job : (jobs : Jobs) → jobs.compaction ≡ None → open_jobs jobs ≤ 1
one_job jobs none = let other = one_none jobs.compaction none in let one = one_at_most jobs.flush in omega (arith, other, one)

-- ---- room

pub room_still : {E : Type 0} (core : CoreState) (infos : Vec InfoParts Global) (jobs : Jobs) (r : Result CommitRoom E) → infos.items ≡ core.infos.items → vec_capacity core.infos ≤ vec_capacity infos → vec_len infos + 2 ≤ vec_capacity infos
    → SameJobs core.jobs jobs → OnOk r (HaveRoomFor 2 jobs core.list) → OnOk r (vec_len jobs.loose + length core.list.segments + length core.list.blocks + 4 ≤ vec_capacity jobs.loose)
    → OnErr r ((jobs.flush ≡ core.jobs.flush) × (jobs.compaction ≡ core.jobs.compaction) × (vec_capacity core.jobs.loose ≤ vec_capacity jobs.loose))
    → HasRoomStill core (record core { infos = infos; jobs = jobs })
room_still core infos jobs (Ok room) items more spare same others loose refused = record { is = refl; keeps = made_jobs core.list core.infos infos core.jobs jobs same others loose items spare }
room_still core infos jobs (Err e) items more spare same others loose refused = record { is = refl; keeps = kept_jobs core.list core.infos infos core.jobs jobs same refused items more }

pub infos_still : (core : CoreState) (infos : Vec InfoParts Global) → infos.items ≡ core.infos.items → vec_capacity core.infos ≤ vec_capacity infos → HasRoomStill core (record core { infos = infos })
infos_still core infos items more = record { is = refl; keeps = kept_infos core.list core.infos infos core.jobs items more }

pub not_made : (core : CoreState) → IsNotMade core core
not_made core = record { still = infos_still core core.infos refl (omega arith); taken = λ n. refl; files = λ n. refl }
