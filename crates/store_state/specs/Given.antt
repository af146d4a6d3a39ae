-- What a port gave out, as plain values.
use Rattle.std.specs.Prelude.{◌≡◌, ℕ, List, map, true}
use Rattle.block_info.specs.InfoParts.{InfoParts}
use Rattle.store_model.specs.State.{is_among}
use Rattle.store_model.specs.Event.{LookParts, FlushParts, CompactParts}
use Rattle.store_model.specs.Holds.{Hold}
use Rattle.store_model.specs.Holds.Hold.{OpenLook, OpenFlush, OpenCompact}
use Rattle.store_state.specs.declared.jobs.Pin.{Pin}
use Rattle.store_state.specs.declared.jobs.Look.{Look}
use Rattle.store_state.specs.declared.jobs.JobFile.{JobFile}
use Rattle.store_state.specs.declared.jobs.FlushJob.{FlushJob}
use Rattle.store_state.specs.declared.jobs.CompactJob.{CompactJob}

abbrev pub info_files : List InfoParts → List ℕ
info_files infos = map (λ info. info.file) infos

abbrev pub look_parts : Look → LookParts
look_parts look = record {
  pin = look.pin.number;
  files = info_files look.pin.blocks;
  as_of = look.as_of;
  rows = look.rows;
}

abbrev pub flush_parts : FlushJob → FlushParts
flush_parts job = record { number = job.out.number; file = job.out.file; rows = job.rows }

abbrev pub compact_parts : CompactJob → CompactParts
compact_parts job = record {
  number = job.out.number;
  file = job.out.file;
  level = job.level;
  pin = job.pin.number;
  files = info_files job.pin.blocks;
}

abbrev pub look_of : Look → Hold
look_of look = OpenLook (look_parts look)

abbrev pub flush_of : FlushJob → Hold
flush_of job = OpenFlush (flush_parts job)

abbrev pub compact_of : CompactJob → Hold
compact_of job = OpenCompact (compact_parts job)

-- the file is that of an open job
pub data IsJobOf (out : JobFile) (holds : Hold → Type 0) : Type 0 where
  OfFlush : (job : FlushParts) → job.number ≡ out.number → job.file ≡ out.file → holds (OpenFlush job) → IsJobOf out holds
  OfCompact : (job : CompactParts) → job.number ≡ out.number → job.file ≡ out.file → holds (OpenCompact job)
      → IsJobOf out holds

-- the pin is that of an open look or compaction, and it names the block
pub data IsPinOf (pin : Pin) (block : ℕ) (holds : Hold → Type 0) : Type 0 where
  OfLook : (look : LookParts) → look.pin ≡ pin.number → look.files ≡ info_files pin.blocks → holds (OpenLook look)
      → is_among block (info_files pin.blocks) ≡ true → IsPinOf pin block holds
  OfJob : (job : CompactParts) → job.pin ≡ pin.number → job.files ≡ info_files pin.blocks → holds (OpenCompact job)
      → is_among block (info_files pin.blocks) ≡ true → IsPinOf pin block holds
