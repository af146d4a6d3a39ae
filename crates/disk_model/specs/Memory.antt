-- What contracts see of a disk in memory, and what each of its calls makes of that.
use Rattle.std.specs.Prelude.{◌≡◌, ◌≢◌, ℕ, ◌^◌, ◌<◌, Some, None, List, [], Result, IsOk, IsErr}
use Rattle.disk_model.specs.Images.{Image}
use Rattle.disk_model.specs.History.{Past, added}
use Rattle.disk_model.specs.Script.{raised, fate_of, counted}
use Rattle.disk_model.specs.declared.change.Change.{Change}
use Rattle.disk_model.specs.declared.memory.MemDisk.{MemDisk}
use Rattle.disk_model.specs.declared.script.Fate.{Fate}
use Rattle.disk_model.specs.declared.script.Fate.TheVariants.{Passes, Listed, Stopped}

-- what its files held at first, and each change since
abbrev pub past_of : MemDisk → Past
past_of disk = disk.history

-- what becomes of its next call
abbrev pub next_fate : MemDisk → Fate
next_fate disk = fate_of disk.script

-- how many calls have failed, and how many of those because memory ran out
abbrev pub faults_of : MemDisk → ℕ
faults_of disk = disk.faults

abbrev pub starved_of : MemDisk → ℕ
starved_of disk = disk.starved

-- how many calls of the device were made, and how many of `read`
abbrev pub calls_of : MemDisk → ℕ
calls_of disk = disk.calls

abbrev pub reads_of : MemDisk → ℕ
reads_of disk = disk.reads

-- how many writes were asked for whose end is 2^63 or more
abbrev pub far_writes_of : MemDisk → ℕ
far_writes_of disk = disk.far_writes

-- its counts have 64 bits
pub record CountsFit (disk : MemDisk) : Type 0 where
  pub faults : disk.faults < 2 ^ 64
  pub reads : disk.reads < 2 ^ 64
  pub calls : disk.calls < 2 ^ 64
  pub far_writes : disk.far_writes < 2 ^ 64

-- a disk that holds the files of an image, all of it synced, and none of whose calls is to fail
abbrev pub fresh : Image → MemDisk
fresh image = record {
  history = record { first = image; changes = [] };
  script = record { listed = []; made = 0; left = None };
  faults = 0;
  starved = 0;
  reads = 0;
  calls = 0;
  far_writes = 0;
}

-- the disk after a call that passed
abbrev pub passed : MemDisk → MemDisk
passed disk = record disk { script = counted disk.script; calls = raised disk.calls }

-- the disk after a call that failed
abbrev pub failed : MemDisk → MemDisk
failed disk = record (passed disk) { faults = raised disk.faults }

-- the disk after a call that failed because memory ran out
abbrev pub starving : MemDisk → MemDisk
starving disk = record (failed disk) { starved = raised disk.starved }

-- the disk after a write that ends at 2^63 or more
abbrev pub refused : MemDisk → MemDisk
refused disk = record (failed disk) { far_writes = raised disk.far_writes }

-- with one call of `read` more
abbrev pub read_once : MemDisk → MemDisk
read_once disk = record disk { reads = raised disk.reads }

-- with one change more
abbrev pub noted : Change → MemDisk → MemDisk
noted change disk = record disk { history = added disk.history change }

-- with other calls that are to fail, counted from now on
abbrev pub listing : List ℕ → MemDisk → MemDisk
listing calls disk = record disk { script = record disk.script { listed = calls; made = 0 } }

-- with that many calls left before all fail
abbrev pub stopping : ℕ → MemDisk → MemDisk
stopping calls disk = record disk { script = record disk.script { left = Some calls } }

-- What a call comes to that changes no file: it fails just where it is listed or stopped. `counted` is what it counts
-- beside that.
pub data Answer {T E : Type 0} (old : MemDisk) (counted : MemDisk → MemDisk) (result : Result T E) (new : MemDisk) : Type 0 where
  given : next_fate old ≡ Passes → IsOk result → new ≡ counted (passed old) → Answer old counted result new
  failing : next_fate old ≢ Passes → IsErr result → new ≡ counted (failed old) → Answer old counted result new

-- What a write, a cut or a sync comes to. `done` is what it makes of the disk, and `lost` what it leaves pending where
-- it is listed.
pub data Outcome {T E : Type 0} (old : MemDisk) (done lost : MemDisk → MemDisk) (result : Result T E) (new : MemDisk) : Type 0 where
  passes : next_fate old ≡ Passes → IsOk result → new ≡ done (passed old) → Outcome old done lost result new
  listed : next_fate old ≡ Listed → IsErr result → new ≡ lost (failed old) → Outcome old done lost result new
  stopped : next_fate old ≡ Stopped → IsErr result → new ≡ failed old → Outcome old done lost result new
  starves : next_fate old ≢ Stopped → IsErr result → new ≡ starving old → Outcome old done lost result new
