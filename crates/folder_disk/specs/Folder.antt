-- What a disk in a folder counts, and what the system's clock keeps.
use Rattle.std.specs.Prelude.{ℕ, false, Result}
use Rattle.disk_model.specs.Counts.{Kind, IsOneCall}
use Rattle.folder_disk.specs.declared.disk.FolderDisk.{FolderDisk}
use Rattle.folder_disk.specs.declared.folder.Folder.{Folder}
use Rattle.folder_disk.specs.declared.system_clock.SystemClock.{SystemClock}

-- how many calls of the device were made, how many of them failed, how many were of `read`, and how many writes were asked
-- for whose end is 2^63 or more
abbrev pub calls_of : {R F : Type 0} → FolderDisk R F → ℕ
calls_of disk = disk.calls

abbrev pub faults_of : {R F : Type 0} → FolderDisk R F → ℕ
faults_of disk = disk.faults

abbrev pub reads_of : {R F : Type 0} → FolderDisk R F → ℕ
reads_of disk = disk.reads

abbrev pub far_writes_of : {R F : Type 0} → FolderDisk R F → ℕ
far_writes_of disk = disk.far_writes

-- what it has beside its counts
abbrev pub folder_of : {R F : Type 0} → FolderDisk R F → Folder R F
folder_of disk = disk.folder

-- one call of such a disk, which tells no bytes, was counted
abbrev pub CountsOne : {R F T E : Type 0} → Kind → FolderDisk R F → FolderDisk R F → Result T E → Type 0
CountsOne kind old new result = IsOneCall (λ disk. false) faults_of calls_of reads_of far_writes_of kind old new result

-- the moment that a clock gave last, and 0 before
abbrev pub last_moment : {R : Type 0} → SystemClock R → ℕ
last_moment clock = clock.last
