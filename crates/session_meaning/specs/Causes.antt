-- Why a push, a round, the emptying of loose files or a query is refused.
use Rattle.std.specs.Prelude.{Bool, true, false, ◌≡◌, ◌⊎◌, ⊤, ℕ, ◌+◌, ◌<◌, ◌≤◌, List, [], ◌∷◌, Some, Ok, Err, if◌then◌else◌, length}
use Rattle.span_types.specs.Faults.{Rose}
use Rattle.session_text.specs.declared.refusal.Refusal.{Refusal}
use Rattle.session_text.specs.declared.refusal.Refusal.TheVariants.{DiskFault, LiveFull, Memory, ReadOnly, Round, StoreFull}
use Rattle.session_text.specs.declared.reply.Reply.{Reply}
use Rattle.session_text.specs.declared.reply.Reply.TheVariants.{Refused}
use Rattle.session_text.specs.Items.{Item}
use Rattle.store_model.specs.Choice.{choice}
use Rattle.store_model.specs.History.{count_of}
use Rattle.store_model.specs.State.{block_files, held_of, is_among}
use Rattle.store_state.specs.declared.rounds.Refusal.{Refusal as Cause}
use Rattle.store_state.specs.declared.rounds.Refusal.TheVariants as cause
use Rattle.session_meaning.specs.Act.{Act}
use Rattle.session_meaning.specs.Act.Act.{Ask}
use Rattle.session_meaning.specs.At.{At, history_of}
use Rattle.session_meaning.specs.Rounds.{HasDropped}

-- The refusal is the text `disk-fault`: a call of the disk failed.
abbrev pub is_disk_fault : Refusal → Bool
is_disk_fault DiskFault = true
is_disk_fault (Round cause.Fault) = true
is_disk_fault _ = false

-- whether a reply is that, as a number
abbrev pub faults_in : Reply → ℕ
faults_in (Refused why) = if is_disk_fault why then 1 else 0
faults_in _ = 0

-- how many of these are
abbrev pub disk_faults : List Reply → ℕ
disk_faults [] = 0
disk_faults (reply ∷ replies) = faults_in reply + disk_faults replies

-- whether a line is refused so in reading
abbrev pub blames_disk : Item → Bool
blames_disk (Ok request) = false
blames_disk (Err why) = is_disk_fault why

abbrev pub act_blames_disk : Act → Bool
act_blames_disk (Ask item) = blames_disk item
act_blames_disk _ = false

-- A call that writes is refused for this only where that holds: a write failed before, and the disk's count of faults after it is
-- told; a call of the disk failed now, so that the store writes no more; or, for memory, at any time. So is the emptying of loose
-- files.
abbrev pub HasWriteCause : Refusal → At → At → Type 0
HasWriteCause (ReadOnly faults) before after = before.machine.read_only ≡ Some faults
HasWriteCause DiskFault before after = Rose before.faults after.faults × (after.machine.read_only ≡ Some after.faults)
HasWriteCause Memory before after = ⊤
HasWriteCause _ before after = ⊥

-- A push of so many spans is refused besides only where with it more rows would be held than may be, or the history is full.
abbrev pub HasPushCause : Refusal → ℕ → At → At → Type 0
HasPushCause (LiveFull held) spans before after = (held ≡ held_of before.machine.state) × (262144 < held + spans)
HasPushCause (StoreFull pushes) spans before after = (pushes ≡ count_of (history_of before)) × (4294967295 ≤ pushes)
HasPushCause why spans before after = HasWriteCause why before after

-- A round that has so much to do is refused for this where no call of the disk failed, only where that holds: a write failed before,
-- and the disk's count of faults after it is told; there is something to do, and too few file numbers are left for a job, the next one
-- of which is told; or, for memory, at any time.
abbrev pub HasRoundCause : ℕ → Cause → At → Type 0
HasRoundCause work (cause.ReadOnly faults) before = before.machine.read_only ≡ Some faults
HasRoundCause work (cause.FilesSpent next) before = (1 ≤ work) × (next ≡ before.machine.state.next_file) × (4294967294 ≤ next)
HasRoundCause work cause.Memory before = ⊤
HasRoundCause work _ before = ⊥

-- A call that writes failed, and from then on the store writes no more: it tells the disk's count of faults just after that call.
abbrev pub StoppedWriting : At → At → Type 0
StoppedWriting before after = (n : ℕ) × Rose before.faults n × (n ≤ after.faults) × (after.machine.read_only ≡ Some n)

-- A flush is refused for this only where that holds: a call of the disk failed in it, so that the store writes no more; or it is the
-- cause of a round that has the rows to flush which wait in the head.
abbrev pub HasFlushCause : Cause → At → At → Type 0
HasFlushCause cause.Fault before after = StoppedWriting before after
HasFlushCause why before after = HasRoundCause (length before.machine.state.head) why before

-- A compaction is refused for this only where that holds: a call of the disk failed in it, and if that was a page read, then its job was
-- dropped and the store writes still, else the store writes no more; a listed block is found to be none, and what the blocks hold isn't
-- told; or it is the cause of a round that has the blocks to join which fit together. `told` says that it is told.
abbrev pub HasCompactCause : Bool → Cause → At → At → Type 0
HasCompactCause told cause.Fault before after =
    Rose before.faults after.faults × (HasDropped before.machine after.machine ⊎ StoppedWriting before after)
HasCompactCause told (cause.NotBlock file at) before after =
    (told ≡ false) × (is_among file (block_files before.machine.state.blocks) ≡ true)
HasCompactCause told why before after = HasRoundCause (length (choice before.machine.state.blocks)) why before

-- A query is refused for this only where that holds: a call of the disk failed in it; a listed block is found to be none, and what
-- the blocks hold isn't told; or, for memory, at any time. `told` says that it is told.
abbrev pub HasQueryCause : Bool → Refusal → At → At → Type 0
HasQueryCause told DiskFault before after = Rose before.faults after.faults
HasQueryCause told (Round (cause.NotBlock file at)) before after =
    (told ≡ false) × (is_among file (block_files before.machine.state.blocks) ≡ true)
HasQueryCause told Memory before after = ⊤
HasQueryCause told _ before after = ⊥
