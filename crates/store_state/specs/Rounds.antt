-- Why a round is refused.
use Rattle.store_state.specs.declared.errors.BeginError.{BeginError}
use Rattle.store_state.specs.declared.errors.BeginError.TheVariants as begin
use Rattle.store_state.specs.declared.errors.WriteError.{WriteError}
use Rattle.store_state.specs.declared.errors.WriteError.TheVariants as write
use Rattle.store_state.specs.declared.rounds.Refusal.{Refusal}
use Rattle.store_state.specs.declared.rounds.Refusal.TheVariants.{ReadOnly, Busy, FilesSpent, Fault, Memory}

-- its begin was refused for this
abbrev pub begin_cause : BeginError → Refusal
begin_cause (begin.ReadOnly faults) = ReadOnly faults
begin_cause (begin.Busy job) = Busy job
begin_cause (begin.FilesSpent next) = FilesSpent next
begin_cause begin.Fault = Fault
begin_cause begin.Memory = Memory

-- a write or the commit was refused for this
abbrev pub write_cause : WriteError → Refusal
write_cause (write.ReadOnly faults) = ReadOnly faults
write_cause write.Fault = Fault
