-- What calls answer, as replies of the machine.
use Rattle.std.specs.Prelude.{ℕ, List, Result, Ok, Err, Option, Some, None}
use Rattle.span_types.specs.declared.errors.Memory.{Memory}
use Rattle.span_types.specs.declared.errors.Failed.{Failed}
use Rattle.store_model.specs.Event.{Reply, Refusal}
use Rattle.store_model.specs.Event.Reply.{Count, Fine, Nothing, Flushing, Compacting, Looked, Page, Refused}
use Rattle.store_model.specs.Event.Refusal.{ReadOnly as IsReadOnly, StoreFull as IsStoreFull, LiveFull as IsLiveFull, Busy as IsBusy, FilesSpent as IsFilesSpent, Fault as IsFault, Memory as IsMemory}
use Rattle.store_state.specs.declared.errors.PushError.{PushError}
use Rattle.store_state.specs.declared.errors.PushError.TheVariants.{LiveFull as PushLiveFull, StoreFull as PushStoreFull, ReadOnly as PushReadOnly, Fault as PushFault, Memory as PushMemory}
use Rattle.store_state.specs.declared.errors.BeginError.{BeginError}
use Rattle.store_state.specs.declared.errors.BeginError.TheVariants.{ReadOnly as BeginReadOnly, Busy as BeginBusy, FilesSpent as BeginFilesSpent, Fault as BeginFault, Memory as BeginMemory}
use Rattle.store_state.specs.declared.errors.WriteError.{WriteError}
use Rattle.store_state.specs.declared.errors.WriteError.TheVariants.{ReadOnly as WriteReadOnly, Fault as WriteFault}
use Rattle.store_state.specs.declared.errors.ReclaimError.{ReclaimError}
use Rattle.store_state.specs.declared.errors.ReclaimError.TheVariants.{ReadOnly as ReclaimReadOnly, Fault as ReclaimFault, Memory as ReclaimMemory}
use Rattle.store_state.specs.declared.jobs.Look.{Look}
use Rattle.store_state.specs.declared.jobs.FlushJob.{FlushJob}
use Rattle.store_state.specs.declared.jobs.CompactJob.{CompactJob}
use Rattle.store_state.specs.Given.{look_parts, flush_parts, compact_parts}

abbrev pub push_refusal : PushError → Refusal
push_refusal (PushLiveFull held) = IsLiveFull held
push_refusal (PushStoreFull pushes) = IsStoreFull pushes
push_refusal (PushReadOnly faults) = IsReadOnly faults
push_refusal PushFault = IsFault
push_refusal PushMemory = IsMemory

abbrev pub begin_refusal : BeginError → Refusal
begin_refusal (BeginReadOnly faults) = IsReadOnly faults
begin_refusal (BeginBusy job) = IsBusy job
begin_refusal (BeginFilesSpent next) = IsFilesSpent next
begin_refusal BeginFault = IsFault
begin_refusal BeginMemory = IsMemory

abbrev pub write_refusal : WriteError → Refusal
write_refusal (WriteReadOnly faults) = IsReadOnly faults
write_refusal WriteFault = IsFault

abbrev pub reclaim_refusal : ReclaimError → Refusal
reclaim_refusal (ReclaimReadOnly faults) = IsReadOnly faults
reclaim_refusal ReclaimFault = IsFault
reclaim_refusal ReclaimMemory = IsMemory

abbrev pub push_reply : Result ℕ PushError → Reply
push_reply (Ok n) = Count n
push_reply (Err e) = Refused (push_refusal e)

abbrev pub count_reply : Result ℕ Memory → Reply
count_reply (Ok n) = Count n
count_reply (Err e) = Refused IsMemory

abbrev pub begin_flush_reply : Result (Option FlushJob) BeginError → Reply
begin_flush_reply (Ok None) = Nothing
begin_flush_reply (Ok (Some job)) = Flushing (flush_parts job)
begin_flush_reply (Err e) = Refused (begin_refusal e)

abbrev pub begin_compact_reply : Result (Option CompactJob) BeginError → Reply
begin_compact_reply (Ok None) = Nothing
begin_compact_reply (Ok (Some job)) = Compacting (compact_parts job)
begin_compact_reply (Err e) = Refused (begin_refusal e)

abbrev pub write_reply : {U : Type 0} → Result U WriteError → Reply
write_reply (Ok u) = Fine
write_reply (Err e) = Refused (write_refusal e)

abbrev pub look_reply : Result Look Memory → Reply
look_reply (Ok look) = Looked (look_parts look)
look_reply (Err e) = Refused IsMemory

abbrev pub page_reply : {U : Type 0} → List ℕ → Result U Failed → Reply
page_reply bytes (Ok u) = Page bytes
page_reply bytes (Err e) = Refused IsFault

abbrev pub reclaim_reply : Result ℕ ReclaimError → Reply
reclaim_reply (Ok n) = Count n
reclaim_reply (Err e) = Refused (reclaim_refusal e)
