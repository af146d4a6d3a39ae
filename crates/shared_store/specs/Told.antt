-- Calls and their replies, as those of the store's model.
use Rattle.store_model.specs.Event.{Event as event, Reply as reply}
use Rattle.store_state.specs.Replies.{push_reply, look_reply, count_reply, begin_flush_reply, write_reply, page_reply, begin_compact_reply, reclaim_reply}
use Rattle.shared_store.specs.declared.asked.Asked.{Asked}
use Rattle.shared_store.specs.declared.asked.Asked.TheVariants.{Push, Held, Look, Done, Cut, CutAll, BeginFlush, WritePiece, CommitFlush, DropFlush, ReadPage, BeginCompact, CommitCompact, DropCompact, Reclaim}
use Rattle.shared_store.specs.declared.asked.Told.{Told}
use Rattle.shared_store.specs.declared.asked.Told.TheVariants as told

abbrev pub event_of : Asked → event
event_of (Push batch moment) = event.Push batch.value.spans moment
event_of Held = event.Held
event_of Look = event.Look
event_of (Done pin) = event.Done pin
event_of (Cut moment) = event.Cut moment
event_of CutAll = event.CutAll
event_of BeginFlush = event.BeginFlush
event_of (WritePiece job file bytes) = event.WritePiece job file bytes.now
event_of (CommitFlush job rows) = event.CommitFlush job rows
event_of (DropFlush job) = event.DropFlush job
event_of (ReadPage pin block page) = event.ReadPage pin block page
event_of BeginCompact = event.BeginCompact
event_of (CommitCompact job rows) = event.CommitCompact job rows
event_of (DropCompact job) = event.DropCompact job
event_of Reclaim = event.Reclaim

abbrev pub reply_of : Told → reply
reply_of (told.Pushed answer) = push_reply answer.now
reply_of (told.Held rows) = reply.Count rows
reply_of (told.Looked answer) = look_reply answer.now
reply_of told.Done = reply.Fine
reply_of (told.Moved answer) = count_reply answer.now
reply_of (told.Flushing answer) = begin_flush_reply answer.now
reply_of (told.Written answer) = write_reply answer.now
reply_of (told.Page bytes answer) = page_reply bytes.now answer.now
reply_of (told.Compacting answer) = begin_compact_reply answer.now
reply_of (told.Emptied answer) = reclaim_reply answer.now
