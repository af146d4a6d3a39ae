-- The headline, by histories alone: what each reply tells, how the history grows, and what the disk keeps of it. No machine,
-- no memory and no block is named here. A history is what was stored at first and the pushes that were accepted since, in order.
-- What is kept besides says which pushes aren't sure, since the disk failed, and whether the store is open.
use Rattle.std.specs.Prelude.{◌≡◌, ◌⊎◌, ⊤, ◌≤◌, true, false, List, [], ◌∷◌, length, Ok, Err}
use Rattle.disk_model.specs.Crash.{Reached}
use Rattle.disk_model.specs.Images.{Image}
use Rattle.disk_model.specs.declared.disk.Device.{Ghosts}
use Rattle.client_run.specs.Answers.{asked_of, counted_of}
use Rattle.search_text.specs.Fields.{printed_fields}
use Rattle.session_text.specs.declared.refusal.Refusal.TheVariants.{Closed}
use Rattle.session_text.specs.declared.reply.Reply.{Reply}
use Rattle.session_text.specs.declared.reply.Reply.TheVariants.{Measured, Pushed, Refused, Reopened, Searched, Traced}
use Rattle.session_text.specs.declared.request.Metrics.{Metrics}
use Rattle.session_text.specs.declared.request.Request.TheVariants as request
use Rattle.session_text.specs.Items.{Item}
use Rattle.spanset_eval.specs.declared.results.TraceResult.{TraceResult}
use Rattle.spanset_eval.specs.declared.series.Series.{Series}
use Rattle.store_reopen.specs.Through.{StoodAmid}
use Rattle.store_images.specs.Stored.{KeepsStored, MayStandFor}
use Rattle.store_model.specs.History.{History, count_of, up_to}
use Rattle.traceql_metrics.specs.Series.{AreSeries}
use Rattle.traceql_syntax.specs.Trees.{query_tree}
use Rattle.session_meaning.specs.Act.{Act}
use Rattle.session_meaning.specs.Act.Act.{Ask, Reopen, Unread}
use Rattle.session_meaning.specs.Kept.{Kept, begun_with, found_again, kept_after, kept_after_all, were_unsure}
use Rattle.session_meaning.specs.Session.{IsFound, IsTraceIn}

-- ---- a line and its reply

-- The series of a metrics query at a history: those of what a search without limits finds in it.
abbrev pub AreSeriesIn : Metrics → History → List Series → Type 0
AreSeriesIn m h series =
    (results : List TraceResult) × IsFound (counted_of m) h results × AreSeries results m.start m.end m.step m.rate series

-- The reply is none of those that tell of pushes.
abbrev pub TellsOfNoPush : Reply → Type 0
TellsOfNoPush (Pushed number accepted rejected skipped) = ⊥
TellsOfNoPush (Traced as_of rows) = ⊥
TellsOfNoPush (Searched as_of fields results) = ⊥
TellsOfNoPush (Measured as_of series) = ⊥
TellsOfNoPush (Reopened entries) = ⊥
TellsOfNoPush _ = ⊤

-- What a line may be told at a history. An accepted push is told how many pushes came before it, and how much of it was kept.
-- A look-up, a search and a metrics query are told how many pushes there were, and what is found in all of them, by the first
-- occurrence of each span. Any line may be refused, and one that asks nothing is. A line that keeps the store up is told
-- nothing of pushes.
abbrev pub Tells : History → Item → Reply → Type 0
Tells h (Err why) reply = reply ≡ Refused why
Tells h item (Refused why) = ⊤
Tells h (Ok (request.Push reading moment)) (Pushed number accepted rejected skipped) =
    (number ≡ count_of h) × (accepted ≡ length reading.batch.spans) × (rejected ≡ reading.rejected)
    × (skipped ≡ reading.skipped)
Tells h (Ok (request.Trace id)) (Traced as_of rows) = (as_of ≡ count_of h) × IsTraceIn id h rows
Tells h (Ok (request.Search s)) (Searched as_of fields results) =
    (as_of ≡ count_of h) × (fields ≡ printed_fields (query_tree s.checked.query)) × IsFound (asked_of s) h results
Tells h (Ok (request.Metrics m)) (Measured as_of series) = (as_of ≡ count_of h) × AreSeriesIn m h series
Tells h (Ok (request.Push reading moment)) reply = ⊥
Tells h (Ok (request.Trace id)) reply = ⊥
Tells h (Ok (request.Search s)) reply = ⊥
Tells h (Ok (request.Metrics m)) reply = ⊥
Tells h (Ok upkeep) reply = TellsOfNoPush reply

-- What a line may be told at what is kept. A reopening tells how many entries the history then has: as many as before, or one more
-- where an entry wasn't sure. A line is unread, and told so, just in a closed store.
abbrev pub TellsOf : Kept → Act → Reply → Type 0
TellsOf k (Ask item) reply = (k.is_open ≡ true) × Tells k.history item reply
TellsOf k (Reopen moment) (Reopened entries) = entries ≡ count_of (found_again k.unsure entries k.history)
TellsOf k (Reopen moment) (Refused why) = ⊤
TellsOf k (Reopen moment) reply = ⊥
TellsOf k Unread reply = (k.is_open ≡ false) × (reply ≡ Refused Closed)

-- ---- lines and their replies, in order

-- Each line has one reply, which tells what is kept at that line, and after the last line that is kept.
abbrev pub TellTheHistory : Kept → List Act → List Reply → Kept → Type 0
TellTheHistory k [] replies last = (replies ≡ []) × (last ≡ k)
TellTheHistory k (act ∷ acts) [] last = ⊥
TellTheHistory k (act ∷ acts) (reply ∷ replies) last =
    TellsOf k act reply × TellTheHistory (kept_after k act reply) acts replies last

-- The reply to a line tells one front of the last history: what there was at first, then each push that was accepted in the
-- lines before it, or that an opening among them found, in order, and nothing else.
pub record TellsFront (first last : Kept) (before : List Act) (told : List Reply) (act : Act) (reply : Reply) : Type 0 where
  pub within : count_of (kept_after_all first before told).history ≤ count_of last.history
  pub front : up_to (count_of (kept_after_all first before told).history) last.history ≡ (kept_after_all first before told).history
  pub tells : TellsOf (kept_after_all first before told) act reply

-- ---- the disk

-- Lines were answered over a disk, from the disk as it was to the one that was handed back. Replies and disk tell one history,
-- as it grows from the first to the last.
pub record KeepsTheHistory {D : Type 0} (g : Ghosts D) (disk later : D) (acts : List Act) (replies : List Reply)
    (first : History) (last : Kept) : Type 0 where
  pub told : TellTheHistory (begun_with first) acts replies last
  -- whatever a crash may leave now stands for the last history, or for it and then the first push that was answered
  -- `disk-fault` since the last opening that went well
  pub stored : (image : Image) → g.may_leave later image → MayStandFor last.history last.unsure image
  -- whatever a crash may have left at any moment in between keeps what one could leave at first; or it stands for the
  -- history at some length from the first one on; or at that of a push that was answered `disk-fault`, and for that push too
  pub any_moment : (image : Image) → g.left_since later (g.moment disk) image
      → Reached KeepsStored (g.may_leave disk) image ⊎ StoodAmid (count_of first) last.history (were_unsure last) image
