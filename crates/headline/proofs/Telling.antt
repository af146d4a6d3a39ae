-- The replies of a session tell its history.
use Rattle.std.proofs.Common.{Bool, true, ◌≡◌, inl, inr, ℕ, List, [], ◌∷◌, Result, Ok, Err, append-nil, ap, length, refl, sym, ◌∙◌, subst}
use Rattle.otlp_spans.specs.declared.read.Reading.{Reading}
use Rattle.span_types.specs.declared.errors.Memory.{Memory}
use Rattle.session_text.specs.declared.reply.Reply.{Reply}
use Rattle.session_text.specs.declared.reply.Reply.TheVariants.{Cut, CutAll, Refused, Reopened}
use Rattle.session_text.specs.declared.request.Request.TheVariants as request
use Rattle.session_text.specs.Items.{Item}
use Rattle.store_model.specs.Event.{Event as event}
use Rattle.store_model.specs.History.{History, count_of, grown}
use Rattle.store_state.specs.Replies.{push_reply}
use Rattle.store_state.specs.declared.errors.PushError.{PushError}
use Rattle.store_state.specs.declared.errors.ReclaimError.{ReclaimError}
use Rattle.store_state.specs.declared.rounds.Round.{Round}
use Rattle.store_state.specs.declared.rounds.Round.TheVariants.{Did, Nothing, Refused as NotDone}
use Rattle.client_run.specs.Answers.{asked_of, compact_reply, counted_of, cut_reply, flush_reply, pushed_reply, reclaimed_reply}
use Rattle.session_meaning.specs.Act.{Act}
use Rattle.session_meaning.specs.Act.Act.{Ask, Reopen, Unread}
use Rattle.session_meaning.specs.At.{At, IsStep, history_of}
use Rattle.session_meaning.specs.Done.{AreDone, IsDone}
use Rattle.session_meaning.specs.Kept.{Kept, kept_at}
use Rattle.session_meaning.specs.Place.{Place, history_at}
use Rattle.session_meaning.specs.Pushes.{accepted_entry}
use Rattle.session_meaning.specs.Session.{IsAnsweredOrRefused}
use Rattle.session_meaning.proofs.Acts.{found_is, one_kept}
use Rattle.session_meaning.proofs.Seen.{found_in, trace_in}
use Rattle.session_meaning.proofs.Told.{push_numbers, session_grows}
use Rattle.headline.specs.Headline.{Tells, TellTheHistory, TellsOf}

-- ---- one line

push_tells : (reading : Reading) (moment : ℕ) (before after : At) (answer : Result ℕ PushError) → IsStep before (event.Push reading.batch.spans moment) (push_reply answer) after
    → Tells (history_of before) (Ok (request.Push reading moment)) (pushed_reply reading answer)
push_tells reading moment before after (Ok number) step =
    let told = push_numbers true (Ok (request.Push reading moment)) before after number (length reading.batch.spans) reading.rejected reading.skipped (inl (Ok number, refl, step)) in
    (told.0, refl, refl, refl)
push_tells reading moment before after (Err why) step = tt

cut_tells : (h : History) (moment : ℕ) (answer : Result ℕ Memory) → Tells h (Ok (request.Cut moment)) (cut_reply Cut answer)
cut_tells h moment (Ok moved) = tt
cut_tells h moment (Err memory) = tt

cut_all_tells : (h : History) (answer : Result ℕ Memory) → Tells h (Ok request.CutAll) (cut_reply CutAll answer)
cut_all_tells h (Ok moved) = tt
cut_all_tells h (Err memory) = tt

flush_tells : (h : History) (round : Round) → Tells h (Ok request.Flush) (flush_reply round)
flush_tells h (Did blocks rows) = tt
flush_tells h Nothing = tt
flush_tells h (NotDone why) = tt

compact_tells : (h : History) (round : Round) → Tells h (Ok request.Compact) (compact_reply round)
compact_tells h (Did blocks rows) = tt
compact_tells h Nothing = tt
compact_tells h (NotDone why) = tt

reclaim_tells : (h : History) (answer : Result ℕ ReclaimError) → Tells h (Ok request.Reclaim) (reclaimed_reply answer)
reclaim_tells h (Ok files) = tt
reclaim_tells h (Err why) = tt

item_tells : (item : Item) (before after : At) (r : Reply) → IsAnsweredOrRefused true item before r after → Tells (history_of before) item r
item_tells (Ok (request.Push reading moment)) before after r (inl (answer, is, step)) =
    subst (Tells (history_of before) (Ok (request.Push reading moment))) (sym is) (push_tells reading moment before after answer step)
item_tells (Ok (request.Push reading moment)) before after r (inr bad) = absurd bad
item_tells (Ok (request.Trace id)) before after r (inl (rows, found, is, still)) =
    subst (Tells (history_of before) (Ok (request.Trace id))) (sym is) (refl, trace_in true id before rows (inl refl) found)
item_tells (Ok (request.Trace id)) before after r (inr (why, is, cause, still)) = subst (Tells (history_of before) (Ok (request.Trace id))) (sym is) tt
item_tells (Ok (request.Search s)) before after r (inl (results, found, is, still)) =
    subst (Tells (history_of before) (Ok (request.Search s))) (sym is) (refl, refl, found_in true (asked_of s) before results (inl refl) found)
item_tells (Ok (request.Search s)) before after r (inr (why, is, cause, still)) = subst (Tells (history_of before) (Ok (request.Search s))) (sym is) tt
item_tells (Ok (request.Metrics m)) before after r (inl (results, series, found, are, is, still)) =
    subst (Tells (history_of before) (Ok (request.Metrics m))) (sym is) (refl, (results, found_in true (counted_of m) before results (inl refl) found, are))
item_tells (Ok (request.Metrics m)) before after r (inr (why, is, cause, still)) = subst (Tells (history_of before) (Ok (request.Metrics m))) (sym is) tt
item_tells (Ok (request.Cut moment)) before after r (inl (answer, is, step)) =
    subst (Tells (history_of before) (Ok (request.Cut moment))) (sym is) (cut_tells (history_of before) moment answer)
item_tells (Ok (request.Cut moment)) before after r (inr bad) = absurd bad
item_tells (Ok request.CutAll) before after r (inl (answer, is, step)) =
    subst (Tells (history_of before) (Ok request.CutAll)) (sym is) (cut_all_tells (history_of before) answer)
item_tells (Ok request.CutAll) before after r (inr bad) = absurd bad
item_tells (Ok request.Flush) before after r (inl (round, is, flushed)) = subst (Tells (history_of before) (Ok request.Flush)) (sym is) (flush_tells (history_of before) round)
item_tells (Ok request.Flush) before after r (inr bad) = absurd bad
item_tells (Ok request.Compact) before after r (inl (round, is, compacted)) =
    subst (Tells (history_of before) (Ok request.Compact)) (sym is) (compact_tells (history_of before) round)
item_tells (Ok request.Compact) before after r (inr bad) = absurd bad
item_tells (Ok request.Reclaim) before after r (inl (answer, is, step)) =
    subst (Tells (history_of before) (Ok request.Reclaim)) (sym is) (reclaim_tells (history_of before) answer)
item_tells (Ok request.Reclaim) before after r (inr bad) = absurd bad
item_tells (Err why) before after r (inl (is, same)) = is
item_tells (Err why) before after r (inr bad) = absurd bad

-- A line leaves the history with what it added.
pub item_grows : (told : Bool) (item : Item) (before after : At) (r : Reply) → IsAnsweredOrRefused told item before r after
    → history_of after ≡ grown (history_of before) (accepted_entry item r)
item_grows told item before after r is =
    session_grows told (item ∷ []) (r ∷ []) before after (after, is, (refl, refl)) ∙ ap (grown (history_of before)) (append-nil (accepted_entry item r))

-- ---- lines, one after another

act_tells : (act : Act) (before after : Place) (r : Reply) → IsDone true act before r after → TellsOf (kept_at before) act r
act_tells (Ask item) before after r h = (h.0, item_tells item before.store after.store r h.1)
act_tells (Reopen moment) before after (Reopened entries) h =
    h.0.count ∙ ap count_of (found_is before.unsure entries (history_at before) (history_of after.store) (h.0.found refl).history h.0.count)
act_tells (Reopen moment) before after (Refused why) h = tt
act_tells (Reopen moment) before after _ h = absurd h
act_tells Unread before after r h = (h.0, h.1)

pub acts_tell_all : (acts : List Act) (replies : List Reply) (first last : Place) → AreDone true first acts replies last → TellTheHistory (kept_at first) acts replies (kept_at last)
acts_tell_all [] replies first last h = (h.0, ap kept_at h.1)
acts_tell_all (a ∷ more) [] first last h = absurd h
acts_tell_all (a ∷ more) (r ∷ rs) first last h =
    (act_tells a first h.0 r h.1, subst (λ (x : Kept). TellTheHistory x more rs (kept_at last)) (one_kept a first h.0 r h.1) (acts_tell_all more rs h.0 last h.2))
