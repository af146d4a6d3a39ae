-- What requests make of a port.
use Rattle.std.proofs.Common.{◌≡◌, inl, inr, ℕ, List, [], ◌∷◌, Result, Ok, Err, refl, sym, subst}
use Rattle.std.specs.Prelude.{IsTrue}
use Rattle.compactor.specs.Rounds.{FoundBlocks, IsCompactRound}
use Rattle.flusher.specs.Rounds.{IsFlushRound}
use Rattle.flusher.specs.Rounds.{Stage as flush_stage}
use Rattle.span_types.specs.declared.errors.Memory.{Memory}
use Rattle.otlp_spans.specs.declared.read.Reading.{Reading}
use Rattle.span_types.specs.declared.ids.TraceId.{TraceId}
use Rattle.query_fanout.proofs.Later.{knows_later, made_grows}
use Rattle.query_fanout.specs.Queries.{HasAsked, KnowsLater, Sound}
use Rattle.query_fanout.specs.SearchAnswers.{IsSearchAnswer}
use Rattle.query_fanout.specs.TraceAnswers.{IsTraceAnswer}
use Rattle.query_fanout.specs.declared.error.QueryError.{QueryError}
use Rattle.query_fanout.specs.declared.error.QueryError.TheVariants as unanswered
use Rattle.query_fanout.specs.declared.searching.Asked.{Asked}
use Rattle.query_fanout.specs.declared.searching.SearchAnswer.{SearchAnswer}
use Rattle.query_fanout.specs.declared.trace.TraceAnswer.{TraceAnswer}
use Rattle.session_text.specs.declared.reply.Reply.{Reply}
use Rattle.session_text.specs.declared.reply.Reply.TheVariants.{Compacted, Cut, CutAll, Flushed, NothingCompacted, NothingFlushed, Refused}
use Rattle.session_text.specs.declared.request.Request.TheVariants as request
use Rattle.session_text.specs.declared.request.Metrics.{Metrics}
use Rattle.session_text.specs.declared.request.Search.{Search}
use Rattle.store_model.specs.Event.{Event as event}
use Rattle.store_state.specs.Meaning.{Meaning, Called, View}
use Rattle.store_state.specs.Replies.{count_reply, push_reply, reclaim_reply}
use Rattle.store_state.specs.declared.errors.PushError.{PushError}
use Rattle.store_state.specs.declared.errors.PushError.TheVariants as push
use Rattle.store_state.specs.declared.errors.ReclaimError.{ReclaimError}
use Rattle.store_state.specs.declared.errors.ReclaimError.TheVariants as reclaim
use Rattle.store_state.specs.declared.rounds.Refusal.TheVariants as round_refusal
use Rattle.store_state.specs.declared.rounds.Round.{Round}
use Rattle.store_state.specs.declared.rounds.Round.TheVariants as round
use Rattle.client_run.specs.Answers.{BlamesNoBlock, HasReplied, IsMetricsTold, IsSearchTold, asked_of, compact_reply, counted_of, cut_reply, flush_reply, pushed_reply, query_refusal, reclaimed_reply, round_reply, trace_reply}
use Rattle.client_run.proofs.FlushLemmas.{found_by}
use Rattle.store_state.specs.Made.{AreMade, Call, call}

-- of a request whose reply tells nothing of the history
nothing_told : {P : Type 0} (meaning : Meaning P) (old new : P) (calls : List Call) → AreMade meaning old calls new → (v : View) → meaning.knows old v → KnowsLater meaning new v (λ later. Unit {0})
nothing_told meaning old new calls made v known = knows_later meaning old new calls v (λ later. Unit {0}) made known (λ later. tt)

-- ---- no block is blamed

blames_none : (r s : Reply) → r ≡ s → BlamesNoBlock s → BlamesNoBlock r
blames_none r s is none = subst BlamesNoBlock (sym is) none

push_blames : (reading : Reading) (answer : Result ℕ PushError) → BlamesNoBlock (pushed_reply reading answer)
push_blames reading (Ok number) = tt
push_blames reading (Err (push.LiveFull held)) = tt
push_blames reading (Err (push.StoreFull pushes)) = tt
push_blames reading (Err (push.ReadOnly faults)) = tt
push_blames reading (Err push.Fault) = tt
push_blames reading (Err push.Memory) = tt

cut_blames : (answer : Result ℕ Memory) → BlamesNoBlock (cut_reply Cut answer)
cut_blames (Ok moved) = tt
cut_blames (Err e) = tt

cut_all_blames : (answer : Result ℕ Memory) → BlamesNoBlock (cut_reply CutAll answer)
cut_all_blames (Ok moved) = tt
cut_all_blames (Err e) = tt

reclaim_blames : (answer : Result ℕ ReclaimError) → BlamesNoBlock (reclaimed_reply answer)
reclaim_blames (Ok files) = tt
reclaim_blames (Err (reclaim.ReadOnly faults)) = tt
reclaim_blames (Err reclaim.Fault) = tt
reclaim_blames (Err reclaim.Memory) = tt

-- a round that found each block to be one
round_blames : (did : ℕ → ℕ → Reply) (nothing : Reply) → ((blocks rows : ℕ) → BlamesNoBlock (did blocks rows)) → BlamesNoBlock nothing → (r : Round) → FoundBlocks r → BlamesNoBlock (round_reply did nothing r)
round_blames did nothing done none (round.Did blocks rows) found = done blocks rows
round_blames did nothing done none round.Nothing found = none
round_blames did nothing done none (round.Refused (round_refusal.NotBlock file at)) found = absurd found
round_blames did nothing done none (round.Refused (round_refusal.ReadOnly faults)) found = tt
round_blames did nothing done none (round.Refused (round_refusal.Busy job)) found = tt
round_blames did nothing done none (round.Refused (round_refusal.FilesSpent next)) found = tt
round_blames did nothing done none (round.Refused round_refusal.Fault) found = tt
round_blames did nothing done none (round.Refused round_refusal.Memory) found = tt

trace_blames : (answer : Result TraceAnswer QueryError) → Sound (λ x. Unit {0}) answer → BlamesNoBlock (trace_reply answer)
trace_blames (Ok x) sound = tt
trace_blames (Err unanswered.Fault) sound = tt
trace_blames (Err (unanswered.NotBlock file at)) sound = absurd sound
trace_blames (Err unanswered.Memory) sound = tt

-- a query that found each block to be one
refusal_blames : (error : QueryError) (r : Reply) → Sound {A = SearchAnswer} (λ x. Unit {0}) (Err error) → r ≡ Refused (query_refusal error) → BlamesNoBlock r
refusal_blames unanswered.Fault r sound is = blames_none r _ is tt
refusal_blames (unanswered.NotBlock file at) r sound is = absurd sound
refusal_blames unanswered.Memory r sound is = blames_none r _ is tt

search_blames : (asked : Asked) (answer : Result SearchAnswer QueryError) (r : Reply) → Sound (λ x. Unit {0}) answer → IsSearchTold asked answer r → BlamesNoBlock r
search_blames asked (Ok x) r sound (inl is) = blames_none r _ is tt
search_blames asked (Ok x) r sound (inr is) = blames_none r _ is tt
search_blames asked (Err error) r sound is = refusal_blames error r sound is

metrics_blames : (m : Metrics) (answer : Result SearchAnswer QueryError) (r : Reply) → Sound (λ x. Unit {0}) answer → IsMetricsTold m answer r → BlamesNoBlock r
metrics_blames m (Ok x) r sound (inl is) = blames_none r _ is.2 tt
metrics_blames m (Ok x) r sound (inr is) = blames_none r _ is tt
metrics_blames m (Err error) r sound is = refusal_blames error r sound is

-- ---- requests

pub push_replied : {P : Type 0} (meaning : Meaning P) (old new : P) (reading : Reading) (moment : ℕ) (answer : Result ℕ PushError) (r : Reply)
    → Called meaning old (event.Push reading.batch.spans moment) (push_reply answer) new → r ≡ pushed_reply reading answer
    → HasReplied meaning old (request.Push reading moment) r new
push_replied meaning old new reading moment answer r called is = record {
  calls = call (event.Push reading.batch.spans moment) (push_reply answer) ∷ [];
  made = (new, called, refl);
  answered = (answer, is, refl);
  told = λ told v known. nothing_told meaning old new (call (event.Push reading.batch.spans moment) (push_reply answer) ∷ []) (new, called, refl) v known;
  whole = λ told. blames_none r _ is (push_blames reading answer);
}

pub cut_replied : {P : Type 0} (meaning : Meaning P) (old new : P) (moment : ℕ) (answer : Result ℕ Memory) (r : Reply)
    → Called meaning old (event.Cut moment) (count_reply answer) new → r ≡ cut_reply Cut answer → HasReplied meaning old (request.Cut moment) r new
cut_replied meaning old new moment answer r called is = record {
  calls = call (event.Cut moment) (count_reply answer) ∷ [];
  made = (new, called, refl);
  answered = (answer, is, refl);
  told = λ told v known. nothing_told meaning old new (call (event.Cut moment) (count_reply answer) ∷ []) (new, called, refl) v known;
  whole = λ told. blames_none r _ is (cut_blames answer);
}

pub cut_all_replied : {P : Type 0} (meaning : Meaning P) (old new : P) (answer : Result ℕ Memory) (r : Reply)
    → Called meaning old event.CutAll (count_reply answer) new → r ≡ cut_reply CutAll answer → HasReplied meaning old request.CutAll r new
cut_all_replied meaning old new answer r called is = record {
  calls = call event.CutAll (count_reply answer) ∷ [];
  made = (new, called, refl);
  answered = (answer, is, refl);
  told = λ told v known. nothing_told meaning old new (call event.CutAll (count_reply answer) ∷ []) (new, called, refl) v known;
  whole = λ told. blames_none r _ is (cut_all_blames answer);
}

pub flush_replied : {P : Type 0} (meaning : Meaning P) (old new : P) (round : Round) (r : Reply)
    → ((calls : List Call) × AreMade meaning old calls new × IsFlushRound calls round) → r ≡ flush_reply round → HasReplied meaning old request.Flush r new
flush_replied meaning old new round r made is = record {
  calls = made.0;
  made = made.1;
  answered = (round, is, made.2);
  told = λ told v known. nothing_told meaning old new made.0 made.1 v known;
  whole = λ told. blames_none r _ is (round_blames (λ blocks rows. Flushed rows) NothingFlushed (λ blocks rows. tt) tt round (found_by flush_stage.Fresh made.2 tt));
}

pub compact_replied : {P : Type 0} (meaning : Meaning P) (old new : P) (round : Round) (r : Reply)
    → ((calls : List Call) × AreMade meaning old calls new × IsCompactRound calls round) → (IsTrue (meaning.tells old) → FoundBlocks round) → r ≡ compact_reply round
    → HasReplied meaning old request.Compact r new
compact_replied meaning old new round r made found is = record {
  calls = made.0;
  made = made.1;
  answered = (round, is, made.2);
  told = λ told v known. let last = made_grows meaning old new made.0 made.1 v known in (last.0, last.1, last.2, (round, is, found told));
  whole = λ told. blames_none r _ is (round_blames Compacted NothingCompacted (λ blocks rows. tt) tt round (found told));
}

pub reclaim_replied : {P : Type 0} (meaning : Meaning P) (old new : P) (answer : Result ℕ ReclaimError) (r : Reply) → Called meaning old event.Reclaim (reclaim_reply answer) new
    → r ≡ reclaimed_reply answer → HasReplied meaning old request.Reclaim r new
reclaim_replied meaning old new answer r called is = record {
  calls = call event.Reclaim (reclaim_reply answer) ∷ [];
  made = (new, called, refl);
  answered = (answer, is, refl);
  told = λ told v known. nothing_told meaning old new (call event.Reclaim (reclaim_reply answer) ∷ []) (new, called, refl) v known;
  whole = λ told. blames_none r _ is (reclaim_blames answer);
}

pub trace_replied : {P : Type 0} (meaning : Meaning P) (old new : P) (id : TraceId) (answer : Result TraceAnswer QueryError) (r : Reply) → HasAsked meaning old (IsTraceAnswer id) answer new
    → r ≡ trace_reply answer → HasReplied meaning old (request.Trace id) r new
trace_replied meaning old new id answer r asked is = record {
  calls = asked.calls;
  made = asked.made;
  answered = (answer, is, asked.asked);
  told = λ told v known. let last = asked.told told v known in (last.0, last.1, last.2, (answer, is, last.3));
  whole = λ told. blames_none r _ is (trace_blames answer (asked.whole told));
}

pub search_replied : {P : Type 0} (meaning : Meaning P) (old new : P) (s : Search) (asked : Asked) (answer : Result SearchAnswer QueryError) (r : Reply) → asked ≡ asked_of s
    → HasAsked meaning old (IsSearchAnswer asked) answer new → IsSearchTold asked answer r → HasReplied meaning old (request.Search s) r new
search_replied {P} meaning old new s asked answer r same has is =
    let one : HasAsked {P = P} meaning old (IsSearchAnswer (asked_of s)) answer new = subst (λ (a : Asked). HasAsked meaning old (IsSearchAnswer a) answer new) same has in
    let told : IsSearchTold (asked_of s) answer r = subst (λ (a : Asked). IsSearchTold a answer r) same is in record {
      calls = one.calls;
      made = one.made;
      answered = (answer, told, one.asked);
      told = λ tells v known. let last = one.told tells v known in (last.0, last.1, last.2, (answer, told, last.3));
      whole = λ tells. search_blames (asked_of s) answer r (one.whole tells) told;
    }

pub metrics_replied : {P : Type 0} (meaning : Meaning P) (old new : P) (m : Metrics) (asked : Asked) (answer : Result SearchAnswer QueryError) (r : Reply) → asked ≡ counted_of m
    → HasAsked meaning old (IsSearchAnswer asked) answer new → IsMetricsTold m answer r → HasReplied meaning old (request.Metrics m) r new
metrics_replied {P} meaning old new m asked answer r same has is =
    let one : HasAsked {P = P} meaning old (IsSearchAnswer (counted_of m)) answer new = subst (λ (a : Asked). HasAsked meaning old (IsSearchAnswer a) answer new) same has in record {
      calls = one.calls;
      made = one.made;
      answered = (answer, is, one.asked);
      told = λ tells v known. let last = one.told tells v known in (last.0, last.1, last.2, (answer, is, last.3));
      whole = λ tells. metrics_blames m answer r (one.whole tells) is;
    }
