-- What is answered by one call of the store, where others' calls come before it and after it.
use Rattle.std.proofs.Common.{◌≡◌, ◌∙◌, ℕ, Bool, List, [], ◌∷◌, Ok, Err, ap, length, sym, subst}
use Rattle.client_scripts.specs.declared.script.Answered.{Answered}
use Rattle.otlp_spans.specs.declared.read.Reading.{Reading}
use Rattle.port_history.specs.Entries.{Entry, call_of}
use Rattle.session_text.specs.declared.refusal.Refusal.{Refusal}
use Rattle.session_text.specs.declared.reply.Reply.{Reply}
use Rattle.session_text.specs.declared.reply.Reply.TheVariants.{Pushed, Refused}
use Rattle.session_text.specs.declared.request.Request.TheVariants as request
use Rattle.session_text.specs.Items.{Item}
use Rattle.store_model.specs.Event.{Event as event}
use Rattle.store_model.specs.History.{count_of}
use Rattle.store_state.specs.Made.{Call, call}
use Rattle.store_state.specs.Replies.{count_reply, push_reply, reclaim_reply}
use Rattle.session_meaning.specs.Answering.{IsItemAnswered}
use Rattle.session_meaning.specs.At.{At, IsStep, history_of}
use Rattle.session_meaning.specs.Causes.{HasPushCause}
use Rattle.session_meaning.specs.Pushes.{HasRoomForPush}
use Rattle.session_meaning.specs.ServedReplies.{CallPlace, TakesOneCall, WasReplied}
use Rattle.session_meaning.specs.Serving.{Ran}
use Rattle.session_meaning.specs.Session.{IsAnswered}
use Rattle.session_meaning.proofs.PushCauses.{accepted_with_room, refused_for}
use Rattle.session_meaning.proofs.ServedPlaces.{is_answered, mine, place_of}

-- The one call by which an item is answered, as a step from any place.
record OneCall (told : Bool) (item : Item) (reply : Reply) (calls : List Call) : Type 0 where
  c : Call
  are : calls ≡ c ∷ []
  answers : (before after : At) → IsStep before c.event c.reply after → IsAnswered told item before reply after

one_call : (told : Bool) (item : Item) (reply : Reply) (calls : List Call) → TakesOneCall item → IsItemAnswered item reply calls → OneCall told item reply calls
one_call told (Ok (request.Push reading moment)) reply calls takes (answer, is, are) =
    record { c = call (event.Push reading.batch.spans moment) (push_reply answer); are = are; answers = λ before after step. (answer, is, step) }
one_call told (Ok (request.Cut moment)) reply calls takes (answer, is, are) =
    record { c = call (event.Cut moment) (count_reply answer); are = are; answers = λ before after step. (answer, is, step) }
one_call told (Ok request.CutAll) reply calls takes (answer, is, are) =
    record { c = call event.CutAll (count_reply answer); are = are; answers = λ before after step. (answer, is, step) }
one_call told (Ok request.Reclaim) reply calls takes (answer, is, are) =
    record { c = call event.Reclaim (reclaim_reply answer); are = are; answers = λ before after step. (answer, is, step) }
one_call told (Ok (request.Trace id)) reply calls takes is = absurd takes
one_call told (Ok (request.Search s)) reply calls takes is = absurd takes
one_call told (Ok (request.Metrics m)) reply calls takes is = absurd takes
one_call told (Ok request.Flush) reply calls takes is = absurd takes
one_call told (Ok request.Compact) reply calls takes is = absurd takes
one_call told (Err why) reply calls takes is = absurd takes

pub answered_there : (told : Bool) (first last : At) (scripts : List (List Item)) (answers : List Answered) (entries : List Entry) (client : ℕ) (asked : List Item) (got : List Reply) (item : Item) (reply : Reply)
    → Ran told first scripts answers entries last → WasReplied scripts answers client asked got item reply → TakesOneCall item
    → (place : CallPlace told first entries last client asked got []) × IsItemAnswered item reply (call_of place.entry ∷ []) × IsAnswered told item place.before reply place.after
answered_there told first last scripts answers entries client asked got item reply ran this takes =
    let its = mine told first last scripts answers entries client asked got item reply ran this in
    let is : IsItemAnswered item reply its = is_answered told first last scripts answers entries client asked got item reply ran this in
    let one = one_call told item reply its takes is in
    let place = place_of told first last scripts answers entries client asked got item reply ran this [] [] one.c one.are in (
      place.0,
      subst (λ (cs : List Call). IsItemAnswered item reply cs) (one.are ∙ ap (λ (c : Call). c ∷ []) (sym place.1)) is,
      one.answers place.0.before place.0.after (subst (λ (c : Call). IsStep place.0.before c.event c.reply place.0.after) place.1 place.0.made.step),
    )

pub refused_there : (told : Bool) (first last : At) (scripts : List (List Item)) (answers : List Answered) (entries : List Entry) (client : ℕ) (asked : List Item) (got : List Reply) (reading : Reading) (moment : ℕ)
    (why : Refusal) → Ran told first scripts answers entries last → WasReplied scripts answers client asked got (Ok (request.Push reading moment)) (Refused why)
    → (place : CallPlace told first entries last client asked got []) × IsItemAnswered (Ok (request.Push reading moment)) (Refused why) (call_of place.entry ∷ [])
    × HasPushCause why (length reading.batch.spans) place.before place.after × (history_of place.after ≡ history_of place.before)
refused_there told first last scripts answers entries client asked got reading moment why ran this =
    let at = answered_there told first last scripts answers entries client asked got (Ok (request.Push reading moment)) (Refused why) ran this tt in
    let cause = refused_for told reading moment at.0.before at.0.after why at.2 in
    (at.0, at.1, cause.0, cause.1)

pub accepted_there : (told : Bool) (first last : At) (scripts : List (List Item)) (answers : List Answered) (entries : List Entry) (client : ℕ) (asked : List Item) (got : List Reply) (reading : Reading)
    (moment number kept rejected skipped : ℕ) → Ran told first scripts answers entries last
    → WasReplied scripts answers client asked got (Ok (request.Push reading moment)) (Pushed number kept rejected skipped)
    → (place : CallPlace told first entries last client asked got []) × IsItemAnswered (Ok (request.Push reading moment)) (Pushed number kept rejected skipped) (call_of place.entry ∷ [])
    × HasRoomForPush (length reading.batch.spans) place.before.machine × (number ≡ count_of (history_of place.before))
accepted_there told first last scripts answers entries client asked got reading moment number kept rejected skipped ran this =
    let at = answered_there told first last scripts answers entries client asked got (Ok (request.Push reading moment)) (Pushed number kept rejected skipped) ran this tt in
    let room = accepted_with_room told reading moment at.0.before at.0.after number kept rejected skipped at.2 in
    (at.0, at.1, room.0, room.1)
