-- Why a push is refused, and what it had where it is accepted.
use Rattle.std.proofs.Common.{rules, ◌≡◌, ℕ, ◌+◌, ◌<◌, ◌≤◌, nat_le, nat_lt, inl, Bool, true, false, List, Option, Some, None, Result, Ok, Err, ap, length, refl, sym, subst}
use Rattle.std.specs.Prelude.{Bool, ⊤}
use Rattle.span_types.specs.Faults.{Rose}
use Rattle.span_types.specs.declared.spans.Span.{Span}
use Rattle.otlp_spans.specs.declared.read.Reading.{Reading}
use Rattle.session_text.specs.declared.refusal.Refusal.{Refusal}
use Rattle.session_text.specs.declared.reply.Reply.{Reply}
use Rattle.session_text.specs.declared.reply.Reply.TheVariants as told
use Rattle.session_text.specs.declared.request.Request.TheVariants as request
use Rattle.store_model.specs.Event.{Reply as reply, Refusal as cause}
use Rattle.store_model.specs.Event.Event.{Push}
use Rattle.store_model.specs.Event.Reply.{Count, Refused}
use Rattle.store_model.specs.Event.Refusal.{Busy, Fault, FilesSpent, LiveFull, Memory, ReadOnly, StoreFull}
use Rattle.store_model.specs.History.{count_of}
use Rattle.store_model.specs.State.{held_of}
use Rattle.store_model.specs.Step.{Machine, Step, if_full, if_read_only, if_test}
use Rattle.store_model.specs.Step.Step.{Sure, Succeeds, Lacks, Unread, Breaks, Halts}
use Rattle.store_model.proofs.TellsHistory.{step_tells}
use Rattle.store_state.specs.Replies.{push_refusal, push_reply}
use Rattle.store_state.specs.declared.errors.PushError.{PushError}
use Rattle.store_state.specs.declared.errors.PushError.TheVariants as push
use Rattle.client_run.specs.Answers.{pushed_reply, refusal_of}
use Rattle.session_meaning.specs.Causes.{HasPushCause}
use Rattle.session_meaning.specs.Pushes.{HasRoomForPush}
use Rattle.session_meaning.specs.At.{At, history_of}
use Rattle.session_meaning.specs.Session.{IsAnswered}
use Rattle.session_meaning.proofs.Told.{push_numbers}

-- ---- replies that are sure

some_same : (a b : reply) → Some a ≡ Some b → a ≡ b
some_same a b e = cc

none_some : (a : reply) → None ≡ Some a → ⊥
none_some a e = cc

if_some : (P : reply → Type 0) (t : Bool) (first : reply) (later : Option reply) (r : reply) → (t ≡ true → P first) → (later ≡ Some r → P r)
    → if_test t first later ≡ Some r → P r
if_some P true first later r here later_so e = subst P (some_same first r e) (here refl)
if_some P false first later r here later_so e = later_so e

above : (a b : ℕ) → nat_le a b ≡ true → a ≤ b
above a b h = search rules

below : (a b : ℕ) → nat_lt a b ≡ true → a < b
below a b h = search rules

not_above : (a b : ℕ) → nat_le a b ≡ false → b < a
not_above a b h = search rules

not_below : (a b : ℕ) → nat_lt a b ≡ false → b ≤ a
not_below a b h = search rules

-- a sure reply to a push is a refusal with its cause
sure_by : (P : reply → Type 0) (o : Option ℕ) (count held more : ℕ) (r : reply) → ((n : ℕ) → o ≡ Some n → P (Refused (ReadOnly n)))
    → (4294967295 ≤ count → P (Refused (StoreFull count))) → (262144 < held + more → P (Refused (LiveFull held)))
    → if_read_only o (if_full count held more) ≡ Some r → P r
sure_by P (Some n) count held more r read_only full live e = subst P (some_same (Refused (ReadOnly n)) r e) (read_only n refl)
sure_by P None count held more r read_only full live e =
    if_some P (nat_le 4294967295 count) (Refused (StoreFull count)) _ r (λ t. full (above 4294967295 count t))
    (λ later. if_some P (nat_lt 262144 (held + more)) (Refused (LiveFull held)) None r (λ t. live (below 262144 (held + more) t)) (λ none. absurd (none_some r none)) later) e

-- ---- refused

-- the cause of a refusal in the store's model
abbrev ModelCause : ℕ → ℕ → Machine → ℕ → Machine → cause → Type 0
ModelCause f g m spans m' (ReadOnly faults) = m.read_only ≡ Some faults
ModelCause f g m spans m' (StoreFull pushes) = (pushes ≡ count_of m.history) × (4294967295 ≤ pushes)
ModelCause f g m spans m' (LiveFull held) = (held ≡ held_of m.state) × (262144 < held + spans)
ModelCause f g m spans m' Fault = Rose f g × (m'.read_only ≡ Some g)
ModelCause f g m spans m' Memory = ⊤
ModelCause f g m spans m' (Busy job) = ⊥
ModelCause f g m spans m' (FilesSpent next) = ⊥

abbrev ReplyCause : ℕ → ℕ → Machine → ℕ → Machine → reply → Type 0
ReplyCause f g m spans m' (Refused why) = ModelCause f g m spans m' why
ReplyCause f g m spans m' _ = ⊤

step_cause : (f g : ℕ) (m m' : Machine) (spans : List Span) (moment : ℕ) (r : reply) → Step f g m (Push spans moment) r m' → ReplyCause f g m (length spans) m' r
step_cause f g m m' spans moment r (Sure told same) =
    sure_by (ReplyCause f g m (length spans) m') m.read_only (count_of m.history) (held_of m.state) (length spans) r
    (λ n is. is) (λ high. (refl, high)) (λ high. (refl, high)) told
step_cause f g m m' spans moment r (Succeeds none done) = subst (ReplyCause f g m (length spans) m') (sym done.0) tt
step_cause f g m m' spans moment r (Lacks none takes told same) = subst (ReplyCause f g m (length spans) m') (sym told) tt
step_cause f g m m' spans moment r (Unread reads told rose same) = let bad : ⊥ = cc in absurd bad
step_cause f g m m' spans moment r (Breaks none writes told rose same) =
    subst (ReplyCause f g m (length spans) m') (sym told) (rose, ap (λ (n : Machine). n.read_only) same)
step_cause f g m m' spans moment r (Halts none reclaims writes told rose emptied fewer same) = let bad : ⊥ = cc in absurd bad

said : (before after : At) (spans : ℕ) (why : PushError) → ModelCause before.faults after.faults before.machine spans after.machine (push_refusal why)
    → HasPushCause (refusal_of why) spans before after
said before after spans (push.LiveFull held) is = is
said before after spans (push.StoreFull pushes) is = is
said before after spans (push.ReadOnly faults) is = is
said before after spans push.Fault is = is
said before after spans push.Memory is = tt

abbrev Caused : ℕ → At → At → Reply → Type 0
Caused spans before after (told.Refused why) = HasPushCause why spans before after × (history_of after ≡ history_of before)
Caused spans before after _ = ⊤

answer_caused : (reading : Reading) (moment : ℕ) (before after : At) (answer : Result ℕ PushError)
    → Step before.faults after.faults before.machine (Push reading.batch.spans moment) (push_reply answer) after.machine
    → Caused (length reading.batch.spans) before after (pushed_reply reading answer)
answer_caused reading moment before after (Ok number) step = tt
answer_caused reading moment before after (Err why) step = (
  said before after (length reading.batch.spans) why (step_cause before.faults after.faults before.machine after.machine reading.batch.spans moment (Refused (push_refusal why)) step),
  (step_tells before.faults after.faults before.machine after.machine (Push reading.batch.spans moment) (Refused (push_refusal why)) step).0,
)

pub refused_for : (told_blocks : Bool) (reading : Reading) (moment : ℕ) (before after : At) (why : Refusal) → IsAnswered told_blocks (Ok (request.Push reading moment)) before (told.Refused why) after
    → HasPushCause why (length reading.batch.spans) before after × (history_of after ≡ history_of before)
refused_for told_blocks reading moment before after why (answer, is, step) =
    subst (Caused (length reading.batch.spans) before after) (sym is) (answer_caused reading moment before after answer step.1)

-- ---- accepted

test_none : (t : Bool) (r : reply) (later : Option reply) → if_test t r later ≡ None → (t ≡ false) × (later ≡ None)
test_none true r later e = let bad : ⊥ = cc in absurd bad
test_none false r later e = (refl, e)

abbrev HasRoom : Option ℕ → ℕ → ℕ → ℕ → Type 0
HasRoom o count held more = (o ≡ None) × (count < 4294967295) × (held + more ≤ 262144)

room_in : (o : Option ℕ) (count held more : ℕ) → if_read_only o (if_full count held more) ≡ None → HasRoom o count held more
room_in (Some n) count held more e = let bad : ⊥ = cc in absurd bad
room_in None count held more e =
    let first = test_none (nat_le 4294967295 count) _ _ e in
    let second = test_none (nat_lt 262144 (held + more)) _ _ first.1 in
    (refl, not_above 4294967295 count first.0, not_below 262144 (held + more) second.0)

abbrev IsNoCount : reply → Type 0
IsNoCount (Count n) = ⊥
IsNoCount _ = ⊤

-- a sure reply to a push isn't a number
no_count : (o : Option ℕ) (count held more n : ℕ) → if_read_only o (if_full count held more) ≡ Some (Count n) → ⊥
no_count o count held more n e = sure_by IsNoCount o count held more (Count n) (λ n is. tt) (λ high. tt) (λ high. tt) e

step_room : (f g : ℕ) (m m' : Machine) (spans : List Span) (moment n : ℕ) → Step f g m (Push spans moment) (Count n) m'
    → HasRoom m.read_only (count_of m.history) (held_of m.state) (length spans)
step_room f g m m' spans moment n (Sure told same) = absurd (no_count m.read_only (count_of m.history) (held_of m.state) (length spans) n told)
step_room f g m m' spans moment n (Succeeds none done) = room_in m.read_only (count_of m.history) (held_of m.state) (length spans) none
step_room f g m m' spans moment n (Lacks none takes told same) = let bad : ⊥ = cc in absurd bad
step_room f g m m' spans moment n (Unread reads told rose same) = let bad : ⊥ = cc in absurd bad
step_room f g m m' spans moment n (Breaks none writes told rose same) = let bad : ⊥ = cc in absurd bad
step_room f g m m' spans moment n (Halts none reclaims writes told rose emptied fewer same) = let bad : ⊥ = cc in absurd bad

abbrev Roomy : Reading → ℕ → At → Reply → Type 0
Roomy reading moment before (told.Pushed number kept rejected skipped) = HasRoomForPush (length reading.batch.spans) before.machine
Roomy reading moment before _ = ⊤

answer_roomy : (reading : Reading) (moment : ℕ) (before after : At) (answer : Result ℕ PushError)
    → Step before.faults after.faults before.machine (Push reading.batch.spans moment) (push_reply answer) after.machine
    → Roomy reading moment before (pushed_reply reading answer)
answer_roomy reading moment before after (Ok number) step =
    let room = step_room before.faults after.faults before.machine after.machine reading.batch.spans moment number step in record {
      writes = room.0;
      pushes = room.1;
      rows = room.2;
    }
answer_roomy reading moment before after (Err why) step = tt

pub accepted_with_room : (told_blocks : Bool) (reading : Reading) (moment : ℕ) (before after : At) (number kept rejected skipped : ℕ)
    → IsAnswered told_blocks (Ok (request.Push reading moment)) before (told.Pushed number kept rejected skipped) after
    → HasRoomForPush (length reading.batch.spans) before.machine × (number ≡ count_of (history_of before))
accepted_with_room told_blocks reading moment before after number kept rejected skipped (answer, is, step) = (
  subst (Roomy reading moment before) (sym is) (answer_roomy reading moment before after answer step.1),
  (push_numbers told_blocks (Ok (request.Push reading moment)) before after number kept rejected skipped (inl (answer, is, step))).0,
)
