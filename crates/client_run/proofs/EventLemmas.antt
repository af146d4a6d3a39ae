-- What each event makes of a port and of the looks.
use Rattle.std.proofs.Common.{◌≡◌, inr, ℕ, Bool, true, false, List, [], ◌∷◌, ◌++◌, map, Option, Some, None, Result, Ok, Err, refl, sym, ◌∙◌, ap, subst, append-nil}
use Rattle.span_types.specs.BatchParts.{BatchParts}
use Rattle.span_types.specs.declared.errors.Failed.{Failed}
use Rattle.span_types.specs.declared.errors.Memory.{Memory}
use Rattle.span_types.specs.declared.spans.Row.{Row}
use Rattle.store_model.specs.Event.{Event as event, Reply as reply, Refusal as refusal}
use Rattle.store_model.specs.Holds.{Hold, ends}
use Rattle.store_model.specs.State.{is_among}
use Rattle.store_state.specs.Given.{IsPinOf, info_files, look_of, look_parts}
use Rattle.store_state.specs.Given.IsPinOf.{OfLook}
use Rattle.store_state.specs.Meaning.{Meaning, Called, IsOpen}
use Rattle.store_state.specs.Replies.{count_reply, push_reply, reclaim_reply}
use Rattle.store_state.specs.declared.errors.PushError.{PushError}
use Rattle.store_state.specs.declared.errors.ReclaimError.{ReclaimError}
use Rattle.store_state.specs.declared.jobs.Look.{Look as Given}
use Rattle.client_run.specs.declared.event.Event.{Event}
use Rattle.client_run.specs.declared.event.Event.TheVariants.{Push, Cut, CutAll, Look, Page, Done, Reclaim}
use Rattle.client_run.specs.declared.event.EventReply.{EventReply}
use Rattle.client_run.specs.declared.tasks.Tasks.{Tasks}
use Rattle.client_run.specs.declared.event.EventReply.TheVariants.{Idle, Pushed, Looked, Paged, Ended, Reclaimed}
use Rattle.client_run.specs.declared.event.EventReply.TheVariants as told
use Rattle.store_state.specs.Made.{call}
use Rattle.client_run.specs.Calls.{Looks, after_call, look_at, taken, unless_ended}
use Rattle.client_run.specs.EventRuns.{FoundBlock, IsEndAnswered, IsEventAnswered, IsPageAnswered, IsPageOf, page_reply, pin_of}
use Rattle.client_run.specs.Taken.{AreOpen, HasAnswered, IsReady, MayHaveAnswered, NamesNo, stages_of}
use Rattle.client_run.proofs.JobLemmas.{LeavesJobs, still_finds, still_fit}
use Rattle.client_run.proofs.LookLemmas.{none_ended, open_at}

-- An event that is one call and leaves looks, flush and compaction as they are, and isn't answered that a round has ended.
one_call : {P : Type 0} (meaning : Meaning P) (old new : P) (e : event) (r : reply) (looks later : Looks) (tasks : Tasks) (asked : Event) (answer : EventReply)
    → IsReady meaning old looks tasks → FoundBlock answer → Called meaning old e r new → LeavesJobs e r
    → IsEventAnswered looks (stages_of tasks) asked answer (call e r ∷ []) (stages_of tasks) → later ≡ after_call (call e r) looks
    → HasAnswered meaning old looks tasks asked answer new later tasks
one_call meaning old new e r looks later tasks asked answer ready finds called leaves answered left = record {
  calls = call e r ∷ [];
  made = (new, called, refl);
  answered = answered;
  left = left;
  fit = still_fit meaning old new e r tasks called leaves ready.holds ready.fit;
  going = ready.going;
  found = λ find. (still_finds meaning old new e r tasks called leaves ready.fit find, λ tells. finds);
}

-- a call that ends no look and gives none
same_looks : (e : event) (r : reply) (looks : Looks) → ((hold : Hold) → ends e r hold ≡ false) → taken r ≡ [] → after_call (call e r) looks ≡ looks
same_looks e r looks none no_look =
    ap (λ (ls : Looks). map (unless_ended (call e r)) looks ++ ls) no_look ∙ (append-nil (map (unless_ended (call e r)) looks) ∙ none_ended e r looks none)

none_taken : (answer : Result ℕ PushError) → taken (push_reply answer) ≡ []
none_taken (Ok n) = refl
none_taken (Err e) = refl

none_counted : (answer : Result ℕ Memory) → taken (count_reply answer) ≡ []
none_counted (Ok n) = refl
none_counted (Err e) = refl

none_reclaimed : (answer : Result ℕ ReclaimError) → taken (reclaim_reply answer) ≡ []
none_reclaimed (Ok n) = refl
none_reclaimed (Err e) = refl

none_paged : (answer : Result (List ℕ) Failed) → taken (page_reply answer) ≡ []
none_paged (Ok bytes) = refl
none_paged (Err e) = refl

pub has_pushed : {P : Type 0} (meaning : Meaning P) (old new : P) (batch copy : BatchParts) (moment : ℕ) (answer : Result ℕ PushError) → copy ≡ batch
    → Called meaning old (event.Push copy.spans moment) (push_reply answer) new → (looks : Looks) (tasks : Tasks) → IsReady meaning old looks tasks
    → HasAnswered meaning old looks tasks (Push batch moment) (Pushed answer) new looks tasks
has_pushed meaning old new batch copy moment answer same called looks tasks ready =
    one_call meaning old new (event.Push batch.spans moment) (push_reply answer) looks looks tasks (Push batch moment) (Pushed answer) ready tt
    (subst (λ (b : BatchParts). Called meaning old (event.Push b.spans moment) (push_reply answer) new) same called)
    (record { flush = λ job. refl; compaction = λ job. refl; files = λ file before after h. h }) ((answer, refl, refl), refl)
    (sym (same_looks (event.Push batch.spans moment) (push_reply answer) looks (λ hold. refl) (none_taken answer)))

pub has_cut : {P : Type 0} (meaning : Meaning P) (old new : P) (moment : ℕ) (answer : Result ℕ Memory) → Called meaning old (event.Cut moment) (count_reply answer) new
    → (looks : Looks) (tasks : Tasks) → IsReady meaning old looks tasks → HasAnswered meaning old looks tasks (Cut moment) (told.Cut answer) new looks tasks
has_cut meaning old new moment answer called looks tasks ready =
    one_call meaning old new (event.Cut moment) (count_reply answer) looks looks tasks (Cut moment) (told.Cut answer) ready tt called
    (record { flush = λ job. refl; compaction = λ job. refl; files = λ file before after h. h }) ((answer, refl, refl), refl)
    (sym (same_looks (event.Cut moment) (count_reply answer) looks (λ hold. refl) (none_counted answer)))

pub has_cut_all : {P : Type 0} (meaning : Meaning P) (old new : P) (answer : Result ℕ Memory) → Called meaning old event.CutAll (count_reply answer) new
    → (looks : Looks) (tasks : Tasks) → IsReady meaning old looks tasks → HasAnswered meaning old looks tasks CutAll (told.CutAll answer) new looks tasks
has_cut_all meaning old new answer called looks tasks ready =
    one_call meaning old new event.CutAll (count_reply answer) looks looks tasks CutAll (told.CutAll answer) ready tt called
    (record { flush = λ job. refl; compaction = λ job. refl; files = λ file before after h. h }) ((answer, refl, refl), refl)
    (sym (same_looks event.CutAll (count_reply answer) looks (λ hold. refl) (none_counted answer)))

pub has_reclaimed : {P : Type 0} (meaning : Meaning P) (old new : P) (answer : Result ℕ ReclaimError) → Called meaning old event.Reclaim (reclaim_reply answer) new
    → (looks : Looks) (tasks : Tasks) → IsReady meaning old looks tasks → HasAnswered meaning old looks tasks Reclaim (Reclaimed answer) new looks tasks
has_reclaimed meaning old new answer called looks tasks ready =
    one_call meaning old new event.Reclaim (reclaim_reply answer) looks looks tasks Reclaim (Reclaimed answer) ready tt called
    (record { flush = λ job. refl; compaction = λ job. refl; files = λ file before after h. h }) ((answer, refl, refl), refl)
    (sym (same_looks event.Reclaim (reclaim_reply answer) looks (λ hold. refl) (none_reclaimed answer)))

pub has_not_looked : {P : Type 0} (meaning : Meaning P) (old new : P) (e : Memory) (looks : Looks) (tasks : Tasks) → IsReady meaning old looks tasks
    → Called meaning old event.Look (reply.Refused refusal.Memory) new → HasAnswered meaning old looks tasks Look (Looked (Err e)) new looks tasks
has_not_looked meaning old new e looks tasks ready called =
    one_call meaning old new event.Look (reply.Refused refusal.Memory) looks looks tasks Look (Looked (Err e)) ready tt called
    (record { flush = λ job. refl; compaction = λ job. refl; files = λ file before after h. h }) ((Err e, refl, refl), refl)
    (sym (same_looks event.Look (reply.Refused refusal.Memory) looks (λ hold. refl) refl))

pub has_looked : {P : Type 0} (meaning : Meaning P) (old new : P) (look : Given) (rows : List Row) (looks later : Looks) (tasks : Tasks) → IsReady meaning old looks tasks
    → Called meaning old event.Look (reply.Looked (look_parts look)) new → rows ≡ look.rows
    → later ≡ looks ++ Some (look_of look) ∷ []
    → HasAnswered meaning old looks tasks Look (Looked (Ok (record { as_of = look.as_of; rows = rows }))) new later tasks
has_looked meaning old new look rows looks later tasks ready called same left =
    subst (λ (rs : List Row). HasAnswered meaning old looks tasks Look (Looked (Ok (record { as_of = look.as_of; rows = rs }))) new later tasks) (sym same)
    (one_call meaning old new event.Look (reply.Looked (look_parts look)) looks later tasks Look
    (Looked (Ok (record { as_of = look.as_of; rows = look.rows }))) ready tt called
    (record { flush = λ job. refl; compaction = λ job. refl; files = λ file before after h. h })
    ((Ok (record { as_of = look.as_of; rows = look.rows }), refl, (look_parts look, refl, refl, refl)), refl)
    (left ∙ ap (λ (ls : Looks). ls ++ Some (look_of look) ∷ [])
    (sym (none_ended event.Look (reply.Looked (look_parts look)) looks (λ hold. refl)))))

-- a look that was taken, and of which the reply wasn't told
pub looked_untold : {P : Type 0} (meaning : Meaning P) (old new : P) (look : Given) (looks : Looks) (tasks : Tasks) → IsReady meaning old looks tasks
    → Called meaning old event.Look (reply.Looked (look_parts look)) new
    → MayHaveAnswered meaning old looks tasks Look new
looked_untold meaning old new look looks tasks ready called = inr (
  Looked (Ok (record { as_of = look.as_of; rows = look.rows })),
  looks ++ Some (look_of look) ∷ [],
  tasks,
  has_looked meaning old new look look.rows looks (looks ++ Some (look_of look) ∷ []) tasks ready called refl refl,
)

-- An event for which nothing is done.
idle : {P : Type 0} (meaning : Meaning P) (port : P) (looks later : Looks) (tasks : Tasks) (asked : Event) → IsReady meaning port looks tasks
    → IsEventAnswered looks (stages_of tasks) asked Idle [] (stages_of tasks) → later ≡ looks → HasAnswered meaning port looks tasks asked Idle port later tasks
idle meaning port looks later tasks asked ready answered left = record {
  calls = [];
  made = refl;
  answered = answered;
  left = left;
  fit = ready.fit;
  going = ready.going;
  found = λ find. (find, λ tells. tt);
}

pub is_idle : {P : Type 0} (meaning : Meaning P) (port : P) (number : ℕ) (looks later : Looks) (tasks : Tasks) → IsReady meaning port looks tasks
    → look_at number looks ≡ None → later ≡ looks → HasAnswered meaning port looks tasks (Done number) Idle port later tasks
is_idle meaning port number looks later tasks ready none left =
    idle meaning port looks later tasks (Done number) ready (subst (λ (l : Option Hold). IsEndAnswered l Idle []) (sym none) (refl, refl), refl) left

pub has_ended : {P : Type 0} (meaning : Meaning P) (old new : P) (number : ℕ) (look : Given) (looks later : Looks) (tasks : Tasks) → IsReady meaning old looks tasks
    → look_at number looks ≡ Some (look_of look) → Called meaning old (event.Done look.pin.number) reply.Fine new
    → later ≡ map (unless_ended (call (event.Done look.pin.number) reply.Fine)) looks
    → HasAnswered meaning old looks tasks (Done number) Ended new later tasks
has_ended meaning old new number look looks later tasks ready some called left =
    one_call meaning old new (event.Done look.pin.number) reply.Fine looks later tasks (Done number) Ended ready tt called
    (record { flush = λ job. refl; compaction = λ job. refl; files = λ file before after h. h })
    (subst (λ (l : Option Hold). IsEndAnswered l Ended (call (event.Done look.pin.number) reply.Fine ∷ [])) (sym some) (refl, refl), refl)
    (left ∙ sym (append-nil (map (unless_ended (call (event.Done look.pin.number) reply.Fine)) looks)))

-- ---- pages

-- the pin of a look that is open is the port's
pub is_pinned : {P : Type 0} (meaning : Meaning P) (port : P) (number block : ℕ) (look : Given) (looks : Looks) → look_at number looks ≡ Some (look_of look)
    → is_among block (info_files look.pin.blocks) ≡ true → AreOpen meaning port looks → IsPinOf look.pin block (IsOpen meaning port)
is_pinned meaning port number block look looks some named open_looks =
    OfLook (look_parts look) refl refl (open_at meaning port number looks (look_of look) some open_looks) named

not_named : (look : Option Hold) (block page : ℕ) → NamesNo look block → IsPageAnswered look block page Idle []
not_named None block page other = (refl, refl)
not_named (Some hold) block page other = subst (λ (b : Bool). IsPageOf b (pin_of hold) block page Idle []) (sym other) (refl, refl)

pub no_page : {P : Type 0} (meaning : Meaning P) (port : P) (number block page : ℕ) (looks : Looks) → NamesNo (look_at number looks) block
    → (tasks : Tasks) → IsReady meaning port looks tasks → HasAnswered meaning port looks tasks (Page number block page) Idle port looks tasks
no_page meaning port number block page looks other tasks ready =
    idle meaning port looks looks tasks (Page number block page) ready (not_named (look_at number looks) block page other, refl) refl

pub has_paged : {P : Type 0} (meaning : Meaning P) (old new : P) (number block page : ℕ) (look : Given) (looks : Looks) (answer : Result (List ℕ) Failed)
    → look_at number looks ≡ Some (look_of look) → is_among block (info_files look.pin.blocks) ≡ true
    → Called meaning old (event.ReadPage look.pin.number block page) (page_reply answer) new
    → (tasks : Tasks) → IsReady meaning old looks tasks → HasAnswered meaning old looks tasks (Page number block page) (Paged answer) new looks tasks
has_paged meaning old new number block page look looks answer some named called tasks ready =
    one_call meaning old new (event.ReadPage look.pin.number block page) (page_reply answer) looks looks tasks (Page number block page) (Paged answer) ready tt called
    (record { flush = λ job. refl; compaction = λ job. refl; files = λ file before after h. h }) (
      subst (λ (l : Option Hold). IsPageAnswered l block page (Paged answer) (call (event.ReadPage look.pin.number block page) (page_reply answer) ∷ [])) (sym some)
          (subst (λ (b : Bool). IsPageOf b look.pin.number block page (Paged answer) (call (event.ReadPage look.pin.number block page) (page_reply answer) ∷ [])) (sym named)
          (answer, refl, refl)),
      refl,
    )
    (sym (same_looks (event.ReadPage look.pin.number block page) (page_reply answer) looks (λ hold. refl) (none_paged answer)))

-- a page that was read, and of which the reply wasn't told
pub paged_untold : {P : Type 0} (meaning : Meaning P) (old new : P) (number block page : ℕ) (look : Given) (looks : Looks) (bytes : List ℕ)
    → look_at number looks ≡ Some (look_of look) → is_among block (info_files look.pin.blocks) ≡ true
    → Called meaning old (event.ReadPage look.pin.number block page) (reply.Page bytes) new
    → (tasks : Tasks) → IsReady meaning old looks tasks → MayHaveAnswered meaning old looks tasks (Page number block page) new
paged_untold meaning old new number block page look looks bytes some named called tasks ready =
    inr (Paged (Ok bytes), looks, tasks, has_paged meaning old new number block page look looks (Ok bytes) some named called tasks ready)
