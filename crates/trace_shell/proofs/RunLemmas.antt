-- What was done by a run, from what its command came to.
use Rattle.std.proofs.Common.{Bool, ◌≡◌, ◌≢◌, ◌⊎◌, ◌∙◌, inl, inr, ℕ, List, [], ◌∷◌, Option, Some, None, true, false, IsTrue, arith, if◌then◌else◌, refl, subst, sym}
use Rattle.std.specs.Prelude.{IfSome}
use Rattle.clap.specs.Words.{Kinds}
use Rattle.command_words.specs.Commands.{Alone, Command, Drill as drill, Ingest as ingest, Serve as serve, Session as session, Spells}
use Rattle.command_words.specs.Numbers.{word_faults}
use Rattle.command_words.proofs.Spelled.{spelled_clean, spelled_one}
use Rattle.disk_model.specs.Counts.{Raised}
use Rattle.disk_model.specs.Images.{Image}
use Rattle.disk_model.specs.Crash.{Reached}
use Rattle.disk_model.specs.declared.disk.Device.{Ghosts}
use Rattle.disk_model.proofs.Runs.{run_same}
use Rattle.block_list.specs.Loading.{KeepsList}
use Rattle.block_list.proofs.LoadLemmas.{keeps_same as list_same}
use Rattle.io_edges.specs.Lines.{lines, taken_limit}
use Rattle.io_edges.specs.Reader.{TakesBytes}
use Rattle.span_types.specs.Faults.{Rose}
use Rattle.store_core.specs.NewCore.{new_machine}
use Rattle.store_core.specs.Opening.{LeavesAlone}
use Rattle.store_files.specs.declared.error.OpenError.{OpenError}
use Rattle.store_files.specs.declared.error.OpenError.TheVariants as open_errors
use Rattle.store_images.specs.Stored.{KeepsStored}
use Rattle.store_images.proofs.Keeping.{keeps_same}
use Rattle.session_text.specs.declared.reply.Reply.{Reply}
use Rattle.session_meaning.specs.declared.ending.Ending.{Ending}
use Rattle.session_meaning.specs.declared.ending.Ending.TheVariants.{Answered, BadWords, NotOpened, NotStore, ReadFault, Refused, Spent, Starved, WriteFault}
use Rattle.session_meaning.specs.Asked.{after_moment}
use Rattle.session_meaning.specs.Runs.{Does, DoesInStore, Edges, FitsWords, HasAnswered, HasCause, HasIngested, HasRun, IsNoStore, IsPastOpening, IsRunOf, OnlyAsks, Outcome, told_bytes}
use Rattle.session_meaning.specs.At.{At}
use Rattle.session_meaning.specs.Act.{Act}
use Rattle.session_meaning.specs.Place.{Place, opened_at}
use Rattle.session_meaning.specs.Statuses.{status_of}
use Rattle.session_meaning.specs.Stops.{Recovers}
use Rattle.session_meaning.proofs.Following.{came_so_far}
use Rattle.trace_shell.specs.Turn.{CameTo, HasDone, IsRefusedStore}

-- ---- what is told or not

pub if_some : {T : Type 0} (o : Option T) (P : T → Type 0) → ((x : T) → o ≡ Some x → P x) → IfSome o P
if_some None P h = tt
if_some (Some x) P h = h x refl

-- of the bytes that a disk holds, where it tells them
pub if_told : {D : Type 0} (g : Ghosts D) (disk : D) (P : Image → Type 0) → (IsTrue (g.tells disk) → P (g.held disk)) → IfSome (told_bytes g disk) P
if_told g disk P h = elim (g.tells disk) as (λ t. g.tells disk ≡ t → IfSome (if t then Some (g.held disk) else None) P) [
  | true ↦ λ e. h e
  | false ↦ λ e. tt
] refl

-- ---- causes

-- The ending has its cause where each ending that needs one has it.
pub cause_of : (e : Ending) (old new : Edges) → IsPastOpening e → (e ≡ WriteFault → Rose old.sink_faults new.sink_faults)
    → (e ≡ ReadFault → Rose old.source_faults new.source_faults) → (e ≡ Spent → TakesBytes old.left new.left 0 taken_limit) → HasCause e old new
cause_of Answered old new past w r s = tt
cause_of WriteFault old new past w r s = w refl
cause_of BadWords old new past w r s = absurd past
cause_of ReadFault old new past w r s = r refl
cause_of NotOpened old new past w r s = absurd past
cause_of (NotStore file at) old new past w r s = absurd past
cause_of Starved old new past w r s = tt
cause_of Refused old new past w r s = tt
cause_of Spent old new past w r s = s refl

pub past_is_no_fault : (e : Ending) → IsPastOpening e → e ≢ BadWords
past_is_no_fault e past is = subst IsPastOpening is past

-- ---- the words

-- Words that ask something aren't told to be faulty.
fits_asked : (words : List (List ℕ)) (c : Command) (e : Ending) → Spells words c → e ≢ BadWords → FitsWords (word_faults words) e
fits_asked words c e s not = subst (λ (k : Kinds). FitsWords k e) (sym (spelled_clean words c s)) not

-- What is done by the command that the words ask is done by any that they ask.
by_one : (told : Bool) (words : List (List ℕ)) (c : Command) (o : Outcome) (old new : Edges) → Spells words c → Does told c o old new → (d : Command) → Spells words d → Does told d o old new
by_one told words c o old new s does d t = subst (λ (k : Command). Does told k o old new) (spelled_one words c d s t) does

pub is_run : (told : Bool) (words : List (List ℕ)) (c : Command) (o : Outcome) (old new : Edges) → Spells words c → HasDone told c o old new → IsRunOf told words o old new
is_run told words c o old new s done = record {
  words_fit = fits_asked words c o.ending s done.asked;
  does = by_one told words c o old new s done.does;
  asks = λ d t. subst (λ (k : Command). OnlyAsks k o.acts) (spelled_one words c d s t) done.asks;
  session = done.session;
  cause = done.cause;
}

-- ---- in a store that was opened

pub in_store : (sure : Bool) (c : Command) (o : Outcome) (old new : Edges)
    → CameTo sure c o.first o.last old.left old.taken (after_moment old.moments) new.left new.taken new.moments o.ending o.acts o.replies o.refused → DoesInStore sure c o old new
in_store sure session o old new came =
    if_some old.left (λ text. IfSome old.taken (λ before. HasRun text before o old new)) (λ text left.
    if_some old.taken (λ before. HasRun text before o old new) (λ before taken.
    let w = came text before left taken in record {
      answered = w.answered;
      later = w.later;
      lines_are = w.lines_are;
      asked = w.asked;
      clock = w.clock;
      ends = w.ends;
    }))
in_store sure ingest o old new (items, acts_are, none, came) =
    if_some old.left (λ text. IfSome old.taken (λ before. HasIngested sure text before o old new)) (λ text left.
    if_some old.taken (λ before. HasIngested sure text before o old new) (λ before taken.
    let w = came text before left taken in record {
      items = items;
      acts_are = acts_are;
      pushed = w.pushed;
      later = w.later;
      lines_are = w.lines_are;
      asked = came_so_far sure o.ending (lines text) w.pushed w.later (after_moment old.moments) new.moments items o.replies o.first o.last.store w.todo w.lines_are w.asked w.is_left;
      no_refused = none;
      ends = w.ends;
    }))
in_store sure (serve clients rounds) o old new came = absurd came
in_store sure (drill seed traces) o old new (items, acts_are, left, came) = record { items = items; acts_are = acts_are; left = left; came = came }
in_store sure (Alone line) o old new (item, reply, acts, replies, own, asked, clock, ends) = (
  own,
  if_some old.taken (λ before. HasAnswered line before o old new) (λ before taken. record {
    item = item;
    reply = reply;
    acts_are = acts;
    replies_are = replies;
    asked = asked;
    clock = clock;
    ends = ends before taken;
  }),
)

-- A command other than a session asked requests alone.
pub only_asks : (sure : Bool) (c : Command) (first : At) (last : Place) (old_left old_taken told left taken to_tell : Option (List ℕ)) (e : Ending) (acts : List Act) (replies : List Reply) (blamed : List (List ℕ))
    → CameTo sure c first last old_left old_taken told left taken to_tell e acts replies blamed → OnlyAsks c acts
only_asks sure session first last old_left old_taken told left taken to_tell e acts replies blamed came = tt
only_asks sure ingest first last old_left old_taken told left taken to_tell e acts replies blamed came = (came.0, came.1)
only_asks sure (serve clients rounds) first last old_left old_taken told left taken to_tell e acts replies blamed came = absurd came
only_asks sure (drill seed traces) first last old_left old_taken told left taken to_tell e acts replies blamed came = (came.0, came.1)
only_asks sure (Alone line) first last old_left old_taken told left taken to_tell e acts replies blamed came = (came.0 ∷ [], came.2)

-- ---- in none

-- no store
abbrev pub nowhere : At
nowhere = record { machine = new_machine (record { base = []; start = 0; entries = [] }); faults = 0 }

-- a run whose store wasn't opened
abbrev pub unopened : Ending → Outcome
unopened e = record { ending = e; opened = false; moment = 0; first = nowhere; acts = []; refused = []; replies = []; last = opened_at nowhere }

-- nothing was asked
none_asked : (c : Command) → OnlyAsks c []
none_asked session = tt
none_asked ingest = ([], refl)
none_asked (serve clients rounds) = ([], refl)
none_asked (drill seed traces) = ([], refl)
none_asked (Alone line) = ([], refl)

no_truth : IsTrue false → ⊥
no_truth e = let bad : false ≡ true = e in cc

-- It keeps what was stored where each image since its start does.
pub unopened_recovers : {D : Type 0} (g : Ghosts D) (disk later : D) (e : Ending) → (e ≢ NotOpened → LeavesAlone g disk later)
    → ((image : Image) → g.left_since later (g.moment disk) image → Reached KeepsStored (g.may_leave disk) image) → Recovers g disk later (unopened e)
unopened_recovers g disk later e alone kept = record {
  begins = λ opened. absurd (no_truth opened);
  returned = λ opened. absurd (no_truth opened);
  kept_up = λ opened. absurd (no_truth opened);
  unopened = λ closed. alone;
  found = λ opened. absurd (no_truth opened);
  any_moment = λ image left. inl (kept image left);
  tidy = λ at_first image left. (let was = kept image left in was.2.tidy (at_first was.0 was.1));
}

-- a disk that wasn't touched is left alone
pub left_same : {D : Type 0} (g : Ghosts D) (only_now : (disk : D) (image : Image) → g.left_since disk (g.moment disk) image → g.may_leave disk image) (disk : D) → LeavesAlone g disk disk
left_same g only_now disk = record {
  images = run_same g.moment g.left_since g.may_leave KeepsList disk list_same (only_now disk);
  bytes = list_same (g.held disk);
}

-- a disk that wasn't touched
pub untouched_recovers : {D : Type 0} (g : Ghosts D) (only_now : (disk : D) (image : Image) → g.left_since disk (g.moment disk) image → g.may_leave disk image) (disk : D) (e : Ending)
    → Recovers g disk disk (unopened e)
untouched_recovers g only_now disk e = unopened_recovers g disk disk e (λ other. left_same g only_now disk) (λ image left. (image, only_now disk image left, keeps_same image))

-- Memory ran out for the words.
pub starved_runs : (told : Bool) (words : List (List ℕ)) (old : Edges) → IsRunOf told words (unopened Starved) old old
starved_runs told words old = record {
  words_fit = fits (word_faults words);
  does = λ c s. inr (refl, record { no_acts = refl; no_replies = refl; no_refused = refl; left = refl; clock = inr refl; ends = refl; quiet = λ not. refl });
  asks = λ c s. none_asked c;
  session = (refl, refl);
  cause = tt;
}
  where
    fits : (k : Kinds) → FitsWords k Starved
    fits [] = λ e. let bad : ⊥ = cc in bad
    fits (k ∷ ks) = inr refl

-- The words were refused.
pub refused_runs : (told : Bool) (words : List (List ℕ)) (old : Edges) → word_faults words ≢ [] → IsRunOf told words (unopened BadWords) old old
refused_runs told words old faulty = record {
  words_fit = fits (word_faults words) faulty;
  does = λ c s. absurd (faulty (spelled_clean words c s));
  asks = λ c s. none_asked c;
  session = (refl, refl);
  cause = tt;
}
  where
    fits : (k : Kinds) → k ≢ [] → FitsWords k BadWords
    fits [] not = absurd (not refl)
    fits (k ∷ ks) not = inl refl

-- ---- where the store wasn't opened

-- It wasn't opened for a cause, and the run ended so.
pub unopened_done : (sure : Bool) (c : Command) (error : OpenError) (e : Ending) (old new : Edges) → new.left ≡ old.left → new.moments ≡ after_moment old.moments → IsRefusedStore error e old.taken new.taken
    → (e ≡ WriteFault → Rose old.sink_faults new.sink_faults)
    → (error ≡ open_errors.Fault → Raised old.disk_faults new.disk_faults) → (error ≢ open_errors.Fault → new.disk_faults ≡ old.disk_faults)
    → new.far_writes ≡ old.far_writes
    → ((file at : ℕ) → error ≡ open_errors.NotStore file at → IsNoStore file at old.held) → HasDone sure c (unopened e) old new
unopened_done sure c open_errors.Fault e old new left moment (is, taken) write fault quiet near broken =
    subst (λ (k : Ending). HasDone sure c (unopened k) old new) (sym is) (record {
      does = inr (refl, record { no_acts = refl; no_replies = refl; no_refused = refl; left = left; clock = moment; ends = taken; quiet = λ not. absurd (not refl) });
      asks = none_asked c;
      session = (refl, refl);
      cause = (fault refl, near);
      asked = λ e. let bad : ⊥ = cc in bad;
    })
unopened_done sure c open_errors.Memory e old new left moment (is, taken) write fault quiet near broken =
    subst (λ (k : Ending). HasDone sure c (unopened k) old new) (sym is) (record {
      does = inr (refl, record { no_acts = refl; no_replies = refl; no_refused = refl; left = left; clock = inl moment; ends = taken; quiet = λ not. quiet (λ e. let bad : ⊥ = cc in bad) });
      asks = none_asked c;
      session = (refl, refl);
      cause = tt;
      asked = λ e. let bad : ⊥ = cc in bad;
    })
unopened_done sure c (open_errors.NotStore file at) e old new left moment (inl (is, taken)) write fault quiet near broken =
    subst (λ (k : Ending). HasDone sure c (unopened k) old new) (sym is) (record {
      does = inr (refl, record { no_acts = refl; no_replies = refl; no_refused = refl; left = left; clock = moment; ends = taken; quiet = λ not. quiet (λ e. let bad : ⊥ = cc in bad) });
      asks = none_asked c;
      session = (refl, refl);
      cause = broken file at refl;
      asked = λ e. let bad : ⊥ = cc in bad;
    })
unopened_done sure c (open_errors.NotStore file at) e old new left moment (inr (inl (is, taken))) write fault quiet near broken =
    subst (λ (k : Ending). HasDone sure c (unopened k) old new) (sym is) (record {
      does = inr (refl, record { no_acts = refl; no_replies = refl; no_refused = refl; left = left; clock = inl moment; ends = taken; quiet = λ not. quiet (λ e. let bad : ⊥ = cc in bad) });
      asks = none_asked c;
      session = (refl, refl);
      cause = tt;
      asked = λ e. let bad : ⊥ = cc in bad;
    })
unopened_done sure c (open_errors.NotStore file at) e old new left moment (inr (inr (is, taken))) write fault quiet near broken =
    subst (λ (k : Ending). HasDone sure c (unopened k) old new) (sym is) (record {
      does = inr (refl, record { no_acts = refl; no_replies = refl; no_refused = refl; left = left; clock = moment; ends = (file, at, broken file at refl, taken); quiet = λ not. quiet (λ e. let bad : ⊥ = cc in bad) });
      asks = none_asked c;
      session = (refl, refl);
      cause = write is;
      asked = λ e. let bad : ⊥ = cc in bad;
    })

-- ---- where the store wasn't opened

-- An ending other than that of a fault had another cause.
pub no_fault : (error : OpenError) (e : Ending) (old new : Option (List ℕ)) → IsRefusedStore error e old new → e ≢ NotOpened → error ≢ open_errors.Fault
no_fault open_errors.Fault e old new told not = λ is. not told.0
no_fault open_errors.Memory e old new told not = λ is. let bad : ⊥ = cc in bad
no_fault (open_errors.NotStore file at) e old new told not = λ is. let bad : ⊥ = cc in bad

neither : (n s : ℕ) → s ≡ n → n ≢ 4 → n ≢ 5 → (s ≡ 4) ⊎ (s ≡ 5) → ⊥
neither n s is four five (inl e) = four (sym is ∙ e)
neither n s is four five (inr e) = five (sym is ∙ e)

-- These statuses are those of a store that wasn't opened.
pub ended_before : (e : Ending) (s : ℕ) → s ≡ status_of e → (s ≡ 4) ⊎ (s ≡ 5) → IsPastOpening e → ⊥
ended_before Answered s is early past = neither 0 s is (λ e. omega (arith, e)) (λ e. omega (arith, e)) early
ended_before WriteFault s is early past = neither 1 s is (λ e. omega (arith, e)) (λ e. omega (arith, e)) early
ended_before BadWords s is early past = past
ended_before ReadFault s is early past = neither 3 s is (λ e. omega (arith, e)) (λ e. omega (arith, e)) early
ended_before NotOpened s is early past = past
ended_before (NotStore file at) s is early past = past
ended_before Starved s is early past = neither 6 s is (λ e. omega (arith, e)) (λ e. omega (arith, e)) early
ended_before Refused s is early past = neither 7 s is (λ e. omega (arith, e)) (λ e. omega (arith, e)) early
ended_before Spent s is early past = neither 8 s is (λ e. omega (arith, e)) (λ e. omega (arith, e)) early
