-- Events that make no device call.
use Rattle.std.proofs.Common.{◌≡◌, ◌≢◌, inl, inr, ℕ, ◌==◌, List, [], ◌∷◌, None, Option, IsTrue, Bool, true, false, refl, sym, ◌∙◌, subst, arith}
use Rattle.disk_model.specs.Images.{Image, bytes_of}
use Rattle.disk_model.specs.declared.disk.Device.{Ghosts}
use Rattle.disk_model.proofs.Moments.{started}
use Rattle.store_model.specs.Told.{asked_entry}
use Rattle.store_entries.specs.declared.entry.Entry.{Entry}
use Rattle.store_model.specs.State.{is_among}
use Rattle.store_model.specs.Event.{Event, Reply}
use Rattle.store_model.specs.Event.Reply.{Refused}
use Rattle.store_model.specs.Event.Refusal.{Fault}
use Rattle.store_model.specs.Step.{Machine, Step}
use Rattle.store_model.specs.Holds.{own_files}
use Rattle.store_model.proofs.Numbers.{same_number}
use Rattle.store_state.specs.Meaning.{Rewritten}
use Rattle.store_state.specs.Shown.{IsLookTaken}
use Rattle.store_state.specs.Written.{IsPageRead}
use Rattle.store_core.specs.declared.state.CoreState.{CoreState}
use Rattle.store_core.specs.declared.store.Core.{Core}
use Rattle.store_core.specs.Cores.{StandsFor, unsure_of}
use Rattle.store_core.proofs.Counted.{counted_none}
use Rattle.store_core.proofs.ListedBlocks.{whole_same}
use Rattle.store_core.proofs.Now.{StandsNow, did_since, frames_same}
use Rattle.store_state.specs.Calls.{MadeCalls}
use Rattle.store_core.specs.Events.{Did, Between, unsure_after, end_of}

-- no entry gets unsure where the reply is no fault
no_new : (event : Event) (reply : Reply) (unsure : Option Entry) → reply ≢ Refused Fault → unsure_after event reply unsure ≡ unsure
no_new event (Refused Fault) None no_fault = absurd (no_fault refl)
no_new event _ unsure no_fault = refl

-- nor is it where an event is to add none
pub adds_none : (event : Event) → asked_entry event ≡ None → (reply : Reply) (unsure : Option Entry) → unsure_after event reply unsure ≡ unsure
adds_none event none (Refused Fault) None = none
adds_none event none _ unsure = refl

pub none_begun : (reply : Reply) (file : ℕ) (G : Type 0) → own_files reply ≡ [] → is_among file (own_files reply) ≡ true → G
none_begun reply file G none among = absurd (let bad : is_among file [] ≡ true = subst (λ (files : List ℕ). is_among file files ≡ true) none among in cc)

-- the job that begins has this file alone
pub one_begun : (own file : ℕ) (P : ℕ → Type 0) → P own → is_among file (own ∷ []) ≡ true → P file
one_begun own file P its among = by_test (own == file) refl
  where
    by_test : (t : Bool) → (own == file) ≡ t → P file
    by_test true e = subst P (same_number own file e) its
    by_test false e = absurd (let bad : is_among file (own ∷ []) ≡ false = rw e refl in let worse : true ≡ false = sym among ∙ bad in cc)

-- An event that changes the memory alone, and answers no fault and no job.
pub quiet : {D : Type 0} (g : Ghosts D) (only_now : (disk : D) (image : Image) → g.left_since disk (g.moment disk) image → g.may_leave disk image)
    (old : Core D) (state : CoreState) (listed : state.infos.items ≡ old.state.infos.items) (event : Event) (reply : Reply)
    → ((file : ℕ) (bytes : List ℕ) → Rewritten event reply file bytes bytes)
    → reply ≢ Refused Fault → ((n : ℕ) → MadeCalls event reply n n) → own_files reply ≡ [] → unsure_of state ≡ unsure_of old.state
    → ((shows : ℕ → List ℕ) → IsPageRead event reply shows)
    → (IsTrue (g.tells old.disk) → (m : Machine) → StandsNow g (record old { state = state }) m → IsLookTaken reply (λ file. bytes_of (g.held old.disk) file) m.history)
    → ((told : Type 0) (m : Machine) → StandsFor told (g.held old.disk) (g.may_leave old.disk) old.state m → (m' : Machine) × StandsFor told (g.held old.disk) (g.may_leave old.disk) state m' × (m'.history ≡ m.history)
    × Step (g.faults old.disk) (g.faults old.disk) m event reply m')
    → Did g old event reply (record old { state = state })
quiet {D} g only_now old state listed event reply still no_fault no_call begins same page look step = did_since g old _ _ _ refl (λ m s fits. fits) (frames_same event old.cache) (record {
  stepped = λ m stands. let done = step (IsTrue (g.tells old.disk)) m stands in record {
    machine = done.0;
    stands = done.1;
    step = done.3;
    images = λ told. started g.moment g.left_since old.disk (Between m.history (unsure_of old.state) done.0.history (unsure_of state))
        (λ image left. inl (stands.now told image (only_now old.disk image left)));
    unsure = same ∙ sym (no_new event reply (unsure_of old.state) no_fault);
    ended = inr done.2;
  };
  shown = λ m shows. let done = step ⊥ m shows in (done.0, done.1, done.3);
  tidy = λ told m stands tidy. started g.moment g.left_since old.disk _ (λ image left. tidy image (only_now old.disk image left));
  files = λ told m stands hold is_open stays file among. still file _;
  kept = λ told m s file is. refl;
  whole = λ told m s are. whole_same (g.held old.disk) old.state.infos.items state.infos.items listed are;
  empty = λ told file among. none_begun reply file _ begins among;
  page = λ told. page (λ file. bytes_of (g.held old.disk) file);
  look = look;
  counts = counted_none g (end_of old.state event) reply old.disk no_fault;
  calls = no_call _;
  reads = (omega arith, omega arith);
})
