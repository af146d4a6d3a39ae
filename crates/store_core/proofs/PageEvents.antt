-- A page that is read, as an event of a core.
use Rattle.std.proofs.Common.{◌≡◌, inl, inr, ℕ, ◌+◌, ◌-◌, ◌^◌, ◌<◌, ◌≤◌, min, List, [], ◌∷◌, ◌++◌, length, take, drop, Result, Ok, Err, IsOk, IsErr, IsTrue, refl, sym, ◌∙◌, ap, subst, arith, length-drop}
use Rattle.std.specs.Prelude.{replicate, OnOk}
use Rattle.std.proofs.Math.Seq.{take-append-add, take-length}
use Rattle.std.proofs.lemmas.Bool.{cases_lt}
use Rattle.std.proofs.lemmas.List.{append-nil, take-append-le, drop-replicate, take-replicate, length-replicate}
use Rattle.span_types.specs.declared.errors.Failed.{Failed}
use Rattle.disk_model.specs.Calls.{Counts}
use Rattle.disk_model.specs.Images.{bytes_of}
use Rattle.disk_model.specs.Crash.{Untouched, Run}
use Rattle.disk_model.specs.declared.disk.Device.{Ghosts}
use Rattle.disk_model.proofs.Runs.{run_untouched, untouched_same}
use Rattle.store_model.specs.Event.{Reply}
use Rattle.store_model.specs.Event.Event.{ReadPage}
use Rattle.store_model.specs.Event.Reply.{Page, Refused}
use Rattle.store_model.specs.Event.Refusal.{Fault}
use Rattle.store_model.specs.Step.{Machine, Step}
use Rattle.store_model.specs.Step.Step.{Succeeds, Unread}
use Rattle.store_state.specs.Calls.{RoseAtMost}
use Rattle.store_state.specs.Replies.{page_reply}
use Rattle.store_state.specs.Written.{page_of}
use Rattle.store_images.specs.Stored.{KeepsStored}
use Rattle.store_images.proofs.Keeping.{keeps_same}
use Rattle.store_core.specs.declared.store.Core.{Core}
use Rattle.store_core.specs.Cores.{StandsFor}
use Rattle.store_files.specs.LogReading.{tail_of}
use Rattle.page_cache.specs.Frames.{Frame}
use Rattle.store_core.proofs.Now.{FramesMoved, StandsNow}
use Rattle.store_core.specs.Events.{Did}
use Rattle.store_files.specs.Files.{read_over}
use Rattle.store_files.proofs.Apart.{below_same, settled_below}
use Rattle.store_core.proofs.Counted.{Counted, counted_none, counted_fine, counted_fault, counted_rose}
use Rattle.store_core.proofs.Kept.{stands_kept, did_kept, described_below}
use Rattle.store_core.proofs.Logged.{logged_kept}
use Rattle.store_core.proofs.OpenJobs.{fresh_moved}
use Rattle.store_core.proofs.PushEvents.{OnlyNow}
use Rattle.store_core.proofs.Quiet.{none_begun, adds_none}

-- ---- the bytes

pub filled : (n count : ℕ) (xs : List ℕ) → count ≡ min n (length xs) → take count xs ++ drop count (replicate n 0) ≡ take n (xs ++ replicate n 0)
filled n count xs is = elim (cases_lt (length xs) n) [
  | inl short ↦ (
      let all : count ≡ length xs = omega (arith, is, short) in
      let rest : ℕ = n - length xs in
      let whole : length xs + rest ≡ n = omega (arith, short) in
      ap (λ (k : ℕ). take k xs ++ drop k (replicate n 0)) all
      ∙ ap (λ (l : List ℕ). l ++ drop (length xs) (replicate n 0)) (take-length xs)
      ∙ ap (λ (l : List ℕ). xs ++ l) (drop-replicate (length xs) n 0 ∙ sym (take-replicate rest n 0 (omega arith)))
      ∙ sym (take-append-add xs (replicate n 0) rest)
      ∙ ap (λ (k : ℕ). take k (xs ++ replicate n 0)) whole)
  | inr long ↦ (
      let all : count ≡ n = omega (arith, is, long) in
      let none : n - n ≡ 0 = omega arith in
      ap (λ (k : ℕ). take k xs ++ drop k (replicate n 0)) all
      ∙ ap (λ (l : List ℕ). take n xs ++ l) (drop-replicate n n 0 ∙ ap (λ (k : ℕ). replicate k 0) none)
      ∙ append-nil (take n xs)
      ∙ sym (take-append-le n xs (replicate n 0) long))
]

pub page_is : (bytes : List ℕ) (at : ℕ) (buf : List ℕ) → buf ≡ replicate 4096 0 → read_over bytes at buf ≡ take 4096 (drop at bytes ++ replicate 4096 0)
page_is bytes at buf zeros = ap (read_over bytes at) zeros ∙ of_size 4096
  where
    of_size : (n : ℕ) → read_over bytes at (replicate n 0) ≡ take n (drop at bytes ++ replicate n 0)
    of_size n =
        let size = length-replicate {A = ℕ} n 0 in
        let rest = length-drop at bytes in
        filled n (min (length (replicate n 0)) (length bytes - at)) (drop at bytes) (omega (arith, size, rest))

pub past_is : (bytes : List ℕ) (at : ℕ) (buf : List ℕ) → buf ≡ replicate 4096 0 → length bytes ≤ at → buf ≡ take 4096 (drop at bytes ++ replicate 4096 0)
past_is bytes at buf zeros past = zeros ∙ of_size 4096
  where
    none : drop at bytes ≡ []
    none = no_items (drop at bytes) (let rest = length-drop at bytes in omega (arith, rest, past))
      where
        no_items : (xs : List ℕ) → length xs ≡ 0 → xs ≡ []
        no_items [] is = refl
        no_items (x ∷ xs) is = absurd (omega (arith, is))

    of_size : (n : ℕ) → replicate n 0 ≡ take n (drop at bytes ++ replicate n 0)
    of_size n = sym (ap (λ (l : List ℕ). take n (l ++ replicate n 0)) none ∙ take-replicate n n 0 (omega arith))

pub past_end : (bytes : List ℕ) (at : ℕ) → length bytes < 2 ^ 63 → 2 ^ 64 ≤ at → length bytes ≤ at
past_end bytes at near high = omega (arith, near, high)

-- ---- the event

module _ {D : Type 0} (g : Ghosts D) (old : Core D) (disk : D) (pin block page : ℕ) (untouched : Untouched g.tells g.held g.may_leave g.moment g.left_since old.disk disk)
    (calls : RoseAtMost 1 (g.calls old.disk) (g.calls disk)) (reads : RoseAtMost 1 (g.reads old.disk) (g.reads disk))
    (frames : List Frame) (moved : FramesMoved g old frames) where
  run_keeps : IsTrue (g.tells old.disk) → (m : Machine) → StandsNow g old m → Run KeepsStored g.moment g.left_since g.may_leave old.disk disk
  run_keeps told m s = run_untouched g.tells g.held g.may_leave g.moment g.left_since KeepsStored old.disk disk keeps_same untouched

  after : (told told' : Type 0) → (told' → told) → (told → IsTrue (g.tells old.disk)) → (m : Machine) (reply : Reply) → StandsFor told (g.held old.disk) (g.may_leave old.disk) old.state m
      → Step (g.faults old.disk) (g.faults disk) m (ReadPage pin block page) reply m → StandsFor told' (g.held disk) (g.may_leave disk) old.state m
  after told told' known tells m reply s step =
      stands_kept told told' (g.held old.disk) (g.held disk) (g.may_leave old.disk) (g.may_leave disk) old.state old.state m m (g.faults old.disk) (g.faults disk) (ReadPage pin block page) reply known s step refl s.has refl
      (λ t image left. (image, untouched.crash image left, keeps_same image))
      (λ t. described_below (g.held old.disk) (g.held disk) old.state m s.has (λ f below. untouched.same_bytes (tells t) f) (s.built t))
      (λ t free. settled_below (g.held old.disk) (g.may_leave old.disk) old.state.list (s.settled t free).lies.ready (g.held disk) (g.may_leave disk) (λ f below. untouched.same_bytes (tells t) f)
      (λ image left. (image, untouched.crash image left, below_same old.state.list.next_file image)) m.state.blocks (tail_of old.state.segment) m.history (s.settled t free))
      (λ free. free)
      (λ t free. fresh_moved old.state.jobs.flush (g.held old.disk) (g.held disk) (g.may_leave old.disk) (g.may_leave disk) (λ mine known. untouched.same_bytes (tells t) mine.files.segment)
      (λ mine known b only image left. only image (untouched.crash image left)) (s.fresh t free))
      (λ t free. logged_kept (g.held old.disk) (g.held disk) old.state.list (g.faults old.disk) (g.faults disk) m m (ReadPage pin block page) reply s.has.rules (λ f below. untouched.same_bytes (tells t) f) step refl (s.logged t free))

  did_page : (bytes : List ℕ) → (IsTrue (g.tells old.disk) → bytes ≡ page_of (bytes_of (g.held old.disk) block) page) → Counted g 0 (Page bytes) old.disk disk → Did g old (ReadPage pin block page) (Page bytes) (record old { disk = disk; cache = frames })
  did_page bytes its counts =
      did_kept g old disk frames moved old.state refl (ReadPage pin block page) tt (Page bytes) counts run_keeps refl refl
      (λ m s. (m, after (IsTrue (g.tells old.disk)) (IsTrue (g.tells disk)) (λ t. subst IsTrue untouched.telling t) (λ t. t) m (Page bytes) s (Succeeds refl (bytes, refl, refl)), refl, Succeeds refl (bytes, refl, refl)))
      (λ m s. (m, after ⊥ ⊥ (λ bad. bad) (λ bad. absurd bad) m (Page bytes) s (Succeeds refl (bytes, refl, refl)), Succeeds refl (bytes, refl, refl)))
      (λ told m s hold is_open stays f among. untouched.same_bytes told f) (λ told m s f is. untouched.same_bytes told f)
      (λ told f among. none_begun (Page bytes) f _ refl among) its (λ shows h. tt)
      calls reads

  no_page : Counted g 0 (Refused Fault) old.disk disk → Did g old (ReadPage pin block page) (Refused Fault) (record old { disk = disk; cache = frames })
  no_page counts =
      let rose = counted_rose g old.disk disk 0 counts in
      did_kept g old disk frames moved old.state refl (ReadPage pin block page) tt (Refused Fault) counts run_keeps refl (adds_none (ReadPage pin block page) refl (Refused Fault) _)
      (λ m s. (m, after (IsTrue (g.tells old.disk)) (IsTrue (g.tells disk)) (λ t. subst IsTrue untouched.telling t) (λ t. t) m (Refused Fault) s (Unread refl refl rose refl), refl, Unread refl refl rose refl))
      (λ m s. (m, after ⊥ ⊥ (λ bad. bad) (λ bad. absurd bad) m (Refused Fault) s (Unread refl refl rose refl), Unread refl refl rose refl))
      (λ told m s hold is_open stays f among. untouched.same_bytes told f) (λ told m s f is. untouched.same_bytes told f)
      (λ told f among. none_begun (Refused Fault) f _ refl among) (λ told. tt) (λ shows h. tt)
      calls reads

  pub page_done : {U : Type 0} (result : Result U Failed) (bytes : List ℕ) → (IsTrue (g.tells old.disk) → OnOk result (bytes ≡ page_of (bytes_of (g.held old.disk) block) page))
      → Counts g 0 (IsOk result) (IsErr result) old.disk disk
      → Did g old (ReadPage pin block page) (page_reply bytes result) (record old { disk = disk; cache = frames })
  page_done (Ok u) bytes its run = did_page bytes its (counted_fine g old.disk disk 0 0 (λ low. low) _ _ run refl (Page bytes) (λ is. let bad : Page bytes ≡ Refused Fault = is in absurd cc))
  page_done (Err e) bytes its run = no_page (counted_fault g old.disk disk 0 0 (λ low. low) _ _ run refl)

-- A page that is answered without a call of the disk.
pub page_here : {D : Type 0} (g : Ghosts D) (only_now : OnlyNow g) (old : Core D) (pin block page : ℕ) (frames : List Frame) (moved : FramesMoved g old frames) (bytes : List ℕ)
    → (IsTrue (g.tells old.disk) → bytes ≡ page_of (bytes_of (g.held old.disk) block) page) → Did g old (ReadPage pin block page) (Page bytes) (record old { cache = frames })
page_here g only_now old pin block page frames moved bytes its =
    did_page g old old.disk pin block page (untouched_same g.tells g.held g.may_leave g.moment g.left_since old.disk (only_now old.disk)) (omega arith, omega arith) (omega arith, omega arith)
    frames moved bytes its (counted_none g 0 (Page bytes) old.disk (λ is. let bad : Page bytes ≡ Refused Fault = is in absurd cc))
