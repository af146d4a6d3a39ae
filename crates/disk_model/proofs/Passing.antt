-- How runs that change one file alone join.
use Rattle.std.proofs.Common.{◌≡◌, ◌≢◌, ℕ, List, refl, ◌∙◌, subst, arith}
use Rattle.disk_model.specs.Images.{Image, bytes_of, OnFile}
use Rattle.disk_model.specs.Bytes.{Torn, HalfCut}
use Rattle.disk_model.specs.Crash.{Reached, Within, OnlyBytes, Elapses, LeavesOnly, ButFor, RunInFile}
use Rattle.disk_model.proofs.Moments.{started, goes_on, widened, joined}

-- a write or a cut that changes nothing
pub torn_same : (at count : ℕ) (bytes : List ℕ) → Torn at count bytes bytes
torn_same at count bytes = record { no_shorter = omega arith; no_longer = omega arith; same = λ offset inside outside. refl }

pub cut_same : (len : ℕ) (bytes : List ℕ) → HalfCut len bytes bytes
cut_same len bytes = record { no_shorter = omega arith; no_longer = omega arith; same = λ offset below was is. refl }

-- what differs in this file alone from what differs in it alone
pub but_for_from : (file : ℕ) (P Q : List ℕ → Type 0) (old mid : Image → Type 0) → Within (ButFor file Q old) mid → (image : Image) → ButFor file P mid image → ButFor file P old image
but_for_from file P Q old mid within image b =
    let first = within b.origin b.possible in
    record {
      origin = first.origin;
      possible = first.possible;
      besides = λ other differs. b.besides other differs ∙ first.besides other differs;
      here = b.here;
    }

pub but_for_more : (file : ℕ) (P Q : List ℕ → Type 0) (old : Image → Type 0) → ((bytes : List ℕ) → P bytes → Q bytes) → (image : Image) → ButFor file P old image → ButFor file Q old image
but_for_more file P Q old more image b = record { origin = b.origin; possible = b.possible; besides = b.besides; here = more (bytes_of image file) b.here }

-- a step in one file, from images in which its bytes are known
pub but_for_reached : (file : ℕ) (step : List ℕ → List ℕ → Type 0) (known : List ℕ) (old : Image → Type 0) → OnlyBytes file known old → (image : Image) → Reached (OnFile file step) old image → ButFor file (step known) old image
but_for_reached file step known old only image r = record {
  origin = r.0;
  possible = r.1;
  besides = r.2.besides;
  here = subst (λ (b : List ℕ). step b (bytes_of image file)) (only r.0 r.1) r.2.changed;
}

-- what each image has in another file stays over a change of this one
pub other_stays : (file other : ℕ) (step : List ℕ → List ℕ → Type 0) (bytes : List ℕ) (old new : Image → Type 0) → other ≢ file → OnlyBytes other bytes old
    → Within (Reached (OnFile file step) old) new → OnlyBytes other bytes new
other_stays file other step bytes old new differs only follows image left =
    let r = follows image left in
    r.2.besides other differs ∙ only r.0 r.1

-- over a run of changes of it
pub other_stays_run : (file other : ℕ) (P : List ℕ → Type 0) (bytes : List ℕ) (old new : Image → Type 0) → other ≢ file → OnlyBytes other bytes old
    → Within (ButFor file P old) new → OnlyBytes other bytes new
other_stays_run file other P bytes old new differs only within image left =
    let b = within image left in
    b.besides other differs ∙ only b.origin b.possible

-- and over calls that change nothing
pub all_stay : (file : ℕ) (bytes : List ℕ) (old new : Image → Type 0) → OnlyBytes file bytes old → Within old new → OnlyBytes file bytes new
all_stay file bytes old new only within image left = only image (within image left)

module _ {D : Type 0} (moment : D → ℕ) (left_since : D → ℕ → Image → Type 0) (may_leave : D → Image → Type 0) where
  -- from the general form
  pub passes_known : (file : ℕ) (step : List ℕ → List ℕ → Type 0) (known : List ℕ) (old new : D)
      → LeavesOnly moment left_since old new (Reached (OnFile file step) (may_leave old))
      → Within (Reached (OnFile file step) (may_leave old)) (may_leave new)
      → OnlyBytes file known (may_leave old)
      → RunInFile moment left_since may_leave file (step known) (step known) old new
  passes_known file step known old new run now only = record {
    since = widened moment left_since old new (Reached (OnFile file step) (may_leave old)) (ButFor file (step known) (may_leave old)) run (but_for_reached file step known (may_leave old) only);
    now = λ image left. but_for_reached file step known (may_leave old) only image (now image left);
  }

  -- weaker properties
  pub passes_more : (file : ℕ) (P P' Q Q' : List ℕ → Type 0) (old new : D) → RunInFile moment left_since may_leave file P Q old new
      → ((bytes : List ℕ) → P bytes → P' bytes) → ((bytes : List ℕ) → Q bytes → Q' bytes) → RunInFile moment left_since may_leave file P' Q' old new
  passes_more file P P' Q Q' old new run more after = record {
    since = widened moment left_since old new (ButFor file P (may_leave old)) (ButFor file P' (may_leave old)) run.since (but_for_more file P P' (may_leave old) more);
    now = λ image left. but_for_more file Q Q' (may_leave old) after image (run.now image left);
  }

  -- where each image then has just these bytes
  pub passes_only : (file : ℕ) (P Q : List ℕ → Type 0) (bytes : List ℕ) (old new : D) → RunInFile moment left_since may_leave file P Q old new
      → OnlyBytes file bytes (may_leave new) → RunInFile moment left_since may_leave file P (λ c. c ≡ bytes) old new
  passes_only file P Q bytes old new run only = record {
    since = run.since;
    now = λ image left.
        let b = run.now image left in
        record { origin = b.origin; possible = b.possible; besides = b.besides; here = only image left };
  }

  -- one run after another, in the same file
  pub passes_then : (file : ℕ) (P Q P' R : List ℕ → Type 0) (old mid new : D) → RunInFile moment left_since may_leave file P Q old mid → RunInFile moment left_since may_leave file P' R mid new
      → ((bytes : List ℕ) → P' bytes → P bytes) → RunInFile moment left_since may_leave file P R old new
  passes_then file P Q P' R old mid new first second more = record {
    since = joined moment left_since old mid new (ButFor file P (may_leave old)) first.since
        (widened moment left_since mid new (ButFor file P' (may_leave mid)) (ButFor file P (may_leave old)) second.since
        (λ image b. but_for_from file P Q (may_leave old) (may_leave mid) first.now image (but_for_more file P' P (may_leave mid) more image b)));
    now = λ image left. but_for_from file R Q (may_leave old) (may_leave mid) first.now image (second.now image left);
  }

  -- a run in one file at the end of a run in any files
  pub leaves_then_passes : (file : ℕ) (P : Image → Type 0) (Q R : List ℕ → Type 0) (old mid new : D) → LeavesOnly moment left_since old mid P → RunInFile moment left_since may_leave file Q R mid new
      → ((image : Image) → ButFor file Q (may_leave mid) image → P image) → LeavesOnly moment left_since old new P
  leaves_then_passes file P Q R old mid new first second more =
      joined moment left_since old mid new P first (widened moment left_since mid new (ButFor file Q (may_leave mid)) P second.since more)

  -- one call that changes one file
  pub one_change : (file : ℕ) (step : List ℕ → List ℕ → Type 0) → ((bytes : List ℕ) → step bytes bytes) → (old new : D)
      → ((image : Image) → left_since old (moment old) image → may_leave old image)
      → Within (Reached (OnFile file step) (may_leave old)) (may_leave new)
      → Elapses (moment old) (moment new) (left_since old) (left_since new) (may_leave new)
      → LeavesOnly moment left_since old new (Reached (OnFile file step) (may_leave old))
  one_change file step same old new only_now follows time =
      goes_on moment left_since old old new (Reached (OnFile file step) (may_leave old)) (may_leave new)
      (started moment left_since old (Reached (OnFile file step) (may_leave old)) (λ image left. (image, only_now image left, record { besides = λ other differs. refl; changed = same (bytes_of image file) })))
      time follows

  -- and one more call, that only makes it last
  pub one_change_synced : (file : ℕ) (step : List ℕ → List ℕ → Type 0) → ((bytes : List ℕ) → step bytes bytes) → (old mid new : D)
      → ((image : Image) → left_since old (moment old) image → may_leave old image)
      → Within (Reached (OnFile file step) (may_leave old)) (may_leave mid)
      → Elapses (moment old) (moment mid) (left_since old) (left_since mid) (may_leave mid)
      → Within (may_leave mid) (may_leave new)
      → Elapses (moment mid) (moment new) (left_since mid) (left_since new) (may_leave new)
      → LeavesOnly moment left_since old new (Reached (OnFile file step) (may_leave old))
  one_change_synced file step same old mid new only_now follows time within time_two =
      goes_on moment left_since old mid new (Reached (OnFile file step) (may_leave old)) (may_leave new)
      (one_change file step same old mid only_now follows time)
      time_two (λ image left. follows image (within image left))
