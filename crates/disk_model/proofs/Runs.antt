-- How runs join, and which calls are runs.
use Rattle.std.proofs.Common.{◌≡◌, ℕ, List, Bool, refl, sym, ◌∙◌, subst}
use Rattle.std.specs.Prelude.{IsTrue}
use Rattle.disk_model.specs.Images.{Image, SameBytes, OnFile}
use Rattle.disk_model.specs.Crash.{Reached, Within, Elapses, LeavesOnly, Run, Untouched}
use Rattle.disk_model.proofs.Moments.{started, joined, widened, still}
use Rattle.disk_model.proofs.Passing.{one_change}

-- each image is a step from itself, and two steps are one
abbrev pub IsReflexive : (Image → Image → Type 0) → Type 0
IsReflexive step = (image : Image) → step image image

abbrev pub IsTransitive : (Image → Image → Type 0) → Type 0
IsTransitive step = (a b c : Image) → step a b → step b c → step a c

module _ {D : Type 0} (moment : D → ℕ) (left_since : D → ℕ → Image → Type 0) (may_leave : D → Image → Type 0) where
  -- a weaker step
  pub run_more : (step more : Image → Image → Type 0) (old new : D) → Run step moment left_since may_leave old new
      → ((origin image : Image) → may_leave old origin → step origin image → more origin image) → Run more moment left_since may_leave old new
  run_more step more old new run weaker =
      let then : (image : Image) → Reached step (may_leave old) image → Reached more (may_leave old) image =
      λ image r. (r.0, r.1, weaker r.0 image r.1 r.2) in
      record {
        since = widened moment left_since old new (Reached step (may_leave old)) (Reached more (may_leave old)) run.since then;
        now = λ image left. then image (run.now image left);
      }

  -- calls that change nothing
  pub run_quiet : (step : Image → Image → Type 0) (old new : D) → IsReflexive step → LeavesOnly moment left_since old new (may_leave old)
      → Within (may_leave old) (may_leave new) → Run step moment left_since may_leave old new
  run_quiet step old new same since within =
      let here : (image : Image) → may_leave old image → Reached step (may_leave old) image = λ image left. (image, left, same image) in
      record {
        since = widened moment left_since old new (may_leave old) (Reached step (may_leave old)) since here;
        now = λ image left. here image (within image left);
      }

  -- one call that changes nothing, as a sync
  pub run_call : (step : Image → Image → Type 0) (old new : D) → IsReflexive step
      → ((image : Image) → left_since old (moment old) image → may_leave old image) → Within (may_leave old) (may_leave new)
      → Elapses (moment old) (moment new) (left_since old) (left_since new) (may_leave new) → Run step moment left_since may_leave old new
  run_call step old new same only_now within time =
      run_quiet step old new same (still moment left_since old new (may_leave old) (may_leave new) only_now within time) within

  -- no call
  pub run_same : (step : Image → Image → Type 0) (disk : D) → IsReflexive step
      → ((image : Image) → left_since disk (moment disk) image → may_leave disk image) → Run step moment left_since may_leave disk disk
  run_same step disk same only_now = run_quiet step disk disk same (started moment left_since disk (may_leave disk) only_now) (λ image left. left)

  -- one run after another
  pub run_then : (first second both : Image → Image → Type 0) (old mid new : D)
      → Run first moment left_since may_leave old mid → Run second moment left_since may_leave mid new
      → ((origin image : Image) → first origin image → both origin image)
      → ((a b c : Image) → first a b → second b c → both a c)
      → Run both moment left_since may_leave old new
  run_then first second both old mid new one two early late =
      let back : (image : Image) → Reached second (may_leave mid) image → Reached both (may_leave old) image =
      λ image r. let o = one.now r.0 r.1 in (o.0, o.1, late o.0 r.0 image o.2 r.2) in
      record {
        since = joined moment left_since old mid new (Reached both (may_leave old))
            (run_more first both old mid one (λ origin image possible s. early origin image s)).since
            (widened moment left_since mid new (Reached second (may_leave mid)) (Reached both (may_leave old)) two.since back);
        now = λ image left. back image (two.now image left);
      }

  pub run_on : (step : Image → Image → Type 0) (old mid new : D) → IsTransitive step
      → Run step moment left_since may_leave old mid → Run step moment left_since may_leave mid new → Run step moment left_since may_leave old new
  run_on step old mid new join one two = run_then step step step old mid new one two (λ origin image s. s) join

  -- one call that changes one file
  pub run_change : (file : ℕ) (change : List ℕ → List ℕ → Type 0) → ((bytes : List ℕ) → change bytes bytes) → (old new : D)
      → ((image : Image) → left_since old (moment old) image → may_leave old image)
      → Within (Reached (OnFile file change) (may_leave old)) (may_leave new)
      → Elapses (moment old) (moment new) (left_since old) (left_since new) (may_leave new)
      → Run (OnFile file change) moment left_since may_leave old new
  run_change file change same old new only_now follows time = record {
    since = one_change moment left_since may_leave file change same old new only_now follows time;
    now = follows;
  }

module _ {D : Type 0} (tells : D → Bool) (held : D → Image) (may_leave : D → Image → Type 0) (moment : D → ℕ) (left_since : D → ℕ → Image → Type 0) where
  pub untouched_same : (disk : D) → ((image : Image) → left_since disk (moment disk) image → may_leave disk image)
      → Untouched tells held may_leave moment left_since disk disk
  untouched_same disk only_now = record {
    telling = refl;
    same_bytes = λ told file. refl;
    crash = λ image left. left;
    any_moment = started moment left_since disk (may_leave disk) only_now;
  }

  -- one quiet call
  pub untouched_call : (old new : D) → ((image : Image) → left_since old (moment old) image → may_leave old image) → tells new ≡ tells old
      → (IsTrue (tells old) → SameBytes (held old) (held new)) → Within (may_leave old) (may_leave new)
      → Elapses (moment old) (moment new) (left_since old) (left_since new) (may_leave new)
      → Untouched tells held may_leave moment left_since old new
  untouched_call old new only_now telling same within time = record {
    telling = telling;
    same_bytes = same;
    crash = within;
    any_moment = still moment left_since old new (may_leave old) (may_leave new) only_now within time;
  }

  pub untouched_then : (old mid new : D) → Untouched tells held may_leave moment left_since old mid → Untouched tells held may_leave moment left_since mid new
      → Untouched tells held may_leave moment left_since old new
  untouched_then old mid new first second = record {
    telling = second.telling ∙ first.telling;
    same_bytes = λ told file. second.same_bytes (subst IsTrue (sym first.telling) told) file ∙ first.same_bytes told file;
    crash = λ image left. first.crash image (second.crash image left);
    any_moment = joined moment left_since old mid new (may_leave old) first.any_moment
        (widened moment left_since mid new (may_leave mid) (may_leave old) second.any_moment first.crash);
  }

  pub run_untouched : (step : Image → Image → Type 0) (old new : D) → IsReflexive step → Untouched tells held may_leave moment left_since old new
      → Run step moment left_since may_leave old new
  run_untouched step old new same run = run_quiet moment left_since may_leave step old new same run.any_moment run.crash
