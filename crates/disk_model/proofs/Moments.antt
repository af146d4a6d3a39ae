-- How what a crash may leave goes on over a run of calls.
use Rattle.std.proofs.Common.{inl, inr, ⊎_elim, ℕ, arith}
use Rattle.disk_model.specs.Images.{Image}
use Rattle.disk_model.specs.Crash.{Within, Elapses, LeavesOnly}

module _ {D : Type 0} (moment : D → ℕ) (left_since : D → ℕ → Image → Type 0) where
  -- before the first call
  pub started : (old : D) (P : Image → Type 0) → ((image : Image) → left_since old (moment old) image → P image) → LeavesOnly moment left_since old old P
  started old P here = record {
    later = omega arith;
    each = here;
    before = λ start image le left. inl left;
    keeps = λ start image le left. left;
  }

  -- one call more, after which a crash leaves what has the property
  pub goes_on : (old mid new : D) (P may_leave : Image → Type 0) → LeavesOnly moment left_since old mid P → Elapses (moment mid) (moment new) (left_since mid) (left_since new) may_leave
      → ((image : Image) → may_leave image → P image) → LeavesOnly moment left_since old new P
  goes_on old mid new P may_leave so_far time here = record {
    later = omega (arith, so_far.later, time.later);
    each = λ image left. ⊎_elim (so_far.each image) (here image) (time.nothing_else (moment old) image so_far.later left);
    before = λ start image le left. ⊎_elim (so_far.before start image le) (λ now. inr (here image now)) (time.nothing_else start image (omega (arith, le, so_far.later)) left);
    keeps = λ start image le left. time.keeps start image (omega (arith, le, so_far.later)) (so_far.keeps start image le left);
  }

  -- a weaker property
  pub widened : (old new : D) (P Q : Image → Type 0) → LeavesOnly moment left_since old new P → ((image : Image) → P image → Q image) → LeavesOnly moment left_since old new Q
  widened old new P Q run more = record {
    later = run.later;
    each = λ image left. more image (run.each image left);
    before = λ start image le left. ⊎_elim (λ early. inl early) (λ p. inr (more image p)) (run.before start image le left);
    keeps = run.keeps;
  }

  -- one run after another
  pub joined : (old mid new : D) (P : Image → Type 0) → LeavesOnly moment left_since old mid P → LeavesOnly moment left_since mid new P → LeavesOnly moment left_since old new P
  joined old mid new P first second = record {
    later = omega (arith, first.later, second.later);
    each = λ image left. ⊎_elim (first.each image) (λ p. p) (second.before (moment old) image first.later left);
    before = λ start image le left. ⊎_elim (first.before start image le) (λ p. inr p) (second.before start image (omega (arith, le, first.later)) left);
    keeps = λ start image le left. second.keeps start image (omega (arith, le, first.later)) (first.keeps start image le left);
  }

  -- two properties of one run
  pub both : (old new : D) (P Q : Image → Type 0) → LeavesOnly moment left_since old new P → LeavesOnly moment left_since old new Q
      → LeavesOnly moment left_since old new (λ image. P image × Q image)
  both old new P Q first second = record {
    later = first.later;
    each = λ image left. (first.each image left, second.each image left);
    before = λ start image le left. ⊎_elim (λ early. inl early)
        (λ p. ⊎_elim (λ early. inl early) (λ q. inr (p, q)) (second.before start image le left))
        (first.before start image le left);
    keeps = first.keeps;
  }

  -- a call that changes nothing
  pub still : (old new : D) (may_leave may_later : Image → Type 0) → ((image : Image) → left_since old (moment old) image → may_leave image)
      → Within may_leave may_later → Elapses (moment old) (moment new) (left_since old) (left_since new) may_later
      → LeavesOnly moment left_since old new may_leave
  still old new may_leave may_later only_now within time =
      goes_on old old new may_leave may_later (started old may_leave only_now) time within
