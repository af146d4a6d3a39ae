-- What an event says of the disk's counts, by what its calls say.
use Rattle.std.proofs.Common.{◌≡◌, ◌≢◌, ℕ, ◌+◌, ◌^◌, ◌<◌, Result, IsOk, IsErr, refl, subst, arith}
use Rattle.span_types.specs.Faults.{Rose}
use Rattle.span_types.specs.declared.errors.Failed.{Failed}
use Rattle.disk_model.specs.Calls.{Counts, Calls}
use Rattle.disk_model.specs.Counts.{RoseBy}
use Rattle.disk_model.specs.declared.disk.Device.{Ghosts}
use Rattle.disk_model.proofs.CallRuns.{calls_counts, passes_none, raised_rose}
use Rattle.store_model.specs.Event.{Reply}
use Rattle.store_model.specs.Event.Reply.{Refused}
use Rattle.store_model.specs.Event.Refusal.{Fault}
use Rattle.store_state.specs.Calls.{RoseAtMost}

-- what an event with this reply says, whose furthest byte ends there
abbrev pub Counted : {D : Type 0} → Ghosts D → ℕ → Reply → D → D → Type 0
Counted g end reply old new = Counts g end (reply ≢ Refused Fault) (reply ≡ Refused Fault) old new

module _ {D : Type 0} (g : Ghosts D) where
  -- it made no call
  pub counted_none : (end : ℕ) (reply : Reply) (disk : D) → reply ≢ Refused Fault → Counted g end reply disk disk
  counted_none end reply disk no_fault = record {
    time = passes_none g disk;
    telling = refl;
    later = omega arith;
    quiet = λ _. refl;
    fault = λ fault. absurd (no_fault fault);
    near = λ _. refl;
  }

  module _ (old new : D) (run_end end : ℕ) (near : end < 2 ^ 63 → run_end < 2 ^ 63) (fine failed : Type 0) (run : Counts g run_end fine failed old new) where
    -- its calls were fine
    pub counted_fine : fine → (reply : Reply) → reply ≢ Refused Fault → Counted g end reply old new
    counted_fine is reply no_fault = record {
      time = run.time;
      telling = run.telling;
      later = run.later;
      quiet = λ _. run.quiet is;
      fault = λ fault. absurd (no_fault fault);
      near = λ low. run.near (near low);
    }

    -- one failed
    pub counted_fault : failed → Counted g end (Refused Fault) old new
    counted_fault is = record {
      time = run.time;
      telling = run.telling;
      later = run.later;
      quiet = λ no_fault. absurd (no_fault refl);
      fault = λ _. run.fault is;
      near = λ low. run.near (near low);
    }

  pub counted_rose : (old new : D) (end : ℕ) → Counted g end (Refused Fault) old new → Rose (g.faults old) (g.faults new)
  counted_rose old new end counts = raised_rose (g.faults old) (g.faults new) (counts.fault refl)

  -- the same of a run of calls that answers by them
  module _ {U : Type 0} (old new : D) (count run_end end : ℕ) (near : end < 2 ^ 63 → run_end < 2 ^ 63) (result : Result U Failed) (run : Calls g count run_end old new result) where
    counts : Counts g run_end (IsOk result) (IsErr result) old new
    counts = calls_counts g old new result count run_end run

    pub calls_fine : IsOk result → (reply : Reply) → reply ≢ Refused Fault → Counted g end reply old new
    calls_fine = counted_fine old new run_end end near (IsOk result) (IsErr result) counts

    pub calls_fault : IsErr result → Counted g end (Refused Fault) old new
    calls_fault = counted_fault old new run_end end near (IsOk result) (IsErr result) counts

    pub calls_rose : IsErr result → Rose (g.faults old) (g.faults new)
    calls_rose err = raised_rose (g.faults old) (g.faults new) (run.fault err)

    -- just so many calls where it was fine, and at most so many else
    pub calls_exact : IsOk result → RoseBy count (g.calls old) (g.calls new)
    calls_exact fine = record { later = run.calls.later; at_most = run.calls.at_most; exact = run.calls.all fine }

    pub calls_most : RoseAtMost count (g.calls old) (g.calls new)
    calls_most = (run.calls.later, run.calls.at_most)

    pub calls_unread : RoseAtMost 0 (g.reads old) (g.reads new)
    calls_unread = let same = run.no_read in (omega (arith, same), omega (arith, same))

-- the same end
pub made_as : {D U : Type 0} (g : Ghosts D) (old new : D) (result : Result U Failed) (a b : ℕ) {count : ℕ} → a ≡ b → Calls g count a old new result → Calls g count b old new result
made_as g old new result a b {count} is run = subst (λ (n : ℕ). Calls g count n old new result) is run

-- so many calls, and then so many more
pub rose_then : (one two a b c : ℕ) → RoseBy one a b → RoseBy two b c → RoseBy (one + two) a c
rose_then one two a b c first second = record {
  later = omega (arith, first.later, second.later);
  at_most = omega (arith, first.at_most, second.at_most);
  exact = λ few. let mid : b ≡ a + one = first.exact (omega (arith, few)) in let end = second.exact (omega (arith, few, mid)) in omega (arith, mid, end);
}

-- whose writes end early
pub counts_short : {D : Type 0} (g : Ghosts D) (end more : ℕ) (fine failed : Type 0) (old new : D) → end < 2 ^ 63 → Counts g end fine failed old new → Counts g more fine failed old new
counts_short g end more fine failed old new short run = record {
  time = run.time;
  telling = run.telling;
  later = run.later;
  quiet = run.quiet;
  fault = run.fault;
  near = λ _. run.near short;
}
