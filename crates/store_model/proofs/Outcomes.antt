-- The ways in which a step may end, for any property of the machine after it.
use Rattle.std.proofs.Common.{rules, ◌≡◌, ℕ, ◌<◌, ◌==◌, zero, suc, List, [], ◌∷◌, Option, None, Some, Bool, true, false, nat_le, sym, subst, refl, take}
use Rattle.std.specs.Prelude.{◌||◌}
use Rattle.store_model.specs.State.{State, Flush, Compaction, is_among, free_files}
use Rattle.store_model.specs.Event.{Event, Reply}
use Rattle.store_model.specs.Step.{Machine, Step, Happens, early, broken, with_state, without_loose, if_read_only, if_test, if_flushing, if_compacting, if_idle}
use Rattle.store_model.specs.Step.Step.{Sure, Succeeds, Lacks, Unread, Breaks, Halts}

-- loose files that no pin names
abbrev pub AreFree : List ℕ → State → Type 0
AreFree files u = (file : ℕ) → is_among file files ≡ true → is_among file (free_files u) ≡ true

-- the first of a list are among it
first_among : (f n : ℕ) (files : List ℕ) → is_among f (take n files) ≡ true → is_among f files ≡ true
first_among f zero files h = cc
first_among f (suc n) [] h = h
first_among f (suc n) (x ∷ xs) h = by_test (x == f) h (first_among f n xs)
  where
    by_test : (t : Bool) → (t || is_among f (take n xs)) ≡ true → (is_among f (take n xs) ≡ true → is_among f xs ≡ true) → (t || is_among f xs) ≡ true
    by_test true h ih = refl
    by_test false h ih = ih h

-- A property that a refusal keeps, and what happens.
pub kept_by : (P : Machine → Type 0) (before faults : ℕ) (m m' : Machine) (e : Event) (r : Reply) →
    P m → P (broken faults m) →
    ((gone : List ℕ) → AreFree gone m.state → P (broken faults (with_state (without_loose gone m.state) m))) →
    (early m e ≡ None → Happens m e r m' → P m') → Step before faults m e r m' → P m'
kept_by P before faults m m' e r is br halts ok (Sure early same) = subst P (sym same) is
kept_by P before faults m m' e r is br halts ok (Succeeds none done) = ok none done
kept_by P before faults m m' e r is br halts ok (Lacks none takes reply same) = subst P (sym same) is
kept_by P before faults m m' e r is br halts ok (Unread reads reply rose same) = subst P (sym same) is
kept_by P before faults m m' e r is br halts ok (Breaks none writes reply rose same) = subst P (sym same) br
kept_by P before faults m m' e r is br halts ok (Halts none reclaims writes reply rose emptied fewer same) =
    subst P (sym same) (halts (take emptied (free_files m.state)) (λ f h. first_among f emptied (free_files m.state) h))

-- A flush begins where none is open, and a compaction too.
pub idle_flush : (o : Option ℕ) (f : Option Flush) (later : Option Reply) → if_read_only o (if_flushing f later) ≡ None → f ≡ None
idle_flush (Some n) f later h = cc
idle_flush None (Some job) later h = cc
idle_flush None None later h = refl

pub idle_compaction : (o : Option ℕ) (f : Option Compaction) (later : Option Reply) → if_read_only o (if_compacting f later) ≡ None → f ≡ None
idle_compaction (Some n) f later h = cc
idle_compaction None (Some job) later h = cc
idle_compaction None None later h = refl

-- A job that begins has a file number.
no_test : (t : Bool) (reply : Reply) (later : Option Reply) (G : Type 0) → if_test t reply later ≡ None → (t ≡ false → later ≡ None → G) → G
no_test true reply later G h so = cc
no_test false reply later G h so = so refl h

above_not : (a b : ℕ) → nat_le a b ≡ false → b < a
above_not a b h = search rules

pub numbers_left : (work next : ℕ) → if_idle work next ≡ None → next < 4294967294
numbers_left work next h =
    no_test (work == 0) _ _ (next < 4294967294) h
    (λ _ g. no_test (nat_le 4294967294 next) _ _ (next < 4294967294) g (λ l _. above_not 4294967294 next l))

pub flush_has_numbers : (o : Option ℕ) (f : Option Flush) (work next : ℕ) → if_read_only o (if_flushing f (if_idle work next)) ≡ None → next < 4294967294
flush_has_numbers (Some n) f work next h = cc
flush_has_numbers None (Some job) work next h = cc
flush_has_numbers None None work next h = numbers_left work next h

pub compaction_has_numbers : (o : Option ℕ) (f : Option Compaction) (work next : ℕ) → if_read_only o (if_compacting f (if_idle work next)) ≡ None → next < 4294967294
compaction_has_numbers (Some n) f work next h = cc
compaction_has_numbers None (Some job) work next h = cc
compaction_has_numbers None None work next h = numbers_left work next h
