-- What the single events of a round make of the store.
use Rattle.std.proofs.Common.{rules, ◌≡◌, ℕ, ◌==◌, ◌<◌, ◌≤◌, nat_le, Bool, true, false, List, length, Option, Some, None, option_map, refl, sym, ◌∙◌, ap, subst}
use Rattle.std.specs.Prelude.{⊤}
use Rattle.span_types.specs.Faults.{Rose}
use Rattle.store_model.specs.Choice.{choice}
use Rattle.store_model.specs.Event.{Event as event, Reply as reply, Refusal as cause}
use Rattle.store_model.specs.Event.Event.{BeginCompact, BeginFlush, CommitCompact, CommitFlush, DropCompact, DropFlush, Reclaim, WritePiece}
use Rattle.store_model.specs.Event.Reply.{Compacting, Fine, Flushing, Nothing, Refused}
use Rattle.store_model.specs.Event.Refusal.{Busy, Fault, FilesSpent, Memory, ReadOnly}
use Rattle.store_model.specs.State.{Compaction, Flush, State}
use Rattle.store_model.specs.Step.{Happens, Machine, Step, broken, early, if_compacting, if_flushing, if_idle, if_read_only, if_test, reads, takes_memory, writes}
use Rattle.store_model.specs.Step.Step.{Sure, Succeeds, Lacks, Unread, Breaks, Halts}
use Rattle.store_model.proofs.Numbers.{same_number}
use Rattle.store_state.specs.Replies.{write_refusal}
use Rattle.store_state.specs.declared.errors.WriteError.{WriteError}
use Rattle.store_state.specs.declared.errors.WriteError.TheVariants as write
use Rattle.session_meaning.specs.Rounds.{Job, commit_of, drop_of, given}
use Rattle.session_meaning.specs.Rounds.Job.{OfBlocks, OfRows}

some_same : (a b : reply) → Some a ≡ Some b → a ≡ b
some_same a b e = cc

none_some : (a : reply) → None ≡ Some a → ⊥
none_some a e = cc

same_cause : (a b : cause) → Refused a ≡ Refused b → a ≡ b
same_cause a b e = cc

above : (a b : ℕ) → nat_le a b ≡ true → a ≤ b
above a b h = search rules

not_above : (a b : ℕ) → nat_le a b ≡ false → b < a
not_above a b h = search rules

some_work : (work : ℕ) → (work == 0) ≡ false → 1 ≤ work
some_work work h = search rules

-- ---- a begin, of either kind

pub data IsBegin : event → Type 0 where
  OfFlush : IsBegin BeginFlush
  OfCompaction : IsBegin BeginCompact

-- what there is to do, as a number
abbrev pub work : event → State → ℕ
work BeginFlush u = length u.head
work BeginCompact u = length (choice u.blocks)
work _ u = 0

-- the number of the job of its kind that is open
abbrev pub open_job : event → State → Option ℕ
open_job BeginFlush u = option_map (λ (job : Flush). job.number) u.flush
open_job BeginCompact u = option_map (λ (job : Compaction). job.number) u.compaction
open_job _ u = None

abbrev if_busy : Option ℕ → Option reply → Option reply
if_busy (Some number) later = Some (Refused (Busy number))
if_busy None later = later

flushing_busy : (f : Option Flush) (later : Option reply) → if_flushing f later ≡ if_busy (option_map (λ (job : Flush). job.number) f) later
flushing_busy None later = refl
flushing_busy (Some job) later = refl

compacting_busy : (f : Option Compaction) (later : Option reply) → if_compacting f later ≡ if_busy (option_map (λ (job : Compaction). job.number) f) later
compacting_busy None later = refl
compacting_busy (Some job) later = refl

abbrev early_of : Machine → event → Option reply
early_of m begin = if_read_only m.read_only (if_busy (open_job begin m.state) (if_idle (work begin m.state) m.state.next_file))

early_is : (begin : event) → IsBegin begin → (m : Machine) → early m begin ≡ early_of m begin
early_is begin OfFlush m = ap (λ (o : Option reply). if_read_only m.read_only o) (flushing_busy m.state.flush (if_idle (length m.state.head) m.state.next_file))
early_is begin OfCompaction m =
    ap (λ (o : Option reply). if_read_only m.read_only o) (compacting_busy m.state.compaction (if_idle (length (choice m.state.blocks)) m.state.next_file))

reads_not : (begin : event) → IsBegin begin → reads begin ≡ false
reads_not begin OfFlush = refl
reads_not begin OfCompaction = refl

no_reclaim : (begin : event) → IsBegin begin → begin ≡ Reclaim → ⊥
no_reclaim begin OfFlush e = cc
no_reclaim begin OfCompaction e = cc

-- what a begin answers that succeeds
abbrev GivesJob : reply → Type 0
GivesJob (Flushing job) = ⊤
GivesJob (Compacting job) = ⊤
GivesJob _ = ⊥

gives_job : (begin : event) → IsBegin begin → (m m' : Machine) (r : reply) → Happens m begin r m' → GivesJob r
gives_job begin OfFlush m m' r done = subst GivesJob (sym done.0) tt
gives_job begin OfCompaction m m' r done = subst GivesJob (sym done.2) tt

by_test : (P : reply → Type 0) (t : Bool) (first : reply) (later : Option reply) (r : reply) → (t ≡ true → P first) → (t ≡ false → later ≡ Some r → P r)
    → if_test t first later ≡ Some r → P r
by_test P true first later r here on e = subst P (some_same first r e) (here refl)
by_test P false first later r here on e = on refl e

-- A reply that is sure is one of four.
begin_sure : (P : reply → Type 0) (o : Option ℕ) (b : Option ℕ) (work next : ℕ) (r : reply) → ((n : ℕ) → o ≡ Some n → P (Refused (ReadOnly n)))
    → ((number : ℕ) → o ≡ None → b ≡ Some number → P (Refused (Busy number))) → (o ≡ None → work ≡ 0 → P Nothing)
    → (1 ≤ work → 4294967294 ≤ next → P (Refused (FilesSpent next)))
    → if_read_only o (if_busy b (if_idle work next)) ≡ Some r → P r
begin_sure P (Some n) b work next r read_only busy idle spent e = subst P (some_same (Refused (ReadOnly n)) r e) (read_only n refl)
begin_sure P None (Some number) work next r read_only busy idle spent e = subst P (some_same (Refused (Busy number)) r e) (busy number refl refl)
begin_sure P None None work next r read_only busy idle spent e =
    by_test P (work == 0) Nothing _ r (λ t. idle refl (same_number work 0 t))
    (λ t later. by_test P (nat_le 4294967294 next) (Refused (FilesSpent next)) None r (λ high. spent (some_work work t) (above 4294967294 next high)) (λ low none. absurd (none_some r none)) later) e

test_none : (t : Bool) (r : reply) (later : Option reply) → if_test t r later ≡ None → (t ≡ false) × (later ≡ None)
test_none true r later e = let bad : ⊥ = cc in absurd bad
test_none false r later e = (refl, e)

-- A begin whose reply isn't sure has work and file numbers, in a store that writes and has no job of its kind open.
pub record IsFree (begin : event) (m : Machine) : Type 0 where
  pub writes : m.read_only ≡ None
  pub closed : open_job begin m.state ≡ None
  pub some : 1 ≤ work begin m.state
  pub files : m.state.next_file < 4294967294

free_of : (o : Option ℕ) (b : Option ℕ) (work next : ℕ) → if_read_only o (if_busy b (if_idle work next)) ≡ None
    → (o ≡ None) × (b ≡ None) × (1 ≤ work) × (next < 4294967294)
free_of (Some n) b work next e = let bad : ⊥ = cc in absurd bad
free_of None (Some number) work next e = let bad : ⊥ = cc in absurd bad
free_of None None work next e =
    let first = test_none (work == 0) _ _ e in
    let second = test_none (nat_le 4294967294 next) _ _ first.1 in
    (refl, refl, some_work work first.0, not_above 4294967294 next second.0)

is_free : (begin : event) → IsBegin begin → (m : Machine) → early m begin ≡ None → IsFree begin m
is_free begin is m none =
    let all = free_of m.read_only (open_job begin m.state) (work begin m.state) m.state.next_file (sym (early_is begin is m) ∙ none) in
    record { writes = all.0; closed = all.1; some = all.2; files = all.3 }

module _ (begin : event) (is : IsBegin begin) (f g : ℕ) (m m' : Machine) where
  sure_is : (P : reply → Type 0) (r : reply) → ((n : ℕ) → m.read_only ≡ Some n → P (Refused (ReadOnly n)))
      → ((number : ℕ) → m.read_only ≡ None → open_job begin m.state ≡ Some number → P (Refused (Busy number)))
      → (m.read_only ≡ None → work begin m.state ≡ 0 → P Nothing)
      → (1 ≤ work begin m.state → 4294967294 ≤ m.state.next_file → P (Refused (FilesSpent m.state.next_file))) → early m begin ≡ Some r → P r
  sure_is P r read_only busy idle spent told =
      begin_sure P m.read_only (open_job begin m.state) (work begin m.state) m.state.next_file r read_only busy idle spent (sym (early_is begin is m) ∙ told)

  -- ---- it gives a job

  abbrev IsNoJob : reply → Type 0
  IsNoJob (Flushing job) = ⊥
  IsNoJob (Compacting job) = ⊥
  IsNoJob _ = ⊤

  no_job_is : (job : Job) → IsNoJob (given job) → ⊥
  no_job_is (OfRows job) none = none
  no_job_is (OfBlocks job) none = none

  refused_not : (job : Job) (why : cause) → given job ≡ Refused why → ⊥
  refused_not (OfRows job) why e = cc
  refused_not (OfBlocks job) why e = cc

  pub begun : (job : Job) → Step f g m begin (given job) m' → IsFree begin m × Happens m begin (given job) m'
  begun job (Sure told same) =
      absurd (no_job_is job (sure_is IsNoJob (given job) (λ n o. tt) (λ n o busy. tt) (λ o none. tt) (λ some high. tt) told))
  begun job (Succeeds none done) = (is_free begin is m none, done)
  begun job (Lacks none takes told same) = absurd (refused_not job Memory told)
  begun job (Unread reads told rose same) = absurd (refused_not job Fault told)
  begun job (Breaks none writes told rose same) = absurd (refused_not job Fault told)
  begun job (Halts none reclaims writes told rose emptied fewer same) = absurd (refused_not job Fault told)

  -- ---- it finds nothing to do, and changes nothing

  abbrev IdleAt : reply → Type 0
  IdleAt Nothing = (m.read_only ≡ None) × (work begin m.state ≡ 0)
  IdleAt _ = ⊤

  pub idle : Step f g m begin Nothing m' → (m.read_only ≡ None) × (work begin m.state ≡ 0) × (m' ≡ m)
  idle (Sure told same) =
      let at = sure_is IdleAt Nothing (λ n o. tt) (λ n o busy. tt) (λ o none. (o, none)) (λ some high. tt) told in (at.0, at.1, same)
  idle (Succeeds none done) = absurd (gives_job begin is m m' Nothing done)
  idle (Lacks none takes told same) = let bad : ⊥ = cc in absurd bad
  idle (Unread reads told rose same) = let bad : ⊥ = cc in absurd bad
  idle (Breaks none writes told rose same) = let bad : ⊥ = cc in absurd bad
  idle (Halts none reclaims writes told rose emptied fewer same) = let bad : ⊥ = cc in absurd bad

  -- ---- it is refused

  -- why, and what that leaves
  abbrev pub BeginCause : cause → Type 0
  BeginCause (ReadOnly faults) = (m.read_only ≡ Some faults) × (m' ≡ m)
  BeginCause (Busy number) = (m.read_only ≡ None) × (open_job begin m.state ≡ Some number) × (m' ≡ m)
  BeginCause (FilesSpent next) = (1 ≤ work begin m.state) × (next ≡ m.state.next_file) × (4294967294 ≤ next) × (m' ≡ m)
  BeginCause Fault = (1 ≤ work begin m.state) × Rose f g × (m' ≡ broken g m)
  BeginCause Memory = (1 ≤ work begin m.state) × (m' ≡ m)
  BeginCause _ = ⊥

  abbrev ReplyCause : reply → Type 0
  ReplyCause (Refused why) = BeginCause why
  ReplyCause _ = ⊤

  pub not_begun : (why : cause) → Step f g m begin (Refused why) m' → BeginCause why
  not_begun why (Sure told same) =
      sure_is ReplyCause (Refused why) (λ n o. (o, same)) (λ n o busy. (o, busy, same)) (λ o none. tt) (λ some high. (some, refl, high, same)) told
  not_begun why (Succeeds none done) = absurd (gives_job begin is m m' (Refused why) done)
  not_begun why (Lacks none takes told same) = subst ReplyCause (sym told) ((is_free begin is m none).some, same)
  not_begun why (Unread reading told rose same) = let bad : ⊥ = (let no = reads_not begin is in cc) in absurd bad
  not_begun why (Breaks none does told rose same) = subst ReplyCause (sym told) ((is_free begin is m none).some, rose, same)
  not_begun why (Halts none reclaims does told rose emptied fewer same) = absurd (no_reclaim begin is reclaims)

-- ---- what decides a begin's reply

no_less : (a b : ℕ) → a ≤ b → nat_le a b ≡ true
no_less a b h = search rules

not_none : (work : ℕ) → 1 ≤ work → (work == 0) ≡ false
not_none work h = search rules

-- A reply that is sure is the reply, and nothing changes.
only_sure : (begin : event) → IsBegin begin → (f g : ℕ) (m m' : Machine) (r sure : reply) → early m begin ≡ Some sure → Step f g m begin r m' → r ≡ sure
only_sure begin is f g m m' r sure says (Sure told same) = some_same r sure (sym told ∙ says)
only_sure begin is f g m m' r sure says (Succeeds none done) = absurd (none_some sure (sym none ∙ says))
only_sure begin is f g m m' r sure says (Lacks none takes told same) = absurd (none_some sure (sym none ∙ says))
only_sure begin is f g m m' r sure says (Unread reading told rose same) = let bad : ⊥ = (let no = reads_not begin is in cc) in absurd bad
only_sure begin is f g m m' r sure says (Breaks none does told rose same) = absurd (none_some sure (sym none ∙ says))
only_sure begin is f g m m' r sure says (Halts none reclaims does told rose emptied fewer same) = absurd (none_some sure (sym none ∙ says))

decided : (begin : event) → IsBegin begin → (f g : ℕ) (m m' : Machine) (r sure : reply) → (o b : Option ℕ) (more : ℕ) → m.read_only ≡ o → open_job begin m.state ≡ b
    → work begin m.state ≡ more → if_read_only o (if_busy b (if_idle more m.state.next_file)) ≡ Some sure → Step f g m begin r m' → r ≡ sure
decided begin is f g m m' r sure o b more stops opens has says step =
    only_sure begin is f g m m' r sure
    (early_is begin is m ∙ ap (λ (x : Option ℕ). if_read_only x (if_busy (open_job begin m.state) (if_idle (work begin m.state) m.state.next_file))) stops
    ∙ ap (λ (x : Option ℕ). if_read_only o (if_busy x (if_idle (work begin m.state) m.state.next_file))) opens
    ∙ ap (λ (n : ℕ). if_read_only o (if_busy b (if_idle n m.state.next_file))) has ∙ says) step

module _ (begin : event) (is : IsBegin begin) (f g : ℕ) (m m' : Machine) (r : reply) (step : Step f g m begin r m') where
  -- A begin in a store that writes no more is refused for that.
  pub begin_stopped : (faults : ℕ) → m.read_only ≡ Some faults → r ≡ Refused (ReadOnly faults)
  begin_stopped faults stops =
      decided begin is f g m m' r (Refused (ReadOnly faults)) (Some faults) (open_job begin m.state) (work begin m.state) stops refl refl refl step

  -- One while a job of its kind is open is refused for that.
  pub begin_busy : (number : ℕ) → m.read_only ≡ None → open_job begin m.state ≡ Some number → r ≡ Refused (Busy number)
  begin_busy number writes opens =
      decided begin is f g m m' r (Refused (Busy number)) None (Some number) (work begin m.state) writes opens refl refl step

  -- One that has nothing to do is told that.
  pub begin_idle : m.read_only ≡ None → open_job begin m.state ≡ None → work begin m.state ≡ 0 → r ≡ Nothing
  begin_idle writes closed none = decided begin is f g m m' r Nothing None None 0 writes closed none refl step

  -- One with something to do for which no file numbers are left is refused for that.
  pub begin_spent : m.read_only ≡ None → open_job begin m.state ≡ None → 1 ≤ work begin m.state → 4294967294 ≤ m.state.next_file
      → r ≡ Refused (FilesSpent m.state.next_file)
  begin_spent writes closed some high =
      let next = m.state.next_file in
      decided begin is f g m m' r (Refused (FilesSpent next)) None None (work begin m.state) writes closed refl
      (ap (λ (t : Bool). if_test t Nothing (if_test (nat_le 4294967294 next) (Refused (FilesSpent next)) None)) (not_none (work begin m.state) some)
      ∙ ap (λ (t : Bool). if_test t (Refused (FilesSpent next)) None) (no_less 4294967294 next high)) step

-- ---- a write, of either kind

pub data IsWrite : event → Type 0 where
  OfPiece : (number file : ℕ) (bytes : List ℕ) → IsWrite (WritePiece number file bytes)
  OfFlushCommit : (number size : ℕ) → IsWrite (CommitFlush number size)
  OfCompactCommit : (number size : ℕ) → IsWrite (CommitCompact number size)

pub commits : (job : Job) (size : ℕ) → IsWrite (commit_of job size)
commits (OfRows job) size = OfFlushCommit job.number size
commits (OfBlocks job) size = OfCompactCommit job.number size

early_write : (e : event) → IsWrite e → (m : Machine) → early m e ≡ if_read_only m.read_only None
early_write e (OfPiece number file bytes) m = refl
early_write e (OfFlushCommit number size) m = refl
early_write e (OfCompactCommit number size) m = refl

takes_not : (e : event) → IsWrite e → takes_memory e ≡ false
takes_not e (OfPiece number file bytes) = refl
takes_not e (OfFlushCommit number size) = refl
takes_not e (OfCompactCommit number size) = refl

write_reads_not : (e : event) → IsWrite e → reads e ≡ false
write_reads_not e (OfPiece number file bytes) = refl
write_reads_not e (OfFlushCommit number size) = refl
write_reads_not e (OfCompactCommit number size) = refl

write_no_reclaim : (e : event) → IsWrite e → e ≡ Reclaim → ⊥
write_no_reclaim e (OfPiece number file bytes) is = cc
write_no_reclaim e (OfFlushCommit number size) is = cc
write_no_reclaim e (OfCompactCommit number size) is = cc

answers_fine : (e : event) → IsWrite e → (m m' : Machine) (r : reply) → Happens m e r m' → r ≡ Fine
answers_fine e (OfPiece number file bytes) m m' r done = done.0
answers_fine e (OfFlushCommit number size) m m' r done = done.5
answers_fine e (OfCompactCommit number size) m m' r done = done.5

-- in a store that writes the reply to a write isn't sure
no_sure : (o : Option ℕ) (r : reply) → o ≡ None → if_read_only o None ≡ Some r → ⊥
no_sure None r is e = none_some r e
no_sure (Some n) r is e = cc

stopped_by : (o : Option ℕ) (faults : ℕ) → if_read_only o None ≡ Some (Refused (ReadOnly faults)) → o ≡ Some faults
stopped_by None faults e = absurd (none_some (Refused (ReadOnly faults)) e)
stopped_by (Some n) faults e = cc

not_fault : (o : Option ℕ) → if_read_only o None ≡ Some (Refused Fault) → ⊥
not_fault None e = cc
not_fault (Some n) e = cc

not_fine : (o : Option ℕ) → if_read_only o None ≡ Some Fine → ⊥
not_fine None e = cc
not_fine (Some n) e = cc

only_fault : (why : WriteError) → write_refusal why ≡ Fault → why ≡ write.Fault
only_fault (write.ReadOnly n) e = let bad : ⊥ = cc in absurd bad
only_fault write.Fault e = refl

module _ (e : event) (is : IsWrite e) (f g : ℕ) (m m' : Machine) where
  -- In a store that writes a write is refused for a fault alone.
  pub write_failed : (why : WriteError) → m.read_only ≡ None → Step f g m e (Refused (write_refusal why)) m' → why ≡ write.Fault
  write_failed why writes (Sure told same) = absurd (no_sure m.read_only _ writes (sym (early_write e is m) ∙ told))
  write_failed why writes (Succeeds none done) = let bad : ⊥ = (let fine = answers_fine e is m m' _ done in cc) in absurd bad
  write_failed why writes (Lacks none takes told same) = let bad : ⊥ = (let no = takes_not e is in cc) in absurd bad
  write_failed why writes (Unread reading told rose same) = only_fault why (same_cause (write_refusal why) Fault told)
  write_failed why writes (Breaks none does told rose same) = only_fault why (same_cause (write_refusal why) Fault told)
  write_failed why writes (Halts none reclaims does told rose emptied fewer same) = only_fault why (same_cause (write_refusal why) Fault told)

  -- One that failed leaves a store that writes no more.
  pub write_broke : m.read_only ≡ None → Step f g m e (Refused Fault) m' → Rose f g × (m' ≡ broken g m)
  write_broke writes (Sure told same) = absurd (no_sure m.read_only _ writes (sym (early_write e is m) ∙ told))
  write_broke writes (Succeeds none done) = let bad : ⊥ = (let fine = answers_fine e is m m' _ done in cc) in absurd bad
  write_broke writes (Lacks none takes told same) = let bad : ⊥ = cc in absurd bad
  write_broke writes (Unread reading told rose same) = let bad : ⊥ = (let no = write_reads_not e is in cc) in absurd bad
  write_broke writes (Breaks none does told rose same) = (rose, same)
  write_broke writes (Halts none reclaims does told rose emptied fewer same) = absurd (write_no_reclaim e is reclaims)

  -- One that is refused since the store writes no more finds it so.
  pub write_stopped : (faults : ℕ) → Step f g m e (Refused (ReadOnly faults)) m' → m.read_only ≡ Some faults
  write_stopped faults (Sure told same) = stopped_by m.read_only faults (sym (early_write e is m) ∙ told)
  write_stopped faults (Succeeds none done) = let bad : ⊥ = (let fine = answers_fine e is m m' _ done in cc) in absurd bad
  write_stopped faults (Lacks none takes told same) = let bad : ⊥ = cc in absurd bad
  write_stopped faults (Unread reading told rose same) = let bad : ⊥ = cc in absurd bad
  write_stopped faults (Breaks none does told rose same) = let bad : ⊥ = cc in absurd bad
  write_stopped faults (Halts none reclaims does told rose emptied fewer same) = let bad : ⊥ = cc in absurd bad

  -- One that the disk failed leaves a store that writes no more.
  pub write_halted : Step f g m e (Refused Fault) m' → Rose f g × (m' ≡ broken g m)
  write_halted (Sure told same) = absurd (not_fault m.read_only (sym (early_write e is m) ∙ told))
  write_halted (Succeeds none done) = let bad : ⊥ = (let fine = answers_fine e is m m' _ done in cc) in absurd bad
  write_halted (Lacks none takes told same) = let bad : ⊥ = cc in absurd bad
  write_halted (Unread reading told rose same) = let bad : ⊥ = (let no = write_reads_not e is in cc) in absurd bad
  write_halted (Breaks none does told rose same) = (rose, same)
  write_halted (Halts none reclaims does told rose emptied fewer same) = absurd (write_no_reclaim e is reclaims)

  pub write_done : Step f g m e Fine m' → Happens m e Fine m'
  write_done (Sure told same) = absurd (not_fine m.read_only (sym (early_write e is m) ∙ told))
  write_done (Succeeds none done) = done
  write_done (Lacks none takes told same) = let bad : ⊥ = cc in absurd bad
  write_done (Unread reading told rose same) = let bad : ⊥ = cc in absurd bad
  write_done (Breaks none does told rose same) = let bad : ⊥ = cc in absurd bad
  write_done (Halts none reclaims does told rose emptied fewer same) = let bad : ⊥ = cc in absurd bad

-- A piece that is written changes nothing.
pub piece_written : (f g : ℕ) (m m' : Machine) (number file : ℕ) (bytes : List ℕ) → Step f g m (WritePiece number file bytes) Fine m' → m' ≡ m
piece_written f g m m' number file bytes step = (write_done (WritePiece number file bytes) (OfPiece number file bytes) f g m m' step).1

-- ---- a drop

pub data IsDrop : event → Type 0 where
  OfFlushDrop : (number : ℕ) → IsDrop (DropFlush number)
  OfCompactDrop : (number : ℕ) → IsDrop (DropCompact number)

pub drops : (job : Job) → IsDrop (drop_of job)
drops (OfRows job) = OfFlushDrop job.number
drops (OfBlocks job) = OfCompactDrop job.number

not_sure : (e : event) → IsDrop e → (m : Machine) → early m e ≡ None
not_sure e (OfFlushDrop number) m = refl
not_sure e (OfCompactDrop number) m = refl

pub dropped : (e : event) → IsDrop e → (f g : ℕ) (m m' : Machine) → Step f g m e Fine m' → Happens m e Fine m'
dropped e is f g m m' (Sure told same) = absurd (none_some Fine (sym (not_sure e is m) ∙ told))
dropped e is f g m m' (Succeeds none done) = done
dropped e is f g m m' (Lacks none takes told same) = let bad : ⊥ = cc in absurd bad
dropped e is f g m m' (Unread reading told rose same) = let bad : ⊥ = cc in absurd bad
dropped e is f g m m' (Breaks none does told rose same) = let bad : ⊥ = cc in absurd bad
dropped e is f g m m' (Halts none reclaims does told rose emptied fewer same) = let bad : ⊥ = cc in absurd bad
