-- A job that a begin gave stays open until its own end, whatever calls of others come in between.
use Rattle.std.proofs.Common.{◌≡◌, ◌⊎◌, inl, inr, ◌∙◌, ℕ, ◌+◌, ◌≤◌, Bool, false, true, List, [], ◌∷◌, ◌++◌, Some, None, ap, arith, length, refl, subst, sym, take}
use Rattle.span_types.specs.First.{IsFirstOf}
use Rattle.span_types.specs.declared.spans.Row.{Row}
use Rattle.search_answer.proofs.PickedLaws.{firsts_are_one}
use Rattle.store_model.specs.After.{after_begin_compact, after_begin_flush, after_commit_compact, after_commit_flush, after_done, chosen_job, job_files, taken}
use Rattle.store_model.specs.Choice.{choice, in_files, most_rows, outside_files}
use Rattle.store_model.specs.Event.{Event as event, Reply as reply}
use Rattle.store_model.specs.Event.Event.{BeginCompact, BeginFlush, CommitCompact, CommitFlush, Cut, CutAll, Done, DropCompact, DropFlush, Held, Look, Push, ReadPage, Reclaim, WritePiece}
use Rattle.store_model.specs.Event.Reply.{Fine}
use Rattle.store_model.specs.History.{count_of}
use Rattle.store_model.specs.Sound.{StateIsSound}
use Rattle.store_model.specs.State.{Block, Compaction, Flush, IsFreeNumber, Pinned, State, block_files, block_rows, compaction_pins, is_among, pin_numbers, pinned_blocks}
use Rattle.store_model.specs.Step.{Happens, IsCommittedCompact, IsCommittedFlush, Machine, Step, with_state}
use Rattle.store_model.specs.Told.{AreCounted}
use Rattle.store_model.proofs.Outcomes.{kept_by}
use Rattle.store_model.proofs.Pins.{blocks-added, look_apart, open-added, same_blocks-less, same_blocks-more, still_open-less, still_open-more}
use Rattle.port_history.specs.Entries.{Entry}
use Rattle.session_meaning.specs.At.{At}
use Rattle.session_meaning.specs.ServedJobs.{ListsInPlace, ListsRows}
use Rattle.session_meaning.specs.Serving.{EntriesLead}
use Rattle.session_meaning.proofs.CompactLaws.{counted_last}

-- ---- along all calls

-- What each step keeps all calls keep.
pub carried : (P : Machine → Type 0) → ((f g : ℕ) (m m' : Machine) (e : event) (r : reply) → Step f g m e r m' → P m → P m') → (told : Bool) (first last : At) (es : List Entry)
    → EntriesLead told first es last → P first.machine → P last.machine
carried P keeps told first last [] same has = subst (λ (at : At). P at.machine) (sym same) has
carried P keeps told first last (e ∷ es) (between, made, rest) has =
    carried P keeps told between last es rest (keeps first.faults between.faults first.machine between.machine e.event e.reply made.step.1 has)

-- ---- a flush

same_flush : (a b : Flush) → Some a ≡ Some b → a ≡ b
same_flush a b e = cc

no_flush : (job : Flush) → None ≡ Some job → ⊥
no_flush job e = cc

-- It is open, or no flush with its number is, nor will be.
abbrev pub StaysFlushing : Flush → Machine → Type 0
StaysFlushing job m = (job.number ≤ m.state.begun) × ((m.state.flush ≡ Some job) ⊎ ((other : Flush) → m.state.flush ≡ Some other → other.number ≡ job.number → ⊥))

flush_happens : (job : Flush) (m m' : Machine) (e : event) (r : reply) → Happens m e r m' → StaysFlushing job m → StaysFlushing job m'
flush_happens job m m' (Push spans moment) r d is = subst (StaysFlushing job) (sym d.1) is
flush_happens job m m' (Cut moment) r d is = subst (StaysFlushing job) (sym d.3) is
flush_happens job m m' CutAll r d is = subst (StaysFlushing job) (sym d.3) is
flush_happens job m m' Held r d is = subst (StaysFlushing job) (sym d.1) is
flush_happens job m m' BeginFlush r d (earlier, is) = subst (StaysFlushing job) (sym d.1) (omega (arith, earlier), inr newer)
  where
    newer : (other : Flush) → Some (taken m.state) ≡ Some other → other.number ≡ job.number → ⊥
    newer other here same = let number : m.state.begun + 1 ≡ other.number = ap (λ (f : Flush). f.number) (same_flush (taken m.state) other here) in omega (arith, number, same, earlier)
flush_happens job m m' BeginCompact r d (earlier, is) = subst (StaysFlushing job) (sym d.3) (omega (arith, earlier), is)
flush_happens job m m' (WritePiece number file bytes) r d is = subst (StaysFlushing job) (sym d.1) is
flush_happens job m m' (CommitFlush number size) r d (earlier, is) = subst (StaysFlushing job) (sym d.6) (earlier, inr (λ other here same. no_flush other here))
flush_happens job m m' (CommitCompact number size) r d is = subst (StaysFlushing job) (sym d.6) is
flush_happens job m m' (DropFlush number) r d (earlier, is) = subst (StaysFlushing job) (sym d.4) (earlier, inr (λ other here same. no_flush other here))
flush_happens job m m' (DropCompact number) r d is = subst (StaysFlushing job) (sym d.4) is
flush_happens job m m' Look r d is = subst (StaysFlushing job) (sym d.5) is
flush_happens job m m' (ReadPage pin block page) r d is = subst (StaysFlushing job) (sym d.2) is
flush_happens job m m' (Done pin) r d is = subst (StaysFlushing job) (sym d.2) is
flush_happens job m m' Reclaim r d is = subst (StaysFlushing job) (sym d.1) is

pub flush_stays : (job : Flush) (f g : ℕ) (m m' : Machine) (e : event) (r : reply) → Step f g m e r m' → StaysFlushing job m → StaysFlushing job m'
flush_stays job f g m m' e r step is = kept_by (StaysFlushing job) f g m m' e r is is (λ gone free. is) (λ none d. flush_happens job m m' e r d is) step

pub flush_opened : (m m' : Machine) → m' ≡ with_state (after_begin_flush m.state) m → StaysFlushing (taken m.state) m'
flush_opened m m' is = subst (StaysFlushing (taken m.state)) (sym is) (omega arith, inl refl)

-- the flush that is open under its number
ours : (job other : Flush) (m : Machine) → m.state.flush ≡ Some other → other.number ≡ job.number → StaysFlushing job m → other ≡ job
ours job other m here same (earlier, inl opens) = same_flush other job (sym here ∙ opens)
ours job other m here same (earlier, inr none) = absurd (none other here same)

pub lists_rows : (number size : ℕ) (begun m m' : Machine) (firsts : List Row) → number ≡ begun.state.begun + 1 → StaysFlushing (taken begun.state) m
    → IsFirstOf (take most_rows begun.state.head) firsts → size ≡ length firsts → IsCommittedFlush number size m Fine m' → ListsRows begun m size m'
lists_rows number size begun m m' firsts is stays are sized d =
    let job : d.0 ≡ taken begun.state = ours (taken begun.state) d.0 m d.2 (d.3 ∙ is) stays in
    let of_head : IsFirstOf (take most_rows begun.state.head) d.1 = subst (λ (j : Flush). IsFirstOf j.rows d.1) job d.4 in
    let left : m' ≡ with_state (after_commit_flush (count_of m.history) (taken begun.state) size d.1 m.state) m =
    d.6 ∙ ap (λ (j : Flush). with_state (after_commit_flush (count_of m.history) j size d.1 m.state) m) job in record {
      is_open = d.2 ∙ ap (λ (j : Flush). Some j) job;
      rows = d.1;
      of_head = of_head;
      counted = sized ∙ ap length (firsts_are_one (take most_rows begun.state.head) firsts d.1 are of_head);
      leaves = left;
      listed = ap (λ (x : Machine). x.state.blocks) left;
    }

-- ---- a compaction

same_job : (a b : Compaction) → Some a ≡ Some b → a ≡ b
same_job a b e = cc

no_job : (job : Compaction) → None ≡ Some job → ⊥
no_job job e = cc

-- It is open, and its pin has the blocks that were chosen at its begin; or no compaction with its number is open, nor will be.
abbrev pub StaysJoining : State → ℕ → Machine → Type 0
StaysJoining u pin m =
    (u.begun + 1 ≤ m.state.begun)
    × (((m.state.compaction ≡ Some (chosen_job pin u)) × (is_among pin (pin_numbers m.state.pins) ≡ true) × (pinned_blocks pin m.state.pins ≡ choice u.blocks))
    ⊎ ((other : Compaction) → m.state.compaction ≡ Some other → other.number ≡ u.begun + 1 → ⊥))

looked : (u : State) (pin : ℕ) (m : Machine) (new : Pinned) → StaysJoining u pin m → StaysJoining u pin (with_state (record m.state { pins = m.state.pins ++ new ∷ [] }) m)
looked u pin m new (later, inl (opens, there, same)) =
    (later, inl (opens, still_open-more pin m.state.pins new there, same_blocks-more pin m.state.pins new there ∙ same))
looked u pin m new (later, inr none) = (later, inr none)

ended : (u : State) (pin gone : ℕ) (m : Machine) → is_among gone (compaction_pins m.state.compaction) ≡ false → StaysJoining u pin m → StaysJoining u pin (with_state (after_done gone m.state) m)
ended u pin gone m apart (later, inl (opens, there, same)) =
    let other = look_apart gone m.state.compaction (chosen_job pin u) apart opens in
    (later, inl (opens, still_open-less pin gone m.state.pins other there, same_blocks-less pin gone m.state.pins other ∙ same))
ended u pin gone m apart (later, inr none) = (later, inr none)

joining_happens : (u : State) (pin : ℕ) (m m' : Machine) (e : event) (r : reply) → Happens m e r m' → StaysJoining u pin m → StaysJoining u pin m'
joining_happens u pin m m' (Push spans moment) r d is = subst (StaysJoining u pin) (sym d.1) is
joining_happens u pin m m' (Cut moment) r d is = subst (StaysJoining u pin) (sym d.3) is
joining_happens u pin m m' CutAll r d is = subst (StaysJoining u pin) (sym d.3) is
joining_happens u pin m m' Held r d is = subst (StaysJoining u pin) (sym d.1) is
joining_happens u pin m m' BeginFlush r d (later, is) = subst (StaysJoining u pin) (sym d.1) (omega (arith, later), is)
joining_happens u pin m m' BeginCompact r d (later, is) = subst (StaysJoining u pin) (sym d.3) (omega (arith, later), inr newer)
  where
    newer : (other : Compaction) → Some (chosen_job d.0 m.state) ≡ Some other → other.number ≡ u.begun + 1 → ⊥
    newer other here same = let number : m.state.begun + 1 ≡ other.number = ap (λ (j : Compaction). j.number) (same_job (chosen_job d.0 m.state) other here) in omega (arith, number, same, later)
joining_happens u pin m m' (WritePiece number file bytes) r d is = subst (StaysJoining u pin) (sym d.1) is
joining_happens u pin m m' (CommitFlush number size) r d is = subst (StaysJoining u pin) (sym d.6) is
joining_happens u pin m m' (CommitCompact number size) r d (later, is) = subst (StaysJoining u pin) (sym d.6) (later, inr (λ other here same. no_job other here))
joining_happens u pin m m' (DropFlush number) r d is = subst (StaysJoining u pin) (sym d.4) is
joining_happens u pin m m' (DropCompact number) r d (later, is) = subst (StaysJoining u pin) (sym d.4) (later, inr (λ other here same. no_job other here))
joining_happens u pin m m' Look r d is = subst (StaysJoining u pin) (sym d.5) (looked u pin m (record { number = d.0; blocks = m.state.blocks }) is)
joining_happens u pin m m' (ReadPage number block page) r d is = subst (StaysJoining u pin) (sym d.2) is
joining_happens u pin m m' (Done gone) r d is = subst (StaysJoining u pin) (sym d.2) (ended u pin gone m d.0.no_job is)
joining_happens u pin m m' Reclaim r d is = subst (StaysJoining u pin) (sym d.1) is

pub joining_stays : (u : State) (pin f g : ℕ) (m m' : Machine) (e : event) (r : reply) → Step f g m e r m' → StaysJoining u pin m → StaysJoining u pin m'
joining_stays u pin f g m m' e r step is = kept_by (StaysJoining u pin) f g m m' e r is is (λ gone free. is) (λ none d. joining_happens u pin m m' e r d is) step

pub joining_opened : (pin : ℕ) (m m' : Machine) → IsFreeNumber pin m.state.pins → m' ≡ with_state (after_begin_compact pin m.state) m → StaysJoining m.state pin m'
joining_opened pin m m' free is =
    let new : Pinned = record { number = pin; blocks = choice m.state.blocks } in
    subst (StaysJoining m.state pin) (sym is) (omega arith, inl (refl, open-added m.state.pins new, blocks-added m.state.pins new free.is_free))

-- the compaction that is open under its number, and its blocks
theirs : (u : State) (pin : ℕ) (other : Compaction) (m : Machine) → m.state.compaction ≡ Some other → other.number ≡ u.begun + 1 → StaysJoining u pin m
    → (other ≡ chosen_job pin u) × (pinned_blocks pin m.state.pins ≡ choice u.blocks)
theirs u pin other m here same (later, inl (opens, there, blocks)) = (same_job other (chosen_job pin u) (sym here ∙ opens), blocks)
theirs u pin other m here same (later, inr none) = absurd (none other here same)

pub lists_in_place : (told : Bool) (number size pin blocks : ℕ) (begun m m' : Machine) → number ≡ begun.state.begun + 1 → IsFreeNumber pin begun.state.pins
    → blocks ≡ length (choice begun.state.blocks) → StaysJoining begun.state pin m → (StateIsSound begun.state → StateIsSound m.state) → (told ≡ true → AreCounted m'.state.blocks)
    → IsCommittedCompact number size m Fine m' → ListsInPlace told begun m blocks size m'
lists_in_place told number size pin blocks begun m m' is free all stays sound counts d =
    let own = chosen_job pin begun.state in
    let block : Block = record { file = own.file; level = own.level; size = size; rows = d.1 } in
    let found = theirs begun.state pin d.0 m d.2 (d.3 ∙ is) stays in
    let files : job_files own m.state ≡ block_files (choice begun.state.blocks) = ap block_files found.1 in
    let opens : m.state.compaction ≡ Some own = d.2 ∙ ap (λ (j : Compaction). Some j) found.0 in
    let left : m' ≡ with_state (after_commit_compact own size d.1 m.state) m =
    d.6 ∙ ap (λ (j : Compaction). with_state (after_commit_compact j size d.1 m.state) m) found.0 in record {
      all = all;
      pin = pin;
      is_free = free;
      is_open = opens;
      files = files;
      still = λ apart. ap (λ (fs : List ℕ). in_files fs m.state.blocks) (sym files) ∙ ((sound apart).joining own opens).listed ∙ found.1;
      rows = d.1;
      of_blocks = subst (λ (fs : List ℕ). IsFirstOf (block_rows (in_files fs m.state.blocks)) d.1) (ap (λ (j : Compaction). job_files j m.state) found.0 ∙ files) d.4;
      counted = λ sure. counted_last _ (record { file = d.0.file; level = d.0.level; size = size; rows = d.1 }) (subst (λ (x : Machine). AreCounted x.state.blocks) d.6 (counts sure));
      leaves = left;
      listed = ap (λ (x : Machine). x.state.blocks) left ∙ ap (λ (fs : List ℕ). outside_files fs m.state.blocks ++ block ∷ []) files;
    }
