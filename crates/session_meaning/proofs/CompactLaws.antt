-- What a compaction does, and why it is refused.
use Rattle.std.proofs.Common.{◌≡◌, ◌⊎◌, inl, inr, ℕ, ◌+◌, ◌<◌, Bool, true, false, List, [], ◌∷◌, ◌++◌, Some, None, length, refl, sym, ◌∙◌, ap, subst}
use Rattle.std.proofs.lemmas.List.{length-map}
use Rattle.span_types.specs.Faults.{Rose}
use Rattle.span_types.specs.First.{IsFirstOf}
use Rattle.span_types.specs.declared.spans.Row.{Row}
use Rattle.store_model.specs.After.{after_begin_compact, after_commit_compact, chosen_job, job_files}
use Rattle.store_model.specs.Choice.{choice, in_files}
use Rattle.store_model.specs.Event.Event.{BeginCompact}
use Rattle.store_model.specs.Event.Reply.{Fine}
use Rattle.store_model.specs.State.{Block, Compaction, IsFreeNumber, block_files, block_rows}
use Rattle.store_model.specs.Step.{IsCommittedCompact, Machine, with_state}
use Rattle.store_model.specs.Told.{AreCounted}
use Rattle.store_model.proofs.Pins.{blocks-added}
use Rattle.store_state.specs.Rounds.{begin_cause}
use Rattle.store_state.specs.declared.rounds.Refusal.{Refusal}
use Rattle.store_state.specs.declared.rounds.Refusal.TheVariants.{Busy, Fault, FilesSpent, Memory, NotBlock, ReadOnly}
use Rattle.store_state.specs.declared.rounds.Round.{Round}
use Rattle.store_state.specs.declared.rounds.Round.TheVariants.{Did, Refused}
use Rattle.session_meaning.specs.At.{At}
use Rattle.session_meaning.specs.Causes.{HasCompactCause, StoppedWriting}
use Rattle.session_meaning.specs.Rounds.{HasDropped, HasJoined, IsCompacted, IsDoneOrStarved, IsTold, Job}
use Rattle.session_meaning.specs.Rounds.{IsRound as round_of}
use Rattle.session_meaning.specs.Upkeep.{IsClosed}
use Rattle.session_meaning.proofs.RoundLaws.{Ending, HasBegun, HasFailed, IsRefusedFor, OfKind, has_begun, not_did, round_caused, same_files}
use Rattle.session_meaning.proofs.RoundLaws.Ending.{Breaks, GivesUp, Lists, Misreads}
use Rattle.session_meaning.proofs.RoundLaws.OfKind.{Blocks}
use Rattle.session_meaning.proofs.RoundRoom.{KeepsRoom, round_without_faults}
use Rattle.session_meaning.proofs.RoundSteps.IsBegin.{OfCompaction}
use Rattle.session_meaning.proofs.Steps.{rose_to}

-- ---- why it is refused

failed : (before after : At) → HasFailed BeginCompact before after → Rose before.faults after.faults × (HasDropped before.machine after.machine ⊎ StoppedWriting before after)
failed before after (inl (n, rose, within, broke)) = (rose_to before.faults n after.faults rose within, inr (n, rose, within, broke))
failed before after (inr (joins, rose, dropped)) = (rose, inl dropped)

untold : (told : Bool) → (told ≡ true → ⊥) → told ≡ false
untold true none = absurd (none refl)
untold false none = refl

caused_by : (told : Bool) (before after : At) (w : Refusal) → IsRefusedFor BeginCompact w before after → (told ≡ true → IsTold (Refused w) after) → HasCompactCause told w before after
caused_by told before after Fault so tells = failed before after so
caused_by told before after (NotBlock file at) so tells = (untold told tells, so.1)
caused_by told before after (ReadOnly faults) so tells = so
caused_by told before after (Busy number) so tells = so
caused_by told before after (FilesSpent next) so tells = so
caused_by told before after Memory so tells = so

-- A refused compaction has its cause.
pub compaction_caused : (told : Bool) (before after : At) (w : Refusal) → IsCompacted told before (Refused w) after → IsClosed before.machine → HasCompactCause told w before after
compaction_caused told before after w (is, tells) closed = caused_by told before after w (round_caused BeginCompact OfCompaction before after w is closed) tells

-- ---- blocks are joined

same_did : (a b c d : ℕ) → Did a b ≡ Did c d → (a ≡ c) × (b ≡ d)
same_did a b c d e = (cc, cc)

some_job : (a b : Compaction) → Some a ≡ Some b → a ≡ b
some_job a b e = cc

pub counted_last : (front : List Block) (last : Block) → AreCounted (front ++ last ∷ []) → last.size ≡ length last.rows
counted_last [] last are = are.0
counted_last (block ∷ front) last are = counted_last front last are.1

-- What the commit of a job listed, which this begin gave.
pub record ListsJoined (m : Machine) (pin size : ℕ) (m' : Machine) : Type 0 where
  pub rows : List Row
  pub of_blocks : IsFirstOf (block_rows (in_files (block_files (choice m.state.blocks)) m.state.blocks)) rows
  pub leaves : m' ≡ with_state (after_commit_compact (chosen_job pin m.state) size rows (after_begin_compact pin m.state)) m
  pub counted : AreCounted m'.state.blocks → size ≡ length rows

joined_at : (number size pin : ℕ) (m at m' : Machine) → IsFreeNumber pin m.state.pins → at ≡ with_state (after_begin_compact pin m.state) m → IsCommittedCompact number size at Fine m'
    → ListsJoined m pin size m'
joined_at number size pin m at m' free begun_is done =
    let u = after_begin_compact pin m.state in
    let d : IsCommittedCompact number size (with_state u m) Fine m' = subst (λ (x : Machine). IsCommittedCompact number size x Fine m') begun_is done in
    let job : chosen_job pin m.state ≡ d.0 = some_job (chosen_job pin m.state) d.0 d.2 in
    let files : job_files (chosen_job pin m.state) u ≡ block_files (choice m.state.blocks) =
    ap block_files (blocks-added m.state.pins (record { number = pin; blocks = choice m.state.blocks }) free.is_free) in
    let leaves : m' ≡ with_state (after_commit_compact (chosen_job pin m.state) size d.1 u) m =
    d.6 ∙ ap (λ (j : Compaction). with_state (after_commit_compact j size d.1 u) m) (sym job) in record {
      rows = d.1;
      of_blocks = subst (λ (fs : List ℕ). IsFirstOf (block_rows (in_files fs m.state.blocks)) d.1) files
          (subst (λ (j : Compaction). IsFirstOf (block_rows (in_files (job_files j u) m.state.blocks)) d.1) (sym job) d.4);
      leaves = leaves;
      counted = λ are. counted_last _ (record { file = d.0.file; level = d.0.level; size = size; rows = d.1 }) (subst (λ (x : Machine). AreCounted x.state.blocks) d.6 are);
    }

ended_joined : (told : Bool) (before : At) (job : Job) (blocks count : ℕ) (after : At) → (has : HasBegun BeginCompact before job (Did blocks count) after) → OfKind BeginCompact job
    → (told ≡ true → AreCounted after.machine.state.blocks) → Ending job has.begun_at (Did blocks count) after → HasJoined told before.machine blocks count after.machine
ended_joined told before job blocks count after has (Blocks its) tells (Lists size sized done is) =
    let m = before.machine in
    let same = same_did blocks count (length its.files) size is in
    let theirs : its.files ≡ block_files (choice m.state.blocks) = (same_files its _ has.happened.2).1 in
    let now = joined_at its.number size has.happened.0 m has.begun_at.machine after.machine has.happened.1 has.happened.3 done in record {
      some = has.is_free.some;
      all = same.0 ∙ ap length theirs ∙ length-map (choice m.state.blocks) (λ (block : Block). block.file);
      pin = has.happened.0;
      is_free = has.happened.1;
      rows = now.rows;
      of_blocks = now.of_blocks;
      counted = λ is_told. same.1 ∙ now.counted (tells is_told);
      leaves = now.leaves ∙ ap (λ (n : ℕ). with_state (after_commit_compact (chosen_job has.happened.0 m.state) n now.rows (after_begin_compact has.happened.0 m.state)) m) (sym same.1);
    }
ended_joined told before job blocks count after has kind tells (Breaks n rose within broke is) = absurd (not_did Fault blocks count is)
ended_joined told before job blocks count after has kind tells (Misreads joins rose gone is) = absurd (not_did Fault blocks count is)
ended_joined told before job blocks count after has kind tells (GivesUp w for gone is) = absurd (not_did w blocks count is)

pub blocks_joined : (told : Bool) (before after : At) (blocks count : ℕ) → IsCompacted told before (Did blocks count) after → HasJoined told before.machine blocks count after.machine
blocks_joined told before after blocks count (round_of.nothing step is, tells) = let bad : ⊥ = cc in absurd bad
blocks_joined told before after blocks count (round_of.no_job b step is, tells) = absurd (not_did (begin_cause b) blocks count is)
blocks_joined told before after blocks count (round_of.job job at step ends, tells) =
    let has = has_begun BeginCompact OfCompaction before at job (Did blocks count) after step ends in ended_joined told before job blocks count after has has.kind tells has.ended

-- A compaction that joined blocks took a number for its file, and there was one.
pub joined_takes_a_number : (told : Bool) (before after : At) (blocks count : ℕ) → IsCompacted told before (Did blocks count) after
    → (after.machine.state.next_file ≡ before.machine.state.next_file + 1) × (before.machine.state.next_file < 4294967294)
joined_takes_a_number told before after blocks count is = (
  ap (λ (m : Machine). m.state.next_file) (blocks_joined told before after blocks count is).leaves,
  had_one is.0,
)
  where
    had_one : round_of BeginCompact before (Did blocks count) after → before.machine.state.next_file < 4294967294
    had_one (round_of.nothing step is) = let bad : ⊥ = cc in absurd bad
    had_one (round_of.no_job b step is) = absurd (not_did (begin_cause b) blocks count is)
    had_one (round_of.job job at step ends) =
        (has_begun BeginCompact OfCompaction before at job (Did blocks count) after step ends).is_free.files

-- ---- without faults

-- A compaction in which no call failed, of a store that writes and has file numbers left, is done or memory ran out, where what the
-- blocks hold is told.
pub compaction_without_faults : (before : At) (round : Round) (after : At) → IsCompacted true before round after → (Rose before.faults after.faults → ⊥) → before.machine.read_only ≡ None
    → IsClosed before.machine → before.machine.state.next_file < 4294967294 → IsDoneOrStarved round × KeepsRoom 2 before.machine after.machine
compaction_without_faults before round after (is, tells) well writes closed files =
    round_without_faults BeginCompact OfCompaction before round after is well
    (λ found. subst (λ (r : Round). IsTold r after) found.2 (tells refl)) writes closed files
