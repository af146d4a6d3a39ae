-- Where a flush's commit may be made: what the core stands for, once the block was synced.
use Rattle.std.proofs.Common.{◌≡◌, ℕ, ◌≤◌, List, [], ◌∷◌, ◌++◌, length, None, Option, IfSome, refl, sym, ◌∙◌, ap, subst, arith, append_assoc}
use Rattle.std.specs.List.{Contains}
use Rattle.std.proofs.lemmas.List.{append-nil}
use Rattle.span_types.specs.declared.spans.Row.{Row}
use Rattle.span_types.specs.First.{IsFirstOf}
use Rattle.disk_model.specs.Images.{Image, bytes_of, SameBytes}
use Rattle.disk_model.specs.Crash.{OnlyBytes, Within}
use Rattle.head_log.specs.Stands.{SegmentHolds}
use Rattle.block_format.specs.Blocks.{BlockHolds}
use Rattle.block_list.specs.declared.body.SegmentRef.{SegmentRef}
use Rattle.block_list.specs.declared.body.ListBody.{ListBody}
use Rattle.store_model.specs.History.{count_of}
use Rattle.store_model.specs.Laws.{AgreesOn}
use Rattle.store_model.specs.State.{Flush, flush_rows, block_rows, live_rows}
use Rattle.store_model.specs.After.{floor_after}
use Rattle.store_model.specs.Event.Event.{CommitFlush}
use Rattle.store_model.specs.Event.Reply.{Fine}
use Rattle.store_model.specs.Step.{Machine, Step, with_state}
use Rattle.store_model.proofs.KeepsFirsts.{step_keeps as keeps_firsts}
use Rattle.store_model.proofs.KeepsFloor.{step_keeps as keeps_floor}
use Rattle.store_images.specs.Stored.{ref_of}
use Rattle.store_core.specs.Cores.{StandsFor}
use Rattle.store_files.specs.LogReading.{tail_of}
use Rattle.store_core.specs.declared.jobs.OpenFlush.{OpenFlush}
use Rattle.store_core.specs.declared.state.CoreState.{CoreState}
use Rattle.store_files.specs.Loose.{IsSpare}
use Rattle.store_files.proofs.Apart.{below_same, settled_below}
use Rattle.store_core.proofs.CommitImages.{MayCommit, firsts_in}
use Rattle.store_core.proofs.CommitStates.{new_block, committed_state, next_last, next_parting}
use Rattle.store_core.proofs.Logged.{both_within, flush_outside, head_outside, live_outside, logged_same}
use Rattle.store_core.proofs.OpenJobs.{IsOpenHere, spare_files}
use Rattle.store_core.proofs.Spare.{spare_low}

module _ (told : Type 0) (known : told) (held mid : Image) (may_leave may_mid : Image → Type 0) (core : CoreState) (m : Machine) (s : StandsFor told held may_leave core m) (writes : core.read_only ≡ None)
    (number file size : ℕ) (here : IsOpenHere core m number file) (firsts : List Row) (list : ListBody) (before faults : ℕ)
    (same : SameBytes held mid) (crash : Within may_leave may_mid) (lasting : OnlyBytes here.job.file (bytes_of mid here.job.file) may_mid)
    (step : Step before faults m (CommitFlush number size) Fine (with_state (committed_state m here.job size firsts) m)) where
  abbrev last : SegmentRef
  last = next_last here.mine.files m

  fresh_here : ((first : ℕ) → SegmentHolds first [] 1 (bytes_of held here.mine.files.segment)) × OnlyBytes here.mine.files.segment (bytes_of held here.mine.files.segment) may_leave
  fresh_here = subst (λ (k : Option OpenFlush). IfSome k (λ mine. ((first : ℕ) → SegmentHolds first [] 1 (bytes_of held mine.files.segment)) × OnlyBytes mine.files.segment (bytes_of held mine.files.segment) may_leave)) here.known (s.fresh known writes)

  spare_here : IsSpare core.list here.mine.files.block × IsSpare core.list here.mine.files.segment
  spare_here = spare_files core m number file s.has here

  still : (f : ℕ) (bytes : List ℕ) → bytes ≡ bytes_of held f → OnlyBytes f bytes may_leave → OnlyBytes f (bytes_of mid f) may_mid
  still f bytes is only = λ image left. only image (crash image left) ∙ is ∙ sym (same f)

  its_rows : (x : Row) → Contains (firsts ++ (m.state.head ++ live_rows m.state.live)) x → IsFirstOf here.job.rows firsts → Contains (flush_rows m.state.flush ++ m.state.head ++ live_rows m.state.live) x
  its_rows x c is = both_within firsts (m.state.head ++ live_rows m.state.live) (flush_rows m.state.flush ++ m.state.head ++ live_rows m.state.live)
      (λ y d. flush_outside m.state y (subst (λ (o : Option Flush). Contains (flush_rows o) y) (sym here.is_open) (firsts_in here.job.rows firsts is y d)))
      (both_within m.state.head (live_rows m.state.live) (flush_rows m.state.flush ++ m.state.head ++ live_rows m.state.live) (head_outside m.state) (live_outside m.state)) x c

  pub may_commit : IsFirstOf here.job.rows firsts → BlockHolds (bytes_of held here.job.file) firsts → size ≡ length firsts
      → list.segments ≡ (next_parting core m s.has here.mine.files s.above).kept ++ last ∷ [] → list.blocks ≡ core.list.blocks ++ ref_of (new_block here.job size firsts) ∷ []
      → list.floor ≡ floor_after (count_of m.history) m.state
      → MayCommit mid may_mid core.list list m.state.blocks (new_block here.job size firsts) (tail_of core.segment) m.history last (m.state.head ++ live_rows m.state.live)
  may_commit firsts_are block counted segments blocks floor = record {
    settled = settled_below held may_leave core.list (s.settled known writes).lies.ready mid may_mid (λ f below. same f) (λ image left. (image, crash image left, below_same core.list.next_file image))
        m.state.blocks (tail_of core.segment) m.history (s.settled known writes);
    floor = floor_after (count_of m.history) m.state;
    parting = next_parting core m s.has here.mine.files s.above;
    segments = segments;
    blocks_are = blocks;
    low = subst (λ (f : ℕ). 2 ≤ f) here.files.block (spare_low core.list s.has.rules here.mine.files.block spare_here.0);
    low_segment = spare_low core.list s.has.rules here.mine.files.segment spare_here.1;
    first = refl;
    fresh = subst (λ (b : List ℕ). SegmentHolds (count_of m.history) [] 1 b) (sym (same here.mine.files.segment)) (fresh_here.0 (count_of m.history));
    fresh_only = still here.mine.files.segment (bytes_of held here.mine.files.segment) refl fresh_here.1;
    own = record { holds = subst (λ (b : List ℕ). BlockHolds b firsts) (sym (same here.job.file)) block; counted = counted };
    own_only = lasting;
    rest = subst (λ (r : List Row). AgreesOn r m.history) joined (keeps_firsts before faults m (with_state (committed_state m here.job size firsts) m) (CommitFlush number size) Fine s.agrees step);
    logged = logged_same held mid core.list (flush_rows m.state.flush ++ m.state.head ++ live_rows m.state.live) (firsts ++ (m.state.head ++ live_rows m.state.live)) (λ x inside. same x.file)
        (λ x c. its_rows x c firsts_are) (s.logged known writes);
    above = λ row c. let high : floor_after (count_of m.history) m.state ≤ row.place.number = (keeps_floor before faults m (with_state (committed_state m here.job size firsts) m) (CommitFlush number size) Fine s.above step).waiting row c in omega (arith, high, floor);
  }
    where
      listed : List Row
      listed = block_rows (m.state.blocks ++ new_block here.job size firsts ∷ [])

      joined : listed ++ [] ++ m.state.head ++ live_rows m.state.live ≡ listed ++ (m.state.head ++ live_rows m.state.live)
      joined = ap (λ (r : List Row). (r ++ m.state.head) ++ live_rows m.state.live) (append-nil listed) ∙ append_assoc listed m.state.head (live_rows m.state.live)
