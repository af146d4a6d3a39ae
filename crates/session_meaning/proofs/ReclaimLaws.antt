-- What the emptying of loose files makes of the store.
use Rattle.std.proofs.Common.{◌≡◌, ◌⊎◌, inl, inr, ℕ, Option, Some, None, Result, Ok, Err, arith, refl, sym, ap, subst, ◌∙◌}
use Rattle.std.specs.Prelude.{⊤}
use Rattle.span_types.specs.Faults.{Rose}
use Rattle.session_text.specs.declared.refusal.Refusal.{Refusal}
use Rattle.session_text.specs.declared.reply.Reply.TheVariants.{Reclaimed, Refused}
use Rattle.store_model.specs.Event.{Reply as reply, Refusal as cause}
use Rattle.store_model.specs.Event.Event.{Reclaim}
use Rattle.store_model.specs.Event.Reply.{Count}
use Rattle.store_model.specs.Step.{Machine, Step, if_read_only}
use Rattle.store_model.specs.Step.Step.{Sure, Succeeds, Lacks, Unread, Breaks, Halts}
use Rattle.store_model.proofs.Outcomes.{kept_by}
use Rattle.store_state.specs.Replies.{reclaim_reply, reclaim_refusal}
use Rattle.store_state.specs.declared.errors.ReclaimError.{ReclaimError}
use Rattle.store_state.specs.declared.errors.ReclaimError.TheVariants as error
use Rattle.client_run.specs.Answers.{reclaim_cause, reclaimed_reply}
use Rattle.session_meaning.specs.At.{At, IsStep}
use Rattle.session_meaning.specs.Causes.{HasWriteCause}
use Rattle.session_meaning.specs.Upkeep.{HasEmptied, IsClosed}
use Rattle.session_meaning.proofs.RoundRoom.{KeepsRoom, room_itself}

-- what an event that tests only whether the store writes answers surely
sure_reply : (P : reply → Type 0) (o : Option ℕ) (r : reply) → ((n : ℕ) → o ≡ Some n → P (reply.Refused (cause.ReadOnly n))) → if_read_only o None ≡ Some r → P r
sure_reply P (Some n) r one e = subst P (same (reply.Refused (cause.ReadOnly n)) r e) (one n refl)
  where
    same : (a b : reply) → Some a ≡ Some b → a ≡ b
    same a b e = cc
sure_reply P None r one e = let bad : ⊥ = cc in absurd bad

writes_of : (o : Option ℕ) → if_read_only o None ≡ None → o ≡ None
writes_of None e = refl
writes_of (Some n) e = let bad : ⊥ = cc in absurd bad

-- All were emptied; or it is refused, and then this holds.
abbrev Why : ℕ → ℕ → Machine → Machine → cause → Type 0
Why f g m m' (cause.ReadOnly n) = m.read_only ≡ Some n
Why f g m m' cause.Fault = Rose f g × (m'.read_only ≡ Some g)
Why f g m m' cause.Memory = ⊤
Why f g m m' _ = ⊥

abbrev Tells : ℕ → ℕ → Machine → Machine → reply → Type 0
Tells f g m m' (Count n) = HasEmptied m n m'
Tells f g m m' (reply.Refused why) = Why f g m m' why
Tells f g m m' _ = ⊤

tells : (f g : ℕ) (m m' : Machine) (r : reply) → Step f g m Reclaim r m' → Tells f g m m' r
tells f g m m' r (Sure told same) = sure_reply (Tells f g m m') m.read_only r (λ n is. is) told
tells f g m m' r (Succeeds none done) =
    subst (Tells f g m m') (sym done.0) (record { writes = writes_of m.read_only none; all = refl; leaves = done.1 })
tells f g m m' r (Lacks none takes told same) = subst (Tells f g m m') (sym told) tt
tells f g m m' r (Unread reads told rose same) = let bad : ⊥ = cc in absurd bad
tells f g m m' r (Breaks none writes told rose same) = subst (Tells f g m m') (sym told) (rose, ap (λ (n : Machine). n.read_only) same)
tells f g m m' r (Halts none reclaims writes told rose emptied fewer same) = subst (Tells f g m m') (sym told) (rose, ap (λ (n : Machine). n.read_only) same)

-- ---- what it is told

caused : (before after : At) (why : ReclaimError) → Why before.faults after.faults before.machine after.machine (reclaim_refusal why) → HasWriteCause (reclaim_cause why) before after
caused before after (error.ReadOnly faults) c = c
caused before after error.Fault c = c
caused before after error.Memory c = tt

same_refusal : (a b : Refusal) → Refused a ≡ Refused b → a ≡ b
same_refusal a b e = cc

-- Refused, it has the cause that its reply names.
pub reclaim_caused : (before after : At) (answer : Result ℕ ReclaimError) (why : Refusal) → Refused why ≡ reclaimed_reply answer → IsStep before Reclaim (reclaim_reply answer) after → HasWriteCause why before after
reclaim_caused before after (Ok files) why is step = let bad : ⊥ = cc in absurd bad
reclaim_caused before after (Err error) why is step =
    subst (λ (w : Refusal). HasWriteCause w before after) (sym (same_refusal why (reclaim_cause error) is))
    (caused before after error (tells before.faults after.faults before.machine after.machine (reply.Refused (reclaim_refusal error)) step.1))

same_files : (a b : ℕ) → Reclaimed a ≡ Reclaimed b → a ≡ b
same_files a b e = cc

-- Else it is told how many files it emptied.
pub files_emptied : (before after : At) (answer : Result ℕ ReclaimError) (files : ℕ) → Reclaimed files ≡ reclaimed_reply answer → IsStep before Reclaim (reclaim_reply answer) after
    → HasEmptied before.machine files after.machine
files_emptied before after (Ok n) files is step =
    subst (λ (k : ℕ). HasEmptied before.machine k after.machine) (sym (same_files files n is))
    (tells before.faults after.faults before.machine after.machine (Count n) step.1)
files_emptied before after (Err error) files is step = let bad : ⊥ = cc in absurd bad

-- ---- what it keeps

pub reclaim_closes : (f g : ℕ) (m m' : Machine) (r : reply) → Step f g m Reclaim r m' → IsClosed m → IsClosed m'
reclaim_closes f g m m' r step closed =
    kept_by IsClosed f g m m' Reclaim r closed (λ writes. let bad : ⊥ = cc in absurd bad) (λ gone free writes. let bad : ⊥ = cc in absurd bad)
    (λ early done writes.
    let none = closed (sym (ap (λ (n : Machine). n.read_only) done.1) ∙ writes) in
    record { flush = ap (λ (n : Machine). n.state.flush) done.1 ∙ none.flush; compaction = ap (λ (n : Machine). n.state.compaction) done.1 ∙ none.compaction }) step

-- In a store that writes, where no call failed, it is done or memory ran out.
pub reclaim_room : (f g : ℕ) (m m' : Machine) (r : reply) → (Rose f g → ⊥) → m.read_only ≡ None → Step f g m Reclaim r m'
    → (((n : ℕ) × (r ≡ Count n)) ⊎ (r ≡ reply.Refused cause.Memory)) × KeepsRoom 0 m m'
reclaim_room f g m m' r well writes (Sure told same) = absurd (sure_reply (λ x. ⊥) m.read_only r (λ n is. let bad : ⊥ = cc in bad) told)
reclaim_room f g m m' r well writes (Succeeds none done) = (
  inl (_, done.0),
  subst (KeepsRoom 0 m) (sym done.1) (record { writes = refl; history = refl; held = omega arith; files = omega arith; closed = λ no. record { flush = no.flush; compaction = no.compaction } }),
)
reclaim_room f g m m' r well writes (Lacks none takes told same) = (inr told, room_itself 0 m m' same)
reclaim_room f g m m' r well writes (Unread reads told rose same) = absurd (well rose)
reclaim_room f g m m' r well writes (Breaks none does told rose same) = absurd (well rose)
reclaim_room f g m m' r well writes (Halts none reclaims does told rose emptied fewer same) = absurd (well rose)
