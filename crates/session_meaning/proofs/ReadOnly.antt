-- A store writes no more only where a call failed since it wrote.
use Rattle.std.proofs.Common.{Bool, false, ◌≡◌, ◌⊎◌, inl, inr, ◌∙◌, ℕ, ◌≤◌, List, [], ◌∷◌, Some, None, Ok, Err, ap, arith, sym, subst}
use Rattle.span_types.specs.Faults.{Rose}
use Rattle.session_text.specs.declared.reply.Reply.{Reply}
use Rattle.session_text.specs.declared.request.Request.TheVariants as request
use Rattle.session_text.specs.Items.{Item}
use Rattle.store_model.specs.Event.{Event as event, Reply as reply}
use Rattle.store_model.specs.Event.Event.{BeginCompact, BeginFlush, Cut, CutAll, Push, Reclaim}
use Rattle.store_model.specs.Step.{Machine, Step}
use Rattle.store_model.specs.Step.Step.{Sure, Succeeds, Lacks, Unread, Breaks, Halts}
use Rattle.store_state.specs.Replies.{count_reply, push_reply, reclaim_reply}
use Rattle.session_meaning.specs.At.{At, IsStep, IsUnchanged}
use Rattle.session_meaning.specs.Causes.{is_disk_fault}
use Rattle.session_meaning.specs.Session.{IsAnsweredOrRefused, Session}
use Rattle.session_meaning.specs.Upkeep.{HasFailedSince}
use Rattle.session_meaning.proofs.RoundLaws.{round_carries}
use Rattle.session_meaning.proofs.RoundSteps.IsBegin.{OfCompaction, OfFlush}
use Rattle.session_meaning.proofs.Steps.{happens_writes, read_only, rose_from, two}

step_fails : (f g : ℕ) (m m' : Machine) (e : event) (r : reply) → Step f g m e r m' → (m'.read_only ≡ m.read_only) ⊎ (Rose f g × (m'.read_only ≡ Some g))
step_fails f g m m' e r (Sure told same) = inl (ap read_only same)
step_fails f g m m' e r (Succeeds none done) = inl (happens_writes m m' e r done)
step_fails f g m m' e r (Lacks none takes told same) = inl (ap read_only same)
step_fails f g m m' e r (Unread reads told rose same) = inl (ap read_only same)
step_fails f g m m' e r (Breaks none writes told rose same) = inr (rose, ap read_only same)
step_fails f g m m' e r (Halts none reclaims writes told rose emptied fewer same) = inr (rose, ap read_only same)

abbrev pub Since : ℕ → At → Type 0
Since start at = (start ≤ at.faults) × HasFailedSince start at

kept_on : (start : ℕ) (before after : At) → before.faults ≤ after.faults → after.machine.read_only ≡ before.machine.read_only → HasFailedSince start before → HasFailedSince start after
kept_on start before after later same (inl none) = inl (same ∙ none)
kept_on start before after later same (inr (n, is, rose, within)) = inr (n, same ∙ is, rose, two n before.faults after.faults within later)

pub by_step : (start : ℕ) (before after : At) (e : event) (r : reply) → IsStep before e r after → Since start before → Since start after
by_step start before after e r step (earlier, since) =
    (two start before.faults after.faults earlier step.0, go (step_fails before.faults after.faults before.machine after.machine e r step.1))
  where
    go : (after.machine.read_only ≡ before.machine.read_only) ⊎ (Rose before.faults after.faults × (after.machine.read_only ≡ Some after.faults)) → HasFailedSince start after
    go (inl same) = kept_on start before after step.0 same since
    go (inr (rose, is)) = inr (after.faults, is, rose_from start before.faults after.faults earlier rose, omega arith)

pub by_still : (start : ℕ) (failed : Bool) (before after : At) → IsUnchanged failed before after → Since start before → Since start after
by_still start failed before after still (earlier, since) =
    (two start before.faults after.faults earlier still.1, kept_on start before after still.1 (ap read_only still.0) since)

pub item_since : (start : ℕ) (told : Bool) (item : Item) (before after : At) (r : Reply) → IsAnsweredOrRefused told item before r after → Since start before → Since start after
item_since start told (Ok (request.Push reading moment)) before after r (inl (answer, is, step)) since = by_step start before after (Push reading.batch.spans moment) (push_reply answer) step since
item_since start told (Ok (request.Push reading moment)) before after r (inr bad) since = absurd bad
item_since start told (Ok (request.Trace id)) before after r (inl (rows, found, is, still)) since = by_still start false before after still since
item_since start told (Ok (request.Trace id)) before after r (inr (why, is, cause, still)) since = by_still start (is_disk_fault why) before after still since
item_since start told (Ok (request.Search s)) before after r (inl (results, found, is, still)) since = by_still start false before after still since
item_since start told (Ok (request.Search s)) before after r (inr (why, is, cause, still)) since = by_still start (is_disk_fault why) before after still since
item_since start told (Ok (request.Metrics m)) before after r (inl (results, series, found, are, is, still)) since = by_still start false before after still since
item_since start told (Ok (request.Metrics m)) before after r (inr (why, is, cause, still)) since = by_still start (is_disk_fault why) before after still since
item_since start told (Ok (request.Cut moment)) before after r (inl (answer, is, step)) since = by_step start before after (Cut moment) (count_reply answer) step since
item_since start told (Ok (request.Cut moment)) before after r (inr bad) since = absurd bad
item_since start told (Ok request.CutAll) before after r (inl (answer, is, step)) since = by_step start before after CutAll (count_reply answer) step since
item_since start told (Ok request.CutAll) before after r (inr bad) since = absurd bad
item_since start told (Ok request.Flush) before after r (inl (round, is, flushed)) since =
    round_carries (Since start) (λ b a e x none step has. by_step start b a e x step has) (λ b a still has. by_still start false b a still has) BeginFlush OfFlush before round after flushed since
item_since start told (Ok request.Flush) before after r (inr bad) since = absurd bad
item_since start told (Ok request.Compact) before after r (inl (round, is, compacted)) since =
    round_carries (Since start) (λ b a e x none step has. by_step start b a e x step has) (λ b a still has. by_still start false b a still has) BeginCompact OfCompaction before round after compacted.0 since
item_since start told (Ok request.Compact) before after r (inr bad) since = absurd bad
item_since start told (Ok request.Reclaim) before after r (inl (answer, is, step)) since = by_step start before after Reclaim (reclaim_reply answer) step since
item_since start told (Ok request.Reclaim) before after r (inr bad) since = absurd bad
item_since start told (Err why) before after r (inl (is, same)) since = subst (Since start) (sym same) since
item_since start told (Err why) before after r (inr bad) since = absurd bad

carried : (start : ℕ) (told : Bool) (items : List Item) (replies : List Reply) (first last : At) → Session told first items replies last → Since start first → Since start last
carried start told [] replies first last h since = subst (Since start) (sym h.1) since
carried start told (i ∷ is) [] first last h since = absurd h
carried start told (i ∷ is) (r ∷ rs) first last h since = carried start told is rs h.0 last h.2 (item_since start told i first h.0 r h.1 since)

pub session_fails : (told : Bool) (items : List Item) (replies : List Reply) (first last : At) → Session told first items replies last → first.machine.read_only ≡ None
    → HasFailedSince first.faults last
session_fails told items replies first last h writes = (carried first.faults told items replies first last h (omega arith, inl writes)).1
