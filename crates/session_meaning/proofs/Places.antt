-- What is kept of a place over all that is done from there.
use Rattle.std.proofs.Common.{Bool, true, false, ◌≡◌, inl, ℕ, ◌≤◌, List, [], ◌∷◌, Some, None, refl, sym, arith, subst}
use Rattle.session_text.specs.declared.refusal.Refusal.{Refusal}
use Rattle.session_text.specs.declared.reply.Reply.{Reply}
use Rattle.session_text.specs.declared.reply.Reply.TheVariants.{Refused, Reopened}
use Rattle.session_meaning.specs.Act.{Act}
use Rattle.session_meaning.specs.Act.Act.{Ask, Reopen, Unread}
use Rattle.session_meaning.specs.Causes.{is_disk_fault}
use Rattle.session_meaning.specs.Done.{AreDone, IsDone}
use Rattle.session_meaning.specs.Place.{Place}
use Rattle.session_meaning.specs.Upkeep.{HasFailedSince, IsClosed}
use Rattle.session_meaning.proofs.AnswerLaws.{item_closes}
use Rattle.session_meaning.proofs.ReadOnly.{Since, by_still, item_since}

-- What each line keeps, all keep.
all_keep : (keeps : Place → Type 0) (told : Bool)
    → ((act : Act) (before after : Place) (reply : Reply) → IsDone told act before reply after → keeps before → keeps after)
    → (acts : List Act) (replies : List Reply) (first last : Place) → AreDone told first acts replies last → keeps first → keeps last
all_keep keeps told each [] replies first last h kept = subst keeps (sym h.1) kept
all_keep keeps told each (a ∷ more) [] first last h kept = absurd h
all_keep keeps told each (a ∷ more) (r ∷ rs) first last (between, here, later) kept =
    all_keep keeps told each more rs between last later (each a first between r here kept)

-- ---- what an open store's disk lists

abbrev ListsOpen : Place → Type 0
ListsOpen place = place.is_open ≡ true → place.is_listed ≡ true

line_lists : (told : Bool) (act : Act) (before after : Place) (reply : Reply) → IsDone told act before reply after → ListsOpen before → ListsOpen after
line_lists told (Ask item) before after reply h kept = subst ListsOpen (sym h.2) kept
line_lists told (Reopen moment) before after (Reopened entries) h kept = subst ListsOpen (sym h.1) (λ e. refl)
line_lists told (Reopen moment) before after (Refused why) h kept = subst ListsOpen (sym h.2) (λ e. let bad : ⊥ = cc in absurd bad)
line_lists told (Reopen moment) before after _ h kept = absurd h
line_lists told Unread before after reply h kept = subst ListsOpen (sym h.2) kept

pub open_lists : (told : Bool) (acts : List Act) (replies : List Reply) (first last : Place) → AreDone told first acts replies last → ListsOpen first → ListsOpen last
open_lists told = all_keep ListsOpen told (line_lists told)

-- ---- jobs

abbrev IsClosedAt : Place → Type 0
IsClosedAt place = IsClosed place.store.machine

line_closes : (told : Bool) (act : Act) (before after : Place) (reply : Reply) → IsDone told act before reply after → IsClosedAt before → IsClosedAt after
line_closes told (Ask item) before after reply h kept = item_closes told item before.store after.store reply h.1 kept
line_closes told (Reopen moment) before after (Reopened entries) h kept = λ writes. record { flush = h.0.begins.flush; compaction = h.0.begins.compaction }
line_closes told (Reopen moment) before after (Refused why) h kept = subst IsClosed (sym h.1.0) kept
line_closes told (Reopen moment) before after _ h kept = absurd h
line_closes told Unread before after reply h kept = subst IsClosedAt (sym h.2) kept

pub acts_close : (told : Bool) (acts : List Act) (replies : List Reply) (first last : Place) → AreDone told first acts replies last → IsClosedAt first → IsClosedAt last
acts_close told = all_keep IsClosedAt told (line_closes told)

-- ---- faults

abbrev SinceAt : ℕ → Place → Type 0
SinceAt start place = Since start place.store

line_fails : (start : ℕ) (told : Bool) (act : Act) (before after : Place) (reply : Reply) → IsDone told act before reply after → SinceAt start before → SinceAt start after
line_fails start told (Ask item) before after reply h since = item_since start told item before.store after.store reply h.1 since
line_fails start told (Reopen moment) before after (Reopened entries) h since =
    (subst (λ (n : ℕ). start ≤ n) (sym h.0.faults) since.0, inl h.0.begins.writes)
line_fails start told (Reopen moment) before after (Refused why) h since = by_still start (is_disk_fault why) before.store after.store h.1 since
line_fails start told (Reopen moment) before after _ h since = absurd h
line_fails start told Unread before after reply h since = subst (SinceAt start) (sym h.2) since

pub acts_fail : (told : Bool) (acts : List Act) (replies : List Reply) (first last : Place) → AreDone told first acts replies last → first.store.machine.read_only ≡ None
    → HasFailedSince first.store.faults last.store
acts_fail told acts replies first last h writes =
    (all_keep (SinceAt first.store.faults) told (line_fails first.store.faults told) acts replies first last h (omega arith, inl writes)).1
