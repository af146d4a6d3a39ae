-- The counts that a session tells never fall.
use Rattle.std.proofs.Common.{Bool, true, ◌≡◌, ℕ, zero, suc, ◌+◌, ◌<◌, ◌≤◌, List, [], ◌∷◌, ◌++◌, None, Some, ap, arith, length, length-append, sym, ◌∙◌, subst}
use Rattle.std.specs.List.{Contains}
use Rattle.session_text.specs.declared.reply.Reply.{Reply}
use Rattle.session_text.specs.declared.reply.Reply.TheVariants.{Pushed, Refused, Reopened}
use Rattle.session_text.specs.Items.{Item}
use Rattle.store_model.specs.History.{History, count_of}
use Rattle.store_model.proofs.HistoryLaws.{count_grown}
use Rattle.session_meaning.specs.Act.{Act}
use Rattle.session_meaning.specs.Act.Act.{Ask, Reopen, Unread}
use Rattle.session_meaning.specs.At.{At, history_of}
use Rattle.session_meaning.specs.Done.{AreDone, IsDone}
use Rattle.session_meaning.specs.Kept.{Kept, kept_at}
use Rattle.session_meaning.specs.Place.{Place, history_at}
use Rattle.session_meaning.specs.Pushes.{accepted_entries, accepted_entry, known_pushes}
use Rattle.session_meaning.specs.Session.{IsAnsweredOrRefused, Session}
use Rattle.session_meaning.proofs.Acts.{one_kept}
use Rattle.session_meaning.proofs.Told.{item_knows, later_knows, push_numbers}
use Rattle.headline.proofs.Histories.{act_grows, added_by, no_shorter}
use Rattle.headline.proofs.Telling.{item_grows}

-- no reply stands where none is
no_reply : (earlier later : List Reply) (one : Reply) → earlier ++ one ∷ later ≡ [] → ⊥
no_reply [] later one e = cc
no_reply (x ∷ xs) later one e = cc

-- how many pushes there are after a line
line_counts : (told : Bool) (item : Item) (before after : At) (r : Reply) → IsAnsweredOrRefused told item before r after
    → count_of (history_of after) ≡ count_of (history_of before) + length (accepted_entry item r)
line_counts told item before after r is =
    subst (λ (h : History). count_of h ≡ count_of (history_of before) + length (accepted_entry item r)) (sym (item_grows told item before after r is))
    (count_grown (history_of before) (accepted_entry item r))

pub never_falls : (told : Bool) (items : List Item) (earlier later : List Reply) (one other : Reply) (first last : At) (count further : ℕ)
    → Session told first items (earlier ++ one ∷ later) last → Contains later other → known_pushes one ≡ Some count → known_pushes other ≡ Some further → count ≤ further
never_falls told [] earlier later one other first last count further h there a b = absurd (no_reply earlier later one h.0)
never_falls told (i ∷ is) [] later one other first last count further h there a b =
    let here = item_knows told i first h.0 one count h.1 a in
    let more = line_counts told i first h.0 one h.1 in
    let rest = later_knows told is later h.0 last other further h.2 there b in omega (arith, here, more, rest)
never_falls told (i ∷ is) (x ∷ xs) later one other first last count further h there a b = never_falls told is xs later one other h.0 last count further h.2 there a b

pub numbered_on : (told : Bool) (items : List Item) (earlier later : List Reply) (first last : At) (number accepted rejected skipped : ℕ)
    → Session told first items (earlier ++ Pushed number accepted rejected skipped ∷ later) last → number ≡ count_of (history_of first) + length (accepted_entries items earlier)
numbered_on told [] earlier later first last number accepted rejected skipped h = absurd (no_reply earlier later (Pushed number accepted rejected skipped) h.0)
numbered_on told (i ∷ is) [] later first last number accepted rejected skipped h =
    let own = (push_numbers told i first h.0 number accepted rejected skipped h.1).0 in omega (arith, own)
numbered_on told (i ∷ is) (x ∷ xs) later first last number accepted rejected skipped h =
    let rest = numbered_on told is xs later h.0 last number accepted rejected skipped h.2 in
    let here = line_counts told i first h.0 x h.1 in
    let sizes = length-append (accepted_entry i x) (accepted_entries is xs) in omega (arith, rest, here, sizes)

-- ---- over openings

none_some : (n : ℕ) → None ≡ Some n → ⊥
none_some n e = cc

-- what an act is told of pushes, and what it leaves of them
act_knows : (act : Act) (before after : Place) (r : Reply) (n : ℕ) → IsDone true act before r after → known_pushes r ≡ Some n → n ≡ count_of (history_at before)
act_knows (Ask item) before after r n h known = item_knows true item before.store after.store r n h.1 known
act_knows (Reopen moment) before after (Reopened entries) n h known = absurd (none_some n known)
act_knows (Reopen moment) before after (Refused why) n h known = absurd (none_some n known)
act_knows (Reopen moment) before after _ n h known = absurd h
act_knows Unread before after r n h known = absurd (none_some n (sym (ap known_pushes h.1) ∙ known))

act_counts : (act : Act) (before after : Place) (r : Reply) → IsDone true act before r after → count_of (history_at before) ≤ count_of (history_at after)
act_counts act before after r h =
    no_shorter (history_at before) (history_at after) (added_by (kept_at before) act r)
    (ap (λ (k : Kept). k.history) (one_kept act before after r h) ∙ act_grows (kept_at before) act r)

act_numbers : (act : Act) (before after : Place) (number accepted rejected skipped : ℕ) → IsDone true act before (Pushed number accepted rejected skipped) after → count_of (history_at after) ≡ number + 1
act_numbers (Ask item) before after number accepted rejected skipped h = (push_numbers true item before.store after.store number accepted rejected skipped h.1).1
act_numbers (Reopen moment) before after number accepted rejected skipped h = absurd h
act_numbers Unread before after number accepted rejected skipped h = let told = h.1 in let bad : ⊥ = cc in absurd bad

later_act : (acts : List Act) (replies : List Reply) (first last : Place) (r : Reply) (n : ℕ) → AreDone true first acts replies last → Contains replies r → known_pushes r ≡ Some n
    → count_of (history_at first) ≤ n
later_act [] replies first last r n h there known = absurd (let none : length replies ≡ 0 = ap length h.0 in let less = there.1 in omega (arith, none, less))
later_act (a ∷ more) [] first last r n h there known = absurd h
later_act (a ∷ more) (x ∷ xs) first last r n h (zero, less, is_r) known =
    let same = act_knows a first h.0 x n h.1 (ap known_pushes is_r ∙ known) in omega (arith, same)
later_act (a ∷ more) (x ∷ xs) first last r n h (suc k, less, is_r) known =
    let rest = later_act more xs h.0 last r n h.2 (k, omega (arith, less), is_r) known in
    let here = act_counts a first h.0 x h.1 in omega (arith, here, rest)

pub never_falls_over : (acts : List Act) (earlier later : List Reply) (one other : Reply) (first last : Place) (count further : ℕ)
    → AreDone true first acts (earlier ++ one ∷ later) last → Contains later other → known_pushes one ≡ Some count → known_pushes other ≡ Some further → count ≤ further
never_falls_over [] earlier later one other first last count further h there a b = absurd (no_reply earlier later one h.0)
never_falls_over (x ∷ more) [] later one other first last count further h there a b =
    let here = act_knows x first h.0 one count h.1 a in
    let on = act_counts x first h.0 one h.1 in
    let rest = later_act more later h.0 last other further h.2 there b in omega (arith, here, on, rest)
never_falls_over (x ∷ more) (r ∷ rs) later one other first last count further h there a b =
    never_falls_over more rs later one other h.0 last count further h.2 there a b

pub knows_over : (acts : List Act) (earlier later : List Reply) (other : Reply) (first last : Place) (number accepted rejected skipped further : ℕ)
    → AreDone true first acts (earlier ++ Pushed number accepted rejected skipped ∷ later) last → Contains later other → known_pushes other ≡ Some further → number < further
knows_over [] earlier later other first last number accepted rejected skipped further h there b = absurd (no_reply earlier later (Pushed number accepted rejected skipped) h.0)
knows_over (x ∷ more) [] later other first last number accepted rejected skipped further h there b =
    let own = act_numbers x first h.0 number accepted rejected skipped h.1 in
    let rest = later_act more later h.0 last other further h.2 there b in omega (arith, own, rest)
knows_over (x ∷ more) (r ∷ rs) later other first last number accepted rejected skipped further h there b =
    knows_over more rs later other h.0 last number accepted rejected skipped further h.2 there b
