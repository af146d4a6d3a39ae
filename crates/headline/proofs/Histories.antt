-- What follows where replies tell a history.
use Rattle.std.proofs.Common.{◌≡◌, ℕ, ◌+◌, ◌-◌, ◌≤◌, ◌==◌, Bool, true, false, List, [], ◌∷◌, ◌++◌, Option, None, Some, append_assoc, append-nil, arith, ap, length, refl, sym, ◌∙◌, subst, if◌then◌else◌}
use Rattle.std.proofs.lemmas.List.{take_all}
use Rattle.session_text.specs.declared.reply.Reply.{Reply}
use Rattle.session_text.specs.declared.reply.Reply.TheVariants.{Reopened}
use Rattle.store_entries.specs.declared.entry.Entry.{Entry}
use Rattle.store_model.specs.History.{History, count_of, grown, up_to}
use Rattle.store_model.proofs.HistoryLaws.{count_grown}
use Rattle.store_model.proofs.KeepsHolds.{grown_up}
use Rattle.store_reopen.specs.Through.{Pending, pending_now}
use Rattle.stored_history.specs.Alike.{AreAlike}
use Rattle.stored_history.proofs.StayAlike.{stay_alike}
use Rattle.session_meaning.specs.Act.{Act}
use Rattle.session_meaning.specs.Act.Act.{Ask, Reopen, Unread}
use Rattle.session_meaning.specs.Kept.{Kept, found_again, kept_after, kept_after_all, were_unsure}
use Rattle.session_meaning.specs.Pushes.{accepted_entry, unsure_after_line}
use Rattle.headline.specs.Headline.{TellTheHistory, TellsFront, TellsOf}

-- ---- histories

pub same_grown : (h : History) → grown h [] ≡ h
same_grown h = ap (λ (es : List Entry). record { base = h.base; start = h.start; entries = es }) (append-nil h.entries)

pub grown_twice : (h : History) (more last : List Entry) → grown (grown h more) last ≡ grown h (more ++ last)
grown_twice h more last = ap (λ (es : List Entry). record { base = h.base; start = h.start; entries = es }) (append_assoc h.entries more last)

pub now_is : (h : History) → up_to (count_of h) h ≡ h
now_is h = ap (λ (es : List Entry). record { base = h.base; start = h.start; entries = es }) (take_all (h.start + length h.entries - h.start) h.entries (omega arith))

-- a history that grew, as it was before
pub as_before : (h : History) (more : List Entry) → up_to (count_of h) (grown h more) ≡ h
as_before h more = grown_up h more (count_of h) (omega arith) ∙ now_is h

pub no_shorter : (h last : History) (more : List Entry) → last ≡ grown h more → count_of h ≤ count_of last
no_shorter h last more is = let all = ap count_of is ∙ count_grown h more in omega (arith, all)

-- ---- lines and replies

-- the entry that an opening found
abbrev added_again : Option Entry → ℕ → History → List Entry
added_again None entries h = []
added_again (Some entry) entries h = if entries == count_of h then [] else entry ∷ []

again_grows : (u : Option Entry) (entries : ℕ) (h : History) → found_again u entries h ≡ grown h (added_again u entries h)
again_grows None entries h = sym (same_grown h)
again_grows (Some entry) entries h = by_count (entries == count_of h)
  where
    by_count : (t : Bool) → (if t then h else grown h (entry ∷ [])) ≡ grown h (if t then [] else entry ∷ [])
    by_count true = sym (same_grown h)
    by_count false = refl

-- what a line adds to the history
abbrev pub added_by : Kept → Act → Reply → List Entry
added_by k (Ask item) reply = accepted_entry item reply
added_by k (Reopen moment) (Reopened entries) = added_again k.unsure entries k.history
added_by k _ _ = []

pub act_grows : (k : Kept) (act : Act) (r : Reply) → (kept_after k act r).history ≡ grown k.history (added_by k act r)
act_grows k (Ask item) r = refl
act_grows k (Reopen moment) (Reopened entries) = again_grows k.unsure entries k.history
act_grows k (Reopen moment) _ = sym (same_grown k.history)
act_grows k Unread r = sym (same_grown k.history)

abbrev pub added_all : Kept → List Act → List Reply → List Entry
added_all k [] replies = []
added_all k (act ∷ acts) [] = []
added_all k (act ∷ acts) (reply ∷ replies) = added_by k act reply ++ added_all (kept_after k act reply) acts replies

pub acts_grow : (acts : List Act) (replies : List Reply) (k : Kept) → (kept_after_all k acts replies).history ≡ grown k.history (added_all k acts replies)
acts_grow [] replies k = sym (same_grown k.history)
acts_grow (a ∷ more) [] k = sym (same_grown k.history)
acts_grow (a ∷ more) (r ∷ rs) k =
    acts_grow more rs (kept_after k a r)
    ∙ ap (λ (x : History). grown x (added_all (kept_after k a r) more rs)) (act_grows k a r)
    ∙ grown_twice k.history (added_by k a r) (added_all (kept_after k a r) more rs)

-- what is kept at last is what lines and replies tell
pub told_kept : (acts : List Act) (replies : List Reply) (k last : Kept) → TellTheHistory k acts replies last → last ≡ kept_after_all k acts replies
told_kept [] replies k last t = t.1
told_kept (a ∷ more) [] k last t = absurd t
told_kept (a ∷ more) (r ∷ rs) k last t = told_kept more rs (kept_after k a r) last t.1

pub told_grows : (acts : List Act) (replies : List Reply) (k last : Kept) → TellTheHistory k acts replies last → last.history ≡ grown k.history (added_all k acts replies)
told_grows acts replies k last t = ap (λ (x : Kept). x.history) (told_kept acts replies k last t) ∙ acts_grow acts replies k

-- One line among others: what is kept at it, which it tells, and from which the others go on.
at_line : (before after : List Act) (earlier later : List Reply) (act : Act) (reply : Reply) (k last : Kept) → length before ≡ length earlier
    → TellTheHistory k (before ++ act ∷ after) (earlier ++ reply ∷ later) last
    → TellsOf (kept_after_all k before earlier) act reply × TellTheHistory (kept_after (kept_after_all k before earlier) act reply) after later last
at_line [] after [] later act reply k last same t = t
at_line [] after (r ∷ rs) later act reply k last same t = absurd (omega (arith, same))
at_line (a ∷ more) after [] later act reply k last same t = absurd (omega (arith, same))
at_line (a ∷ more) after (r ∷ rs) later act reply k last same t = at_line more after rs later act reply (kept_after k a r) last (omega (arith, same)) t.1

pub front_told : (first last : Kept) (before after : List Act) (act : Act) (earlier later : List Reply) (reply : Reply) → length before ≡ length earlier
    → TellTheHistory first (before ++ act ∷ after) (earlier ++ reply ∷ later) last → TellsFront first last before earlier act reply
front_told first last before after act earlier later reply same t =
    let here = kept_after_all first before earlier in
    let at = at_line before after earlier later act reply first last same t in
    let more = added_all (kept_after here act reply) after later in
    let all : last.history ≡ grown here.history (added_by here act reply ++ more) =
    told_grows after later (kept_after here act reply) last at.1 ∙ ap (λ (x : History). grown x more) (act_grows here act reply)
    ∙ grown_twice here.history (added_by here act reply) more in record {
      within = no_shorter here.history last.history (added_by here act reply ++ more) all;
      front = ap (up_to (count_of here.history)) all ∙ as_before here.history (added_by here act reply ++ more);
      tells = at.0;
    }

-- ---- histories that are told alike

-- The same is kept, with histories that can't be told apart.
pub record KeptAlike (k l : Kept) : Type 0 where
  pub histories : AreAlike k.history l.history
  pub is_open : k.is_open ≡ l.is_open
  pub unsure : k.unsure ≡ l.unsure
  pub pending : k.pending ≡ l.pending

pending_alike : (u : Option Entry) (h g : History) → count_of h ≡ count_of g → pending_now h u ≡ pending_now g u
pending_alike None h g same = refl
pending_alike (Some entry) h g same = ap (λ (n : ℕ). record { length = n; entry = entry } ∷ []) same

pub were_alike : (k l : Kept) → KeptAlike k l → were_unsure k ≡ were_unsure l
were_alike k l same =
    ap (λ (ps : List Pending). ps ++ pending_now k.history k.unsure) same.pending
    ∙ ap (λ (ps : List Pending). l.pending ++ ps) (pending_alike k.unsure k.history l.history same.histories.counts ∙ ap (pending_now l.history) same.unsure)

again_alike : (u v : Option Entry) (entries : ℕ) (h g : History) → u ≡ v → count_of h ≡ count_of g → added_again u entries h ≡ added_again v entries g
again_alike u v entries h g same counts = ap (λ (x : Option Entry). added_again x entries h) same ∙ by_entry v
  where
    by_entry : (x : Option Entry) → added_again x entries h ≡ added_again x entries g
    by_entry None = refl
    by_entry (Some entry) = ap (λ (n : ℕ). if entries == n then [] else entry ∷ []) counts

pub added_alike : (act : Act) (r : Reply) (k l : Kept) → KeptAlike k l → added_by k act r ≡ added_by l act r
added_alike (Ask item) r k l same = refl
added_alike (Reopen moment) (Reopened entries) k l same = again_alike k.unsure l.unsure entries k.history l.history same.unsure same.histories.counts
added_alike (Reopen moment) _ k l same = refl
added_alike Unread r k l same = refl

after_alike : (act : Act) (r : Reply) (k l : Kept) → KeptAlike k l → AreAlike (kept_after k act r).history (kept_after l act r).history
after_alike act r k l same =
    subst (λ (x : History). AreAlike x (kept_after l act r).history) (sym (act_grows k act r))
    (subst (AreAlike (grown k.history (added_by k act r))) (sym (act_grows l act r))
    (subst (λ (es : List Entry). AreAlike (grown k.history (added_by k act r)) (grown l.history es)) (added_alike act r k l same)
    (stay_alike k.history l.history (added_by k act r) same.histories)))

pub line_alike : (act : Act) (r : Reply) (k l : Kept) → KeptAlike k l → KeptAlike (kept_after k act r) (kept_after l act r)
line_alike (Ask item) r k l same = record {
  histories = after_alike (Ask item) r k l same;
  is_open = same.is_open;
  unsure = ap (λ (u : Option Entry). unsure_after_line u item r) same.unsure;
  pending = same.pending;
}
line_alike (Reopen moment) (Reopened entries) k l same = record {
  histories = after_alike (Reopen moment) (Reopened entries) k l same;
  is_open = refl;
  unsure = refl;
  pending = were_alike k l same;
}
line_alike (Reopen moment) _ k l same = record { histories = same.histories; is_open = refl; unsure = same.unsure; pending = same.pending }
line_alike Unread r k l same = same

pub all_alike : (acts : List Act) (replies : List Reply) (k l : Kept) → KeptAlike k l → KeptAlike (kept_after_all k acts replies) (kept_after_all l acts replies)
all_alike [] replies k l same = same
all_alike (a ∷ more) [] k l same = same
all_alike (a ∷ more) (r ∷ rs) k l same = all_alike more rs (kept_after k a r) (kept_after l a r) (line_alike a r k l same)

pub added_all_alike : (acts : List Act) (replies : List Reply) (k l : Kept) → KeptAlike k l → added_all k acts replies ≡ added_all l acts replies
added_all_alike [] replies k l same = refl
added_all_alike (a ∷ more) [] k l same = refl
added_all_alike (a ∷ more) (r ∷ rs) k l same =
    ap (λ (es : List Entry). es ++ added_all (kept_after k a r) more rs) (added_alike a r k l same)
    ∙ ap (λ (es : List Entry). added_by l a r ++ es) (added_all_alike more rs (kept_after k a r) (kept_after l a r) (line_alike a r k l same))
