-- How the parts of a drill follow one another, what it counts, and what it writes.
use Rattle.std.proofs.Common.{◌≡◌, ◌⊎◌, inl, inr, ◌∙◌, ℕ, zero, suc, ◌+◌, ◌-◌, ◌<◌, ◌≤◌, Bool, true, false, ◌||◌, List, [], ◌∷◌, ◌++◌, Option, Some, None, Result, Ok, Err, length, take, drop, length-append, append_assoc, append-nil, refl, sym, ap, ap₂, string_bytes, subst, arith}
use Rattle.std.specs.Prelude.{OnErr}
use Rattle.std.specs.List.{list_any}
use Rattle.std.specs.Io.KnownBytes.{Appends}
use Rattle.disk_model.specs.declared.disk.Device.{Ghosts}
use Rattle.drill_input.specs.Drill.{drill_line}
use Rattle.io_edges.specs.Devices.{AppendsPrefix}
use Rattle.session_text.specs.declared.reply.Reply.{Reply}
use Rattle.session_text.specs.declared.request.Request.TheVariants.{Compact, CutAll, Flush}
use Rattle.session_text.specs.Items.{Item}
use Rattle.session_text.specs.Replies.{reply_text}
use Rattle.session_text.specs.Requests.{AsksPush}
use Rattle.store_core.specs.Port.{port_of}
use Rattle.store_core.specs.declared.store.Core.{Core}
use Rattle.store_model.specs.Holds.{Hold}
use Rattle.client_run.proofs.CallLemmas.{holds_kept}
use Rattle.session_meaning.specs.declared.ending.Ending.{Ending}
use Rattle.session_meaning.specs.declared.ending.Ending.TheVariants.{Answered, BadWords, NotOpened, NotStore, ReadFault, Refused, Spent, Starved, WriteFault}
use Rattle.session_meaning.specs.Asked.{IsNextMoment, after_moment}
use Rattle.session_meaning.specs.Drill.{EndsDrilling, LinesMade, accepted_told, as_one, capped, drill_text, drilled_text, is_flushed_after, last_three, pushes_told, refusals_told, report_of, starved_told, upkeep_after}
use Rattle.session_meaning.specs.Ingest.{AreJoined, is_joined}
use Rattle.session_meaning.specs.Progress.{HasAnsweredOne}
use Rattle.session_meaning.specs.Session.{end_of, is_for_memory, is_refusal, reply_texts}
use Rattle.session_meaning.proofs.SessionLaws.{over_begins, over_one, over_then}
use Rattle.trace_shell.specs.Drilling.{CountsOn, CountsOne, EndsCounted, HasMade, HasTold, all_texts, found_replies, told_text}
use Rattle.trace_shell.specs.declared.drilling.Counts.{Counts}
use Rattle.trace_shell.specs.declared.drilling.Found.{Found}
use Rattle.trace_shell.specs.declared.drilling.Texts.{Texts}

-- ---- what is counted

counts_then : (rs ss : List Reply) (old mid new : Counts) → CountsOn old mid rs → CountsOn mid new ss → CountsOn old new (rs ++ ss)
counts_then [] ss old mid new is later = subst (λ (c : Counts). CountsOn c new ss) is later
counts_then (r ∷ rs) ss old mid new (between, here, rest) later = (between, here, counts_then rs ss between mid new rest later)

abbrev IsCapped : ℕ → Type 0
IsCapped n = n ≤ 18446744073709551615

step : (a b c x y : ℕ) → b ≡ capped (a + x) → c ≡ capped (b + y) → c ≡ capped (a + (x + y))
step a b c x y first next = omega (arith, first, next)

within : (b n : ℕ) → b ≡ capped n → IsCapped b
within b n is = omega (arith, is)

none : (a : ℕ) → IsCapped a → a ≡ capped (a + 0)
none a small = omega (arith, small)

-- What was counted from counts within bounds on.
pushes_all : (rs : List Reply) (old new : Counts) → IsCapped old.pushes → CountsOn old new rs → new.pushes ≡ capped (old.pushes + pushes_told rs)
pushes_all [] old new small is = ap (λ (c : Counts). c.pushes) is ∙ none old.pushes small
pushes_all (r ∷ rs) old new small (between, here, rest) =
    step old.pushes between.pushes new.pushes _ (pushes_told rs) here.pushes (pushes_all rs between new (within between.pushes _ here.pushes) rest)

accepted_all : (rs : List Reply) (old new : Counts) → IsCapped old.accepted → CountsOn old new rs → new.accepted ≡ capped (old.accepted + accepted_told rs)
accepted_all [] old new small is = ap (λ (c : Counts). c.accepted) is ∙ none old.accepted small
accepted_all (r ∷ rs) old new small (between, here, rest) =
    step old.accepted between.accepted new.accepted _ (accepted_told rs) here.accepted (accepted_all rs between new (within between.accepted _ here.accepted) rest)

refused_all : (rs : List Reply) (old new : Counts) → IsCapped old.refused → CountsOn old new rs → new.refused ≡ capped (old.refused + refusals_told rs)
refused_all [] old new small is = ap (λ (c : Counts). c.refused) is ∙ none old.refused small
refused_all (r ∷ rs) old new small (between, here, rest) =
    step old.refused between.refused new.refused _ (refusals_told rs) here.refused (refused_all rs between new (within between.refused _ here.refused) rest)

starved_all : (rs : List Reply) (old new : Counts) → IsCapped old.starved → CountsOn old new rs → new.starved ≡ capped (old.starved + starved_told rs)
starved_all [] old new small is = ap (λ (c : Counts). c.starved) is ∙ none old.starved small
starved_all (r ∷ rs) old new small (between, here, rest) =
    step old.starved between.starved new.starved _ (starved_told rs) here.starved (starved_all rs between new (within between.starved _ here.starved) rest)

abbrev pub no_counts : Counts
no_counts = record { pushes = 0; accepted = 0; refused = 0; starved = 0 }

-- The line of the counts is that of the replies.
report_is : (rs : List Reply) (new : Counts) → CountsOn no_counts new rs → drilled_text new.pushes new.accepted new.refused new.starved ≡ report_of rs
report_is rs new on =
    let a : new.pushes ≡ capped (pushes_told rs) = (let h = pushes_all rs no_counts new (omega arith) on in omega (arith, h)) in
    let b : new.accepted ≡ capped (accepted_told rs) = (let h = accepted_all rs no_counts new (omega arith) on in omega (arith, h)) in
    let c : new.refused ≡ capped (refusals_told rs) = (let h = refused_all rs no_counts new (omega arith) on in omega (arith, h)) in
    let d : new.starved ≡ capped (starved_told rs) = (let h = starved_all rs no_counts new (omega arith) on in omega (arith, h)) in
    rw (a, b, c, d) refl

-- A refusal is among the replies just where some are counted.
any_refused : (rs : List Reply) → ((list_any is_refusal rs ≡ true) × (0 < refusals_told rs)) ⊎ ((list_any is_refusal rs ≡ false) × (refusals_told rs ≡ 0))
any_refused [] = inr (refl, refl)
any_refused (r ∷ rs) = go (is_refusal r) (any_refused rs)
  where
    go : (b : Bool) → ((list_any is_refusal rs ≡ true) × (0 < refusals_told rs)) ⊎ ((list_any is_refusal rs ≡ false) × (refusals_told rs ≡ 0))
        → (((b || list_any is_refusal rs) ≡ true) × (0 < as_one b + refusals_told rs)) ⊎ (((b || list_any is_refusal rs) ≡ false) × (as_one b + refusals_told rs ≡ 0))
    go true more = inl (refl, omega arith)
    go false (inl (some, many)) = inl (some, omega (arith, many))
    go false (inr (is_none, zero_told)) = inr (is_none, omega (arith, zero_told))

any_starved : (rs : List Reply) → ((list_any is_for_memory rs ≡ true) × (0 < starved_told rs)) ⊎ ((list_any is_for_memory rs ≡ false) × (starved_told rs ≡ 0))
any_starved [] = inr (refl, refl)
any_starved (r ∷ rs) = go (is_for_memory r) (any_starved rs)
  where
    go : (b : Bool) → ((list_any is_for_memory rs ≡ true) × (0 < starved_told rs)) ⊎ ((list_any is_for_memory rs ≡ false) × (starved_told rs ≡ 0))
        → (((b || list_any is_for_memory rs) ≡ true) × (0 < as_one b + starved_told rs)) ⊎ (((b || list_any is_for_memory rs) ≡ false) × (as_one b + starved_told rs ≡ 0))
    go true more = inl (refl, omega arith)
    go false (inl (some, many)) = inl (some, omega (arith, many))
    go false (inr (is_none, zero_told)) = inr (is_none, omega (arith, zero_told))

-- How a drill ends by its counts is how a session ends by its replies.
end_counted : (e : Ending) (rs : List Reply) (new : Counts) → CountsOn no_counts new rs → EndsCounted e new → end_of rs ≡ e
end_counted e rs new on ends = go e ends (any_refused rs) (any_starved rs)
  where
    refused_is : new.refused ≡ capped (refusals_told rs)
    refused_is = let h = refused_all rs no_counts new (omega arith) on in omega (arith, h)

    starved_is : new.starved ≡ capped (starved_told rs)
    starved_is = let h = starved_all rs no_counts new (omega arith) on in omega (arith, h)

    go : (k : Ending) → EndsCounted k new → ((list_any is_refusal rs ≡ true) × (0 < refusals_told rs)) ⊎ ((list_any is_refusal rs ≡ false) × (refusals_told rs ≡ 0))
        → ((list_any is_for_memory rs ≡ true) × (0 < starved_told rs)) ⊎ ((list_any is_for_memory rs ≡ false) × (starved_told rs ≡ 0)) → end_of rs ≡ k
    go Refused h (inl (some, many)) s = rw some refl
    go Refused h (inr (is_none, zero_told)) s = absurd (omega (arith, h, refused_is, zero_told))
    go Starved h (inl (some, many)) s = let first = h.0 in absurd (omega (arith, first, refused_is, many))
    go Starved h (inr (is_none, zero_told)) (inl (some, many)) = rw (is_none, some) refl
    go Starved h (inr (is_none, zero_told)) (inr (all_fine, nothing)) = let second = h.1 in absurd (omega (arith, second, starved_is, nothing))
    go Answered h (inl (some, many)) s = let first = h.0 in absurd (omega (arith, first, refused_is, many))
    go Answered h (inr (is_none, zero_told)) (inl (some, many)) = let second = h.1 in absurd (omega (arith, second, starved_is, many))
    go Answered h (inr (is_none, zero_told)) (inr (all_fine, nothing)) = rw (is_none, all_fine) refl
    go WriteFault h r s = absurd h
    go BadWords h r s = absurd h
    go ReadFault h r s = absurd h
    go NotOpened h r s = absurd h
    go (NotStore file at) h r s = absurd h
    go Spent h r s = absurd h

-- ---- what is written

pub appends_then : (old mid new : Option (List ℕ)) (xs ys : List ℕ) → Appends old mid xs → Appends mid new ys → Appends old new (xs ++ ys)
appends_then None mid new xs ys first next = tt
appends_then (Some a) None new xs ys first next = absurd first
appends_then (Some a) (Some b) None xs ys first next = absurd next
appends_then (Some a) (Some b) (Some c) xs ys first next = next ∙ ap (λ (bs : List ℕ). bs ++ ys) first ∙ append_assoc a xs ys

take_past : (xs ys : List ℕ) (n : ℕ) → take (length xs + n) (xs ++ ys) ≡ xs ++ take n ys
take_past [] ys n = ap (λ (k : ℕ). take k ys) (none_more n)
  where
    none_more : (n : ℕ) → 0 + n ≡ n
    none_more n = omega arith
take_past (x ∷ xs) ys n = ap (λ (k : ℕ). take k (x ∷ (xs ++ ys))) (one (length xs) n) ∙ ap (λ (zs : List ℕ). x ∷ zs) (take_past xs ys n)
  where
    one : (l n : ℕ) → suc l + n ≡ suc (l + n)
    one l n = omega arith

pub prefix_then : (old mid new : Option (List ℕ)) (xs ys : List ℕ) → Appends old mid xs → AppendsPrefix mid new ys → AppendsPrefix old new (xs ++ ys)
prefix_then old mid new xs ys first (count, next) =
    (length xs + count, subst (λ (bs : List ℕ). Appends old new bs) (sym (take_past xs ys count)) (appends_then old mid new xs (take count ys) first next))

take_front : (xs ys : List ℕ) (n : ℕ) → (m : ℕ) × (take m (xs ++ ys) ≡ take n xs)
take_front xs ys zero = (0, refl)
take_front [] ys (suc n) = (0, refl)
take_front (x ∷ xs) ys (suc n) = let more = take_front xs ys n in (suc more.0, ap (λ (zs : List ℕ). x ∷ zs) more.1)

pub prefix_here : (old new : Option (List ℕ)) (xs ys : List ℕ) → AppendsPrefix old new xs → AppendsPrefix old new (xs ++ ys)
prefix_here old new xs ys (count, first) =
    let more = take_front xs ys count in (more.0, subst (λ (bs : List ℕ). Appends old new bs) (sym more.1) first)

-- Four texts one after another.
pub four_whole : (s t u v w : Option (List ℕ)) (a b c d : List ℕ) → Appends s t a → Appends t u b → Appends u v c → Appends v w d → Appends s w (a ++ (b ++ (c ++ (d ++ []))))
four_whole s t u v w a b c d one two three four =
    appends_then s t w a (b ++ (c ++ (d ++ []))) one
    (appends_then t u w b (c ++ (d ++ [])) two
    (appends_then u v w c (d ++ []) three (subst (λ (bs : List ℕ). Appends v w bs) (sym (append-nil d)) four)))

-- What is said of a failed call is said of a result whatever it is.
pub on_err_any : {T E P : Type 0} (r : Result T E) → P → OnErr r P
on_err_any (Ok x) h = tt
on_err_any (Err e) h = h

-- Of replies after others the last three are these.
past_front : (xs ys : List Reply) → drop (length xs) (xs ++ ys) ≡ ys
past_front [] ys = refl
past_front (x ∷ xs) ys = past_front xs ys

pub three_last : (front found : List Reply) → length found ≡ 3 → last_three (front ++ found) ≡ found
three_last front found three =
    let size = length-append front found in
    let at : length (front ++ found) - 3 ≡ length front = omega (arith, size, three) in
    ap (λ (n : ℕ). drop n (front ++ found)) at ∙ past_front front found

pub found_last : (ps js : List Reply) (e : Reply) (fs : List Reply) → ps ++ (js ++ e ∷ fs) ≡ (ps ++ (js ++ e ∷ [])) ++ fs
found_last ps js e fs = sym (append_assoc ps (js ++ e ∷ []) fs ∙ ap (λ (rs : List Reply). ps ++ rs) (append_assoc js (e ∷ []) fs))

-- What the counts and what was found say is the text of the drill.
text_is : (rs front found : List Reply) (new : Counts) → CountsOn no_counts new rs → rs ≡ front ++ found → length found ≡ 3 → told_text new found ≡ drill_text rs
text_is rs front found new on are three =
    ap₂ (λ (xs : List ℕ) (fs : List Reply). xs ++ reply_texts fs) (report_is rs new on) (sym (ap last_three are ∙ three_last front found three))

pub told_ends : (e : Ending) (rs front found : List Reply) (new : Counts) (old taken : Option (List ℕ)) → CountsOn no_counts new rs → rs ≡ front ++ found → length found ≡ 3
    → HasTold e new found old taken → EndsDrilling e rs old taken
told_ends e rs front found new old taken on are three = go e
  where
    text : told_text new found ≡ drill_text rs
    text = text_is rs front found new on are three

    go : (k : Ending) → HasTold k new found old taken → EndsDrilling k rs old taken
    go Answered h = (subst (λ (bs : List ℕ). Appends old taken bs) text h.1, end_counted Answered rs new on h.0)
    go Refused h = (subst (λ (bs : List ℕ). Appends old taken bs) text h.1, end_counted Refused rs new on h.0)
    go Starved (inl h) = inl (subst (λ (bs : List ℕ). Appends old taken bs) text h.1, end_counted Starved rs new on h.0)
    go Starved (inr same) = inr same
    go WriteFault h = subst (λ (bs : List ℕ). AppendsPrefix old taken bs) text h
    go BadWords h = absurd h
    go ReadFault h = absurd h
    go NotOpened h = absurd h
    go (NotStore file at) h = absurd h
    go Spent h = absurd h

-- The four texts are the text of the counts and of what was found.
pub texts_told : (t : Texts) (counts : Counts) (found : Found) → string_bytes t.report ≡ drilled_text counts.pushes counts.accepted counts.refused counts.starved
    → t.errors ≡ reply_text found.errors → t.large ≡ reply_text found.large → t.crossing ≡ reply_text found.crossing → all_texts t ≡ told_text counts (found_replies found)
texts_told t counts found report errors large crossing = rw (report, errors, large, crossing) refl

-- All was written.
pub told_all : (e : Ending) (new : Counts) (found : List Reply) (old taken : Option (List ℕ)) → EndsCounted e new → Appends old taken (told_text new found) → HasTold e new found old taken
told_all Answered new found old taken ends all = (ends, all)
told_all Refused new found old taken ends all = (ends, all)
told_all Starved new found old taken ends all = inl (ends, all)
told_all WriteFault new found old taken ends all = absurd ends
told_all BadWords new found old taken ends all = absurd ends
told_all ReadFault new found old taken ends all = absurd ends
told_all NotOpened new found old taken ends all = absurd ends
told_all (NotStore file at) new found old taken ends all = absurd ends
told_all Spent new found old taken ends all = absurd ends

pub counted_ends : (e : Ending) (new : Counts) → EndsCounted e new → (e ≡ WriteFault) ⊎ ((e ≡ Answered) ⊎ ((e ≡ Refused) ⊎ (e ≡ Starved)))
counted_ends Answered new ends = inr (inl refl)
counted_ends Refused new ends = inr (inr (inl refl))
counted_ends Starved new ends = inr (inr (inr refl))
counted_ends WriteFault new ends = absurd ends
counted_ends BadWords new ends = absurd ends
counted_ends ReadFault new ends = absurd ends
counted_ends NotOpened new ends = absurd ends
counted_ends (NotStore file at) new ends = absurd ends
counted_ends Spent new ends = absurd ends

pub counted_writes : (e : Ending) (new : Counts) → EndsCounted e new → e ≡ WriteFault → ⊥
counted_writes e new ends is = subst (λ (k : Ending). EndsCounted k new) is ends

-- ---- lines

-- One line more.
pub lines_more : (seed traces index count : ℕ) (told mid to_tell : Option (List ℕ)) (xs ys : List Item) → LinesMade seed traces index count told xs mid
    → LinesMade seed traces (index + count) 1 mid ys to_tell → LinesMade seed traces index (count + 1) told (xs ++ ys) to_tell
lines_more seed traces index count told mid to_tell xs ys first next = counted (lines_then count index told xs first next)
  where
    counted : LinesMade seed traces index (suc count) told (xs ++ ys) to_tell → LinesMade seed traces index (count + 1) told (xs ++ ys) to_tell
    counted h = subst (λ (n : ℕ). LinesMade seed traces index n told (xs ++ ys) to_tell) (one count) h
      where
        one : (n : ℕ) → suc n ≡ n + 1
        one n = omega arith

    lines_then : (count index : ℕ) (told : Option (List ℕ)) (xs : List Item) → LinesMade seed traces index count told xs mid → LinesMade seed traces (index + count) 1 mid ys to_tell
        → LinesMade seed traces index (suc count) told (xs ++ ys) to_tell
    lines_then zero index told xs (empty, same) next =
        subst (λ (is : List Item). LinesMade seed traces index 1 told (is ++ ys) to_tell) (sym empty)
        (subst (λ (m : Option (List ℕ)). LinesMade seed traces index 1 m ys to_tell) same
        (subst (λ (i : ℕ). LinesMade seed traces i 1 mid ys to_tell) (no_more index) next))
      where
        no_more : (i : ℕ) → i + 0 ≡ i
        no_more i = omega arith
    lines_then (suc count) index told xs (moment, item, later, now, asks, are, rest) next = (
      moment,
      item,
      later ++ ys,
      now,
      asks,
      ap (λ (is : List Item). is ++ ys) are ∙ ap (λ (is : List Item). item ∷ is) (append_assoc (upkeep_after index traces) later ys),
      lines_then count (index + 1) (after_moment told) later rest (subst (λ (i : ℕ). LinesMade seed traces i 1 mid ys to_tell) (moved index count) next),
    )
      where
        moved : (i n : ℕ) → i + suc n ≡ i + 1 + n
        moved i n = omega arith

-- A line and its upkeep.
pub line_one : (seed traces index moment : ℕ) (told to_tell : Option (List ℕ)) (item : Item) → IsNextMoment told moment → AsksPush moment (drill_line seed index) item → to_tell ≡ after_moment told
    → LinesMade seed traces index 1 told (item ∷ upkeep_after index traces) to_tell
line_one seed traces index moment told to_tell item now asks clock =
    (moment, item, [], now, asks, ap (λ (is : List Item). item ∷ is) (sym (append-nil (upkeep_after index traces))), (refl, clock))

pub joined_push : (xs : List Item) (rs : List Reply) (reply : Reply) → length rs ≡ length xs → AreJoined xs rs → is_joined reply ≡ true
    → AreJoined (xs ++ Ok Compact ∷ []) (rs ++ reply ∷ [])
joined_push [] [] reply size joined is = (refl, is, tt)
joined_push [] (r ∷ rs) reply size joined is = absurd (omega (arith, size))
joined_push (x ∷ xs) [] reply size joined is = absurd joined
joined_push (x ∷ xs) (r ∷ rs) reply size joined is = (joined.0, joined.1, joined_push xs rs reply (omega (arith, size)) joined.2 is)

-- ---- what was made over a core

module _ {D : Type 0} (g : Ghosts D) where
  pub made_none : (core : Core D) (counts : Counts) → HasMade g core core counts counts [] []
  made_none core counts = record { answered = over_begins (port_of g) core; counted = refl; as_many = refl }

  pub made_one : (before after : Core D) (old new : Counts) (item : Item) (reply : Reply) → HasAnsweredOne (port_of g) before item reply after → CountsOne old new reply
      → HasMade g before after old new (item ∷ []) (reply ∷ [])
  made_one before after old new item reply one counted = record {
    answered = over_one (port_of g) before after item reply one;
    counted = (new, counted, refl);
    as_many = refl;
  }

  pub made_then : (first middle last : Core D) (old mid new : Counts) (xs ys : List Item) (rs ss : List Reply) → HasMade g first middle old mid xs rs → HasMade g middle last mid new ys ss
      → HasMade g first last old new (xs ++ ys) (rs ++ ss)
  made_then first middle last old mid new xs ys rs ss one two = record {
    answered = over_then (port_of g) first middle last xs ys rs ss one.answered two.answered;
    counted = counts_then rs ss old mid new one.counted two.counted;
    as_many = let a = length-append rs ss in let b = length-append xs ys in let c = one.as_many in let d = two.as_many in omega (arith, a, b, c, d);
  }

  -- What is due after a line was made: nothing, or a cut and a flush.
  pub nothing_due : (core : Core D) (counts : Counts) (index traces : ℕ) → is_flushed_after index traces ≡ false → HasMade g core core counts counts (upkeep_after index traces) []
  nothing_due core counts index traces is =
      let none_due : upkeep_after index traces ≡ [] = rw is refl in
      subst (λ (xs : List Item). HasMade g core core counts counts xs []) (sym none_due) (made_none core counts)

  pub both_due : (before after : Core D) (old new : Counts) (rs : List Reply) (index traces : ℕ) → is_flushed_after index traces ≡ true
      → HasMade g before after old new (Ok CutAll ∷ Ok Flush ∷ []) rs → HasMade g before after old new (upkeep_after index traces) rs
  both_due before after old new rs index traces is made =
      let due : upkeep_after index traces ≡ Ok CutAll ∷ Ok Flush ∷ [] = rw is refl in
      subst (λ (xs : List Item). HasMade g before after old new xs rs) (sym due) made

  pub made_holds : (before after : Core D) (old new : Counts) (items : List Item) (replies : List Reply) → HasMade g before after old new items replies
      → (held : List Hold) × (port_of g).holds before held → (held : List Hold) × (port_of g).holds after held
  made_holds before after old new items replies made held = holds_kept (port_of g) before after made.answered.calls made.answered.made held
