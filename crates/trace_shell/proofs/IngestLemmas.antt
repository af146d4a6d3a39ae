-- How turns of an ingest follow one another.
use Rattle.std.proofs.Common.{◌≡◌, inl, inr, ℕ, ◌-◌, ◌<◌, ◌≤◌, Bool, true, false, List, [], ◌∷◌, ◌++◌, Option, Some, None, Result, Ok, nat_le, length, refl, sym, subst, arith, if◌then◌else◌}
use Rattle.std.specs.Prelude.{◌==◌}
use Rattle.disk_model.specs.declared.disk.Device.{Ghosts}
use Rattle.otlp_spans.specs.declared.read.Reading.{Reading}
use Rattle.session_text.specs.declared.refusal.Refusal.{Refusal}
use Rattle.session_text.specs.declared.reply.Reply.{Reply}
use Rattle.session_text.specs.declared.request.Request.{Request}
use Rattle.session_text.specs.declared.request.Request.TheVariants.{Compact, CutAll, Flush}
use Rattle.session_text.specs.Items.{Item}
use Rattle.session_text.specs.Requests.{AsksPush}
use Rattle.line_windows.specs.Windows.{Gives, IsOf, pushed_at}
use Rattle.line_windows.specs.declared.line.WindowLine.{WindowLine}
use Rattle.store_core.specs.Cores.{held_in}
use Rattle.store_core.specs.Port.{port_of}
use Rattle.store_core.specs.declared.store.Core.{Core}
use Rattle.client_run.specs.Answers.{HasReplied}
use Rattle.session_meaning.specs.declared.ending.Ending.{Ending}
use Rattle.session_meaning.specs.Asked.{IsNextMoment, after_moment}
use Rattle.session_meaning.specs.Duties.{Duty, IsDue, ask, compact_all, due, from_lines, keep_small, most_rounds}
use Rattle.session_meaning.specs.Ingest.{is_joined, many_rows}
use Rattle.session_meaning.specs.Progress.{HasAnsweredOne, HasAnsweredOver, FollowsOver}
use Rattle.session_meaning.proofs.IngestLaws.{ingests_then}
use Rattle.session_meaning.proofs.SessionLaws.{one_replied, over_begins, over_one, over_then}
use Rattle.trace_shell.specs.Ingesting.{HasAsked, HaveGiven, Leaves}
use Rattle.trace_shell.specs.Turn.{HasGiven}
use Rattle.trace_shell.specs.declared.session.Tally.{Tally}

-- Replies that were all written, and more.
given_then : (old middle new : Option (List ℕ)) (first between last : Tally) (rs ss : List Reply) (stopped : Option Ending)
    → HaveGiven old middle first between rs None → HaveGiven middle new between last ss stopped → HaveGiven old new first last (rs ++ ss) stopped
given_then old middle new first between last [] ss stopped (same, tally, none) later =
    subst (λ (t : Option (List ℕ)). HaveGiven t new first last ss stopped) same
    (subst (λ (t : Tally). HaveGiven middle new t last ss stopped) tally later)
given_then old middle new first between last (r ∷ rs) ss stopped (inl (given, empty)) later =
    inr (middle, between, given, subst (λ (qs : List Reply). HaveGiven middle new between last (qs ++ ss) stopped) (sym empty) later)
given_then old middle new first between last (r ∷ rs) ss stopped (inr (taken, tally, given, rest)) later =
    inr (taken, tally, given, given_then taken middle new tally between last rs ss stopped rest later)

-- ---- what is due

-- A line or the end is due as it is.
due_lines : (held : ℕ) (ls : List (List ℕ)) → due held (from_lines ls) ≡ from_lines ls
due_lines held [] = refl
due_lines held ([] ∷ ls) = due_lines held ls
due_lines held ((b ∷ bs) ∷ ls) = refl

few_due : (held : ℕ) (ls : List (List ℕ)) → held < many_rows → from_lines ls ≡ due held (keep_small ∷ from_lines ls)
few_due held ls few = rw (not_many held few) (sym (due_lines held ls))
  where
    not_many : (n : ℕ) → n < many_rows → nat_le many_rows n ≡ false
    not_many n h = grind arith

many_due : (held : ℕ) (later : List Duty) → many_rows ≤ held → (ask CutAll ∷ ask Flush ∷ later) ≡ due held (keep_small ∷ later)
many_due held later many = rw (is_many held many) refl
  where
    is_many : (n : ℕ) → many_rows ≤ n → nat_le many_rows n ≡ true
    is_many n h = grind arith

compact_due : (held times : ℕ) (later : List Duty) → 0 < times → due held (compact_all times ∷ later) ≡ (compact_all times ∷ later)
compact_due held times later some = rw (not_zero times some) refl
  where
    not_zero : (n : ℕ) → 0 < n → (n == 0) ≡ false
    not_zero n h = grind arith

some_is_no_none : (e : Ending) → Some e ≡ None → ⊥
some_is_no_none e h = cc

module _ {D : Type 0} (g : Ghosts D) where
  -- ---- steps

  -- Nothing was asked.
  pub asked_none : (core : Core D) (taken : Option (List ℕ)) (tally : Tally) → HasAsked g core core taken taken tally tally [] [] None
  asked_none core taken tally = record { answered = over_begins (port_of g) core; given = (refl, refl, refl) }

  pub leaves_same : (core : Core D) (todo : List Duty) (told : Option (List ℕ)) (stopped : Option Ending) → Leaves g core core todo todo told told [] [] stopped
  leaves_same core todo told stopped = record { left = todo; each = (refl, refl, inl refl, refl); all = λ none. refl }

  leaves_looked : (core : Core D) (todo later : List Duty) (told : Option (List ℕ)) → later ≡ due (held_in core) todo → Leaves g core core todo later told told [] [] None
  leaves_looked core todo later told is = record { left = later; each = (refl, refl, inr is, refl); all = λ none. refl }

  -- One request was asked, and its reply given.
  pub asked_one : (before after : Core D) (request : Request) (reply : Reply) (old new : Option (List ℕ)) (tally_old tally_new : Tally) (stopped : Option Ending)
      → HasReplied (port_of g) before request reply after → HasGiven old new tally_old tally_new reply stopped
      → HasAsked g before after old new tally_old tally_new (Ok request ∷ []) (reply ∷ []) stopped
  asked_one before after request reply old new tally_old tally_new stopped replied given = record {
    answered = over_one (port_of g) before after (Ok request) reply (one_replied (port_of g) before after request reply replied);
    given = inl (given, refl);
  }

  pub leaves_one : (before after : Core D) (request : Request) (reply : Reply) (later : List Duty) (told : Option (List ℕ)) (stopped : Option Ending)
      → HasReplied (port_of g) before request reply after
      → Leaves g before after (ask request ∷ later) later told told (Ok request ∷ []) (reply ∷ []) stopped
  leaves_one before after request reply later told stopped replied = record {
    left = later;
    each = (after, later, told, (refl, refl, refl), replied, (refl, refl, inl refl, refl));
    all = λ none. refl;
  }

  -- So was a compaction.
  pub leaves_compacted : (before after : Core D) (reply : Reply) (times : ℕ) (later : List Duty) (told : Option (List ℕ)) (stopped : Option Ending) → 0 < times
      → HasReplied (port_of g) before Compact reply after
      → Leaves g before after (compact_all times ∷ later) (if is_joined reply then compact_all (times - 1) ∷ later else later) told told (Ok Compact ∷ []) (reply ∷ []) stopped
  leaves_compacted before after reply times later told stopped some replied =
      let rest : List Duty = if is_joined reply then compact_all (times - 1) ∷ later else later in record {
        left = rest;
        each = (
          after,
          rest,
          told,
          subst (λ (t : List Duty). IsDue t told (Ok Compact) reply rest told) (sym (compact_due (held_in before) times later some)) (refl, refl, refl),
          replied,
          (refl, refl, inl refl, refl),
        );
        all = λ none. refl;
      }

  -- ---- one after the other

  pub asked_so : (before after : Core D) (old new : Option (List ℕ)) (tally_old tally_new : Tally) (items : List Item) (replies : List Reply) (o p : Option Ending) → o ≡ p
      → HasAsked g before after old new tally_old tally_new items replies o → HasAsked g before after old new tally_old tally_new items replies p
  asked_so before after old new tally_old tally_new items replies o p is asked = subst (λ (s : Option Ending). HasAsked g before after old new tally_old tally_new items replies s) is asked

  pub leaves_so : (before after : Core D) (todo later : List Duty) (told to_tell : Option (List ℕ)) (items : List Item) (replies : List Reply) (o p : Option Ending) → o ≡ p
      → Leaves g before after todo later told to_tell items replies o → Leaves g before after todo later told to_tell items replies p
  leaves_so before after todo later told to_tell items replies o p is leaves = subst (λ (s : Option Ending). Leaves g before after todo later told to_tell items replies s) is leaves

  pub asked_then : (first middle last : Core D) (old taken new : Option (List ℕ)) (tally_old tally tally_new : Tally) (xs ys : List Item) (rs ss : List Reply) (o stopped : Option Ending) → o ≡ None
      → HasAsked g first middle old taken tally_old tally xs rs o → HasAsked g middle last taken new tally tally_new ys ss stopped
      → HasAsked g first last old new tally_old tally_new (xs ++ ys) (rs ++ ss) stopped
  asked_then first middle last old taken new tally_old tally tally_new xs ys rs ss o stopped on one two = record {
    answered = over_then (port_of g) first middle last xs ys rs ss one.answered two.answered;
    given = given_then old taken new tally_old tally tally_new rs ss stopped (asked_so first middle old taken tally_old tally xs rs o None on one).given two.given;
  }

  pub leaves_then : (first middle last : Core D) (todo mid later : List Duty) (told between_told to_tell : Option (List ℕ)) (xs ys : List Item) (rs ss : List Reply) (o stopped : Option Ending) → o ≡ None
      → Leaves g first middle todo mid told between_told xs rs o → Leaves g middle last mid later between_told to_tell ys ss stopped
      → Leaves g first last todo later told to_tell (xs ++ ys) (rs ++ ss) stopped
  leaves_then first middle last todo mid later told between_told to_tell xs ys rs ss o stopped on one two = record {
    left = two.left;
    each = ingests_then g todo mid two.left told between_told to_tell xs ys rs ss first middle last
        (subst (λ (t : List Duty). FollowsOver g todo told first xs rs middle t between_told) (one.all on) one.each) two.each;
    all = two.all;
  }

  -- Where a run ends with a reply, anything may be left.
  pub leaves_stopped : (first last : Core D) (todo mid later : List Duty) (told to_tell : Option (List ℕ)) (items : List Item) (replies : List Reply) (o : Option Ending) (e : Ending) → o ≡ Some e
      → Leaves g first last todo mid told to_tell items replies o → Leaves g first last todo later told to_tell items replies (Some e)
  leaves_stopped first last todo mid later told to_tell items replies o e is one =
      record { left = one.left; each = one.each; all = λ none. absurd (some_is_no_none e none) }

  -- ---- compactions

  -- A compaction joined blocks, so there may be one more.
  pub leaves_again : (before after : Core D) (todo later : List Duty) (told : Option (List ℕ)) (items : List Item) (replies : List Reply) (reply : Reply) (times next : ℕ) → is_joined reply ≡ true → times - 1 ≡ next
      → Leaves g before after todo (if is_joined reply then compact_all (times - 1) ∷ later else later) told told items replies None
      → Leaves g before after todo (compact_all next ∷ later) told told items replies None
  leaves_again before after todo later told items replies reply times next joined next_is leaves =
      subst (λ (n : ℕ). Leaves g before after todo (compact_all n ∷ later) told told items replies None) next_is
      (subst (λ (b : Bool). Leaves g before after todo (if b then compact_all (times - 1) ∷ later else later) told told items replies None) joined leaves)

  -- It joined none.
  pub leaves_over : (before after : Core D) (todo later : List Duty) (told : Option (List ℕ)) (items : List Item) (replies : List Reply) (reply : Reply) (times : ℕ) → is_joined reply ≡ false
      → Leaves g before after todo (if is_joined reply then compact_all (times - 1) ∷ later else later) told told items replies None
      → Leaves g before after todo later told told items replies None
  leaves_over before after todo later told items replies reply times joined leaves =
      subst (λ (b : Bool). Leaves g before after todo (if b then compact_all (times - 1) ∷ later else later) told told items replies None) joined leaves

  -- There are no more.
  pub leaves_spent : (core : Core D) (asked : Request) (later : List Duty) (told : Option (List ℕ)) (times : ℕ) → times ≡ 0
      → Leaves g core core (compact_all times ∷ ask asked ∷ later) (ask asked ∷ later) told told [] [] None
  leaves_spent core asked later told times none =
      subst (λ (n : ℕ). Leaves g core core (compact_all n ∷ ask asked ∷ later) (ask asked ∷ later) told told [] [] None) (sym none)
      (leaves_looked core (compact_all 0 ∷ ask asked ∷ later) (ask asked ∷ later) told refl)

  -- Compactions were made, each of which joined blocks, and so many may be made yet.
  abbrev pub Compacting : (start core : Core D) (old new : Option (List ℕ)) (tally_old tally_new : Tally) (times : ℕ) → Type 0
  Compacting start core old new tally_old tally_new times =
      (items : List Item) × (replies : List Reply) × HasAsked g start core old new tally_old tally_new items replies None
      × ((asked : Request) (later : List Duty) (told : Option (List ℕ))
      → Leaves g start core (compact_all most_rounds ∷ ask asked ∷ later) (compact_all times ∷ ask asked ∷ later) told told items replies None)

  -- They were all made, unless the run ends with a reply.
  abbrev pub Compacted : (start core : Core D) (old new : Option (List ℕ)) (tally_old tally_new : Tally) (stopped : Option Ending) → Type 0
  Compacted start core old new tally_old tally_new stopped =
      (items : List Item) × (replies : List Reply) × HasAsked g start core old new tally_old tally_new items replies stopped
      × ((asked : Request) (later : List Duty) (told : Option (List ℕ))
      → Leaves g start core (compact_all most_rounds ∷ ask asked ∷ later) (ask asked ∷ later) told told items replies stopped)

  -- One compaction.
  abbrev pub CompactedOnce : (before after : Core D) (old new : Option (List ℕ)) (tally_old tally_new : Tally) (reply : Reply) (stopped : Option Ending) → Type 0
  CompactedOnce before after old new tally_old tally_new reply stopped =
      HasAsked g before after old new tally_old tally_new (Ok Compact ∷ []) (reply ∷ []) stopped
      × ((times : ℕ) (later : List Duty) (told : Option (List ℕ)) → 0 < times
      → Leaves g before after (compact_all times ∷ later) (if is_joined reply then compact_all (times - 1) ∷ later else later) told told (Ok Compact ∷ []) (reply ∷ []) stopped)

  pub compacting_begins : (core : Core D) (taken : Option (List ℕ)) (tally : Tally) → Compacting core core taken taken tally tally most_rounds
  compacting_begins core taken tally = ([], [], asked_none core taken tally, λ asked later told. leaves_same core (compact_all most_rounds ∷ ask asked ∷ later) told None)

  pub compacting_again : (start middle core : Core D) (old between new : Option (List ℕ)) (tally_old tally tally_new : Tally) (times next : ℕ) (reply : Reply) (o : Option Ending) → o ≡ None
      → 0 < times → times - 1 ≡ next → is_joined reply ≡ true → Compacting start middle old between tally_old tally times → CompactedOnce middle core between new tally tally_new reply o
      → Compacting start core old new tally_old tally_new next
  compacting_again start middle core old between new tally_old tally tally_new times next reply o on some next_is joined (items, replies, asked, leaves) (once, does) = (
    items ++ Ok Compact ∷ [],
    replies ++ reply ∷ [],
    asked_then start middle core old between new tally_old tally tally_new items (Ok Compact ∷ []) replies (reply ∷ []) None None refl asked
        (asked_so middle core between new tally tally_new (Ok Compact ∷ []) (reply ∷ []) o None on once),
    λ request later told.
        let rest : List Duty = ask request ∷ later in
        leaves_then start middle core (compact_all most_rounds ∷ rest) (compact_all times ∷ rest) (compact_all next ∷ rest) told told told items (Ok Compact ∷ []) replies (reply ∷ []) None None refl
        (leaves request later told)
        (leaves_again middle core (compact_all times ∷ rest) rest told (Ok Compact ∷ []) (reply ∷ []) reply times next joined next_is
        (leaves_so middle core (compact_all times ∷ rest) (if is_joined reply then compact_all (times - 1) ∷ rest else rest) told told (Ok Compact ∷ []) (reply ∷ []) o None on (does times rest told some))),
  )

  pub compacting_over : (start middle core : Core D) (old between new : Option (List ℕ)) (tally_old tally tally_new : Tally) (times : ℕ) (reply : Reply) (o : Option Ending) → o ≡ None
      → 0 < times → is_joined reply ≡ false → Compacting start middle old between tally_old tally times → CompactedOnce middle core between new tally tally_new reply o
      → Compacted start core old new tally_old tally_new None
  compacting_over start middle core old between new tally_old tally tally_new times reply o on some joined (items, replies, asked, leaves) (once, does) = (
    items ++ Ok Compact ∷ [],
    replies ++ reply ∷ [],
    asked_then start middle core old between new tally_old tally tally_new items (Ok Compact ∷ []) replies (reply ∷ []) None None refl asked
        (asked_so middle core between new tally tally_new (Ok Compact ∷ []) (reply ∷ []) o None on once),
    λ request later told.
        let rest : List Duty = ask request ∷ later in
        leaves_then start middle core (compact_all most_rounds ∷ rest) (compact_all times ∷ rest) rest told told told items (Ok Compact ∷ []) replies (reply ∷ []) None None refl
        (leaves request later told)
        (leaves_over middle core (compact_all times ∷ rest) rest told (Ok Compact ∷ []) (reply ∷ []) reply times joined
        (leaves_so middle core (compact_all times ∷ rest) (if is_joined reply then compact_all (times - 1) ∷ rest else rest) told told (Ok Compact ∷ []) (reply ∷ []) o None on (does times rest told some))),
  )

  pub compacting_stopped : (start middle core : Core D) (old between new : Option (List ℕ)) (tally_old tally tally_new : Tally) (times : ℕ) (reply : Reply) (o : Option Ending) (e : Ending) → o ≡ Some e
      → 0 < times → Compacting start middle old between tally_old tally times → CompactedOnce middle core between new tally tally_new reply o
      → Compacted start core old new tally_old tally_new (Some e)
  compacting_stopped start middle core old between new tally_old tally tally_new times reply o e is some (items, replies, asked, leaves) (once, does) = (
    items ++ Ok Compact ∷ [],
    replies ++ reply ∷ [],
    asked_then start middle core old between new tally_old tally tally_new items (Ok Compact ∷ []) replies (reply ∷ []) None (Some e) refl asked
        (asked_so middle core between new tally tally_new (Ok Compact ∷ []) (reply ∷ []) o (Some e) is once),
    λ request later told.
        let rest : List Duty = ask request ∷ later in
        leaves_then start middle core (compact_all most_rounds ∷ rest) (compact_all times ∷ rest) rest told told told items (Ok Compact ∷ []) replies (reply ∷ []) None (Some e) refl
        (leaves request later told)
        (leaves_stopped middle core (compact_all times ∷ rest) (if is_joined reply then compact_all (times - 1) ∷ rest else rest) rest told told (Ok Compact ∷ []) (reply ∷ []) o e is (does times rest told some)),
  )

  pub compacting_done : (start core : Core D) (old new : Option (List ℕ)) (tally_old tally_new : Tally) (times : ℕ) → times ≡ 0 → Compacting start core old new tally_old tally_new times
      → Compacted start core old new tally_old tally_new None
  compacting_done start core old new tally_old tally_new times none (items, replies, asked, leaves) = (
    items ++ [],
    replies ++ [],
    asked_then start core core old new new tally_old tally_new tally_new items [] replies [] None None refl asked (asked_none core new tally_new),
    λ request later told.
        leaves_then start core core (compact_all most_rounds ∷ ask request ∷ later) (compact_all times ∷ ask request ∷ later) (ask request ∷ later) told told told items [] replies [] None None refl
        (leaves request later told) (leaves_spent core request later told times none),
  )

  -- ---- keeping the store small

  pub leaves_few : (core : Core D) (ls : List (List ℕ)) (told : Option (List ℕ)) → held_in core < many_rows
      → Leaves g core core (keep_small ∷ from_lines ls) (from_lines ls) told told [] [] None
  leaves_few core ls told few = leaves_looked core (keep_small ∷ from_lines ls) (from_lines ls) told (few_due (held_in core) ls few)

  pub leaves_many : (before after : Core D) (later : List Duty) (told : Option (List ℕ)) (items : List Item) (replies : List Reply) (stopped : Option Ending) → many_rows ≤ held_in before
      → Leaves g before after (ask CutAll ∷ ask Flush ∷ later) later told told items replies stopped
      → Leaves g before after (keep_small ∷ later) later told told items replies stopped
  leaves_many before after later told items replies stopped many cut =
      leaves_then before before after (keep_small ∷ later) (ask CutAll ∷ ask Flush ∷ later) later told told told [] items [] replies None stopped refl
      (leaves_looked before (keep_small ∷ later) (ask CutAll ∷ ask Flush ∷ later) told (many_due (held_in before) later many)) cut

  -- ---- lines

  -- What was done for a line of a window.
  abbrev pub LineDone : (before after : Core D) (old new : Option (List ℕ)) (tally_old tally_new : Tally) (line : WindowLine) (told to_tell : Option (List ℕ)) (stopped : Option Ending) → Type 0
  LineDone before after old new tally_old tally_new line told to_tell stopped =
      (items : List Item) × (replies : List Reply) × HasAsked g before after old new tally_old tally_new items replies stopped
      × ((bytes : List ℕ) (later : List (List ℕ)) → IsOf bytes line → Leaves g before after (from_lines (bytes ∷ later)) (from_lines later) told to_tell items replies stopped)

  -- For one without bytes nothing is.
  pub empty_done : (core : Core D) (taken : Option (List ℕ)) (tally : Tally) (line : WindowLine) (told : Option (List ℕ)) → ((bytes : List ℕ) → IsOf bytes line → bytes ≡ [])
      → LineDone core core taken taken tally tally line told told None
  empty_done core taken tally line told none = (
    [],
    [],
    asked_none core taken tally,
    λ bytes later is. subst (λ (l : List ℕ). Leaves g core core (from_lines (l ∷ later)) (from_lines later) told told [] [] None) (sym (none bytes is)) (leaves_same core (from_lines later) told None),
  )

  leaves_pushed : (before middle after : Core D) (line : List ℕ) (later : List (List ℕ)) (told to_tell : Option (List ℕ)) (item : Item) (reply : Reply) (items : List Item) (replies : List Reply) (stopped : Option Ending) (moment : ℕ)
      → 0 < length line → IsNextMoment told moment → AsksPush moment line item → to_tell ≡ after_moment told → HasAnsweredOne (port_of g) before item reply middle
      → Leaves g middle after (keep_small ∷ from_lines later) (from_lines later) to_tell to_tell items replies stopped
      → Leaves g before after (from_lines (line ∷ later)) (from_lines later) told to_tell (item ∷ items) (reply ∷ replies) stopped
  leaves_pushed before middle after [] later told to_tell item reply items replies stopped moment some next asks is one kept = absurd (omega arith)
  leaves_pushed before middle after (b ∷ bs) later told to_tell item reply items replies stopped moment some next asks is one kept = record {
    left = kept.left;
    each = (middle, keep_small ∷ from_lines later, to_tell, ((moment, next, asks), refl, is), one.is, kept.each);
    all = kept.all;
  }

  -- The reply to a line was given, and the store kept small.
  abbrev pub LineEnded : (before after : Core D) (old new : Option (List ℕ)) (tally_old tally_new : Tally) (reply : Reply) (stopped : Option Ending) → Type 0
  LineEnded before after old new tally_old tally_new reply stopped =
      (items : List Item) × (replies : List Reply) × HasAnsweredOver (port_of g) before items replies after
      × HaveGiven old new tally_old tally_new (reply ∷ replies) stopped
      × ((later : List (List ℕ)) (told : Option (List ℕ)) → Leaves g before after (keep_small ∷ from_lines later) (from_lines later) told told items replies stopped)

  pub ended_unwritten : (core : Core D) (old new : Option (List ℕ)) (tally_old tally_new : Tally) (reply : Reply) (o : Option Ending) (e : Ending) → o ≡ Some e
      → HasGiven old new tally_old tally_new reply o → LineEnded core core old new tally_old tally_new reply (Some e)
  ended_unwritten core old new tally_old tally_new reply o e is given = (
    [],
    [],
    over_begins (port_of g) core,
    inl (subst (λ (s : Option Ending). HasGiven old new tally_old tally_new reply s) is given, refl),
    λ later told. leaves_stopped core core (keep_small ∷ from_lines later) (keep_small ∷ from_lines later) (from_lines later) told told [] [] o e is (leaves_same core (keep_small ∷ from_lines later) told o),
  )

  pub ended_written : (before after : Core D) (old taken new : Option (List ℕ)) (tally_old tally tally_new : Tally) (reply : Reply) (items : List Item) (replies : List Reply) (o stopped : Option Ending) → o ≡ None
      → HasGiven old taken tally_old tally reply o → HasAsked g before after taken new tally tally_new items replies stopped
      → ((later : List (List ℕ)) (told : Option (List ℕ)) → Leaves g before after (keep_small ∷ from_lines later) (from_lines later) told told items replies stopped)
      → LineEnded before after old new tally_old tally_new reply stopped
  ended_written before after old taken new tally_old tally tally_new reply items replies o stopped is given asked leaves =
      (items, replies, asked.answered, inr (taken, tally, subst (λ (s : Option Ending). HasGiven old taken tally_old tally reply s) is given, asked.given), leaves)

  -- What a line gives was pushed.
  pub given_done : (before middle after : Core D) (old new : Option (List ℕ)) (tally_old tally_new : Tally) (line : WindowLine) (given : Result Reading Refusal) (told to_tell : Option (List ℕ)) (reply : Reply) (stopped : Option Ending) (moment : ℕ)
      → ((bytes : List ℕ) → IsOf bytes line → (0 < length bytes) × Gives bytes given) → IsNextMoment told moment → to_tell ≡ after_moment told
      → HasAnsweredOne (port_of g) before (pushed_at moment given) reply middle → LineEnded middle after old new tally_old tally_new reply stopped
      → LineDone before after old new tally_old tally_new line told to_tell stopped
  given_done before middle after old new tally_old tally_new line given told to_tell reply stopped moment gives next is one (items, replies, answered, written, leaves) =
      let item : Item = pushed_at moment given in (
        item ∷ items,
        reply ∷ replies,
        record { answered = over_then (port_of g) before middle after (item ∷ []) items (reply ∷ []) replies (over_one (port_of g) before middle item reply one) answered; given = written },
        λ bytes later of.
            let it = gives bytes of in
            leaves_pushed before middle after bytes later told to_tell item reply items replies stopped moment it.0 next (it.1 moment) is one (leaves later to_tell),
      )
