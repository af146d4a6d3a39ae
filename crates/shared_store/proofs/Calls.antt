-- What a seat does is one call of its port.
use Rattle.std.proofs.Common.{◌≡◌, ℕ, ◌+◌, ◌<◌, ◌==◌, zero, suc, List, [], ◌∷◌, ◌++◌, Bool, true, false, not, refl, sym, ◌∙◌, ap, subst, arith, length, filter, slice_index_or, Some, None, Result, Ok, Err, inl, inr}
use Rattle.std.specs.Prelude.{IsTrue, IfOk, ◌-◌, ◌^◌, ◌&&◌, ◌||◌, nat_le, nat_lt}
use Rattle.std.specs.List.{Contains, flat_map}
use Rattle.std.proofs.lemmas.List.Elements.{Contains-append_cases, Contains-append_left, Contains-append_right}
use Rattle.std.proofs.lemmas.Bool.{le-leb, le-ltb, ltb-false}
use Rattle.std.proofs.lemmas.Option.{same_Some}
use Rattle.span_types.specs.Faults.{Rose}
use Rattle.span_types.specs.declared.spans.Row.{Row}
use Rattle.store_model.specs.Event.{Event, Reply}
use Rattle.store_model.specs.Event.Event.{Push, BeginFlush, BeginCompact, WritePiece, CommitFlush, CommitCompact, Look, ReadPage, Reclaim}
use Rattle.store_model.specs.Event.Reply.{Count, Fine, Nothing, Flushing, Compacting, Looked, Page, Refused}
use Rattle.store_model.specs.Event.Refusal.{Fault}
use Rattle.store_entries.specs.declared.entry.Entry.{Entry as Added}
use Rattle.store_model.specs.History.{History, grown}
use Rattle.store_model.specs.Holds.{Hold, ends, opened, own_files, holds_after, files_of}
use Rattle.store_model.specs.Holds.Hold.{OpenLook, OpenFlush, OpenCompact}
use Rattle.store_model.specs.State.{is_among}
use Rattle.store_model.specs.Told.{history_after, TellsLength}
use Rattle.atomic_table.specs.Seated.{TableId}
use Rattle.disk_model.specs.Counts.{RoseBy}
use Rattle.store_state.specs.Calls.{MadeCalls, reclaim_calls}
use Rattle.store_state.specs.Kept.{Kept, HasKept}
use Rattle.store_state.specs.Meaning.{View, Meaning, Called, IsOpen, LeavesKept, Learns, Rewritten, reads_of}
use Rattle.store_state.specs.Given.{info_files, look_parts}
use Rattle.store_state.specs.Replies.{look_reply}
use Rattle.store_state.specs.Shown.{AreBlocks, IsLookTaken, ShowsHistory}
use Rattle.store_state.specs.Written.{IsPageRead, HoldRows, AreBlocksOf}
use Rattle.store_state.specs.declared.jobs.Look.{Look as GivenLook}
use Rattle.span_types.specs.declared.errors.Memory.{Memory as NoMemory}
use Rattle.block_info.specs.InfoParts.{InfoParts}
use Rattle.port_history.specs.Entries.{Entry, history_from, added_by}
use Rattle.shared_store.specs.Seen.{kept_of, bytes_in, some_fails}
use Rattle.shared_store.specs.Rule.{IsFound, IsOwn, IsKnown, IsAppended, showing, with_seen}
use Rattle.shared_store.specs.Seats.{Stand, calls_of, one, has_risen, is_fault, faults_in, reads_in, least_calls, calls_in, told_by, SeatKnows, seat_meaning}
use Rattle.shared_store.specs.declared.known.Known.{Known}
use Rattle.port_history.proofs.Chains.{history_append, from_is_grown}
use Rattle.store_state.proofs.HoldLaws.{opens_new, stays_open}
use Rattle.shared_store.proofs.Lists.{still_there, fails_left, unended, was_there}
use Rattle.shared_store.proofs.Appends.{bytes_found, first_among, later_among, from_shown}

-- ---- the history

-- What others pushed comes first, and then the call's own batch.
learns_more : (e : Event) (r : Reply) (h : History) (others : List Added) → TellsLength e r (grown h others) → Learns e r h (history_after e r (grown h others))
learns_more e r h others t = (others, refl, t)

-- ---- the files of what is open

or_right : (b : Bool) → (b || true) ≡ true
or_right true = refl
or_right false = refl

among_right : (n : ℕ) (xs ys : List ℕ) → is_among n ys ≡ true → is_among n (xs ++ ys) ≡ true
among_right n [] ys h = h
among_right n (x ∷ xs) ys h = ap (λ (b : Bool). (x == n) || b) (among_right n xs ys h) ∙ or_right (x == n)

among_left : (n : ℕ) (xs ys : List ℕ) → is_among n xs ≡ true → is_among n (xs ++ ys) ≡ true
among_left n [] ys h = cc
among_left n (x ∷ xs) ys h = elim (x == n) as (λ t. (t || is_among n xs) ≡ true → (t || is_among n (xs ++ ys)) ≡ true) [
  | true ↦ λ g. refl
  | false ↦ λ g. among_left n xs ys g
] h

among_files : (hs : List Hold) (hold : Hold) (file k : ℕ) → k < length hs → slice_index_or hs k hold ≡ hold → is_among file (files_of hold) ≡ true → is_among file (flat_map files_of hs) ≡ true
among_files [] hold file k l e h = absurd (omega arith)
among_files (x ∷ hs) hold file zero l e h = among_left file (files_of x) (flat_map files_of hs) (ap (λ (y : Hold). is_among file (files_of y)) e ∙ h)
among_files (x ∷ hs) hold file (suc k) l e h = among_right file (files_of x) (flat_map files_of hs) (among_files hs hold file k (omega (arith, l)) e h)

-- what is kept of a file is what the port shows of it
pub kept_shows : (f : ℕ → List ℕ) (kept : List (ℕ × List ℕ)) (hs : List Hold) (hold : Hold) (file : ℕ) → kept ≡ kept_of f hs → Contains hs hold → is_among file (files_of hold) ≡ true
    → bytes_in kept file ≡ f file
kept_shows f kept hs hold file is c h =
    ap (λ (xs : List (ℕ × List ℕ)). bytes_in xs file) is ∙ bytes_found f (flat_map files_of hs) file (among_files hs hold file c.0 c.1 c.2 h)

pub rows_in : (f g : ℕ → List ℕ) (files : List ℕ) (parts : List (List Row)) → ((file : ℕ) → is_among file files ≡ true → g file ≡ f file) → HoldRows f files parts → HoldRows g files parts
rows_in f g [] [] h is = is
rows_in f g (x ∷ xs) (p ∷ ps) h is =
    (rw (h x (first_among x xs)) is.0, rows_in f g xs ps (λ file e. h file (later_among file x xs e)) is.1)
rows_in f g [] (p ∷ ps) h is = is
rows_in f g (x ∷ xs) [] h is = is

look_taken : (r : Reply) (f g : ℕ → List ℕ) (h : History) → ((hold : Hold) → Contains (opened r) hold → (file : ℕ) → is_among file (files_of hold) ≡ true → g file ≡ f file)
    → IsLookTaken r f h → IsLookTaken r g h
look_taken (Looked look) f g h same is =
    (is.0, rows_in f g look.files is.0 (same (OpenLook look) (0, omega arith, refl)) is.1, is.2)
look_taken (Count n) f g h same is = is
look_taken Fine f g h same is = is
look_taken Nothing f g h same is = is
look_taken (Flushing job) f g h same is = is
look_taken (Compacting job) f g h same is = is
look_taken (Page bytes) f g h same is = is
look_taken (Refused why) f g h same is = is

page_read : (e : Event) (r : Reply) (f g : ℕ → List ℕ) → ((pin block page : ℕ) → e ≡ ReadPage pin block page → g block ≡ f block) → IsPageRead e r f → IsPageRead e r g
page_read (ReadPage pin block page) (Page bytes) f g same is = rw (same pin block page refl) is
page_read _ _ f g same is = tt

own_opened : (r : Reply) (file : ℕ) → is_among file (own_files r) ≡ true → (hold : Hold) × Contains (opened r) hold × (is_among file (files_of hold) ≡ true)
own_opened (Flushing job) file h = (OpenFlush job, (0, omega arith, refl), h)
own_opened (Compacting job) file h = (OpenCompact job, (0, omega arith, refl), among_left file (job.file ∷ []) job.files h)
own_opened (Count n) file h = cc
own_opened Fine file h = cc
own_opened Nothing file h = cc
own_opened (Looked look) file h = cc
own_opened (Page bytes) file h = cc
own_opened (Refused why) file h = cc

-- ---- counts

faults_append : (a b : List Entry) → faults_in (a ++ b) ≡ faults_in a + faults_in b
faults_append [] b = omega arith
faults_append (e ∷ a) b = omega (arith, faults_append a b)

reads_append : (a b : List Entry) → reads_in (a ++ b) ≡ reads_in a + reads_in b
reads_append [] b = omega arith
reads_append (e ∷ a) b = omega (arith, reads_append a b)

calls_append : (a b : List Entry) → calls_in (a ++ b) ≡ calls_in a + calls_in b
calls_append [] b = omega arith
calls_append (e ∷ a) b = omega (arith, calls_append a b)

rises_by : (count n n' : ℕ) → n' ≡ n + count → RoseBy count n n'
rises_by count n n' is = record { later = omega (arith, is); at_most = omega (arith, is); exact = λ h. is }

-- so many more calls are a lawful count of an event
made_least : (e : Event) (r : Reply) (n n' : ℕ) → n' ≡ n + least_calls e r → MadeCalls e r n n'
made_least (Push spans moment) (Count number) n n' is = rises_by 4 n n' is
made_least Reclaim (Count files) n n' is = rises_by (reclaim_calls files) n n' is
made_least Reclaim (Refused Fault) n n' is = omega (arith, is)
made_least _ (Refused Fault) n n' is = (omega (arith, is), omega (arith, is))
made_least _ (Refused why) n n' is = omega (arith, is)
made_least _ Nothing n n' is = omega (arith, is)
made_least BeginFlush _ n n' is = rises_by 5 n n' is
made_least BeginCompact _ n n' is = rises_by 2 n n' is
made_least (WritePiece job file bytes) _ n n' is = rises_by 1 n n' is
made_least (CommitFlush job rows) _ n n' is = rises_by 7 n n' is
made_least (CommitCompact job rows) _ n n' is = rises_by 7 n n' is
made_least (ReadPage pin file page) _ n n' is = (omega (arith, is), omega (arith, is))
made_least _ _ n n' is = omega (arith, is)

no_fault : (r : Reply) → (r ≡ Refused Fault → ⊥) → is_fault r ≡ false
no_fault (Refused Fault) h = absurd (h refl)
no_fault _ h = refl

and_false : (a : Bool) → (a && false) ≡ false
and_false true = refl
and_false false = refl

-- a call in which the port's count stayed, and which answered no fault, isn't counted
not_risen : (n n' : ℕ) (r : Reply) → n' ≡ n → (r ≡ Refused Fault → ⊥) → has_risen n n' r ≡ false
not_risen n n' r same other =
    (λ i. le-ltb n n' (omega (arith, same)) i || (nat_le (2 ^ 64 - 1) n' && no_fault r other i)) ∙ and_false (nat_le (2 ^ 64 - 1) n')

-- one that answered a fault, where the port's count rose or stands at its last value, is
is_risen : (n n' : ℕ) (r : Reply) → Rose n n' → r ≡ Refused Fault → has_risen n n' r ≡ true
is_risen n n' r rose is = elim (nat_lt n n') as (λ t. nat_lt n n' ≡ t → (t || (nat_le (2 ^ 64 - 1) n' && is_fault r)) ≡ true) [
  | true ↦ λ e. refl
  | false ↦ λ e. let l = ltb-false n n' e in (λ i. le-leb (2 ^ 64 - 1) n' (omega (arith, rose, l)) i && ap is_fault is i)
] refl

-- ---- the call

module _ {C : Type 0} (m : Meaning C) (key : C) (e : Event) (r : Reply) (before core : C) (v w : Known C) (start : v.start ≡ Some key) (found : IsFound m key v before)
    (called : Called m before e r core) (mine : IsOwn v.seen.holds e r) (same : w.start ≡ v.start) (parts : w.parts ≡ v.parts) (app : IsAppended m key e r before core v w) where
  old_told : told_by m v.start ≡ m.tells key
  old_told = ap (told_by m) start

  -- bytes are told of the port as it is found, where the seat tells them
  told_before : IsTrue (told_by m v.start) → IsTrue (m.tells before)
  told_before h = subst IsTrue (old_told ∙ sym found.telling) h

  told_key : IsTrue (told_by m v.start) → IsTrue (m.tells key)
  told_key h = subst IsTrue old_told h

  shows_before : IsTrue (told_by m v.start) → (hold : Hold) → Contains v.seen.holds hold → (file : ℕ) → is_among file (files_of hold) ≡ true → bytes_in v.seen.kept file ≡ m.shows before file
  shows_before h hold c file g = kept_shows (m.shows before) v.seen.kept v.seen.holds hold file (found.kept (told_key h)) c g

  shows_after : (hold : Hold) → Contains w.seen.holds hold → (file : ℕ) → is_among file (files_of hold) ≡ true → bytes_in w.seen.kept file ≡ m.shows core file
  shows_after hold c file g = kept_shows (m.shows core) w.seen.kept w.seen.holds hold file app.kept c g

  opened_held : (hold : Hold) → Contains (opened r) hold → Contains w.seen.holds hold
  opened_held hold c = rw app.holds (Contains-append_right (filter (λ x. not (ends e r x)) v.seen.holds) (opened r) hold c)

  stays_held : (hold : Hold) → Contains v.seen.holds hold → ends e r hold ≡ false → Contains w.seen.holds hold
  stays_held hold c n = rw app.holds (Contains-append_left (filter (λ x. not (ends e r x)) v.seen.holds) (opened r) hold (still_there (λ x. not (ends e r x)) v.seen.holds hold c (ap not n)))

  -- what the seat holds is open in the port that the call left
  still_open : (hold : Hold) → Contains w.seen.holds hold → IsOpen m core hold
  still_open hold h =
      elim (Contains-append_cases (filter (λ x. not (ends e r x)) v.seen.holds) (opened r) hold (subst (λ (hs : List Hold). Contains hs hold) app.holds h)) as (λ _. IsOpen m core hold) [
        | inl l ↦ let there = was_there (λ x. not (ends e r x)) v.seen.holds hold l in
            stays_open m before core e r hold called (found.are_open hold there.0) (unended (ends e r hold) there.1)
        | inr o ↦ opens_new m before core e r hold called (found.held, found.holds) o
      ]

  one_fault : faults_in (calls_of w) ≡ faults_in (calls_of v) + one (has_risen (m.faults before) (m.faults core) r)
  one_fault = ap faults_in app.mine ∙ faults_append (calls_of v) (app.entry ∷ [])
      ∙ (λ i. faults_in (calls_of v) + (one (has_risen (app.its_before i) (app.its_after i) (app.its_reply i)) + 0)) ∙ omega arith

  some_fault : r ≡ Refused Fault → Rose (faults_in (calls_of v)) (faults_in (calls_of w))
  some_fault is =
      let more : faults_in (calls_of w) ≡ faults_in (calls_of v) + 1 = one_fault ∙ ap (λ (t : Bool). faults_in (calls_of v) + one t) (is_risen (m.faults before) (m.faults core) r (called.cause is) is) in
      omega (arith, more)

  same_faults : (r ≡ Refused Fault → ⊥) → faults_in (calls_of w) ≡ faults_in (calls_of v)
  same_faults other = one_fault ∙ ap (λ (t : Bool). faults_in (calls_of v) + one t) (not_risen (m.faults before) (m.faults core) r (called.quiet other) other) ∙ omega arith

  one_read : reads_in (calls_of w) ≡ reads_in (calls_of v) + reads_of e
  one_read = ap reads_in app.mine ∙ reads_append (calls_of v) (app.entry ∷ []) ∙ ap (λ (x : Event). reads_in (calls_of v) + (reads_of x + 0)) app.its_event ∙ omega arith

  one_call : calls_in (calls_of w) ≡ calls_in (calls_of v) + least_calls e r
  one_call = ap calls_in app.mine ∙ calls_append (calls_of v) (app.entry ∷ []) ∙ ap (λ (x : Event × Reply). calls_in (calls_of v) + (least_calls x.0 x.1 + 0)) (λ i. (app.its_event i, app.its_reply i)) ∙ omega arith

  learnt : (u : View) → SeatKnows m v u → (u' : View) × SeatKnows m w u' × Learns e r u.history u'.history × (u'.holds ≡ holds_after e r u.holds)
  learnt u knows =
      let same_key : knows.key ≡ key = same_Some knows.key key (sym knows.start ∙ start) in
      let known : m.knows key knows.from = subst (λ (c : C). m.knows c knows.from) same_key knows.known in
      let known_then : IsKnown m knows.from e r core (v.seen.entries ++ app.between) w.seen.entries = app.knows knows.from known in
      let earlier : history_from knows.from.history (v.seen.entries ++ app.between) ≡ grown u.history (added_by app.between)
      = history_append knows.from.history v.seen.entries app.between ∙ ap (λ (h : History). history_from h app.between) (sym knows.history) ∙ from_is_grown u.history app.between in
      let last : history_from knows.from.history w.seen.entries ≡ history_after e r (grown u.history (added_by app.between))
      = ap (history_from knows.from.history) app.seen ∙ history_append knows.from.history (v.seen.entries ++ app.between) (app.entry ∷ [])
      ∙ (λ i. history_after (app.its_event i) (app.its_reply i) (earlier i)) in (
        record { history = history_from knows.from.history w.seen.entries; holds = w.seen.holds },
        record { key = key; start = same ∙ start; from = knows.from; known = known; history = refl; holds = refl },
        subst (Learns e r u.history) (sym last) (learns_more e r u.history (added_by app.between) (subst (TellsLength e r) earlier known_then.told)),
        app.holds ∙ ap (holds_after e r) (sym knows.holds),
      )

  looked : (u : View) → IsTrue (told_by m w.start) → SeatKnows m w u → IsLookTaken r (bytes_in w.seen.kept) u.history
  looked u told knows =
      let same_key : knows.key ≡ key = same_Some knows.key key (sym knows.start ∙ same ∙ start) in
      let known : m.knows key knows.from = subst (λ (c : C). m.knows c knows.from) same_key knows.known in
      let known_then : IsKnown m knows.from e r core (v.seen.entries ++ app.between) w.seen.entries = app.knows knows.from known in
      look_taken r (m.shows core) (bytes_in w.seen.kept) u.history (λ hold c file g. shows_after hold (opened_held hold c) file g)
      (subst (λ (h : History). IsLookTaken r (m.shows core) h) (known_then.history ∙ sym knows.history)
      (called.look (subst IsTrue (ap (told_by m) same ∙ old_told ∙ sym found.telling ∙ sym called.telling) told) known_then.view known_then.known))

  its_calls : some_fails (calls_of w) ≡ false → some_fails (calls_of v) ≡ false
  its_calls h = fails_left (calls_of v) (app.entry ∷ []) (ap some_fails (sym app.mine) ∙ h)

  pub seat_called : (table table' : TableId) → table' ≡ table
      → Called (seat_meaning m) (record { table = table; known = v }) e r (record { table = table'; known = w })
  seat_called table table' here = record {
    did = record {
      same_table = here;
      key = key;
      start = start;
      same_start = same;
      parts = parts;
      between = app.between;
      entry = app.entry;
      its_event = app.its_event;
      its_reply = app.its_reply;
      its_name = app.its_name;
      names = app.names;
      seen = app.seen;
      others = app.others;
      mine = app.mine;
      leaves = app.leaves;
      before = before;
      earlier = app.earlier;
      were_open = found.are_open;
      had = found.kept;
      core = core;
      called = called;
      made = app.made;
      are_open = still_open;
      strangers = app.strangers;
      kept = app.kept;
    };
    learns = learnt;
    holds = λ held is. sym (app.holds ∙ ap (holds_after e r) (sym is));
    telling = ap (told_by m) same;
    ended = λ held is. its_calls;
    bytes = λ told hold o stays file named.
        let there : Contains v.seen.holds hold = subst (λ (hs : List Hold). Contains hs hold) o.1 o.2 in
        subst (λ (x : List ℕ × List ℕ). Rewritten e r file x.0 x.1)
        (λ i. (sym (shows_before told hold there file named) i, sym (shows_after hold (stays_held hold there stays) file named) i))
        (called.bytes (told_before told) hold (found.are_open hold there) stays file named);
    page = λ told. page_read e r (m.shows before) (bytes_in v.seen.kept)
        (λ pin block page is. let o = mine.read pin block page is in shows_before told o.0 o.1 block o.2)
        (called.page (told_before told));
    look = λ told u knows. looked u told knows;
    empty = λ told file named. let o = own_opened r file named in
        shows_after o.0 (opened_held o.0 o.1) file o.2 ∙ called.empty (told_before told) file named;
    later = omega (arith, one_fault);
    quiet = same_faults;
    cause = some_fault;
    calls = made_least e r (calls_in (calls_of v)) (calls_in (calls_of w)) one_call;
    reads_rise = omega (arith, one_read);
    reads_bound = omega (arith, one_read);
  }

abbrev pub stand : {C : Type 0} → TableId → Known C → Stand C
stand table known = record { table = table; known = known }

-- What one call of a seat went through: `v` is what it knew, `v'` the same with the turn, and `w` what it knows after it.
pub record Went {C : Type 0} (m : Meaning C) (e : Event) (r : Reply) (before core : C) (v v' w : Known C) : Type 0 where
  pub key : C
  pub start : v.start ≡ Some key
  pub turn : v' ≡ showing (Some before) v
  pub found : IsFound m key v before
  pub called : Called m before e r core
  pub mine : IsOwn v.seen.holds e r
  pub same_start : w.start ≡ v.start
  pub parts : w.parts ≡ v.parts
  pub appended : IsAppended m key e r before core v w

-- a seat's method, from what its parts tell
pub went : {C : Type 0} (m : Meaning C) (key : C) (e : Event) (r : Reply) (before core : C) (v v' w : Known C) → v.start ≡ Some key → v' ≡ showing (Some before) v
    → ((k : C) → v.start ≡ Some k → IsFound m k v before) → Called m before e r core → IsOwn v.seen.holds e r → with_seen None v' w
    → ((k b : C) → v'.start ≡ Some k → v'.shown ≡ Some b → IsAppended m k e r b core v' w) → Went m e r before core v v' w
went m key e r before core v v' w start is found called mine same app = record {
  key = key;
  start = start;
  turn = is;
  found = found key start;
  called = called;
  mine = mine;
  same_start = same.0 ∙ ap (λ (x : Known _). x.start) is;
  parts = same.1 ∙ ap (λ (x : Known _). x.parts) is;
  appended = from_shown m key before core e r v v' w (Some before) is
      (app key before (ap (λ (x : Known _). x.start) is ∙ start) (ap (λ (x : Known _). x.shown) is));
}

pub seat_did : {C : Type 0} (m : Meaning C) (e : Event) (r : Reply) (before core : C) (v v' w : Known C) (self : Stand C) (table table' : TableId)
    → Went m e r before core v v' w → self ≡ stand table v → table' ≡ table → Called (seat_meaning m) self e r (stand table' w)
seat_did m e r before core v v' w self table table' went view here =
    subst (λ (x : Stand _). Called (seat_meaning m) x e r (stand table' w)) (sym view)
    (seat_called m went.key e r before core v w went.start went.found went.called went.mine went.same_start went.parts went.appended table table' here)

-- ---- what a seat tells no one

pub lists_nothing : {C : Type 0} (m : Meaning C) (v w : Stand C) → LeavesKept (seat_meaning m) v w
lists_nothing m v w = record { lists = λ infos. ((λ h. absurd h), (λ h. absurd h)); keeps = λ kept. ((λ h. absurd h), (λ h. absurd h)) }

pub pins_none : (answer : Result GivenLook NoMemory) → IfOk answer (λ look. (infos : List InfoParts) → ⊥ → look.pin.blocks ≡ infos)
pins_none (Ok look) = λ infos h. absurd h
pins_none (Err e) = tt

pub keeps_none : (shows : ℕ → List ℕ) (answer : Result GivenLook NoMemory) → IfOk answer (λ look. (kept : Kept) → ⊥ → HasKept shows look kept)
keeps_none shows (Ok look) = λ kept h. absurd h
keeps_none shows (Err e) = tt

-- ---- a look

pub blocks_in : (f g : ℕ → List ℕ) (infos : List InfoParts) (parts : List (List Row)) → ((file : ℕ) → is_among file (info_files infos) ≡ true → g file ≡ f file) → AreBlocksOf f infos parts → AreBlocksOf g infos parts
blocks_in f g [] [] h is = is
blocks_in f g (x ∷ xs) (p ∷ ps) h is =
    (rw (h x.file (first_among x.file (info_files xs))) is.0, blocks_in f g xs ps (λ file e. h file (later_among file x.file (info_files xs) e)) is.1)
blocks_in f g [] (p ∷ ps) h is = is
blocks_in f g (x ∷ xs) [] h is = is

module _ {C : Type 0} (m : Meaning C) (e : Event) (r : Reply) (before core : C) (v v' w : Known C) (went : Went m e r before core v v' w) where
  -- a file of what the call opened, or of what stays open
  pub shows_now : (hold : Hold) → Contains w.seen.holds hold → (file : ℕ) → is_among file (files_of hold) ≡ true → bytes_in w.seen.kept file ≡ m.shows core file
  shows_now = shows_after m went.key e r before core v w went.start went.found went.called went.mine went.same_start went.parts went.appended

  pub opened_now : (hold : Hold) → Contains (opened r) hold → Contains w.seen.holds hold
  opened_now = opened_held m went.key e r before core v w went.start went.found went.called went.mine went.same_start went.parts went.appended

  pub stays_now : (hold : Hold) → Contains v.seen.holds hold → ends e r hold ≡ false → Contains w.seen.holds hold
  stays_now = stays_held m went.key e r before core v w went.start went.found went.called went.mine went.same_start went.parts went.appended

  -- the port tells bytes where the seat does
  pub told_now : IsTrue (told_by m w.start) → IsTrue (m.tells core)
  told_now h = subst IsTrue (ap (told_by m) (went.same_start ∙ went.start) ∙ sym went.found.telling ∙ sym went.called.telling) h

  -- the port knows what the seat does
  pub known_now : (u : View) → SeatKnows m w u → (u' : View) × m.knows core u' × (u'.history ≡ u.history)
  known_now u knows =
      let same_key : knows.key ≡ went.key = same_Some knows.key went.key (sym knows.start ∙ went.same_start ∙ went.start) in
      let known : m.knows went.key knows.from = subst (λ (c : C). m.knows c knows.from) same_key knows.known in
      let known_then = went.appended.knows knows.from known in
      (known_then.view, known_then.known, known_then.history ∙ sym knows.history)

-- the blocks of a look that was taken are blocks, as the seat shows them
pub seat_whole : {C : Type 0} (m : Meaning C) (answer : Result GivenLook NoMemory) (before core : C) (v v' w : Known C)
    → Went m Look (look_reply answer) before core v v' w
    → (IsTrue (m.tells core) → IfOk answer (λ look. (held : List Hold) → m.holds before held → AreBlocks (m.shows core) look.pin.blocks))
    → (of : List Hold → Type 0) → IsTrue (told_by m w.start)
    → IfOk answer (λ look. (held : List Hold) → of held → AreBlocks (bytes_in w.seen.kept) look.pin.blocks)
seat_whole m (Err e) before core v v' w went whole of told = tt
seat_whole m (Ok look) before core v v' w went whole of told = λ held is.
    let r : Reply = look_reply (Ok look) in
    let h = whole (told_now m Look r before core v v' w went told) went.found.held went.found.holds in (
      h.0,
      blocks_in (m.shows core) (bytes_in w.seen.kept) look.pin.blocks h.0
          (λ file e. shows_now m Look r before core v v' w went (OpenLook (look_parts look))
          (opened_now m Look r before core v v' w went (OpenLook (look_parts look)) (0, omega arith, refl)) file e) h.1,
    )

-- what the port shows of a look, the seat shows
pub seat_shows : {C : Type 0} (m : Meaning C) (answer : Result GivenLook NoMemory) (before core : C) (v v' w : Known C)
    → Went m Look (look_reply answer) before core v v' w
    → IfOk answer (λ look. (u : View) → m.knows core u → ShowsHistory (IsTrue (m.tells core)) (m.shows core) look u.history)
    → IfOk answer (λ look. (u : View) → SeatKnows m w u → ShowsHistory (IsTrue (told_by m w.start)) (bytes_in w.seen.kept) look u.history)
seat_shows m (Err e) before core v v' w went shows = tt
seat_shows m (Ok look) before core v v' w went shows = λ u knows.
    let r : Reply = look_reply (Ok look) in
    let known = known_now m Look r before core v v' w went u knows in
    let h = subst (λ (g : History). ShowsHistory (IsTrue (m.tells core)) (m.shows core) look g) known.2 (shows known.0 known.1) in record {
      parts = h.parts;
      one_each = h.one_each;
      their_rows = λ told. blocks_in (m.shows core) (bytes_in w.seen.kept) look.pin.blocks h.parts
          (λ file e. shows_now m Look r before core v v' w went (OpenLook (look_parts look))
          (opened_now m Look r before core v v' w went (OpenLook (look_parts look)) (0, omega arith, refl)) file e)
          (h.their_rows (told_now m Look r before core v v' w went told));
      firsts = h.firsts;
    }
