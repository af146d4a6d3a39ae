-- What a turn leaves, from what its steps did.
use Rattle.std.proofs.Common.{◌≡◌, inl, inr, codes, ℕ, ◌+◌, ◌<◌, ◌≤◌, List, [], ◌∷◌, ◌++◌, Option, Some, None, Err, Bool, true, false, ◌||◌, nat_le, length, take, refl, sym, ◌∙◌, ap, subst, arith, length-append, append_assoc, append-nil, if◌then◌else◌}
use Rattle.std.specs.List.{list_any}
use Rattle.std.proofs.lemmas.Slice.Eq.{bytes_eq-Decides}
use Rattle.disk_model.specs.declared.disk.Device.{Ghosts}
use Rattle.std.specs.Io.KnownBytes.{Appends, Consumes}
use Rattle.io_edges.specs.Devices.{first_moment}
use Rattle.io_edges.specs.Lines.{lines, line_limit, taken_limit}
use Rattle.io_edges.specs.declared.begun.Begun.{Begun}
use Rattle.io_edges.specs.declared.begun.Begun.TheVariants.{Kept, Dropped}
use Rattle.io_edges.specs.Reader.{Reader, HoldsNoFeed, IsBegun, IsNextLine, IsToRead, TakesBytes, begun_len, to_come}
use Rattle.session_meaning.specs.declared.ending.Ending.{Ending}
use Rattle.session_meaning.specs.declared.ending.Ending.TheVariants.{Answered, BadWords, NotOpened, NotStore, ReadFault, Refused, Spent, Starved, WriteFault}
use Rattle.session_text.specs.declared.reply.Reply.{Reply}
use Rattle.session_text.specs.declared.refusal.Refusal.TheVariants as refusal
use Rattle.session_text.specs.Requests.{is_reopen, line_of, plain}
use Rattle.session_text.specs.Replies.{reply_text}
use Rattle.session_meaning.specs.Session.{Ends, IsAllEnded, IsAllRead, IsCutOff, end_of, is_for_memory, is_refusal, reply_texts}
use Rattle.session_meaning.specs.Act.{Act, ComesTo}
use Rattle.session_meaning.specs.Act.Act.{Ask, Unread}
use Rattle.session_meaning.specs.Asked.{ComesToNext, after_moment}
use Rattle.session_meaning.specs.Over.{AreDoneOver, IsDoneOver}
use Rattle.session_meaning.specs.Progress.{Progress}
use Rattle.session_meaning.proofs.SessionLaws.{one_refused, progress_begins, progress_empty, progress_line, reply_texts-push}
use Rattle.store_core.specs.Port.{port_of}
use Rattle.store_reopen.specs.declared.store.Store.{Store}
use Rattle.store_reopen.specs.declared.store.Store.TheVariants.{Closed, Open}
use Rattle.traceql_types.specs.Makers.{Makes, RefusesOnly}
use Rattle.traceql_types.proofs.Calls.{refuses-none}
use Rattle.trace_shell.specs.declared.session.Tally.{Tally}
use Rattle.trace_shell.specs.Turn.{Came, HasGiven, IsAt, Turned, ending_of, refused_long, tally_with}

-- Bytes taken in two steps.
pub took_more : (text : List ℕ) (left new : Option (List ℕ)) (a b c : ℕ) → TakesBytes (Some text) left a b → TakesBytes left new b c → TakesBytes (Some text) new a c
took_more text None new a b c first second = absurd first.1
took_more text (Some xs) None a b c first second = absurd second.1
took_more text (Some xs) (Some ys) a b c first second = (
  first.0 ++ second.0,
  first.1 ∙ ap (λ zs. first.0 ++ zs) second.1 ∙ sym (append_assoc first.0 second.0 ys),
  rw length-append (omega (arith, first.2, second.2)),
)

-- No more bytes were taken than are in the text.
pub taken_within : (text : List ℕ) (left : Option (List ℕ)) (taken : ℕ) → TakesBytes (Some text) left 0 taken → taken ≤ length text
taken_within text None taken took = absurd took.1
taken_within text (Some xs) taken took =
    let sizes : length text ≡ length took.0 + length xs = ap length took.1 ∙ length-append took.0 xs in
    omega (arith, sizes, took.2)

-- Where nothing is left they are just that many.
pub taken_all : (text : List ℕ) (left : Option (List ℕ)) (taken : ℕ) → TakesBytes (Some text) left 0 taken → left ≡ Some [] → length text ≡ taken
taken_all text left taken took none =
    let all : TakesBytes (Some text) (Some []) 0 taken = subst (λ l. TakesBytes (Some text) l 0 taken) none took in
    let sizes : length text ≡ length all.0 + 0 = ap length all.1 ∙ length-append all.0 [] in
    omega (arith, sizes, all.2)

pub appended : (before : List ℕ) (replies : List Reply) (reply : Reply) (old new : Option (List ℕ)) → old ≡ Some (before ++ reply_texts replies) →
    Appends old new (reply_text reply) → new ≡ Some (before ++ reply_texts (replies ++ reply ∷ []))
appended before replies reply None new is h = cc
appended before replies reply (Some xs) None is h = absurd h
appended before replies reply (Some xs) (Some ys) is h =
    ap Some (h ∙ ap (λ zs. zs ++ reply_text reply) (same _ _ is) ∙ append_assoc before (reply_texts replies) (reply_text reply)
    ∙ ap (λ zs. before ++ zs) (sym (reply_texts-push replies reply)))
  where
    same : (a b : List ℕ) → Some a ≡ Some b → a ≡ b
    same a b e = cc

pub cut_off : (before : List ℕ) (replies : List Reply) (reply : Reply) (old new : Option (List ℕ)) (count : ℕ) → old ≡ Some (before ++ reply_texts replies) →
    Appends old new (take count (reply_text reply)) → IsCutOff before (replies ++ reply ∷ []) new count
cut_off before replies reply None new count is h = absurd (none_is_some is)
  where
    none_is_some : None ≡ Some (before ++ reply_texts replies) → ⊥
    none_is_some e = cc
cut_off before replies reply (Some xs) None count is h = absurd h
cut_off before replies reply (Some xs) (Some ys) count is h = record {
  whole = replies;
  last = reply;
  replies_are = refl;
  taken_is = ap Some (h ∙ ap (λ zs. zs ++ take count (reply_text reply)) (same _ _ is));
}
  where
    same : (a b : List ℕ) → Some a ≡ Some b → a ≡ b
    same a b e = cc

list_any-push : (p : Reply → Bool) (rs : List Reply) (r : Reply) → list_any p (rs ++ r ∷ []) ≡ (list_any p rs || p r)
list_any-push p [] r = or_false (p r)
  where
    or_false : (b : Bool) → (b || false) ≡ b
    or_false true = refl
    or_false false = refl
list_any-push p (x ∷ xs) r = or_step (p x) (list_any p xs) (p r) (list_any p (xs ++ r ∷ [])) (list_any-push p xs r)
  where
    or_step : (a b c d : Bool) → d ≡ (b || c) → (a || d) ≡ ((a || b) || c)
    or_step true b c d h = refl
    or_step false b c d h = h

pub seen_of : (p : Reply → Bool) (now : Bool) (replies : List Reply) (reply : Reply) (next : Bool) → now ≡ list_any p replies → next ≡ (now || p reply) →
    next ≡ list_any p (replies ++ reply ∷ [])
seen_of p now replies reply next h step = step ∙ ap (λ b. b || p reply) h ∙ sym (list_any-push p replies reply)

-- A line was answered, and its reply given.
pub answered_at : (told : Option (List ℕ)) (text before : List ℕ) (left_old left taken_old taken tell_old to_tell : Option (List ℕ)) (reader_old reader : Reader) (tally_old tally : Tally)
    (line : List ℕ) (act : Act) (reply : Reply) (outcome : Option Ending) (acts : List Act) (replies : List Reply) (blamed more : List (List ℕ))
    (at : IsAt told text before left_old taken_old tell_old reader_old tally_old acts replies blamed) →
    IsNextLine at.rest line (IsToRead reader left) → 0 < length line → ComesToNext tell_old line more act → to_tell ≡ after_moment tell_old →
    TakesBytes left_old left reader_old.taken reader.taken → HasGiven taken_old taken tally_old tally reply outcome →
    Turned told text before left taken to_tell reader tally (acts ++ act ∷ []) (replies ++ reply ∷ []) (blamed ++ more) outcome
answered_at told text before left_old left taken_old taken tell_old to_tell reader_old reader tally_old tally [] act reply outcome acts replies blamed more at next some a later took given = absurd (omega arith)
answered_at told text before left_old left taken_old taken tell_old to_tell reader_old reader tally_old tally (b ∷ bs) act reply outcome acts replies blamed more at next some a later took given =
    turned outcome given
  where
    progress : Progress told text next.rest (blamed ++ more) (acts ++ act ∷ []) to_tell
    progress =
        subst (λ (o : Option (List ℕ)). Progress told text next.rest (blamed ++ more) (acts ++ act ∷ []) o) (sym later)
        (progress_line told text at.rest next.past next.rest blamed more acts tell_old b bs act at.progress next.parts next.first a)

    turned : (o : Option Ending) → HasGiven taken_old taken tally_old tally reply o →
        Turned told text before left taken to_tell reader tally (acts ++ act ∷ []) (replies ++ reply ∷ []) (blamed ++ more) o
    turned None g = record {
      rest = next.rest;
      to_read = next.after;
      progress = progress;
      written = appended before replies reply taken_old taken at.written g.0;
      refused = ap (λ s. s.refused) g.1 ∙ seen_of is_refusal tally_old.refused replies reply (tally_with tally_old reply).refused at.refused refl;
      starved = ap (λ s. s.starved) g.1 ∙ seen_of is_for_memory tally_old.starved replies reply (tally_with tally_old reply).starved at.starved refl;
      took = took_more text left_old left 0 reader_old.taken reader.taken at.took took;
    }
    turned (Some Starved) g = record {
      answered = progress.answered;
      later = lines next.rest;
      lines_are = progress.lines_are;
      asked = progress.asked;
      clock = progress.clock;
      ends = inr (inr (record {
        whole = replies;
        last = reply;
        replies_are = refl;
        taken_is = g ∙ at.written ∙ ap Some (sym (append-nil (before ++ reply_texts replies)));
      }));
    }
    turned (Some WriteFault) g = record {
      answered = progress.answered;
      later = lines next.rest;
      lines_are = progress.lines_are;
      asked = progress.asked;
      clock = progress.clock;
      ends = (g.0, cut_off before replies reply taken_old taken g.0 at.written g.1);
    }
    turned (Some Answered) g = absurd g
    turned (Some BadWords) g = absurd g
    turned (Some ReadFault) g = absurd g
    turned (Some Refused) g = absurd g
    turned (Some Spent) g = absurd g
    turned (Some NotOpened) g = absurd g
    turned (Some (NotStore file at)) g = absurd g

-- A line without bytes was passed over.
pub passed_at : (told : Option (List ℕ)) (text before : List ℕ) (left_old left taken_old taken tell_old to_tell : Option (List ℕ)) (reader_old reader : Reader) (tally_old tally : Tally)
    (acts : List Act) (replies : List Reply) (blamed : List (List ℕ)) (at : IsAt told text before left_old taken_old tell_old reader_old tally_old acts replies blamed) →
    IsNextLine at.rest [] (IsToRead reader left) → tally ≡ tally_old → taken ≡ taken_old → to_tell ≡ tell_old →
    TakesBytes left_old left reader_old.taken reader.taken → IsAt told text before left taken to_tell reader tally acts replies blamed
passed_at told text before left_old left taken_old taken tell_old to_tell reader_old reader tally_old tally acts replies blamed at next same_seen same_taken same_clock took = record {
  rest = next.rest;
  to_read = next.after;
  progress = subst (λ (o : Option (List ℕ)). Progress told text next.rest blamed acts o) (sym same_clock)
      (progress_empty told text at.rest next.past next.rest blamed acts tell_old at.progress next.parts next.first);
  written = same_taken ∙ at.written;
  refused = ap (λ s. s.refused) same_seen ∙ at.refused;
  starved = ap (λ s. s.starved) same_seen ∙ at.starved;
  took = took_more text left_old left 0 reader_old.taken reader.taken at.took took;
}

-- ---- what was done over a store

-- What a turn does over a store: these were done and answered so, and it leaves that.
abbrev pub TurnsOver : {M D : Type 0} → Makes M → Ghosts D → M → M → Store D → Store D → (left_old left taken_old taken tell_old to_tell : Option (List ℕ)) → (reader_old reader : Reader) → (tally_old tally : Tally)
    → Option Ending → Type 0
TurnsOver makes g a b store_old store left_old left taken_old taken tell_old to_tell reader_old reader tally_old tally outcome =
    (more : List (List ℕ)) × RefusesOnly makes a b more × (done : List Act) × (given : List Reply) × AreDoneOver g store_old done given store
    × ((told : Option (List ℕ)) (text before : List ℕ) (acts : List Act) (replies : List Reply) (blamed : List (List ℕ))
    → IsAt told text before left_old taken_old tell_old reader_old tally_old acts replies blamed
    → Turned told text before left taken to_tell reader tally (acts ++ done) (replies ++ given) (blamed ++ more) outcome)

-- Where nothing is asked, nothing is answered, and no text more is refused.
unasked : (told : Option (List ℕ)) (text before : List ℕ) (left taken to_tell : Option (List ℕ)) (reader : Reader) (tally : Tally) (outcome : Option Ending)
    (acts : List Act) (replies : List Reply) (blamed : List (List ℕ)) → Turned told text before left taken to_tell reader tally acts replies blamed outcome
    → Turned told text before left taken to_tell reader tally (acts ++ []) (replies ++ []) (blamed ++ []) outcome
unasked told text before left taken to_tell reader tally outcome acts replies blamed t =
    subst (λ (is : List Act). Turned told text before left taken to_tell reader tally is (replies ++ []) (blamed ++ []) outcome) (sym (append-nil acts))
    (subst (λ (rs : List Reply). Turned told text before left taken to_tell reader tally acts rs (blamed ++ []) outcome) (sym (append-nil replies))
    (subst (λ (ts : List (List ℕ)). Turned told text before left taken to_tell reader tally acts replies ts outcome) (sym (append-nil blamed)) t))

-- A turn in which nothing is asked.
pub turns_idle : {M D : Type 0} (makes : Makes M) (g : Ghosts D) (a : M) (store : Store D) (left_old left taken_old taken tell_old to_tell : Option (List ℕ)) (reader_old reader : Reader) (tally_old tally : Tally)
    (outcome : Option Ending) → ((told : Option (List ℕ)) (text before : List ℕ) (acts : List Act) (replies : List Reply) (blamed : List (List ℕ))
    → IsAt told text before left_old taken_old tell_old reader_old tally_old acts replies blamed → Turned told text before left taken to_tell reader tally acts replies blamed outcome)
    → TurnsOver makes g a a store store left_old left taken_old taken tell_old to_tell reader_old reader tally_old tally outcome
turns_idle makes g a store left_old left taken_old taken tell_old to_tell reader_old reader tally_old tally outcome turned = (
  [],
  refuses-none makes a a a,
  [],
  [],
  (refl, refl),
  λ told text before acts replies blamed at. unasked told text before left taken to_tell reader tally outcome acts replies blamed (turned told text before acts replies blamed at),
)

-- A whole line was read, and answered where it has bytes.
pub whole_at : {M D : Type 0} (makes : Makes M) (g : Ghosts D) (a b : M) (store_old store : Store D) (left_old left taken_old taken tell_old to_tell : Option (List ℕ)) (reader_old reader : Reader) (tally_old tally : Tally)
    (line : List ℕ) (outcome : Option Ending) → ((rest : List ℕ) → IsToRead reader_old left_old rest → IsNextLine rest line (IsToRead reader left)) →
    TakesBytes left_old left reader_old.taken reader.taken →
    (line ≡ [] → (outcome ≡ None) × (store ≡ store_old) × (tally ≡ tally_old) × (taken ≡ taken_old) × (to_tell ≡ tell_old) × (b ≡ a)) →
    (0 < length line → (more : List (List ℕ)) × RefusesOnly makes a b more × (act : Act) × (reply : Reply) × IsDoneOver g act store_old reply store
    × ComesToNext tell_old line more act × (to_tell ≡ after_moment tell_old) × HasGiven taken_old taken tally_old tally reply outcome) →
    TurnsOver makes g a b store_old store left_old left taken_old taken tell_old to_tell reader_old reader tally_old tally outcome
whole_at {M} {D} makes g a b store_old store left_old left taken_old taken tell_old to_tell reader_old reader tally_old tally [] outcome next took empty answered =
    let same = empty refl in
    subst (λ (x : M). TurnsOver makes g a x store_old store left_old left taken_old taken tell_old to_tell reader_old reader tally_old tally outcome) (sym same.5)
    (subst (λ (x : Store D). TurnsOver makes g a a store_old x left_old left taken_old taken tell_old to_tell reader_old reader tally_old tally outcome) (sym same.1)
    (turns_idle makes g a store_old left_old left taken_old taken tell_old to_tell reader_old reader tally_old tally outcome
    (λ told text before acts replies blamed at.
    subst (λ (o : Option Ending). Turned told text before left taken to_tell reader tally acts replies blamed o) (sym same.0)
    (passed_at told text before left_old left taken_old taken tell_old to_tell reader_old reader tally_old tally acts replies blamed at (next at.rest at.to_read) same.2 same.3 same.4 took))))
whole_at makes g a b store_old store left_old left taken_old taken tell_old to_tell reader_old reader tally_old tally (c ∷ cs) outcome next took empty answered =
    let one = answered (omega arith) in (
      one.0,
      one.1,
      one.2 ∷ [],
      one.3 ∷ [],
      (store, one.4, (refl, refl)),
      λ told text before acts replies blamed at.
          answered_at told text before left_old left taken_old taken tell_old to_tell reader_old reader tally_old tally (c ∷ cs) one.2 one.3 outcome acts replies blamed one.0 at
          (next at.rest at.to_read) (omega arith) one.5 one.6 took one.7,
    )

-- A line of too many bytes asks nothing.
too_long_line : (moment : ℕ) (line : List ℕ) → line_limit < length line → line_of moment line ≡ plain (Err (refusal.TooLong (length line)))
unfolding line_of
too_long_line moment line long = rw (not_within (length line) long) refl
  where
    not_within : (n : ℕ) → line_limit < n → nat_le n line_limit ≡ false
    not_within n h = grind arith

-- and it isn't the word by which a store is opened again
too_long_word : (line : List ℕ) → line_limit < length line → is_reopen line ≡ false
too_long_word line long = go (is_reopen line) refl
  where
    go : (b : Bool) → is_reopen line ≡ b → b ≡ false
    go true is =
        let same : line ≡ codes "reopen" = (bytes_eq-Decides line (codes "reopen")).0 is in
        let size : length line ≡ 6 = ap length same in absurd (omega (arith, long, size))
    go false is = refl

-- It is refused, whatever the moment; or it isn't read in a closed store.
abbrev long_act : {D : Type 0} → Store D → ℕ → Act
long_act (Open core) size = Ask (Err (refusal.TooLong size))
long_act (Closed disk) size = Unread

too_long_comes : {D : Type 0} (store : Store D) (moment : ℕ) (line : List ℕ) → line_limit < length line → ComesTo moment line [] (long_act store (length line))
too_long_comes (Open core) moment line long = (too_long_word line long, rw (too_long_line moment line long) (inl refl, refl))
too_long_comes (Closed disk) moment line long = (too_long_word line long, refl)

too_long_next : {D : Type 0} (store : Store D) (tell : Option (List ℕ)) (line : List ℕ) → line_limit < length line → ComesToNext tell line [] (long_act store (length line))
too_long_next store None line long = (0, λ moments e. absurd (let bad : None ≡ Some moments = e in cc), too_long_comes store 0 line long)
too_long_next store (Some told) line long = (first_moment told, λ moments e. ap first_moment (same told moments e), too_long_comes store (first_moment told) line long)
  where
    same : (a b : List ℕ) → Some a ≡ Some b → a ≡ b
    same a b e = cc

too_long_done : {D : Type 0} (g : Ghosts D) (store : Store D) (size : ℕ) → IsDoneOver g (long_act store size) store (refused_long store size) store
too_long_done g (Open core) size = (core, refl, one_refused (port_of g) core (refusal.TooLong size))
too_long_done g (Closed disk) size = (refl, refl)

-- A line of too many bytes was read, and refused.
pub too_long_at : {M D : Type 0} (makes : Makes M) (g : Ghosts D) (a : M) (store : Store D) (left_old left taken_old taken tell_old to_tell : Option (List ℕ)) (reader_old reader : Reader) (tally_old tally : Tally)
    (size : ℕ) (outcome : Option Ending) → ((rest : List ℕ) → IsToRead reader_old left_old rest → (line : List ℕ) × IsNextLine rest line (IsToRead reader left) × (size ≡ length line)) →
    line_limit < size → to_tell ≡ after_moment tell_old →
    TakesBytes left_old left reader_old.taken reader.taken → HasGiven taken_old taken tally_old tally (refused_long store size) outcome →
    TurnsOver makes g a a store store left_old left taken_old taken tell_old to_tell reader_old reader tally_old tally outcome
too_long_at makes g a store left_old left taken_old taken tell_old to_tell reader_old reader tally_old tally size outcome next long later took given = (
  [],
  refuses-none makes a a a,
  long_act store size ∷ [],
  refused_long store size ∷ [],
  (store, too_long_done g store size, (refl, refl)),
  λ told text before acts replies blamed at.
      let line = next at.rest at.to_read in
      let over : line_limit < length line.0 = omega (arith, line.2, long) in
      answered_at told text before left_old left taken_old taken tell_old to_tell reader_old reader tally_old tally line.0 (long_act store size) (refused_long store size) outcome
      acts replies blamed [] at line.1 (omega (arith, over))
      (subst (λ (n : ℕ). ComesToNext tell_old line.0 [] (long_act store n)) (sym line.2) (too_long_next store tell_old line.0 over)) later took given,
)

-- The lines that weren't answered are those of what is to be read.
stops : (told : Option (List ℕ)) (text before : List ℕ) (left taken to_tell : Option (List ℕ)) (reader : Reader) (tally : Tally) (ending : Ending)
    (new : Option (List ℕ)) (acts : List Act) (replies : List Reply) (blamed : List (List ℕ)) (at : IsAt told text before left taken to_tell reader tally acts replies blamed)
    → Ends ending text (lines at.rest) new before replies taken → Came told text before new taken to_tell ending acts replies blamed
stops told text before left taken to_tell reader tally ending new acts replies blamed at ends = record {
  answered = at.progress.answered;
  later = lines at.rest;
  lines_are = at.progress.lines_are;
  asked = at.progress.asked;
  clock = at.progress.clock;
  ends = ends;
}

pub ends_all_read : (text : List ℕ) (later : List (List ℕ)) (left : Option (List ℕ)) (before : List ℕ) (replies : List Reply) (taken : Option (List ℕ)) →
    IsAllRead text later before replies taken → Ends (end_of replies) text later left before replies taken
ends_all_read text later left before replies taken all =
    elim (list_any is_refusal replies) as (λ t. list_any is_refusal replies ≡ t → Ends (if t then Refused else if list_any is_for_memory replies then Starved else Answered) text later left before replies taken) [
      | true ↦ λ e. (all, rw e refl)
      | false ↦ λ e. elim (list_any is_for_memory replies) as (λ t. list_any is_for_memory replies ≡ t → Ends (if t then Starved else Answered) text later left before replies taken) [
        | true ↦ λ f. inl (all, rw (e, f) refl)
        | false ↦ λ f. (all, rw (e, f) refl)
      ] refl
    ] refl

pub same_ending : (tally : Tally) (replies : List Reply) → tally.refused ≡ list_any is_refusal replies → tally.starved ≡ list_any is_for_memory replies →
    ending_of tally ≡ end_of replies
same_ending tally replies r s = rw (r, s) refl

pub nothing_left : (reader : Reader) (left : Option (List ℕ)) → IsToRead reader left [] → left ≡ Some []
nothing_left reader left h = h.told ∙ ap Some (last_empty h.held h.rest h.text_is)
  where
    last_empty : (a b : List ℕ) → [] ≡ a ++ b → b ≡ []
    last_empty [] b e = sym e
    last_empty (x ∷ xs) b e = cc

-- All was read.
pub ended_at : (told : Option (List ℕ)) (text before : List ℕ) (left_old left taken to_tell : Option (List ℕ)) (reader_old reader : Reader) (tally : Tally)
    (acts : List Act) (replies : List Reply) (blamed : List (List ℕ)) (at : IsAt told text before left_old taken to_tell reader_old tally acts replies blamed) →
    (at.rest ≡ []) × IsToRead reader left [] → reader.taken < taken_limit →
    TakesBytes left_old left reader_old.taken reader.taken → Came told text before left taken to_tell (ending_of tally) acts replies blamed
ended_at told text before left_old left taken to_tell reader_old reader tally acts replies blamed at (none, to_read) fewer took =
    let read = took_more text left_old left 0 reader_old.taken reader.taken at.took took in
    let no_more : left ≡ Some [] = nothing_left reader left to_read in
    let size : length text ≡ reader.taken = taken_all text left reader.taken read no_more in
    let all : IsAllRead text (lines at.rest) before replies taken = (ap lines none, subst (λ n. n < taken_limit) (sym size) fewer, at.written) in
    stops told text before left_old taken to_tell reader_old tally (ending_of tally) left acts replies blamed at
    (subst (λ e. Ends e text (lines at.rest) left before replies taken) (sym (same_ending tally replies at.refused at.starved))
    (ends_all_read text (lines at.rest) left before replies taken all))

-- The lines that weren't answered are those of what the source has left, after bytes that no line feed ends.
pub all_ended : (text front : List ℕ) (reader : Reader) (left : Option (List ℕ)) (rest : List ℕ) → text ≡ front ++ rest → IsToRead reader left rest →
    HoldsNoFeed reader → IsAllEnded text (lines rest) left
all_ended text front reader left rest is to_read waiting = record {
  front = front;
  held = to_read.held;
  rest = to_read.rest;
  told = to_read.told;
  text_is = is ∙ ap (λ xs. front ++ xs) to_read.text_is;
  no_feed = waiting to_read.held to_read.holds;
  later_are = ap lines to_read.text_is;
}

-- As many bytes were taken as are ever taken.
pub spent_at : (told : Option (List ℕ)) (text before : List ℕ) (left_old left taken to_tell : Option (List ℕ)) (reader_old reader : Reader) (tally : Tally)
    (acts : List Act) (replies : List Reply) (blamed : List (List ℕ)) (at : IsAt told text before left_old taken to_tell reader_old tally acts replies blamed) → reader.taken ≡ taken_limit →
    TakesBytes left_old left reader_old.taken reader.taken → IsToRead reader left at.rest → HoldsNoFeed reader → Came told text before left taken to_tell Spent acts replies blamed
spent_at told text before left_old left taken to_tell reader_old reader tally acts replies blamed at all took to_read waiting =
    stops told text before left_old taken to_tell reader_old tally Spent left acts replies blamed at (
      at.written,
      all_ended text at.progress.front reader left at.rest at.progress.text_is to_read waiting,
      subst (λ n. n ≤ length text) all (taken_within text left reader.taken (took_more text left_old left 0 reader_old.taken reader.taken at.took took)),
    )

-- The source failed.
pub failed_at : (told : Option (List ℕ)) (text before : List ℕ) (left_old left taken to_tell : Option (List ℕ)) (reader_old reader : Reader) (tally : Tally)
    (acts : List Act) (replies : List Reply) (blamed : List (List ℕ)) (at : IsAt told text before left_old taken to_tell reader_old tally acts replies blamed)
    → IsToRead reader left at.rest → HoldsNoFeed reader → Came told text before left taken to_tell ReadFault acts replies blamed
failed_at told text before left_old left taken to_tell reader_old reader tally acts replies blamed at to_read waiting =
    stops told text before left_old taken to_tell reader_old tally ReadFault left acts replies blamed at
    (at.written, all_ended text at.progress.front reader left at.rest at.progress.text_is to_read waiting)

-- Memory ran out for a line.
pub starved_at : (told : Option (List ℕ)) (text before : List ℕ) (left_old left taken to_tell : Option (List ℕ)) (reader : Reader) (tally : Tally)
    (acts : List Act) (replies : List Reply) (blamed : List (List ℕ)) → IsAt told text before left_old taken to_tell reader tally acts replies blamed
    → Came told text before left taken to_tell Starved acts replies blamed
starved_at told text before left_old left taken to_tell reader tally acts replies blamed at =
    stops told text before left_old taken to_tell reader tally Starved left acts replies blamed at (inr (inl at.written))

-- Bytes taken in two steps, wherever they came from.
pub took_on : (start left new : Option (List ℕ)) (a b c : ℕ) → TakesBytes start left a b → TakesBytes left new b c → TakesBytes start new a c
took_on None left new a b c first second = (first.0 ++ second.0, tt, rw length-append (omega (arith, first.2, second.2)))
took_on (Some text) left new a b c first second = took_more text left new a b c first second

-- A reader that has nothing to read took nothing of a line.
pub nothing_to_come : (reader : Reader) → IsToRead reader (Some []) [] → to_come reader ≤ taken_limit
nothing_to_come reader h = omega (arith, held_none reader.begun h.holds.piece reader.pending h.holds.is_begun pieces_none)
  where
    held_is : [] ≡ h.held ++ h.rest
    held_is = h.text_is

    pieces_none : h.holds.piece ++ reader.pending ≡ []
    pieces_none = sym h.holds.held_is ∙ first_empty h.held h.rest held_is
      where
        first_empty : (a b : List ℕ) → [] ≡ a ++ b → a ≡ []
        first_empty [] b e = refl
        first_empty (x ∷ xs) b e = cc

    held_none : (begun : Begun) (piece pending : List ℕ) → IsBegun begun piece → piece ++ pending ≡ [] → begun_len begun + length pending ≡ 0
    held_none (Kept bytes) [] [] b e = ap (λ xs. length xs + 0) (sym b) ∙ refl
    held_none (Kept bytes) [] (y ∷ ys) b e = cc
    held_none (Kept bytes) (x ∷ xs) pending b e = cc
    held_none (Dropped size r) [] [] b e = omega (arith, b.0)
    held_none (Dropped size r) [] (y ∷ ys) b e = cc
    held_none (Dropped size r) (x ∷ xs) pending b e = cc

-- A session begins.
pub begins_at : (told : Option (List ℕ)) (text before : List ℕ) (left taken : Option (List ℕ)) (reader : Reader) (tally : Tally) →
    left ≡ Some text → taken ≡ Some before → IsToRead reader (Some text) text → reader.taken ≡ 0 →
    tally.refused ≡ false → tally.starved ≡ false → IsAt told text before left taken told reader tally [] [] []
begins_at told text before left taken reader tally held gave to_read none_taken no_refusal no_hunger = record {
  rest = text;
  to_read = subst (λ l. IsToRead reader l text) (sym held) to_read;
  progress = progress_begins told text;
  written = gave ∙ ap Some (sym (append-nil before));
  refused = no_refusal;
  starved = no_hunger;
  took = ([], subst (λ l. Consumes (Some text) l []) (sym held) refl, none_taken ∙ refl);
}

-- Nothing was taken.
pub took_none : (left : Option (List ℕ)) (taken : ℕ) → taken ≡ 0 → TakesBytes left left 0 taken
took_none None taken h = ([], tt, h ∙ refl)
took_none (Some text) taken h = ([], refl, h ∙ refl)
