-- The step that appends a call keeps the rule of the table.
use Rattle.std.proofs.Common.{◌≡◌, ◌≢◌, ℕ, ◌+◌, ◌%◌, ◌^◌, ◌<◌, ◌==◌, suc, List, [], ◌∷◌, ◌++◌, Bool, true, false, not, refl, sym, ◌∙◌, ap, subst, arith, length, length-append, filter, map, get_or, set, ⊎_elim, inl, inr, if◌then◌else◌, Option, Some, None}
use Rattle.std.specs.Prelude.{IsTrue, ◌||◌, ◌⊎◌}
use Rattle.std.specs.List.{Contains, flat_map}
use Rattle.std.proofs.lemmas.List.{append-nil, append_assoc}
use Rattle.std.proofs.lemmas.Option.{same_Some}
use Rattle.std.proofs.lemmas.List.Elements.{Contains-append_left, Contains-append_right, Contains-append_cases, Contains-push_cases}
use mathlib.Core.Logic.{dite}
use mathlib.Core.Option.{some, none, some-injective}
use native.Mathlib.Decide.{ℕ_discrete}
use lib.ListN.{get_elem?}
use Rattle.atomic_table.specs.Table.{State, Me, step, keeps, Allows}
use Rattle.atomic_table.proofs.Lists.{set_here, set_else}
use Rattle.store_model.specs.Event.{Event, Reply}
use Rattle.store_model.specs.Holds.{Hold, ends, opened, holds_after, files_of}
use Rattle.store_model.specs.State.{is_among}
use Rattle.store_model.specs.Told.{history_after, TellsLength}
use Rattle.store_model.proofs.Numbers.{equal_itself, map_append, same_number}
use Rattle.store_state.specs.Meaning.{Meaning, Called, IsOpen}
use Rattle.port_history.specs.Entries.{Entry, own, open_from, AreEntries, history_from}
use Rattle.shared_store.specs.Seen.{bytes_in, with_bytes, kept_of, names_after, name_at}
use Rattle.shared_store.specs.Apart.{AllLeave, AreStrangers, Leaves}
use Rattle.shared_store.specs.declared.known.Known.{Known}
use Rattle.shared_store.specs.Rule.{Fits, AreOfTwo, IsKept, IsOwn, IsAppended, appended, showing}
use Rattle.shared_store.specs.Rule.Turn.{taken}
use Rattle.port_history.proofs.Chains.{history_append, holds_chain, made_snoc, open_append, own_append, tells_chain}
use Rattle.shared_store.proofs.Lists.{knows_chain, own_one, own_none, own_nobody, own_strangers, was_there, still_there, strangers_filter, strangers_append, inside, parts_set}
use Rattle.shared_store.proofs.Events.{opened_strangers, turned}
use Rattle.shared_store.proofs.Leaves.{bytes_left, first_left, later_left, one_left, own_leaves}
use Rattle.shared_store.proofs.Keeps.{changed, changed_two, shorter, Holding, holding}

-- ---- what is kept of files

or_true : (b : Bool) → (b || true) ≡ true
or_true true = refl
or_true false = refl

pub first_among : (x : ℕ) (xs : List ℕ) → is_among x (x ∷ xs) ≡ true
first_among x xs = rw (equal_itself x) refl

pub later_among : (file x : ℕ) (xs : List ℕ) → is_among file xs ≡ true → is_among file (x ∷ xs) ≡ true
later_among file x xs e = ap (λ (b : Bool). (x == file) || b) e ∙ or_true (x == file)

same_files : (f g : ℕ → List ℕ) (files : List ℕ) → ((file : ℕ) → is_among file files ≡ true → f file ≡ g file)
    → map (with_bytes f) files ≡ map (with_bytes g) files
same_files f g [] h = refl
same_files f g (x ∷ xs) h =
    let here : f x ≡ g x = h x (first_among x xs) in
    let rest = same_files f g xs (λ file e. h file (later_among file x xs e)) in λ i. (x, here i) ∷ rest i

pub same_kept : (f g : ℕ → List ℕ) (hs : List Hold) → ((hold : Hold) → Contains hs hold → (file : ℕ) → is_among file (files_of hold) ≡ true → f file ≡ g file)
    → kept_of f hs ≡ kept_of g hs
same_kept f g [] h = refl
same_kept f g (x ∷ hs) h =
    let one = same_files f g (files_of x) (h x (0, omega arith, refl)) in
    let rest = same_kept f g hs (λ hold c. h hold (suc c.0, omega (arith, c.1), c.2)) in
    map_append (with_bytes f) (files_of x) (flat_map files_of hs) ∙ (λ i. one i ++ rest i)
    ∙ sym (map_append (with_bytes g) (files_of x) (flat_map files_of hs))

-- calls that leave what is held leave the bytes of its files
pub kept_left : {P : Type 0} (m : Meaning P) (held : List Hold) (old new : P) (es : List Entry) → AreEntries m old es new → AllLeave held es
    → ((hold : Hold) → Contains held hold → IsOpen m old hold) → IsTrue (m.tells old) → kept_of (m.shows new) held ≡ kept_of (m.shows old) held
kept_left {P} m held old new [] made left are told = ap (λ (p : P). kept_of (m.shows p) held) made
kept_left m held old new (e ∷ es) made left are told =
    let one = first_left held e es left in
    kept_left m held made.0 new es made.4 (later_left held e es left) (one_left m held old made.0 e.event e.reply made.1 one are)
    (subst IsTrue (sym made.1.telling) told)
    ∙ same_kept (m.shows made.0) (m.shows old) held (λ hold c file among. bytes_left m held old made.0 e.event e.reply made.1 one told hold c (are hold c) file among)

pub bytes_found : (f : ℕ → List ℕ) (files : List ℕ) (file : ℕ) → is_among file files ≡ true → bytes_in (map (with_bytes f) files) file ≡ f file
bytes_found f [] file h = cc
bytes_found f (x ∷ xs) file h = elim (x == file) as (λ t. (x == file) ≡ t → (t || is_among file xs) ≡ true → (if t then f x else bytes_in (map (with_bytes f) xs) file) ≡ f file) [
  | true ↦ λ e g. ap f (same_number x file e)
  | false ↦ λ e g. bytes_found f xs file g
] refl h

-- ---- names

pub name_among : (place : ℕ) (names : List ℕ) → is_among (name_at place names) (names_after place names) ≡ true
name_among place [] = first_among place []
name_among place (n ∷ names) = first_among n names

-- a name after an entry is an old one, or the entry's place where there was none
names_cases : (place n : ℕ) (names : List ℕ) → is_among n (names_after place names) ≡ true → (is_among n names ≡ true) ⊎ ((names ≡ []) × (place ≡ n))
names_cases place n [] e = inr (refl, only n place e)
  where
    only : (n x : ℕ) → is_among n (x ∷ []) ≡ true → x ≡ n
    only n x e = elim (x == n) as (λ t. (x == n) ≡ t → (t || false) ≡ true → x ≡ n) [
      | true ↦ λ s _. same_number x n s
      | false ↦ λ s h. cc
    ] refl e
names_cases place n (x ∷ names) e = inl e

-- those of a seat that had a name, and of one that had none
own_after : (names : List ℕ) (entries : List Entry) (e : Entry) → e.seat ≡ name_at (length entries) names
    → ((x : Entry) → Contains entries x → x.seat < length entries)
    → own (names_after (length entries) names) (entries ++ e ∷ []) ≡ own names entries ++ e ∷ []
own_after names entries e name small =
    own_append (names_after (length entries) names) entries (e ∷ [])
    ∙ (λ i. before names i ++ own_one (names_after (length entries) names) e (ap (λ n. is_among n (names_after (length entries) names)) name ∙ name_among (length entries) names) i)
  where
    apart : (x : Entry) → x.seat < length entries → is_among x.seat (length entries ∷ []) ≡ false
    apart x l = elim (length entries == x.seat) as (λ t. (length entries == x.seat) ≡ t → (t || false) ≡ false) [
      | true ↦ λ s. absurd (omega (arith, same_number (length entries) x.seat s, l))
      | false ↦ λ s. refl
    ] refl

    before : (ns : List ℕ) → own (names_after (length entries) ns) entries ≡ own ns entries
    before [] = own_strangers (length entries ∷ []) entries (λ x c. apart x (small x c)) ∙ sym (own_nobody entries)
    before (n ∷ ns) = refl

-- ---- the step

module _ {C : Type 0} (m : Meaning C) (key : C) (s : State (Option C) (Known C)) (k : IsKept m key s) (id : ℕ) (v : Known C) (core core' : C) (event : Event) (reply : Reply)
    (at : get_elem? s.views id ≡ some v) (some_part : 0 < v.parts) (shows : v.shown ≡ Some core) (called : Called m core event reply core') (mine : IsOwn v.seen.holds event reply) where
  abbrev K : Type 0
  K = Known C

  abbrev place : ℕ
  place = length k.entries

  abbrev names' : List ℕ
  names' = names_after place v.seen.names

  abbrev holds' : List Hold
  holds' = holds_after event reply v.seen.holds

  abbrev entry : Entry
  entry = record { seat = name_at place v.seen.names; event = event; reply = reply; before = m.faults core; after = m.faults core' }

  abbrev entries' : List Entry
  entries' = k.entries ++ entry ∷ []

  abbrev w : K
  w = record { start = v.start; shown = Some core'; parts = v.parts; seen = record { entries = entries'; names = names'; holds = holds'; kept = kept_of (m.shows core') holds'; joined = None } }

  abbrev has : Holding m key s k id core
  has = holding m key s k id v core at shows

  abbrev fits : Fits m key k.entries k.core v
  fits = k.each id v at

  made' : AreEntries m key entries' core'
  made' = made_snoc m key core core' k.entries entry (subst (λ (c : C). AreEntries m key k.entries c) has.core_is k.made) called refl refl

  abbrev open_now : List Hold
  open_now = open_from [] k.entries

  held : m.holds core open_now
  held = holds_chain m key core [] k.entries k.untouched (subst (λ (c : C). AreEntries m key k.entries c) has.core_is k.made)

  -- each entry stands under a name, and that is the place of an earlier one
  small : (e : Entry) → Contains k.entries e → e.seat < place
  small e c = let o = k.owned e c in (k.each o.0 o.1 o.2).named e.seat o.3

  fewer : place < length entries'
  fewer = omega (arith, length-append k.entries (entry ∷ []))

  -- ---- of the others

  module _ (i : ℕ) (u : K) (other : i ≢ id) (at_u : get_elem? s.views i ≡ some u) where
    abbrev theirs : Fits m key k.entries k.core u
    theirs = k.each i u at_u

    abbrev two : AreOfTwo v u
    two = k.two id i v u (λ p. other (sym p)) at at_u

    -- the call ends nothing of theirs, and writes no file of it
    left : Leaves u.seen.holds event reply
    left = own_leaves v.seen.holds u.seen.holds event reply mine two.holds

    same_bytes : IsTrue (m.tells key) → (hold : Hold) → Contains u.seen.holds hold → (file : ℕ) → is_among file (files_of hold) ≡ true → m.shows core' file ≡ m.shows core file
    same_bytes told hold c file among = bytes_left m u.seen.holds core core' event reply called left
        (subst IsTrue (sym (tells_chain m key core k.entries (subst (λ (x : C). AreEntries m key k.entries x) has.core_is k.made))) told)
        hold c (open_now, held, theirs.are_open hold c) file among

    -- the entry stands under none of their names
    not_theirs : is_among entry.seat u.seen.names ≡ false
    not_theirs = at_names v.seen.names refl
      where
        at_names : (ns : List ℕ) → v.seen.names ≡ ns → is_among (name_at place ns) u.seen.names ≡ false
        at_names [] e = elim (is_among place u.seen.names) as (λ t. is_among place u.seen.names ≡ t → t ≡ false) [
          | true ↦ λ h. absurd (omega (arith, theirs.named place h))
          | false ↦ λ h. refl
        ] refl
        at_names (n ∷ ns) e = two.names n (ap (is_among n) e ∙ first_among n ns)

    still_fits : Fits m key entries' core' u
    still_fits = record {
      start = theirs.start;
      spent = theirs.spent;
      rest = theirs.rest ++ entry ∷ [];
      begins = ap (λ (es : List Entry). es ++ entry ∷ []) theirs.begins ∙ append_assoc u.seen.entries theirs.rest (entry ∷ []);
      leaves = λ e c. ⊎_elim (λ (old : Contains theirs.rest e). theirs.leaves e old)
          (λ (new : entry ≡ e). subst (λ (x : Entry). Leaves u.seen.holds x.event x.reply) new left) (Contains-push_cases theirs.rest entry e c);
      others = own_append u.seen.names theirs.rest (entry ∷ []) ∙ (λ j. theirs.others j ++ own_none u.seen.names entry not_theirs j);
      named = λ n h. omega (arith, theirs.named n h, fewer);
      are_open = λ hold c. rw (open_append [] k.entries (entry ∷ []))
          (Contains-append_left (filter (λ x. not (ends event reply x)) open_now) (opened reply) hold
          (still_there (λ x. not (ends event reply x)) open_now hold (theirs.are_open hold c) (ap not (left.ends_none hold c))));
      strangers = theirs.strangers;
      kept = λ told. theirs.kept told ∙ ap (λ (c : C). kept_of (m.shows c) u.seen.holds) has.core_is
          ∙ same_kept (m.shows core) (m.shows core') u.seen.holds (λ hold c file among. sym (same_bytes told hold c file among));
      joined = theirs.joined;
    }

    -- what is new of the caller is apart from theirs
    still_two : AreOfTwo w u × AreOfTwo u w
    still_two = (record { names = name_apart; holds = hold_apart }, record { names = names_back; holds = λ one more c d. turned more one (hold_apart more one d c) })
      where
        name_apart : (n : ℕ) → is_among n names' ≡ true → is_among n u.seen.names ≡ false
        name_apart n h = ⊎_elim (λ (old : is_among n v.seen.names ≡ true). two.names n old)
            (λ (new : (v.seen.names ≡ []) × (place ≡ n)). sym (ap (λ (x : ℕ). is_among x u.seen.names) (ap (name_at place) new.0 ∙ new.1)) ∙ not_theirs)
            (names_cases place n v.seen.names h)

        names_back : (n : ℕ) → is_among n u.seen.names ≡ true → is_among n names' ≡ false
        names_back n h = elim (is_among n names') as (λ t. is_among n names' ≡ t → t ≡ false) [
          | true ↦ λ e. let both : true ≡ false = sym h ∙ name_apart n e in cc
          | false ↦ λ e. refl
        ] refl

        hold_apart : (one more : Hold) → Contains holds' one → Contains u.seen.holds more → AreStrangers one more
        hold_apart one more c d = ⊎_elim
            (λ (old : Contains (filter (λ x. not (ends event reply x)) v.seen.holds) one). two.holds one more (was_there (λ x. not (ends event reply x)) v.seen.holds one old).0 d)
            (λ (new : Contains (opened reply) one). k.unshared.apart core core' event reply called open_now held one more new (theirs.are_open more d))
            (Contains-append_cases (filter (λ x. not (ends event reply x)) v.seen.holds) (opened reply) one c)

  -- ---- of the caller

  now_fits : Fits m key entries' core' w
  now_fits = record {
    start = fits.start;
    spent = λ h. absurd (omega (arith, h, some_part));
    rest = [];
    begins = sym (append-nil entries');
    others = refl;
    leaves = λ e c. absurd (omega (arith, c.1));
    named = λ n h. ⊎_elim (λ (old : is_among n v.seen.names ≡ true). omega (arith, fits.named n old, fewer)) (λ (new : (v.seen.names ≡ []) × (place ≡ n)). omega (arith, new.1, fewer)) (names_cases place n v.seen.names h);
    are_open = λ hold c. rw (open_append [] k.entries (entry ∷ [])) (⊎_elim
        (λ (old : Contains (filter (λ x. not (ends event reply x)) v.seen.holds) hold).
        let was = was_there (λ x. not (ends event reply x)) v.seen.holds hold old in
        Contains-append_left (filter (λ x. not (ends event reply x)) open_now) (opened reply) hold
        (still_there (λ x. not (ends event reply x)) open_now hold (fits.are_open hold was.0) was.1))
        (λ (new : Contains (opened reply) hold). Contains-append_right (filter (λ x. not (ends event reply x)) open_now) (opened reply) hold new)
        (Contains-append_cases (filter (λ x. not (ends event reply x)) v.seen.holds) (opened reply) hold c));
    strangers = strangers_append (filter (λ x. not (ends event reply x)) v.seen.holds) (opened reply)
        (strangers_filter (λ x. not (ends event reply x)) v.seen.holds fits.strangers) (opened_strangers reply)
        (λ old new c d. turned new old (k.unshared.apart core core' event reply called open_now held new old d
        (fits.are_open old (was_there (λ x. not (ends event reply x)) v.seen.holds old c).0)));
    kept = λ told. refl;
    joined = λ one other is. cc;
  }

  keeps_rule : IsKept m key record { words = set s.words 1 ((get_or s.words 1 0 + 1) % 2 ^ 64); homes = s.homes; views = set s.views id w }
  keeps_rule = record {
    unshared = k.unshared;
    untouched = k.untouched;
    entries = entries';
    core = core';
    turn = 1;
    words = ap (λ (ws : List ℕ). set ws 1 ((get_or ws 1 0 + 1) % 2 ^ 64)) k.words
        ∙ (λ i. has.turn i ∷ counted i ∷ []);
    made = made';
    each = changed m key (λ i u. Fits m key entries' core' u) s.views id w now_fits (λ i u other e. still_fits i u other e);
    two = changed_two m key AreOfTwo s.views id w (λ i u other e. still_two i u other e) k.two;
    parts = parts_set s.views id v w at refl ∙ k.parts;
    owned = λ e c. ⊎_elim (λ (old : Contains k.entries e). owned_still e old)
        (λ (new : entry ≡ e). (id, w, set_here s.views id w (inside s.views id v at), ap (λ (x : Entry). is_among x.seat names') (sym new) ∙ name_among place v.seen.names))
        (Contains-push_cases k.entries entry e c);
    whose = taken id (shorter s.views id w (inside s.views id v at)) refl has.homes (λ u e. sym (ap (λ (x : K). x.shown) (some-injective w u (sym (set_here s.views id w (inside s.views id v at)) ∙ e))))
        (λ i u other e. has.others i u other (sym (set_else s.views id i w other) ∙ e));
  }
    where
      counted : (length k.entries % 2 ^ 64 + 1) % 2 ^ 64 ≡ length entries' % 2 ^ 64
      counted = omega (arith, length-append k.entries (entry ∷ []))

      kept_name : (n : ℕ) → is_among n v.seen.names ≡ true → is_among n names' ≡ true
      kept_name n h = at_names v.seen.names h
        where
          at_names : (ns : List ℕ) → is_among n ns ≡ true → is_among n (names_after place ns) ≡ true
          at_names [] e = cc
          at_names (x ∷ ns) e = e

      owned_still : (e : Entry) → Contains k.entries e → (i : ℕ) × (u : K) × (get_elem? (set s.views id w) i ≡ some u) × (is_among e.seat u.seen.names ≡ true)
      owned_still e c = let o = k.owned e c in
          dite (ℕ_discrete o.0 id)
          (λ here. (
            id,
            w,
            set_here s.views id w (inside s.views id v at),
            kept_name e.seat (ap (λ (u : K). is_among e.seat u.seen.names) (some-injective v o.1 (sym at ∙ ap (get_elem? s.views) (sym here) ∙ o.2)) ∙ o.3),
          ))
          (λ there. (o.0, o.1, set_else s.views id o.0 w there ∙ o.2, o.3))

  -- ---- what the caller learns

  is_appended : IsAppended m key event reply core core' v w
  is_appended = record {
    between = fits.rest;
    entry = entry;
    its_event = refl;
    its_reply = refl;
    its_before = refl;
    its_after = refl;
    its_name = ap (λ (n : ℕ). name_at n v.seen.names) (ap length fits.begins);
    seen = ap (λ (es : List Entry). es ++ entry ∷ []) fits.begins;
    others = fits.others;
    leaves = fits.leaves;
    earlier = subst (λ (es : List Entry). AreEntries m key es core) fits.begins (subst (λ (c : C). AreEntries m key k.entries c) has.core_is k.made);
    names = ap (λ (n : ℕ). names_after n v.seen.names) (ap length fits.begins);
    mine = own_after v.seen.names k.entries entry refl small
        ∙ ap (λ (es : List Entry). es ++ entry ∷ []) (ap (own v.seen.names) fits.begins ∙ own_append v.seen.names v.seen.entries fits.rest ∙ ap (λ (es : List Entry). own v.seen.names v.seen.entries ++ es) fits.others ∙ append-nil (own v.seen.names v.seen.entries));
    holds = refl;
    strangers = now_fits.strangers;
    kept = refl;
    made = made';
    knows = λ from known.
        let before = knows_chain m k.unshared key core k.entries from known (subst (λ (c : C). AreEntries m key k.entries c) has.core_is k.made) in
        let one = k.unshared.history core core' event reply called before.0 before.1 in record {
          view = one.0;
          known = one.1;
          history = one.2 ∙ ap (history_after event reply) before.2 ∙ sym (history_append from.history k.entries (entry ∷ []));
          told = subst (TellsLength event reply) (before.2 ∙ ap (history_from from.history) fits.begins) one.4;
        };
  }

pub appends : {C : Type 0} (m : Meaning C) (key : C) (slots id : ℕ) (v : Known C) (out : List (ℕ × Option C)) (core core' : C) (event : Event) (reply : Reply) (after : Option C) → 0 < v.parts → v.shown ≡ Some core
    → after ≡ Some core' → Called m core event reply core' → IsOwn v.seen.holds event reply
    → Allows (IsKept m key) slots id (v, out) 1 (λ n. (n + 1) % 2 ^ 64) (appended m event reply after (step slots 1 1 0 none) (v, out))
appends {C} m key slots id v out core core' event reply after some_part shows is called mine s k deep at small = (
  w m key s k id v core core' event reply at some_part shows called mine,
  keeps,
  tt,
  keeps_rule m key s k id v core core' event reply at some_part shows called mine,
  (
    refl,
    (refl, refl, sym is),
    λ known b c starts was same.
        subst (λ (x : C × C × C). IsAppended m x.0 event reply x.1 x.2 v (w m key s k id v core core' event reply at some_part shows called mine))
        (λ j. (sym ((k.each id v at).start known starts) j, same_Some core b (sym shows ∙ was) j, same_Some core' c (sym is ∙ same) j))
        (is_appended m key s k id v core core' event reply at some_part shows called mine),
  ),
)

pub appends_at : {C : Type 0} (m : Meaning C) (key : C) (slots id : ℕ) (me : Me (Option C) (Known C)) (core core' : C) (event event' : Event) (reply reply' : Reply) (after : Option C) → 0 < me.0.parts → me.0.shown ≡ Some core
    → after ≡ Some core' → event ≡ event' → reply ≡ reply' → Called m core event' reply' core' → IsOwn me.0.seen.holds event' reply'
    → Allows (IsKept m key) slots id me 1 (λ n. (n + 1) % 2 ^ 64) (appended m event reply after (step slots 1 1 0 none) me)
appends_at {C} m key slots id me core core' event event' reply reply' after some_part shows is same_event same_reply called mine =
    appends m key slots id me.0 me.1 core core' event reply after some_part shows is
    (subst (λ (x : Event × Reply). Called m core x.0 x.1 core') (λ i. (sym same_event i, sym same_reply i)) called)
    (subst (λ (x : Event × Reply). IsOwn me.0.seen.holds x.0 x.1) (λ i. (sym same_event i, sym same_reply i)) mine)

-- what is shown afterwards is no part of it
pub appended_shown : {C : Type 0} (m : Meaning C) (key before core : C) (event : Event) (reply : Reply) (v w u : Known C) (shown : Option C) → u ≡ showing shown w
    → IsAppended m key event reply before core v w → IsAppended m key event reply before core v u
appended_shown m key before core event reply v w u shown is a = subst (λ (x : Known _). IsAppended m key event reply before core v x) (sym is) record {
  between = a.between;
  entry = a.entry;
  its_event = a.its_event;
  its_reply = a.its_reply;
  its_before = a.its_before;
  its_after = a.its_after;
  its_name = a.its_name;
  seen = a.seen;
  others = a.others;
  leaves = a.leaves;
  earlier = a.earlier;
  names = a.names;
  mine = a.mine;
  holds = a.holds;
  strangers = a.strangers;
  kept = a.kept;
  made = a.made;
  knows = a.knows;
}

pub from_shown : {C : Type 0} (m : Meaning C) (key before core : C) (event : Event) (reply : Reply) (v u w : Known C) (shown : Option C) → u ≡ showing shown v
    → IsAppended m key event reply before core u w → IsAppended m key event reply before core v w
from_shown m key before core event reply v u w shown is a =
    let b = subst (λ (x : Known _). IsAppended m key event reply before core x w) is a in record {
      between = b.between;
      entry = b.entry;
      its_event = b.its_event;
      its_reply = b.its_reply;
      its_before = b.its_before;
      its_after = b.its_after;
      its_name = b.its_name;
      seen = b.seen;
      others = b.others;
      leaves = b.leaves;
      earlier = b.earlier;
      names = b.names;
      mine = b.mine;
      holds = b.holds;
      strangers = b.strangers;
      kept = b.kept;
      made = b.made;
      knows = b.knows;
    }
