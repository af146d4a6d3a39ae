-- A port that stands for one machine is used by nobody else, and what its calls open is apart from what is open.
use Rattle.std.proofs.Common.{◌≡◌, ℕ, ◌+◌, ◌≤◌, ◌==◌, Bool, true, false, List, [], ◌∷◌, ◌++◌, Option, Some, None, refl, sym, ◌∙◌, ap, subst, arith, not, filter, if◌then◌else◌, inl, inr}
use Rattle.std.specs.Prelude.{◌||◌}
use Rattle.std.specs.List.{Contains}
use Rattle.std.proofs.lemmas.List.{append-nil}
use Rattle.std.proofs.lemmas.List.Elements.{Contains-append_cases}
use Rattle.std.proofs.lemmas.Option.{same_Some}
use Rattle.store_model.specs.Choice.{choice}
use Rattle.store_model.specs.Event.{Event, Reply}
use Rattle.store_model.specs.Event.Reply.{Fine, Refused}
use Rattle.store_model.specs.Event.Refusal.{Fault}
use Rattle.store_model.specs.Event.Event.{Push, Cut, CutAll, Held, BeginFlush, BeginCompact, WritePiece, CommitFlush, CommitCompact, DropFlush, DropCompact, Look, ReadPage, Done, Reclaim}
use Rattle.store_model.specs.Holds.{Hold, OpenIn, ends, opened, holds_after, files_of}
use Rattle.store_model.specs.Holds.Hold.{OpenLook, OpenFlush, OpenCompact}
use Rattle.store_model.specs.Laws.{Agrees}
use Rattle.store_model.specs.Sound.{StateIsSound, times, uses}
use Rattle.store_model.specs.State.{State, Flush, Compaction, Pinned, block_files, compaction_files, flush_files, is_among, pinned_blocks, pinned_files}
use Rattle.store_model.specs.Step.{Machine, Step, Happens, if_read_only}
use Rattle.store_model.specs.Step.Step.{Sure, Succeeds, Lacks, Unread, Breaks, Halts}
use Rattle.store_model.specs.Told.{history_after, TellsLength}
use Rattle.store_model.proofs.GivesFresh.{opens_apart}
use Rattle.store_model.proofs.KeepsFirsts as firsts
use Rattle.store_model.proofs.KeepsHolds as holds
use Rattle.store_model.proofs.KeepsSound as sounds
use Rattle.store_model.proofs.Chosen.{choice_part, part_within}
use Rattle.store_model.proofs.Numbers.{named, one_number, same_number, times-append, times_itself}
use Rattle.store_model.proofs.TellsHistory.{split, step_tells, step_opens, not_in_nil, only_one, plain_opens}
use Rattle.store_state.specs.Cores.{CoreMeaning, CoreKnows, CoreDid, CoreShown, meaning_of}
use Rattle.store_state.specs.Meaning.{View, Called}
use Rattle.disk_model.specs.declared.disk.Device.{Ghosts}
use Rattle.store_core.specs.Cores.{CoreShows, CoreStandsFor}
use Rattle.store_core.specs.Events.{Did}
use Rattle.store_core.specs.declared.store.Core.{Core}
use Rattle.port_history.specs.Entries.{Entry, AreEntries, Legal, own}
use Rattle.port_history.proofs.Chains.{counts_chain, legal_history}
use Rattle.store_core.specs.Port.{port_of, shown_by}
use Rattle.shared_store.proofs.Files.{written_is_its}
use Rattle.shared_store.proofs.Lists.{unended, was_there}
use Rattle.shared_store.specs.Apart.{AreStrangers, IsUnshared, written_by}
use Rattle.shared_store.specs.Over.{AreCallsOf, HasCalled, IsTakenBack}
use Rattle.shared_store.specs.Rule.{IsFound}
use Rattle.shared_store.specs.Seats.{Stand, seat_meaning}
use Rattle.shared_store.specs.declared.known.Known.{Known}

-- ---- files in use

refuted : (t : Bool) → (t ≡ true → ⊥) → t ≡ false
refuted true h = absurd (h refl)
refuted false h = refl

none_among : (n : ℕ) (G : Type 0) → is_among n [] ≡ true → G
none_among n G h = cc

only_among : (n x : ℕ) → is_among n (x ∷ []) ≡ true → n ≡ x
only_among n x h = one_number n x (named n (x ∷ []) h)

pinned_within : (file n : ℕ) (pins : List Pinned) → times file (block_files (pinned_blocks n pins)) ≤ times file (pinned_files pins)
pinned_within file n [] = omega arith
pinned_within file n (p ∷ ps) =
    let joined = times-append file (block_files p.blocks) (pinned_files ps) in
    let rest = pinned_within file n ps in
    elim (p.number == n) as (λ t. times file (block_files (if t then p.blocks else pinned_blocks n ps)) ≤ times file (block_files p.blocks ++ pinned_files ps)) [
      | true ↦ omega (arith, joined)
      | false ↦ omega (arith, joined, rest)
    ]

flush_uses : (o : Option Flush) (job : Flush) → o ≡ Some job → 1 ≤ times job.file (flush_files o)
flush_uses o job is =
    let own = times_itself job.file in
    let joined = times-append job.file (job.file ∷ []) (job.segment ∷ []) in
    subst (λ (x : Option Flush). 1 ≤ times job.file (flush_files x)) (sym is) (omega (arith, own, joined))

compaction_uses : (o : Option Compaction) (job : Compaction) → o ≡ Some job → 1 ≤ times job.file (compaction_files o)
compaction_uses o job is =
    let own = times_itself job.file in subst (λ (x : Option Compaction). 1 ≤ times job.file (compaction_files x)) (sym is) (omega (arith, own))

-- what a job writes is in use as a job's
job_uses : (m : Machine) (hold : Hold) (file : ℕ) → OpenIn m hold → is_among file (written_by hold) ≡ true
    → 1 ≤ times file (flush_files m.state.flush) + times file (compaction_files m.state.compaction)
job_uses m (OpenLook look) file is h = none_among file _ h
job_uses m (OpenFlush job) file is h =
    let here : is.job.file ≡ file = is.its_file ∙ sym (only_among file job.file h) in
    let used = subst (λ (f : ℕ). 1 ≤ times f (flush_files m.state.flush)) here (flush_uses m.state.flush is.job is.is_open) in omega (arith, used)
job_uses m (OpenCompact job) file is h =
    let here : is.job.file ≡ file = is.its_file ∙ sym (only_among file job.file h) in
    let used = subst (λ (f : ℕ). 1 ≤ times f (compaction_files m.state.compaction)) here (compaction_uses m.state.compaction is.job is.is_open) in omega (arith, used)

-- the files of a pin are a block's, or loose
pin_uses : (u : State) (pin file : ℕ) (files : List ℕ) → StateIsSound u → block_files (pinned_blocks pin u.pins) ≡ files → is_among file files ≡ true → 1 ≤ uses file u
pin_uses u pin file files sound its h =
    let one = named file files h in
    let same : times file (block_files (pinned_blocks pin u.pins)) ≡ times file files = ap (times file) its in
    let within = pinned_within file pin u.pins in
    let used = sound.files.pinned file (omega (arith, one, same, within)) in omega (arith, used)

-- each file of what is open is in use
hold_uses : (m : Machine) (hold : Hold) (file : ℕ) → StateIsSound m.state → OpenIn m hold → is_among file (files_of hold) ≡ true → 1 ≤ uses file m.state
hold_uses m (OpenLook look) file sound is h = pin_uses m.state look.pin file look.files sound is.its_files h
hold_uses m (OpenFlush job) file sound is h = let used = job_uses m (OpenFlush job) file is h in omega (arith, used)
hold_uses m (OpenCompact job) file sound is h = at (job.file == file) refl h
  where
    at : (t : Bool) → (job.file == file) ≡ t → (t || is_among file job.files) ≡ true → 1 ≤ uses file m.state
    at true e g =
        let own_file : is_among file (job.file ∷ []) ≡ true = ap (λ (b : Bool). b || false) e in
        let used = job_uses m (OpenCompact job) file is own_file in omega (arith, used)
    at false e g = pin_uses m.state job.pin file job.files sound is.its_files g

-- ---- what is opened

new_file : (m : Machine) (old : Hold) (file : ℕ) → StateIsSound m.state → OpenIn m old → file ≡ m.state.next_file → is_among file (files_of old) ≡ false
new_file m old file sound is new = refuted (is_among file (files_of old))
    (λ h. let used = hold_uses m old file sound is h in let none = sound.files.new file (omega (arith, new)) in absurd (omega (arith, used, none)))

-- a job's file is no listed block's
no_block : (m : Machine) (old : Hold) (file : ℕ) (blocks : List ℕ) → StateIsSound m.state → OpenIn m old → is_among file (written_by old) ≡ true
    → times file blocks ≤ times file (block_files m.state.blocks) → is_among file blocks ≡ false
no_block m old file blocks sound is h within = refuted (is_among file blocks)
    (λ g. let used = job_uses m old file is h in let one = named file blocks g in let once = sound.files.once file in absurd (omega (arith, used, one, within, once)))

none_before : (m : Machine) (old : Hold) (file : ℕ) (blocks : List ℕ) → StateIsSound m.state → OpenIn m old → is_among file (written_by old) ≡ true
    → times file blocks ≤ times file (block_files m.state.blocks) → is_among file (m.state.next_file ∷ blocks) ≡ false
none_before m old file blocks sound is h within = at (m.state.next_file == file) refl
  where
    at : (t : Bool) → (m.state.next_file == file) ≡ t → (t || is_among file blocks) ≡ false
    at true e =
        let both : true ≡ false = sym (written_is_its old file h) ∙ new_file m old file sound is (sym (same_number m.state.next_file file e)) in absurd (differ both)
      where
        differ : true ≡ false → ⊥
        differ p = cc
    at false e = no_block m old file blocks sound is h within

-- what is opened as for writing: what the one writes is no file of the other
record ArePart (one other : Hold) : Type 0 where
  writes : (file : ℕ) → is_among file (written_by one) ≡ true → is_among file (files_of other) ≡ false
  written : (file : ℕ) → is_among file (written_by other) ≡ true → is_among file (files_of one) ≡ false

opens_nothing : (r r' : Reply) (hold : Hold) (G : Type 0) → r ≡ r' → opened r' ≡ [] → Contains (opened r) hold → G
opens_nothing r r' hold G e none h = not_in_nil hold G (subst (λ hs. Contains hs hold) (ap opened e ∙ none) h)

opens_this : (r r' : Reply) (own new old : Hold) → r ≡ r' → opened r' ≡ own ∷ [] → ArePart own old → Contains (opened r) new → ArePart new old
opens_this r r' own new old e one apart h =
    subst (λ x. ArePart x old) (only_one new own (subst (λ hs. Contains hs new) (ap opened e ∙ one) h)) apart

no_more : (m : Machine) (file : ℕ) → times file [] ≤ times file (block_files m.state.blocks)
no_more m file = omega arith

as_many : (m : Machine) (file : ℕ) → times file (block_files m.state.blocks) ≤ times file (block_files m.state.blocks)
as_many m file = omega arith

happens_part : (m m' : Machine) (e : Event) (r : Reply) (new old : Hold) → StateIsSound m.state → OpenIn m old → Happens m e r m' → Contains (opened r) new → ArePart new old
happens_part m m' (Push spans moment) r new old sound is d h = opens_nothing r _ new (ArePart new old) d.0 refl h
happens_part m m' (Cut moment) r new old sound is d h = opens_nothing r _ new (ArePart new old) d.2 refl h
happens_part m m' CutAll r new old sound is d h = opens_nothing r _ new (ArePart new old) d.2 refl h
happens_part m m' Held r new old sound is d h = opens_nothing r _ new (ArePart new old) d.0 refl h
happens_part m m' BeginFlush r new old sound is d h =
    opens_this r _ (OpenFlush (record { number = m.state.begun + 1; file = m.state.next_file; rows = _ })) new old d.0 refl
    (record {
      writes = λ file t. new_file m old file sound is (only_among file m.state.next_file t);
      written = λ file t. none_before m old file [] sound is t (no_more m file);
    }) h
happens_part m m' BeginCompact r new old sound is d h =
    opens_this r _ (OpenCompact (record { number = m.state.begun + 1; file = m.state.next_file; level = _; pin = d.0; files = _ })) new old d.2 refl
    (record {
      writes = λ file t. new_file m old file sound is (only_among file m.state.next_file t);
      written = λ file t. none_before m old file (block_files (choice m.state.blocks)) sound is t
          (part_within file (choice m.state.blocks) m.state.blocks (choice_part m.state.blocks));
    }) h
happens_part m m' (WritePiece job file bytes) r new old sound is d h = opens_nothing r _ new (ArePart new old) d.0 refl h
happens_part m m' (CommitFlush number size) r new old sound is d h = opens_nothing r _ new (ArePart new old) d.5 refl h
happens_part m m' (CommitCompact number size) r new old sound is d h = opens_nothing r _ new (ArePart new old) d.5 refl h
happens_part m m' (DropFlush number) r new old sound is d h = opens_nothing r _ new (ArePart new old) d.3 refl h
happens_part m m' (DropCompact number) r new old sound is d h = opens_nothing r _ new (ArePart new old) d.3 refl h
happens_part m m' Look r new old sound is d h =
    opens_this r _ (OpenLook (record { pin = d.0; files = _; as_of = _; rows = _ })) new old d.4 refl
    (record {
      writes = λ file t. none_among file _ t;
      written = λ file t. no_block m old file (block_files m.state.blocks) sound is t (as_many m file);
    }) h
happens_part m m' (ReadPage pin block page) r new old sound is d h = opens_nothing r _ new (ArePart new old) d.1 refl h
happens_part m m' (Done pin) r new old sound is d h = opens_nothing r _ new (ArePart new old) d.1 refl h
happens_part m m' Reclaim r new old sound is d h = opens_nothing r _ new (ArePart new old) d.0 refl h

opens_strangers : (before faults : ℕ) (m m' : Machine) (e : Event) (r : Reply) (new old : Hold) → StateIsSound m.state →
    Step before faults m e r m' → Contains (opened r) new → OpenIn m old → AreStrangers new old
opens_strangers before faults m m' e r new old sound step h is =
    let part = split before faults m m' e r (ArePart new old) step (λ plain _. plain_opens r new (ArePart new old) plain h)
    (λ d. happens_part m m' e r new old sound is d h) in
    let apart = opens_apart before faults m m' e r new old sound step h is in
    record { pins = apart.pins; jobs = apart.jobs; writes = part.writes; written = part.written }

-- ---- a core

-- what is open in a machine after a step
open_after : (before faults : ℕ) (m m' : Machine) (event : Event) (reply : Reply) (held : List Hold) → Agrees m → StateIsSound m.state → ((hold : Hold) → Contains held hold → OpenIn m hold)
    → Step before faults m event reply m' → (hold : Hold) → Contains (holds_after event reply held) hold → OpenIn m' hold
open_after before faults m m' event reply held agrees is_sound open_holds step hold h =
    elim (Contains-append_cases (filter (λ x. not (ends event reply x)) held) (opened reply) hold h) as (λ _. OpenIn m' hold) [
      | inl l ↦ let there = was_there (λ x. not (ends event reply x)) held hold l in
          holds.step_keeps before faults m m' event reply hold (open_holds hold there.0) (unended (ends event reply hold) there.1) step
      | inr r ↦ step_opens before faults m m' event reply hold agrees is_sound step r
    ]

knows_after : {P : Type 0} (core : CoreMeaning P) (old new : P) (event : Event) (reply : Reply) (v : View) (known : CoreKnows core old v) (m' : Machine) → core.stands_for new m' →
    Step (core.faults old) (core.faults new) known.machine event reply m' →
    CoreKnows core new (record { history = history_after event reply v.history; holds = holds_after event reply v.holds })
knows_after core old new event reply v known m' stands step = record {
  machine = m';
  stands = stands;
  agrees = firsts.step_keeps (core.faults old) (core.faults new) known.machine m' event reply known.agrees step;
  sound = sounds.step_keeps (core.faults old) (core.faults new) known.machine m' event reply known.sound step;
  history = (step_tells (core.faults old) (core.faults new) known.machine m' event reply step).0 ∙ ap (history_after event reply) known.history;
  open_holds = open_after (core.faults old) (core.faults new) known.machine m' event reply v.holds known.agrees known.sound known.open_holds step;
}

-- a write of a piece that failed is the last
piece_breaks : (before faults number file : ℕ) (bytes : List ℕ) (m m' : Machine) → Step before faults m (WritePiece number file bytes) (Refused Fault) m' → m'.read_only ≡ None → ⊥
piece_breaks before faults number file bytes m m' (Sure told same) open_still = early_fault m.read_only told
  where
    early_fault : (o : Option ℕ) → if_read_only o None ≡ Some (Refused Fault) → ⊥
    early_fault (Some n) e = cc
    early_fault None e = cc
piece_breaks before faults number file bytes m m' (Succeeds none done) open_still = let bad : Refused Fault ≡ Fine = done.0 in cc
piece_breaks before faults number file bytes m m' (Lacks none takes reply same) open_still = cc
piece_breaks before faults number file bytes m m' (Unread reads reply rose same) open_still = cc
piece_breaks before faults number file bytes m m' (Breaks none writes reply rose same) open_still =
    let bad : Some faults ≡ None = sym (ap (λ (n : Machine). n.read_only) same) ∙ open_still in cc
piece_breaks before faults number file bytes m m' (Halts none reclaims writes reply rose emptied fewer same) open_still = cc

-- Each of its calls is a step of the one machine that it stands for, and while it writes no write of that machine failed.
pub cores_are_unshared : {P : Type 0} (core : CoreMeaning P) (D : P → Event → Reply → P → Type 0)
    → ((old new : P) (event : Event) (reply : Reply) → D old event reply new → CoreDid core old event reply new × CoreShown core old event reply new)
    → ((port : P) (m : Machine) → core.in_memory port m → core.writes port → m.read_only ≡ None)
    → IsUnshared (record (meaning_of core) { did = D })
cores_are_unshared core D steps writes = record {
  history = λ old new event reply called v known.
      let after = (steps old new event reply called.did).0 known.machine known.stands in (
        record { history = history_after event reply v.history; holds = holds_after event reply v.holds },
        knows_after core old new event reply v known after.0 after.1 after.2,
        refl,
        refl,
        subst (TellsLength event reply) known.history (step_tells (core.faults old) (core.faults new) known.machine after.0 event reply after.2).1,
      );
  apart = λ old new event reply called held is one other a b.
      let after = (steps old new event reply called.did).1 is.machine is.shown in
      opens_strangers (core.faults old) (core.faults new) is.machine after.0 event reply one other is.sound after.2 a (is.open_holds other b);
  broken = λ old new number file bytes called held is still.
      let after = (steps old new (WritePiece number file bytes) (Refused Fault) called.did).1 is.machine is.shown in
      piece_breaks (core.faults old) (core.faults new) number file bytes is.machine after.0 after.2 (writes new after.0 after.1 still);
}

-- the core over a disk
pub core_is_unshared : {D : Type 0} (g : Ghosts D) → IsUnshared (port_of g)
core_is_unshared g = cores_are_unshared (shown_by g) (Did g)
    (λ old new event reply did. ((λ m stands. let s = did.stepped m stands in (s.machine, s.stands, s.step)), did.shown))
    (λ port m shown writes. shown.state.has.read_only ∙ writes)

-- its calls are legal
legal_by : {D : Type 0} (g : Ghosts D) (is_with : Core D → Machine → Type 0)
    → ((old new : Core D) (e : Event) (r : Reply) → Did g old e r new → (m : Machine) → is_with old m → (m' : Machine) × is_with new m' × Step (g.faults old.disk) (g.faults new.disk) m e r m')
    → (old new : Core D) (es : List Entry) → AreEntries (port_of g) old es new → (m : Machine) → is_with old m
    → (m' : Machine) × is_with new m' × Legal (g.faults old.disk) m es (g.faults new.disk) m'
legal_by {D} g is_with steps old new [] made m is =
    (m, subst (λ (c : Core D). is_with c m) (sym made) is, (ap (λ (c : Core D). g.faults c.disk) made, refl))
legal_by g is_with steps old new (e ∷ es) made m is =
    let s = steps old made.0 e.event e.reply made.1.did m is in
    let rest = legal_by g is_with steps made.0 new es made.4 s.0 s.1 in (
      rest.0,
      rest.1,
      (
        s.0,
        made.2,
        omega (arith, made.1.later, made.3),
        subst (λ (n : ℕ). Step (g.faults old.disk) n m e.event e.reply s.0) (sym made.3) s.2,
        subst (λ (n : ℕ). Legal n s.0 es (g.faults new.disk) rest.0) (sym made.3) rest.2,
      ),
    )

pub entries_are_legal : {D : Type 0} (g : Ghosts D) (old new : Core D) (es : List Entry) → AreEntries (port_of g) old es new → (m : Machine) → CoreStandsFor g old m
    → (m' : Machine) × CoreStandsFor g new m' × Legal (g.faults old.disk) m es (g.faults new.disk) m'
entries_are_legal g = legal_by g (CoreStandsFor g) (λ old new e r did m stands. let s = did.stepped m stands in (s.machine, s.stands, s.step))

pub shown_are_legal : {D : Type 0} (g : Ghosts D) (old new : Core D) (es : List Entry) → AreEntries (port_of g) old es new → (m : Machine) → CoreShows g old m
    → (m' : Machine) × CoreShows g new m' × Legal (g.faults old.disk) m es (g.faults new.disk) m'
shown_are_legal g = legal_by g (CoreShows g) (λ old new e r did m shows. did.shown m shows)

-- ---- seats over a core

pub are_calls : {D : Type 0} (g : Ghosts D) (key core : Core D) (es : List Entry) → AreEntries (port_of g) key es core → AreCallsOf g key es core
are_calls g key core es made = record {
  stands = λ m is.
      let l = entries_are_legal g key core es made m is in
      (l.0, l.1, legal_history (g.faults key.disk) (g.faults core.disk) m l.0 es l.2, l.2);
  shown = λ m is.
      let l = shown_are_legal g key core es made m is in
      (l.0, l.1, legal_history (g.faults key.disk) (g.faults core.disk) m l.0 es l.2, l.2);
  counts = counts_chain (port_of g) key core es made;
}

pub has_called : {D : Type 0} (g : Ghosts D) (v w : Stand (Core D)) (event : Event) (reply : Reply) → Called (seat_meaning (port_of g)) v event reply w
    → (key : Core D) → v.known.start ≡ Some key → HasCalled g key v.known event reply w.known
has_called {D} g v w event reply called key start =
    let did = called.did in
    let same : did.key ≡ key = same_Some did.key key (sym did.start ∙ start) in record {
      core = did.core;
      legal = are_calls g key did.core w.known.seen.entries (subst (λ (c : Core D). AreEntries (port_of g) c w.known.seen.entries did.core) same did.made);
      between = did.between;
      entry = did.entry;
      begins = did.seen;
      its_event = did.its_event;
      its_reply = did.its_reply;
      mine = did.mine;
    }

pub is_taken_back : {D : Type 0} (g : Ghosts D) (key core : Core D) (v : Known (Core D)) → IsFound (port_of g) key v core → IsTakenBack g key v core
is_taken_back g key core v found = record {
  entries = found.entries;
  legal = are_calls g key core found.entries found.made;
  later = found.later;
  begins = found.begins;
  others = found.others;
  whole = λ all.
      let none = found.whole all in
      let same : v.seen.entries ≡ found.entries = sym (found.begins ∙ ap (λ (es : List Entry). v.seen.entries ++ es) none.0 ∙ append-nil v.seen.entries) in
      (same, ap (own v.seen.names) same ∙ none.1);
}
