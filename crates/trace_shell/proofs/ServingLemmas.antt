-- What serving clients comes to over a core that was opened, and what its words ask.
use Rattle.std.proofs.Common.{◌≡◌, ◌⊎◌, inl, inr, ◌∙◌, true, false, ℕ, ◌+◌, ◌*◌, ◌^◌, ◌≤◌, List, [], ◌∷◌, ◌++◌, Option, Some, Result, Ok, ap, append-nil, arith, length, length-append, refl, subst, sym}
use Rattle.std.specs.Prelude.{IfOk}
use Rattle.client_scripts.specs.Served.{HasServed}
use Rattle.client_scripts.specs.declared.script.Answered.{Answered}
use Rattle.command_words.specs.Commands.{Alone, Command, Drill, Ingest, Serve, Session, Spells, command_of, serve}
use Rattle.command_words.specs.declared.asked.Asked.{Asked}
use Rattle.command_words.specs.declared.asked.Asked.TheVariants as asks
use Rattle.command_words.specs.Spelling.{begins_to_serve}
use Rattle.command_words.proofs.Spelled.{begins_serves, serve_begins}
use Rattle.disk_model.specs.declared.disk.Device.{Ghosts}
use Rattle.io_edges.specs.Lines.{lines}
use Rattle.port_history.specs.Entries.{Entry}
use Rattle.session_text.specs.Items.{Item}
use Rattle.store_core.specs.Port.{port_of}
use Rattle.store_core.specs.declared.store.Core.{Core}
use Rattle.store_state.specs.Meaning.{Meaning}
use Rattle.session_meaning.specs.declared.ending.Ending.{Ending}
use Rattle.session_meaning.specs.declared.ending.Ending.TheVariants.{Answered as answered, BadWords, NotOpened, NotStore, ReadFault, Refused, Spent, Starved, WriteFault}
use Rattle.session_meaning.specs.Asked.{after_lines}
use Rattle.session_meaning.specs.Runs.{IsForOne, NeedsNoSource, TakesNothing}
use Rattle.session_meaning.specs.ServedRuns.{AsksAll, AsksNone, EndsServing, EndsUnasked}
use Rattle.session_meaning.specs.Serving.{AreCuts, after_moments, compactions}
use Rattle.trace_shell.specs.Dealing.{HasDealt, HasStopped, IsEarly}
use Rattle.trace_shell.specs.Serving.{CameServing}
use Rattle.trace_shell.proofs.RunLemmas.{if_some}
use Rattle.trace_shell.proofs.WritingLemmas.{unasked_ends}

-- ---- words

differ : false ≡ true → ⊥
differ e = cc

-- Words that don't begin with `serve` ask for one client.
pub for_one : (words : List (List ℕ)) (c : Command) → Spells words c → begins_to_serve words ≡ false → IsForOne c
for_one words Session asks begins = tt
for_one words (Serve clients rounds) asks begins = absurd (differ (sym begins ∙ serve_begins words clients rounds asks))
for_one words Ingest asks begins = tt
for_one words (Drill seed traces) asks begins = tt
for_one words (Alone line) asks begins = tt

-- Those that do ask for nothing that reads nothing.
pub serving_reads : (words : List (List ℕ)) (c : Command) → Spells words c → begins_to_serve words ≡ true → TakesNothing c → ⊥
serving_reads words c asks begins takes = let is = begins_serves words c begins asks in subst TakesNothing is.2 takes

pub few_clients : (words : List (List ℕ)) (clients rounds : ℕ) → Spells words (Serve clients rounds) → (1 ≤ clients) × (clients ≤ 16)
few_clients words clients rounds (serve c r told is count clean few many most) = (few, many)

-- What asks for that was read so.
pub is_to_serve : (asked : Asked) → ((clients rounds : ℕ) × (command_of asked ≡ Serve clients rounds)) → (clients rounds : ℕ) × (asked ≡ asks.Serve clients rounds)
is_to_serve asks.Session (clients, rounds, is) = let bad : ⊥ = cc in absurd bad
is_to_serve (asks.Serve clients rounds) serves = (clients, rounds, refl)
is_to_serve asks.Ingest (clients, rounds, is) = let bad : ⊥ = cc in absurd bad
is_to_serve (asks.Drill seed traces) (clients, rounds, is) = let bad : ⊥ = cc in absurd bad
is_to_serve (asks.Alone line) (clients, rounds, is) = let bad : ⊥ = cc in absurd bad

-- ---- where nothing was asked

-- no call was made of a store
pub none_served : {P : Type 0} (meaning : Meaning P) (old new : P) → new ≡ old → HasServed meaning old [] [] [] new
none_served meaning old new same = record {
  made = same;
  whose = λ e c. absurd (omega (arith, c.1));
  served = refl;
  told = λ tells v knows. tt;
  whole = λ tells. tt;
}

-- A run that stopped in reading.
pub ends_early : (e : Ending) (old : Option (List ℕ)) → IsEarly e → EndsServing e [] old old
ends_early e old (inl is) = subst (λ (x : Ending). EndsServing x [] old old) (sym is) refl
ends_early e old (inr (inl is)) = subst (λ (x : Ending). EndsServing x [] old old) (sym is) refl
ends_early e old (inr (inr is)) = subst (λ (x : Ending). EndsServing x [] old old) (sym is) (unasked_ends old)

module _ (clients rounds : ℕ) (told : Option (List ℕ)) (text : List ℕ) where
  pub asks_stopped : (left to_tell : Option (List ℕ)) (e : Ending) (blamed : List (List ℕ)) → IsEarly e → HasStopped clients told text left to_tell e blamed
      → AsksNone clients rounds text left e [] blamed told to_tell
  asks_stopped left to_tell e blamed early h = record {
    read = h.read;
    later = h.later;
    lines_are = h.lines_are;
    dealt = h.dealt;
    are_dealt = h.are_dealt;
    no_scripts = refl;
    ends = ends e early h;
  }
    where
      ends : (e : Ending) → IsEarly e → (h : HasStopped clients told text left to_tell e blamed) → EndsUnasked e rounds text h.later left (after_lines h.read told) to_tell
      ends ReadFault early h = (h.read_to, h.clock)
      ends Spent early h = (h.read_to.0, h.read_to.1, h.clock)
      ends Starved early h = inl h.clock
      ends answered (inl is) h = let bad : ⊥ = cc in absurd bad
      ends answered (inr (inl is)) h = let bad : ⊥ = cc in absurd bad
      ends answered (inr (inr is)) h = let bad : ⊥ = cc in absurd bad
      ends BadWords (inl is) h = let bad : ⊥ = cc in absurd bad
      ends BadWords (inr (inl is)) h = let bad : ⊥ = cc in absurd bad
      ends BadWords (inr (inr is)) h = let bad : ⊥ = cc in absurd bad
      ends WriteFault (inl is) h = let bad : ⊥ = cc in absurd bad
      ends WriteFault (inr (inl is)) h = let bad : ⊥ = cc in absurd bad
      ends WriteFault (inr (inr is)) h = let bad : ⊥ = cc in absurd bad
      ends NotOpened (inl is) h = let bad : ⊥ = cc in absurd bad
      ends NotOpened (inr (inl is)) h = let bad : ⊥ = cc in absurd bad
      ends NotOpened (inr (inr is)) h = let bad : ⊥ = cc in absurd bad
      ends (NotStore file at) (inl is) h = let bad : ⊥ = cc in absurd bad
      ends (NotStore file at) (inr (inl is)) h = let bad : ⊥ = cc in absurd bad
      ends (NotStore file at) (inr (inr is)) h = let bad : ⊥ = cc in absurd bad
      ends Refused (inl is) h = let bad : ⊥ = cc in absurd bad
      ends Refused (inr (inl is)) h = let bad : ⊥ = cc in absurd bad
      ends Refused (inr (inr is)) h = let bad : ⊥ = cc in absurd bad

  module _ (left between to_tell : Option (List ℕ)) (scripts : List (List Item)) (blamed : List (List ℕ)) (h : HasDealt clients told text between scripts blamed) where
    -- All was read, and memory ran out then.
    pub asks_starved : (to_tell ≡ between) ⊎ (to_tell ≡ after_moments (4 * rounds) between) → AsksNone clients rounds text left Starved [] blamed told to_tell
    asks_starved clock = record {
      read = lines text;
      later = [];
      lines_are = sym (append-nil (lines text));
      dealt = h.dealt;
      are_dealt = h.are_dealt;
      no_scripts = refl;
      ends = at clock;
    }
      where
        at : (to_tell ≡ between) ⊎ (to_tell ≡ after_moments (4 * rounds) between) → EndsUnasked Starved rounds text [] left (after_lines (lines text) told) to_tell
        at (inl same) = inl (same ∙ h.clock)
        at (inr later) = inr (refl, h.short, later ∙ ap (after_moments (4 * rounds)) h.clock)

    -- All was asked.
    pub asks_all : (e : Ending) (all : List (List Item)) (cuts : List Item) → AreCuts rounds between cuts → all ≡ scripts ++ cuts ∷ compactions rounds ∷ []
        → to_tell ≡ after_moments (4 * rounds) between → NeedsNoSource e → AsksAll clients rounds text e all blamed told to_tell
    asks_all e all cuts are_cuts is later ends = record {
      ends = ends;
      short = h.short;
      asked = record {
        dealt = h.dealt;
        are_dealt = h.are_dealt;
        cuts = cuts;
        are_cuts = subst (λ (o : Option (List ℕ)). AreCuts rounds o cuts) h.clock are_cuts;
        scripts_are = is ∙ ap (λ (ss : List (List Item)). ss ++ cuts ∷ compactions rounds ∷ []) h.scripts_are;
        clock = later ∙ ap (after_moments (4 * rounds)) h.clock;
      };
    }

-- The source has no part in an ending that is neither of its two.
pub needs_no_source : (e : Ending) → (e ≡ ReadFault → ⊥) × (e ≡ Spent → ⊥) → NeedsNoSource e
needs_no_source answered h = tt
needs_no_source Refused h = tt
needs_no_source Starved h = tt
needs_no_source WriteFault h = tt
needs_no_source BadWords h = tt
needs_no_source NotOpened h = tt
needs_no_source (NotStore file at) h = tt
needs_no_source ReadFault h = absurd (h.0 refl)
needs_no_source Spent h = absurd (h.1 refl)

-- ---- what it comes to

-- Nothing was asked.
pub came_unasked : {D : Type 0} (g : Ghosts D) (clients rounds : ℕ) (core later : Core D) (old_left left old_taken taken told to_tell : Option (List ℕ)) (e : Ending) (blamed : List (List ℕ)) → later ≡ core
    → EndsServing e [] old_taken taken → ((text : List ℕ) → old_left ≡ Some text → AsksNone clients rounds text left e [] blamed told to_tell)
    → CameServing g clients rounds core later old_left left old_taken taken told to_tell e blamed
came_unasked g clients rounds core later old_left left old_taken taken told to_tell e blamed same ends asks = record {
  scripts = [];
  answers = [];
  entries = [];
  served = none_served (port_of g) core later same;
  asked = if_some old_left (λ text. AsksAll clients rounds text e [] blamed told to_tell ⊎ AsksNone clients rounds text left e [] blamed told to_tell) (λ text is. inr (asks text is));
  unasked = inr (refl, refl, refl);
  ends = ends;
}

module _ {D : Type 0} (g : Ghosts D) (clients rounds : ℕ) (core : Core D) (old_left left old_taken told : Option (List ℕ)) where
  -- The lines weren't read to their end.
  pub came_stopped : (to_tell : Option (List ℕ)) (e : Ending) (blamed : List (List ℕ)) → IsEarly e
      → ((text : List ℕ) → old_left ≡ Some text → HasStopped clients told text left to_tell e blamed)
      → CameServing g clients rounds core core old_left left old_taken old_taken told to_tell e blamed
  came_stopped to_tell e blamed early stopped =
      came_unasked g clients rounds core core old_left left old_taken old_taken told to_tell e blamed refl (ends_early e old_taken early)
      (λ text is. asks_stopped clients rounds told text left to_tell e blamed early (stopped text is))

  module _ (between to_tell : Option (List ℕ)) (scripts : List (List Item)) (blamed : List (List ℕ))
      (dealt : (text : List ℕ) → old_left ≡ Some text → HasDealt clients told text between scripts blamed) where
    -- They were, and memory ran out then.
    pub came_starved : (later : Core D) → later ≡ core → (to_tell ≡ between) ⊎ (to_tell ≡ after_moments (4 * rounds) between)
        → CameServing g clients rounds core later old_left left old_taken old_taken told to_tell Starved blamed
    came_starved later same clock =
        came_unasked g clients rounds core later old_left left old_taken old_taken told to_tell Starved blamed same (unasked_ends old_taken)
        (λ text is. asks_starved clients rounds told text left between to_tell scripts blamed (dealt text is) clock)

    -- All was asked.
    pub came_asked : (later : Core D) (taken : Option (List ℕ)) (e : Ending) (all : List (List Item)) (cuts : List Item) (answers : List Answered) (entries : List Entry)
        → AreCuts rounds between cuts → all ≡ scripts ++ cuts ∷ compactions rounds ∷ [] → to_tell ≡ after_moments (4 * rounds) between
        → HasServed (port_of g) core entries all answers later → EndsServing e answers old_taken taken → NeedsNoSource e
        → CameServing g clients rounds core later old_left left old_taken taken told to_tell e blamed
    came_asked later taken e all cuts answers entries are_cuts is clock did ends no_source = record {
      scripts = all;
      answers = answers;
      entries = entries;
      served = did;
      asked = if_some old_left (λ text. AsksAll clients rounds text e all blamed told to_tell ⊎ AsksNone clients rounds text left e all blamed told to_tell)
          (λ text source. inl (asks_all clients rounds told text left between to_tell scripts blamed (dealt text source) e all cuts are_cuts is clock no_source));
      unasked = inl no_source;
      ends = ends;
    }

-- what holds of what was handed over
pub of_ok : {A E : Type 0} (r : Result A E) (P : A → Type 0) (a : A) → r ≡ Ok a → IfOk r P → P a
of_ok {A} {E} r P a is held = subst (λ (x : Result A E). IfOk x P) is held

-- Two scripts more are few.
pub few_scripts : (scripts all : List (List Item)) (cuts joins : List Item) → all ≡ scripts ++ cuts ∷ joins ∷ [] → length scripts ≤ 16 → length all ≤ 2 ^ 31
few_scripts scripts all cuts joins is few =
    let two : length all ≡ length scripts + 2 = ap (λ (ss : List (List Item)). length ss) is ∙ length-append scripts (cuts ∷ joins ∷ []) in
    omega (arith, two, few)
