-- What a step tells of the history, and what its reply opens.
use Rattle.std.proofs.Common.{◌≡◌, ℕ, ◌+◌, ◌-◌, ◌==◌, zero, suc, List, [], ◌∷◌, ◌++◌, Option, None, Some, Bool, true, false, refl, sym, ◌∙◌, ap, subst, arith, length, take, nat_le, nat_lt}
use Rattle.std.specs.List.{Contains}
use Rattle.span_types.specs.declared.spans.Row.{Row}
use Rattle.span_types.specs.First.{first_at}
use Rattle.std.specs.Prelude.{◌||◌}
use Rattle.span_types.specs.declared.ids.Key.{Key}
use Rattle.store_model.specs.History.{History, first_in, up_to, count_of}
use Rattle.store_model.specs.State.{State, Flush, Compaction, Pinned, block_rows, block_files, held_of, is_among, pin_numbers, compaction_pins, pinned_blocks, IsFreeNumber}
use Rattle.store_model.specs.Choice.{choice, level_of, most_rows}
use Rattle.store_model.specs.After.{after_look, taken, chosen_job}
use Rattle.store_model.specs.Event.{Event, Reply, Refusal}
use Rattle.store_model.specs.Event.Event.{Push, Cut, CutAll, Held, BeginFlush, BeginCompact, WritePiece, CommitFlush, CommitCompact, DropFlush, DropCompact, Look, ReadPage, Done, Reclaim}
use Rattle.store_model.specs.Event.Reply.{Nothing, Refused}
use Rattle.store_model.specs.Event.Refusal.{Fault, Memory}
use Rattle.store_model.specs.Step.{Machine, Step, Happens, early, with_state, if_read_only, if_test, if_flushing, if_compacting, if_full, if_idle}
use Rattle.store_model.specs.Step.Step.{Sure, Succeeds, Lacks, Unread, Breaks, Halts}
use Rattle.store_model.specs.Holds.{Hold, opened, OpenIn}
use Rattle.store_model.specs.Holds.Hold.{OpenLook, OpenFlush, OpenCompact}
use Rattle.store_model.specs.Told.{history_after, TellsLength}
use Rattle.store_model.specs.Laws.{Agrees}
use Rattle.store_model.specs.Sound.{StateIsSound}
use Rattle.store_model.proofs.KeepsFirsts.{look_is}
use Rattle.store_model.proofs.Numbers.{same_number}
use Rattle.store_model.proofs.Pins.{open-added, blocks-added}

-- a reply that opens nothing and tells of no push
pub data IsPlain : Reply → Type 0 where
  ARefusal : (why : Refusal) → IsPlain (Refused why)
  NoWork : IsPlain Nothing

plain_is : (a r : Reply) → Some a ≡ Some r → IsPlain a → IsPlain r
plain_is a r e h = let s : a ≡ r = cc in subst IsPlain s h

none_is : (r : Reply) → None ≡ Some r → IsPlain r
none_is r e = cc

ro_plain : (o : Option ℕ) (later : Option Reply) (r : Reply) → (later ≡ Some r → IsPlain r) → if_read_only o later ≡ Some r → IsPlain r
ro_plain None later r h e = h e
ro_plain (Some n) later r h e = plain_is _ r e (ARefusal _)

test_plain : (t : Bool) (a : Reply) (later : Option Reply) (r : Reply) → IsPlain a → (later ≡ Some r → IsPlain r) → if_test t a later ≡ Some r → IsPlain r
test_plain true a later r p h e = plain_is a r e p
test_plain false a later r p h e = h e

flushing_plain : (o : Option Flush) (later : Option Reply) (r : Reply) → (later ≡ Some r → IsPlain r) → if_flushing o later ≡ Some r → IsPlain r
flushing_plain None later r h e = h e
flushing_plain (Some job) later r h e = plain_is _ r e (ARefusal _)

compacting_plain : (o : Option Compaction) (later : Option Reply) (r : Reply) → (later ≡ Some r → IsPlain r) → if_compacting o later ≡ Some r → IsPlain r
compacting_plain None later r h e = h e
compacting_plain (Some job) later r h e = plain_is _ r e (ARefusal _)

full_plain : (count held more : ℕ) (r : Reply) → if_full count held more ≡ Some r → IsPlain r
full_plain count held more r e =
    test_plain (nat_le 4294967295 count) _ _ r (ARefusal _) (λ e. test_plain (nat_lt 262144 (held + more)) _ _ r (ARefusal _) (none_is r) e) e

idle_plain : (work next : ℕ) (r : Reply) → if_idle work next ≡ Some r → IsPlain r
idle_plain work next r e = test_plain (work == 0) _ _ r NoWork (λ e. test_plain (nat_le 4294967294 next) _ _ r (ARefusal _) (none_is r) e) e

early_plain : (m : Machine) (e : Event) (r : Reply) → early m e ≡ Some r → IsPlain r
early_plain m (Push spans moment) r h = ro_plain m.read_only _ r (full_plain (count_of m.history) (held_of m.state) (length spans) r) h
early_plain m BeginFlush r h = ro_plain m.read_only _ r (λ h. flushing_plain m.state.flush _ r (idle_plain (length m.state.head) m.state.next_file r) h) h
early_plain m BeginCompact r h = ro_plain m.read_only _ r (λ h. compacting_plain m.state.compaction _ r (idle_plain (length (choice m.state.blocks)) m.state.next_file r) h) h
early_plain m (WritePiece job file bytes) r h = ro_plain m.read_only None r (none_is r) h
early_plain m (CommitFlush job size) r h = ro_plain m.read_only None r (none_is r) h
early_plain m (CommitCompact job size) r h = ro_plain m.read_only None r (none_is r) h
early_plain m Reclaim r h = ro_plain m.read_only None r (none_is r) h
early_plain m (Cut moment) r h = none_is r h
early_plain m CutAll r h = none_is r h
early_plain m Held r h = none_is r h
early_plain m (DropFlush number) r h = none_is r h
early_plain m (DropCompact number) r h = none_is r h
early_plain m Look r h = none_is r h
early_plain m (ReadPage pin block page) r h = none_is r h
early_plain m (Done pin) r h = none_is r h

-- Either the reply is plain and the history is the same, or it is what happens.
pub split : (before faults : ℕ) (m m' : Machine) (e : Event) (r : Reply) (G : Type 0) → Step before faults m e r m' →
    (IsPlain r → m'.history ≡ m.history → G) → (Happens m e r m' → G) → G
split before faults m m' e r G (Sure told same) plain ok = plain (early_plain m e r told) (ap (λ (n : Machine). n.history) same)
split before faults m m' e r G (Succeeds none done) plain ok = ok done
split before faults m m' e r G (Lacks none takes reply same) plain ok = plain (subst IsPlain (sym reply) (ARefusal Memory)) (ap (λ (n : Machine). n.history) same)
split before faults m m' e r G (Unread reads reply rose same) plain ok = plain (subst IsPlain (sym reply) (ARefusal Fault)) (ap (λ (n : Machine). n.history) same)
split before faults m m' e r G (Breaks none writes reply rose same) plain ok = plain (subst IsPlain (sym reply) (ARefusal Fault)) (ap (λ (n : Machine). n.history) same)
split before faults m m' e r G (Halts none reclaims writes reply rose emptied fewer same) plain ok = plain (subst IsPlain (sym reply) (ARefusal Fault)) (ap (λ (n : Machine). n.history) same)

-- ---- the history

abbrev Tells : Machine → Event → Reply → Machine → Type 0
Tells m e r m' = (m'.history ≡ history_after e r m.history) × TellsLength e r m.history

plain_tells : (m m' : Machine) (e : Event) (r : Reply) → IsPlain r → m'.history ≡ m.history → Tells m e r m'
plain_tells m m' (Push spans moment) r (ARefusal why) h = (h, tt)
plain_tells m m' (Push spans moment) r NoWork h = (h, tt)
plain_tells m m' (Cut moment) r (ARefusal why) h = (h, tt)
plain_tells m m' (Cut moment) r NoWork h = (h, tt)
plain_tells m m' CutAll r (ARefusal why) h = (h, tt)
plain_tells m m' CutAll r NoWork h = (h, tt)
plain_tells m m' Held r (ARefusal why) h = (h, tt)
plain_tells m m' Held r NoWork h = (h, tt)
plain_tells m m' BeginFlush r (ARefusal why) h = (h, tt)
plain_tells m m' BeginFlush r NoWork h = (h, tt)
plain_tells m m' BeginCompact r (ARefusal why) h = (h, tt)
plain_tells m m' BeginCompact r NoWork h = (h, tt)
plain_tells m m' (WritePiece job file bytes) r (ARefusal why) h = (h, tt)
plain_tells m m' (WritePiece job file bytes) r NoWork h = (h, tt)
plain_tells m m' (CommitFlush job size) r (ARefusal why) h = (h, tt)
plain_tells m m' (CommitFlush job size) r NoWork h = (h, tt)
plain_tells m m' (CommitCompact job size) r (ARefusal why) h = (h, tt)
plain_tells m m' (CommitCompact job size) r NoWork h = (h, tt)
plain_tells m m' (DropFlush job) r (ARefusal why) h = (h, tt)
plain_tells m m' (DropFlush job) r NoWork h = (h, tt)
plain_tells m m' (DropCompact job) r (ARefusal why) h = (h, tt)
plain_tells m m' (DropCompact job) r NoWork h = (h, tt)
plain_tells m m' Look r (ARefusal why) h = (h, tt)
plain_tells m m' Look r NoWork h = (h, tt)
plain_tells m m' (ReadPage pin block page) r (ARefusal why) h = (h, tt)
plain_tells m m' (ReadPage pin block page) r NoWork h = (h, tt)
plain_tells m m' (Done pin) r (ARefusal why) h = (h, tt)
plain_tells m m' (Done pin) r NoWork h = (h, tt)
plain_tells m m' Reclaim r (ARefusal why) h = (h, tt)
plain_tells m m' Reclaim r NoWork h = (h, tt)

-- with the reply and the history that happen
tells_by : (m m' : Machine) (e : Event) (r r' : Reply) (n : Machine) → r ≡ r' → m' ≡ n → Tells m e r' n → Tells m e r m'
tells_by m m' e r r' n er en is = subst (λ q. Tells m e q m') (sym er) (subst (λ q. Tells m e r' q) (sym en) is)

happens_tells : (m m' : Machine) (e : Event) (r : Reply) → Happens m e r m' → Tells m e r m'
happens_tells m m' (Push spans moment) r d = tells_by m m' (Push spans moment) r _ _ d.0 d.1 (refl, refl)
happens_tells m m' (Cut moment) r d = tells_by m m' (Cut moment) r _ _ d.2 d.3 (refl, tt)
happens_tells m m' CutAll r d = tells_by m m' CutAll r _ _ d.2 d.3 (refl, tt)
happens_tells m m' Held r d = tells_by m m' Held r _ _ d.0 d.1 (refl, tt)
happens_tells m m' BeginFlush r d = tells_by m m' BeginFlush r _ _ d.0 d.1 (refl, tt)
happens_tells m m' BeginCompact r d = tells_by m m' BeginCompact r _ _ d.2 d.3 (refl, tt)
happens_tells m m' (WritePiece job file bytes) r d = tells_by m m' (WritePiece job file bytes) r _ _ d.0 d.1 (refl, tt)
happens_tells m m' (CommitFlush job size) r d = tells_by m m' (CommitFlush job size) r _ _ d.5 d.6 (refl, tt)
happens_tells m m' (CommitCompact job size) r d = tells_by m m' (CommitCompact job size) r _ _ d.5 d.6 (refl, tt)
happens_tells m m' (DropFlush job) r d = tells_by m m' (DropFlush job) r _ _ d.3 d.4 (refl, tt)
happens_tells m m' (DropCompact job) r d = tells_by m m' (DropCompact job) r _ _ d.3 d.4 (refl, tt)
happens_tells m m' Look r d = tells_by m m' Look r _ _ d.4 d.5 (refl, refl)
happens_tells m m' (ReadPage pin block page) r d = tells_by m m' (ReadPage pin block page) r _ _ d.1 d.2 (refl, tt)
happens_tells m m' (Done pin) r d = tells_by m m' (Done pin) r _ _ d.1 d.2 (refl, tt)
happens_tells m m' Reclaim r d = tells_by m m' Reclaim r _ _ d.0 d.1 (refl, tt)

pub step_tells : (before faults : ℕ) (m m' : Machine) (e : Event) (r : Reply) → Step before faults m e r m' →
    (m'.history ≡ history_after e r m.history) × TellsLength e r m.history
step_tells before faults m m' e r step =
    split before faults m m' e r (Tells m e r m') step (plain_tells m m' e r) (happens_tells m m' e r)

-- ---- what is opened

pub not_in_nil : (x : Hold) (G : Type 0) → Contains [] x → G
not_in_nil x G h = absurd (omega (arith, h.1))

pub only_one : (x y : Hold) → Contains (y ∷ []) x → y ≡ x
only_one x y (zero, l, e) = e
only_one x y (suc k, l, e) = absurd (omega (arith, l))

pub plain_opens : (r : Reply) (hold : Hold) (G : Type 0) → IsPlain r → Contains (opened r) hold → G
plain_opens r hold G (ARefusal why) h = not_in_nil hold G h
plain_opens r hold G NoWork h = not_in_nil hold G h

opens_nothing : (r r' : Reply) (hold : Hold) (G : Type 0) → r ≡ r' → opened r' ≡ [] → Contains (opened r) hold → G
opens_nothing r r' hold G e none h = not_in_nil hold G (subst (λ hs. Contains hs hold) (ap opened e ∙ none) h)

opens_one : (m' n : Machine) (r r' : Reply) (hold own : Hold) → r ≡ r' → m' ≡ n → opened r' ≡ own ∷ [] → OpenIn n own → Contains (opened r) hold → OpenIn m' hold
opens_one m' n r r' hold own er en one is h =
    subst (λ q. OpenIn q hold) (sym en) (subst (OpenIn n) (only_one hold own (subst (λ hs. Contains hs hold) (ap opened er ∙ one) h)) is)

-- a free number isn't that of the open compaction's pin
free_apart : (pin : ℕ) (u : State) (o : Option Compaction) → u.compaction ≡ o → StateIsSound u → IsFreeNumber pin u.pins → is_among pin (compaction_pins o) ≡ false
free_apart pin u None e is free = refl
free_apart pin u (Some job) e is free = elim (job.pin == pin) as (λ t. (job.pin == pin) ≡ t → (t || false) ≡ false) [
  | true ↦ λ s. let both : true ≡ false = sym (is.joining job e).is_open ∙ ap (λ q. is_among q (pin_numbers u.pins)) (same_number job.pin pin s) ∙ free.is_free in cc
  | false ↦ λ s. refl
] refl

take_all : {X : Type 0} (xs : List X) → take (length xs) xs ≡ xs
take_all [] = refl
take_all (x ∷ xs) = ap (λ ys. x ∷ ys) (take_all xs)

whole : (h : History) → up_to (count_of h) h ≡ h
whole h = ap (λ bs. record { base = h.base; start = h.start; entries = bs }) (ap (λ n. take n h.entries) (same h.start (length h.entries)) ∙ take_all h.entries)
  where
    same : (a b : ℕ) → a + b - a ≡ b
    same a b = omega arith

opens_look : (m : Machine) (pin : ℕ) (rows : List Row) → Agrees m → StateIsSound m.state → IsFreeNumber pin m.state.pins →
    ((k : Key) → first_at k (rows ++ block_rows m.state.blocks) ≡ first_in k m.history) →
    OpenIn (with_state (after_look pin m.state) m) (OpenLook (record { pin = pin; files = block_files m.state.blocks; as_of = count_of m.history; rows = rows }))
opens_look m pin rows is sound free firsts = record {
  open_pin = record { is_open = open-added m.state.pins new; no_job = free_apart pin m.state m.state.compaction refl sound free };
  its_files = ap block_files its;
  past = omega arith;
  firsts = λ k. ap (λ bs. first_at k (rows ++ block_rows bs)) its ∙ firsts k ∙ ap (λ h. first_in k h) (sym (whole m.history));
}
  where
    new : Pinned
    new = record { number = pin; blocks = m.state.blocks }

    its : pinned_blocks pin (m.state.pins ++ new ∷ []) ≡ m.state.blocks
    its = blocks-added m.state.pins new free.is_free

happens_opens : (m m' : Machine) (e : Event) (r : Reply) (hold : Hold) → Agrees m → StateIsSound m.state → Happens m e r m' → Contains (opened r) hold → OpenIn m' hold
happens_opens m m' (Push spans moment) r hold is sound d h = opens_nothing r _ hold (OpenIn m' hold) d.0 refl h
happens_opens m m' (Cut moment) r hold is sound d h = opens_nothing r _ hold (OpenIn m' hold) d.2 refl h
happens_opens m m' CutAll r hold is sound d h = opens_nothing r _ hold (OpenIn m' hold) d.2 refl h
happens_opens m m' Held r hold is sound d h = opens_nothing r _ hold (OpenIn m' hold) d.0 refl h
happens_opens m m' BeginFlush r hold is sound d h =
    opens_one m' _ r _ hold (OpenFlush (record { number = m.state.begun + 1; file = m.state.next_file; rows = take most_rows m.state.head })) d.0 d.1 refl
    (record { job = taken m.state; is_open = refl; its_number = refl; its_file = refl; its_rows = refl }) h
happens_opens m m' BeginCompact r hold is sound d h =
    opens_one m' _ r _ hold (OpenCompact (record { number = m.state.begun + 1; file = m.state.next_file; level = level_of (choice m.state.blocks) + 1; pin = d.0; files = block_files (choice m.state.blocks) })) d.2 d.3 refl
    (record {
      job = chosen_job d.0 m.state;
      is_open = refl;
      its_number = refl;
      its_file = refl;
      its_level = refl;
      its_pin = refl;
      open_pin = open-added m.state.pins (record { number = d.0; blocks = choice m.state.blocks });
      its_files = ap block_files (blocks-added m.state.pins (record { number = d.0; blocks = choice m.state.blocks }) d.1.is_free);
    }) h
happens_opens m m' (WritePiece job file bytes) r hold is sound d h = opens_nothing r _ hold (OpenIn m' hold) d.0 refl h
happens_opens m m' (CommitFlush job size) r hold is sound d h = opens_nothing r _ hold (OpenIn m' hold) d.5 refl h
happens_opens m m' (CommitCompact job size) r hold is sound d h = opens_nothing r _ hold (OpenIn m' hold) d.5 refl h
happens_opens m m' (DropFlush job) r hold is sound d h = opens_nothing r _ hold (OpenIn m' hold) d.3 refl h
happens_opens m m' (DropCompact job) r hold is sound d h = opens_nothing r _ hold (OpenIn m' hold) d.3 refl h
happens_opens m m' Look r hold is sound d h =
    opens_one m' _ r _ hold (OpenLook (record { pin = d.0; files = block_files m.state.blocks; as_of = count_of m.history; rows = d.1 })) d.4 d.5 refl
    (opens_look m d.0 d.1 is sound d.2 (look_is m d.1 is d.3)) h
happens_opens m m' (ReadPage pin block page) r hold is sound d h = opens_nothing r _ hold (OpenIn m' hold) d.1 refl h
happens_opens m m' (Done pin) r hold is sound d h = opens_nothing r _ hold (OpenIn m' hold) d.1 refl h
happens_opens m m' Reclaim r hold is sound d h = opens_nothing r _ hold (OpenIn m' hold) d.0 refl h

pub step_opens : (before faults : ℕ) (m m' : Machine) (e : Event) (r : Reply) (hold : Hold) → Agrees m → StateIsSound m.state →
    Step before faults m e r m' → Contains (opened r) hold → OpenIn m' hold
step_opens before faults m m' e r hold is sound step h =
    split before faults m m' e r (OpenIn m' hold) step (λ plain _. plain_opens r hold (OpenIn m' hold) plain h) (λ d. happens_opens m m' e r hold is sound d h)
