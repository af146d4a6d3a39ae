-- Calls that leave what is held.
use Rattle.std.proofs.Common.{◌≡◌, ℕ, ◌==◌, suc, List, [], ◌∷◌, ◌++◌, Bool, true, false, refl, sym, ◌∙◌, ap, subst, arith, ⊎_elim}
use Rattle.std.specs.Prelude.{IsTrue}
use Rattle.std.specs.List.{Contains}
use Rattle.std.proofs.lemmas.List.Elements.{Contains-append_cases}
use Rattle.store_model.specs.Event.{Event, Reply}
use Rattle.store_model.specs.Holds.{Hold, ends, files_of}
use Rattle.store_model.specs.State.{is_among}
use Rattle.store_model.proofs.Numbers.{same_number}
use Rattle.store_state.specs.Meaning.{Meaning, Called, IsOpen}
use Rattle.store_state.proofs.HoldLaws.{stays_open}
use Rattle.port_history.specs.Entries.{Entry, AreEntries}
use Rattle.shared_store.specs.Apart.{AllLeave, AreStrangers, Leaves}
use Rattle.shared_store.specs.Rule.{IsOwn}
use Rattle.shared_store.proofs.Events.{ends_one, not_written}

pub own_leaves : (theirs held : List Hold) (event : Event) (reply : Reply) → IsOwn theirs event reply
    → ((one other : Hold) → Contains theirs one → Contains held other → AreStrangers one other) → Leaves held event reply
own_leaves theirs held event reply own apart = record {
  ends_none = λ hold c. by_test hold c (ends event reply hold) refl;
  writes_none = λ number file bytes is hold c. let o = own.written number file bytes is in (apart o.0 hold o.1 c).writes file o.2;
}
  where
    by_test : (hold : Hold) → Contains held hold → (t : Bool) → ends event reply hold ≡ t → ends event reply hold ≡ false
    by_test hold c true e = let o = own.ended hold e in absurd (ends_one event reply o.0 hold o.2 e (apart o.0 hold o.1 c))
    by_test hold c false e = e

pub nothing_held : (event : Event) (reply : Reply) → Leaves [] event reply
nothing_held event reply = record { ends_none = λ hold c. absurd (omega (arith, c.1)); writes_none = λ number file bytes is hold c. absurd (omega (arith, c.1)) }

pub both_left : (a b : List Hold) (event : Event) (reply : Reply) → Leaves a event reply → Leaves b event reply → Leaves (a ++ b) event reply
both_left a b event reply l r = record {
  ends_none = λ hold c. ⊎_elim (λ (h : Contains a hold). l.ends_none hold h) (λ (h : Contains b hold). r.ends_none hold h) (Contains-append_cases a b hold c);
  writes_none = λ number file bytes is hold c. ⊎_elim (λ (h : Contains a hold). l.writes_none number file bytes is hold h)
      (λ (h : Contains b hold). r.writes_none number file bytes is hold h) (Contains-append_cases a b hold c);
}

-- all of a list, and of what is after its first
pub first_left : (held : List Hold) (e : Entry) (es : List Entry) → AllLeave held (e ∷ es) → Leaves held e.event e.reply
first_left held e es left = left e (0, omega arith, refl)

pub later_left : (held : List Hold) (e : Entry) (es : List Entry) → AllLeave held (e ∷ es) → AllLeave held es
later_left held e es left x c = left x (suc c.0, omega (arith, c.1), c.2)

other_file : (a file : ℕ) (files : List ℕ) → is_among file files ≡ true → is_among a files ≡ false → (a == file) ≡ false
other_file a file files there away = elim (a == file) as (λ t. (a == file) ≡ t → t ≡ false) [
  | true ↦ λ e. let both : true ≡ false = sym there ∙ ap (λ (f : ℕ). is_among f files) (sym (same_number a file e)) ∙ away in cc
  | false ↦ λ e. refl
] refl

module _ {P : Type 0} (m : Meaning P) (held : List Hold) where
  pub bytes_left : (old new : P) (event : Event) (reply : Reply) → Called m old event reply new → Leaves held event reply → IsTrue (m.tells old)
      → (hold : Hold) → Contains held hold → IsOpen m old hold → (file : ℕ) → is_among file (files_of hold) ≡ true → m.shows new file ≡ m.shows old file
  bytes_left old new event reply called left told hold c o file among =
      not_written event reply file (m.shows old file) (m.shows new file)
      (called.bytes told hold o (left.ends_none hold c) file among)
      (λ n a bytes is. other_file a file (files_of hold) among (left.writes_none n a bytes is hold c))

  pub one_left : (old new : P) (event : Event) (reply : Reply) → Called m old event reply new → Leaves held event reply
      → ((hold : Hold) → Contains held hold → IsOpen m old hold) → (hold : Hold) → Contains held hold → IsOpen m new hold
  one_left old new event reply called left are hold c = stays_open m old new event reply hold called (are hold c) (left.ends_none hold c)

  pub open_left : (old new : P) (es : List Entry) → AreEntries m old es new → AllLeave held es
      → ((hold : Hold) → Contains held hold → IsOpen m old hold) → (hold : Hold) → Contains held hold → IsOpen m new hold
  open_left old new [] made left are hold c = subst (λ (p : P). IsOpen m p hold) (sym made) (are hold c)
  open_left old new (e ∷ es) made left are hold c = open_left made.0 new es made.4 (later_left held e es left)
      (one_left old made.0 e.event e.reply made.1 (first_left held e es left) are) hold c
