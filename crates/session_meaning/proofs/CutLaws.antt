-- What a cut makes of the store.
use Rattle.std.proofs.Common.{◌≡◌, ◌⊎◌, inl, inr, ℕ, Bool, true, not, List, filter, arith, length, length-append, refl, sym, ap, subst, ◌∙◌}
use Rattle.std.proofs.lemmas.List.{length-map}
use Rattle.std.proofs.lemmas.List.Filters.{length-filter_both}
use Rattle.std.proofs.lemmas.List.Sorted.{length_permutation}
use Rattle.span_types.specs.declared.spans.Row.{Row}
use Rattle.store_model.specs.After.{after_cut}
use Rattle.store_model.specs.Cut.{AreMoved, is_idle}
use Rattle.store_model.specs.Event.{Reply as reply}
use Rattle.store_model.specs.Event.Event.{Cut, CutAll}
use Rattle.store_model.specs.Event.Reply.{Refused}
use Rattle.store_model.specs.Event.Refusal.{Memory}
use Rattle.store_model.specs.State.{LiveRow, live_rows}
use Rattle.store_model.specs.Step.{IsCut, Machine, Step, with_state}
use Rattle.store_model.specs.Step.Step.{Sure, Succeeds, Lacks, Unread, Breaks, Halts}
use Rattle.session_meaning.specs.Upkeep.{IsClosed}
use Rattle.session_meaning.proofs.RoundRoom.{KeepsRoom, room_itself}

-- The rows that go are moved, or memory ran out.
abbrev pub CutsOrLacks : (LiveRow → Bool) → Machine → reply → Machine → Type 0
CutsOrLacks goes m r m' = IsCut goes m r m' ⊎ ((r ≡ Refused Memory) × (m' ≡ m))

pub cuts_idle : (f g : ℕ) (m m' : Machine) (moment : ℕ) (r : reply) → Step f g m (Cut moment) r m' → CutsOrLacks (is_idle moment m.state.live) m r m'
cuts_idle f g m m' moment r (Sure told same) = let bad : ⊥ = cc in absurd bad
cuts_idle f g m m' moment r (Succeeds none done) = inl done
cuts_idle f g m m' moment r (Lacks none takes told same) = inr (told, same)
cuts_idle f g m m' moment r (Unread reads told rose same) = let bad : ⊥ = cc in absurd bad
cuts_idle f g m m' moment r (Breaks none writes told rose same) = let bad : ⊥ = cc in absurd bad
cuts_idle f g m m' moment r (Halts none reclaims writes told rose emptied fewer same) = let bad : ⊥ = cc in absurd bad

pub cuts_all : (f g : ℕ) (m m' : Machine) (r : reply) → Step f g m CutAll r m' → CutsOrLacks (λ entry. true) m r m'
cuts_all f g m m' r (Sure told same) = let bad : ⊥ = cc in absurd bad
cuts_all f g m m' r (Succeeds none done) = inl done
cuts_all f g m m' r (Lacks none takes told same) = inr (told, same)
cuts_all f g m m' r (Unread reads told rose same) = let bad : ⊥ = cc in absurd bad
cuts_all f g m m' r (Breaks none writes told rose same) = let bad : ⊥ = cc in absurd bad
cuts_all f g m m' r (Halts none reclaims writes told rose emptied fewer same) = let bad : ⊥ = cc in absurd bad

-- No row is lost.
moved_room : (goes : LiveRow → Bool) (m : Machine) (moved : List Row) → AreMoved goes m.state.live moved → KeepsRoom 0 m (with_state (after_cut goes moved m.state) m)
moved_room goes m moved are = record {
  writes = refl;
  history = refl;
  held =
      let joined = length-append m.state.head moved in
      let went = length_permutation (live_rows (filter goes m.state.live)) moved are.rows in
      let rows : length (live_rows (filter goes m.state.live)) ≡ length (filter goes m.state.live) = length-map (filter goes m.state.live) (λ (entry : LiveRow). entry.row) in
      let parts = length-filter_both goes (λ entry. not (goes entry)) (λ x. refl) m.state.live in
      omega (arith, joined, went, rows, parts);
  files = omega arith;
  closed = λ closed. record { flush = closed.flush; compaction = closed.compaction };
}

pub cut_room : (goes : LiveRow → Bool) (m : Machine) (r : reply) (m' : Machine) → CutsOrLacks goes m r m' → KeepsRoom 0 m m'
cut_room goes m r m' (inl (moved, are, told, leaves)) = subst (KeepsRoom 0 m) (sym leaves) (moved_room goes m moved are)
cut_room goes m r m' (inr (told, same)) = room_itself 0 m m' same

pub cut_closes : (goes : LiveRow → Bool) (m : Machine) (r : reply) (m' : Machine) → CutsOrLacks goes m r m' → IsClosed m → IsClosed m'
cut_closes goes m r m' (inl (moved, are, told, leaves)) closed =
    λ writes.
    let none = closed (sym (ap (λ (n : Machine). n.read_only) leaves) ∙ writes) in
    record { flush = ap (λ (n : Machine). n.state.flush) leaves ∙ none.flush; compaction = ap (λ (n : Machine). n.state.compaction) leaves ∙ none.compaction }
cut_closes goes m r m' (inr (told, same)) closed = subst IsClosed (sym same) closed
