-- Steps of a round write to the file of one job, which is open until the last of them.
use Rattle.std.proofs.Common.{◌≡◌, ◌⊎◌, inl, inr, ℕ, List, [], ◌∷◌, Option, None, Some, false, not, filter, refl, ◌∙◌, ap, subst}
use Rattle.std.specs.List.{Contains}
use Rattle.std.proofs.lemmas.List.Elements.{Contains-append_right}
use Rattle.store_model.specs.Event.{Event, Reply}
use Rattle.store_model.specs.Event.Event.{WritePiece}
use Rattle.store_model.specs.Event.Reply.{Flushing, Compacting}
use Rattle.store_model.specs.Holds.{Hold, ends, holds_after, opened}
use Rattle.store_state.specs.Made.{Call}
use Rattle.store_state.specs.declared.rounds.Round.{Round}
use Rattle.client_run.specs.EventRuns.{from_there}
use Rattle.look_laws.specs.LookRuns.{IsOwnFile, IsOwnPiece}
use Rattle.look_laws.proofs.Calls.{stays_open}

-- ---- calls of a round

abbrev pub EndsNone : Call → Type 0
EndsNone c = (hold : Hold) → ends c.event c.reply hold ≡ false

abbrev pub WritesNone : Event → Type 0
WritesNone event = (n f : ℕ) (bytes : List ℕ) → event ≡ WritePiece n f bytes → ⊥

-- a piece goes to the file of the job with this number
abbrev pub IsPieceOf : ℕ → ℕ → Event → Type 0
IsPieceOf number file event = (n f : ℕ) (bytes : List ℕ) → event ≡ WritePiece n f bytes → (number ≡ n) × (file ≡ f)

-- The calls of a job that is open: none but the last ends anything, and all leave the jobs of the other kind.
abbrev pub AreOfJob : (Call → Type 0) → ℕ → ℕ → List Call → Type 0
AreOfJob Leaves number file [] = Unit {0}
AreOfJob Leaves number file (c ∷ calls) =
    IsPieceOf number file c.event × Leaves c × (EndsNone c ⊎ (calls ≡ [])) × AreOfJob Leaves number file calls

-- the job that a reply gives
abbrev pub job_number : Reply → ℕ
job_number (Flushing job) = job.number
job_number (Compacting job) = job.number
job_number _ = 0

abbrev pub job_file : Reply → ℕ
job_file (Flushing job) = job.file
job_file (Compacting job) = job.file
job_file _ = 0

-- what a job of this kind holds, by its number and its file
abbrev pub Kind : Type 1
Kind = ℕ → ℕ → Hold → Type 0

abbrev pub Begins : Kind → Reply → Type 0
Begins Mine reply = (hold : Hold) × Mine (job_number reply) (job_file reply) hold × Contains (opened reply) hold

-- The calls of a round: the first one begins a job, or it is the only one.
abbrev pub AreOfRound : (Call → Type 0) → Kind → List Call → Type 0
AreOfRound Leaves Mine [] = Unit {0}
AreOfRound Leaves Mine (c ∷ calls) =
    WritesNone c.event × Leaves c × (Begins Mine c.reply ⊎ (calls ≡ [])) × AreOfJob Leaves (job_number c.reply) (job_file c.reply) calls

-- ---- how far a round is

pub data Phase : Type 0 where
  Before : Phase
  Has : ℕ → ℕ → Phase

abbrev pub IsIn : Kind → List Hold → Phase → Type 0
IsIn Mine held Before = Unit {0}
IsIn Mine held (Has number file) = (hold : Hold) × Mine number file hold × Contains held hold

abbrev pub Along : (Call → Type 0) → Kind → Phase → List Call → Type 0
Along Leaves Mine Before calls = AreOfRound Leaves Mine calls
Along Leaves Mine (Has number file) calls = AreOfJob Leaves number file calls

-- what the job of a phase holds stays open over a call that leaves its kind
pub still_in : (Mine : Kind) (held : List Hold) (phase : Phase) (c : Call) → ((n f : ℕ) (hold : Hold) → Mine n f hold → ends c.event c.reply hold ≡ false) → IsIn Mine held phase
    → IsIn Mine (holds_after c.event c.reply held) phase
still_in Mine held Before c leaves is_in = tt
still_in Mine held (Has n f) c leaves (hold, mine, there) = (hold, mine, stays_open c.event c.reply held hold (leaves n f hold mine) there)

-- ---- a step

module _ (Leaves : Call → Type 0) (Mine : Kind) (own : (held : List Hold) (n f : ℕ) (hold : Hold) → Mine n f hold → Contains held hold → IsOwnFile held n f) where
  piece_of : (held : List Hold) (phase : Phase) → IsIn Mine held phase → (c : Call) (calls : List Call) → Along Leaves Mine phase (c ∷ calls) → IsOwnPiece held c.event
  piece_of held Before is_in c calls along n f bytes e = absurd (along.0 n f bytes e)
  piece_of held (Has number file) (hold, mine, there) c calls along n f bytes e =
      let same = along.0 n f bytes e in
      subst (λ (x : ℕ). IsOwnFile held x f) same.0 (subst (λ (x : ℕ). IsOwnFile held number x) same.1 (own held number file hold mine there))

  leaves_of : (phase : Phase) (c : Call) (calls : List Call) → Along Leaves Mine phase (c ∷ calls) → Leaves c
  leaves_of Before c calls along = along.1
  leaves_of (Has number file) c calls along = along.1

  -- the phase once a call was made after which the round goes on
  next_of : Phase → Call → Phase
  next_of Before c = Has (job_number c.reply) (job_file c.reply)
  next_of (Has number file) c = Has number file

  goes_in : (held : List Hold) (phase : Phase) → IsIn Mine held phase → (c : Call) (calls : List Call) → Along Leaves Mine phase (c ∷ calls) → (calls ≡ [] → ⊥)
      → IsIn Mine (holds_after c.event c.reply held) (next_of phase c)
  unfolding next_of
  goes_in held Before is_in c calls (none, leaves, inl (hold, mine, there), rest) more =
      (hold, mine, Contains-append_right (filter (λ x. not (ends c.event c.reply x)) held) (opened c.reply) hold there)
  goes_in held Before is_in c calls (none, leaves, inr nothing, rest) more = absurd (more nothing)
  goes_in held (Has number file) (hold, mine, there) c calls (piece, leaves, inl stays, rest) more = (hold, mine, stays_open c.event c.reply held hold (stays hold) there)
  goes_in held (Has number file) is_in c calls (piece, leaves, inr nothing, rest) more = absurd (more nothing)

  goes_along : (phase : Phase) (c : Call) (calls : List Call) → Along Leaves Mine phase (c ∷ calls) → Along Leaves Mine (next_of phase c) calls
  unfolding next_of
  goes_along Before c calls along = along.3
  goes_along (Has number file) c calls along = along.3

  module _ {S : Type 0} (L : S → List Call → Round → Type 0) (ended : S → Option Round) (first : S)
      (shaped : (calls : List Call) (r : Round) → L first calls r → AreOfRound Leaves Mine calls)
      (some : (s : S) → (calls : List Call) × (r : Round) × L s calls r × (ended s ≡ None → calls ≡ [] → ⊥)) where
    pub record IsNext (held : List Hold) (made : Call) (after : S) : Type 0 where
      pub piece : IsOwnPiece held made.event
      pub leaves : Leaves made
      pub phase : Phase
      pub is_in : IsIn Mine (holds_after made.event made.reply held) phase
      pub along : (calls : List Call) (r : Round) → L after calls r → Along Leaves Mine phase calls

    pub next : (held : List Hold) (phase : Phase) → IsIn Mine held phase → (before reached after : S) → ((calls : List Call) (r : Round) → L before calls r → Along Leaves Mine phase calls)
        → (made : Call) → ((more : List Call) (r : Round) → L reached more r → L before (made ∷ more) r) → after ≡ from_there first reached (ended reached) → IsNext held made after
    next held phase is_in before reached after along made leads is = by_end (ended reached) refl
      where
        w : (calls : List Call) × (r : Round) × L reached calls r × (ended reached ≡ None → calls ≡ [] → ⊥)
        w = some reached

        here : Along Leaves Mine phase (made ∷ w.0)
        here = along (made ∷ w.0) w.1 (leads w.0 w.1 w.2)

        by_end : (o : Option Round) → ended reached ≡ o → IsNext held made after
        by_end (Some r) e = record {
          piece = piece_of held phase is_in made w.0 here;
          leaves = leaves_of phase made w.0 here;
          phase = Before;
          is_in = tt;
          along = λ calls q l. shaped calls q (subst (λ (s : S). L s calls q) (is ∙ ap (from_there first reached) e) l);
        }
        by_end None e = record {
          piece = piece_of held phase is_in made w.0 here;
          leaves = leaves_of phase made w.0 here;
          phase = next_of phase made;
          is_in = goes_in held phase is_in made w.0 here (w.3 e);
          along = λ calls q l.
              goes_along phase made calls (along (made ∷ calls) q (leads calls q (subst (λ (s : S). L s calls q) (is ∙ ap (from_there first reached) e) l)));
        }
