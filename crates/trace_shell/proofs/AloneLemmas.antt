-- How a run ends that answers one line alone.
use Rattle.std.proofs.Common.{◌≡◌, ◌≢◌, ◌⊎◌, ◌≤◌, inl, inr, ℕ, List, [], ◌∷◌, ◌++◌, Bool, true, false, Option, Some, None, take, refl, sym, ap, ◌∙◌, subst, append-nil, arith, if◌then◌else◌}
use Rattle.std.specs.Prelude.{IfSome}
use Rattle.std.specs.Io.KnownBytes.{Appends}
use Rattle.span_types.specs.Faults.{Rose}
use Rattle.session_meaning.specs.declared.ending.Ending.{Ending}
use Rattle.session_meaning.specs.declared.ending.Ending.TheVariants.{Answered, BadWords, NotOpened, NotStore, ReadFault, Refused, Spent, Starved, WriteFault}
use Rattle.session_meaning.specs.Runs.{IsPastOpening, NeedsNoSource}
use Rattle.session_meaning.specs.Session.{EndsAlone, IsWritten, is_for_memory, is_refusal}
use Rattle.session_text.specs.declared.reply.Reply.{Reply}
use Rattle.session_text.specs.Replies.{reply_text}
use Rattle.trace_shell.specs.declared.session.Tally.{Tally}
use Rattle.trace_shell.specs.Turn.{HasGiven, ending_of}

-- no reply was seen
abbrev pub empty_tally : Tally
empty_tally = record { refused = false; starved = false }

put_behind : (before bytes : List ℕ) (old new : Option (List ℕ)) → old ≡ Some before → Appends old new bytes → new ≡ Some (before ++ bytes)
put_behind before bytes None new is h = cc
put_behind before bytes (Some xs) None is h = absurd h
put_behind before bytes (Some xs) (Some ys) is h = ap Some (h ∙ ap (λ zs. zs ++ bytes) (same _ _ is))
  where
    same : (a b : List ℕ) → Some a ≡ Some b → a ≡ b
    same a b e = cc

-- the reply couldn't be given
pub stopped_alone : (before : List ℕ) (old new : Option (List ℕ)) (tally : Tally) (r : Reply) (ending : Ending) → old ≡ Some before
    → HasGiven old new empty_tally tally r (Some ending) → EndsAlone ending before r new
stopped_alone before old new tally r Starved is given = inr (given ∙ is)
stopped_alone before old new tally r WriteFault is given = (given.0, put_behind before (take given.0 (reply_text r)) old new is given.1)
stopped_alone before old new tally r Answered is given = absurd given
stopped_alone before old new tally r BadWords is given = absurd given
stopped_alone before old new tally r ReadFault is given = absurd given
stopped_alone before old new tally r Refused is given = absurd given
stopped_alone before old new tally r Spent is given = absurd given
stopped_alone before old new tally r NotOpened is given = absurd given
stopped_alone before old new tally r (NotStore file at) is given = absurd given

by_refusal : (before : List ℕ) (r : Reply) (new : Option (List ℕ)) (a b : Bool) → is_refusal r ≡ a → is_for_memory r ≡ b → IsWritten before (r ∷ []) new
    → EndsAlone (if a then Refused else if b then Starved else Answered) before r new
by_refusal before r new true b ea eb written = (written, rw ea refl)
by_refusal before r new false true ea eb written = inl (written, rw (ea, eb) refl)
by_refusal before r new false false ea eb written = (written, rw (ea, eb) refl)

-- the reply was given
pub written_alone : (before : List ℕ) (old new : Option (List ℕ)) (tally : Tally) (r : Reply) → old ≡ Some before → HasGiven old new empty_tally tally r None
    → EndsAlone (ending_of tally) before r new
written_alone before old new tally r is given =
    let written : IsWritten before (r ∷ []) new =
    put_behind before (reply_text r) old new is given.0 ∙ ap (λ zs. Some (before ++ zs)) (sym (append-nil (reply_text r))) in
    subst (λ s. EndsAlone (ending_of s) before r new) (sym given.1) (by_refusal before r new (is_refusal r) (is_for_memory r) refl refl written)

-- what a line alone may end with
pub alone_ends : (e : Ending) → (e ≡ WriteFault) ⊎ ((e ≡ Answered) ⊎ ((e ≡ Refused) ⊎ (e ≡ Starved)))
    → (e ≢ ReadFault) × (e ≢ Spent) × NeedsNoSource e × IsPastOpening e
alone_ends e (inl is) = (λ a. let bad : ⊥ = cc in bad, λ a. let bad : ⊥ = cc in bad, subst NeedsNoSource (sym is) tt, subst IsPastOpening (sym is) tt)
alone_ends e (inr (inl is)) = (λ a. let bad : ⊥ = cc in bad, λ a. let bad : ⊥ = cc in bad, subst NeedsNoSource (sym is) tt, subst IsPastOpening (sym is) tt)
alone_ends e (inr (inr (inl is))) = (λ a. let bad : ⊥ = cc in bad, λ a. let bad : ⊥ = cc in bad, subst NeedsNoSource (sym is) tt, subst IsPastOpening (sym is) tt)
alone_ends e (inr (inr (inr is))) = (λ a. let bad : ⊥ = cc in bad, λ a. let bad : ⊥ = cc in bad, subst NeedsNoSource (sym is) tt, subst IsPastOpening (sym is) tt)

-- what a line among others may end a session with
pub line_ends : (o : Option Ending) → IfSome o (λ e. (e ≡ WriteFault) ⊎ (e ≡ Starved)) → IfSome o IsPastOpening
line_ends None ends = tt
line_ends (Some e) (inl is) = subst IsPastOpening (sym is) tt
line_ends (Some e) (inr is) = subst IsPastOpening (sym is) tt

-- A count of faults that rose since a later moment rose since an earlier one.
pub rose_from : (a b c : ℕ) → a ≤ b → Rose b c → Rose a c
rose_from a b c earlier rose = omega (arith, earlier, rose)

-- The source has no part in it.
pub no_read_fault : (A : Type 0) (o : Option Ending) → IfSome o (λ e. (e ≡ WriteFault) ⊎ (e ≡ Starved)) → IfSome o (λ e. e ≡ ReadFault → A)
no_read_fault A None ends = tt
no_read_fault A (Some e) (inl is) = λ same. let bad : ⊥ = cc in absurd bad
no_read_fault A (Some e) (inr is) = λ same. let bad : ⊥ = cc in absurd bad

pub not_spent : (A : Type 0) (o : Option Ending) → IfSome o (λ e. (e ≡ WriteFault) ⊎ (e ≡ Starved)) → IfSome o (λ e. e ≡ Spent → A)
not_spent A None ends = tt
not_spent A (Some e) (inl is) = λ same. let bad : ⊥ = cc in absurd bad
not_spent A (Some e) (inr is) = λ same. let bad : ⊥ = cc in absurd bad

pub tally_ends : (tally : Tally) → IsPastOpening (ending_of tally)
tally_ends tally = go tally.refused tally.starved
  where
    go : (a b : Bool) → IsPastOpening (if a then Refused else if b then Starved else Answered)
    go true b = tt
    go false true = tt
    go false false = tt
