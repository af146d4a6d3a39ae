-- What steps of either kind have in common: the looks stay, and so do the files of the other kind's job.
use Rattle.std.proofs.Common.{◌≡◌, ℕ, ◌==◌, List, [], ◌∷◌, ◌++◌, Bool, true, false, Option, Some, None, map, refl, ◌∙◌, ap, append-nil, if◌then◌else◌}
use Rattle.std.specs.Prelude.{◌||◌}
use Rattle.std.proofs.lemmas.Bool.{eqb-true}
use Rattle.store_model.specs.Event.{LookParts}
use Rattle.store_model.specs.Event.Event.{WritePiece}
use Rattle.store_model.specs.Event.Reply.{Fine, Refused}
use Rattle.store_model.specs.Holds.{Hold, ends}
use Rattle.store_model.specs.Holds.Hold.{OpenLook}
use Rattle.store_model.specs.State.{is_among}
use Rattle.store_state.specs.Given.{look_of, look_parts}
use Rattle.store_state.specs.Made.{Call}
use Rattle.store_state.specs.Replies.{write_refusal}
use Rattle.store_state.specs.declared.errors.WriteError.{WriteError}
use Rattle.store_state.specs.declared.errors.WriteError.TheVariants as write
use Rattle.store_state.specs.declared.jobs.Look.{Look}
use Rattle.client_run.specs.Calls.{Looks, after_call, taken, unless_ended}
use Rattle.client_run.specs.Taken.{looks_of}
use Rattle.client_run.proofs.JobLemmas.{Untouched}

-- ---- looks

-- a call that ends no look and gives none
abbrev pub LeavesLooks : Call → Type 0
LeavesLooks c = ((look : LookParts) → ends c.event c.reply (OpenLook look) ≡ false) × (taken c.reply ≡ [])

kept_looks : (c : Call) (items : List (Option Look)) → LeavesLooks c → map (unless_ended c) (looks_of items) ≡ looks_of items
kept_looks c [] h = refl
kept_looks c (None ∷ items) h = ap (λ (ls : Looks). None ∷ ls) (kept_looks c items h)
kept_looks c (Some look ∷ items) h =
    ap (λ (o : Option Hold). o ∷ map (unless_ended c) (looks_of items))
    (ap (λ (t : Bool). if t then None else Some (look_of look)) (h.0 (look_parts look)))
    ∙ ap (λ (ls : Looks). Some (look_of look) ∷ ls) (kept_looks c items h)

pub same_looks : (c : Call) (items : List (Option Look)) → LeavesLooks c → after_call c (looks_of items) ≡ looks_of items
same_looks c items h =
    ap (λ (ls : Looks). map (unless_ended c) (looks_of items) ++ ls) h.1 ∙ (append-nil (map (unless_ended c) (looks_of items)) ∙ kept_looks c items h)

-- ---- files

-- the job's own file isn't this one
abbrev pub IsOther : ℕ → ℕ → Type 0
IsOther own file = (own == file) ≡ false

-- a piece goes to the job's own file
pub written_apart : (number own file : ℕ) (bytes : List ℕ) → IsOther own file → Untouched (WritePiece number own bytes) Fine file
written_apart number own file bytes other = λ before after is. is ∙ ap (λ (t : Bool). if t then before ++ bytes else before) other

pub refused_apart : (number own file : ℕ) (bytes : List ℕ) (why : WriteError) → IsOther own file → Untouched (WritePiece number own bytes) (Refused (write_refusal why)) file
refused_apart number own file bytes (write.ReadOnly faults) other = λ before after is. is
refused_apart number own file bytes write.Fault other = λ before after is. is other

or_left : (a b : Bool) → (a || b) ≡ false → a ≡ false
or_left true b e = let bad : ⊥ = cc in absurd bad
or_left false b e = refl

-- a file that is none of these isn't the first of them
pub other_first : (file own : ℕ) (files : List ℕ) → is_among file (own ∷ files) ≡ false → IsOther own file
other_first file own files none = or_left (own == file) (is_among file files) none

-- nor any one
pub other_among : (own file : ℕ) (files : List ℕ) → is_among own files ≡ false → is_among file files ≡ true → IsOther own file
other_among own file files none among = go (own == file) refl
  where
    go : (t : Bool) → (own == file) ≡ t → t ≡ false
    go false e = refl
    go true e = let bad : ⊥ = (let same = ap (λ (f : ℕ). is_among f files) (eqb-true own file e) in cc) in absurd bad
