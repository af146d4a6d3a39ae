-- The states of files in a list of them.
use Rattle.std.proofs.Common.{◌≡◌, ◌≢◌, ◌⊎◌, ℕ, zero, suc, Bool, true, false, cond, eqb, [], ◌∷◌, ◌++◌, get_or, set, refl, sym, ◌∙◌, ap, inl, inr, arith}
use Rattle.std.proofs.lemmas.Bool.{cases_eq, eq-eqb, ne_eqb}
use Rattle.disk_model.specs.Files.{FileState, settled}
use Rattle.disk_model.specs.HistoryLaws.{state_of-updated}
use Rattle.disk_model.specs.History.{Files, StandsAt, state_of, after, changed, file_of}
use Rattle.disk_model.specs.declared.change.Change.{Change}

-- a file at the end of the list that is empty changes nothing
pub state_of-push : (files : Files) (file other : ℕ) → state_of (files ++ (file, settled []) ∷ []) other ≡ state_of files other
state_of-push [] file other = elim (eqb file other) as (λ b. cond b (settled []) (settled []) ≡ settled []) [ true ↦ refl | false ↦ refl ]
state_of-push (entry ∷ files) file other = ap (λ (s : FileState). cond (eqb entry.0 other) entry.1 s) (state_of-push files file other)

-- the same where the entry is replaced at its place
pub state_of-set : (files : Files) (file place : ℕ) (state : FileState) (other : ℕ) → StandsAt files file place → state_of (set files place (file, state)) other ≡ cond (eqb file other) state (state_of files other)
state_of-set [] file place state other stands = absurd (omega (arith, stands.inside))
state_of-set (entry ∷ files) file zero state other stands = elim (cases_eq file other) [
  | inl same ↦
      ap (λ (b : Bool). cond b state (state_of files other)) (eq-eqb file other same)
      ∙ ap (λ (b : Bool). cond b state (cond (eqb entry.0 other) entry.1 (state_of files other))) (sym (eq-eqb file other same))
  | inr differs ↦
      let named : entry.0 ≡ file = stands.named entry in
      ap (λ (b : Bool). cond b state (state_of files other)) (ne_eqb file other differs)
      ∙ ap (λ (b : Bool). cond b entry.1 (state_of files other)) (sym (ne_eqb entry.0 other (λ e. differs (sym named ∙ e))))
      ∙ ap (λ (b : Bool). cond b state (cond (eqb entry.0 other) entry.1 (state_of files other))) (sym (ne_eqb file other differs))
]
state_of-set (entry ∷ files) file (suc place) state other stands =
    let later : StandsAt files file place = record { inside = omega (arith, stands.inside); named = stands.named; first = λ earlier d below. stands.first (suc earlier) d (omega (arith, below)) } in
    let there : entry.0 ≢ file = stands.first 0 entry (omega arith) in
    ap (λ (s : FileState). cond (eqb entry.0 other) entry.1 s) (state_of-set files file place state other later) ∙ swapped (cases_eq file other) there
  where
    swapped : (file ≡ other) ⊎ (file ≡ other → ⊥) → entry.0 ≢ file → cond (eqb entry.0 other) entry.1 (cond (eqb file other) state (state_of files other)) ≡ cond (eqb file other) state (cond (eqb entry.0 other) entry.1 (state_of files other))
    swapped (inl same) there = rw (eq-eqb file other same, ne_eqb entry.0 other (λ e. there (e ∙ sym same))) refl
    swapped (inr differs) there = rw (ne_eqb file other differs) refl

-- the state that stands at the place
pub state_at : (files : Files) (file place : ℕ) (d : ℕ × FileState) → StandsAt files file place → state_of files file ≡ (get_or files place d).1
state_at [] file place d stands = absurd (omega (arith, stands.inside))
state_at (entry ∷ files) file zero d stands = ap (λ (b : Bool). cond b entry.1 (state_of files file)) (eq-eqb entry.0 file (stands.named entry))
state_at (entry ∷ files) file (suc place) d stands =
    ap (λ (b : Bool). cond b entry.1 (state_of files file)) (ne_eqb entry.0 file (stands.first 0 entry (omega arith)))
    ∙ state_at files file place d (record { inside = omega (arith, stands.inside); named = stands.named; first = λ earlier d below. stands.first (suc earlier) d (omega (arith, below)) })

-- files that are the same stay so under a change
pub after_same : (old new : Files) (change : Change) → ((file : ℕ) → state_of new file ≡ state_of old file) → (file : ℕ) → state_of (after new change) file ≡ state_of (after old change) file
after_same old new change same file =
    let f = file_of change in
    state_of-updated new f (changed change) file
    ∙ ap (λ (s : FileState). cond (eqb f file) (changed change s) (state_of new file)) (same f)
    ∙ ap (λ (s : FileState). cond (eqb f file) (changed change (state_of old f)) s) (same file)
    ∙ sym (state_of-updated old f (changed change) file)

-- the change made at the file's place
pub set_is_after : (old new : Files) (change : Change) (place : ℕ) (d : ℕ × FileState) → ((file : ℕ) → state_of new file ≡ state_of old file) → StandsAt new (file_of change) place
    → (file : ℕ) → state_of (set new place (file_of change, changed change (get_or new place d).1)) file ≡ state_of (after old change) file
set_is_after old new change place d same stands file =
    let f = file_of change in
    state_of-set new f place (changed change (get_or new place d).1) file stands
    ∙ ap (λ (s : FileState). cond (eqb f file) (changed change s) (state_of new file)) (sym (state_at new f place d stands))
    ∙ sym (state_of-updated new f (changed change) file)
    ∙ after_same old new change same file
