-- Private mechanism: that a disk in memory meets the laws of a device.
use Rattle.std.proofs.Common.{◌≡◌, ◌⊎◌, inl, inr, ℕ, ◌+◌, ◌<◌, ◌≤◌, Bool, true, false, cond, eqb, leb, ltb, ◌||◌, List, [], ◌∷◌, ◌++◌, length, take, map, refl, sym, ◌∙◌, ap, subst, arith, length-take}
use Rattle.std.specs.List.{list_any}
use Rattle.std.proofs.lemmas.Bool.{cases_eq, eq-eqb, ne_eqb, leb-false, ltb-false, and_cases}
use Rattle.std.proofs.lemmas.List.{take_all, get_or-take}
use Rattle.std.proofs.lemmas.List.Folds.{list_any-append}
use Rattle.disk_model.specs.Images.{Image, bytes_of}
use Rattle.disk_model.specs.BytesLaws.{length-overwritten, get_or-overwritten}
use Rattle.disk_model.specs.Files.{FileState, IsSound, MayBeLeft, frees, settled, wrote, lost_write, cut_to, lost_cut}
use Rattle.disk_model.specs.History.{Past, Files, state_of, updated, file_of, changed, after, replayed, unchanged, files_now, held_now, IsLeft, MayLeave, LeftSince}
use Rattle.disk_model.specs.declared.change.Pending.{Pending}
use Rattle.disk_model.specs.declared.change.Pending.TheVariants.{Written, Shortened}
use Rattle.disk_model.specs.declared.change.Change.{Change}
use Rattle.disk_model.specs.declared.change.Change.TheVariants.{Write, LostWrite, Cut, LostCut, Sync}

-- the state of the file that was changed is the changed one, and every other stays
pub state_of-updated : (files : Files) (file : ℕ) (change : FileState → FileState) (other : ℕ) → state_of (updated file change files) other ≡ cond (eqb file other) (change (state_of files file)) (state_of files other)
state_of-updated [] file change other = refl
state_of-updated (entry ∷ files) file change other = elim (cases_eq entry.0 file) [
  | inl here ↦ rw (here, eq-eqb file file refl) (first (eqb file other))
  | inr there ↦ rw (ne_eqb entry.0 file there) (ap (λ (s : FileState). cond (eqb entry.0 other) entry.1 s) (state_of-updated files file change other) ∙ later (cases_eq file other) there)
]
  where
    first : (b : Bool) → cond b (change entry.1) (state_of files other) ≡ cond b (change entry.1) (cond b entry.1 (state_of files other))
    first true = refl
    first false = refl

    later : (file ≡ other) ⊎ (file ≡ other → ⊥) → (entry.0 ≡ file → ⊥)
        → cond (eqb entry.0 other) entry.1 (cond (eqb file other) (change (state_of files file)) (state_of files other)) ≡ cond (eqb file other) (change (state_of files file)) (cond (eqb entry.0 other) entry.1 (state_of files other))
    later (inl same) there = rw (eq-eqb file other same, ne_eqb entry.0 other (λ e. there (e ∙ sym same))) refl
    later (inr differs) there = rw (ne_eqb file other differs) refl

-- what the files hold
pub bytes_of-held : (files : Files) (file : ℕ) → bytes_of (map (λ entry. (entry.0, entry.1.held)) files) file ≡ (state_of files file).held
bytes_of-held [] file = refl
bytes_of-held (entry ∷ files) file = chosen (eqb entry.0 file) (bytes_of-held files file)
  where
    chosen : (b : Bool) → bytes_of (map (λ entry. (entry.0, entry.1.held)) files) file ≡ (state_of files file).held → cond b entry.1.held (bytes_of (map (λ entry. (entry.0, entry.1.held)) files) file) ≡ (cond b entry.1 (state_of files file)).held
    chosen true rest = refl
    chosen false rest = rest

-- one change more at the end
pub replayed-append : (files : Files) (changes : List Change) (change : Change) → replayed files (changes ++ change ∷ []) ≡ after (replayed files changes) change
replayed-append files [] change = refl
replayed-append files (first ∷ changes) change = replayed-append (after files first) changes change

-- an offset that a further change leaves alone was left alone before
pub free_less : (synced : List ℕ) (pending : List Pending) (change : Pending) (offset : ℕ) → (leb (length synced) offset || list_any (frees offset) (pending ++ change ∷ [])) ≡ false → ((leb (length synced) offset || list_any (frees offset) pending) ≡ false) × (frees offset change ≡ false)
free_less synced pending change offset kept = split (leb (length synced) offset) (list_any (frees offset) pending) (frees offset change) (sym (ap (λ (b : Bool). leb (length synced) offset || b) (list_any-append (frees offset) pending (change ∷ []))) ∙ kept)
  where
    split : (a b c : Bool) → (a || (b || (c || false))) ≡ false → ((a || b) ≡ false) × (c ≡ false)
    split true b c e = absurd (cc)
    split false true c e = absurd (cc)
    split false false true e = absurd (cc)
    split false false false e = (refl, refl)

-- an offset that a write leaves alone is outside of its range
pub outside_range : (at len offset : ℕ) → frees offset (Written at len) ≡ false → (offset < at) ⊎ (at + len ≤ offset)
outside_range at len offset kept = elim (and_cases (leb at offset) (ltb offset (at + len)) kept) [
  | inl before ↦ inl (leb-false at offset before)
  | inr behind ↦ inr (ltb-false offset (at + len) behind)
]

-- an offset that a cut leaves alone is below its length
pub below_cut : (len offset : ℕ) → frees offset (Shortened len) ≡ false → offset < len
below_cut len offset kept = leb-false len offset kept

or_left : (a b : Bool) → (a || b) ≡ false → a ≡ false
or_left true b e = absurd (cc)
or_left false b e = refl

pub sound_settled : (bytes : List ℕ) → IsSound (settled bytes)
sound_settled bytes = record {
  stays = record { no_shorter = omega arith; no_longer = omega arith; same = λ offset inside kept. refl };
  returns = record { no_shorter = omega arith; no_longer = omega arith; same = λ offset inside kept. refl };
  inside = λ offset kept. leb-false (length bytes) offset (or_left (leb (length bytes) offset) false kept);
}

pub sound_wrote : (at : ℕ) (bytes : List ℕ) (file : FileState) → IsSound file → IsSound (wrote at bytes file)
sound_wrote at bytes file sound =
    let size = length-overwritten file.held at bytes in
    record {
      stays = record {
        no_shorter = omega (arith, size, sound.stays.no_shorter);
        no_longer = omega arith;
        same = λ offset below kept.
            let less = free_less file.synced file.pending (Written at (length bytes)) offset kept in
            let inside = sound.inside offset less.0 in
            get_or-overwritten file.held at bytes offset inside (outside_range at (length bytes) offset less.1) ∙ sound.stays.same offset inside less.0;
      };
      returns = record { no_shorter = omega (arith, sound.returns.no_shorter); no_longer = omega (arith, sound.returns.no_longer); same = λ offset below kept. refl };
      inside = λ offset kept.
          let less = free_less file.synced file.pending (Written at (length bytes)) offset kept in
          omega (arith, size, sound.inside offset less.0);
    }

pub sound_lost_write : (at len : ℕ) (file : FileState) → IsSound file → IsSound (lost_write at len file)
sound_lost_write at len file sound = record {
  stays = record {
    no_shorter = sound.stays.no_shorter;
    no_longer = sound.stays.no_longer;
    same = λ offset below kept. sound.stays.same offset below (free_less file.synced file.pending (Written at len) offset kept).0;
  };
  returns = record { no_shorter = omega (arith, sound.returns.no_shorter); no_longer = omega (arith, sound.returns.no_longer); same = λ offset inside kept. refl };
  inside = λ offset kept. sound.inside offset (free_less file.synced file.pending (Written at len) offset kept).0;
}

pub sound_cut_to : (len : ℕ) (file : FileState) → IsSound file → IsSound (cut_to len file)
sound_cut_to len file sound =
    let size = length-take len file.held in
    record {
      stays = record {
        no_shorter = omega (arith, size, sound.stays.no_shorter);
        no_longer = omega (arith, size, sound.stays.no_longer);
        same = λ offset below kept.
            let less = free_less file.synced file.pending (Shortened len) offset kept in
            get_or-take len file.held offset 0 (below_cut len offset less.1) ∙ sound.stays.same offset (sound.inside offset less.0) less.0;
      };
      returns = record { no_shorter = omega (arith, sound.returns.no_shorter); no_longer = omega (arith, sound.returns.no_longer); same = λ offset below kept. refl };
      inside = λ offset kept.
          let less = free_less file.synced file.pending (Shortened len) offset kept in
          omega (arith, size, below_cut len offset less.1, sound.inside offset less.0);
    }

pub sound_lost_cut : (len : ℕ) (file : FileState) → IsSound file → IsSound (lost_cut len file)
sound_lost_cut len file sound = record {
  stays = record {
    no_shorter = omega (arith, sound.stays.no_shorter);
    no_longer = omega (arith, sound.stays.no_longer);
    same = λ offset below kept. sound.stays.same offset below (free_less file.synced file.pending (Shortened len) offset kept).0;
  };
  returns = record { no_shorter = omega (arith, sound.returns.no_shorter); no_longer = omega (arith, sound.returns.no_longer); same = λ offset inside kept. refl };
  inside = λ offset kept. sound.inside offset (free_less file.synced file.pending (Shortened len) offset kept).0;
}

pub sound_changed : (change : Change) (file : FileState) → IsSound file → IsSound (changed change file)
sound_changed (Write name at bytes) file sound = sound_wrote at bytes file sound
sound_changed (LostWrite name at len) file sound = sound_lost_write at len file sound
sound_changed (Cut name len) file sound = sound_cut_to len file sound
sound_changed (LostCut name len) file sound = sound_lost_cut len file sound
sound_changed (Sync name) file sound = sound_settled file.held

-- all files are
abbrev AreSound : Files → Type 0
AreSound files = (file : ℕ) → IsSound (state_of files file)

sound_after : (files : Files) (change : Change) → AreSound files → AreSound (after files change)
sound_after files change sound file =
    subst IsSound (sym (state_of-updated files (file_of change) (changed change) file))
    (chosen (eqb (file_of change) file) (sound_changed change (state_of files (file_of change)) (sound (file_of change))) (sound file))
  where
    chosen : (b : Bool) → IsSound (changed change (state_of files (file_of change))) → IsSound (state_of files file) → IsSound (cond b (changed change (state_of files (file_of change))) (state_of files file))
    chosen true here there = here
    chosen false here there = there

sound_replayed : (files : Files) (changes : List Change) → AreSound files → AreSound (replayed files changes)
sound_replayed files [] sound = sound
sound_replayed files (change ∷ changes) sound = sound_replayed (after files change) changes (sound_after files change sound)

sound_unchanged : (image : Image) → AreSound (unchanged image)
sound_unchanged [] file = sound_settled []
sound_unchanged (entry ∷ image) file = chosen (eqb entry.0 file) (sound_unchanged image file)
  where
    chosen : (b : Bool) → IsSound (state_of (unchanged image) file) → IsSound (cond b (settled entry.1) (state_of (unchanged image) file))
    chosen true rest = sound_settled entry.1
    chosen false rest = rest

pub sound_now : (past : Past) (file : ℕ) → IsSound (state_of (files_now past) file)
sound_now past = sound_replayed (unchanged past.first) past.changes (sound_unchanged past.first)

-- a crash may leave what the files hold
pub held_stays : (past : Past) → MayLeave past (held_now past)
held_stays past file = subst (MayBeLeft (state_of (files_now past) file)) (sym (bytes_of-held (files_now past) file)) (sound_now past file).stays

-- this moment is one of those since an earlier one
pub left_now : (past : Past) (since : ℕ) (image : Image) → since ≤ length past.changes → MayLeave past image → LeftSince past since image
left_now past since image earlier left =
    let all : take (length past.changes) past.changes ≡ past.changes = take_all (length past.changes) past.changes (omega arith) in
    (length past.changes, earlier, omega arith, subst (λ (changes : List Change). IsLeft (replayed (unchanged past.first) changes) image) (sym all) left)

-- since this moment there is no other
pub only_left_now : (past : Past) (image : Image) → LeftSince past (length past.changes) image → MayLeave past image
only_left_now past image left =
    let all : take left.0 past.changes ≡ past.changes = take_all left.0 past.changes left.1 in
    subst (λ (changes : List Change). IsLeft (replayed (unchanged past.first) changes) image) all left.3
