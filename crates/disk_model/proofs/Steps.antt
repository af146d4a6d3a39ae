-- What the trait says of a call, from what the call made of the disk.
use Rattle.std.proofs.Common.{◌≡◌, inl, inr, ℕ, ◌<◌, ◌≤◌, max, Bool, cond, eqb, List, [], ◌∷◌, ◌++◌, length, take, Result, Ok, Err, IsOk, IsErr, OnOk, refl, sym, ◌∙◌, ap, subst, arith}
use Rattle.std.proofs.lemmas.Bool.{cases_eq, cases_lt, eq-eqb, ne_eqb}
use Rattle.std.proofs.lemmas.List.{take_all, take-append-le, length_push}
use Rattle.disk_model.specs.Images.{Image, bytes_of, Besides, SameBytes, OnFile}
use Rattle.disk_model.specs.Bytes.{overwritten, Torn, HalfCut}
use Rattle.disk_model.specs.BytesLaws.{length-overwritten}
use Rattle.disk_model.specs.Crash.{Follows, Within, OnlyBytes, Elapses}
use Rattle.disk_model.specs.Files.{FileState, MayBeLeft, settled, wrote, lost_write, cut_to, lost_cut}
use Rattle.disk_model.specs.History.{Past, Files, state_of, file_of, changed, after, replayed, unchanged, files_now, held_now, IsLeft, MayLeave, LeftSince, added}
use Rattle.disk_model.specs.HistoryLaws.{sound_now, state_of-updated, bytes_of-held, replayed-append}
use Rattle.disk_model.specs.Memory.{Outcome, noted}
use Rattle.disk_model.specs.Memory.Outcome.{passes, listed, stopped, starves}
use Rattle.disk_model.proofs.Counting.{not_both}
use Rattle.disk_model.proofs.Torn.{torn_from, cut_from, only_settled, reached}
use Rattle.disk_model.specs.declared.change.Change.{Change}
use Rattle.disk_model.specs.declared.change.Change.TheVariants.{Write, LostWrite, Cut, LostCut, Sync}
use Rattle.disk_model.specs.declared.memory.MemDisk.{MemDisk}

-- the files after one change more
files_added : (past : Past) (change : Change) → files_now (added past change) ≡ after (files_now past) change
files_added past change = replayed-append (unchanged past.first) past.changes change

state_added : (past : Past) (change : Change) (file : ℕ) → state_of (files_now (added past change)) file ≡ cond (eqb (file_of change) file) (changed change (state_of (files_now past) (file_of change))) (state_of (files_now past) file)
state_added past change file = ap (λ (files : Files). state_of files file) (files_added past change) ∙ state_of-updated (files_now past) (file_of change) (changed change) file

-- what the changed file then holds
pub held_added : (past : Past) (change : Change) → bytes_of (held_now (added past change)) (file_of change) ≡ (changed change (state_of (files_now past) (file_of change))).held
held_added past change =
    let f = file_of change in
    bytes_of-held (files_now (added past change)) f
    ∙ ap (λ (s : FileState). s.held) (state_added past change f ∙ ap (λ (b : Bool). cond b (changed change (state_of (files_now past) f)) (state_of (files_now past) f)) (eq-eqb f f refl))

-- and every other
pub besides_added : (past : Past) (change : Change) → Besides (file_of change) (held_now past) (held_now (added past change))
besides_added past change other differs =
    let f = file_of change in
    bytes_of-held (files_now (added past change)) other
    ∙ ap (λ (s : FileState). s.held) (state_added past change other ∙ ap (λ (b : Bool). cond b (changed change (state_of (files_now past) f)) (state_of (files_now past) other)) (ne_eqb f other (λ e. differs (sym e))))
    ∙ sym (bytes_of-held (files_now past) other)

pub wrote_bytes : (past : Past) (file at : ℕ) (bytes : List ℕ) → bytes_of (held_now (added past (Write file at bytes))) file ≡ overwritten (bytes_of (held_now past) file) at bytes
wrote_bytes past file at bytes = held_added past (Write file at bytes) ∙ ap (λ (b : List ℕ). overwritten b at bytes) (sym (bytes_of-held (files_now past) file))

pub cut_bytes : (past : Past) (file len : ℕ) → bytes_of (held_now (added past (Cut file len))) file ≡ take len (bytes_of (held_now past) file)
cut_bytes past file len = held_added past (Cut file len) ∙ ap (λ (b : List ℕ). take len b) (sym (bytes_of-held (files_now past) file))

-- a sync changes no bytes
pub synced_same : (past : Past) (file : ℕ) → SameBytes (held_now past) (held_now (added past (Sync file)))
synced_same past file other = elim (cases_eq other file) [
  | inl same ↦ subst (λ (n : ℕ). bytes_of (held_now (added past (Sync file))) n ≡ bytes_of (held_now past) n) (sym same) (held_added past (Sync file) ∙ sym (bytes_of-held (files_now past) file))
  | inr differs ↦ besides_added past (Sync file) other differs
]

left_added : (past : Past) (change : Change) (image : Image) → MayLeave (added past change) image → IsLeft (after (files_now past) change) image
left_added past change image left = subst (λ (files : Files). IsLeft files image) (files_added past change) left

-- what a crash may leave after a call
pub same_follows : (file : ℕ) (step : List ℕ → List ℕ → Type 0) → ((bytes : List ℕ) → step bytes bytes) → (past : Past) → Follows (OnFile file step) (MayLeave past) (MayLeave past)
same_follows file step same past image left = (image, left, record { besides = λ other differs. refl; changed = same (bytes_of image file) })

pub write_follows : (past : Past) (file at : ℕ) (bytes : List ℕ) → Follows (OnFile file (Torn at (length bytes))) (MayLeave past) (MayLeave (added past (Write file at bytes)))
write_follows past file at bytes image left =
    let s = state_of (files_now past) file in
    let sound = sound_now past file in
    reached (files_now past) file (wrote at bytes) (Torn at (length bytes))
    (λ given may. torn_from at (length bytes) (max s.greatest (length (overwritten s.held at bytes))) (overwritten s.held at bytes) given s sound
    (omega (arith, length-overwritten s.held at bytes, sound.stays.no_longer)) may)
    image (left_added past (Write file at bytes) image left)

pub lost_write_follows : (past : Past) (file at len : ℕ) → Follows (OnFile file (Torn at len)) (MayLeave past) (MayLeave (added past (LostWrite file at len)))
lost_write_follows past file at len image left =
    let s = state_of (files_now past) file in
    reached (files_now past) file (lost_write at len) (Torn at len)
    (λ given may. torn_from at len s.greatest s.held given s (sound_now past file) (omega arith) may)
    image (left_added past (LostWrite file at len) image left)

pub cut_follows : (past : Past) (file len : ℕ) → Follows (OnFile file (HalfCut len)) (MayLeave past) (MayLeave (added past (Cut file len)))
cut_follows past file len image left =
    let s = state_of (files_now past) file in
    reached (files_now past) file (cut_to len) (HalfCut len)
    (λ given may. cut_from len (take len s.held) given s (sound_now past file) may)
    image (left_added past (Cut file len) image left)

pub lost_cut_follows : (past : Past) (file len : ℕ) → Follows (OnFile file (HalfCut len)) (MayLeave past) (MayLeave (added past (LostCut file len)))
lost_cut_follows past file len image left =
    let s = state_of (files_now past) file in
    reached (files_now past) file (lost_cut len) (HalfCut len)
    (λ given may. cut_from len s.held given s (sound_now past file) may)
    image (left_added past (LostCut file len) image left)

synced_state : (past : Past) (file : ℕ) → state_of (files_now (added past (Sync file))) file ≡ settled (state_of (files_now past) file).held
synced_state past file = state_added past (Sync file) file ∙ ap (λ (b : Bool). cond b (settled (state_of (files_now past) file).held) (state_of (files_now past) file)) (eq-eqb file file refl)

pub sync_lasting : (past : Past) (file : ℕ) → OnlyBytes file (bytes_of (held_now (added past (Sync file))) file) (MayLeave (added past (Sync file)))
sync_lasting past file image left =
    only_settled (state_of (files_now past) file).held (bytes_of image file) (subst (λ (s : FileState). MayBeLeft s (bytes_of image file)) (synced_state past file) (left file))
    ∙ sym (held_added past (Sync file))

pub sync_within : (past : Past) (file : ℕ) → Within (MayLeave past) (MayLeave (added past (Sync file)))
sync_within past file image left other = elim (cases_eq file other) [
  | inl same ↦
      subst (λ (n : ℕ). MayBeLeft (state_of (files_now past) n) (bytes_of image n)) same
      (subst (λ (b : List ℕ). MayBeLeft (state_of (files_now past) file) b)
      (sym (only_settled (state_of (files_now past) file).held (bytes_of image file) (subst (λ (s : FileState). MayBeLeft s (bytes_of image file)) (synced_state past file) (left file))))
      (sound_now past file).stays)
  | inr differs ↦
      subst (λ (s : FileState). MayBeLeft s (bytes_of image other))
      (state_added past (Sync file) other ∙ ap (λ (b : Bool). cond b (settled (state_of (files_now past) file).held) (state_of (files_now past) other)) (ne_eqb file other differs))
      (left other)
]

-- time over a call that changes nothing
pub same_elapses : (past : Past) → Elapses (length past.changes) (length past.changes) (LeftSince past) (LeftSince past) (MayLeave past)
same_elapses past = record { later = omega arith; nothing_else = λ start image earlier left. inl left; keeps = λ start image earlier left. left }

at_count : (past : Past) (change : Change) (count : ℕ) (image : Image) → count ≤ length past.changes
    → IsLeft (replayed (unchanged past.first) (take count (past.changes ++ change ∷ []))) image → IsLeft (replayed (unchanged past.first) (take count past.changes)) image
at_count past change count image inside left =
    subst (λ (changes : List Change). IsLeft (replayed (unchanged past.first) changes) image) (take-append-le count past.changes (change ∷ []) inside) left

at_end : (past : Past) (change : Change) (count : ℕ) (image : Image) → length past.changes < count
    → IsLeft (replayed (unchanged past.first) (take count (past.changes ++ change ∷ []))) image → MayLeave (added past change) image
at_end past change count image outside left =
    subst (λ (changes : List Change). IsLeft (replayed (unchanged past.first) changes) image)
    (take_all count (past.changes ++ change ∷ []) (omega (arith, outside, length_push past.changes change))) left

-- and over one that makes a change
pub added_elapses : (past : Past) (change : Change) → Elapses (length past.changes) (length (past.changes ++ change ∷ [])) (LeftSince past) (LeftSince (added past change)) (MayLeave (added past change))
added_elapses past change = record {
  later = omega (arith, length_push past.changes change);
  nothing_else = λ start image earlier left. elim (cases_lt (length past.changes) left.0) [
    | inl outside ↦ inr (at_end past change left.0 image outside left.3)
    | inr inside ↦ inl (left.0, left.1, inside, at_count past change left.0 image inside left.3)
  ];
  keeps = λ start image earlier left. (
    left.0,
    left.1,
    omega (arith, left.2, length_push past.changes change),
    subst (λ (changes : List Change). IsLeft (replayed (unchanged past.first) changes) image) (sym (take-append-le left.0 past.changes (change ∷ []) left.2)) left.3,
  );
}

-- what a call made of the changes
module _ {T E : Type 0} (old new : MemDisk) (change : Change) (result : Result T E) where
  -- at `Ok` there is one more
  pub ok_past : (lost : MemDisk → MemDisk) → Outcome old (noted change) lost result new → IsOk result → new.history ≡ added old.history change
  ok_past lost (passes fate ok is) done = ap (λ (d : MemDisk). d.history) is
  ok_past lost (listed fate err is) done = absurd (not_both result done err)
  ok_past lost (stopped fate err is) done = absurd (not_both result done err)
  ok_past lost (starves fate err is) done = absurd (not_both result done err)

  -- there is none more, or this one, or the one that was lost
  pub pasts : (P : Past → Type 0) (loss : Change) → Outcome old (noted change) (noted loss) result new → P old.history → P (added old.history change) → P (added old.history loss) → P new.history
  pasts P loss (passes fate ok is) same done lost = subst P (sym (ap (λ (d : MemDisk). d.history) is)) done
  pasts P loss (listed fate err is) same done lost = subst P (sym (ap (λ (d : MemDisk). d.history) is)) lost
  pasts P loss (stopped fate err is) same done lost = subst P (sym (ap (λ (d : MemDisk). d.history) is)) same
  pasts P loss (starves fate err is) same done lost = subst P (sym (ap (λ (d : MemDisk). d.history) is)) same

  -- where nothing is lost, none or this one
  pub pasts_kept : (P : Past → Type 0) → Outcome old (noted change) (λ d. d) result new → P old.history → P (added old.history change) → P new.history
  pasts_kept P (passes fate ok is) same done = subst P (sym (ap (λ (d : MemDisk). d.history) is)) done
  pasts_kept P (listed fate err is) same done = subst P (sym (ap (λ (d : MemDisk). d.history) is)) same
  pasts_kept P (stopped fate err is) same done = subst P (sym (ap (λ (d : MemDisk). d.history) is)) same
  pasts_kept P (starves fate err is) same done = subst P (sym (ap (λ (d : MemDisk). d.history) is)) same

-- a fact that holds where the result is `Ok`
on_ok : {T E : Type 0} (r : Result T E) (P : Type 0) → (IsOk r → P) → OnOk r P
on_ok (Ok x) P f = f refl
on_ok (Err e) P f = tt

pub ok_any : {T E : Type 0} (r : Result T E) (P : Type 0) → P → OnOk r P
ok_any r P p = on_ok r P (λ ok. p)

pub err_then : {T E : Type 0} (r : Result T E) (P : Type 0) → IsErr r → OnOk r P
err_then r P err = on_ok r P (λ ok. absurd (not_both r ok err))

pub lasts_at_ok : {T E : Type 0} (old new : MemDisk) (file : ℕ) (result : Result T E) → Outcome old (noted (Sync file)) (λ d. d) result new
    → OnOk result (OnlyBytes file (bytes_of (held_now new.history) file) (MayLeave new.history))
lasts_at_ok old new file result outcome = on_ok result (OnlyBytes file (bytes_of (held_now new.history) file) (MayLeave new.history))
    (λ done. subst (λ (p : Past). OnlyBytes file (bytes_of (held_now p) file) (MayLeave p)) (sym (ok_past old new (Sync file) result (λ d. d) outcome done)) (sync_lasting old.history file))

pub cut_at_ok : {T E : Type 0} (old new : MemDisk) (file len : ℕ) (result : Result T E) (lost : MemDisk → MemDisk) → Outcome old (noted (Cut file len)) lost result new
    → OnOk result (bytes_of (held_now new.history) file ≡ take len (bytes_of (held_now old.history) file))
cut_at_ok old new file len result lost outcome = on_ok result (bytes_of (held_now new.history) file ≡ take len (bytes_of (held_now old.history) file))
    (λ done. subst (λ (p : Past). bytes_of (held_now p) file ≡ take len (bytes_of (held_now old.history) file)) (sym (ok_past old new (Cut file len) result lost outcome done)) (cut_bytes old.history file len))

pub written_at_ok : {T E : Type 0} (old new : MemDisk) (file at : ℕ) (bytes : List ℕ) (result : Result T E) (lost : MemDisk → MemDisk) → Outcome old (noted (Write file at bytes)) lost result new
    → OnOk result (bytes_of (held_now new.history) file ≡ overwritten (bytes_of (held_now old.history) file) at bytes)
written_at_ok old new file at bytes result lost outcome = on_ok result (bytes_of (held_now new.history) file ≡ overwritten (bytes_of (held_now old.history) file) at bytes)
    (λ done. subst (λ (p : Past). bytes_of (held_now p) file ≡ overwritten (bytes_of (held_now old.history) file) at bytes) (sym (ok_past old new (Write file at bytes) result lost outcome done)) (wrote_bytes old.history file at bytes))
