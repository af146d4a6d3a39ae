-- A disk in memory counts its calls as a device does.
use Rattle.std.proofs.Common.{◌≡◌, ℕ, ◌^◌, ◌<◌, ◌≤◌, true, Result, Ok, Err, IsOk, IsErr, refl, sym, ◌∙◌, ap, subst, arith}
use Rattle.disk_model.specs.Counts.{Kind, Plain, Reading, Writing, IsFar, Raised, CountsRead, IsOneCall}
use Rattle.disk_model.specs.History.{Past}
use Rattle.disk_model.specs.Memory.{CountsFit, Answer, Outcome, past_of, faults_of, calls_of, reads_of, far_writes_of, passed, failed, refused, read_once, noted}
use Rattle.disk_model.specs.Memory.Answer.{given, failing}
use Rattle.disk_model.specs.Memory.Outcome.{passes, listed, stopped, starves}
use Rattle.disk_model.specs.Script.{raised}
use Rattle.disk_model.specs.declared.change.Change.{Change}
use Rattle.disk_model.specs.declared.memory.MemDisk.{MemDisk}

pub not_both : {T E : Type 0} (r : Result T E) → IsOk r → IsErr r → ⊥
not_both (Ok x) ok err = absurd (cc)
not_both (Err e) ok err = absurd (cc)

-- a device's fact about a call of a disk in memory
abbrev pub Met : {T E : Type 0} → Kind → MemDisk → MemDisk → Result T E → Type 0
Met kind old new result = IsOneCall (λ _. true) (λ disk. disk.faults) (λ disk. disk.calls) (λ disk. disk.reads) (λ disk. disk.far_writes) kind old new result

raised_is : (before now : ℕ) → before < 2 ^ 64 → now ≡ raised before → Raised before now
raised_is before now fits e = record { later = omega (arith, e, fits); is = e }

module _ {T E : Type 0} (kind : Kind) (old new : MemDisk) (result : Result T E) (not_far : IsFar kind → ⊥) (fits : CountsFit old) where
  met_ok : IsOk result → (new.faults ≡ old.faults) → (new.calls ≡ raised old.calls) → CountsRead kind old.reads new.reads → new.far_writes ≡ old.far_writes → Met kind old new result
  met_ok ok f c r w = record {
    telling = refl;
    quiet = λ _. f;
    fault = λ err. absurd (not_both result ok err);
    call = raised_is old.calls new.calls fits.calls c;
    read = r;
    near = λ _. w;
    far = λ far. absurd (not_far far);
  }

  met_err : IsErr result → (new.faults ≡ raised old.faults) → (new.calls ≡ raised old.calls) → CountsRead kind old.reads new.reads → new.far_writes ≡ old.far_writes → Met kind old new result
  met_err err f c r w = record {
    telling = refl;
    quiet = λ ok. absurd (not_both result ok err);
    fault = λ _. raised_is old.faults new.faults fits.faults f;
    call = raised_is old.calls new.calls fits.calls c;
    read = r;
    near = λ _. w;
    far = λ far. absurd (not_far far);
  }

pub len_met : {T E : Type 0} (old new : MemDisk) (result : Result T E) → CountsFit old → Answer old (λ disk. disk) result new → Met Plain old new result
len_met old new result fits (given f ok e) = met_ok Plain old new result (λ far. far) fits ok (ap faults_of e) (ap calls_of e) (ap reads_of e) (ap far_writes_of e)
len_met old new result fits (failing f err e) = met_err Plain old new result (λ far. far) fits err (ap faults_of e) (ap calls_of e) (ap reads_of e) (ap far_writes_of e)

pub read_met : {T E : Type 0} (old new : MemDisk) (result : Result T E) → CountsFit old → Answer old read_once result new → Met Reading old new result
read_met old new result fits (given f ok e) = met_ok Reading old new result (λ far. far) fits ok (ap faults_of e) (ap calls_of e) (raised_is old.reads new.reads fits.reads (ap reads_of e)) (ap far_writes_of e)
read_met old new result fits (failing f err e) = met_err Reading old new result (λ far. far) fits err (ap faults_of e) (ap calls_of e) (raised_is old.reads new.reads fits.reads (ap reads_of e)) (ap far_writes_of e)

-- a change leaves the counts alone
pub record LeavesCounts (change : MemDisk → MemDisk) : Type 0 where
  pub faults : (disk : MemDisk) → (change disk).faults ≡ disk.faults
  pub calls : (disk : MemDisk) → (change disk).calls ≡ disk.calls
  pub reads : (disk : MemDisk) → (change disk).reads ≡ disk.reads
  pub far_writes : (disk : MemDisk) → (change disk).far_writes ≡ disk.far_writes

pub noted_counts : (change : Change) → LeavesCounts (noted change)
noted_counts change = record { faults = λ disk. refl; calls = λ disk. refl; reads = λ disk. refl; far_writes = λ disk. refl }

pub same_counts : LeavesCounts (λ disk. disk)
same_counts = record { faults = λ disk. refl; calls = λ disk. refl; reads = λ disk. refl; far_writes = λ disk. refl }

-- a write that ends near enough, a cut or a sync
pub change_met : {T E : Type 0} (kind : Kind) (old new : MemDisk) (result : Result T E) (done lost : MemDisk → MemDisk)
    → CountsFit old → (IsFar kind → ⊥) → ((before now : ℕ) → now ≡ before → CountsRead kind before now) → LeavesCounts done → LeavesCounts lost
    → Outcome old done lost result new → Met kind old new result
change_met kind old new result done lost fits not_far no_read same same_lost (passes f ok e) = let d = passed old in
    met_ok kind old new result not_far fits ok (ap faults_of e ∙ same.faults d) (ap calls_of e ∙ same.calls d) (no_read _ _ (ap reads_of e ∙ same.reads d)) (ap far_writes_of e ∙ same.far_writes d)
change_met kind old new result done lost fits not_far no_read same same_lost (listed f err e) = let d = failed old in
    met_err kind old new result not_far fits err (ap faults_of e ∙ same_lost.faults d) (ap calls_of e ∙ same_lost.calls d) (no_read _ _ (ap reads_of e ∙ same_lost.reads d)) (ap far_writes_of e ∙ same_lost.far_writes d)
change_met kind old new result done lost fits not_far no_read same same_lost (stopped f err e) =
    met_err kind old new result not_far fits err (ap faults_of e) (ap calls_of e) (no_read _ _ (ap reads_of e)) (ap far_writes_of e)
change_met kind old new result done lost fits not_far no_read same same_lost (starves f err e) =
    met_err kind old new result not_far fits err (ap faults_of e) (ap calls_of e) (no_read _ _ (ap reads_of e)) (ap far_writes_of e)

-- a write that ends too far
pub far_met : {T E : Type 0} (end : ℕ) (old new : MemDisk) (result : Result T E) → CountsFit old → 2 ^ 63 ≤ end → IsErr result → new ≡ refused old → Met (Writing end) old new result
far_met end old new result fits far err e = record {
  telling = refl;
  quiet = λ ok. absurd (not_both result ok err);
  fault = λ _. raised_is old.faults new.faults fits.faults (ap faults_of e);
  call = raised_is old.calls new.calls fits.calls (ap calls_of e);
  read = ap reads_of e;
  near = λ near. absurd (omega (arith, near, far));
  far = λ _. raised_is old.far_writes new.far_writes fits.far_writes (ap far_writes_of e);
}

-- a call that changes no file leaves what was made of them
pub answer_past : {T E : Type 0} (old new : MemDisk) (result : Result T E) (P : Past → Type 0) → Answer old (λ disk. disk) result new → P old.history → P new.history
answer_past old new result P (given f ok e) was = subst P (sym (ap past_of e)) was
answer_past old new result P (failing f err e) was = subst P (sym (ap past_of e)) was

pub read_past : {T E : Type 0} (old new : MemDisk) (result : Result T E) (P : Past → Type 0) → Answer old read_once result new → P old.history → P new.history
read_past old new result P (given f ok e) was = subst P (sym (ap past_of e)) was
read_past old new result P (failing f err e) was = subst P (sym (ap past_of e)) was
