-- The open compaction, as each machine has it that a core's memory shows.
use Rattle.std.proofs.Common.{◌≡◌, ℕ, ◌≤◌, List, Some, None, Option, IfSome, true, refl, sym, ◌∙◌, ap, subst, arith}
use Rattle.store_model.specs.State.{Compaction, is_among, pin_numbers, pinned_blocks, block_files, compaction_files}
use Rattle.store_model.specs.Sound.{times}
use Rattle.store_model.specs.Holds.{IsOpenCompact}
use Rattle.store_model.specs.Step.{Machine}
use Rattle.store_model.proofs.Numbers.{times_itself}
use Rattle.store_core.specs.Jobs.{ShowsCompaction}
use Rattle.store_files.specs.Loose.{IsSpare}
use Rattle.store_files.specs.Pins.{is_taken, files_at}
use Rattle.store_core.specs.declared.jobs.OpenCompaction.{OpenCompaction}
use Rattle.store_core.specs.declared.state.CoreState.{CoreState}
use Rattle.store_core.specs.Cores.{HasState}

-- what the model has of a compaction that is known
abbrev pub model_of : OpenCompaction → Compaction
model_of known = record { number = known.number; file = known.file; level = known.level; pin = known.pin }

-- The compaction with this number, file, level and pin is open, the core knows it, and its pin names these files.
pub record IsCompactionHere (core : CoreState) (m : Machine) (number file level pin : ℕ) (files : List ℕ) : Type 0 where
  pub mine : OpenCompaction
  pub known : core.jobs.compaction ≡ Some mine
  pub is_open : m.state.compaction ≡ Some (model_of mine)
  pub its_number : mine.number ≡ number
  pub its_file : mine.file ≡ file
  pub its_level : mine.level ≡ level
  pub its_pin : mine.pin ≡ pin
  pub open_pin : is_among pin (pin_numbers m.state.pins) ≡ true
  pub its_files : block_files (pinned_blocks pin m.state.pins) ≡ files
  pub taken : is_taken pin core.pins.items ≡ true
  pub named : files_at pin core.pins.items ≡ files

some_is : (a b : Compaction) → Some a ≡ Some b → a ≡ b
some_is a b is = cc

shown_is : (known : Option OpenCompaction) (compaction : Option Compaction) (job : Compaction) → ShowsCompaction known compaction → compaction ≡ Some job
    → (mine : OpenCompaction) × (known ≡ Some mine) × (model_of mine ≡ job)
shown_is None compaction job none is = absurd (let bad : None ≡ Some job = sym none ∙ is in cc)
shown_is (Some mine) compaction job shown is = (mine, refl, some_is (model_of mine) job (sym shown ∙ is))

-- the model has what the core knows
pub shown_here : (core : CoreState) (m : Machine) (mine : OpenCompaction) → HasState core m → core.jobs.compaction ≡ Some mine → m.state.compaction ≡ Some (model_of mine)
shown_here core m mine has known = subst (λ (k : Option OpenCompaction). ShowsCompaction k m.state.compaction) known has.compaction

-- A compaction that is open in one machine which the core's memory shows is open in each.
pub compaction_here : (core : CoreState) (m0 m : Machine) (number file level pin : ℕ) (files : List ℕ) → HasState core m0 → IsOpenCompact m0 (record { number = number; file = file; level = level; pin = pin; files = files }) → HasState core m
    → IsCompactionHere core m number file level pin files
compaction_here core m0 m number file level pin files its is has =
    let there = shown_is core.jobs.compaction m0.state.compaction is.job its.compaction is.is_open in
    record {
      mine = there.0;
      known = there.1;
      is_open = shown_here core m there.0 has there.1;
      its_number = ap (λ (j : Compaction). j.number) there.2 ∙ is.its_number;
      its_file = ap (λ (j : Compaction). j.file) there.2 ∙ is.its_file;
      its_level = ap (λ (j : Compaction). j.level) there.2 ∙ is.its_level;
      its_pin = ap (λ (j : Compaction). j.pin) there.2 ∙ is.its_pin;
      open_pin = has.pins pin ∙ sym (its.pins pin) ∙ is.open_pin;
      its_files = has.pinned pin ∙ sym (its.pinned pin) ∙ is.its_files;
      taken = sym (its.pins pin) ∙ is.open_pin;
      named = sym (its.pinned pin) ∙ is.its_files;
    }

pub open_there : (core : CoreState) (m : Machine) (number file level pin : ℕ) (files : List ℕ) → IsCompactionHere core m number file level pin files → IsOpenCompact m (record { number = number; file = file; level = level; pin = pin; files = files })
open_there core m number file level pin files here = record {
  job = model_of here.mine;
  is_open = here.is_open;
  its_number = here.its_number;
  its_file = here.its_file;
  its_level = here.its_level;
  its_pin = here.its_pin;
  open_pin = here.open_pin;
  its_files = here.its_files;
}

-- its file is a spare one of the list
pub spare_compaction : (core : CoreState) (m : Machine) (mine : OpenCompaction) → HasState core m → core.jobs.compaction ≡ Some mine → IsSpare core.list mine.file
spare_compaction core m mine has known = subst (λ (k : Option OpenCompaction). IfSome k (λ job. IsSpare core.list job.file)) known has.jobs.compaction

-- and has its use as the compaction's
pub file_of_compaction : (core : CoreState) (m : Machine) (mine : OpenCompaction) → HasState core m → core.jobs.compaction ≡ Some mine → 1 ≤ times mine.file (compaction_files m.state.compaction)
file_of_compaction core m mine has known =
    subst (λ (o : Option Compaction). 1 ≤ times mine.file (compaction_files o)) (sym (shown_here core m mine has known)) (let one = times_itself mine.file in omega (arith, one))
