-- What a refused opening leaves as it was.
use Rattle.std.proofs.Common.{◌≡◌, inl, ℕ, ◌<◌, ◌≤◌, IsTrue, Option, subst}
use Rattle.disk_model.specs.Images.{Image, bytes_of, SameBytes}
use Rattle.disk_model.specs.Crash.{Run, Untouched}
use Rattle.disk_model.specs.declared.disk.Device.{Ghosts}
use Rattle.disk_model.proofs.Runs.{run_on, run_untouched}
use Rattle.block_list.specs.Slots.{ImageHoldsList}
use Rattle.block_list.specs.Loading.{StaysOrClears, KeepsList, IsReady}
use Rattle.block_list.specs.declared.body.ListBody.{ListBody}
use Rattle.block_list.proofs.LoadLemmas.{keeps_same, keeps_trans}
use Rattle.store_images.proofs.Keeping.{slots_same, one_list}
use Rattle.store_core.specs.Opening.{LeavesAlone}

keeps_bytes : (a b : Image) → SameBytes a b → KeepsList a b
keeps_bytes a b same = record {
  list = λ found holds. slots_same a b found (λ slot below. same slot) holds;
  slots = λ slot below. inl (same slot);
  files = λ file low. same file;
}

module _ {D : Type 0} (g : Ghosts D) where
  pub left_untouched : (old new : D) → IsTrue (g.tells old) → Untouched g.tells g.held g.may_leave g.moment g.left_since old new → LeavesAlone g old new
  left_untouched old new told untouched = record {
    images = run_untouched g.tells g.held g.may_leave g.moment g.left_since KeepsList old new keeps_same untouched;
    bytes = keeps_bytes (g.held old) (g.held new) (untouched.same_bytes told);
  }

  -- the list was loaded
  pub left_loaded : (old mid : D) (list : Option ListBody) → Run KeepsList g.moment g.left_since g.may_leave old mid → ImageHoldsList (g.held old) list → IsReady (g.held mid) (g.may_leave mid) list
      → ((slot : ℕ) → slot < 2 → StaysOrClears (bytes_of (g.held old) slot) (bytes_of (g.held mid) slot)) → ((file : ℕ) → 2 ≤ file → bytes_of (g.held mid) file ≡ bytes_of (g.held old) file)
      → LeavesAlone g old mid
  left_loaded old mid list run there ready slots files = record {
    images = run;
    bytes = record {
      list = λ found holds. subst (λ (l : Option ListBody). ImageHoldsList (g.held mid) l) (one_list (g.held old) list found there holds) ready.stands;
      slots = slots;
      files = files;
    };
  }

  pub left_then : (old mid new : D) → LeavesAlone g old mid → LeavesAlone g mid new → LeavesAlone g old new
  left_then old mid new first second = record {
    images = run_on g.moment g.left_since g.may_leave KeepsList old mid new keeps_trans first.images second.images;
    bytes = keeps_trans (g.held old) (g.held mid) (g.held new) first.bytes second.bytes;
  }
