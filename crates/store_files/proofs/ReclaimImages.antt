-- What a crash within a reclaim leaves, once its files were emptied: the list is committed without them.
use Rattle.std.proofs.Common.{◌≡◌, ◌⊎◌, inl, inr, ℕ, ◌<◌, ◌≤◌, List, [], Some, Option, sym, ◌∙◌, subst, arith}
use Rattle.std.specs.List.{Contains}
use Rattle.std.proofs.lemmas.Bool.{cases_lt}
use Rattle.std.proofs.lemmas.List.Elements.{Contains-append_left}
use Rattle.disk_model.specs.Images.{Image, bytes_of}
use Rattle.disk_model.specs.Crash.{OnlyBytes, Run}
use Rattle.disk_model.proofs.Runs.{run_more, run_on}
use Rattle.block_list.specs.Body.{MeetsRules, files_of, successor}
use Rattle.block_list.specs.Commit.{ImageHoldsEither, WritesSlot}
use Rattle.block_list.specs.Loading.{IsReady}
use Rattle.block_list.specs.declared.body.ListBody.{ListBody}
use Rattle.store_images.specs.Stored.{KeepsStored, named_files, next_file_of}
use Rattle.store_images.proofs.Keeping.{rules_in, given_out, one_list, keeps_then}
use Rattle.store_files.specs.Loose.{MayEmpty, next_with, used_files}
use Rattle.store_files.proofs.LooseFiles.{origin_holds, stands_moved, renewed}

-- The next list names each file that the old one named, and each one that was given out since, but for files that are empty in every image.
module _ (held : Image) (may_leave : Image → Type 0) (body : ListBody) (ready : IsReady held may_leave (Some body)) (next_file : ℕ) (loose : List ℕ)
    (named : (file : ℕ) → Contains (files_of body) file ⊎ ((body.next_file ≤ file) × (file < next_file))
    → Contains (files_of (renewed body (successor body.generation) next_file loose)) file ⊎ OnlyBytes file [] may_leave) where
  abbrev next : ListBody
  next = renewed body (successor body.generation) next_file loose

  rules : MeetsRules body
  rules = rules_in held body ready.stands

  pub renewed_keeps : (slot : ℕ) (origin image : Image) → slot < 2 → may_leave origin → WritesSlot slot (ImageHoldsEither (Some body) next) origin image → KeepsStored origin image
  renewed_keeps slot origin image below possible writes =
      let there = origin_holds held may_leave body ready origin possible in
      let same : (file : ℕ) → 2 ≤ file → bytes_of image file ≡ bytes_of origin file = λ file low. writes.besides file (λ is. omega (arith, low, is, below)) in
      let used : (file : ℕ) → Contains (used_files body) file → bytes_of image file ≡ bytes_of origin file =
      λ file c. same file (given_out body file rules (Contains-append_left (used_files body) body.loose file c)).0 in
      let by_name : (file : ℕ) → 2 ≤ file → Contains (files_of next) file ⊎ OnlyBytes file [] may_leave → (bytes_of image file ≡ []) ⊎ Contains (files_of next) file =
      λ file low d. elim d [ inl n ↦ inr n | inr empty ↦ inl (same file low ∙ empty origin possible) ] in
      record {
        stands = λ h s. elim writes.list [
          | inl old ↦ stands_moved origin image body body.generation body.next_file body.loose used old there h s
          | inr new ↦ stands_moved origin image body (successor body.generation) next_file loose used new there h s
        ];
        only = λ h s. elim writes.list [
          | inl old ↦ stands_moved image origin body body.generation body.next_file body.loose (λ file c. sym (used file c)) there old h s
          | inr new ↦ stands_moved image origin next body.generation body.next_file body.loose (λ file c. sym (used file c)) there new h s
        ];
        tidy = λ t.
            let its : t.list ≡ Some body = one_list origin t.list (Some body) t.counts there in
            let files : (file : ℕ) → 2 ≤ file → file < body.next_file → (bytes_of origin file ≡ []) ⊎ Contains (files_of body) file =
            subst (λ (l : Option ListBody). (file : ℕ) → 2 ≤ file → file < next_file_of l → (bytes_of origin file ≡ []) ⊎ Contains (named_files l) file) its t.files in
            elim writes.list [
              | inl old ↦ record {
                list = Some body;
                counts = old;
                files = λ file low given. elim (files file low given) [ inl empty ↦ inl (same file low ∙ empty) | inr is ↦ inr is ];
              }
              | inr new ↦ record {
                list = Some next;
                counts = new;
                files = λ file low given. elim (cases_lt file body.next_file) [
                  | inl under ↦ elim (files file low under) [ inl empty ↦ inl (same file low ∙ empty) | inr is ↦ by_name file low (named file (inl is)) ]
                  | inr over ↦ by_name file low (named file (inr (over, given)))
                ];
              }
            ];
      }

-- ---- runs

module _ {D : Type 0} (moment : D → ℕ) (left_since : D → ℕ → Image → Type 0) (may_leave : D → Image → Type 0) where
  -- files were emptied, and the next list is committed without them
  pub committed_next : (old mid new : D) (held : Image) (body : ListBody) (next_file : ℕ) (loose files : List ℕ) (slot : ℕ) → Run KeepsStored moment left_since may_leave old mid
      → IsReady held (may_leave mid) (Some body) → ((file : ℕ) → Contains files file → OnlyBytes file [] (may_leave mid)) → MayEmpty body next_file loose files → slot < 2
      → Run (WritesSlot slot (ImageHoldsEither (Some body) (next_with body next_file loose))) moment left_since may_leave mid new → Run KeepsStored moment left_since may_leave old new
  committed_next old mid new held body next_file loose files slot first ready emptied may below run =
      run_on moment left_since may_leave KeepsStored old mid new keeps_then first
      (run_more moment left_since may_leave (WritesSlot slot (ImageHoldsEither (Some body) (next_with body next_file loose))) KeepsStored mid new run
      (λ origin image possible writes.
      renewed_keeps held (may_leave mid) body ready next_file loose (λ file given. elim (may.named file given) [ inl named ↦ inl named | inr gone ↦ inr (emptied file gone) ])
      slot origin image below possible writes))
