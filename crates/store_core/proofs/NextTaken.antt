-- The list that the next commit makes, where the room of the commit was taken from the jobs.
use Rattle.std.proofs.Common.{◌≡◌, ℕ, ◌*◌, ◌≤◌, List, [], ◌∷◌, ◌++◌, map, None, Some, Option, IfSome, IsSome, true, false, refl, sym, ◌∙◌, ap, subst}
use Rattle.std.proofs.lemmas.List.{append-nil}
use Rattle.std.specs.Vec.{vec_len}
use Rattle.block_list.specs.declared.body.BlockRef.{BlockRef}
use Rattle.block_list.specs.declared.body.ListBody.{ListBody}
use Rattle.store_model.specs.After.{released}
use Rattle.store_state.specs.Edited.{Edit, IsEdited}
use Rattle.store_state.specs.Listed.{segment_of}
use Rattle.store_state.specs.Parted.{inside}
use Rattle.store_state.specs.declared.listing.FlushFiles.{FlushFiles}
use Rattle.store_state.proofs.Listings.{inside_none, outside_none}
use Rattle.store_core.specs.Jobs.{CommitFits, FitsEdit, files_of_compaction, files_of_flush, open_jobs}
use Rattle.store_core.specs.NextList.{IsNextList, IsJoinedList, length_of, next_floor}
use Rattle.store_core.specs.declared.jobs.OpenCompaction.{OpenCompaction}
use Rattle.store_core.specs.declared.room.CommitRoom.{CommitRoom}
use Rattle.store_core.specs.declared.state.CoreState.{CoreState}
use Rattle.store_core.proofs.States.{ref_to}

-- ---- the edit of a commit, from what was read of the core

abbrev pub block_and_segment : FlushFiles → (rows next_file first floor : ℕ) (loose others : List ℕ) → Edit
block_and_segment files rows next_file first floor loose others = record {
  next_file = next_file;
  loose = loose;
  joined = [];
  block = Some (record { file = files.block; level = 0; rows = rows });
  segment = Some (record { segment = record { file = files.segment; first = first }; floor = floor });
  others = others;
}

pub as_next : (core : CoreState) (files mine : FlushFiles) (rows next_file first floor : ℕ) (loose others : List ℕ) (next : ListBody)
    → mine ≡ files → next_file ≡ core.jobs.next_file → loose ≡ core.jobs.loose.items → first ≡ length_of core → floor ≡ next_floor core → others ≡ files_of_compaction core.jobs.compaction
    → IsEdited core.list (block_and_segment mine rows next_file first floor loose others) next → IsNextList core files rows next
as_next core files mine rows next_file first floor loose others next same_files same_next same_loose same_first same_floor same_others after =
    subst (λ (e : Edit). IsEdited core.list e next)
    (ap (λ (f : FlushFiles). block_and_segment f rows next_file first floor loose others) same_files
    ∙ ap (λ (n : ℕ). block_and_segment files rows n first floor loose others) same_next
    ∙ ap (λ (n : ℕ). block_and_segment files rows core.jobs.next_file n floor loose others) same_first
    ∙ ap (λ (n : ℕ). block_and_segment files rows core.jobs.next_file (length_of core) n loose others) same_floor
    ∙ ap (λ (l : List ℕ). block_and_segment files rows core.jobs.next_file (length_of core) (next_floor core) l others) same_loose
    ∙ ap (λ (l : List ℕ). block_and_segment files rows core.jobs.next_file (length_of core) (next_floor core) core.jobs.loose.items l) same_others) after

abbrev pub block_for : (joined : List ℕ) (file level rows next_file : ℕ) (loose others : List ℕ) → Edit
block_for joined file level rows next_file loose others = record {
  next_file = next_file;
  loose = loose;
  joined = joined;
  block = Some (record { file = file; level = level; rows = rows });
  segment = None;
  others = others;
}

pub as_joined : (core : CoreState) (known : OpenCompaction) (joined : List ℕ) (file level rows next_file : ℕ) (loose others : List ℕ) (next : ListBody)
    → file ≡ known.file → level ≡ known.level → next_file ≡ core.jobs.next_file → loose ≡ core.jobs.loose.items → others ≡ files_of_flush core.jobs.flush
    → IsEdited core.list (block_for joined file level rows next_file loose others) next → IsJoinedList core known joined rows next
as_joined core known joined file level rows next_file loose others next same_file same_level same_next same_loose same_others after =
    subst (λ (e : Edit). IsEdited core.list e next)
    (ap (λ (n : ℕ). block_for joined n level rows next_file loose others) same_file
    ∙ ap (λ (n : ℕ). block_for joined known.file n rows next_file loose others) same_level
    ∙ ap (λ (n : ℕ). block_for joined known.file known.level rows n loose others) same_next
    ∙ ap (λ (l : List ℕ). block_for joined known.file known.level rows core.jobs.next_file l others) same_loose
    ∙ ap (λ (l : List ℕ). block_for joined known.file known.level rows core.jobs.next_file core.jobs.loose.items l) same_others) after

-- the room of a job's commit is enough
pub room_fits : (core : CoreState) (room taken : CommitRoom) (loose others : ℕ) → room ≡ taken → loose ≡ vec_len core.jobs.loose → 1 ≤ open_jobs core.jobs → others ≤ 2 * open_jobs core.jobs
    → CommitFits room core.list (vec_len core.jobs.loose) (open_jobs core.jobs) → FitsEdit taken core.list loose others
room_fits core room taken loose others same len some few fits = (
  open_jobs core.jobs,
  some,
  few,
  subst (λ (r : CommitRoom). CommitFits r core.list loose (open_jobs core.jobs)) same (subst (λ (n : ℕ). CommitFits room core.list n (open_jobs core.jobs)) (sym len) fits),
)

-- ---- by a flush no block goes, and by a compaction no segment

pub flush_blocks : (core : CoreState) (files : FlushFiles) (rows : ℕ) (next : ListBody) → IsNextList core files rows next
    → next.blocks ≡ core.list.blocks ++ record { file = files.block; level = 0; rows = rows } ∷ []
flush_blocks core files rows next is = is.blocks ∙ ap (λ (l : List BlockRef). l ++ record { file = files.block; level = 0; rows = rows } ∷ []) (outside_none core.list.blocks)

pub flush_loose : (core : CoreState) (files : FlushFiles) (rows : ℕ) (next : ListBody) → IsNextList core files rows next
    → next.loose ≡ (core.jobs.loose.items ++ released (next_floor core) (map segment_of (core.list.segments ++ ref_to files.segment (length_of core) ∷ []))) ++ files_of_compaction core.jobs.compaction
flush_loose core files rows next is =
    is.its_loose
    ∙ ap (λ (l : List ℕ). ((core.jobs.loose.items ++ l) ++ released (next_floor core) (map segment_of (core.list.segments ++ ref_to files.segment (length_of core) ∷ []))) ++ files_of_compaction core.jobs.compaction)
    (inside_none core.list.blocks)
    ∙ ap (λ (l : List ℕ). (l ++ released (next_floor core) (map segment_of (core.list.segments ++ ref_to files.segment (length_of core) ∷ []))) ++ files_of_compaction core.jobs.compaction)
    (append-nil core.jobs.loose.items)

pub joined_loose : (core : CoreState) (known : OpenCompaction) (joined : List ℕ) (rows : ℕ) (next : ListBody) → IsJoinedList core known joined rows next
    → next.loose ≡ (core.jobs.loose.items ++ inside joined core.list.blocks) ++ files_of_flush core.jobs.flush
joined_loose core known joined rows next is = is.its_loose ∙ ap (λ (l : List ℕ). l ++ files_of_flush core.jobs.flush) (append-nil (core.jobs.loose.items ++ inside joined core.list.blocks))

-- ---- options

pub room_is : (a b : CommitRoom) → Some a ≡ Some b → a ≡ b
room_is a b is = cc

pub some_of : {X : Type 0} (o : Option X) → IsSome o → (x : X) × (o ≡ Some x)
some_of None bad = absurd (let worse : false ≡ true = bad in cc)
some_of (Some x) is = (x, refl)

pub if_some : {X : Type 0} (P : X → Type 0) (o : Option X) (x : X) → o ≡ Some x → IfSome o P → P x
if_some {X} P o x is holds = subst (λ (k : Option X). IfSome k P) is holds

pub to_some : {X : Type 0} (P : X → Type 0) (o : Option X) (x : X) → o ≡ Some x → P x → IfSome o P
to_some {X} P o x is holds = subst (λ (k : Option X). IfSome k P) (sym is) holds
