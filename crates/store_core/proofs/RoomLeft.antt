-- What a commit leaves to the job that stays open: its files, and room for its end and for its commit.
use Rattle.std.proofs.Common.{◌≡◌, ◌⊎◌, inl, inr, ℕ, ◌+◌, ◌-◌, ◌*◌, ◌≤◌, List, [], ◌∷◌, ◌++◌, length, length-append, take, None, Some, Option, IfSome, refl, sym, ◌∙◌, ap, subst, arith}
use Rattle.std.specs.Prelude.{Vec}
use Rattle.std.specs.List.{Contains}
use Rattle.std.specs.Vec.{vec_len, vec_capacity}
use Rattle.std.specs.declared.alloc.Global.{Global}
use Rattle.std.proofs.Math.Seq.{take-append_seam}
use Rattle.std.proofs.lemmas.List.Elements.{Contains-append_right}
use Rattle.block_info.specs.InfoParts.{InfoParts}
use Rattle.block_list.specs.declared.body.ListBody.{ListBody}
use Rattle.store_model.specs.State.{Flush, Compaction, flush_files, compaction_files}
use Rattle.store_state.specs.Edited.{Edit, IsEdited}
use Rattle.store_state.proofs.Listings.{edited_lengths}
use Rattle.store_images.proofs.Lists.{at_front, behind}
use Rattle.store_core.specs.Jobs.{ShowsFlush, ShowsCompaction, JobsFit, CommitFits, HasCommitRoom, open_jobs, one_if, files_of_flush, files_of_compaction}
use Rattle.store_files.specs.Loose.{IsSpare}
use Rattle.store_core.specs.declared.jobs.Jobs.{Jobs}
use Rattle.store_core.specs.declared.jobs.OpenFlush.{OpenFlush}
use Rattle.store_core.specs.declared.jobs.OpenCompaction.{OpenCompaction}
use Rattle.store_core.specs.declared.room.CommitRoom.{CommitRoom}
use Rattle.store_core.proofs.NextRoom.{one_at_most}

-- ---- files of jobs

pub flush_shown : (known : Option OpenFlush) (flush : Option Flush) → ShowsFlush known flush → flush_files flush ≡ files_of_flush known
flush_shown None flush none = ap flush_files none
flush_shown (Some known) flush shown = ap flush_files shown.1 ∙ ap (λ (n : ℕ). n ∷ shown.0.segment ∷ []) (sym shown.3.block) ∙ ap (λ (n : ℕ). known.files.block ∷ n ∷ []) (sym shown.3.segment)

pub compaction_shown : (known : Option OpenCompaction) (compaction : Option Compaction) → ShowsCompaction known compaction → compaction_files compaction ≡ files_of_compaction known
compaction_shown None compaction none = ap compaction_files none
compaction_shown (Some known) compaction shown = ap compaction_files shown

pub one_of_compaction : (known : Option OpenCompaction) → length (files_of_compaction known) ≡ one_if known
one_of_compaction None = refl
one_of_compaction (Some known) = refl

pub two_of_flush : (known : Option OpenFlush) → length (files_of_flush known) ≡ 2 * one_if known
two_of_flush None = refl
two_of_flush (Some known) = refl

-- the loose files that a list names, without those of the jobs that stay open
pub front_left : (all front others : List ℕ) (count : ℕ) → all ≡ front ++ others → count ≡ length others → take (length all - count) all ≡ front
front_left all front others count is counted =
    let size : length all - count ≡ length front = (let a = ap (λ (l : List ℕ). length l) is in let b = length-append front others in omega (arith, a, b, counted)) in
    subst (λ (n : ℕ). take n all ≡ front) (sym size) (ap (take (length front)) is ∙ take-append_seam front others)

pub spare_compaction : (known : Option OpenCompaction) (list : ListBody) (front : List ℕ) → list.loose ≡ front ++ files_of_compaction known → IfSome known (λ k. IsSpare list k.file)
spare_compaction None list front is = tt
spare_compaction (Some known) list front is =
    inr (subst (λ (l : List ℕ). Contains l known.file) (sym is) (Contains-append_right front (known.file ∷ []) known.file (at_front known.file [])))

pub spare_flush : (known : Option OpenFlush) (list : ListBody) (front : List ℕ) → list.loose ≡ front ++ files_of_flush known → IfSome known (λ k. IsSpare list k.files.block × IsSpare list k.files.segment)
spare_flush None list front is = tt
spare_flush (Some known) list front is =
    let block : ℕ = known.files.block in
    let segment : ℕ = known.files.segment in
    let there : (file : ℕ) → Contains (block ∷ segment ∷ []) file → Contains list.loose file =
    λ file c. subst (λ (l : List ℕ). Contains l file) (sym is) (Contains-append_right front (block ∷ segment ∷ []) file c) in
    (inr (there block (at_front block (segment ∷ []))), inr (there segment (behind segment block (segment ∷ []) (at_front segment []))))

-- ---- room

-- What one commit makes of a list and of the count of its loose files: a block more and a segment more at most, and what it leaves
-- out becomes loose.
pub record GrewByOne (list : ListBody) (loose : ℕ) (next : ListBody) (more : ℕ) : Type 0 where
  pub segments : length next.segments ≤ length list.segments + 1
  pub blocks : length next.blocks ≤ length list.blocks + 1
  pub files : more + length next.segments + length next.blocks ≤ loose + length list.segments + length list.blocks + 2
  pub text : 12 * length next.segments + 9 * length next.blocks + 4 * more ≤ 12 * length list.segments + 9 * length list.blocks + 4 * loose + 21

pub grew_by : (list : ListBody) (edit : Edit) (next : ListBody) (loose more : ℕ) → IsEdited list edit next → length edit.loose ≡ loose → more + length edit.others ≡ length next.loose → GrewByOne list loose next more
grew_by list edit next loose more is was left =
    let lengths = edited_lengths list edit next is in
    let blocks = lengths.blocks in
    let segments = lengths.segments in
    let all = lengths.all in
    let block = one_at_most edit.block in
    let segment = one_at_most edit.segment in
    record {
      segments = omega (arith, segment, segments);
      blocks = omega (arith, block, blocks);
      files = omega (arith, all, block, segment, was, left);
      text = omega (arith, blocks, segments, all, block, segment, was, left);
    }

-- and the loose files that it names have room
pub loose_within : (list : ListBody) (edit : Edit) (next : ListBody) (loose others jobs room : ℕ) → IsEdited list edit next → length edit.loose ≡ loose → length edit.others ≡ others → others + 2 ≤ 2 * jobs
    → loose + length list.segments + length list.blocks + 2 * jobs ≤ room → length next.loose ≤ room
loose_within list edit next loose others jobs room is was named few fits =
    let lengths = edited_lengths list edit next is in
    let all = lengths.all in
    let block = one_at_most edit.block in
    let segment = one_at_most edit.segment in
    omega (arith, all, block, segment, was, named, few, fits)

fits_less : (room : CommitRoom) (list next : ListBody) (loose more jobs : ℕ) → GrewByOne list loose next more → CommitFits room list loose (1 + jobs) → CommitFits room next more jobs
fits_less room list next loose more jobs grew fits = record {
  blocks = (let a = fits.blocks in let b = grew.blocks in omega (arith, a, b));
  segments = (let a = fits.segments in let b = grew.segments in omega (arith, a, b));
  files = (let a = fits.files in let b = grew.files in omega (arith, a, b));
  text = (let a = fits.text in let b = grew.text in omega (arith, a, b));
}

-- the job that ended, and the one that stays
abbrev pub Stays : {Job : Type 0} → Option Job → Option Job → Type 0
Stays old later = (later ≡ None) ⊎ (later ≡ old)

if_stays : {Job : Type 0} (old later : Option Job) (P Q : Job → Type 0) → Stays old later → ((job : Job) → P job → Q job) → IfSome old P → IfSome later Q
if_stays {Job} old later P Q (inl none) each was = subst (λ (o : Option Job). IfSome o Q) (sym none) tt
if_stays {Job} old later P Q (inr same) each was = subst (λ (o : Option Job). IfSome o Q) (sym same) (by_case old was)
  where
    by_case : (o : Option Job) → IfSome o P → IfSome o Q
    by_case None was = tt
    by_case (Some job) was = each job was

pub commit_room_left : (old later : Jobs) (list next : ListBody) (infos more : Vec InfoParts Global) → open_jobs old ≡ 1 + open_jobs later → Stays old.flush later.flush → Stays old.compaction later.compaction
    → GrewByOne list (vec_len old.loose) next (vec_len later.loose) → vec_len more ≤ vec_len infos + 1 → vec_capacity infos ≤ vec_capacity more
    → HasCommitRoom old list infos → HasCommitRoom later next more
commit_room_left old later list next infos more jobs flush compaction grew few room was = record {
  rooms = record {
    flush = if_stays old.flush later.flush
        (λ (known : OpenFlush). (room : CommitRoom) × (known.room ≡ Some room) × CommitFits room list (vec_len old.loose) (open_jobs old))
        (λ (known : OpenFlush). (room : CommitRoom) × (known.room ≡ Some room) × CommitFits room next (vec_len later.loose) (open_jobs later))
        flush (λ known ready. (ready.0, ready.1, less ready.0 ready.2)) was.rooms.flush;
    compaction = if_stays old.compaction later.compaction
        (λ (known : OpenCompaction). (room : CommitRoom) × (known.room ≡ Some room) × CommitFits room list (vec_len old.loose) (open_jobs old))
        (λ (known : OpenCompaction). (room : CommitRoom) × (known.room ≡ Some room) × CommitFits room next (vec_len later.loose) (open_jobs later))
        compaction (λ known ready. (ready.0, ready.1, less ready.0 ready.2)) was.rooms.compaction;
  };
  infos = λ some. let each = was.infos (omega (arith, jobs)) in omega (arith, each, jobs, few, room);
}
  where
    less : (r : CommitRoom) → CommitFits r list (vec_len old.loose) (open_jobs old) → CommitFits r next (vec_len later.loose) (open_jobs later)
    less r fits = fits_less r list next (vec_len old.loose) (vec_len later.loose) (open_jobs later) grew (subst (λ (n : ℕ). CommitFits r list (vec_len old.loose) n) jobs fits)

pub jobs_left : (old later : Jobs) (list next : ListBody) → open_jobs old ≡ 1 + open_jobs later → GrewByOne list (vec_len old.loose) next (vec_len later.loose) → vec_capacity old.loose ≤ vec_capacity later.loose
    → next.next_file ≤ later.next_file → IfSome later.flush (λ known. IsSpare next known.files.block × IsSpare next known.files.segment) → IfSome later.compaction (λ known. IsSpare next known.file) → Stays old.compaction later.compaction
    → JobsFit old list → JobsFit later next
jobs_left old later list next jobs grew room given flush compaction stays was = record {
  given = given;
  flush = flush;
  compaction = compaction;
  level = if_stays old.compaction later.compaction (λ (known : OpenCompaction). known.level ≤ 63) (λ (known : OpenCompaction). known.level ≤ 63) stays (λ known low. low) was.level;
  room = λ some. let each = was.room (omega (arith, jobs)) in let files = grew.files in omega (arith, each, jobs, files, room);
}
