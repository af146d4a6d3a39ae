-- The memory of a core whose loose files were emptied, but for those that pins name.
use Rattle.std.proofs.Common.{◌≡◌, ◌⊎◌, inl, inr, ℕ, ◌<◌, ◌≤◌, List, [], ◌∷◌, ◌++◌, length, None, Some, Option, IfSome, refl, sym, ◌∙◌, ap, subst, arith, append_assoc}
use Rattle.std.specs.Prelude.{Vec}
use Rattle.std.specs.Vec.{vec_len, vec_capacity}
use Rattle.std.specs.declared.alloc.Global.{Global}
use Rattle.std.specs.List.{Contains}
use Rattle.std.proofs.lemmas.Bool.{cases_eq}
use Rattle.std.proofs.lemmas.List.{append-nil}
use Rattle.std.proofs.lemmas.List.Elements.{Contains-append_left, Contains-append_right}
use Rattle.block_list.specs.Body.{MeetsRules, files_of, successor}
use Rattle.block_list.specs.declared.body.BlockRef.{BlockRef}
use Rattle.block_list.specs.declared.body.SegmentRef.{SegmentRef}
use Rattle.block_list.specs.declared.body.ListBody.{ListBody}
use Rattle.store_model.specs.State.{State, flush_files, compaction_files, free_files, kept_files}
use Rattle.store_model.specs.Sound.{times, StateIsSound}
use Rattle.store_model.specs.Step.{Machine, Step, early, with_state}
use Rattle.store_model.specs.Step.Step.{Succeeds}
use Rattle.store_model.specs.Event.Event.{Reclaim}
use Rattle.store_model.specs.Event.Reply.{Count}
use Rattle.store_model.proofs.KeepsSound.{step_keeps as keeps_sound}
use Rattle.store_state.specs.Edited.{IsEdited}
use Rattle.store_state.specs.Parted.{outside}
use Rattle.store_state.proofs.Listings.{inside_none, outside_none}
use Rattle.store_images.proofs.Lists.{at_front, behind}
use Rattle.store_core.specs.Cores.{HasState}
use Rattle.store_core.specs.Jobs.{JobsFit, CommitFits, HasCommitRoom, files_of_flush, files_of_compaction, open_jobs}
use Rattle.store_files.specs.Loose.{IsSpare, next_with}
use Rattle.store_core.specs.NextList.{IsParted, kept_edit}
use Rattle.store_core.specs.declared.jobs.Jobs.{Jobs}
use Rattle.store_core.specs.declared.jobs.OpenFlush.{OpenFlush}
use Rattle.store_core.specs.declared.jobs.OpenCompaction.{OpenCompaction}
use Rattle.store_core.specs.declared.room.CommitRoom.{CommitRoom}
use Rattle.store_core.specs.declared.state.CoreState.{CoreState}
use Rattle.store_core.proofs.InUse.{used_listed, once_contained}
use Rattle.store_core.proofs.NextLists.{NamesState, uses_are, files_fit, files_once}
use Rattle.store_core.proofs.RoomLeft.{compaction_shown, flush_shown, spare_compaction}
use Rattle.store_core.proofs.PinnedFiles.{kept_is, free_is, few_kept, uses_parted}

abbrev pub emptied_state : State → State
emptied_state u = record u { loose = kept_files u }

-- ---- the list that a reclaim commits

abbrev pub list_kept : ListBody → Jobs → List ℕ → ListBody
list_kept list jobs kept = next_with list jobs.next_file ((kept ++ files_of_flush jobs.flush) ++ files_of_compaction jobs.compaction)

-- an edit by which neither a block nor a segment comes or goes makes it
pub kept_list : (list : ListBody) (jobs : Jobs) (kept : List ℕ) (next : ListBody) → IsEdited list (kept_edit jobs kept) next → next ≡ list_kept list jobs kept
kept_list list jobs kept next is =
    ap (λ (n : ℕ). record next { generation = n }) is.generation
    ∙ ap (λ (n : ℕ). record next { generation = successor list.generation; next_file = n }) is.its_next_file
    ∙ ap (λ (n : ℕ). record next { generation = successor list.generation; next_file = jobs.next_file; floor = n }) is.its_floor
    ∙ ap (λ (l : List SegmentRef). record next { generation = successor list.generation; next_file = jobs.next_file; floor = list.floor; segments = l }) is.segments
    ∙ ap (λ (l : List BlockRef). record list { generation = successor list.generation; next_file = jobs.next_file; blocks = l; loose = next.loose }) blocks
    ∙ ap (λ (l : List ℕ). record list { generation = successor list.generation; next_file = jobs.next_file; loose = l }) loose
  where
    flush : List ℕ
    flush = files_of_flush jobs.flush

    compaction : List ℕ
    compaction = files_of_compaction jobs.compaction

    blocks : next.blocks ≡ list.blocks
    blocks = is.blocks ∙ append-nil (outside [] list.blocks) ∙ outside_none list.blocks

    loose : next.loose ≡ (kept ++ flush) ++ compaction
    loose = is.its_loose ∙ ap (λ (l : List ℕ). ((kept ++ l) ++ []) ++ (flush ++ compaction)) (inside_none list.blocks) ∙ ap (λ (l : List ℕ). l ++ (flush ++ compaction)) (append-nil (kept ++ []) ∙ append-nil kept)
        ∙ sym (append_assoc kept flush compaction)

-- by what was read of the jobs
pub as_kept : (list : ListBody) (jobs : Jobs) (kept flush compaction : List ℕ) (next : ListBody) → flush ≡ files_of_flush jobs.flush → compaction ≡ files_of_compaction jobs.compaction
    → IsEdited list (record { next_file = jobs.next_file; loose = kept; joined = []; block = None; segment = None; others = flush ++ compaction }) next → IsEdited list (kept_edit jobs kept) next
as_kept list jobs kept flush compaction next its_files its_file is =
    subst (λ (l : List ℕ). IsEdited list (record { next_file = jobs.next_file; loose = kept; joined = []; block = None; segment = None; others = l }) next)
    (ap (λ (l : List ℕ). l ++ compaction) its_files ∙ ap (λ (l : List ℕ). files_of_flush jobs.flush ++ l) its_file) is

-- ---- the files of open jobs

-- a list that names them as loose
spare_flush : (list : ListBody) (front after : List ℕ) (known : Option OpenFlush) → list.loose ≡ (front ++ files_of_flush known) ++ after
    → IfSome known (λ mine. IsSpare list mine.files.block × IsSpare list mine.files.segment)
spare_flush list front after None named = tt
spare_flush list front after (Some mine) named =
    let files : List ℕ = mine.files.block ∷ mine.files.segment ∷ [] in
    let there : (f : ℕ) → Contains files f → Contains list.loose f =
    λ f c. subst (λ (l : List ℕ). Contains l f) (sym named) (Contains-append_left (front ++ files) after f (Contains-append_right front files f c)) in (
      inr (there mine.files.block (at_front mine.files.block (mine.files.segment ∷ []))),
      inr (there mine.files.segment (behind mine.files.segment mine.files.block (mine.files.segment ∷ []) (at_front mine.files.segment []))),
    )

-- ---- room for commits while fewer files are loose

module _ (list next : ListBody) (blocks : next.blocks ≡ list.blocks) (segments : next.segments ≡ list.segments) (loose fewer count : ℕ) (less : fewer ≤ loose) where
  fits_next : (room : CommitRoom) → CommitFits room list loose count → CommitFits room next fewer count
  fits_next room fits =
      let b : length next.blocks ≡ length list.blocks = ap (λ l. length l) blocks in
      let s : length next.segments ≡ length list.segments = ap (λ l. length l) segments in
      record {
        blocks = (let f = fits.blocks in omega (arith, f, b));
        segments = (let f = fits.segments in omega (arith, f, s));
        files = (let f = fits.files in omega (arith, f, b, s, less));
        text = (let f = fits.text in omega (arith, f, b, s, less));
      }

  flush_next : (known : Option OpenFlush) → IfSome known (λ mine. (room : CommitRoom) × (mine.room ≡ Some room) × CommitFits room list loose count)
      → IfSome known (λ mine. (room : CommitRoom) × (mine.room ≡ Some room) × CommitFits room next fewer count)
  flush_next None was = tt
  flush_next (Some mine) was = (was.0, was.1, fits_next was.0 was.2)

  compaction_next : (known : Option OpenCompaction) → IfSome known (λ mine. (room : CommitRoom) × (mine.room ≡ Some room) × CommitFits room list loose count)
      → IfSome known (λ mine. (room : CommitRoom) × (mine.room ≡ Some room) × CommitFits room next fewer count)
  compaction_next None was = tt
  compaction_next (Some mine) was = (was.0, was.1, fits_next was.0 was.2)

-- ---- the next list

module _ (core : CoreState) (m : Machine) (has : HasState core m) (sound : StateIsSound m.state) (kept free : List ℕ) (parts : IsParted core.pins.items core.jobs.loose.items kept free) where
  abbrev pub u' : State
  u' = emptied_state m.state

  abbrev pub next : ListBody
  next = list_kept core.list core.jobs kept

  pub step_emptied : (before faults : ℕ) → early m Reclaim ≡ None → Step before faults m Reclaim (Count (length (free_files m.state))) (with_state u' m)
  step_emptied before faults writes = Succeeds writes (refl, refl)

  pub sound_emptied : early m Reclaim ≡ None → StateIsSound u'
  sound_emptied writes = keeps_sound 0 0 m (with_state u' m) Reclaim (Count (length (free_files m.state))) sound (step_emptied 0 0 writes)

  pub names_emptied : NamesState next u'
  names_emptied = record {
    blocks = sym has.blocks;
    segments = has.segments;
    floor = has.floor;
    loose = ap (λ (l : List ℕ). (l ++ flush_files m.state.flush) ++ compaction_files m.state.compaction) (sym (kept_is core m has sound kept free parts))
        ∙ ap (λ (l : List ℕ). (kept ++ l) ++ compaction_files m.state.compaction) (flush_shown core.jobs.flush m.state.flush has.flush)
        ∙ ap (λ (l : List ℕ). (kept ++ files_of_flush core.jobs.flush) ++ l) (compaction_shown core.jobs.compaction m.state.compaction has.compaction);
    next_file = has.next_file;
  }

  pub rules_emptied : early m Reclaim ≡ None → MeetsRules next
  rules_emptied writes = record {
    generation = omega arith;
    next_file = (let same = names_emptied.next_file in let fits = (sound_emptied writes).fits.files in omega (arith, same, fits));
    some_segment = has.rules.some_segment;
    files = files_fit next u' names_emptied (sound_emptied writes);
    once = files_once next u' names_emptied (sound_emptied writes);
    order = has.rules.order;
    firsts = has.rules.firsts;
    from_floor = has.rules.from_floor;
    to_floor = has.rules.to_floor;
    levels = has.rules.levels;
    rows = has.rules.rows;
  }

  -- each file that the list names, and each one that was given out since, is named by the next one or is emptied
  pub named_or_emptied : (file : ℕ) → Contains (files_of core.list) file ⊎ ((core.list.next_file ≤ file) × (file < core.jobs.next_file)) → Contains (files_of next) file ⊎ Contains free file
  named_or_emptied file given =
      let used = has.used file (elim given [ inl c ↦ inl c | inr r ↦ inr (r.0, (let under = r.1 in let is = has.next_file in omega (arith, under, is))) ]) in
      let same = uses_are next u' names_emptied file in
      let both = uses_parted file m.state in
      elim (cases_eq (times file (free_files m.state)) 0) [
        | inl none ↦ inl (once_contained file (files_of next) (omega (arith, used, same, both, none)))
        | inr some ↦ inr (subst (λ (l : List ℕ). Contains l file) (sym (free_is core m has sound kept free parts)) (once_contained file (free_files m.state) (omega (arith, some))))
      ]

  -- ---- the memory that took over the list

  module _ (writes : core.read_only ≡ None) (loose : Vec ℕ Global) (its : loose.items ≡ kept) (room : vec_capacity core.jobs.loose ≤ vec_capacity loose) where
    abbrev pub jobs' : Jobs
    jobs' = record core.jobs { loose = loose }

    fewer : vec_len loose ≤ vec_len core.jobs.loose
    fewer =
        let mine : vec_len loose ≡ length loose.items = loose.ok.0 in
        let was : vec_len core.jobs.loose ≡ length core.jobs.loose.items = core.jobs.loose.ok.0 in
        let same : length loose.items ≡ length kept = ap (λ (l : List ℕ). length l) its in
        let less = few_kept core.pins.items core.jobs.loose.items kept free parts in
        omega (arith, mine, was, same, less)

    fit_emptied : JobsFit jobs' next
    fit_emptied = record {
      given = omega arith;
      flush = spare_flush next kept (files_of_compaction core.jobs.compaction) core.jobs.flush refl;
      compaction = spare_compaction core.jobs.compaction next (kept ++ files_of_flush core.jobs.flush) refl;
      level = has.jobs.level;
      room = λ some. let old = has.jobs.room some in omega (arith, old, fewer, room);
    }

    commit_emptied : HasCommitRoom jobs' next core.infos
    commit_emptied =
        let old = has.commit writes in
        record {
          rooms = record {
            flush = flush_next core.list next refl refl (vec_len core.jobs.loose) (vec_len loose) (open_jobs core.jobs) fewer core.jobs.flush old.rooms.flush;
            compaction = compaction_next core.list next refl refl (vec_len core.jobs.loose) (vec_len loose) (open_jobs core.jobs) fewer core.jobs.compaction old.rooms.compaction;
          };
          infos = old.infos;
        }

    pub has_emptied : early m Reclaim ≡ None → HasState (record core { list = next; jobs = jobs' }) (with_state u' m)
    has_emptied going = record {
      count = has.count;
      few = has.few;
      live = has.live;
      head = has.head;
      flushing = has.flushing;
      flush = has.flush;
      compaction = has.compaction;
      blocks = has.blocks;
      infos = has.infos;
      listed = has.listed;
      commit = λ still. commit_emptied;
      rules = rules_emptied going;
      segments = has.segments;
      last = has.last;
      floor = has.floor;
      loose = sym (kept_is core m has sound kept free parts) ∙ sym its;
      next_file = has.next_file;
      begun = has.begun;
      jobs = fit_emptied;
      used = used_listed next u' names_emptied;
      pins = has.pins;
      pinned = has.pinned;
      read_only = has.read_only;
    }
