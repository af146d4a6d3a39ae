-- The files that a list names, and those that were given out since, stay in use.
use Rattle.std.proofs.Common.{◌≡◌, ◌⊎◌, inl, inr, ℕ, ◌+◌, ◌<◌, ◌≤◌, ◌==◌, nat_le, Bool, true, false, List, [], ◌∷◌, Some, None, Option, if◌then◌else◌, refl, sym, ◌∙◌, ap, subst, arith}
use Rattle.std.specs.List.{Contains}
use Rattle.std.proofs.lemmas.Bool.{cases_eq, cases_lt}
use Rattle.span_types.specs.declared.spans.Row.{Row}
use Rattle.block_list.specs.Body.{files_of}
use Rattle.block_list.specs.declared.body.ListBody.{ListBody}
use Rattle.store_model.specs.State.{State, Block, Segment, Flush, Compaction, block_files, segment_files, flush_files, compaction_files}
use Rattle.store_model.specs.After.{after_begin_flush, after_begin_compact, after_commit_flush, after_drop_flush, after_drop_compact, staying, released, floor_after, with_segment}
use Rattle.store_model.specs.Sound.{times, uses}
use Rattle.store_model.proofs.Numbers.{times-append, map_append, times_itself, times_pair, same_number}
use Rattle.store_images.proofs.Lists.{not_in_nil, in_cons, at_front, behind}
use Rattle.store_core.specs.InUse.{AreInUse}
use Rattle.store_core.proofs.NextLists.{NamesState, uses_are}

-- ---- a list and how often it names a number

pub contained_once : (n : ℕ) (xs : List ℕ) → Contains xs n → 1 ≤ times n xs
contained_once n [] c = absurd (not_in_nil n c)
contained_once n (x ∷ xs) c = elim (in_cons n x xs c) [
  | inl is ↦ (let joined = times-append n (x ∷ []) xs in let one : times n (x ∷ []) ≡ 1 = subst (λ (k : ℕ). times n (k ∷ []) ≡ 1) (sym is) (times_itself n) in omega (arith, joined, one))
  | inr there ↦ (let joined = times-append n (x ∷ []) xs in let more = contained_once n xs there in omega (arith, joined, more))
]

pub once_contained : (n : ℕ) (xs : List ℕ) → 1 ≤ times n xs → Contains xs n
once_contained n [] some = absurd (omega (arith, some))
once_contained n (x ∷ xs) some = by_test (x == n) refl (λ more. once_contained n xs more)
  where
    by_test : (t : Bool) → (x == n) ≡ t → (1 ≤ times n xs → Contains xs n) → Contains (x ∷ xs) n
    by_test true e there = subst (λ (k : ℕ). Contains (x ∷ xs) k) (same_number x n e) (at_front x xs)
    by_test false e there = behind n x xs (there (let is : times n (x ∷ xs) ≡ times n xs = rw e (omega arith) in omega (arith, is, some)))

-- ---- events

-- no use ends, and no file is given out
used_still : (list : ListBody) (u u' : State) → u'.next_file ≡ u.next_file → ((f : ℕ) → uses f u ≤ uses f u') → AreInUse list u → AreInUse list u'
used_still list u u' next more was = λ file given.
    let old = was file (elim given [ inl c ↦ inl c | inr r ↦ inr (r.0, (let under = r.1 in omega (arith, under, next))) ]) in
    let rises = more file in
    omega (arith, old, rises)

one_of_two : (n x : ℕ) → x ≤ n → n < x + 2 → 1 ≤ times n (x ∷ (x + 1) ∷ [])
one_of_two n x low high = elim (cases_eq n x) [
  | inl is ↦ (let pair = times_pair n x (x + 1) in let one : times n (x ∷ []) ≡ 1 = subst (λ (k : ℕ). times n (k ∷ []) ≡ 1) is (times_itself n) in omega (arith, pair, one))
  | inr other ↦ (let pair = times_pair n x (x + 1) in let is : n ≡ x + 1 = omega (arith, low, high, other) in
      let one : times n ((x + 1) ∷ []) ≡ 1 = subst (λ (k : ℕ). times n (k ∷ []) ≡ 1) is (times_itself n) in omega (arith, pair, one))
]

pub used_begun : (list : ListBody) (u : State) → u.flush ≡ None → AreInUse list u → AreInUse list (after_begin_flush u)
used_begun list u none was = λ file given. elim given [
  | inl c ↦ (let old = was file (inl c) in let empty = nothing file in omega (arith, old, empty))
  | inr r ↦ elim (cases_lt file u.next_file) [
    | inl under ↦ (let old = was file (inr (r.0, under)) in let empty = nothing file in omega (arith, old, empty))
    | inr over ↦ (let one = one_of_two file u.next_file over r.1 in omega (arith, one))
  ]
]
  where
    nothing : (f : ℕ) → times f (flush_files u.flush) ≡ 0
    nothing f = ap (λ (o : Option Flush). times f (flush_files o)) none

pub used_dropped : (list : ListBody) (u : State) (job : Flush) → u.flush ≡ Some job → AreInUse list u → AreInUse list (after_drop_flush job u)
used_dropped list u job here = used_still list u (after_drop_flush job u) refl
    (λ f. let more = times-append f u.loose (job.file ∷ job.segment ∷ []) in let own : times f (flush_files u.flush) ≡ times f (job.file ∷ job.segment ∷ []) = ap (λ (o : Option Flush). times f (flush_files o)) here in omega (arith, more, own))

-- a compaction that begins takes the next file
pub used_begun_compact : (list : ListBody) (u : State) (pin : ℕ) → u.compaction ≡ None → AreInUse list u → AreInUse list (after_begin_compact pin u)
used_begun_compact list u pin none was = λ file given. elim given [
  | inl c ↦ (let old = was file (inl c) in let empty = nothing file in omega (arith, old, empty))
  | inr r ↦ elim (cases_lt file u.next_file) [
    | inl under ↦ (let old = was file (inr (r.0, under)) in let empty = nothing file in omega (arith, old, empty))
    | inr over ↦ (let high = r.1 in let is : file ≡ u.next_file = omega (arith, over, high) in
        let one : times file (u.next_file ∷ []) ≡ 1 = subst (λ (k : ℕ). times file (k ∷ []) ≡ 1) is (times_itself file) in omega (arith, one))
  ]
]
  where
    nothing : (f : ℕ) → times f (compaction_files u.compaction) ≡ 0
    nothing f = ap (λ (o : Option Compaction). times f (compaction_files o)) none

pub used_dropped_compact : (list : ListBody) (u : State) (job : Compaction) → u.compaction ≡ Some job → AreInUse list u → AreInUse list (after_drop_compact job u)
used_dropped_compact list u job here = used_still list u (after_drop_compact job u) refl
    (λ f. let more = times-append f u.loose (job.file ∷ []) in let own : times f (compaction_files u.compaction) ≡ times f (job.file ∷ []) = ap (λ (o : Option Compaction). times f (compaction_files o)) here in omega (arith, more, own))

-- a committed list names what is in use
pub used_listed : (list : ListBody) (u : State) → NamesState list u → AreInUse list u
used_listed list u names = λ file given. elim given [
  | inl c ↦ (let one = contained_once file (files_of list) c in let same = uses_are list u names file in omega (arith, one, same))
  | inr r ↦ absurd (let is = names.next_file in let low = r.0 in let high = r.1 in omega (arith, is, low, high))
]

-- ---- a flush's commit

parted : (f floor : ℕ) (segments : List Segment) → times f (segment_files (staying floor segments)) + times f (released floor segments) ≡ times f (segment_files segments)
parted f floor [] = refl
parted f floor (a ∷ []) = omega arith
parted f floor (a ∷ b ∷ rest) = by_test (nat_le b.first floor) (parted f floor (b ∷ rest))
  where
    by_test : (t : Bool) → times f (segment_files (staying floor (b ∷ rest))) + times f (released floor (b ∷ rest)) ≡ times f (segment_files (b ∷ rest)) →
        times f (segment_files (if t then staying floor (b ∷ rest) else a ∷ staying floor (b ∷ rest))) + times f (if t then a.file ∷ released floor (b ∷ rest) else released floor (b ∷ rest)) ≡ times f (segment_files (a ∷ b ∷ rest))
    by_test true ih = omega (arith, ih)
    by_test false ih = omega (arith, ih)

uses_committed : (u : State) (count : ℕ) (job : Flush) (size : ℕ) (firsts : List Row) → u.flush ≡ Some job → (f : ℕ) → uses f u ≤ uses f (after_commit_flush count job size firsts u)
uses_committed u count job size firsts here f =
    let block : Block = record { file = job.file; level = 0; size = size; rows = firsts } in
    let last : Segment = record { file = job.segment; first = count } in
    let blocks = ap (times f) (map_append (λ (b : Block). b.file) u.blocks (block ∷ [])) ∙ times-append f (block_files u.blocks) (job.file ∷ []) in
    let all = ap (times f) (map_append (λ (x : Segment). x.file) u.segments (last ∷ [])) ∙ times-append f (segment_files u.segments) (job.segment ∷ []) in
    let split = parted f (floor_after count u) (with_segment count job u) in
    let loose = times-append f u.loose (released (floor_after count u) (with_segment count job u)) in
    let own : times f (flush_files u.flush) ≡ times f (job.file ∷ []) + times f (job.segment ∷ []) = ap (λ (o : Option Flush). times f (flush_files o)) here ∙ times_pair f job.file job.segment in
    omega (arith, blocks, all, split, loose, own)

-- the list that is committed names each file that the old one named, and each one that was given out since
pub all_named : (body new : ListBody) (u : State) (count : ℕ) (job : Flush) (size : ℕ) (firsts : List Row) → u.flush ≡ Some job → AreInUse body u → NamesState new (after_commit_flush count job size firsts u)
    → (file : ℕ) → Contains (files_of body) file ⊎ ((body.next_file ≤ file) × (file < new.next_file)) → Contains (files_of new) file
all_named body new u count job size firsts here was names file given =
    let next = names.next_file in
    let old = was file (elim given [ inl c ↦ inl c | inr r ↦ inr (r.0, (let under = r.1 in omega (arith, under, next))) ]) in
    let rises = uses_committed u count job size firsts here file in
    let same = uses_are new (after_commit_flush count job size firsts u) names file in
    once_contained file (files_of new) (omega (arith, old, rises, same))
