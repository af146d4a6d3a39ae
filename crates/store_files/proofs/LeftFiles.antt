-- What jobs left is emptied: what is stored is kept, and how far the files are empty then.
use Rattle.std.proofs.Common.{◌≡◌, inl, inr, ℕ, ◌+◌, ◌<◌, ◌≤◌, List, [], ◌∷◌, length, sym, ◌∙◌, subst, arith}
use Rattle.std.specs.List.{Contains}
use Rattle.std.proofs.lemmas.Bool.{cases_eq, cases_lt}
use Rattle.std.proofs.lemmas.List.Elements.{Contains-append_left}
use Rattle.disk_model.specs.Images.{Image, bytes_of, OnFile}
use Rattle.disk_model.specs.Crash.{OnlyBytes, Within, Reached}
use Rattle.block_list.specs.Body.{MeetsRules}
use Rattle.block_list.specs.Commit.{WritesSlot}
use Rattle.block_list.specs.declared.body.SegmentRef.{SegmentRef}
use Rattle.block_list.specs.declared.body.ListBody.{ListBody}
use Rattle.store_images.proofs.Lists.{at_front, in_cons, not_in_nil}
use Rattle.store_images.proofs.Keeping.{given_out}
use Rattle.store_files.specs.Loose.{IsSpare, used_files, AreUnused, OthersStay, IsReached, AreFreed}
use Rattle.store_files.proofs.LooseFiles.{segment_used}

-- a file from the list's next one on is none of its segments and blocks
pub beyond_unused : (body : ListBody) → MeetsRules body → (file : ℕ) → 2 ≤ file → body.next_file ≤ file → AreUnused body (file ∷ [])
beyond_unused body rules file low beyond other c = elim (in_cons other file [] c) [
  | inl is ↦ (
    subst (λ (n : ℕ). 2 ≤ n) is low,
    λ used. let given = (given_out body other rules (Contains-append_left (used_files body) body.loose other used)).1 in omega (arith, given, is, beyond),
  )
  | inr none ↦ absurd (not_in_nil other none)
]

-- what is used is neither loose nor from the next file on
pub used_not_spare : (body : ListBody) → MeetsRules body → (file : ℕ) → Contains (used_files body) file → (Contains body.loose file → ⊥) → IsSpare body file → ⊥
used_not_spare body rules file used apart spare = elim spare [
  | inl beyond ↦ let given = (given_out body file rules (Contains-append_left (used_files body) body.loose file used)).1 in absurd (omega (arith, given, beyond))
  | inr loose ↦ apart loose
]

-- ---- one more file is emptied

pub freed_more : (file : ℕ) (step : List ℕ → List ℕ → Type 0) (between after : Image → Type 0) (other : ℕ) → (file + 1 ≤ other → OnlyBytes other [] between)
    → Within (Reached (OnFile file step) between) after → OnlyBytes file [] after → file ≤ other → OnlyBytes other [] after
freed_more file step between after other early follows here above = elim (cases_eq other file) [
  | inl is ↦ subst (λ (f : ℕ). OnlyBytes f [] after) (sym is) here
  | inr apart ↦ λ image left. let r = follows image left in r.2.besides other apart ∙ early (omega (arith, above, apart)) r.0 r.1
]

-- ---- how far

-- the files from there on are those that are reached, where the images of the disk that was looked at are empty in a gap at the end
pub freed_up_to : (held : Image) (first end : ℕ) (after : Image → Type 0) → first ≤ end → ((file : ℕ) → end ≤ file → file < end + 8 → file < 4294967295 → bytes_of held file ≡ [])
    → ((file : ℕ) → first ≤ file → file < end + 8 → file < 4294967295 → OnlyBytes file [] after) → AreFreed held first after
freed_up_to held first end after from empty freed file reached = elim (cases_lt file (end + 8)) [
  | inl below ↦ freed file reached.from below reached.given
  | inr above ↦ absurd (reached.no_gap end from above (λ other low high. empty other low high (let given = reached.given in omega (arith, high, above, given))))
]

pub reached_same : (a b : Image) (first file : ℕ) → ((other : ℕ) → first ≤ other → bytes_of b other ≡ bytes_of a other) → IsReached a first file → IsReached b first file
reached_same a b first file same reached = record {
  from = reached.from;
  given = reached.given;
  no_gap = λ start low high gap. reached.no_gap start low high (λ other above below. sym (same other (omega (arith, low, above))) ∙ gap other above below);
}

pub freed_same : (a b : Image) (first : ℕ) (after : Image → Type 0) → ((file : ℕ) → first ≤ file → bytes_of b file ≡ bytes_of a file) → AreFreed b first after → AreFreed a first after
freed_same a b first after same freed file reached = freed file (reached_same a b first file same reached)

-- a list is committed, which changes a slot alone
pub freed_committed : (held : Image) (first slot : ℕ) (P : Image → Type 0) (between after : Image → Type 0) → slot < 2 → 2 ≤ first → Within (Reached (WritesSlot slot P) between) after → AreFreed held first between
    → AreFreed held first after
freed_committed held first slot P between after below least follows freed file reached image left =
    let r = follows image left in r.2.besides file (λ is. let above = reached.from in omega (arith, is, below, least, above)) ∙ freed file reached r.0 r.1

-- the next file isn't a slot
pub next_low : (body : ListBody) → MeetsRules body → 2 ≤ body.next_file
next_low body rules = some_below body.segments rules.some_segment (λ x c. given_out body x.file rules (Contains-append_left (used_files body) body.loose x.file (segment_used body x c)))
  where
    some_below : (segments : List SegmentRef) → 0 < length segments → ((x : SegmentRef) → Contains segments x → (2 ≤ x.file) × (x.file < body.next_file)) → 2 ≤ body.next_file
    some_below [] some each = absurd (omega (arith, some))
    some_below (x ∷ xs) some each = let first = each x (at_front x xs) in omega (arith, first.0, first.1)

-- ---- the other files

pub others_untouched : (changes : ℕ → Type 0) (held later : Image) (before after : Image → Type 0) → ((file : ℕ) → bytes_of later file ≡ bytes_of held file) → Within before after
    → OthersStay changes held later before after
others_untouched changes held later before after same within = record {
  still = λ file low apart. same file;
  images = λ file known low apart only image left. only image (within image left);
}

pub others_wider : (some all : ℕ → Type 0) (held later : Image) (before after : Image → Type 0) → ((file : ℕ) → some file → all file) → OthersStay some held later before after
    → OthersStay all held later before after
others_wider some all held later before after wider stay = record {
  still = λ file low apart. stay.still file low (λ is. apart (wider file is));
  images = λ file known low apart. stay.images file known low (λ is. apart (wider file is));
}

pub others_then : (changes : ℕ → Type 0) (held mid later : Image) (before between after : Image → Type 0) → OthersStay changes held mid before between → OthersStay changes mid later between after
    → OthersStay changes held later before after
others_then changes held mid later before between after one two = record {
  still = λ file low apart. two.still file low apart ∙ one.still file low apart;
  images = λ file known low apart only. two.images file known low apart (one.images file known low apart only);
}
