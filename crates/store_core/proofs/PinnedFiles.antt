-- The loose files that the machine's pins name, and the others, from what a core keeps of its pins.
use Rattle.std.proofs.Common.{◌≡◌, ℕ, ◌+◌, ◌≤◌, ◌==◌, Bool, true, false, not, filter, if◌then◌else◌, List, [], ◌∷◌, Option, length, refl, sym, ◌∙◌, ap, subst, arith}
use Rattle.std.specs.List.{Contains}
use Rattle.store_model.specs.State.{State, Block, Pinned, is_among, block_files, pin_numbers, pinned_blocks, pinned_files, free_files, kept_files}
use Rattle.store_model.specs.Sound.{times, StateIsSound}
use Rattle.store_model.specs.Step.{Machine}
use Rattle.store_model.proofs.Numbers.{times-append, named, among as is_named, equal_itself, all_left, not_named}
use Rattle.store_core.specs.Cores.{HasState}
use Rattle.store_core.specs.NextList.{IsParted}
use Rattle.store_files.specs.Pins.{files_at}
use Rattle.store_core.specs.declared.state.CoreState.{CoreState}
use Rattle.store_core.proofs.HeldFiles.{pinned_within, none_left}
use Rattle.store_core.proofs.InUse.{contained_once, once_contained}

-- ---- lists that a test parts

same_left : (p q : ℕ → Bool) → ((n : ℕ) → p n ≡ q n) → (xs : List ℕ) → filter p xs ≡ filter q xs
same_left p q same [] = refl
same_left p q same (x ∷ xs) =
    ap (λ (t : Bool). if t then x ∷ filter p xs else filter p xs) (same x) ∙ ap (λ (l : List ℕ). if q x then x ∷ l else l) (same_left p q same xs)

few_left : (p : ℕ → Bool) (xs : List ℕ) → length (filter p xs) ≤ length xs
few_left p [] = omega arith
few_left p (x ∷ xs) = by (p x) (few_left p xs)
  where
    by : (t : Bool) → length (filter p xs) ≤ length xs → length (if t then x ∷ filter p xs else filter p xs) ≤ length (x ∷ xs)
    by true less = omega (arith, less)
    by false less = omega (arith, less)

-- each number has all its places in one of the two
parted : (n : ℕ) (p : ℕ → Bool) (xs : List ℕ) → times n (filter p xs) + times n (filter (λ (k : ℕ). not (p k)) xs) ≡ times n xs
parted n p xs = by (p n) refl
  where
    by : (t : Bool) → p n ≡ t → times n (filter p xs) + times n (filter (λ (k : ℕ). not (p k)) xs) ≡ times n xs
    by true e = let all = all_left n p xs e in let none = none_left n (λ (k : ℕ). not (p k)) xs (ap not e) in omega (arith, all, none)
    by false e = let none = none_left n p xs e in let all = all_left n (λ (k : ℕ). not (p k)) xs (ap not e) in omega (arith, all, none)

-- where none is refused all are left
all_pass : (p : ℕ → Bool) (xs : List ℕ) → filter (λ (k : ℕ). not (p k)) xs ≡ [] → filter p xs ≡ xs
all_pass p [] none = refl
all_pass p (x ∷ xs) none = by (p x) none (all_pass p xs)
  where
    by : (t : Bool) → (if not t then x ∷ filter (λ (k : ℕ). not (p k)) xs else filter (λ (k : ℕ). not (p k)) xs) ≡ [] → (filter (λ (k : ℕ). not (p k)) xs ≡ [] → filter p xs ≡ xs)
        → (if t then x ∷ filter p xs else filter p xs) ≡ x ∷ xs
    by true e more = ap (λ (l : List ℕ). x ∷ l) (more e)
    by false e more = absurd cc

same_truth : (a b : Bool) → (a ≡ true → b ≡ true) → (b ≡ true → a ≡ true) → a ≡ b
same_truth true b to from = sym (to refl)
same_truth false false to from = refl
same_truth false true to from = from refl

-- ---- which pin names a file

no_blocks : (n : ℕ) (pins : List Pinned) → times n (pin_numbers pins) ≡ 0 → pinned_blocks n pins ≡ []
no_blocks n [] none = refl
no_blocks n (p ∷ ps) none = by (p.number == n) none (no_blocks n ps)
  where
    by : (t : Bool) → (if t then 1 else 0) + times n (pin_numbers ps) ≡ 0 → (times n (pin_numbers ps) ≡ 0 → pinned_blocks n ps ≡ []) → (if t then p.blocks else pinned_blocks n ps) ≡ []
    by true e more = absurd (omega (arith, e))
    by false e more = more (omega (arith, e))

pinned_where : (file : ℕ) (pins : List Pinned) → ((n : ℕ) → times n (pin_numbers pins) ≤ 1) → 1 ≤ times file (pinned_files pins) → (n : ℕ) × (1 ≤ times file (block_files (pinned_blocks n pins)))
pinned_where file [] once some = absurd (omega (arith, some))
pinned_where file (p ∷ ps) once some = by (is_among file (block_files p.blocks)) refl (λ rest. pinned_where file ps rest_once rest)
  where
    rest_once : (n : ℕ) → times n (pin_numbers ps) ≤ 1
    rest_once n = let both = once n in omega (arith, both)

    later : (n : ℕ) → 1 ≤ times file (block_files (pinned_blocks n ps)) → 1 ≤ times file (block_files (pinned_blocks n (p ∷ ps)))
    later n some = at (p.number == n) refl (once n)
      where
        at : (t : Bool) → (p.number == n) ≡ t → (if t then 1 else 0) + times n (pin_numbers ps) ≤ 1 → 1 ≤ times file (block_files (if t then p.blocks else pinned_blocks n ps))
        at true e most = absurd (let none : times file (block_files (pinned_blocks n ps)) ≡ 0 = ap (λ (bs : List Block). times file (block_files bs)) (no_blocks n ps (omega (arith, most))) in omega (arith, none, some))
        at false e most = some

    by : (t : Bool) → is_among file (block_files p.blocks) ≡ t → (1 ≤ times file (pinned_files ps) → (n : ℕ) × (1 ≤ times file (block_files (pinned_blocks n ps))))
        → (n : ℕ) × (1 ≤ times file (block_files (pinned_blocks n (p ∷ ps))))
    by true e more = (p.number, rw (equal_itself p.number) (named file (block_files p.blocks) e))
    by false e more =
        let joined = times-append file (block_files p.blocks) (pinned_files ps) in
        let none = not_named file (block_files p.blocks) e in
        let rest = more (omega (arith, joined, none, some)) in
        (rest.0, later rest.0 rest.1)

-- ---- what a core parts

module _ (core : CoreState) (m : Machine) (has : HasState core m) (sound : StateIsSound m.state) (kept free : List ℕ) (parts : IsParted core.pins.items core.jobs.loose.items kept free) where
  same_among : (file : ℕ) → is_among file parts.pinned ≡ is_among file (pinned_files m.state.pins)
  same_among file = same_truth (is_among file parts.pinned) (is_among file (pinned_files m.state.pins))
      (λ is.
      let there = parts.only file (once_contained file parts.pinned (named file parts.pinned is)) in
      let some = contained_once file (block_files (pinned_blocks there.0 m.state.pins)) (subst (λ (l : List ℕ). Contains l file) (sym (has.pinned there.0)) there.1) in
      let within = pinned_within file there.0 m.state.pins in
      is_named file (pinned_files m.state.pins) (omega (arith, some, within)))
      (λ is.
      let there = pinned_where file m.state.pins sound.numbers.pins (named file (pinned_files m.state.pins) is) in
      let inside = once_contained file (block_files (pinned_blocks there.0 m.state.pins)) there.1 in
      is_named file parts.pinned (contained_once file parts.pinned (parts.all there.0 file (subst (λ (l : List ℕ). Contains l file) (has.pinned there.0) inside))))

  pub kept_is : kept ≡ kept_files m.state
  kept_is = parts.kept_are ∙ same_left (λ (f : ℕ). is_among f parts.pinned) (λ (f : ℕ). is_among f (pinned_files m.state.pins)) same_among core.jobs.loose.items
      ∙ ap (λ (l : List ℕ). filter (λ (f : ℕ). is_among f (pinned_files m.state.pins)) l) (sym has.loose)

  pub free_is : free ≡ free_files m.state
  free_is = parts.free_are
      ∙ same_left (λ (f : ℕ). not (is_among f parts.pinned)) (λ (f : ℕ). not (is_among f (pinned_files m.state.pins))) (λ f. ap not (same_among f)) core.jobs.loose.items
      ∙ ap (λ (l : List ℕ). filter (λ (f : ℕ). not (is_among f (pinned_files m.state.pins))) l) (sym has.loose)

-- the same where lists are known by other names
pub parted_by : (pins pins' : List (Option (List ℕ))) (pinned pinned' loose loose' kept free : List ℕ) → pins' ≡ pins → pinned' ≡ pinned → loose' ≡ loose
    → ((number file : ℕ) → Contains (files_at number pins') file → Contains pinned file) → ((file : ℕ) → Contains pinned file → (number : ℕ) × Contains (files_at number pins') file)
    → kept ≡ filter (λ file. is_among file pinned') loose' → free ≡ filter (λ file. not (is_among file pinned')) loose' → IsParted pins loose kept free
parted_by pins pins' pinned pinned' loose loose' kept free same_pins same_pinned same_loose all only kept_are free_are = record {
  pinned = pinned;
  all = λ number file c. all number file (subst (λ (p : List (Option (List ℕ))). Contains (files_at number p) file) (sym same_pins) c);
  only = λ file c. let there = only file c in (there.0, subst (λ (p : List (Option (List ℕ))). Contains (files_at there.0 p) file) same_pins there.1);
  kept_are = kept_are ∙ ap (λ (l : List ℕ). filter (λ (f : ℕ). is_among f pinned') l) same_loose ∙ ap (λ (p : List ℕ). filter (λ (f : ℕ). is_among f p) loose) same_pinned;
  free_are = free_are ∙ ap (λ (l : List ℕ). filter (λ (f : ℕ). not (is_among f pinned')) l) same_loose ∙ ap (λ (p : List ℕ). filter (λ (f : ℕ). not (is_among f p)) loose) same_pinned;
}

pub parted_as : (pins : List (Option (List ℕ))) (loose kept kept' free free' : List ℕ) → kept' ≡ kept → free' ≡ free → IsParted pins loose kept free → IsParted pins loose kept' free'
parted_as pins loose kept kept' free free' same_kept same_free parts =
    subst (λ (k : List ℕ). IsParted pins loose k free') (sym same_kept) (subst (λ (f : List ℕ). IsParted pins loose kept f) (sym same_free) parts)

-- no more are kept than are loose
pub few_kept : (pins : List (Option (List ℕ))) (loose kept free : List ℕ) → IsParted pins loose kept free → length kept ≤ length loose
few_kept pins loose kept free parts =
    let less = few_left (λ (f : ℕ). is_among f parts.pinned) loose in let same = ap (λ (l : List ℕ). length l) parts.kept_are in omega (arith, less, same)

pub uses_parted : (file : ℕ) (u : State) → times file (kept_files u) + times file (free_files u) ≡ times file u.loose
uses_parted file u = parted file (λ (f : ℕ). is_among f (pinned_files u.pins)) u.loose

-- with none to empty all are kept
pub all_kept : (u : State) → free_files u ≡ [] → kept_files u ≡ u.loose
all_kept u none = all_pass (λ (f : ℕ). is_among f (pinned_files u.pins)) u.loose none
